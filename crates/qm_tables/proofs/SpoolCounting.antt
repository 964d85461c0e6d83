-- How the counts follow the entries.
use Rattle.std.proofs.Common.{◌≡◌, ◌∙◌, ℕ, suc, ◌+◌, ◌-◌, ◌<◌, ◌==◌, Bool, true, false, cond, if◌then◌else◌, List, [], ◌∷◌, ◌++◌, map, get_or, Some, None, refl, sym, ap, arith, All, count_by, find, option_to_list, nat_cmp, Less, Equal, eqb-true}
use Rattle.std.specs.Cmp.{nat_cmp_total, tied_itself}
use Rattle.std.proofs.lemmas.List.Sums.{sum_by-append, sum_by-cons}
use Rattle.std.proofs.lemmas.List.Elements.{All-tail}
use Rattle.qm_model.specs.Common.{FileName, Entry, IsInOrder, same_file_name, entry_numbered, with_entry}
use Rattle.qm_tables.specs.Spool.{Counted, count_of}
use Rattle.qm_tables.specs.SpoolCounts.{CountsOf, IsCountedAs}
use Rattle.qm_tables.proofs.FileNames.{same_name}
use Rattle.qm_tables.proofs.NamedRows.{itself}

abbrev pub names_it : FileName → Entry → Bool
names_it name e = same_file_name e.file name

abbrev pub naming : FileName → List Entry → ℕ
naming name entries = count_by (names_it name) entries

abbrev one_if : Bool → ℕ
one_if b = cond b 1 0

naming_cons : (n : FileName) (e : Entry) (entries : List Entry) → naming n (e ∷ entries) ≡ one_if (names_it n e) + naming n entries
naming_cons n e entries = sum_by-cons (λ (x : Entry). one_if (names_it n x)) e entries

naming_append : (n : FileName) (xs ys : List Entry) → naming n (xs ++ ys) ≡ naming n xs + naming n ys
naming_append n xs ys = sum_by-append (λ (x : Entry). one_if (names_it n x)) xs ys

module _ (old new : List Counted) (e : Entry) where
  -- one entry more, wherever it stands
  pub counts_entered : (xs ys : List Entry) → CountsOf (xs ++ ys) old → IsCountedAs e.file (count_of e.file old + 1) old new → CountsOf (xs ++ e ∷ ys) new
  counts_entered xs ys of changed = λ n. step n (same_file_name e.file n) refl (changed n)
    where
      step : (n : FileName) (b : Bool) → same_file_name e.file n ≡ b → count_of n new ≡ (if same_file_name e.file n then count_of e.file old + 1 else count_of n old) → count_of n new ≡ naming n (xs ++ e ∷ ys)
      step n true is at =
          let one : one_if (names_it n e) ≡ 1 = ap one_if is in
          let here : count_of n new ≡ count_of e.file old + 1 = at ∙ ap (λ (b : Bool). if b then count_of e.file old + 1 else count_of n old) is in
          let was : count_of e.file old ≡ count_of n old = ap (λ (m : FileName). count_of m old) (same_name e.file n is) in
          omega (arith, here, was, of n, naming_append n xs ys, naming_append n xs (e ∷ ys), naming_cons n e ys, one)
      step n false is at =
          let none : one_if (names_it n e) ≡ 0 = ap one_if is in
          let here : count_of n new ≡ count_of n old = at ∙ ap (λ (b : Bool). if b then count_of e.file old + 1 else count_of n old) is in
          omega (arith, here, of n, naming_append n xs ys, naming_append n xs (e ∷ ys), naming_cons n e ys, none)

  -- one entry less, wherever it stood
  pub counts_left : (xs ys : List Entry) → CountsOf (xs ++ e ∷ ys) old → IsCountedAs e.file (count_of e.file old - 1) old new → CountsOf (xs ++ ys) new
  counts_left xs ys of changed = λ n. step n (same_file_name e.file n) refl (changed n)
    where
      step : (n : FileName) (b : Bool) → same_file_name e.file n ≡ b → count_of n new ≡ (if same_file_name e.file n then count_of e.file old - 1 else count_of n old) → count_of n new ≡ naming n (xs ++ ys)
      step n true is at =
          let one : one_if (names_it n e) ≡ 1 = ap one_if is in
          let here : count_of n new ≡ count_of e.file old - 1 = at ∙ ap (λ (b : Bool). if b then count_of e.file old - 1 else count_of n old) is in
          let was : count_of e.file old ≡ count_of n old = ap (λ (m : FileName). count_of m old) (same_name e.file n is) in
          omega (arith, here, was, of n, naming_append n xs ys, naming_append n xs (e ∷ ys), naming_cons n e ys, one)
      step n false is at =
          let none : one_if (names_it n e) ≡ 0 = ap one_if is in
          let here : count_of n new ≡ count_of n old = at ∙ ap (λ (b : Bool). if b then count_of e.file old - 1 else count_of n old) is in
          omega (arith, here, of n, naming_append n xs ys, naming_append n xs (e ∷ ys), naming_cons n e ys, none)

-- a file that an entry names is named
pub counted_somewhere : (counts : List Counted) (e : Entry) (xs ys : List Entry) → CountsOf (xs ++ e ∷ ys) counts → 0 < count_of e.file counts
counted_somewhere counts e xs ys of =
    let one : one_if (names_it e.file e) ≡ 1 = ap one_if (itself e.file) in
    omega (arith, of e.file, naming_append e.file xs (e ∷ ys), naming_cons e.file e ys, one)

-- a name that no entry has is counted at 0, and the other way round
module _ (name : FileName) where
  no_naming : (es : List Entry) → find (names_it name) es ≡ None → naming name es ≡ 0
  no_naming [] e = refl
  no_naming (x ∷ es) e = step (names_it name x) refl e (λ rest. no_naming es rest)
    where
      step : (b : Bool) → names_it name x ≡ b → cond (names_it name x) (Some x) (find (names_it name) es) ≡ None → (find (names_it name) es ≡ None → naming name es ≡ 0) → naming name (x ∷ es) ≡ 0
      step true is h later =
          let some : Some x ≡ None = ap (λ (b : Bool). cond b (Some x) (find (names_it name) es)) (sym is) ∙ h in
          cc
      step false is h later =
          let rest : find (names_it name) es ≡ None = ap (λ (b : Bool). cond b (Some x) (find (names_it name) es)) (sym is) ∙ h in
          omega (arith, naming_cons name x es, ap one_if is, later rest)

  not_found : (es : List Entry) → naming name es ≡ 0 → find (names_it name) es ≡ None
  not_found [] e = refl
  not_found (x ∷ es) e = step (names_it name x) refl (λ rest. not_found es rest)
    where
      step : (b : Bool) → names_it name x ≡ b → (naming name es ≡ 0 → find (names_it name) es ≡ None) → find (names_it name) (x ∷ es) ≡ None
      step true is later = absurd (omega (arith, naming_cons name x es, ap one_if is, e))
      step false is later = ap (λ (b : Bool). cond b (Some x) (find (names_it name) es)) is ∙ later (omega (arith, naming_cons name x es, ap one_if is, e))

  pub unnamed_at_0 : (counts : List Counted) (entries : List Entry) → CountsOf entries counts → find (names_it name) entries ≡ None → count_of name counts ≡ 0
  unnamed_at_0 counts entries of none = of name ∙ no_naming entries none

  pub none_names_it : (counts : List Counted) (entries : List Entry) → CountsOf entries counts → count_of name counts ≡ 0 → find (names_it name) entries ≡ None
  none_names_it counts entries of none = not_found entries (sym (of name) ∙ none)

-- the same files in the same order
pub counts_kept : (entries : List Entry) (change : Entry → Entry) (counts : List Counted) → ((e : Entry) → (change e).file ≡ e.file) → CountsOf entries counts → CountsOf (map change entries) counts
counts_kept entries change counts keeps of = λ n. of n ∙ sym (same n entries)
  where
    same : (n : FileName) (es : List Entry) → naming n (map change es) ≡ naming n es
    same n [] = refl
    same n (e ∷ es) =
        let here : one_if (names_it n (change e)) ≡ one_if (names_it n e) = ap (λ (m : FileName). one_if (same_file_name m n)) (keeps e) in
        omega (arith, naming_cons n (change e) (map change es), naming_cons n e es, here, same n es)

-- an entry that is changed, but for its file
module _ (number : ℕ) (change : Entry → Entry) (keeps : (e : Entry) → (change e).file ≡ e.file) where
  abbrev changed : List Entry → List Entry
  changed es = with_entry number (λ e. Some (change e)) es

  same_naming : (n : FileName) (es : List Entry) → naming n (changed es) ≡ naming n es
  same_naming n [] = refl
  same_naming n (e ∷ es) = step (e.number == number) (same_naming n es)
    where
      step : (b : Bool) → naming n (changed es) ≡ naming n es → naming n ((if b then option_to_list (Some (change e)) else e ∷ []) ++ changed es) ≡ naming n (e ∷ es)
      step true rest =
          let here : one_if (names_it n (change e)) ≡ one_if (names_it n e) = ap (λ (m : FileName). one_if (same_file_name m n)) (keeps e) in
          omega (arith, naming_cons n (change e) (changed es), naming_cons n e es, here, rest)
      step false rest = omega (arith, naming_cons n e (changed es), naming_cons n e es, rest)

  pub counts_changed : (entries : List Entry) (counts : List Counted) → CountsOf entries counts → CountsOf (with_entry number (λ e. Some (change e)) entries) counts
  counts_changed entries counts of = λ n. of n ∙ sym (same_naming n entries)

-- ---- an entry that goes

module _ (number : ℕ) where
  abbrev gone : List Entry → List Entry
  gone es = with_entry number (λ e. None) es

  -- no other has its number
  none_behind : (es : List Entry) → All (λ e. (e.number == number) ≡ false) es → gone es ≡ es
  none_behind [] none = refl
  none_behind (e ∷ es) none =
      let other : (e.number == number) ≡ false = none 0 e (omega arith) in
      rw other (ap (λ (xs : List Entry). e ∷ xs) (none_behind es (All-tail (λ x. (x.number == number) ≡ false) e es none)))

  greater : (e : Entry) (es : List Entry) → IsInOrder nat_cmp (λ x. x.number) (e ∷ es) → (e.number == number) ≡ true → All (λ x. (x.number == number) ≡ false) es
  greater e es order is = λ k d within.
      let less : nat_cmp e.number (get_or es k d).number ≡ Less = order 0 (suc k) d (omega arith) (omega (arith, within)) in
      apart (get_or es k d) ((get_or es k d).number == number) refl less
    where
      apart : (x : Entry) (b : Bool) → (x.number == number) ≡ b → nat_cmp e.number x.number ≡ Less → (x.number == number) ≡ false
      apart x false at less = at
      apart x true at less =
          let same : x.number ≡ e.number = eqb-true x.number number at ∙ sym (eqb-true e.number number is) in
          let tie : nat_cmp e.number x.number ≡ Equal = ap (nat_cmp e.number) same ∙ tied_itself nat_cmp_total e.number in
          let clash : Less ≡ Equal = sym less ∙ tie in
          cc

  module _ (e : Entry) (n : FileName) where
    part : (es : List Entry) → IsInOrder nat_cmp (λ x. x.number) es → entry_numbered number es ≡ Some e → naming n es ≡ one_if (names_it n e) + naming n (gone es)
    part [] order found = cc
    part (x ∷ es) order found =
        each (x.number == number) refl found (λ one. part es (λ i j d low within. order (suc i) (suc j) d (omega (arith, low)) (omega (arith, within))) one)
      where
        each : (b : Bool) → (x.number == number) ≡ b → cond (x.number == number) (Some x) (entry_numbered number es) ≡ Some e
            → (entry_numbered number es ≡ Some e → naming n es ≡ one_if (names_it n e) + naming n (gone es)) → naming n (x ∷ es) ≡ one_if (names_it n e) + naming n (gone (x ∷ es))
        each true is at later =
            let one : Some x ≡ Some e = ap (λ (b : Bool). cond b (Some x) (entry_numbered number es)) (sym is) ∙ at in
            let same : x ≡ e = cc in
            let rest : gone (x ∷ es) ≡ es = ap (λ (b : Bool). (if b then option_to_list None else x ∷ []) ++ gone es) is ∙ none_behind es (greater x es order is) in
            naming_cons n x es ∙ ap (λ (y : Entry). one_if (names_it n y) + naming n es) same ∙ ap (λ (xs : List Entry). one_if (names_it n e) + naming n xs) (sym rest)
        each false is at later =
            let one : entry_numbered number es ≡ Some e = ap (λ (b : Bool). cond b (Some x) (entry_numbered number es)) (sym is) ∙ at in
            let rest : gone (x ∷ es) ≡ x ∷ gone es = ap (λ (b : Bool). (if b then option_to_list None else x ∷ []) ++ gone es) is in
            omega (arith, naming_cons n x es, naming_cons n x (gone es), ap (naming n) rest, later one)

    left_at : (old new total behind : ℕ) (b : Bool) → same_file_name e.file n ≡ b → total ≡ one_if (names_it n e) + behind → old ≡ total → (b ≡ true → new ≡ old - 1) → (b ≡ false → new ≡ old) → new ≡ behind
    left_at old new total behind true is sum was less still = omega (arith, ap one_if is, sum, was, less refl)
    left_at old new total behind false is sum was less still = omega (arith, ap one_if is, sum, was, still refl)

  pub counts_gone : (entries : List Entry) (e : Entry) (old new : List Counted) → IsInOrder nat_cmp (λ x. x.number) entries → entry_numbered number entries ≡ Some e → CountsOf entries old
      → IsCountedAs e.file (count_of e.file old - 1) old new → CountsOf (with_entry number (λ x. None) entries) new
  counts_gone entries e old new order found of fewer = λ n.
      left_at e n (count_of n old) (count_of n new) (naming n entries) (naming n (gone entries)) (same_file_name e.file n) refl (part e n entries order found) (of n)
      (λ is. fewer n ∙ ap (λ (b : Bool). if b then count_of e.file old - 1 else count_of n old) is ∙ ap (λ (m : FileName). count_of m old - 1) (same_name e.file n is))
      (λ is. fewer n ∙ ap (λ (b : Bool). if b then count_of e.file old - 1 else count_of n old) is)
