-- What keeps the same forms by name.
use Rattle.std.proofs.Common.{◌≡◌, ◌∙◌, ℕ, ◌+◌, ◌<◌, ◌≤◌, ◌⊎◌, inl, inr, Bool, true, false, not, List, [], ◌∷◌, length, get_or, take, drop, option_to_list, is_some, Option, Some, None, refl, sym, ap, arith, IsPermutation, IsSortedByKey, Ordering, Less, Equal, Greater, All, insert, find, filter, bytes_eq}
use Rattle.std.specs.Option.{option_or}
use Rattle.std.specs.Ordering.{ordering_reverse, is_eq, is_lt}
use Rattle.std.specs.Cmp.Lexicographic.{nat_list_cmp_total, texts_ties}
use Rattle.std.proofs.lemmas.Bool.Decides.{same_from_decides}
use Rattle.std.proofs.lemmas.List.{get_or_default, take-append-drop}
use Rattle.std.proofs.lemmas.List.Edits.{length-insert, length-remove}
use Rattle.std.proofs.lemmas.List.Elements.{Contains-get_or}
use Rattle.std.proofs.lemmas.List.Folds.{find-append}
use Rattle.std.proofs.lemmas.List.Kept.{AllPairs-filter}
use Rattle.std.proofs.lemmas.List.Sorted.{All-permutation, Contains-permutation, IsPermutation-sym, length_permutation, ranks_by, sorted_far}
use Rattle.std.proofs.lemmas.Map.Keys.{IsDistinct-from_apart, IsDistinct-IsPermutation, apart_from_distinct}
use Rattle.std.proofs.lemmas.Slice.Eq.{bytes_eq-Decides}
use Rattle.qm_model.specs.Common.{Form, Name, IsInOrder, AreDistinct, name_cmp, form_wanted}
use Rattle.qm_keyed.specs.Places.{StandsAt, BelongsAt}
use Rattle.qm_keyed.proofs.Rows.{PassesAt, find_at, find_none, filter_at, filter_none}
use Rattle.qm_keyed.proofs.Orders.{order_around}
use Rattle.qm_tables.specs.Forms.{without_form}
use Rattle.qm_tables.specs.FormsNamed.{AreByName}
use Rattle.qm_tables.proofs.FormsNamed.{name_of, is_named, named_at, unnamed, apart, alone, none_or_one, distinct_in_order}
use Rattle.qm_tables.proofs.FormRows.{differs}

-- the first of two that is there, where neither is
neither : {X : Type 0} (a b : Option X) → option_or a b ≡ None → a ≡ None
neither None b e = refl
neither (Some x) b e = absurd (cc e)

module _ {X : Type 0} (test : X → Bool) where
  -- one element more, that fails or that alone passes
  pub find_past_one : (xs : List X) (i : ℕ) (x : X) → test x ≡ false → find test (insert xs i x) ≡ find test xs
  find_past_one xs i x fails =
      let parts = find-append test (take i xs) (x ∷ drop i xs) in
      let whole = find-append test (take i xs) (drop i xs) in
      (rw fails at parts) ∙ sym whole ∙ ap (find test) (take-append-drop i xs)

  pub find_this_one : (xs : List X) (i : ℕ) (x : X) → test x ≡ true → find test xs ≡ None → find test (insert xs i x) ≡ Some x
  find_this_one xs i x passes none =
      let parts = find-append test (take i xs) (x ∷ drop i xs) in
      let whole = find-append test (take i xs) (drop i xs) in
      let front : find test (take i xs) ≡ None = neither (find test (take i xs)) (find test (drop i xs)) (sym whole ∙ ap (find test) (take-append-drop i xs) ∙ none) in
      (rw (passes, front) at parts)

  -- without the elements that pass another test, which what is looked for fails, or passes
  pub find_beside : (other : X → Bool) (xs : List X) → ((x : X) → test x ≡ true → other x ≡ false) → find test (filter (λ x. not (other x)) xs) ≡ find test xs
  find_beside other [] fails = refl
  find_beside other (x ∷ xs) fails = first (other x) (test x) refl refl (find_beside other xs fails)
    where
      first : (b t : Bool) → other x ≡ b → test x ≡ t → find test (filter (λ y. not (other y)) xs) ≡ find test xs → find test (filter (λ y. not (other y)) (x ∷ xs)) ≡ find test (x ∷ xs)
      first true true e is rest = let out = fails x is in cc (e, out)
      first true false e is rest = rw (e, is) rest
      first false true e is rest = rw (e, is) refl
      first false false e is rest = rw (e, is) rest

  pub find_among_others : (other : X → Bool) (xs : List X) → ((x : X) → test x ≡ true → other x ≡ true) → find test (filter (λ x. not (other x)) xs) ≡ None
  find_among_others other [] passes = refl
  find_among_others other (x ∷ xs) passes = first (other x) (test x) refl refl (find_among_others other xs passes)
    where
      first : (b t : Bool) → other x ≡ b → test x ≡ t → find test (filter (λ y. not (other y)) xs) ≡ None → find test (filter (λ y. not (other y)) (x ∷ xs)) ≡ None
      first true t e is rest = rw e rest
      first false true e is rest = let out = passes x is in cc (e, out)
      first false false e is rest = rw e (rw is rest)

-- where no form has a name, none stands at a place of the name
pub unused : (forms by_name : List Form) (f : Form) (j : ℕ) → AreByName forms by_name → StandsAt name_cmp name_of f.name by_name j → is_some (form_wanted (Name f.name) forms) ≡ false → ⊥
unused forms by_name f j kept stands free =
    let taken = ap is_some (sym (kept.same f.name) ∙ named_at by_name j f.name f stands) in
    cc (taken, free)

module _ (forms by_name : List Form) (f : Form) (i j : ℕ) (kept : AreByName forms by_name) (within : i ≤ length forms) (belongs : BelongsAt name_cmp name_of f.name by_name j) where
  same_put : (name : List ℕ) → form_wanted (Name name) (insert by_name j f) ≡ form_wanted (Name name) (insert forms i f)
  same_put name = cases (bytes_eq f.name name) refl
    where
      cases : (b : Bool) → bytes_eq f.name name ≡ b → form_wanted (Name name) (insert by_name j f) ≡ form_wanted (Name name) (insert forms i f)
      cases true e =
          let name_is : f.name ≡ name = (bytes_eq-Decides f.name name).0 e in
          let none : form_wanted (Name name) by_name ≡ None = rw (← name_is) (unnamed by_name j f.name belongs) in
          find_this_one (is_named name) by_name j f e none ∙ sym (find_this_one (is_named name) forms i f e (sym (kept.same name) ∙ none))
      cases false e = find_past_one (is_named name) by_name j f e ∙ kept.same name ∙ sym (find_past_one (is_named name) forms i f e)

  -- one form more
  pub by_name_put : AreByName (insert forms i f) (insert by_name j f)
  by_name_put = record {
    order = order_around nat_list_cmp_total name_of by_name kept.order j j f (omega arith) belongs.before belongs.behind;
    as_many = omega (arith, length-insert forms i f within, length-insert by_name j f belongs.within, kept.as_many);
    same = same_put;
  }

-- the form of a name is one
length_without : (forms : List Form) (name : List ℕ) → AreDistinct name_of forms → length (without_form name forms) + length (option_to_list (form_wanted (Name name) forms)) ≡ length forms
length_without [] name distinct = refl
length_without (f ∷ forms) name distinct = cases (none_or_one (f ∷ forms) name distinct)
  where
    cases : All (λ g. is_named name g ≡ false) (f ∷ forms) ⊎ ((i : ℕ) × PassesAt (is_named name) (f ∷ forms) i) → length (without_form name (f ∷ forms)) + length (option_to_list (form_wanted (Name name) (f ∷ forms))) ≡ length (f ∷ forms)
    cases (inl none) =
        let rows : without_form name (f ∷ forms) ≡ f ∷ forms = filter_none (is_named name) (f ∷ forms) none in
        let found : form_wanted (Name name) (f ∷ forms) ≡ None = find_none (is_named name) (f ∷ forms) none in
        omega (arith, ap length rows, ap (λ o. length (option_to_list o)) found)
    cases (inr at) =
        let rows = filter_at (is_named name) (f ∷ forms) at.0 at.1 in
        let found = find_at (is_named name) (f ∷ forms) at.0 f at.1 in
        omega (arith, ap length rows, ap (λ o. length (option_to_list o)) found, length-remove (f ∷ forms) at.0 at.1.within)

module _ (forms by_name : List Form) (name : List ℕ) (kept : AreByName forms by_name) where
  same_without : (other : List ℕ) → form_wanted (Name other) (without_form name by_name) ≡ form_wanted (Name other) (without_form name forms)
  same_without other = cases (bytes_eq other name) refl
    where
      test_of : (b : Bool) → bytes_eq other name ≡ b → (f : Form) → is_named other f ≡ true → is_named name f ≡ b
      test_of b e f is = ap (λ n. bytes_eq n name) ((bytes_eq-Decides f.name other).0 is) ∙ e

      cases : (b : Bool) → bytes_eq other name ≡ b → form_wanted (Name other) (without_form name by_name) ≡ form_wanted (Name other) (without_form name forms)
      cases true e =
          let gone = test_of true e in
          find_among_others (is_named other) (is_named name) by_name gone ∙ sym (find_among_others (is_named other) (is_named name) forms gone)
      cases false e =
          let stays = test_of false e in
          find_beside (is_named other) (is_named name) by_name stays ∙ kept.same other ∙ sym (find_beside (is_named other) (is_named name) forms stays)

  -- the form of a name less
  pub by_name_without : AreDistinct name_of forms → AreByName (without_form name forms) (without_form name by_name)
  by_name_without distinct = record {
    order = AllPairs-filter (λ a b. name_cmp a.name b.name ≡ Less) (λ g. not (is_named name g)) by_name kept.order;
    as_many = omega (arith, kept.as_many, length_without forms name distinct, length_without by_name name (distinct_in_order by_name kept.order), ap (λ o. length (option_to_list o)) (kept.same name));
    same = same_without;
  }

-- some element of a list that has one
element : {X : Type 0} (xs : List X) (i : ℕ) → i < length xs → X
element [] i within = absurd (omega (arith, within))
element (x ∷ xs) i within = x

flips : (a b : List ℕ) → bytes_eq a b ≡ bytes_eq b a
flips a b = same_from_decides (bytes_eq a b) (bytes_eq b a) (bytes_eq-Decides a b) ((λ e. sym ((bytes_eq-Decides b a).0 e)), (λ e. (bytes_eq-Decides b a).1 (sym e)))

module _ (forms by_name : List Form) (moved : IsPermutation forms by_name) (distinct : AreDistinct name_of forms) where
  -- forms that change places keep names of their own
  distinct_moved : AreDistinct name_of by_name
  distinct_moved i j d below within =
      let test = λ (a b : Form). bytes_eq a.name b.name in
      let before = IsDistinct-from_apart test forms (λ k l e low high. apart (get_or forms k e).name (get_or forms l e).name (distinct k l e low high)) in
      let after = IsDistinct-IsPermutation test (λ a b. flips a.name b.name) forms by_name moved before in
      differs (get_or by_name i d).name (get_or by_name j d).name (apart_from_distinct test by_name i j d after below within)

  same_at : (name : List ℕ) (i : ℕ) (d : Form) → PassesAt (is_named name) by_name i → form_wanted (Name name) by_name ≡ form_wanted (Name name) forms
  same_at name i d at =
      let x : Form = get_or by_name i d in
      let there = Contains-permutation by_name forms x (IsPermutation-sym forms by_name moved) (Contains-get_or by_name i d at.within) in
      let here = λ (e : Form). ap (is_named name) (get_or_default forms there.0 e x there.1 ∙ there.2) ∙ at.here d in
      find_at (is_named name) by_name i d at
      ∙ ap (λ (f : Form). Some f) (sym there.2)
      ∙ sym (find_at (is_named name) forms there.0 x (alone forms name there.0 distinct there.1 here))

  same_moved : (name : List ℕ) → form_wanted (Name name) by_name ≡ form_wanted (Name name) forms
  same_moved name = cases (none_or_one by_name name distinct_moved)
    where
      cases : All (λ g. is_named name g ≡ false) by_name ⊎ ((i : ℕ) × PassesAt (is_named name) by_name i) → form_wanted (Name name) by_name ≡ form_wanted (Name name) forms
      cases (inl none) = find_none (is_named name) by_name none ∙ sym (find_none (is_named name) forms (All-permutation (λ g. is_named name g ≡ false) by_name forms (IsPermutation-sym forms by_name moved) none))
      cases (inr at) = same_at name at.0 (element by_name at.0 at.1.within) at.1

  module _ (sorted : IsSortedByKey name_of name_cmp by_name) where
    order_moved : IsInOrder name_cmp name_of by_name
    order_moved i j d below within = strict (name_cmp (get_or by_name j d).name (get_or by_name i d).name) refl
      where
        not_less : is_lt (name_cmp (get_or by_name j d).name (get_or by_name i d).name) ≡ false
        not_less = sorted_far (λ (a b : Form). is_lt (name_cmp a.name b.name)) (ranks_by nat_list_cmp_total name_of) by_name sorted i j d (omega (arith, below)) within

        strict : (o : Ordering) → name_cmp (get_or by_name j d).name (get_or by_name i d).name ≡ o → name_cmp (get_or by_name i d).name (get_or by_name j d).name ≡ Less
        strict Less e = let less : true ≡ false = rw e at not_less in absurd (cc less)
        strict Equal e =
            let same = (bytes_eq-Decides (get_or by_name j d).name (get_or by_name i d).name).0 (texts_ties (get_or by_name j d).name (get_or by_name i d).name ∙ ap is_eq e) in
            absurd (distinct_moved i j d below within (sym same))
        strict Greater e = nat_list_cmp_total.antisymm (get_or by_name i d).name (get_or by_name j d).name ∙ ap ordering_reverse e

    -- the forms, sorted by name
    pub by_name_moved : AreByName forms by_name
    by_name_moved = record { order = order_moved; as_many = length_permutation forms by_name moved; same = same_moved }
