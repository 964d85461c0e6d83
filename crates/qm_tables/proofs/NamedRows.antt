-- What a place by name says of rows that have the name of a file.
use Rattle.std.proofs.Common.{◌≡◌, ◌∙◌, ℕ, zero, suc, ◌+◌, ◌<◌, ◌≤◌, Bool, true, false, if◌then◌else◌, List, [], ◌∷◌, length, get_or, set, Some, None, refl, sym, ap, subst, arith, Less, Equal, Greater}
use Rattle.std.specs.List.{All, AllWithin, find, insert, remove}
use Rattle.std.specs.Option.{option_map_or}
use Rattle.std.specs.Ordering.{is_eq, ordering_reverse}
use Rattle.std.specs.Cmp.{tied_itself}
use Rattle.qm_model.specs.Common.{FileName, File, file_name_cmp, same_file_name, with_file}
use Rattle.qm_keyed.specs.Places.{StandsAt, BelongsAt}
use Rattle.qm_keyed.proofs.Rows.{PassesAt, passes, fails, find_at, find_none}
use Rattle.qm_tables.specs.Spool.{Counted, count_of}
use Rattle.qm_tables.proofs.FileNames.{file_names_total, same_is_tied, same_name, tied_name}

module _ {X : Type 0} (key : X → FileName) (rows : List X) (name : FileName) (i : ℕ) where
  pub named_at : StandsAt file_name_cmp key name rows i → PassesAt (λ x. same_file_name (key x) name) rows i
  named_at stands = passes key name (λ x. same_file_name (key x) name) (λ x. same_is_tied (key x) name) rows i stands

  pub unnamed : BelongsAt file_name_cmp key name rows i → All (λ x. same_file_name (key x) name ≡ false) rows
  unnamed belongs = fails key name (λ x. same_file_name (key x) name) (λ x. same_is_tied (key x) name) rows i belongs

  pub found_at : (d : X) → StandsAt file_name_cmp key name rows i → find (λ x. same_file_name (key x) name) rows ≡ Some (get_or rows i d)
  found_at d stands = find_at (λ x. same_file_name (key x) name) rows i d (named_at stands)

  pub absent_at : BelongsAt file_name_cmp key name rows i → find (λ x. same_file_name (key x) name) rows ≡ None
  absent_at belongs = find_none (λ x. same_file_name (key x) name) rows (unnamed belongs)

  -- the row there has the name
  pub name_there : (d : X) → StandsAt file_name_cmp key name rows i → key (get_or rows i d) ≡ name
  name_there d stands = tied_name (key (get_or rows i d)) name (stands.here d)

-- a lesser name isn't the same
less_other : (a b n : FileName) → file_name_cmp a b ≡ Less → same_file_name a n ≡ true → same_file_name b n ≡ false
less_other a b n less same =
    ap (same_file_name b) (sym (same_name a n same))
    ∙ same_is_tied b a
    ∙ ap is_eq (file_names_total.antisymm b a ∙ ap ordering_reverse less)

-- nor is a greater one
greater_other : (a b n : FileName) → file_name_cmp a b ≡ Greater → same_file_name b n ≡ true → same_file_name a n ≡ false
greater_other a b n greater same =
    ap (same_file_name a) (sym (same_name b n same))
    ∙ same_is_tied a b
    ∙ ap is_eq greater

pub itself : (n : FileName) → same_file_name n n ≡ true
itself n = same_is_tied n n ∙ ap is_eq (tied_itself file_names_total n)

-- ---- the model's list with a file in its place

pub file_set : (file : File) (files : List File) (i : ℕ) → i < length files → AllWithin (λ f. file_name_cmp f.name file.name ≡ Less) files 0 i → ((d : File) → (get_or files i d).name ≡ file.name) → with_file file files ≡ set files i file
file_set file [] i within before here = absurd (omega (arith, within))
file_set file (f ∷ files) zero within before here =
    let tied : file_name_cmp file.name f.name ≡ Equal = subst (λ n. file_name_cmp file.name n ≡ Equal) (sym (here f)) (tied_itself file_names_total file.name) in
    rw tied refl
file_set file (f ∷ files) (suc i) within before here =
    let greater : file_name_cmp file.name f.name ≡ Greater = file_names_total.antisymm file.name f.name ∙ ap ordering_reverse (before 0 f (omega arith) (omega arith)) in
    rw greater (ap (λ (fs : List File). f ∷ fs) (file_set file files i (omega (arith, within)) (λ k d low below. before (suc k) d (omega arith) (omega (arith, below))) here))

pub file_inserted : (file : File) (files : List File) (i : ℕ) → i ≤ length files → AllWithin (λ f. file_name_cmp f.name file.name ≡ Less) files 0 i → AllWithin (λ f. file_name_cmp f.name file.name ≡ Greater) files i (length files) → with_file file files ≡ insert files i file
file_inserted file [] zero within before behind = refl
file_inserted file [] (suc i) within before behind = absurd (omega (arith, within))
file_inserted file (f ∷ files) zero within before behind =
    let less : file_name_cmp file.name f.name ≡ Less = file_names_total.antisymm file.name f.name ∙ ap ordering_reverse (behind 0 f (omega arith) (omega arith)) in
    rw less refl
file_inserted file (f ∷ files) (suc i) within before behind =
    let greater : file_name_cmp file.name f.name ≡ Greater = file_names_total.antisymm file.name f.name ∙ ap ordering_reverse (before 0 f (omega arith) (omega arith)) in
    rw greater (ap (λ (fs : List File). f ∷ fs) (file_inserted file files i (omega (arith, within))
    (λ k d low below. before (suc k) d (omega arith) (omega (arith, below)))
    (λ k d low below. behind (suc k) d (omega (arith, low)) (omega (arith, below)))))

-- ---- counts

abbrev pub counted_name : Counted → FileName
counted_name c = c.name

abbrev pub counted : FileName → ℕ → Counted
counted name count = record { name = name; count = count }

pub count_at : (cs : List Counted) (name : FileName) (i : ℕ) (d : Counted) → StandsAt file_name_cmp counted_name name cs i → count_of name cs ≡ (get_or cs i d).count
count_at cs name i d stands = ap (λ o. option_map_or (λ (c : Counted). c.count) o 0) (found_at counted_name cs name i d stands)

pub count_none : (cs : List Counted) (name : FileName) → All (λ c. same_file_name c.name name ≡ false) cs → count_of name cs ≡ 0
count_none cs name none = ap (λ o. option_map_or (λ (c : Counted). c.count) o 0) (find_none (λ (c : Counted). same_file_name c.name name) cs none)

pub count_absent : (cs : List Counted) (name : FileName) (i : ℕ) → BelongsAt file_name_cmp counted_name name cs i → count_of name cs ≡ 0
count_absent cs name i belongs = count_none cs name (unnamed counted_name cs name i belongs)

-- another count in the place of one
module _ (name n : FileName) (k : ℕ) where
  count_set_from : (cs : List Counted) (i : ℕ) → i < length cs → AllWithin (λ c. file_name_cmp c.name name ≡ Less) cs 0 i → ((d : Counted) → (get_or cs i d).name ≡ name)
      → count_of n (set cs i (counted name k)) ≡ (if same_file_name name n then k else count_of n cs)
  count_set_from [] i within before here = absurd (omega (arith, within))
  count_set_from (c ∷ cs) zero within before here = step (same_file_name name n) refl
    where
      step : (b : Bool) → same_file_name name n ≡ b → count_of n (counted name k ∷ cs) ≡ (if same_file_name name n then k else count_of n (c ∷ cs))
      step true e = rw e refl
      step false e =
          let other : same_file_name c.name n ≡ false = ap (λ (m : FileName). same_file_name m n) (here c) ∙ e in
          rw (e, other) refl
  count_set_from (c ∷ cs) (suc i) within before here =
      step (same_file_name c.name n) refl
      (count_set_from cs i (omega (arith, within)) (λ j d low below. before (suc j) d (omega arith) (omega (arith, below))) here)
    where
      step : (b : Bool) → same_file_name c.name n ≡ b → count_of n (set cs i (counted name k)) ≡ (if same_file_name name n then k else count_of n cs)
          → count_of n (c ∷ set cs i (counted name k)) ≡ (if same_file_name name n then k else count_of n (c ∷ cs))
      step true e rest =
          let other : same_file_name name n ≡ false = less_other c.name name n (before 0 c (omega arith) (omega arith)) e in
          rw (e, other) refl
      step false e rest = rw e rest

  pub count_set : (cs : List Counted) (i : ℕ) → StandsAt file_name_cmp counted_name name cs i → count_of n (set cs i (counted name k)) ≡ (if same_file_name name n then k else count_of n cs)
  count_set cs i stands = count_set_from cs i stands.within stands.before (λ d. name_there counted_name cs name i d stands)

  -- one count more
  count_inserted_from : (cs : List Counted) (i : ℕ) → All (λ c. same_file_name c.name name ≡ false) cs
      → count_of n (insert cs i (counted name k)) ≡ (if same_file_name name n then k else count_of n cs)
  count_inserted_from [] zero none = step (same_file_name name n) refl
    where
      step : (b : Bool) → same_file_name name n ≡ b → count_of n (counted name k ∷ []) ≡ (if same_file_name name n then k else 0)
      step true e = rw e refl
      step false e = rw e refl
  count_inserted_from [] (suc i) none = step (same_file_name name n) refl
    where
      step : (b : Bool) → same_file_name name n ≡ b → count_of n (counted name k ∷ []) ≡ (if same_file_name name n then k else 0)
      step true e = rw e refl
      step false e = rw e refl
  count_inserted_from (c ∷ cs) zero none = step (same_file_name name n) refl
    where
      step : (b : Bool) → same_file_name name n ≡ b → count_of n (counted name k ∷ c ∷ cs) ≡ (if same_file_name name n then k else count_of n (c ∷ cs))
      step true e = rw e refl
      step false e = rw e refl
  count_inserted_from (c ∷ cs) (suc i) none =
      step (same_file_name c.name n) refl (count_inserted_from cs i (λ j d below. none (suc j) d (omega (arith, below))))
    where
      step : (b : Bool) → same_file_name c.name n ≡ b → count_of n (insert cs i (counted name k)) ≡ (if same_file_name name n then k else count_of n cs)
          → count_of n (c ∷ insert cs i (counted name k)) ≡ (if same_file_name name n then k else count_of n (c ∷ cs))
      step true e rest =
          let other : same_file_name name n ≡ false = apart in
          rw (e, other) refl
        where
          apart : same_file_name name n ≡ false
          apart = not_both (same_file_name name n) refl
            where
              not_both : (b : Bool) → same_file_name name n ≡ b → same_file_name name n ≡ false
              not_both false f = f
              not_both true f =
                  let one : same_file_name c.name name ≡ true = ap (same_file_name c.name) (same_name name n f) ∙ e in
                  let other : same_file_name c.name name ≡ false = none 0 c (omega arith) in
                  cc
      step false e rest = rw e rest

  pub count_inserted : (cs : List Counted) (i : ℕ) → BelongsAt file_name_cmp counted_name name cs i → count_of n (insert cs i (counted name k)) ≡ (if same_file_name name n then k else count_of n cs)
  count_inserted cs i belongs = count_inserted_from cs i (unnamed counted_name cs name i belongs)

-- a count of 0 less
module _ (name n : FileName) where
  count_removed_from : (cs : List Counted) (i : ℕ) → i < length cs → ((d : Counted) → (get_or cs i d).name ≡ name) → ((d : Counted) → (get_or cs i d).count ≡ 0) → AllWithin (λ c. file_name_cmp c.name name ≡ Greater) cs (i + 1) (length cs)
      → count_of n (remove cs i) ≡ count_of n cs
  count_removed_from [] i within here empty behind = absurd (omega (arith, within))
  count_removed_from (c ∷ cs) zero within here empty behind = step (same_file_name c.name n) refl
    where
      step : (b : Bool) → same_file_name c.name n ≡ b → count_of n cs ≡ count_of n (c ∷ cs)
      step true e =
          let named : same_file_name name n ≡ true = ap (λ (m : FileName). same_file_name m n) (sym (here c)) ∙ e in
          rw e (count_none cs n (λ j d below. greater_other (get_or cs j d).name name n (behind (suc j) d (omega arith) (omega (arith, below))) named) ∙ sym (empty c))
      step false e = rw e refl
  count_removed_from (c ∷ cs) (suc i) within here empty behind =
      step (same_file_name c.name n) refl (count_removed_from cs i (omega (arith, within)) here empty (λ j d low below. behind (suc j) d (omega (arith, low)) (omega (arith, below))))
    where
      step : (b : Bool) → same_file_name c.name n ≡ b → count_of n (remove cs i) ≡ count_of n cs → count_of n (c ∷ remove cs i) ≡ count_of n (c ∷ cs)
      step true e rest = rw e refl
      step false e rest = rw e rest

  pub count_removed : (cs : List Counted) (i : ℕ) → StandsAt file_name_cmp counted_name name cs i → count_of name cs ≡ 0 → count_of n (remove cs i) ≡ count_of n cs
  count_removed cs i stands zero_there =
      count_removed_from cs i stands.within (λ d. name_there counted_name cs name i d stands) (λ d. sym (count_at cs name i d stands) ∙ zero_there) stands.behind
