-- What a step, and its report, leave of the rows.
use Rattle.std.proofs.Common.{◌≡◌, ◌∙◌, ℕ, suc, ◌-◌, ◌<◌, inl, inr, Bool, true, false, not, cond, List, [], ◌∷◌, ◌++◌, length, get_or, map, set, take, drop, refl, sym, ap, subst, arith, Option, None, Some, ◌==◌, IfOk, IfSome, if◌then◌else◌, slice_get, Result, Ok, Err, nat_cmp, Less, Equal, Greater}
use Rattle.std.specs.Cmp.{nat_cmp_total}
use Rattle.std.specs.List.{All, AllByRecursion, filter, remove}
use Rattle.std.specs.Option.{option_map, option_map_or, IsSome}
use Rattle.std.proofs.lemmas.Bool.{cases_eq, cases_lt}
use Rattle.std.proofs.lemmas.Bool.Decides.{nat_tests}
use Rattle.std.proofs.lemmas.List.{get_or-map, get_or-set_same, get_or-set_other, length-set, map-set, set-get_or}
use Rattle.std.proofs.lemmas.List.Elements.{All-cons, All-nil}
use Rattle.qm_history.specs.Common.{Place, Report, Work}
use Rattle.qm_kinds.specs.declared.work.Report.TheVariants.{Done, Mark}
use Rattle.qm_keyed.specs.Places.{StandsAt}
use Rattle.qm_keyed.proofs.Keys as keys
use Rattle.qm_keyed.proofs.Orders.{order_removed, order_set}
use Rattle.qm_model.specs.Kept.{KeptRun, behind_next, kept_behind, moved_to, run_kept, without_run}
use Rattle.qm_symb.specs.Device.{Meaning}
use Rattle.qm_symb.specs.Symbiont.{IfGoesOn, IsWithinLimits}
use Rattle.qm_node.specs.declared.row.Row.{Row}
use Rattle.qm_node.specs.Rows.{AreAtPlaces, AreHeld, IsSound, StandOnce, all_bare, bare, place_behind, seen}
use Rattle.qm_node.specs.Steps.{IsStep, NextSteps}
use Rattle.qm_node.proofs.Rows.{all_through, kept_bare, kept_moved, kept_without, moved_bare, numbers, without_bare}

equal_number : (a b : ℕ) → nat_cmp a b ≡ Equal → a ≡ b
equal_number a b equal = grind (arith, nat_tests)

apart_less : (a b : ℕ) → nat_cmp a b ≡ Less → (a == b) ≡ false
apart_less a b less = grind (arith, nat_tests)

apart_more : (a b : ℕ) → nat_cmp a b ≡ Greater → (a == b) ≡ false
apart_more a b more = grind (arith, nat_tests)

turned : (a b : ℕ) → (a == b) ≡ false → (b == a) ≡ false
turned a b apart = grind (arith, nat_tests)

same_test : (a b : ℕ) → a ≡ b → (a == b) ≡ true
same_test a b same = grind (arith, nat_tests)

-- ---- lists

all_set : {X : Type 0} (P : X → Type 0) (xs : List X) (i : ℕ) (y : X) → P y → ((k : ℕ) (d : X) → k < length xs → (k ≡ i → ⊥) → P (get_or xs k d)) → All P (set xs i y)
all_set P xs i y here others k d within =
    let size = length-set xs i y in
    elim (cases_eq k i) [
      | inl same ↦ subst (λ (n : ℕ). P (get_or (set xs i y) n d)) (sym same) (rw (get_or-set_same xs i y d (omega (arith, same, within, size))) here)
      | inr other ↦ rw (get_or-set_other xs i k y d other) (others k d (omega (arith, within, size)) other)
    ]

all_mapped : {P Q : ℕ → Type 0} → ((n : ℕ) → P n → Q n) → (xs : List ℕ) → AllByRecursion P xs → AllByRecursion Q xs
all_mapped f [] all = tt
all_mapped f (x ∷ xs) all = (f x all.0, all_mapped f xs all.1)

all_pushed : (P : ℕ → Type 0) (xs : List ℕ) (y : ℕ) → AllByRecursion P xs → P y → AllByRecursion P (xs ++ y ∷ [])
all_pushed P [] y all here = (here, tt)
all_pushed P (x ∷ xs) y all here = (all.0, all_pushed P xs y all.1 here)

once_pushed : (run : ℕ) (others : List ℕ) → AllByRecursion (λ (other : ℕ). (other == run) ≡ false) others → StandOnce others → StandOnce (others ++ run ∷ [])
once_pushed run [] apart once = (tt, tt)
once_pushed run (x ∷ xs) apart once = (all_pushed (λ (other : ℕ). (other == x) ≡ false) xs run once.0 (turned x run apart.0), once_pushed run xs apart.1 once.1)

-- ---- the run that steps next

module _ {C : Type 0} (run : ℕ) (rows : List (Row C)) (i : ℕ) (stands : StandsAt nat_cmp (λ (row : Row C). row.run) run rows i) where
  pub number_at : (x : Row C) → x ≡ get_or rows i x → x.run ≡ run
  number_at x is = ap (λ (row : Row C). row.run) is ∙ equal_number (get_or rows i x).run run (stands.here x)

  pub found_bare : (x : Row C) → x ≡ get_or rows i x → run_kept run (all_bare rows) ≡ Some (bare x)
  found_bare x is = kept_bare run rows ∙ ap (option_map bare) (keys.found numbers run rows i x stands) ∙ ap (λ (row : Row C). Some (bare row)) (sym is)

  pub others_apart : (k : ℕ) (d : Row C) → k < length rows → (k ≡ i → ⊥) → ((get_or rows k d).run == run) ≡ false
  others_apart k d within other = elim (cases_lt k i) [
    | inl less ↦ apart_less (get_or rows k d).run run (stands.before k d (omega arith) less)
    | inr more ↦ apart_more (get_or rows k d).run run (stands.behind k d (omega (arith, more, other)) within)
  ]

  pub moved_rows : (x : Row C) (next : Place) → x ≡ get_or rows i x → all_bare (set rows i (record x { place = next })) ≡ map (moved_to (bare x) next) (all_bare rows)
  moved_rows x next is =
      ap all_bare (keys.changed numbers run rows i (λ row. record x { place = next }) x stands)
      ∙ subst (λ (n : ℕ). all_bare (map (λ (row : Row C). if row.run == run then record x { place = next } else row) rows) ≡ map (λ (k : KeptRun). if k.run == n then record (bare x) { place = next } else k) (all_bare rows))
      (sym (number_at x is)) (moved_bare run x next rows)

  pub left_rows : all_bare (remove rows i) ≡ without_run run (all_bare rows)
  left_rows = ap all_bare (keys.removed numbers run rows i stands) ∙ without_bare run rows

module _ {C : Type 0} where
  pub same_bare : (rows : List (Row C)) (i : ℕ) (x y : Row C) → x ≡ get_or rows i x → i < length rows → bare y ≡ bare x → all_bare (set rows i y) ≡ all_bare rows
  same_bare rows i x y is within same =
      map-set bare rows i y
      ∙ ap (λ (k : KeptRun). set (all_bare rows) i k) (same ∙ ap bare is ∙ sym (get_or-map bare rows i x (bare x) within))
      ∙ set-get_or (all_bare rows) i (bare x)

-- ---- a step

goes_behind : (told : Report) (F : Place → Type 0) → IfGoesOn told F → IfSome (place_behind told) F
goes_behind (Mark value next) F goes = goes
goes_behind (Done status) F goes = tt

module _ {C : Type 0} (S : Work → Place → C → Type 0) where
  -- a run that didn't step is where it was
  waits : (told : Report) (run : ℕ) (others : List ℕ) (row : Row C) → (row.run == run) ≡ false → IsSound S None [] row → IsSound S (Some told) (run ∷ others) row
  waits told run others row apart sound =
      (sound.0, subst (λ (b : Bool). IfSome (cond b (place_behind told) (Some row.place)) (λ place. S row.work place row.cursor)) (sym apart) sound.1)

  waited : (made : Option Report) (run : ℕ) (others : List ℕ) (row : Row C) → (row.run == run) ≡ false → IsSound S made (run ∷ others) row → IsSound S None [] row
  waited None run others row apart sound = sound
  waited (Some told) run others row apart sound =
      (sound.0, subst (λ (b : Bool). IfSome (cond b (place_behind told) (Some row.place)) (λ place. S row.work place row.cursor)) apart sound.1)

  pub step_sound : (rows : List (Row C)) (round : List ℕ) (i : ℕ) (x y : Row C) (told : Report) → x ≡ get_or rows i x → y ≡ record x { cursor = y.cursor }
      → IsSome (slice_get round 0) → IfSome (slice_get round 0) (λ run. StandsAt nat_cmp (λ (row : Row C). row.run) run rows i)
      → AreAtPlaces S rows → IfGoesOn told (λ next. S x.work next y.cursor) → All (IsSound S (Some told) round) (set rows i y)
  step_sound rows [] i x y told is same some stands each goes = let bad : false ≡ true = some in cc
  step_sound rows (run ∷ others) i x y told is same some stands each goes =
      all_set (IsSound S (Some told) (run ∷ others)) rows i y
      (subst (λ (row : Row C). IsSound S (Some told) (run ∷ others) row) (sym same) (
        subst (λ (row : Row C). IsWithinLimits row.work) (sym is) (each i x stands.within).0,
        subst (λ (b : Bool). IfSome (cond b (place_behind told) (Some x.place)) (λ place. S x.work place y.cursor)) (sym (same_test x.run run (number_at run rows i stands x is)))
            (goes_behind told (λ next. S x.work next y.cursor) goes),
      ))
      (λ k d within other. waits told run others (get_or rows k d) (others_apart run rows i stands k d within other) (each k d within))

  -- ---- a report

  pub held_on : (rows : List (Row C)) (round : List ℕ) (i : ℕ) (x : Row C) (value : List ℕ) (next : Place) → x ≡ get_or rows i x
      → IfSome (slice_get round 0) (λ run. StandsAt nat_cmp (λ (row : Row C). row.run) run rows i) → AreHeld S rows round (Some (Mark value next))
      → AreHeld S (set rows i (record x { place = next })) (drop 1 round ++ take 1 round) None
  held_on rows [] i x value next is stands held = let bad : false ≡ true = held.stepping in cc
  held_on rows (run ∷ others) i x value next is stands held =
      let number : x.run ≡ run = number_at run rows i stands x is in
      let sound : IsSound S (Some (Mark value next)) (run ∷ others) x = subst (λ (row : Row C). IsSound S (Some (Mark value next)) (run ∷ others) row) (sym is) (held.each i x stands.within) in
      let moved : all_bare (set rows i (record x { place = next })) ≡ map (moved_to (bare x) next) (all_bare rows) = moved_rows run rows i stands x next is in
      let kept : AllByRecursion (λ (r : ℕ). IsSome (run_kept r (all_bare (set rows i (record x { place = next }))))) (run ∷ others) =
      all_mapped (λ r some. subst (λ (ks : List KeptRun). IsSome (run_kept r ks)) (sym moved) (kept_moved r (bare x) next (all_bare rows) some)) (run ∷ others) held.kept in
      record {
        order = order_set nat_cmp_total (λ (row : Row C). row.run) rows held.order i (record x { place = next }) x stands.within (ap (λ (row : Row C). row.run) is);
        each = all_set (IsSound S None []) rows i (record x { place = next })
            (sound.0, subst (λ (b : Bool). IfSome (cond b (Some next) (Some x.place)) (λ place. S x.work place x.cursor)) (same_test x.run run number) sound.1)
            (λ k d within other. waited (Some (Mark value next)) run others (get_or rows k d) (others_apart run rows i stands k d within other) (held.each k d within));
        kept = all_pushed (λ (r : ℕ). IsSome (run_kept r (all_bare (set rows i (record x { place = next }))))) others run kept.1 kept.0;
        once = once_pushed run others held.once.0 held.once.1;
        stepping = tt;
      }

  all_left_at : (Q : Row C → Type 0) (run : ℕ) (row : Row C) (rows : List (Row C)) → ((row.run == run) ≡ false → Q row) → All Q rows → (b : Bool) → (row.run == run) ≡ b → All Q (cond (not b) (row ∷ rows) rows)
  all_left_at Q run row rows here rest true is = rest
  all_left_at Q run row rows here rest false is = All-cons Q row rows (here is) rest

  all_left : (Q : Row C → Type 0) (run : ℕ) (rows : List (Row C)) → ((k : ℕ) (d : Row C) → k < length rows → ((get_or rows k d).run == run) ≡ false → Q (get_or rows k d)) → All Q (filter (λ (row : Row C). not (row.run == run)) rows)
  all_left Q run [] each = All-nil Q
  all_left Q run (row ∷ rows) each =
      all_left_at Q run row _ (each 0 row (omega arith)) (all_left Q run rows (λ k d within. each (suc k) d (omega (arith, within)))) (row.run == run) refl

  pub held_forgotten : (rows : List (Row C)) (round : List ℕ) (i : ℕ) (made : Option Report) → IsSome (slice_get round 0)
      → IfSome (slice_get round 0) (λ run. StandsAt nat_cmp (λ (row : Row C). row.run) run rows i) → AreHeld S rows round made
      → AreHeld S (remove rows i) (remove round 0) None
  held_forgotten rows [] i made some stands held = let bad : false ≡ true = some in cc
  held_forgotten rows (run ∷ others) i made some stands held = record {
    order = order_removed nat_cmp_total (λ (row : Row C). row.run) rows held.order i;
    each = subst (λ (xs : List (Row C)). All (IsSound S None []) xs) (sym (keys.removed numbers run rows i stands))
        (all_left (IsSound S None []) run rows (λ k d within apart. waited made run others (get_or rows k d) apart (held.each k d within)));
    kept = all_through (λ r apart kept. subst (λ (ks : List KeptRun). IsSome (run_kept r ks)) (sym (left_rows run rows i stands))
        (subst (λ (o : Option KeptRun). IsSome o) (sym (kept_without r run apart (all_bare rows))) kept)) others held.once.0 held.kept.1;
    once = held.once.1;
    stepping = tt;
  }

module _ {C : Type 0} where
  pub went_on : (rows : List (Row C)) (round : List ℕ) (i : ℕ) (x : Row C) → x ≡ get_or rows i x → IsSome (slice_get round 0)
      → IfSome (slice_get round 0) (λ run. StandsAt nat_cmp (λ (row : Row C). row.run) run rows i) → (steps : ℕ) (value : List ℕ) (next : Place)
      → seen (set rows i (record x { place = next })) (drop 1 round ++ take 1 round) (steps - 1) ≡ behind_next (seen rows round steps) (Mark value next) true
  went_on rows [] i x is some stands steps value next = let bad : false ≡ true = some in cc
  went_on rows (run ∷ others) i x is some stands steps value next =
      ap (λ (runs : List KeptRun). record { runs = runs; round = others ++ run ∷ []; steps = steps - 1 }) (moved_rows run rows i stands x next is)
      ∙ ap (λ (n : ℕ). record { runs = map (moved_to (bare x) next) (all_bare rows); round = others ++ n ∷ []; steps = steps - 1 }) (sym (number_at run rows i stands x is))
      ∙ ap (λ (o : Option KeptRun). option_map_or (λ (k : KeptRun). kept_behind (seen rows (run ∷ others) steps) k others (Mark value next) true) o (seen rows (run ∷ others) steps))
      (sym (found_bare run rows i stands x is))

  pub forgot : (rows : List (Row C)) (round : List ℕ) (i : ℕ) (x : Row C) → x ≡ get_or rows i x → IsSome (slice_get round 0)
      → IfSome (slice_get round 0) (λ run. StandsAt nat_cmp (λ (row : Row C). row.run) run rows i) → (steps status : ℕ) (goes_on : Bool)
      → seen (remove rows i) (remove round 0) (steps - 1) ≡ behind_next (seen rows round steps) (Done status) goes_on
  forgot rows [] i x is some stands steps status goes_on = let bad : false ≡ true = some in cc
  forgot rows (run ∷ others) i x is some stands steps status goes_on =
      ap (λ (runs : List KeptRun). record { runs = runs; round = others; steps = steps - 1 }) (left_rows run rows i stands)
      ∙ ap (λ (n : ℕ). record { runs = without_run n (all_bare rows); round = others; steps = steps - 1 }) (sym (number_at run rows i stands x is))
      ∙ ap (λ (o : Option KeptRun). option_map_or (λ (k : KeptRun). kept_behind (seen rows (run ∷ others) steps) k others (Done status) goes_on) o (seen rows (run ∷ others) steps))
      (sym (found_bare run rows i stands x is))

-- ---- what a step tells

pub place_within : {C : Type 0} (rows : List (Row C)) (round : List ℕ) (i : ℕ) → IsSome (slice_get round 0)
    → IfSome (slice_get round 0) (λ run. StandsAt nat_cmp (λ (row : Row C). row.run) run rows i) → i < length rows
place_within rows [] i some stands = let bad : false ≡ true = some in cc
place_within rows (run ∷ others) i some stands = stands.within

pub step_next : {C D : Type 0} (m : Meaning D) (rows : List (Row C)) (round : List ℕ) (i : ℕ) (x : Row C) (told : Report) (old new : D) → x ≡ get_or rows i x → IsSome (slice_get round 0)
    → IfSome (slice_get round 0) (λ run. StandsAt nat_cmp (λ (row : Row C). row.run) run rows i) → (steps : ℕ) → IsStep m (bare x) told old new → NextSteps m (seen rows round steps) told old new
step_next m rows [] i x told old new is some stands steps step = let bad : false ≡ true = some in cc
step_next m rows (run ∷ others) i x told old new is some stands steps step = (bare x, found_bare run rows i stands x is, step)

pub when_ok : {T E : Type 0} {P Q : T → Type 0} → (r : Result T E) → ((x : T) → P x → Q x) → IfOk r P → IfOk r Q
when_ok (Ok x) f h = f x h
when_ok (Err e) f h = tt
