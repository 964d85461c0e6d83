-- Rows with cursors as their callers see them, and what keeps them by number.
use Rattle.std.proofs.Common.{◌≡◌, ◌∙◌, ℕ, Bool, true, false, not, cond, List, [], ◌∷◌, get_or, map, refl, sym, ap, subst, arith, Option, Some, nat_lt, ◌==◌, if◌then◌else◌, option_map, IsSome, nat_cmp}
use Rattle.std.specs.Cmp.{nat_cmp_total, unsigned_ties}
use Rattle.std.specs.List.{AllByRecursion, filter, find}
use Rattle.std.proofs.lemmas.Bool.Decides.{nat_tests}
use Rattle.std.proofs.lemmas.List.{get_or-map, length-map}
use Rattle.qm_history.specs.Common.{Place, IsInOrder}
use Rattle.qm_keyed.proofs.Keys.{Keys}
use Rattle.qm_keyed.proofs.Rows.{lesser_is}
use Rattle.qm_model.specs.Kept.{KeptRun, moved_to, run_kept, without_run}
use Rattle.qm_node.specs.declared.row.Row.{Row}
use Rattle.qm_node.specs.Rows.{all_bare, bare}

-- rows by number
abbrev pub numbers : {C : Type 0} → Keys (Row C) ℕ
numbers = record {
  cmp = nat_cmp;
  key = λ row. row.run;
  has = λ number row. row.run == number;
  follows = λ number row. nat_lt number row.run;
  total = nat_cmp_total;
  has_tests = λ number row. unsigned_ties row.run number;
  follows_tests = λ number row. lesser_is number row.run;
}

module _ {C : Type 0} where
  kept_bare_at : (row : Row C) (o : Option (Row C)) (ks : Option KeptRun) → ks ≡ option_map bare o → (b : Bool) → cond b (Some (bare row)) ks ≡ option_map bare (cond b (Some row) o)
  kept_bare_at row o ks is true = refl
  kept_bare_at row o ks is false = is

  pub kept_bare : (run : ℕ) (rows : List (Row C)) → run_kept run (all_bare rows) ≡ option_map bare (find (λ (row : Row C). row.run == run) rows)
  kept_bare run [] = refl
  kept_bare run (row ∷ rows) = kept_bare_at row _ _ (kept_bare run rows) (row.run == run)

  without_bare_at : (row : Row C) (rows : List (Row C)) (ks : List KeptRun) → all_bare rows ≡ ks → (b : Bool) → all_bare (cond (not b) (row ∷ rows) rows) ≡ cond (not b) (bare row ∷ ks) ks
  without_bare_at row rows ks is true = is
  without_bare_at row rows ks is false = ap (λ (ks : List KeptRun). bare row ∷ ks) is

  pub without_bare : (run : ℕ) (rows : List (Row C)) → all_bare (filter (λ (row : Row C). not (row.run == run)) rows) ≡ without_run run (all_bare rows)
  without_bare run [] = refl
  without_bare run (row ∷ rows) = without_bare_at row _ _ (without_bare run rows) (row.run == run)

  moved_bare_at : (stepped row : Row C) (next : Place) (xs ys : List KeptRun) → xs ≡ ys → (b : Bool)
      → bare (cond b (record stepped { place = next }) row) ∷ xs ≡ cond b (record (bare stepped) { place = next }) (bare row) ∷ ys
  moved_bare_at stepped row next xs ys is true = ap (λ (ks : List KeptRun). record (bare stepped) { place = next } ∷ ks) is
  moved_bare_at stepped row next xs ys is false = ap (λ (ks : List KeptRun). bare row ∷ ks) is

  pub moved_bare : (run : ℕ) (stepped : Row C) (next : Place) (rows : List (Row C))
      → all_bare (map (λ (row : Row C). if row.run == run then record stepped { place = next } else row) rows)
      ≡ map (λ (k : KeptRun). if k.run == run then record (bare stepped) { place = next } else k) (all_bare rows)
  moved_bare run stepped next [] = refl
  moved_bare run stepped next (row ∷ rows) = moved_bare_at stepped row next _ _ (moved_bare run stepped next rows) (row.run == run)

module _ {C : Type 0} where
  pub known_bare : (rows : List (Row C)) → map (λ (k : KeptRun). k.run) (all_bare rows) ≡ map (λ (row : Row C). row.run) rows
  known_bare [] = refl
  known_bare (row ∷ rows) = ap (λ (ns : List ℕ). row.run ∷ ns) (known_bare rows)

  -- rows by number have rising numbers
  pub numbers_rise : (rows : List (Row C)) → IsInOrder nat_cmp (λ (row : Row C). row.run) rows → IsInOrder nat_cmp (λ (run : ℕ). run) (map (λ (row : Row C). row.run) rows)
  numbers_rise [] order i j d below within = absurd (omega (arith, within))
  numbers_rise (x ∷ xs) order i j d below within =
      let size = length-map (x ∷ xs) (λ (row : Row C). row.run) in
      let first : get_or (map (λ (row : Row C). row.run) (x ∷ xs)) i d ≡ (get_or (x ∷ xs) i x).run = get_or-map (λ (row : Row C). row.run) (x ∷ xs) i x d (omega (arith, below, within, size)) in
      let second : get_or (map (λ (row : Row C). row.run) (x ∷ xs)) j d ≡ (get_or (x ∷ xs) j x).run = get_or-map (λ (row : Row C). row.run) (x ∷ xs) j x d (omega (arith, within, size)) in
      rw (first, second) (order i j x below (omega (arith, within, size)))

  pub order_bare : (rows : List (Row C)) → IsInOrder nat_cmp (λ (row : Row C). row.run) rows → IsInOrder nat_cmp (λ (k : KeptRun). k.run) (all_bare rows)
  order_bare [] order i j d below within = absurd (omega (arith, within))
  order_bare (x ∷ xs) order i j d below within =
      let size = length-map (x ∷ xs) (bare {C = C}) in
      let first : get_or (all_bare (x ∷ xs)) i d ≡ bare (get_or (x ∷ xs) i x) = get_or-map bare (x ∷ xs) i x d (omega (arith, below, within, size)) in
      let second : get_or (all_bare (x ∷ xs)) j d ≡ bare (get_or (x ∷ xs) j x) = get_or-map bare (x ∷ xs) j x d (omega (arith, within, size)) in
      rw (first, second) (order i j x below (omega (arith, within, size)))

-- ---- one run less, or one that moved

same_too : (a b c : ℕ) → (a == b) ≡ true → (c == b) ≡ false → (a == c) ≡ false
same_too a b c same other = grind (arith, nat_tests)

test_same : (a b c : ℕ) → (a == b) ≡ true → (a == c) ≡ (b == c)
test_same a b c same = grind (arith, nat_tests)

pub itself : (a : ℕ) → (a == a) ≡ true
itself a = grind (arith, nat_tests)

kept_without_at : (run gone : ℕ) → (run == gone) ≡ false → (k : KeptRun) (ks : List KeptRun) → run_kept run (without_run gone ks) ≡ run_kept run ks → (b : Bool) → (k.run == gone) ≡ b
    → run_kept run (cond (not b) (k ∷ without_run gone ks) (without_run gone ks)) ≡ cond (k.run == run) (Some k) (run_kept run ks)
kept_without_at run gone other k ks on true is = on ∙ ap (λ (b : Bool). cond b (Some k) (run_kept run ks)) (sym (same_too k.run gone run is other))
kept_without_at run gone other k ks on false is = ap (λ (o : Option KeptRun). cond (k.run == run) (Some k) o) on

pub kept_without : (run gone : ℕ) → (run == gone) ≡ false → (ks : List KeptRun) → run_kept run (without_run gone ks) ≡ run_kept run ks
kept_without run gone other [] = refl
kept_without run gone other (k ∷ ks) = kept_without_at run gone other k ks (kept_without run gone other ks) (k.run == gone) refl

some_behind : (o after : Option KeptRun) (x y : KeptRun) → (IsSome o → IsSome after) → (b : Bool) → IsSome (cond b (Some x) o) → IsSome (cond b (Some y) after)
some_behind o after x y on true h = refl
some_behind o after x y on false h = on h

kept_moved_at : (run : ℕ) (stepped : KeptRun) (next : Place) (k : KeptRun) (o after : Option KeptRun) → (IsSome o → IsSome after) → IsSome (cond (k.run == run) (Some k) o) → (b : Bool) → (k.run == stepped.run) ≡ b
    → IsSome (cond ((cond b (record stepped { place = next }) k).run == run) (Some (cond b (record stepped { place = next }) k)) after)
kept_moved_at run stepped next k o after on some true is =
    subst (λ (c : Bool). IsSome (cond c (Some (record stepped { place = next })) after)) (test_same k.run stepped.run run is)
    (some_behind o after k (record stepped { place = next }) on (k.run == run) some)
kept_moved_at run stepped next k o after on some false is = some_behind o after k k on (k.run == run) some

pub kept_moved : (run : ℕ) (stepped : KeptRun) (next : Place) (ks : List KeptRun) → IsSome (run_kept run ks) → IsSome (run_kept run (map (moved_to stepped next) ks))
kept_moved run stepped next [] some = some
kept_moved run stepped next (k ∷ ks) some =
    kept_moved_at run stepped next k (run_kept run ks) (run_kept run (map (moved_to stepped next) ks)) (kept_moved run stepped next ks) some (k.run == stepped.run) refl

pub all_through : {P Q R : ℕ → Type 0} → ((run : ℕ) → P run → Q run → R run) → (runs : List ℕ) → AllByRecursion P runs → AllByRecursion Q runs → AllByRecursion R runs
all_through f [] ps qs = tt
all_through f (run ∷ runs) ps qs = (f run ps.0 qs.0, all_through f runs ps.1 qs.1)
