-- The rule at opening, and a new pass that gets the next number.
use Rattle.std.proofs.Common.{◌≡◌, ◌≢◌, ℕ, zero, suc, ◌+◌, ◌<◌, ◌≤◌, ◌==◌, List, [], ◌∷◌, ◌++◌, length, set, Some, if◌then◌else◌, refl, sym, ap, ◌∙◌, subst, arith, inl, inr, ⊎_elim, Option as Optional}
use mathlib.Core.Option.{Option, some, some-injective, some-ne-none}
use lib.ListN.{get_elem?}
use Rattle.atomic_table.specs.Table.{State, Splits, opening}
use Rattle.qm_turn.specs.declared.view.View.{View}
use Rattle.qm_turn.specs.History.{times}
use Rattle.qm_turn.specs.Rule.{total, tickets, numbers, below, drawn, IsServed, Fits, Home, Out, Slot, Kept, known, pass_view, first_view, one_given, newcomer}
use Rattle.atomic_table.specs.Seated.{TableId}
use Rattle.qm_turn.specs.Turns.{fresh}
use Rattle.qm_turn.proofs.Counts.{below_next, total_set, total_snoc, total_two, each_set, each_snoc}
use Rattle.qm_turn.proofs.Histories.{prefix_nil}
use Rattle.qm_turn.proofs.Facts.{slot_stays}
use Rattle.atomic_table.proofs.Lists.{at_longer}
use Rattle.std.proofs.lemmas.Bool.Decides.{nat_tests}

-- what is so at opening
pub opens : {V N : Type 0} (stands : V → List N → Type 0) (passes : ℕ) (x : V) → 1 ≤ passes → passes ≤ 64 → stands x [] → Kept stands passes (opening (0 ∷ 0 ∷ []) (Some x ∷ []) (first_view {N = N}))
opens {V} {N} stands passes x some_pass few untouched = record {
  log = [];
  next = 0;
  given = 1;
  words = refl;
  slot = inl (x, refl, untouched, λ j v e. alone j v e);
  tickets_out = λ t. omega arith;
  numbers_given = first_number;
  how_many = refl;
  one_gives = refl;
  tickets_drawn = refl;
  fits = λ j v e. fitting j v e;
  unmade = λ n h. refl;
  within = (some_pass, few);
}
  where
    first_number : (n : ℕ) → (if 0 == n then 1 else 0) + 0 + 0 ≡ below n 1
    first_number n = grind (arith, nat_tests)

    alone : (j : ℕ) (v : View N) → get_elem? (first_view ∷ []) j ≡ some v → ¬ IsServed v.phase
    alone zero v e = subst (λ (u : View N). ¬ IsServed u.phase) (some-injective _ _ e) (λ is. is)
    alone (suc j) v e = absurd (some-ne-none v (sym e))

    fitting : (j : ℕ) (v : View N) → get_elem? (first_view ∷ []) j ≡ some v → Fits [] 1 v
    fitting zero v e = subst (Fits [] 1) (some-injective _ _ e) (record { seen = prefix_nil []; heard = prefix_nil []; agrees = (refl, tt); phased = tt; gives = inr refl; room = omega arith; few = omega arith })
    fitting (suc j) v e = absurd (some-ne-none v (sym e))

module _ {V N : Type 0} (stands : V → List N → Type 0) (passes : ℕ) (s : State (Optional V) (View N)) (k : Kept stands passes s) (id n : ℕ) (at : get_elem? s.views id ≡ some (pass_view 0 [] (n + 1))) (room : n + 1 < passes) where
  abbrev v : View N
  v = pass_view 0 [] (n + 1)

  abbrev w : View N
  w = one_given v

  abbrev new : View N
  new = newcomer v

  abbrev views : List (View N)
  views = set s.views id w ++ new ∷ []

  next_number : n + 1 ≡ k.given
  next_number = ⊎_elim (λ (z : n + 1 ≡ 0). absurd (omega arith)) (λ (e : n + 1 ≡ k.given). e) (k.fits id v at).gives

  new_total : (f : View N → ℕ) → total f views + f v ≡ total f s.views + f w + f new
  new_total f =
      let moved : total f (set s.views id w) + f v ≡ total f s.views + f w = total_set f s.views id v w at in
      let more : total f views ≡ total f (set s.views id w) + f new = total_snoc f (set s.views id w) new in
      omega arith

  slot_more : (homes : List (Option (Optional V))) (vs : List (View N)) → Slot stands k.log homes vs → Slot stands k.log homes (vs ++ new ∷ [])
  slot_more homes vs =
      ⊎_elim
      (λ (h : Home stands k.log homes vs). inl (h.0, h.1, h.2, each_snoc (λ u. ¬ IsServed u.phase) vs new h.3 (λ is. is)))
      (λ (o : Out homes vs). inr (o.0, (o.1.0, o.1.1, at_longer vs (new ∷ []) o.1.0 o.1.1 o.1.2, o.1.3)))

  slot : Slot stands k.log s.homes views
  slot = slot_more s.homes (set s.views id w) (slot_stays stands k.log s.homes s.views id v w at (λ is. is) (λ is. is) k.slot)

  no_other : (j : ℕ) (u : View N) → j ≢ id → get_elem? s.views j ≡ some u → u.given ≡ 0
  no_other j u apart e =
      let two : (n + 1) + u.given ≤ total (λ x. x.given) s.views = total_two (λ x. x.given) s.views id j v u at e (λ same. apart (sym same)) in
      let all = k.one_gives in
      let is = next_number in
      omega arith

  old_fits : (j : ℕ) (u : View N) → get_elem? (set s.views id w) j ≡ some u → Fits k.log (k.given + 1) u
  old_fits =
      let f = k.fits id v at in
      each_set (Fits k.log (k.given + 1)) s.views id w
      (λ j u apart e. (let g = k.fits j u e in record { seen = g.seen; heard = g.heard; agrees = g.agrees; phased = g.phased; gives = inl (no_other j u apart e); room = g.room; few = g.few }))
      (record { seen = f.seen; heard = f.heard; agrees = f.agrees; phased = tt; gives = inr (ap (λ m. m + 1) next_number); room = f.room; few = f.few })

  fits : (j : ℕ) (u : View N) → get_elem? views j ≡ some u → Fits k.log (k.given + 1) u
  fits =
      each_snoc (Fits k.log (k.given + 1)) (set s.views id w) new old_fits
      (record { seen = prefix_nil k.log; heard = prefix_nil k.log; agrees = (k.unmade (n + 1) (omega (arith, next_number)), tt); phased = tt; gives = inl refl; room = omega arith; few = omega arith })

  after : Kept stands passes (record { words = s.words; homes = s.homes; views = views })
  after = record {
    log = k.log;
    next = k.next;
    given = k.given + 1;
    words = k.words;
    slot = slot;
    tickets_out = λ t. (let f : View N → ℕ = λ u. times t (tickets u.phase) in let all = new_total f in let was = k.tickets_out t in omega arith);
    numbers_given = λ m. (
        let f : View N → ℕ = λ u. times m (numbers u) in
        let all = new_total f in
        let was = k.numbers_given m in
        let fresh : f new ≡ (if k.given == m then 1 else 0) + 0 = ap (λ a. (if a == m then 1 else 0) + 0) next_number in
        let more = below_next m k.given in
        omega arith);
    how_many = (let all = new_total (λ u. length (numbers u)) in let was = k.how_many in omega arith);
    one_gives = (let all = new_total (λ u. u.given) in let was = k.one_gives in omega arith);
    tickets_drawn = (let all = new_total drawn in let was = k.tickets_drawn in omega arith);
    fits = fits;
    unmade = λ m h. k.unmade m (omega arith);
    within = (let few = k.within.1 in let is = next_number in (omega arith, few));
  }

splits_at : {V N : Type 0} (stands : V → List N → Type 0) (passes id n : ℕ) → n + 1 < passes → Splits (Kept stands passes) id (pass_view {N = N} 0 [] (n + 1)) (one_given (pass_view 0 [] (n + 1))) (newcomer (pass_view 0 [] (n + 1)))
splits_at stands passes id n room s k at = after stands passes s k id n at room

pub splits : {V N : Type 0} (stands : V → List N → Type 0) (passes id m : ℕ) (v : View N) → v ≡ pass_view 0 [] m → 1 ≤ m → m < passes → Splits (Kept stands passes) id v (one_given v) (newcomer v)
splits {V} {N} stands passes id zero v is some_pass room = absurd (omega arith)
splits {V} {N} stands passes id (suc n) v is some_pass room =
    subst (λ (u : View N). Splits (Kept stands passes) id u (one_given u) (newcomer u)) (sym (is ∙ ap (pass_view 0 []) (add_one n))) (splits_at stands passes id n (omega arith))
  where
    add_one : (n : ℕ) → suc n ≡ n + 1
    add_one n = omega arith

pub new_pass : {N : Type 0} (table place : TableId) (v : View N) (n : ℕ) → table ≡ place → v ≡ pass_view n [] 0 → known table v ≡ fresh place n
new_pass table place v n same is = λ i. known (same i) (is i)
