-- What is left once the last pass is there.
use Rattle.std.proofs.Common.{◌≡◌, ℕ, ◌+◌, ◌<◌, ◌≤◌, List, ◌∷◌, Some, None, sym, ap, ◌∙◌, subst, arith, ⊎_elim, Option as Optional}
use mathlib.Core.Option.{some, some-injective}
use mathlib.Core.Logic.{dite}
use native.Mathlib.Decide.{ℕ_discrete}
use lib.ListN.{get_elem?}
use Rattle.atomic_table.specs.Table.{State, Final, Seen}
use Rattle.atomic_table.specs.Seated.{TableId}
use Rattle.qm_turn.specs.declared.view.View.{View}
use Rattle.qm_turn.specs.declared.view.Phase.{Phase}
use Rattle.qm_turn.specs.declared.view.Phase.TheVariants.{Rests, Waits, Served, Spent}
use Rattle.qm_turn.specs.History.{times, numbers_of, Agrees}
use Rattle.qm_turn.specs.Turns.{Known, IsLast, Closed}
use Rattle.qm_turn.specs.Rule.{total, below, numbers, pairs, unless_spent, IsServed, Home, Out, Kept, known}
use Rattle.qm_turn.proofs.Counts.{below_le, below_some, times_first, total_one, total_two}

-- one that is served has a number
has_number : {N : Type 0} (u : View N) → IsServed u.phase → 1 ≤ times u.number (numbers u)
has_number u is = by_phase u.phase is
  where
    by_phase : (p : Phase) → IsServed p → 1 ≤ times u.number (numbers_of (unless_spent p ((u.number, u.mine) ∷ u.took)))
    by_phase Rests is = absurd is
    by_phase (Waits t) is = absurd is
    by_phase (Served t) is = omega (arith, times_first u.number (numbers_of u.took))
    by_phase Spent is = absurd is

module _ {V N : Type 0} (stands : V → List N → Type 0) (passes : ℕ) (s : State (Optional V) (View N)) (k : Kept stands passes s) (id : ℕ) (v : View N) (at : get_elem? s.views id ≡ some v) (rests : v.phase ≡ Rests) (place : TableId) (last : IsLast passes (known place v)) where
  own_pairs : pairs v ≡ (v.number, v.mine) ∷ v.took
  own_pairs = ap (λ p. unless_spent p ((v.number, v.mine) ∷ v.took)) rests

  no_second : (j : ℕ) (u : View N) → ¬ (id ≡ j) → get_elem? s.views j ≡ some u → IsServed u.phase → ⊥
  no_second j u apart there is =
      let n : ℕ = u.number in
      let f : View N → ℕ = λ x. times n (numbers x) in
      let one : 1 ≤ f u = has_number u is in
      let some_there : f u ≤ total f s.views = total_one f s.views j u there in
      let all : total f s.views ≡ below n k.given = k.numbers_given n in
      let given : n < k.given = below_some n k.given (omega arith) in
      let within = k.within.0 in
      let mine : 1 ≤ times n (numbers_of ((v.number, v.mine) ∷ v.took)) = last n (omega arith) in
      let same : f v ≡ times n (numbers_of ((v.number, v.mine) ∷ v.took)) = ap (λ ps. times n (numbers_of ps)) own_pairs in
      let two : f v + f u ≤ total f s.views = total_two f s.views id j v u at there apart in
      let most_one = below_le n k.given in
      absurd (omega arith)

  not_out : Out s.homes s.views → ⊥
  not_out o =
      dite (ℕ_discrete id o.1.0)
      (λ e. subst IsServed rests (subst (λ (u : View N). IsServed u.phase) (some-injective _ _ (sym o.1.2 ∙ sym (ap (get_elem? s.views) e) ∙ at)) o.1.3))
      (λ apart. no_second o.1.0 o.1.1 apart o.1.2 o.1.3)

  home : Home stands k.log s.homes s.views
  home = ⊎_elim (λ h. h) (λ (o : Out s.homes s.views). absurd (not_out o)) k.slot

  closed : Closed stands passes (known place v) home.0
  closed = record {
    log = k.log;
    value_stands = home.2;
    seen = (k.fits id v at).seen;
    agrees = subst (λ ps. Agrees k.log ps) own_pairs (k.fits id v at).agrees;
    no_others = λ n h. k.unmade n (let within = k.within.0 in omega arith);
  }

pub closes : {V N : Type 0} (stands : V → List N → Type 0) (passes : ℕ) (ws : List ℕ) (xs : List (Optional V)) (id : ℕ) (v : View N) (place : TableId) (pass : Known N)
    → Final (Seen (Kept stands passes) id v) ws xs → v.phase ≡ Rests → known place v ≡ pass → IsLast passes pass → (x : V) × (get_elem? xs 0 ≡ some (Some x)) × Closed stands passes pass x
closes {V} {N} stands passes ws xs id v place pass final rests is last =
    let s = final.0 in
    let kept = final.1.0 in
    let at = final.1.1 in
    let mine : IsLast passes (known place v) = subst (IsLast passes) (sym is) last in
    let h = home stands passes s kept id v at rests place mine in (
      h.0,
      final.4 0 (Some h.0) (ap (λ hs. get_elem? hs 0) h.1),
      subst (λ p. Closed stands passes p h.0) is (closed stands passes s kept id v at rests place mine),
    )

-- the slot's value is the one that stands for the history
pub closes_with : {V N : Type 0} (stands : V → List N → Type 0) (key passes : ℕ) (ws : List ℕ) (xs : List (Optional V)) (id : ℕ) (v : View N) (place : TableId) (pass : Known N) (y : V)
    → Final (Seen (Kept stands key) id v) ws xs → v.phase ≡ Rests → known place v ≡ pass → key ≡ passes → IsLast passes pass → get_elem? xs 0 ≡ some (Some y) → Closed stands passes pass y
closes_with stands key passes ws xs id v place pass y final rests is same last there =
    let mine : IsLast key pass = subst (λ n. IsLast n pass) (sym same) last in
    let c = closes stands key ws xs id v place pass final rests is mine in
    let e : Some c.0 ≡ Some y = some-injective _ _ (sym c.1 ∙ there) in
    let value : c.0 ≡ y = cc in
    subst (λ n. Closed stands n pass y) same (subst (λ x. Closed stands key pass x) value c.2)

pub closes_full : {V N : Type 0} (stands : V → List N → Type 0) (key passes : ℕ) (ws : List ℕ) (xs : List (Optional V)) (id : ℕ) (v : View N) (place : TableId) (pass : Known N)
    → Final (Seen (Kept stands key) id v) ws xs → v.phase ≡ Rests → known place v ≡ pass → key ≡ passes → IsLast passes pass → get_elem? xs 0 ≡ some None → ⊥
closes_full stands key passes ws xs id v place pass final rests is same last there =
    let mine : IsLast key pass = subst (λ n. IsLast n pass) (sym same) last in
    let c = closes stands key ws xs id v place pass final rests is mine in
    let e : Some c.0 ≡ None = some-injective _ _ (sym c.1 ∙ there) in
    cc
