-- What the rule says at once of the views that are there.
use Rattle.std.proofs.Common.{◌≡◌, ◌≢◌, ℕ, ◌+◌, ◌*◌, ◌≤◌, List, [], ◌∷◌, length, slice_index, set, refl, sym, ap, ◌∙◌, subst, arith, inl, inr, ⊎_elim, Option as Optional}
use mathlib.Core.Option.{Option, some, some-injective}
use mathlib.Core.Logic.{dite}
use native.Mathlib.Decide.{ℕ_discrete}
use Rattle.atomic_table.proofs.Lists.{set_else}
use lib.ListN.{get_elem?}
use Rattle.atomic_table.specs.Table.{State}
use Rattle.qm_turn.specs.declared.view.View.{View}
use Rattle.qm_turn.specs.declared.view.Phase.{Phase}
use Rattle.qm_turn.specs.declared.view.Phase.TheVariants.{Rests, Waits, Served, Spent}
use Rattle.qm_turn.specs.History.{times, numbers_of}
use Rattle.qm_turn.specs.Rule.{most, total, tickets, numbers, pairs, unless_spent, count, drawn, IsServed, Phased, Home, Out, Slot, Kept}
use Rattle.qm_turn.proofs.Counts.{below_le, times_first, total_two, total_most, each_set}
use Rattle.qm_turn.proofs.Histories.{length-numbers_of}

-- a view's tickets and pairs, by its phase
module _ {N : Type 0} (v : View N) where
  pub pairs_there : ¬ (v.phase ≡ Spent) → pairs v ≡ (v.number, v.mine) ∷ v.took
  pairs_there there = by_phase v.phase there
    where
      by_phase : (p : Phase) → ¬ (p ≡ Spent) → unless_spent p ((v.number, v.mine) ∷ v.took) ≡ (v.number, v.mine) ∷ v.took
      by_phase Rests there = refl
      by_phase (Waits t) there = refl
      by_phase (Served t) there = refl
      by_phase Spent there = absurd (there refl)

-- one that is served has the ticket of the next turn
pub served_ticket : {N : Type 0} (log seen : List (ℕ × N)) (p : Phase) → Phased log seen p → IsServed p → tickets p ≡ length log ∷ []
served_ticket log seen Rests f s = absurd s
served_ticket log seen (Waits t) f s = absurd s
served_ticket log seen (Served t) f s = ap (λ n. n ∷ []) f.0
served_ticket log seen Spent f s = absurd s

-- the phase of one that is not served is as well at a longer history
pub phased_unserved : {N : Type 0} (log seen : List (ℕ × N)) (p : Phase) → ¬ IsServed p → Phased log seen p
phased_unserved log seen Rests un = tt
phased_unserved log seen (Waits t) un = tt
phased_unserved log seen (Served t) un = absurd (un tt)
phased_unserved log seen Spent un = tt

-- the slot stays as it is where a pass changes that neither was nor is served
module _ {V N : Type 0} (stands : V → List N → Type 0) (log : List (ℕ × N)) (homes : List (Option (Optional V))) (views : List (View N)) (id : ℕ) (v w : View N) (at : get_elem? views id ≡ some v) (before : ¬ IsServed v.phase) (after : ¬ IsServed w.phase) where
  out_stays : Out homes views → Out homes (set views id w)
  out_stays o =
      dite (ℕ_discrete o.1.0 id)
      (λ e. absurd (before (subst (λ (u : View N). IsServed u.phase) (some-injective _ _ (sym o.1.2 ∙ ap (get_elem? views) e ∙ at)) o.1.3)))
      (λ ne. (o.0, (o.1.0, o.1.1, set_else views id o.1.0 w ne ∙ o.1.2, o.1.3)))

  pub slot_stays : Slot stands log homes views → Slot stands log homes (set views id w)
  slot_stays slot =
      ⊎_elim
      (λ (h : Home stands log homes views). inl (h.0, h.1, h.2, each_set (λ u. ¬ IsServed u.phase) views id w (λ j u apart e. h.3 j u e) after))
      (λ (o : Out homes views). inr (out_stays o))
      slot

module _ {V N : Type 0} (stands : V → List N → Type 0) (passes : ℕ) (s : State (Optional V) (View N)) (k : Kept stands passes s) where
  -- two views never have one ticket
  pub one_ticket : (i j t : ℕ) (v w : View N) → get_elem? s.views i ≡ some v → get_elem? s.views j ≡ some w → tickets v.phase ≡ t ∷ [] → tickets w.phase ≡ t ∷ [] → i ≢ j → ⊥
  one_ticket i j t v w a b x y apart =
      let f : View N → ℕ = λ u. times t (tickets u.phase) in
      let both = total_two f s.views i j v w a b apart in
      let p : f v ≡ 1 + times t [] = ap (times t) x ∙ times_first t [] in
      let q : f w ≡ 1 + times t [] = ap (times t) y ∙ times_first t [] in
      let all = k.tickets_out t in
      let most_one = below_le t k.next in
      absurd (omega arith)

  -- beside one with the ticket of the next turn no other is served
  pub alone : (i j : ℕ) (v w : View N) → get_elem? s.views i ≡ some v → get_elem? s.views j ≡ some w → tickets v.phase ≡ length k.log ∷ [] → IsServed w.phase → i ≢ j → ⊥
  alone i j v w a b x served apart = one_ticket i j (length k.log) v w a b x (served_ticket k.log w.seen w.phase (k.fits j w b).phased served) apart

  -- a number stands in one view
  pub one_number : (i j n : ℕ) (v w : View N) → get_elem? s.views i ≡ some v → get_elem? s.views j ≡ some w → 1 ≤ times n (numbers v) → i ≢ j → times n (numbers w) ≡ 0
  one_number i j n v w a b x apart =
      let f : View N → ℕ = λ u. times n (numbers u) in
      let both : f v + f w ≤ total f s.views = total_two f s.views i j v w a b apart in
      let all = k.numbers_given n in
      let most_one = below_le n k.given in
      let x' : 1 ≤ f v = x in
      let r : f w ≡ 0 = omega arith in r

  -- tickets are far from spent
  few_drawn : (j : ℕ) (v : View N) → get_elem? s.views j ≡ some v → drawn v ≤ most * length (numbers v)
  few_drawn j v e = by_phase v.phase (k.fits j v e).room
    where
      by_phase : (p : Phase) → length v.mine + length (tickets p) ≤ most → count (unless_spent p ((v.number, v.mine) ∷ v.took)) + length (tickets p) ≤ most * length (numbers_of (unless_spent p ((v.number, v.mine) ∷ v.took)))
      by_phase Rests r = let few = (k.fits j v e).few in let l = length-numbers_of v.took in omega arith
      by_phase (Waits t) r = let few = (k.fits j v e).few in let l = length-numbers_of v.took in omega arith
      by_phase (Served t) r = let few = (k.fits j v e).few in let l = length-numbers_of v.took in omega arith
      by_phase Spent r = omega arith

  pub next_is_small : k.next ≤ 274877906880
  next_is_small =
      let a = total_most drawn (λ v. length (numbers v)) most s.views few_drawn in
      let b = k.tickets_drawn in
      let c = k.how_many in
      let d = k.within in omega arith

  pub word_serving : slice_index s.words 0 ≡ length k.log
  word_serving = ap (λ ws. slice_index ws 0) k.words

  pub word_next : slice_index s.words 1 ≡ k.next
  word_next = ap (λ ws. slice_index ws 1) k.words
