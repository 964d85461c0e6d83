-- A pass draws a ticket.
use Rattle.std.proofs.Common.{◌≡◌, ℕ, ◌+◌, ◌<◌, ◌%◌, ◌^◌, ◌==◌, List, [], ◌∷◌, length, slice_index, set, if◌then◌else◌, refl, sym, ap, ◌∙◌, subst, arith, Option as Optional}
use mathlib.Core.Option.{none, some}
use lib.ListN.{get_elem?}
use Rattle.atomic_table.specs.Table.{State, Allows, keeps, step}
use Rattle.qm_turn.specs.declared.view.View.{View}
use Rattle.qm_turn.specs.declared.view.Phase.TheVariants.{Rests, Waits}
use Rattle.qm_turn.specs.History.{times, numbers_of, Agrees}
use Rattle.qm_turn.specs.Rule.{most, total, below, tickets, pairs, unless_spent, drawn, IsServed, Fits, Kept, Slot, Sat, in_phase, Draws}
use Rattle.qm_turn.proofs.Counts.{below_next, total_set, each_set}
use Rattle.qm_turn.proofs.Facts.{slot_stays, next_is_small, word_next}

module _ {V N : Type 0} (stands : V → List N → Type 0) (passes : ℕ) (s : State (Optional V) (View N)) (k : Kept stands passes s) (id : ℕ) (v : View N) (at : get_elem? s.views id ≡ some v) (rests : v.phase ≡ Rests) (room : length v.mine < most) where
  abbrev found : ℕ
  found = slice_index s.words 1

  abbrev w : View N
  w = in_phase v (Waits found)

  found_is : found ≡ k.next
  found_is = word_next stands passes s k

  pairs_stay : pairs v ≡ pairs w
  pairs_stay = ap (λ p. unless_spent p ((v.number, v.mine) ∷ v.took)) rests

  no_ticket : tickets v.phase ≡ []
  no_ticket = ap tickets rests

  unserved : ¬ IsServed v.phase
  unserved is = subst IsServed rests is

  words : set s.words 1 ((found + 1) % 2 ^ 64) ≡ length k.log ∷ (k.next + 1) ∷ []
  words =
      let small = next_is_small stands passes s k in
      let m : (k.next + 1) % 18446744073709551616 ≡ k.next + 1 = omega arith in
      ap (λ ws. set ws 1 ((slice_index ws 1 + 1) % 18446744073709551616)) k.words ∙ ap (λ n. length k.log ∷ n ∷ []) m

  slot : Slot stands k.log s.homes (set s.views id w)
  slot = slot_stays stands k.log s.homes s.views id v w at unserved (λ is. is) k.slot

  tickets_out : (t : ℕ) → total (λ u. times t (tickets u.phase)) (set s.views id w) + below t (length k.log) ≡ below t (k.next + 1)
  tickets_out t =
      let f : View N → ℕ = λ u. times t (tickets u.phase) in
      let moved : total f (set s.views id w) + f v ≡ total f s.views + f w = total_set f s.views id v w at in
      let none : f v ≡ 0 = ap (times t) no_ticket in
      let one : f w ≡ (if k.next == t then 1 else 0) + 0 = ap (λ n. (if n == t then 1 else 0) + 0) found_is in
      let all = k.tickets_out t in
      let more = below_next t k.next in
      omega arith

  -- what is counted of the pairs alone stays
  same_total : (g : List (ℕ × List N) → ℕ) → total (λ u. g (pairs u)) (set s.views id w) ≡ total (λ u. g (pairs u)) s.views
  same_total g =
      let f : View N → ℕ = λ u. g (pairs u) in
      let moved : total f (set s.views id w) + f v ≡ total f s.views + f w = total_set f s.views id v w at in
      let same : f v ≡ f w = ap g pairs_stay in
      let r : total f (set s.views id w) ≡ total f s.views = omega arith in r

  one_more : total (λ u. drawn u) (set s.views id w) ≡ k.next + 1
  one_more =
      let moved = total_set drawn s.views id v w at in
      let p : drawn v ≡ drawn (record v { phase = Rests }) = ap (λ p. drawn (record v { phase = p })) rests in
      let all = k.tickets_drawn in
      omega arith

  fits : (j : ℕ) (u : View N) → get_elem? (set s.views id w) j ≡ some u → Fits k.log k.given u
  fits =
      let f = k.fits id v at in
      each_set (Fits k.log k.given) s.views id w (λ j u apart e. k.fits j u e) (record {
        seen = f.seen;
        heard = f.heard;
        agrees = subst (λ ps. Agrees k.log ps) pairs_stay f.agrees;
        phased = tt;
        gives = f.gives;
        room = omega arith;
        few = f.few;
      })

  after : Kept stands passes (record { words = set s.words 1 ((found + 1) % 2 ^ 64); homes = s.homes; views = set s.views id w })
  after = record {
    log = k.log;
    next = k.next + 1;
    given = k.given;
    words = words;
    slot = slot;
    tickets_out = tickets_out;
    numbers_given = λ n. same_total (λ ps. times n (numbers_of ps)) ∙ k.numbers_given n;
    how_many = same_total (λ ps. length (numbers_of ps)) ∙ k.how_many;
    one_gives = (let moved = total_set (λ (u : View N). u.given) s.views id v w at in let all = k.one_gives in omega arith);
    tickets_drawn = one_more;
    fits = fits;
    unmade = k.unmade;
    within = k.within;
  }

pub draws : {V N : Type 0} (stands : V → List N → Type 0) (passes slots id : ℕ) (me : Sat V N) → me.0.phase ≡ Rests → me.1 ≡ [] → length me.0.mine < most
    → Allows (Kept stands passes) slots id me 1 (λ n. (n + 1) % 2 ^ 64) (Draws (step slots 1 1 0 none) me)
draws {V} {N} stands passes slots id me rests empty room =
    let at_none : Allows (Kept stands passes) slots id (me.0, []) 1 (λ n. (n + 1) % 2 ^ 64) (Draws (step slots 1 1 0 none) (me.0, [])) =
    λ s k long at small. (w stands passes s k id me.0 at rests room, keeps, tt, after stands passes s k id me.0 at rests room, refl) in
    subst (λ (c : List (ℕ × Optional V)). Allows (Kept stands passes) slots id (me.0, c) 1 (λ n. (n + 1) % 2 ^ 64) (Draws (step slots 1 1 0 none) (me.0, c))) (sym empty) at_none
