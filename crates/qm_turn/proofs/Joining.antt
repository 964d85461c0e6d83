-- One pass takes in another.
use Rattle.std.proofs.Common.{◌≡◌, ◌⊎◌, ◌≢◌, ℕ, ◌+◌, ◌*◌, ◌≤◌, List, ◌∷◌, ◌++◌, length, set, refl, sym, ap, ◌∙◌, subst, arith, inl, inr, ⊎_elim, length-append, Option as Optional}
use mathlib.Core.Option.{some}
use lib.ListN.{get_elem?}
use Rattle.atomic_table.specs.Table.{State, Joins}
use Rattle.atomic_table.proofs.Lists.{at_set}
use Rattle.qm_turn.specs.declared.view.View.{View}
use Rattle.qm_turn.specs.declared.view.Phase.TheVariants.{Rests}
use Rattle.qm_turn.specs.History.{times, numbers_of, Agrees}
use Rattle.qm_turn.specs.Rule.{most, total, tickets, numbers, pairs, unless_spent, below, count, drawn, IsServed, Fits, Slot, Kept, both, spent_view}
use Rattle.qm_turn.proofs.Counts.{times-append, total_set, total_two, each_set}
use Rattle.qm_turn.proofs.Histories.{prefix_nil, agrees-append, numbers_of-append, count-append}
use Rattle.qm_turn.proofs.Facts.{slot_stays}

module _ {V N : Type 0} (stands : V → List N → Type 0) (passes : ℕ) (s : State (Optional V) (View N)) (k : Kept stands passes s) (id : ℕ) (v : View N) (at : get_elem? s.views id ≡ some v) (other : ℕ) (w : View N) (apart : ¬ (other ≡ id)) (there : get_elem? (set s.views id (both v w)) other ≡ some w) (rests : v.phase ≡ Rests) (rests_too : w.phase ≡ Rests) where
  abbrev b : View N
  b = both v w

  abbrev views : List (View N)
  views = set (set s.views id b) other spent_view

  was_there : get_elem? s.views other ≡ some w
  was_there = ⊎_elim (λ (t : (other ≡ id) × (b ≡ w)). absurd (apart t.0)) (λ (t : (other ≢ id) × (get_elem? s.views other ≡ some w)). t.1) (at_set s.views id other b w there)

  -- what is counted comes together
  new_total : (f : View N → ℕ) → f b + f spent_view ≡ f v + f w → total f views ≡ total f s.views
  new_total f same =
      let first : total f (set s.views id b) + f v ≡ total f s.views + f b = total_set f s.views id v b at in
      let second : total f views + f w ≡ total f (set s.views id b) + f spent_view = total_set f (set s.views id b) other w spent_view there in
      omega arith

  pairs_of_v : pairs v ≡ (v.number, v.mine) ∷ v.took
  pairs_of_v = ap (λ p. unless_spent p ((v.number, v.mine) ∷ v.took)) rests

  pairs_of_w : pairs w ≡ (w.number, w.mine) ∷ w.took
  pairs_of_w = ap (λ p. unless_spent p ((w.number, w.mine) ∷ w.took)) rests_too

  pairs_of_both : pairs b ≡ pairs v ++ pairs w
  pairs_of_both = ap (λ p. unless_spent p ((v.number, v.mine) ∷ (v.took ++ pairs w))) rests ∙ ap (λ ps. ps ++ pairs w) (sym pairs_of_v)

  unserved : ¬ IsServed v.phase
  unserved is = subst IsServed rests is

  unserved_too : ¬ IsServed w.phase
  unserved_too is = subst IsServed rests_too is

  slot : Slot stands k.log s.homes views
  slot = slot_stays stands k.log s.homes (set s.views id b) other w spent_view there unserved_too (λ is. is) (slot_stays stands k.log s.homes s.views id v b at unserved unserved k.slot)

  same_tickets : (t : ℕ) → times t (tickets b.phase) + 0 ≡ times t (tickets v.phase) + times t (tickets w.phase)
  same_tickets t = let p : times t (tickets w.phase) ≡ 0 = ap (λ p. times t (tickets p)) rests_too in omega arith

  same_numbers : (n : ℕ) → times n (numbers b) + 0 ≡ times n (numbers v) + times n (numbers w)
  same_numbers n =
      let e : times n (numbers b) ≡ times n (numbers v ++ numbers w) = ap (λ ps. times n (numbers_of ps)) pairs_of_both ∙ ap (times n) (numbers_of-append (pairs v) (pairs w)) in
      let f = times-append n (numbers v) (numbers w) in
      omega arith

  same_length : length (numbers b) + 0 ≡ length (numbers v) + length (numbers w)
  same_length =
      let e : length (numbers b) ≡ length (numbers v ++ numbers w) = ap (λ ps. length (numbers_of ps)) pairs_of_both ∙ ap length (numbers_of-append (pairs v) (pairs w)) in
      let f = length-append (numbers v) (numbers w) in
      omega arith

  same_drawn : drawn b + 0 ≡ drawn v + drawn w
  same_drawn =
      let e : count (pairs b) ≡ count (pairs v) + count (pairs w) = ap count pairs_of_both ∙ count-append (pairs v) (pairs w) in
      let p : length (tickets w.phase) ≡ 0 = ap (λ p. length (tickets p)) rests_too in
      omega arith

  one_gives : (b.given ≡ 0) ⊎ (b.given ≡ k.given)
  one_gives =
      let two : v.given + w.given ≤ total (λ x. x.given) s.views = total_two (λ x. x.given) s.views id other v w at was_there (λ same. apart (sym same)) in
      let all = k.one_gives in
      ⊎_elim
      (λ (x : v.given ≡ 0). ⊎_elim (λ (y : w.given ≡ 0). inl (omega arith)) (λ (y : w.given ≡ k.given). inr (omega arith)) (k.fits other w was_there).gives)
      (λ (x : v.given ≡ k.given). inr (omega arith))
      (k.fits id v at).gives

  few : count (v.took ++ pairs w) ≤ most * length (v.took ++ pairs w)
  few =
      let f = k.fits id v at in
      let g = k.fits other w was_there in
      let fv = f.few in
      let gw = g.few in
      let room : length w.mine + 0 ≤ most = subst (λ p. length w.mine + length (tickets p) ≤ most) rests_too g.room in
      let a : count (v.took ++ pairs w) ≡ count v.took + count (pairs w) = count-append v.took (pairs w) in
      let c : count (pairs w) ≡ length w.mine + count w.took = ap count pairs_of_w in
      let l : length (v.took ++ pairs w) ≡ length v.took + length (pairs w) = length-append v.took (pairs w) in
      let m : length (pairs w) ≡ 1 + length w.took = ap length pairs_of_w ∙ omega arith in
      omega arith

  fits : (j : ℕ) (u : View N) → get_elem? views j ≡ some u → Fits k.log k.given u
  fits =
      let f = k.fits id v at in
      let g = k.fits other w was_there in
      each_set (Fits k.log k.given) (set s.views id b) other spent_view
      (λ j u _ e. each_set (Fits k.log k.given) s.views id b (λ i x _ d. k.fits i x d)
      (record {
        seen = f.seen;
        heard = g.seen;
        agrees = subst (λ ps. Agrees k.log ps) (sym pairs_of_both) (agrees-append k.log (pairs v) (pairs w) f.agrees g.agrees);
        phased = f.phased;
        gives = one_gives;
        room = f.room;
        few = few;
      }) j u e)
      (record { seen = prefix_nil k.log; heard = prefix_nil k.log; agrees = tt; phased = tt; gives = inl refl; room = omega arith; few = omega arith })

  pub after : Kept stands passes (record { words = s.words; homes = s.homes; views = views })
  after = record {
    log = k.log;
    next = k.next;
    given = k.given;
    words = k.words;
    slot = slot;
    tickets_out = λ n. ap (λ a. a + below n (length k.log)) (new_total (λ u. times n (tickets u.phase)) (same_tickets n)) ∙ k.tickets_out n;
    numbers_given = λ n. new_total (λ u. times n (numbers u)) (same_numbers n) ∙ k.numbers_given n;
    how_many = new_total (λ u. length (numbers u)) same_length ∙ k.how_many;
    one_gives = new_total (λ u. u.given) (omega arith) ∙ k.one_gives;
    tickets_drawn = new_total drawn same_drawn ∙ k.tickets_drawn;
    fits = fits;
    unmade = k.unmade;
    within = k.within;
  }

pub joins : {V N : Type 0} (stands : V → List N → Type 0) (passes id : ℕ) (v : View N) (other : ℕ) (w : View N) → v.phase ≡ Rests → w.phase ≡ Rests → Joins (Kept stands passes) id v other w (both v w) spent_view
joins stands passes id v other w rests rests_too s k at apart there = after stands passes s k id v at other w apart there rests rests_too
