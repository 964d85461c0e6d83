-- A pass looks whether its ticket is served, and takes the value where it is.
use Rattle.std.proofs.Common.{◌≡◌, ℕ, ◌+◌, ◌≤◌, List, [], ◌∷◌, length, slice_index, set, Some, refl, sym, ap, ◌∙◌, subst, arith, inl, inr, ⊎_elim, Option as Optional}
use mathlib.Core.Option.{none, some, some-injective}
use mathlib.Core.Logic.{dite}
use native.Mathlib.Decide.{ℕ_discrete}
use lib.ListN.{get_elem?}
use Rattle.atomic_table.specs.Table.{State, Allows, keeps, takes, step}
use Rattle.atomic_table.proofs.Lists.{set_again}
use Rattle.qm_turn.specs.declared.view.View.{View}
use Rattle.qm_turn.specs.declared.view.Phase.TheVariants.{Waits, Served}
use Rattle.qm_turn.specs.History.{times, numbers_of, Agrees}
use Rattle.qm_turn.specs.Rule.{most, total, below, tickets, numbers, pairs, unless_spent, drawn, IsServed, Fits, Kept, Home, Out, Sat, HasTurn, Looks}
use Rattle.qm_turn.proofs.Counts.{total_set, each_set, at_here}
use Rattle.qm_turn.proofs.Histories.{prefix_same}
use Rattle.qm_turn.proofs.Facts.{alone, word_serving}

module _ {V N : Type 0} (stands : V → List N → Type 0) (passes : ℕ) (s : State (Optional V) (View N)) (k : Kept stands passes s) where
  -- nothing changed
  pub unchanged : (id : ℕ) (v : View N) → get_elem? s.views id ≡ some v → Kept stands passes (record { words = set s.words 0 (slice_index s.words 0); homes = s.homes; views = set s.views id v })
  unchanged id v at =
      let ws : set s.words 0 (slice_index s.words 0) ≡ s.words = ap (λ l. set l 0 (slice_index l 0)) k.words ∙ sym k.words in
      let vs : set s.views id v ≡ s.views = set_again s.views id v at in
      let same : s ≡ record { words = set s.words 0 (slice_index s.words 0); homes = s.homes; views = set s.views id v } = λ i. record { words = sym ws i; homes = s.homes; views = sym vs i } in
      subst (λ (x : State (Optional V) (View N)). Kept stands passes x) same k

  module _ (id t : ℕ) (v : View N) (at : get_elem? s.views id ≡ some v) (waits : v.phase ≡ Waits t) (now : slice_index s.words 0 ≡ t) where
    ticket_is : t ≡ length k.log
    ticket_is = sym now ∙ word_serving stands passes s k

    abbrev w : View N
    w = record v { seen = k.log; phase = Served t }

    has_ticket : tickets v.phase ≡ length k.log ∷ []
    has_ticket = ap tickets waits ∙ ap (λ n. n ∷ []) ticket_is

    not_yet : ¬ IsServed v.phase
    not_yet is = subst IsServed waits is

    pairs_stay : pairs v ≡ pairs w
    pairs_stay = ap (λ p. unless_spent p ((v.number, v.mine) ∷ v.took)) waits

    -- it is at home
    not_out : Out s.homes s.views → ⊥
    not_out o =
        dite (ℕ_discrete id o.1.0)
        (λ e. not_yet (subst (λ (u : View N). IsServed u.phase) (some-injective _ _ (sym o.1.2 ∙ sym (ap (get_elem? s.views) e) ∙ at)) o.1.3))
        (λ apart. alone stands passes s k id o.1.0 v o.1.1 at o.1.2 has_ticket o.1.3 apart)

    home : Home stands k.log s.homes s.views
    home = ⊎_elim (λ h. h) (λ (o : Out s.homes s.views). absurd (not_out o)) k.slot

    same_total : (f : View N → ℕ) → f v ≡ f w → total f (set s.views id w) ≡ total f s.views
    same_total f same =
        let moved : total f (set s.views id w) + f v ≡ total f s.views + f w = total_set f s.views id v w at in omega arith

    fits : (j : ℕ) (u : View N) → get_elem? (set s.views id w) j ≡ some u → Fits k.log k.given u
    fits =
        let f = k.fits id v at in
        each_set (Fits k.log k.given) s.views id w (λ j u apart e. k.fits j u e) (record {
          seen = prefix_same k.log;
          heard = f.heard;
          agrees = subst (λ ps. Agrees k.log ps) pairs_stay f.agrees;
          phased = (ticket_is, refl);
          gives = f.gives;
          room = subst (λ p. length v.mine + length (tickets p) ≤ most) waits f.room;
          few = f.few;
        })

    after : (x : V) → s.homes ≡ some (Some x) ∷ [] → Kept stands passes (record { words = set s.words 0 (slice_index s.words 0); homes = set s.homes 0 none; views = set s.views id w })
    after x is = record {
      log = k.log;
      next = k.next;
      given = k.given;
      words = ap (λ l. set l 0 (slice_index l 0)) k.words;
      slot = inr (ap (λ hs. set hs 0 none) is, (id, w, at_here s.views id v w at, tt));
      tickets_out = λ n. ap (λ a. a + below n (length k.log)) (same_total (λ u. times n (tickets u.phase)) (ap (λ p. times n (tickets p)) waits)) ∙ k.tickets_out n;
      numbers_given = λ n. same_total (λ u. times n (numbers u)) (ap (λ ps. times n (numbers_of ps)) pairs_stay) ∙ k.numbers_given n;
      how_many = same_total (λ u. length (numbers u)) (ap (λ ps. length (numbers_of ps)) pairs_stay) ∙ k.how_many;
      one_gives = same_total (λ u. u.given) refl ∙ k.one_gives;
      tickets_drawn = same_total drawn (ap (λ p. drawn (record v { phase = p })) waits) ∙ k.tickets_drawn;
      fits = fits;
      unmade = k.unmade;
      within = k.within;
    }

    serves : HasTurn stands t (v, []) (w, (0, Some home.0) ∷ [])
    serves = (home.0, k.log, refl, home.2, (k.fits id v at).seen, (k.fits id v at).agrees)

looks_at : {V N : Type 0} (stands : V → List N → Type 0) (passes slots id t : ℕ) (v : View N) → v.phase ≡ Waits t
    → Allows (Kept stands passes) slots id (v, []) 0 (λ n. n) (Looks stands (step slots 0 0 0 none) (v, []))
looks_at {V} {N} stands passes slots id t v waits s k long at small =
    let same : (u : ℕ) → v.phase ≡ Waits u → t ≡ u = λ u e. (let p : Waits t ≡ Waits u = sym waits ∙ e in cc) in
    dite (ℕ_discrete (slice_index s.words 0) t)
    (λ now. (
      w stands passes s k id t v at waits now,
      takes 0 (Some (home stands passes s k id t v at waits now).0),
      ap (λ hs. get_elem? hs 0) (home stands passes s k id t v at waits now).1,
      after stands passes s k id t v at waits now (home stands passes s k id t v at waits now).0 (home stands passes s k id t v at waits now).1,
      (λ u e. inr (subst (λ n. (slice_index s.words 0 ≡ n) × HasTurn stands n (v, []) (w stands passes s k id t v at waits now, (0, Some (home stands passes s k id t v at waits now).0) ∷ [])) (same u e) (now, serves stands passes s k id t v at waits now))),
    ))
    (λ later. (v, keeps, tt, unchanged stands passes s k id v at, (λ u e. inl ((λ is. later (is ∙ sym (same u e))), refl))))

pub looks : {V N : Type 0} (stands : V → List N → Type 0) (passes slots id t : ℕ) (me : Sat V N) → me.0.phase ≡ Waits t → me.1 ≡ []
    → Allows (Kept stands passes) slots id me 0 (λ n. n) (Looks stands (step slots 0 0 0 none) me)
looks {V} {N} stands passes slots id t me waits empty =
    subst (λ (c : List (ℕ × Optional V)). Allows (Kept stands passes) slots id (me.0, c) 0 (λ n. n) (Looks stands (step slots 0 0 0 none) (me.0, c))) (sym empty) (looks_at stands passes slots id t me.0 waits)
