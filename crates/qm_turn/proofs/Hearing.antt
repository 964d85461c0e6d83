-- A pass reads how many turns have ended, and has then seen them.
use Rattle.std.proofs.Common.{◌≡◌, ℕ, ◌+◌, List, [], length, slice_index, set, refl, ap, ◌∙◌, arith, Option as Optional}
use mathlib.Core.Option.{none, some}
use lib.ListN.{get_elem?}
use Rattle.atomic_table.specs.Table.{State, Allows, keeps, step}
use Rattle.qm_turn.specs.declared.view.View.{View}
use Rattle.qm_turn.specs.History.{times}
use Rattle.qm_turn.specs.Rule.{total, tickets, numbers, below, drawn, IsServed, Fits, Kept, Sat, Hears}
use Rattle.qm_turn.proofs.Counts.{total_set, each_set}
use Rattle.qm_turn.proofs.Histories.{prefix_same, prefix_nil}
use Rattle.qm_turn.proofs.Facts.{slot_stays, phased_unserved, word_serving}

module _ {V N : Type 0} (stands : V → List N → Type 0) (passes : ℕ) (s : State (Optional V) (View N)) (k : Kept stands passes s) (id : ℕ) (v : View N) (at : get_elem? s.views id ≡ some v) (unserved : ¬ IsServed v.phase) where
  abbrev w : View N
  w = record v { seen = k.log; heard = [] }

  same_total : (f : View N → ℕ) → f v ≡ f w → total f (set s.views id w) ≡ total f s.views
  same_total f same =
      let moved : total f (set s.views id w) + f v ≡ total f s.views + f w = total_set f s.views id v w at in omega arith

  fits : (j : ℕ) (u : View N) → get_elem? (set s.views id w) j ≡ some u → Fits k.log k.given u
  fits =
      let f = k.fits id v at in
      each_set (Fits k.log k.given) s.views id w (λ j u apart e. k.fits j u e) (record {
        seen = prefix_same k.log;
        heard = prefix_nil k.log;
        agrees = f.agrees;
        phased = phased_unserved k.log k.log v.phase unserved;
        gives = f.gives;
        room = f.room;
        few = f.few;
      })

  after : Kept stands passes (record { words = set s.words 0 (slice_index s.words 0); homes = s.homes; views = set s.views id w })
  after = record {
    log = k.log;
    next = k.next;
    given = k.given;
    words = ap (λ l. set l 0 (slice_index l 0)) k.words;
    slot = slot_stays stands k.log s.homes s.views id v w at unserved unserved k.slot;
    tickets_out = λ n. ap (λ a. a + below n (length k.log)) (same_total (λ u. times n (tickets u.phase)) refl) ∙ k.tickets_out n;
    numbers_given = λ n. same_total (λ u. times n (numbers u)) refl ∙ k.numbers_given n;
    how_many = same_total (λ u. length (numbers u)) refl ∙ k.how_many;
    one_gives = same_total (λ u. u.given) refl ∙ k.one_gives;
    tickets_drawn = same_total drawn refl ∙ k.tickets_drawn;
    fits = fits;
    unmade = k.unmade;
    within = k.within;
  }

pub hears : {V N : Type 0} (stands : V → List N → Type 0) (passes slots id : ℕ) (me : Sat V N) → ¬ IsServed me.0.phase
    → Allows (Kept stands passes) slots id me 0 (λ n. n) (Hears (step slots 0 0 0 none) me)
hears stands passes slots id me unserved s k long at small = (
  w stands passes s k id me.0 at unserved,
  keeps,
  tt,
  after stands passes s k id me.0 at unserved,
  (k.log, refl, word_serving stands passes s k, (k.fits id me.0 at).seen, (k.fits id me.0 at).heard, (k.fits id me.0 at).agrees),
)
