-- What each node has done by its own thread, and knows then.
-- OpenVMS System Manager's Manual, Setting Up and Maintaining Queues, on symbionts. This site's own: turns.
use Rattle.std.specs.Prelude.{◌≡◌, ◌<◌, ◌≤◌, ℕ, Bool, IsTrue, List, [], length, map, slice_get, Some}
use Rattle.atomic_table.specs.Seated.{TableId}
use Rattle.qm_history.specs.Common.{NODES_LIMIT, NodeEnd, Ended, FileDamaged, UserLine, turns_kept}
use Rattle.qm_symb.specs.Device.{Meaning}
use Rattle.qm_history.specs.declared.world.World.{World}
use Rattle.qm_history.specs.Serving.{Meaning as MeaningOf}
use Rattle.qm_node.specs.Sides.{Side}
use Rattle.qm_turn.specs.Turns.{Known, fresh}
use Rattle.qm_cluster.specs.declared.noted.Noted.{Noted}
use Rattle.qm_cluster.specs.Driving.{HasDriven, IsDriven, node_end}
use Rattle.qm_cluster.specs.Passes.{AreOwn, turns_in}
use Rattle.qm_cluster.specs.Sharing.{IsThere, MayBegin, NodeBeginsLive}
use Rattle.qm_cluster.specs.declared.place.TurnstileSeat.{TurnstileSeat}

-- a node at the turnstile: what its pass knows, how its turns ended, and their text
pub record AtTurnstile : Type 0 where
  pub known : Known Noted
  pub end : NodeEnd
  pub text : List ℕ

abbrev pub is_at : {S J : Type 0} → TurnstileSeat S J → AtTurnstile
is_at seat = record { known = seat.pass; end = node_end seat.end; text = seat.text.taken }

-- before its first turn
abbrev pub first_at : Known Noted → AtTurnstile
first_at known = record { known = known; end = Ended; text = [] }

-- nodes at a turnstile, in their order
abbrev pub all_at : {S J : Type 0} → List (TurnstileSeat S J) → List AtTurnstile
all_at seats = map is_at seats

-- each is before its first turn
abbrev pub AreNew : {S J : Type 0} → TableId → List (TurnstileSeat S J) → Type 0
AreNew {S} {J} place seats = (node : ℕ) (seat : TurnstileSeat S J) → slice_get seats node ≡ Some seat → is_at seat ≡ first_at (fresh place node)

-- so many nodes can be those of a cluster
abbrev pub AreFew : ℕ → Type 0
AreFew nodes = (1 ≤ nodes) × (nodes ≤ NODES_LIMIT)

-- a node of this number, of so many with names and lines, can be driven in each world in which the manager may have begun
pub record CanBeDriven {S : Type 0} (m : MeaningOf S) (began : List S) (names lines node : ℕ) : Type 0 where
  pub few : names ≤ NODES_LIMIT
  pub named : node < names
  pub lined : node < lines
  pub there : IsThere m began node
  pub sound : NodeBeginsLive m began node

module _ {Y : Type 0} (y : Meaning Y) (tells : Bool) (may_begin : World → Type 0) (most : ℕ) where
  -- The node of this number and name has made its turns for these lines: what its pass knows, and where the disks tell, what it has
  -- printed and done in each world in which the manager may have begun, once it is known that all turns of the node are of its pass. No
  -- file is told as damaged then.
  pub record IsThrough (node : ℕ) (name : List ℕ) (lines : List UserLine) (old new : AtTurnstile) (was now : Side Y) : Type 0 where
    pub knows : HasDriven most node new.end old.known new.known was.told now.told
    pub drives : IsTrue tells → (w : World) → may_begin w → AreOwn node new.known.seen
        → IsDriven y w node name lines new.end (turns_in new.known.seen) was.symbiont now.symbiont old.text new.text
    pub undamaged : IsTrue tells → (file place : ℕ) → new.end ≡ FileDamaged file place → ⊥

  -- the same of each node, in their order
  pub record AllAreThrough (place : TableId) (names : List (List ℕ)) (lines : List (List UserLine)) (left : List AtTurnstile) (was now : List (Side Y)) : Type 0 where
    pub count : length left ≡ length names
    pub stations : length now ≡ length was
    pub each :
        (node : ℕ) (name : List ℕ) (own : List UserLine) (at : AtTurnstile) (before after : Side Y)
        → slice_get names node ≡ Some name → slice_get lines node ≡ Some own → slice_get left node ≡ Some at
        → slice_get was node ≡ Some before → slice_get now node ≡ Some after
        → IsThrough node name own (first_at (fresh place node)) at before after

-- the same of the nodes of a manager that began so
abbrev pub AllHaveDriven : {S Y : Type 0} → Meaning Y → MeaningOf S → List S → TableId → List (List ℕ) → List (List UserLine) → List AtTurnstile → List (Side Y) → List (Side Y) → Type 0
AllHaveDriven y m began place names lines left was now = AllAreThrough y m.tells (MayBegin m began) turns_kept place names lines left was now
