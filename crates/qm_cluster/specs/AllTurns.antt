-- What the turns of all nodes leave.
-- OpenVMS System Manager's Manual, Managing the Queue Manager and Queue Database. This site's own: turns and their notes.
use Rattle.std.specs.Prelude.{◌≡◌, ◌≤◌, ℕ, Bool, IsTrue, List, length, map, slice_get, sum_by, Some}
use Rattle.qm_node.specs.Sides.{Side}
use Rattle.qm_history.specs.declared.turn.Turn.{Turn}
use Rattle.qm_history.specs.declared.world.World.{World}
use Rattle.qm_history.specs.Common.{turns_kept, unread_of, FileDamaged, NodeText, TurnsSpent, UserLine}
use Rattle.qm_history.specs.Serving.{Meaning as MeaningOf}
use Rattle.qm_symb.specs.Device.{Meaning}
use Rattle.qm_turn.specs.History.{notes}
use Rattle.qm_cluster.specs.declared.noted.Noted.{Noted}
use Rattle.qm_cluster.specs.Driving.{hidden_by}
use Rattle.qm_cluster.specs.Passes.{AreOfTheirNodes, turns_in}
use Rattle.qm_cluster.specs.Sharing.{MayBegin, StandsSince, note_view}
use Rattle.qm_cluster.specs.Served.{AllHaveServed}

-- no node's end tells of a damaged file
abbrev pub NoneDamaged : List NodeText → Type 0
NoneDamaged left = (k : ℕ) (at : NodeText) (file place : ℕ) → slice_get left k ≡ Some at → at.end ≡ FileDamaged file place → ⊥

-- more turns than these can't be kept, where a node ended so
abbrev pub AreFull : ℕ → List Turn → List NodeText → Type 0
AreFull most turns left = (k : ℕ) (at : NodeText) → slice_get left k ≡ Some at → at.end ≡ TurnsSpent → most ≤ length turns

-- Nodes of these names made their turns for these lines, and these are their ends and texts. The queue manager stands for the notes of
-- their calls, in the order of their turns; each turn is of the node that made it; more turns can't be kept where a node ended so; and no
-- more calls hide a disk that failed than ends tell. Where the disks tell, no file was told as damaged, and in each world in which the
-- queue manager may have begun, each node did what its lines ask for.
pub record HaveMadeTurns {S Y : Type 0} (y : Meaning Y) (tells : Bool) (may_begin : World → Type 0) (most : ℕ) (stands : S → List Noted → Type 0) (names : List (List ℕ)) (lines : List (List UserLine))
    (manager : S) (left : List NodeText) (was now : List (Side Y)) : Type 0 where
  pub log : List (ℕ × Noted)
  pub stood : stands manager (notes log)
  pub theirs : AreOfTheirNodes log
  pub count : length left ≡ length names
  pub full : AreFull most (turns_in log) left
  pub hidden : unread_of (map note_view (notes log)) ≤ sum_by (λ (at : NodeText). hidden_by at.end) left
  pub undamaged : IsTrue tells → NoneDamaged left
  pub served : IsTrue tells → (w : World) → may_begin w → AllHaveServed y w (turns_in log) names lines left was now

-- the same of a manager that began so
abbrev pub HaveTurned : {S Y : Type 0} → Meaning Y → MeaningOf S → List S → List (List ℕ) → List (List UserLine) → S → List NodeText → List (Side Y) → List (Side Y) → Type 0
HaveTurned y m began names lines manager left was now =
    HaveMadeTurns y m.tells (MayBegin m began) turns_kept (StandsSince m began) names lines manager left was now
