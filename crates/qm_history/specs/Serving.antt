-- The queue manager that nodes ask, whatever it is: what its one call does.
-- OpenVMS System Manager's Manual, Managing the Queue Manager and Queue Database, on the queue manager process.
-- This site's own: one value, on which each call of a node is one turn.
use Rattle.std.specs.Prelude.{◌≡◌, ◌⊎◌, ◌≤◌, ℕ, Bool, true, false, IsTrue, List, [], ◌∷◌, ◌++◌, length, map, option_to_list, Option, None, Some}
use Rattle.qm_disk.specs.Faults.{Tells}
use Rattle.qm_history.specs.declared.call.Answer.{Answer}
use Rattle.qm_history.specs.declared.call.Answer.TheVariants as answer
use Rattle.qm_history.specs.declared.call.Call.{Call}
use Rattle.qm_history.specs.declared.turn.Turn.{Turn}
use Rattle.qm_history.specs.declared.world.World.{World}
use Rattle.qm_history.specs.Answering.{MayAnswer}
use Rattle.qm_history.specs.Chest.{IsMadeFor, LeavesTurn, hides_events, turns_kept}
use Rattle.qm_history.specs.Faults.{is_journal, tells_disk_fault}
use Rattle.qm_history.specs.Legal.{after_turn}
use Rattle.qm_history.specs.World.{system_in, IsSound}
use Rattle.qm_history.specs.ShownDuties.{ShowsDuties}

-- What the values of one type mean: all that the contract of their call speaks of.
pub record Meaning (S : Type 0) : Type 1 where
  -- the turns that it keeps, and the nodes that make them
  pub turns : S → List Turn
  pub nodes : S → List (List ℕ)
  -- how many calls of its disks failed
  pub failed : S → ℕ
  -- its disks tell what they hold
  pub tells : Bool
  -- a call can be served
  pub serves : S → Type 0
  -- it stands for this world
  pub stands : World → S → Type 0
  -- what a call does in a world to what the value keeps on disks, where it leaves this turn, or none, and is answered so
  pub does : World → S → S → Call → Option Turn → Answer → Type 0

-- the world behind a turn, if one was left
abbrev pub behind : World → Option Turn → World
behind w None = w
behind w (Some t) = after_turn w t

-- the turn is one of the call that was answered so, if there is one
abbrev pub IsAnswered : World → Call → Option Turn → Answer → Type 0
IsAnswered w asked None told = Unit {0}
IsAnswered w asked (Some t) told = MayAnswer w asked t told

-- what the turn tells of a disk that failed is what its call was told, unless the answer hides that
abbrev pub TellsDisk : Option Turn → Answer → Type 0
TellsDisk None told = Unit {0}
TellsDisk (Some t) told = hides_events told ≡ false → is_journal told ≡ tells_disk_fault t.events

module _ {S : Type 0} (m : Meaning S) where
  -- In a world for which the value stood, the call left this turn, or none, and was answered so; then it stands for the world
  -- behind that.
  pub record ServesAt (w : World) (asked : Call) (old new : S) (turn : Option Turn) (told : Answer) : Type 0 where
    pub sound : IsSound w
    pub names : map (λ n. n.name) (system_in w).nodes ≡ m.nodes old
    pub answers : IsAnswered w asked turn told
    pub does : m.does w old new asked turn told
    pub stands : m.stands (behind w turn) new

  -- The call of this node at this reading left one turn more, of that node, moment and call, or none for a reason.
  pub record Serves (node now : ℕ) (asked : Call) (old new : S) (told : Answer) : Type 0 where
    pub turn : Option Turn
    pub turns : m.turns new ≡ m.turns old ++ option_to_list turn
    pub made : IsMadeFor node now asked turn
    pub leaves : LeavesTurn (m.turns old) turn told
    pub tells : TellsDisk turn told
    pub few : length (m.turns new) ≤ turns_kept
    pub nodes : m.nodes new ≡ m.nodes old
    pub faults : Tells (m.failed old) (m.failed new) (is_journal told ≡ true)
    pub undamaged : IsTrue m.tells → (file place : ℕ) → told ≡ answer.Damaged file place → ⊥
    pub duties : ShowsDuties told
    pub serves : m.serves new
    pub at : (w : World) → m.stands w old → ServesAt w asked old new turn told

  -- these turns were made one behind another, each from the value as the one before left it
  abbrev pub AreMade : World → S → List Turn → S → Type 0
  AreMade w old [] new = new ≡ old
  AreMade w old (t ∷ turns) new =
      (asked : Call) × (told : Answer) × (next : S) × MayAnswer w asked t told × m.does w old next asked (Some t) told
      × AreMade (after_turn w t) next turns new

  -- no more was asked for, or a call that left no turn
  abbrev pub LeavesNone : World → S → S → Type 0
  LeavesNone w old new = (new ≡ old) ⊎ ((asked : Call) × (told : Answer) × m.does w old new asked None told)
