-- What a call leaves of a queue manager that nodes ask in turns.
-- OpenVMS System Manager's Manual, Managing the Queue Manager and Queue Database, on one queue manager for a cluster. This site's
-- own: turns, and their notes.
use Rattle.std.specs.Prelude.{◌≡◌, ◌≢◌, ◌⊎◌, ℕ, ◌≤◌, List, ◌++◌, length, slice_get, option_to_list, Option, None, Some}
use Rattle.qm_history.specs.declared.call.Answer.{Answer}
use Rattle.qm_history.specs.declared.call.Answer.TheVariants as answer
use Rattle.qm_history.specs.declared.call.Call.{Call}
use Rattle.qm_history.specs.declared.turn.Turn.{Turn}
use Rattle.qm_history.specs.Chest.{Note, IsMadeFor, is_unread}

-- the turn that a call left, if more are kept behind it than before
abbrev pub turn_left : List Turn → List Turn → Option Turn
turn_left old new = slice_get new (length old)

-- what is noted of a call that was answered so
abbrev pub noted : Call → List Turn → List Turn → Answer → Note
noted asked old new told = record { asked = asked; turn = turn_left old new; unread = is_unread (turn_left old new) told }

-- why a call left no turn where so many are kept at most: they are, or memory was short and no takeover had come
abbrev pub MayLeaveNone : ℕ → List Turn → Answer → Type 0
MayLeaveNone most turns told = ((told ≡ answer.HistoryFull) × (length turns ≡ most)) ⊎ (told ≡ answer.NoMemory None)

-- behind these turns the call left one more, or none for a reason; that no more are kept is told only where it left none
abbrev pub LeavesTurn : ℕ → List Turn → Option Turn → Answer → Type 0
LeavesTurn most turns None told = MayLeaveNone most turns told
LeavesTurn most turns (Some t) told = told ≢ answer.HistoryFull

-- The call of this node at this reading left one turn more, of that node, reading and call, or none for a reason.
pub record LeavesOne (most node now : ℕ) (asked : Call) (old new : List Turn) (told : Answer) : Type 0 where
  pub turns : new ≡ old ++ option_to_list (turn_left old new)
  pub few : length new ≤ most
  pub made : IsMadeFor node now asked (turn_left old new)
  pub leaves : LeavesTurn most old (turn_left old new) told
