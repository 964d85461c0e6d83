-- A request that is accepted can be recorded.
use Rattle.std.proofs.Common.{◌≡◌, ℕ, Ok}
use Rattle.qm_history.specs.Common.{Request, System, applied, Accepted}
use Rattle.qm_record.specs.Spelling.{CanBeRecorded}
use Rattle.qm_acting.specs.Asking.{CanBeAsked}
use Rattle.qm_acting.proofs.Following.{is_ok}

pub accepted_is_short : (s : System) (moment node : ℕ) (asked : Request) (a : Accepted) → CanBeAsked s moment node asked → applied s moment node asked ≡ Ok a → CanBeRecorded asked
accepted_is_short s moment node asked a can accepted = record { short = can.short (is_ok s moment node asked a accepted) }
