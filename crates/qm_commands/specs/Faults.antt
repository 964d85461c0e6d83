-- What is wrong with a command, and where.
use Rattle.std.specs.Prelude.{ℕ}
use Rattle.qm_kinds.specs.declared.refusal.ParseKind.{ParseKind}
use Rattle.qm_commands.specs.declared.fault.Fault.{Fault}

-- the fault of a kind at a place
abbrev pub fault_at : ℕ → ParseKind → Fault
fault_at at kind = record { place = at; kind = kind }
