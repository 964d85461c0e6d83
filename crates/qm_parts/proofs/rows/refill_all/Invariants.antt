use Rattle.qm_parts.specs.Ready.{ready_key}
use Rattle.qm_parts.proofs.Each.{AreDone}
use Rattle.qm_parts.proofs.RowLoops.{IsMade}
use Rattle.qm_parts.proofs.rows.refill_all.Given as goal

-- the rows before the place are built
abbrev pub invariant-loop-place : goal.invariant-loop-place
invariant-loop-place l = AreDone (IsMade (ready_key l.tables) l.tables.queues) l.place l.initial.rows.items l.rows.items
