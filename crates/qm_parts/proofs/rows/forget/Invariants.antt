use Rattle.qm_parts.specs.Ready.{ready_key, without_number}
use Rattle.qm_parts.proofs.Each.{AreDone}
use Rattle.qm_parts.proofs.RowLoops.{IsMade}
use Rattle.qm_parts.proofs.rows.forget.Given as goal

-- the rows before the place have the key no more
abbrev pub invariant-loop-place : goal.invariant-loop-place
invariant-loop-place l = AreDone (IsMade (λ q. without_number l.entry.number (ready_key l.tables q)) l.tables.queues) l.place l.initial.rows.items l.rows.items
