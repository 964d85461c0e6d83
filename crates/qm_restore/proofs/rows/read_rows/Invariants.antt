use Rattle.std.proofs.Common.{◌≡◌, ◌≤◌, length, map, take}
use Rattle.qm_record.specs.Spelling.{record_text}
use Rattle.qm_restore.specs.Site.{new_rows}
use Rattle.qm_restore.proofs.rows.read_rows.Given as goal

-- the first records are the rows so far
abbrev pub invariant-loop-index : goal.invariant-loop-index
invariant-loop-index g l = record {
  within : l.index ≤ length (g.B.Bodies.bodies l.log);
  same : take l.index (g.B.Bodies.bodies l.log) ≡ take l.index (map record_text (new_rows l.nodes.items));
}
