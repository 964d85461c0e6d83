use Rattle.std.proofs.Common.{◌≡◌, map, take, All}
use Rattle.qm_record.specs.Spelling.{HasSpelling, record_text}
use Rattle.qm_world.proofs.files.read_log.Given as goal

abbrev pub invariant-loop-index : goal.invariant-loop-index
invariant-loop-index g l = record {
  spelled : All HasSpelling l.log.items;
  texts : take l.index (g.B.Bodies.bodies l.file) ≡ map record_text l.log.items;
}
