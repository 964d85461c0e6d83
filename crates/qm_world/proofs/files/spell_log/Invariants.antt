use Rattle.std.proofs.Common.{◌≡◌, map, take}
use Rattle.qm_record.specs.Spelling.{record_text}
use Rattle.qm_world.specs.Texts.{texts}
use Rattle.qm_world.proofs.files.spell_log.Given as goal

abbrev pub invariant-loop-record : goal.invariant-loop-record
invariant-loop-record l = texts l.spelled.items ≡ map record_text (take l.record-index l.log)
