use Rattle.qm_bytes.specs.Reading.{repeat_at}
use Rattle.qm_record.proofs.Loops.{Passed}
use Rattle.qm_record.proofs.element.pass_several.Given as goal

abbrev pub invariant-loop : goal.invariant-loop
invariant-loop g l =
    Passed g.T.Element.reading l.count l.counter l.bytes.now (repeat_at g.T.Element.reading l.count l.initial.bytes.now)
