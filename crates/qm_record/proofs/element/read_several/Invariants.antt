use Rattle.std.proofs.Common.{◌≡◌, ◌-◌}
use Rattle.qm_bytes.specs.Reading.{repeat_at}
use Rattle.qm_record.proofs.Loops.{with_front}
use Rattle.qm_record.proofs.element.read_several.Given as goal

abbrev pub invariant-loop-place : goal.invariant-loop-place
invariant-loop-place g l =
    with_front l.items.items (repeat_at g.T.Element.reading (l.count - l.place) l.bytes.now) ≡ repeat_at g.T.Element.reading l.count l.initial.bytes.now
