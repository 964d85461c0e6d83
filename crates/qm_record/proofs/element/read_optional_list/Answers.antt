use Rattle.qm_record.proofs.Loops.{kept_is_there}
use Rattle.qm_record.proofs.There.{some_list_there}
use Rattle.qm_record.proofs.element.read_optional_list.Goals as goal

pub returns-in-Err : goal.returns-in-Err
returns-in-Err g c =
    some_list_there g.T.Element.reading c.args.bytes.now.now c.in_ok-read_byte.field-0 c.read_byte.new.bytes.now c.read_list.new.bytes.now
    c.in_ok-read_byte.ensures c.if-branch-eq0.false
    (kept_is_there c.in_ok-items.field-0 c.read_list.new.bytes.now _ c.in_ok-items.ensures)
