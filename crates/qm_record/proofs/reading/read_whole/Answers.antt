use Rattle.std.proofs.Common.{sym, ◌∙◌}
use Rattle.qm_record.proofs.Records.{whole_stops, whole_left, whole_completed, left_is_within, bad_told}
use Rattle.qm_record.proofs.reading.read_whole.Goals as goal

pub fault_at-requires : goal.fault_at-requires
fault_at-requires c =
    left_is_within c.args.bytes.now c.in-Err.fault.left (whole_stops c.args.bytes.now c.in-Err.fault.left c.in-Err.ensures)

pub returns-in-Err : goal.returns-in-Err
returns-in-Err c =
    bad_told c.fault_at.result c.args.bytes.now c.in-Err.fault.left c.fault_at.ensures
    (whole_stops c.args.bytes.now c.in-Err.fault.left c.in-Err.ensures)

pub fault_at-requires-in-Some : goal.fault_at-requires-in-Some
fault_at-requires-in-Some c =
    left_is_within c.args.bytes.now c.in-Some.left
    (whole_left c.args.bytes.now c.read_front.new.bytes.now c.read_body-read.new.bytes.now
    c.in-Ok.front.moment c.in-Ok.front.node c.in-Ok.front.kind c.read_body-read.result c.in-Some.left
    c.in-Ok.ensures c.read_body-read.ensures (sym c.left_by.ensures ∙ c.in-Some.is))

pub returns-in-Some : goal.returns-in-Some
returns-in-Some c =
    bad_told c.fault_at-in-Some.result c.args.bytes.now c.in-Some.left c.fault_at-in-Some.ensures
    (whole_left c.args.bytes.now c.read_front.new.bytes.now c.read_body-read.new.bytes.now
    c.in-Ok.front.moment c.in-Ok.front.node c.in-Ok.front.kind c.read_body-read.result c.in-Some.left
    c.in-Ok.ensures c.read_body-read.ensures (sym c.left_by.ensures ∙ c.in-Some.is))

pub returns : goal.returns
returns c =
    rw c.completed.ensures (whole_completed c.args.bytes.now c.read_front.new.bytes.now c.read_body-read.new.bytes.now
    c.in-Ok.front.moment c.in-Ok.front.node c.in-Ok.front.kind c.read_body-read.result
    c.in-Ok.ensures c.read_body-read.ensures (sym c.left_by.ensures ∙ c.in_default.is))
