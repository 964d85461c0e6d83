use Rattle.qm_bytes.proofs.Names.{is_read, never_bad}
use Rattle.qm_bytes.proofs.name.name_at.Goals as goal

pub unreachable-requires : goal.unreachable-requires
unreachable-requires c =
    never_bad c.args.bytes.now c.in_ok-size.text.now c.in_ok-rest.rest.now c.in_ok-size.size c.in-Err.field-0 c.in_ok-size.ensures c.in_ok-rest.ensures.value c.in-Err.ensures

pub returns : goal.returns
returns c =
    is_read c.args.bytes.now c.in_ok-size.text.now c.in_ok-rest.rest.now c.in-Ok.name c.in_ok-size.size c.in_ok-size.ensures c.in_ok-rest.ensures.value c.in-Ok.ensures
