use Rattle.qm_bytes.proofs.Texts.{long_there}
use Rattle.qm_bytes.proofs.text.read_long_bytes.Goals as goal

pub returns-in-Err : goal.returns-in-Err
returns-in-Err c =
    (c.in_ok-text.text.now, long_there c.args.bytes.now.now c.in_ok-text.text.now _ c.in_ok-text.rest.now _ c.in_ok-size.ensures.value c.in_ok-text.ensures.value)
