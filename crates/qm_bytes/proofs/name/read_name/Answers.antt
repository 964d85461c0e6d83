use Rattle.qm_bytes.proofs.Names.{front_found}
use Rattle.qm_bytes.proofs.name.read_name.Goals as goal

pub returns-in-Some : goal.returns-in-Some
returns-in-Some c =
    rw (c.split_at.ensures.back, c.as_bytes.ensures.value) (front_found c.args.bytes.now.now c.in-Some.name c.in-Some.ensures.front)
