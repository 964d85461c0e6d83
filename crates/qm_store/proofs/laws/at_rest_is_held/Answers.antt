use Rattle.qm_store.proofs.Moving.{left_at_rest}
use Rattle.qm_store.proofs.laws.at_rest_is_held.Goals as goal

pub returns : goal.returns
returns g c r disk crashed rest left = left_at_rest g.D.Disk.meaning r disk rest crashed left
