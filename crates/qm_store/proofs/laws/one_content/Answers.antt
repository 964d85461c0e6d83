use Rattle.qm_store.proofs.Contents.{one_content as law}
use Rattle.qm_store.proofs.laws.one_content.Goals as goal

pub returns : goal.returns
returns c = law
