use Rattle.std.proofs.Common.{arith}
use Rattle.qm_chest.proofs.Lists.{called_apart}
use Rattle.qm_chest.proofs.members.Members.are_nodes.Goals as goal

pub returns-then-nodes-len : goal.returns-then-nodes-len
returns-then-nodes-len c = called_apart c.args.nodes.now c.args.self.now.names.items (λ same. omega (arith, c.if-nodes-len.true, c.len.ensures, same))
