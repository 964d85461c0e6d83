use Rattle.std.proofs.Common.{◌∙◌}
use Rattle.qm_cluster.proofs.Overlooked.{last_is}
use Rattle.qm_cluster.proofs.ends.tells_disk_fault.Goals as goal

pub returns-in-len1-up : goal.returns-in-len1-up
returns-in-len1-up c = c.is_disk_fault.ensures ∙ last_is c.args.events.now c.last-item.result c.in-len1-up.len_at_least c.last-item.is
