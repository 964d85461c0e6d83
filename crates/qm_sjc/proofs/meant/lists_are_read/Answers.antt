use Rattle.qm_sjc.proofs.ListsRead.{list_read, fault_read}
use Rattle.qm_sjc.proofs.meant.lists_are_read.Goals as goal

pub returns-clause-items : goal.returns-clause-items
returns-clause-items c = list_read

pub returns-clause-fault : goal.returns-clause-fault
returns-clause-fault c = fault_read
