use Rattle.qm_values.proofs.ItemTexts.{one_list, no_fault, one_fault}
use Rattle.qm_values.proofs.items.laws.lists_are_read_once.Goals as goal

pub returns : goal.returns
returns c = record { one = one_list; no_fault = no_fault; one_fault = one_fault }
