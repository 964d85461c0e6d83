use Rattle.qm_kinds.proofs.RequestNumbers.{kind_again, number_back}
use Rattle.qm_kinds.proofs.request_kind.each_kind_has_a_number.Goals as goal

pub returns : goal.returns
returns c = record { again = kind_again; back = number_back }
