use Rattle.qm_ready.proofs.Determined.{determined}
use Rattle.qm_ready.proofs.laws.numbers_determine_the_row.Goals as goal

pub returns : goal.returns
returns c = λ s xs ys row_x row_y same. determined s xs ys row_x row_y same
