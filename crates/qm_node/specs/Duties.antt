-- What a node can learn of its runs.
use Rattle.std.specs.Prelude.{List, IfSome, All}
use Rattle.std.specs.Ordering.{nat_cmp}
use Rattle.qm_history.specs.Common.{Duty, IsInOrder}
use Rattle.qm_symb.specs.Symbiont.{IsWithinLimits}

-- each run once, by number, and no work that no symbiont could carry out
pub record AreLearnable (duties : List Duty) : Type 0 where
  pub order : IsInOrder nat_cmp (λ (d : Duty). d.run) duties
  pub limits : All (λ (d : Duty). IfSome d.work IsWithinLimits) duties
