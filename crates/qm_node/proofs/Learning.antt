-- The duties that an answer shows can be learned.
use Rattle.std.proofs.Common.{◌≡◌, ◌≤◌, ℕ, List, get_or, length, arith, Option, None, Some, IfSome}
use Rattle.qm_history.specs.Common.{System, Duty, Work, IsConsistent, AreShown}
use Rattle.qm_model.specs.Duties.{IsProperWork, duties}
use Rattle.qm_history.proofs.ShownDuties.{shown}
use Rattle.qm_symb.specs.Symbiont.{IsWithinLimits}
use Rattle.qm_node.specs.Duties.{AreLearnable}

within_limits : (work : Option Work) → IfSome work IsProperWork → IfSome work IsWithinLimits
within_limits None proper = tt
within_limits (Some work) proper = record { has_rows = proper.shape.lines; has_columns = proper.shape.columns; text = omega (arith, proper.text) }

pub shown_learnable : (ds : List Duty) → AreShown ds → AreLearnable ds
shown_learnable ds are = record { order = are.order; limits = λ k d within. within_limits (get_or ds k d).work (are.proper k d within) }

pub learnable : (s : System) (node known : List ℕ) → IsConsistent s → AreLearnable (duties s node known)
learnable s node known sound = shown_learnable (duties s node known) (shown s node known sound)
