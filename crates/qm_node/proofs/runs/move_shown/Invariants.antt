use Rattle.std.proofs.Common.{◌+◌, ◌≤◌, vec_len, vec_capacity}
use Rattle.qm_model.specs.Kept.{kept_after}
use Rattle.qm_node.specs.Rows.{all_bare}
use Rattle.qm_node.proofs.Fetched.{Moved}
use Rattle.qm_node.proofs.runs.move_shown.Given as goal

abbrev pub invariant-loop-duty : goal.invariant-loop-duty
invariant-loop-duty g l =
    Moved l.fetch g.Y.Symbiont.stands (kept_after l.fetch (all_bare l.initial.old.items) l.initial.duties.items) l.old.items l.duties.items l.rows.items
    × (vec_len l.rows + vec_len l.duties ≤ vec_capacity l.rows)
    × (vec_len l.rows + vec_len l.duties ≤ vec_len l.initial.duties)

abbrev pub decreases-loop-duty : goal.decreases-loop-duty
decreases-loop-duty g l = vec_len l.duties
