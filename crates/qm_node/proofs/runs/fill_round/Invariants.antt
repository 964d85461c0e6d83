use Rattle.std.proofs.Common.{◌≡◌, ◌≤◌, ◌++◌, drop, length, vec_len, vec_capacity}
use Rattle.qm_model.specs.Kept.{round_of}
use Rattle.qm_node.specs.Rows.{all_bare}
use Rattle.qm_node.proofs.runs.fill_round.Given as goal

abbrev pub invariant-loop-row : goal.invariant-loop-row
invariant-loop-row g l =
    (l.round.items ++ round_of (all_bare (drop l.row-index l.rows)) ≡ round_of (all_bare l.rows))
    × (vec_len l.round ≤ l.row-index)
    × (length l.rows ≤ vec_capacity l.round)
