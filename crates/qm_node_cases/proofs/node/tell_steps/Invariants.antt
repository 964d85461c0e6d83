use Rattle.std.proofs.Common.{◌≡◌, None}
use Rattle.qm_node_cases.proofs.node.tell_steps.Given as goal

-- the report of the last step is told
abbrev pub invariant-loop : goal.invariant-loop
invariant-loop g l = l.runs.made ≡ None
