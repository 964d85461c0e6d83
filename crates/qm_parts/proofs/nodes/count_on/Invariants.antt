use Rattle.std.proofs.Common.{◌≡◌, ◌≤◌, count_by, take}
use Rattle.qm_model.specs.Find.{is_among}
use Rattle.qm_parts.proofs.nodes.count_on.Given as goal

-- those that were passed are counted
abbrev pub invariant-loop-run : goal.invariant-loop-run
invariant-loop-run l = record {
  count : l.count ≡ count_by (λ r. is_among l.nodes r.node) (take l.run-index l.runs);
  few : l.count ≤ l.run-index;
}
