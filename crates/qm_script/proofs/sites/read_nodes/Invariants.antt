use Rattle.std.proofs.Common.{◌≡◌, length}
use Rattle.std.specs.List.{slice_split}
use Rattle.qm_script.specs.Sites.{nodes_from, nodes_of}
use Rattle.qm_script.proofs.Commas.{is_comma}
use Rattle.qm_script.proofs.sites.read_nodes.Given as goal

-- the nodes so far, and those of the rest
abbrev pub invariant-loop-place : goal.invariant-loop-place
invariant-loop-place l = nodes_from l.nodes.items (slice_split is_comma l.rest) ≡ nodes_of l.word

abbrev pub decreases-loop-place : goal.decreases-loop-place
decreases-loop-place l = length l.rest
