use Rattle.std.proofs.Common.{◌+◌, ℕ, Bool, List, Some, None, if◌then◌else◌, ◌∙◌, ap}
use Rattle.std.specs.List.{slice_split}
use Rattle.qm_script.specs.Sites.{nodes_from, nodes_of}
use Rattle.qm_script.proofs.Commas.{is_comma, last_refused, last_taken, node_refused, node_taken, picked}
use Rattle.qm_script.proofs.Parts.{rest_of}
use Rattle.qm_script.proofs.sites.read_nodes.Goals as goal

pub loop-place-preserved : goal.loop-place-preserved
loop-place-preserved c =
    ap (λ (rest : List ℕ). nodes_from c.add_node.new.nodes.items (slice_split is_comma rest)) (rest_of c.loop-place.rest.now (c.in-Some.place + 1))
    ∙ node_taken c.loop-place.nodes.items c.loop-place.rest.now (nodes_of c.args.word.now) c.loop-place.invariant c.add_node.new.nodes.items c.in-Some.place
    c.in-Some.ensures.value (c.in_ok-add_node.ensures ∙ picked c.add_node.new.nodes.items c.in_ok-add_node.field-0 c.if-not-branch.false)

pub returns-then-not-branch : goal.returns-then-not-branch
returns-then-not-branch c =
    node_refused c.loop-place.nodes.items c.loop-place.rest.now (nodes_of c.args.word.now) c.loop-place.invariant c.in-Some.place c.in-Some.ensures.value
    (c.in_ok-add_node.ensures ∙ ap (λ (is_added : Bool). if is_added then Some c.add_node.new.nodes.items else None) c.if-not-branch.true)

pub returns-then-branch : goal.returns-then-branch
returns-then-branch c =
    last_taken c.loop-place.nodes.items c.loop-place.rest.now (nodes_of c.args.word.now) c.loop-place.invariant c.add_node-2.new.nodes.items
    c.in_default.ensures.value (c.in_ok-add_node-2.ensures ∙ picked c.add_node-2.new.nodes.items c.in_ok-add_node-2.field-0 c.if-branch.true)

pub returns-else-branch : goal.returns-else-branch
returns-else-branch c =
    last_refused c.loop-place.nodes.items c.loop-place.rest.now (nodes_of c.args.word.now) c.loop-place.invariant c.in_default.ensures.value
    (c.in_ok-add_node-2.ensures ∙ ap (λ (is_added : Bool). if is_added then Some c.add_node-2.new.nodes.items else None) c.if-branch.false)
