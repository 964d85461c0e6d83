-- Turns of a part, one behind another.
use Rattle.std.proofs.Common.{◌≡◌, ◌∙◌, [], refl}
use Rattle.qm_history.specs.declared.turn.Why.{Why}
use Rattle.qm_history.specs.declared.turn.Why.TheVariants as why
use Rattle.qm_node.specs.Answered.{MovesOn}
use Rattle.qm_node.specs.Coming.{why_next}
use Rattle.qm_node.specs.Seats.{HeldSeat}
use Rattle.qm_node.specs.declared.course.Next.{Next}
use Rattle.qm_cluster.specs.Nodes.{ReadsOn}
use Rattle.qm_cluster.specs.Parts.{CanFollow, IsNextIn, IsWhyIn, LeavesLines}
use Rattle.qm_cluster.specs.declared.part.Part.{Part}
use Rattle.qm_cluster.specs.declared.part.Part.TheVariants.{Steps, Own}
use Rattle.qm_cluster.proofs.Going.{none_left, own_why, reads_on, why_is}

-- what stays behind the first turn
abbrev pub Follows : Part → HeldSeat → HeldSeat → Type 0
Follows Steps mid there = ReadsOn mid there
Follows Own mid there = (there.name ≡ mid.name) × (there.node.state.lines ≡ [])

pub follows_none : (part : Part) (first : Next) (here mid : HeldSeat) → CanFollow part here → MovesOn first here mid → Follows part mid mid
follows_none Steps first here mid can moves = record { name = refl; lines = refl; reads = λ r. r }
follows_none Own first here mid can moves = (refl, none_left first here mid can moves)

pub follows_on : (part : Part) (comes : Next) (mid here there : HeldSeat) → IsNextIn part here comes → Follows part mid here → MovesOn comes here there → Follows part mid there
follows_on Steps comes mid here there is follows moves = reads_on comes mid here there is.of_part follows moves
follows_on Own comes mid here there is follows moves = (moves.name ∙ follows.0, none_left comes here there follows.1 moves)

pub follows_name : (part : Part) (mid there : HeldSeat) → Follows part mid there → there.name ≡ mid.name
follows_name Steps mid there follows = follows.name
follows_name Own mid there follows = follows.0

pub why_in : (part : Part) (comes : Next) (mid here : HeldSeat) → IsNextIn part here comes → Follows part mid here → (w : Why) → w ≡ why_next comes → IsWhyIn part w
why_in Steps comes mid here is follows w h = why_is comes why.Report is.of_part w h
why_in Own comes mid here is follows w h = own_why comes here.live here.node.state follows.1 is.turn_is w h

pub leaves_lines : (part : Part) (first : Next) (here mid there : HeldSeat) → MovesOn first here mid → Follows part mid there → LeavesLines part first here there
leaves_lines Steps first here mid there moves follows = (follows.lines ∙ moves.lines, λ line reads. follows.reads (moves.reads line reads))
leaves_lines Own first here mid there moves follows = follows.1
