use Rattle.std.proofs.Common.{◌∙◌, Bool, ap}
use Rattle.qm_show.specs.Turns.{told_text}
use Rattle.qm_node.proofs.Fronts.{front_of_prefix}
use Rattle.qm_node.proofs.turn.print_answer.Goals as goal

pub returns-clause-front : goal.returns-clause-front
returns-clause-front g c =
    front_of_prefix (g.O.Sink.taken c.args.sink.now) (g.O.Sink.taken c.write_whole.new.sink) c.deref.result.now _
    (c.deref.ensures.value ∙ c.in-Ok.ensures ∙ ap (λ (single : Bool). told_text c.args.name.now c.args.kind.now.why single c.args.answer.now) c.is_single.ensures) c.in-Err.ensures.prefix
