use Rattle.std.proofs.Common.{ap, sym, ◌∙◌}
use Rattle.std.specs.Option.{option_map_or}
use Rattle.qm_model.specs.Common.{Queue, Stopped, state_when_idle}
use Rattle.qm_kinds.specs.declared.reply.Act.TheVariants.{QueueIs}
use Rattle.qm_image.specs.Image.{system_of}
use Rattle.qm_image.proofs.Found.{state_told}
use Rattle.qm_making.proofs.queue_act.queue_act.Goals as goal

pub returns : goal.returns
unfolding system_of
returns c =
    ap (QueueIs c.args.name.now)
    (c.state_told-state.ensures ∙ (λ t. option_map_or (λ (q : Queue). state_when_idle (c.is_occupied.ensures t) q.state) (c.queue.ensures.found t) Stopped)
    ∙ sym (state_told c.args.image.now.parts.entries c.args.name.now c.args.image.now.parts.queues))
