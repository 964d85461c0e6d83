use Rattle.qm_program.proofs.Leaving.{read_text}
use Rattle.qm_program.proofs.running.serve_in_order.Goals as goal

pub returns-in-Ok-clause-cause : goal.returns-in-Ok-clause-cause
returns-in-Ok-clause-cause g c =
    let left = g.S.Source.remaining c.args.source.now in
    rw (c.in-Ok.ensures.quiet (λ failed. cc))
    (c.serve_text_in_order.ensures.ends.cause left (g.S.Source.faults c.args.source.now) (read_text left c.in-Ok.script.items c.deref.result.now c.in-Ok.ensures.whole c.deref.ensures.value))
