use Rattle.std.proofs.Common.{sym, ap, ◌∙◌, arith}
use Rattle.qm_turn.proofs.Looking.{looks}
use Rattle.qm_turn.proofs.turnstile.Turnstile.look.Goals as goal

pub load-requires : goal.load-requires
load-requires g c =
    let kept = c.loop.invariant in (
      kept.3 ∙ c.requires.here ∙ sym (ap (λ v. v.place) c.self.view_is),
      omega (arith, c.self.invariant),
      looks g.V.Told.stands c.self.inside.table.shared.key c.self.inside.table.shared.table_id.slots c.loop.seat.id c.args.ticket c.loop.seat.me (ap (λ m. m.0.phase) kept.2 ∙ c.requires.waits.0) (ap (λ m. m.1) kept.2 ∙ c.requires.waits.1),
    )
