use Rattle.std.proofs.Common.{sym, ap, ◌∙◌, arith, subst}
use Rattle.qm_turn.specs.Rule.{IsServed}
use Rattle.qm_turn.proofs.Hearing.{hears}
use Rattle.qm_turn.proofs.turnstile.Turnstile.news.Goals as goal

pub load-requires : goal.load-requires
load-requires g c = (
  ap (λ v. v.place) c.pass.view_is ∙ c.requires ∙ sym (ap (λ v. v.place) c.self.view_is),
  omega (arith, c.self.invariant),
  hears g.V.Told.stands c.self.inside.table.shared.key c.self.inside.table.shared.table_id.slots c.pass.inside.seat.id c.pass.inside.seat.me (λ is. subst IsServed c.pass.invariant.1 is),
)
