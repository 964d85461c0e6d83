use Rattle.std.proofs.Common.{sym, ap, ◌∙◌, arith, subst}
use Rattle.qm_turn.specs.Rule.{IsServed}
use Rattle.qm_turn.proofs.Hearing.{hears}
use Rattle.qm_turn.proofs.Joining.{joins}
use Rattle.qm_turn.proofs.turnstile.Turnstile.join.Goals as goal

pub join_seat-requires : goal.join_seat-requires
join_seat-requires g c = (
  ap (λ v. v.place) c.into.view_is ∙ c.requires.into ∙ sym (ap (λ v. v.place) c.self.view_is),
  ap (λ v. v.place) c.into_seat.ensures.known ∙ c.requires.other ∙ sym (ap (λ v. v.place) c.self.view_is),
  c.into_seat.ensures.rests.0,
  omega (arith, c.self.invariant),
  joins g.V.Told.stands c.self.inside.table.shared.key c.into.inside.seat.id c.into.inside.seat.me.0 c.into_seat.result.id c.into_seat.result.me.0 c.into.invariant.1 c.into_seat.ensures.rests.1,
)

pub load-requires : goal.load-requires
load-requires g c = (
  c.join_seat.ensures.0 ∙ ap (λ v. v.place) c.into.view_is ∙ c.requires.into ∙ sym (ap (λ v. v.place) c.self.view_is),
  omega (arith, c.self.invariant),
  hears g.V.Told.stands c.self.inside.table.shared.key c.self.inside.table.shared.table_id.slots c.join_seat.new.seat.id c.join_seat.new.seat.me (λ is. subst IsServed (ap (λ m. m.0.phase) c.join_seat.ensures.2 ∙ c.into.invariant.1) is),
)
