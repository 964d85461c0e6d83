use Rattle.std.proofs.Common.{ap}
use Rattle.qm_turn.proofs.Closing.{closes_with, closes_full}
use Rattle.qm_turn.proofs.turnstile.Turnstile.close.Goals as goal

pub unreachable-requires : goal.unreachable-requires
unreachable-requires g c =
    closes_full g.V.Told.stands c.self.inside.table.shared.key c.args.self.passes _ _ c.into_seat.result.id c.into_seat.result.me.0 c.into_seat.result.table_id c.args.pass c.close_with-closed.ensures.values.2 c.into_seat.ensures.rests.1 c.into_seat.ensures.known (ap (λ v. v.passes) c.self.view_is) c.requires.last c.in-None.ensures.value

pub returns : goal.returns
returns g c =
    closes_with g.V.Told.stands c.self.inside.table.shared.key c.args.self.passes _ _ c.into_seat.result.id c.into_seat.result.me.0 c.into_seat.result.table_id c.args.pass c.in-Some.value c.close_with-closed.ensures.values.2 c.into_seat.ensures.rests.1 c.into_seat.ensures.known (ap (λ v. v.passes) c.self.view_is) c.requires.last c.in-Some.ensures.value
