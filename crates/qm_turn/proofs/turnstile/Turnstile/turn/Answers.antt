use Rattle.std.proofs.Common.{refl}
use Rattle.qm_turn.proofs.Telling.{turned_as}
use Rattle.qm_turn.proofs.turnstile.Turnstile.turn.Goals as goal

pub returns-clause-turned : goal.returns-clause-turned
returns-clause-turned g c =
    turned_as g.V.Told.stands _ _ _ c.pass.inside.seat.table_id c.serve-answer.new.seat.table_id c.pass.inside.seat.me.0 c.serve-answer.new.seat.me _ _ c.pass.invariant.1 c.serve-answer.ensures.same.0 c.pass.view_is refl c.serve-answer.ensures.ran
