use Rattle.std.proofs.Common.{sym, ap, ◌∙◌, arith}
use Rattle.qm_turn.proofs.Drawing.{draws}
use Rattle.qm_turn.proofs.turnstile.Turnstile.draw.Goals as goal

pub fetch_add-requires : goal.fetch_add-requires
fetch_add-requires g c = (
  c.requires.here ∙ sym (ap (λ v. v.place) c.self.view_is),
  omega (arith, c.self.invariant),
  draws g.V.Told.stands c.self.inside.table.shared.key c.self.inside.table.shared.table_id.slots c.args.seat.now.id c.args.seat.now.me c.requires.rests.0 c.requires.rests.1 c.requires.room,
)
