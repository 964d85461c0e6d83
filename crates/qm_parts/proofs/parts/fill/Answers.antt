use Rattle.std.proofs.Common.{arith, subst, sym}
use Rattle.qm_parts.specs.Rooms.{HaveRoom}
use Rattle.qm_parts.proofs.Bounds.{unknown_bounds}
use Rattle.qm_parts.proofs.parts.fill.Goals as goal

pub returns : goal.returns
returns c = record {
  queues = omega arith;
  enough = omega (arith, c.in_ok-add_rows.ensures.count, c.refill_all.ensures.count);
  bounded = omega (arith, c.in_ok-add_unknown.ensures.count, c.refill_all.ensures.count, c.len.ensures);
  room = subst (HaveRoom c.args.tables.now.queues c.args.tables.now.entries) (sym c.refill_all.ensures.room) c.in_ok-add_rows.ensures.room;
  bounds = unknown_bounds c.args.tables.now.queues c.args.tables.now.entries c.add_unknown.new.bounds.items c.in_ok-add_unknown.ensures.unknown;
  ready = c.refill_all.ensures.ready;
}
