use Rattle.std.proofs.Common.{List, arith, subst}
use Rattle.qm_kinds.specs.declared.work.Duty.{Duty}
use Rattle.qm_model.specs.Kept.{kept_after}
use Rattle.qm_node.specs.Rows.{all_bare}
use Rattle.qm_node.proofs.Fetched.{Moved, all_at_places, all_in_order, all_shown, moved_one, no_items}
use Rattle.qm_node.proofs.Rounds.{shown_in_order}
use Rattle.qm_node.proofs.runs.move_shown.Goals as goal

pub loop-duty-preserved : goal.loop-duty-preserved
loop-duty-preserved g c =
    let all = kept_after c.args.fetch (all_bare c.args.old.items) c.args.duties.items in (
      moved_one c.args.fetch g.Y.Symbiont.stands all c.loop-duty.old.items c.move_one.new.old.items c.pop.new.self.items c.in-Some.duty c.loop-duty.rows.items c.move_one.new.rows.items
          (subst (λ (ds : List Duty). Moved c.args.fetch g.Y.Symbiont.stands all c.loop-duty.old.items ds c.loop-duty.rows.items) c.in-Some.ensures.items c.loop-duty.invariant.0)
          c.move_one.ensures.shown c.move_one.ensures.others c.move_one.ensures.kept.0 c.move_one.ensures.kept.1 c.move_one.ensures.moved,
      omega (arith, c.move_one.ensures.room.0, c.move_one.ensures.room.1, c.in-Some.ensures.cases, c.loop-duty.invariant.1),
      omega (arith, c.move_one.ensures.room.0, c.in-Some.ensures.cases, c.loop-duty.invariant.2),
    )

pub returns-clause-shown : goal.returns-clause-shown
returns-clause-shown g c =
    all_shown c.args.fetch g.Y.Symbiont.stands (kept_after c.args.fetch (all_bare c.args.old.items) c.args.duties.items) c.loop-duty.old.items c.loop-duty.duties.items c.loop-duty.rows.items c.reverse.new.self.items c.loop-duty.invariant.0
    (no_items c.loop-duty.duties.items (omega (arith, c.in_default.ensures.cases, c.loop-duty.duties.ok))) c.reverse.ensures.items

pub returns-clause-order : goal.returns-clause-order
returns-clause-order g c =
    all_in_order c.args.fetch g.Y.Symbiont.stands (kept_after c.args.fetch (all_bare c.args.old.items) c.args.duties.items) c.loop-duty.old.items c.loop-duty.duties.items c.loop-duty.rows.items c.reverse.new.self.items c.loop-duty.invariant.0
    (no_items c.loop-duty.duties.items (omega (arith, c.in_default.ensures.cases, c.loop-duty.duties.ok))) c.reverse.ensures.items
    (shown_in_order c.args.fetch (all_bare c.args.old.items) c.args.duties.items c.requires.duties.order)

pub returns-clause-each : goal.returns-clause-each
returns-clause-each g c =
    all_at_places c.args.fetch g.Y.Symbiont.stands (kept_after c.args.fetch (all_bare c.args.old.items) c.args.duties.items) c.loop-duty.old.items c.loop-duty.duties.items c.loop-duty.rows.items c.reverse.new.self.items c.loop-duty.invariant.0
    (no_items c.loop-duty.duties.items (omega (arith, c.in_default.ensures.cases, c.loop-duty.duties.ok))) c.reverse.ensures.items
