use Rattle.std.proofs.Common.{None, Some, []}
use Rattle.qm_node.specs.Rows.{IsSound}
use Rattle.qm_node.proofs.Fetched.{found_others, left_sound, shown_known, taken_sound}
use Rattle.qm_node.proofs.runs.take_shown.Goals as goal

pub returns-in_default-clause-shown : goal.returns-in_default-clause-shown
returns-in_default-clause-shown g c = shown_known c.args.fetch c.args.old.now.items c.args.duty None c.in_default.ensures.taken c.in-None.is

pub returns-in_default-clause-others : goal.returns-in_default-clause-others
returns-in_default-clause-others g c = found_others c.args.duty.run c.args.old.now.items c.take_row.new.rows.items c.in_default.ensures.left

pub returns-in_default-clause-each : goal.returns-in_default-clause-each
returns-in_default-clause-each g c = left_sound (IsSound g.Y.Symbiont.stands None []) c.args.duty.run c.args.old.now.items c.take_row.new.rows.items c.in_default.ensures.left c.requires.each

pub returns-in-Some-take_row-clause-shown : goal.returns-in-Some-take_row-clause-shown
returns-in-Some-take_row-clause-shown g c = shown_known c.args.fetch c.args.old.now.items c.args.duty (Some c.in-Some-take_row.row) c.in-Some-take_row.ensures.taken c.in-None.is

pub returns-in-Some-take_row-clause-sound : goal.returns-in-Some-take_row-clause-sound
returns-in-Some-take_row-clause-sound g c =
    taken_sound (IsSound g.Y.Symbiont.stands None []) c.args.duty.run c.args.old.now.items c.in-Some-take_row.row c.in-Some-take_row.ensures.taken c.requires.each

pub returns-in-Some-take_row-clause-others : goal.returns-in-Some-take_row-clause-others
returns-in-Some-take_row-clause-others g c = found_others c.args.duty.run c.args.old.now.items c.take_row.new.rows.items c.in-Some-take_row.ensures.left

pub returns-in-Some-take_row-clause-each : goal.returns-in-Some-take_row-clause-each
returns-in-Some-take_row-clause-each g c = left_sound (IsSound g.Y.Symbiont.stands None []) c.args.duty.run c.args.old.now.items c.take_row.new.rows.items c.in-Some-take_row.ensures.left c.requires.each
