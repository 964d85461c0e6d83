use Rattle.std.proofs.Common.{◌&&◌, ◌∙◌, Option, sym, ap}
use Rattle.qm_model.specs.Common.{Entry, Fate, report_act, has_run, is_run_on}
use Rattle.qm_parts.specs.Rooms.{HavePlacesFor}
use Rattle.qm_rules.specs.Ending.{report_of}
use Rattle.qm_image.specs.Image.{system_of}
use Rattle.qm_image.specs.Timers.{moment_left}
use Rattle.qm_image.proofs.Timed.{room_for}
use Rattle.qm_making.proofs.Ended.{reported_left, reported_home, reported_is}
use Rattle.qm_making.proofs.making.report_run.Goals as goal

pub leave-requires-clause-left : goal.leave-requires-clause-left
unfolding system_of
leave-requires-clause-left c =
    reported_left c.queue_table.result.now.queues c.args.now (report_of c.args.report.now) (λ (e : Entry). has_run c.args.run e && is_run_on c.args.node.now e) c.in-Some.entry.now c.args.image.now.parts.entries c.after_report-left.result c.requires.sound.entries.order (sym c.in-Some.ensures) c.after_report-left.ensures

pub leave-requires-clause-place : goal.leave-requires-clause-place
unfolding system_of
leave-requires-clause-place c =
    reported_home c.queue_table.result.now.queues c.args.now (report_of c.args.report.now) (λ (e : Entry). has_run c.args.run e && is_run_on c.args.node.now e) c.in-Some.entry.now c.args.image.now.parts.entries c.after_report-left.result
    (λ (e : Entry). HavePlacesFor e.home 1 c.args.image.now.parts) c.requires.sound.entries.order (sym c.in-Some.ensures) c.after_report-left.ensures

pub returns-clause-done : goal.returns-clause-done
unfolding system_of
returns-clause-done c =
    reported_is (system_of c.args.image.now) (system_of c.leave.new.image) c.args.now c.args.node.now c.args.run (report_of c.args.report.now) c.in-Some.entry.now c.queue_table.result.now.queues c.after_report-left.result c.report_act-act.result
    c.in-Some.ensures c.queue_table.ensures c.after_report-left.ensures
    (c.report_act-act.ensures ∙ ap (λ (fate : Option Fate). report_act c.args.run (report_of c.args.report.now) fate c.after_report-left.result) c.fate_of-fate.ensures) c.leave.ensures.rows

pub leave-requires-clause-timer : goal.leave-requires-clause-timer
leave-requires-clause-timer c = room_for c.args.image.now.parts.spare_timers (moment_left c.after_report-left.result) c.requires.timer
