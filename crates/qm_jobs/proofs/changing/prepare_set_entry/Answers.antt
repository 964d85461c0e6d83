use Rattle.std.proofs.Common.{◌∙◌, ap, sym, option_copied}
use Rattle.qm_image.specs.Image.{system_of}
use Rattle.qm_image.proofs.Changed.{entry_prepared, entry_unprepared}
use Rattle.qm_jobs.proofs.changing.prepare_set_entry.Goals as goal

pub returns-in-Ok : goal.returns-in-Ok
unfolding system_of
returns-in-Ok c node =
    entry_prepared c.args.image.now c.reserve_change.new.image c.args.now c.args.number node c.args.change.now c.in-Some.entry.now c.changed_entry-entry.result c.entry.ensures.in_order
    (sym c.entry.ensures.found ∙ ap option_copied c.in-Some.is) (sym c.entry_change_refusal.ensures ∙ c.in_default-entry_change_refusal.is) c.changed_entry-entry.ensures c.reserve_change.ensures.rows c.reserve_change.ensures.tables c.in-Ok.ensures.timer c.in-Ok.ensures.places

pub returns-in-Err : goal.returns-in-Err
unfolding system_of
returns-in-Err c node =
    entry_unprepared c.args.image.now c.reserve_change.new.image c.args.now c.args.number node c.args.change.now c.in-Some.entry.now
    (sym c.entry.ensures.found ∙ ap option_copied c.in-Some.is) (sym c.entry_change_refusal.ensures ∙ c.in_default-entry_change_refusal.is) c.reserve_change.ensures.rows
