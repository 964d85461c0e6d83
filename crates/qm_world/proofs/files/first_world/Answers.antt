use Rattle.std.proofs.Common.{◌∙◌, sym, ap, length, subst}
use Rattle.qm_history.specs.Common.{System, IsSound}
use Rattle.qm_world.proofs.Logs.{log_accepted, log_system}
use Rattle.qm_world.proofs.files.first_world.Goals as goal

pub begin-requires : goal.begin-requires
begin-requires g c =
    let site = c.in_ok-nodes.ensures.site in
    site.count ∙ sym (ap (λ (s : System). length s.nodes)
    (log_system c.no_record_begins_another.ensures c.site_files_are_accepted.ensures (g.B.Bodies.bodies c.args.file.now) site.system site.is c.in_ok-log.log.items c.in_ok-log.ensures.spelled
    c.in_ok-log.ensures.texts))

pub returns-clause-sound : goal.returns-clause-sound
returns-clause-sound g c =
    let log = c.in_ok-log.log.items in
    let site = c.in_ok-nodes.ensures.site in
    subst IsSound (sym c.in_ok-begin.ensures)
    (c.programs_begin_sound.ensures.sound log c.args.epoch
    (log_accepted c.no_record_begins_another.ensures c.site_files_are_accepted.ensures (g.B.Bodies.bodies c.args.file.now) site.system site.is log c.in_ok-log.ensures.spelled c.in_ok-log.ensures.texts))
