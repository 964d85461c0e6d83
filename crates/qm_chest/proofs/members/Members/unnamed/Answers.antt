use Rattle.std.proofs.Common.{◌≡◌, ℕ, false, arith, ◌∙◌, refl, ap, subst, None, Some, slice_get, unwrap_or}
use Rattle.qm_store.specs.Database.{disk_of as closed_disk}
use Rattle.qm_store.specs.Opening.{in_next_epoch}
use Rattle.qm_store.specs.Recorded.{epoch_behind}
use Rattle.qm_history.specs.declared.call.Answer.TheVariants as answer
use Rattle.qm_history.specs.declared.event.Event.TheVariants as event
use Rattle.qm_history.specs.Takeover.{is_named, nodes_on}
use Rattle.qm_kinds.specs.declared.system.System.{System}
use Rattle.qm_acting.proofs.Spare.{keeps_to}
use Rattle.qm_acting.specs.Standing.{disk_of, restored_disk, restored_standing}
use Rattle.qm_chest.specs.Taking.{failed, told_of_failed}
use Rattle.qm_chest.proofs.Failed as failing
use Rattle.qm_chest.proofs.Names.{name_there}
use Rattle.qm_chest.proofs.Outcomes.{epoch_run, failed_leaves, full_leaves, master_full, opened_rest, quiet_faults, served_as}
use Rattle.qm_chest.proofs.members.Members.unnamed.Goals as goal

pub returns-in-Ok-clause-leaves : goal.returns-in-Ok-clause-leaves
returns-in-Ok-clause-leaves g c =
    let m = g.D.Disk.meaning in
    let can = c.requires.can in
    let name = name_there c.args.node (restored_standing c.args.restored).system.nodes c.args.self.now.names.items can.nodes can.there in
    failed_leaves m c.args.self.now _ (restored_disk c.args.restored) _ c.close.result None c.args.node c.next_epoch-epoch.result c.args.kept (Some (event.NoManager c.args.node))
    (answer.NoManager (told_of_failed c.next_epoch-epoch.result c.args.kept) name.0) c.refused.result refl (omega arith)
    (quiet_faults m (restored_disk c.args.restored) (closed_disk c.close.result) (ap m.faults c.close.ensures ∙ c.in-Ok.ensures.leaves.faults.quiet (λ no. no)))
    (λ tells. keeps_to m (restored_disk c.args.restored) (disk_of c.in-Ok.manager) (closed_disk c.close.result) (c.in-Ok.ensures.leaves.spare tells) c.close.ensures) ((λ is. cc), (λ h. refl)) tt
    (c.refused.ensures name.0 name.1)

pub returns-in-Ok-clause-serves : goal.returns-in-Ok-clause-serves
returns-in-Ok-clause-serves g c = λ now what asks unnamed tells cap w asked old taking read.
    let m = g.D.Disk.meaning in
    let can = c.requires.can in
    let st = restored_standing c.args.restored in
    let name = name_there c.args.node st.system.nodes c.args.self.now.names.items can.nodes can.there in
    let opened = c.in-Ok.ensures.answer in
    served_as m cap w c.args.node now asked old _ c.refused.result
    (failed c.close.result None c.args.node (epoch_behind st.recorded c.args.self.now.greatest) c.args.kept (Some (event.NoManager c.args.node))
    (answer.NoManager (told_of_failed (epoch_behind st.recorded c.args.self.now.greatest) c.args.kept) name.0))
    (c.refused.ensures name.0 name.1
    ∙ ap (λ (e : ℕ). failed c.close.result None c.args.node e c.args.kept (Some (event.NoManager c.args.node)) (answer.NoManager (told_of_failed e c.args.kept) name.0)) c.next_epoch-epoch.ensures)
    (failing.unnamed_served c.site_files_are_accepted.ensures m g.met.D.Disk.only_now g.met.D.Disk.counts_now (λ disk f le. g.met.D.Disk.reads_a_crash_state disk f tells le) cap w asked c.args.kept old
    (restored_disk c.args.restored) st read c.args.self.now c.args.node now what taking can.there asks can.nodes c.close.result _
    (record {
      names = refl;
      live = refl;
      held = refl;
      greatest_is = failing.next_is c.site_files_are_accepted.ensures m g.met.D.Disk.only_now g.met.D.Disk.counts_now (λ disk f le. g.met.D.Disk.reads_a_crash_state disk f tells le) cap w asked c.args.kept old
          (restored_disk c.args.restored) st read c.args.self.now c.args.node now what taking can.there asks can.nodes;
    })
    opened.master_room
    (epoch_run m 0 st.recorded (in_next_epoch st.recorded c.args.self.now.greatest c.args.node) (restored_disk c.args.restored) (disk_of c.in-Ok.manager) (closed_disk c.close.result) c.close.ensures (c.in-Ok.ensures.any_moment tells))
    (opened_rest m st c.args.self.now.greatest c.args.node c.in-Ok.manager c.close.result opened.standing opened.ready tells c.close.ensures) name.0 name.1
    (subst (λ (s : System). is_named s (nodes_on what) c.args.node ≡ false) read.system unnamed))

pub returns-in-Full-clause-leaves : goal.returns-in-Full-clause-leaves
returns-in-Full-clause-leaves g c =
    let e = rw c.in-Full.is at c.in-Err.ensures.answer in
    full_leaves g.D.Disk.meaning c.args.self.now (restored_disk c.args.restored) c.in-Err.closed c.args.node c.args.kept c.in-Full.need c.in-Full.cap c.master_full.result e.4 (omega (arith, e.1))
    c.master_full.ensures.full c.master_full.ensures.short

pub returns-in-Full-clause-serves : goal.returns-in-Full-clause-serves
returns-in-Full-clause-serves g c = λ now what asks unnamed tells cap w asked old taking read.
    let m = g.D.Disk.meaning in
    let can = c.requires.can in
    let e = rw c.in-Full.is at c.in-Err.ensures.answer in
    master_full c.site_files_are_accepted.ensures m g.met.D.Disk.only_now g.met.D.Disk.counts_now (λ disk f le. g.met.D.Disk.reads_a_crash_state disk f tells le) cap w asked c.args.kept old
    (restored_disk c.args.restored) (restored_standing c.args.restored) read c.args.self.now c.args.node now what taking can.there asks can.nodes c.in-Err.closed c.in-Full.need c.in-Full.cap c.master_full.result
    e.4 e.0 e.1 e.2 (omega (arith, e.1)) c.master_full.ensures.full c.master_full.ensures.short

pub returns-in-Disk-clause-serves : goal.returns-in-Disk-clause-serves
returns-in-Disk-clause-serves g c = λ now what asks unnamed tells cap w asked old taking read.
    let m = g.D.Disk.meaning in
    let can = c.requires.can in
    let st = restored_standing c.args.restored in
    let e = rw c.in-Disk.is at c.in-Err.ensures.answer in
    let live = unwrap_or (slice_get c.args.self.now.live.items c.args.node) false in
    served_as m cap w c.args.node now asked old _ c.journal.result
    (failed c.in-Err.closed None c.args.node (epoch_behind st.recorded c.args.self.now.greatest) c.args.kept None (answer.Journal (told_of_failed (epoch_behind st.recorded c.args.self.now.greatest) c.args.kept) live))
    (c.journal.ensures ∙ ap (λ (x : ℕ). failed c.in-Err.closed None c.args.node x c.args.kept None (answer.Journal (told_of_failed x c.args.kept) live)) c.next_epoch-epoch.ensures)
    (failing.epoch_served c.site_files_are_accepted.ensures m g.met.D.Disk.only_now g.met.D.Disk.counts_now (λ disk f le. g.met.D.Disk.reads_a_crash_state disk f tells le) cap w asked c.args.kept old
    (restored_disk c.args.restored) st read c.args.self.now c.args.node now what taking can.there asks can.nodes c.in-Err.closed _
    (record {
      names = refl;
      live = refl;
      held = refl;
      greatest_is = failing.next_is c.site_files_are_accepted.ensures m g.met.D.Disk.only_now g.met.D.Disk.counts_now (λ disk f le. g.met.D.Disk.reads_a_crash_state disk f tells le) cap w asked c.args.kept old
          (restored_disk c.args.restored) st read c.args.self.now c.args.node now what taking can.there asks can.nodes;
    })
    e.0
    (epoch_run m 0 st.recorded (in_next_epoch st.recorded c.args.self.now.greatest c.args.node) (restored_disk c.args.restored) (closed_disk c.in-Err.closed) (closed_disk c.in-Err.closed) refl (c.in-Err.ensures.any_moment tells))
    live refl)

pub returns-in-NoMemory-clause-serves : goal.returns-in-NoMemory-clause-serves
returns-in-NoMemory-clause-serves g c = λ now what asks unnamed tells cap w asked old taking read.
    let m = g.D.Disk.meaning in
    let can = c.requires.can in
    let e = rw c.in-NoMemory.is at c.in-Err.ensures.answer in
    served_as m cap w c.args.node now asked old _ c.short.result (failed c.in-Err.closed None c.args.node c.args.self.now.greatest c.args.kept None (answer.NoMemory (told_of_failed c.args.self.now.greatest c.args.kept)))
    c.short.ensures
    (failing.short_served c.site_files_are_accepted.ensures m g.met.D.Disk.only_now g.met.D.Disk.counts_now (λ disk f le. g.met.D.Disk.reads_a_crash_state disk f tells le) cap w asked c.args.kept old
    (restored_disk c.args.restored) (restored_standing c.args.restored) read c.args.self.now c.args.node now what taking can.there asks can.nodes c.in-Err.closed e.1)
