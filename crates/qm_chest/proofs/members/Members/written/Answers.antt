use Rattle.std.proofs.Common.{ℕ, arith, ◌∙◌, refl, sym, ap, None, slice_set}
use Rattle.qm_history.specs.declared.call.Answer.TheVariants as answer
use Rattle.qm_acting.specs.Standing.{restored_disk, restored_standing}
use Rattle.qm_chest.specs.Taking.{failed, request_of, told_of_failed}
use Rattle.qm_chest.proofs.Failed as failing
use Rattle.qm_chest.proofs.Outcomes.{full_leaves, master_full, served_as}
use Rattle.qm_chest.proofs.Writing as writing
use Rattle.qm_chest.proofs.members.Members.written.Goals as goal

pub returns-in-NoMemory-clause-takes : goal.returns-in-NoMemory-clause-takes
returns-in-NoMemory-clause-takes g c = λ now what asks is tells cap w asked old taking read.
    let m = g.D.Disk.meaning in
    let can = c.requires.can in
    let e = rw c.in-NoMemory.is at c.in-Err.ensures.answer in
    served_as m cap w c.args.node now asked old _ c.short.result (failed c.in-Err.closed None c.args.node c.args.self.now.greatest c.args.kept None (answer.NoMemory (told_of_failed c.args.self.now.greatest c.args.kept)))
    c.short.ensures
    (failing.short_served c.site_files_are_accepted.ensures m g.met.D.Disk.only_now g.met.D.Disk.counts_now (λ disk f le. g.met.D.Disk.reads_a_crash_state disk f tells le) cap w asked c.args.kept old
    (restored_disk c.args.restored) (restored_standing c.args.restored) read c.args.self.now c.args.node now what taking can.there asks can.nodes c.in-Err.closed e)

pub returns-in-MasterFull-clause-leaves : goal.returns-in-MasterFull-clause-leaves
returns-in-MasterFull-clause-leaves g c =
    let e = rw c.in-MasterFull.is at c.in-Err.ensures.answer in
    full_leaves g.D.Disk.meaning c.args.self.now (restored_disk c.args.restored) c.in-Err.closed c.args.node c.args.kept c.in-MasterFull.need c.in-MasterFull.cap c.master_full.result e.3 (omega (arith, e.1))
    c.master_full.ensures.full c.master_full.ensures.short

pub returns-in-MasterFull-clause-takes : goal.returns-in-MasterFull-clause-takes
returns-in-MasterFull-clause-takes g c = λ now what asks is tells cap w asked old taking read.
    let m = g.D.Disk.meaning in
    let can = c.requires.can in
    let e = rw c.in-MasterFull.is at c.in-Err.ensures.answer in
    master_full c.site_files_are_accepted.ensures m g.met.D.Disk.only_now g.met.D.Disk.counts_now (λ disk f le. g.met.D.Disk.reads_a_crash_state disk f tells le) cap w asked c.args.kept old
    (restored_disk c.args.restored) (restored_standing c.args.restored) read c.args.self.now c.args.node now what taking can.there asks can.nodes c.in-Err.closed c.in-MasterFull.need c.in-MasterFull.cap
    c.master_full.result e.3 e.0 e.1 e.2 (omega (arith, e.1)) c.master_full.ensures.full c.master_full.ensures.short

pub returns-in-Epoch-clause-takes : goal.returns-in-Epoch-clause-takes
returns-in-Epoch-clause-takes g c = λ now what asks is tells cap w asked old taking read.
    let m = g.D.Disk.meaning in
    let can = c.requires.can in
    let st = restored_standing c.args.restored in
    let e = rw c.in-Epoch.is at c.in-Err.ensures.answer in
    let run = rw c.in-Epoch.is at (c.in-Err.ensures.any_moment tells) in
    writing.epoch_at c.site_files_are_accepted.ensures c.site_files_go_on.ensures c.nodes_keep_their_names.ensures.names m g.met.D.Disk.only_now g.met.D.Disk.counts_now (λ disk f le. g.met.D.Disk.reads_a_crash_state disk f tells le)
    cap w asked c.args.kept old (restored_disk c.args.restored) st read c.args.self.now c.args.node now what taking can.there asks can.nodes is.named
    c.args.moment is.moment_is c.next_epoch-epoch.result c.next_epoch-epoch.ensures c.args.request
    (is.is ∙ ap (request_of c.args.self.now st.system c.args.node what) (sym c.next_epoch-epoch.ensures))
    c.in-Err.closed _ refl refl refl refl e c.journal.result run c.journal.ensures

pub returns-in-Full-clause-takes : goal.returns-in-Full-clause-takes
returns-in-Full-clause-takes g c = λ now what asks is tells cap w asked old taking read.
    let m = g.D.Disk.meaning in
    let can = c.requires.can in
    let st = restored_standing c.args.restored in
    let e = rw (c.in-Full.is, c.get.ensures) at c.in-Err.ensures.answer in
    let run = rw c.in-Full.is at (c.in-Err.ensures.any_moment tells) in
    writing.full_at c.site_files_are_accepted.ensures c.site_files_go_on.ensures c.nodes_keep_their_names.ensures.names m g.met.D.Disk.only_now g.met.D.Disk.counts_now (λ disk f le. g.met.D.Disk.reads_a_crash_state disk f tells le)
    cap w asked c.args.kept old (restored_disk c.args.restored) st read c.args.self.now c.args.node now what taking can.there asks can.nodes is.named
    c.args.moment is.moment_is c.next_epoch-epoch.result c.next_epoch-epoch.ensures c.args.request
    (is.is ∙ ap (request_of c.args.self.now st.system c.args.node what) (sym c.next_epoch-epoch.ensures))
    c.in-Err.closed _ refl refl refl refl e.0.master_room c.full.result c.in-Full.need c.in-Full.cap (e.0.at_rest tells) e.1 run c.full.ensures

pub returns-in-Record-clause-takes : goal.returns-in-Record-clause-takes
returns-in-Record-clause-takes g c = λ now what asks is tells cap w asked old taking read.
    let m = g.D.Disk.meaning in
    let can = c.requires.can in
    let st = restored_standing c.args.restored in
    let e = rw (c.in-Record.is, c.get.ensures) at c.in-Err.ensures.answer in
    let run = rw (c.in-Record.is, c.get.ensures) at (c.in-Err.ensures.any_moment tells) in
    writing.doubt_at c.site_files_are_accepted.ensures c.site_files_go_on.ensures c.nodes_keep_their_names.ensures.names m g.met.D.Disk.only_now g.met.D.Disk.counts_now (λ disk f le. g.met.D.Disk.reads_a_crash_state disk f tells le)
    cap w asked c.args.kept old (restored_disk c.args.restored) st read c.args.self.now c.args.node now what taking can.there asks can.nodes is.named
    c.args.moment is.moment_is c.next_epoch-epoch.result c.next_epoch-epoch.ensures c.args.request
    (is.is ∙ ap (request_of c.args.self.now st.system c.args.node what) (sym c.next_epoch-epoch.ensures))
    c.in-Err.closed _ refl refl refl refl e.0 c.journal-in-Record.result c.live.result c.count.result c.live.ensures c.count.ensures e.1 run c.journal-in-Record.ensures

pub returns-in-Ok-clause-takes : goal.returns-in-Ok-clause-takes
returns-in-Ok-clause-takes g c = λ now what asks is tells cap w asked old taking read.
    let m = g.D.Disk.meaning in
    let can = c.requires.can in
    let st = restored_standing c.args.restored in
    writing.took_at c.site_files_are_accepted.ensures c.site_files_go_on.ensures c.nodes_keep_their_names.ensures.names m g.met.D.Disk.only_now g.met.D.Disk.counts_now (λ disk f le. g.met.D.Disk.reads_a_crash_state disk f tells le)
    cap w asked c.args.kept old (restored_disk c.args.restored) st read c.args.self.now c.args.node now what taking can.there asks can.nodes is.named
    c.args.moment is.moment_is c.next_epoch-epoch.result c.next_epoch-epoch.ensures c.args.request
    (is.is ∙ ap (request_of c.args.self.now st.system c.args.node what) (sym c.next_epoch-epoch.ensures))
    c.in-Ok.manager c.in-Ok.reply _ c.taken_by.result tells (rw c.get.ensures at c.in-Ok.ensures.answer) (rw c.get.ensures at (c.in-Ok.ensures.any_moment tells)) refl refl
    (ap (λ (k : ℕ). slice_set c.args.self.now.held.items k c.next_epoch-epoch.result) c.from.ensures) refl c.taken_by.ensures.taken

pub returns-in-Ok-clause-leaves : goal.returns-in-Ok-clause-leaves
returns-in-Ok-clause-leaves g c =
    let m = g.D.Disk.meaning in
    let can = c.requires.can in
    let st = restored_standing c.args.restored in
    writing.took_leaves c.nodes_keep_their_names.ensures.names m c.args.self.now _ (restored_disk c.args.restored) c.args.node c.args.moment c.args.request st c.in-Ok.manager c.in-Ok.reply c.taken_by.result
    can.nodes can.there (rw c.get.ensures at c.in-Ok.ensures.answer) refl (omega arith) (c.in-Ok.ensures.leaves.faults.quiet (λ no. no)) c.in-Ok.ensures.leaves.spare c.taken_by.ensures.manager
