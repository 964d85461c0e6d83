use Rattle.std.proofs.Common.{◌∙◌, ap, refl, sym, subst, length, None}
use Rattle.qm_disk.specs.Disk.{CrashState, LeavesOnly}
use Rattle.qm_kinds.specs.declared.input.Input.TheVariants as input
use Rattle.qm_store.specs.Database.{disk_of as closed_disk}
use Rattle.qm_store.specs.Recorded.{HoldsEither, with_body}
use Rattle.qm_history.specs.declared.call.Answer.TheVariants as answer
use Rattle.qm_acting.proofs.Spare.{keeps_to}
use Rattle.qm_acting.specs.Asking.{text_of}
use Rattle.qm_acting.specs.Standing.{Standing, standing_of, disk_of}
use Rattle.qm_chest.specs.declared.answering.Step.{Step}
use Rattle.qm_chest.specs.declared.work.Work.TheVariants.{Up}
use Rattle.qm_chest.specs.Steps.{AskStep, IsSameManager, LeavesAsked, StepIs, came_of, done_step, full_step, refused_step}
use Rattle.qm_chest.proofs.InPlace.{left_quiet, left_still}
use Rattle.qm_chest.proofs.Steps.{done_comes, doubt_comes, full_comes, refused_comes, short_comes}
use Rattle.qm_chest.proofs.asking.ask_step.Goals as goal

pub returns-in-Ok-clause-leaves : goal.returns-in-Ok-clause-leaves
returns-in-Ok-clause-leaves g c =
    let e = rw c.get.ensures at c.in-Ok.ensures in
    let m = g.D.Disk.meaning in
    let old = c.args.manager.now in
    let new = c.ask.new.self in
    let nodes = c.nodes_keep_their_names.ensures.names (standing_of old).system c.acting-moment.result c.args.node c.args.request
    (record { system = (standing_of new).system; reply = c.in-Ok.replies.kept }) e.answer.0.accepted in
    subst (λ (step : Step). StepIs (LeavesAsked m c.args.took old c.args.at) step new c.args.at) (sym c.done.ensures)
    (left_quiet m (IsSameManager m old c.args.at) c.args.took (disk_of old) (came_of (done_step c.args.node c.acting-moment.result c.args.request c.in-Ok.replies c.args.took) (Up new c.args.at))
    (record { ready = e.ready (λ none. cc); nodes = (nodes, refl) }) (e.leaves.faults.quiet (λ none. cc)) e.leaves.spare refl (refl, refl, refl, tt))

pub returns-in-Err-Refused-clause-leaves : goal.returns-in-Err-Refused-clause-leaves
returns-in-Err-Refused-clause-leaves g c =
    let e = rw c.in-Err-Refused.field-0-is at c.in-Err-Refused.ensures in
    let m = g.D.Disk.meaning in
    subst (λ (step : Step). StepIs (LeavesAsked m c.args.took c.args.manager.now c.args.at) step c.ask.new.self c.args.at) (sym c.refused.ensures)
    (left_still m c.args.took c.args.manager.now c.ask.new.self c.args.at
    (refused_step c.args.node c.acting-moment.result (input.Ask c.args.request) c.in-Err-Refused.refusal c.args.took) refl (e.ready (λ none. cc)) e.answer.1 e.writes refl (refl, refl, refl, tt))

pub returns-in-Err-Full-clause-leaves : goal.returns-in-Err-Full-clause-leaves
returns-in-Err-Full-clause-leaves g c =
    let e = rw c.in-Err-Full.field-0-is at c.in-Err-Full.ensures in
    let m = g.D.Disk.meaning in
    subst (λ (step : Step). StepIs (LeavesAsked m c.args.took c.args.manager.now c.args.at) step c.ask.new.self c.args.at) (sym c.full.ensures)
    (left_still m c.args.took c.args.manager.now c.ask.new.self c.args.at
    (full_step c.args.node c.in-Err-Full.need c.in-Err-Full.cap c.args.took) refl (e.ready (λ none. cc)) e.answer.1 e.writes refl (refl, refl, refl, tt))

pub returns-in-Err-Disk-clause-leaves : goal.returns-in-Err-Disk-clause-leaves
returns-in-Err-Disk-clause-leaves g c = λ closed same.
    let e = rw c.in-Err-Disk.field-0-is at c.in-Err-Disk.ensures in
    let m = g.D.Disk.meaning in
    let old = disk_of c.args.manager.now in
    record {
      work = record { ready = tt; nodes = tt };
      leaves = record { faults = record { fault = λ is. ap m.faults same ∙ e.leaves.faults.fault refl; quiet = λ not. absurd (not refl) }; spare = λ tells. keeps_to m old (disk_of c.ask.new.self) (closed_disk closed) (e.leaves.spare tells) same };
      down = λ is. tt;
      told = (refl, refl, refl, tt);
    }

pub returns-in-Err-NoMemory-clause-leaves : goal.returns-in-Err-NoMemory-clause-leaves
returns-in-Err-NoMemory-clause-leaves g c =
    let e = rw c.in-Err-NoMemory.field-0-is at c.in-Err-NoMemory.ensures in
    let m = g.D.Disk.meaning in
    subst (λ (step : Step). StepIs (LeavesAsked m c.args.took c.args.manager.now c.args.at) step c.ask.new.self c.args.at) (sym c.short.ensures)
    (left_still m c.args.took c.args.manager.now c.ask.new.self c.args.at
    (record { event = None; answer = answer.NoMemory c.args.took }) refl (e.ready (λ none. cc)) e.answer.1 e.writes refl refl)

pub returns-in-Ok-clause-comes : goal.returns-in-Ok-clause-comes
returns-in-Ok-clause-comes g c =
    let e = rw c.get.ensures at c.in-Ok.ensures in
    subst (λ (step : Step). StepIs (AskStep g.D.Disk.meaning c.args.manager.now c.args.at c.args.live c.args.node c.args.now c.args.request c.args.took) step c.ask.new.self c.args.at) (sym c.done.ensures)
    (λ tells cap w asked acted small up live own.
    done_comes c.site_files_are_accepted.ensures c.site_files_go_on.ensures g.D.Disk.meaning g.met.D.Disk.only_now g.met.D.Disk.counts_now (λ disk f le. g.met.D.Disk.reads_a_crash_state disk f tells le)
    cap w c.args.manager.now c.args.at up small c.args.node c.args.now acted asked c.args.request c.args.took own c.acting-moment.result c.acting-moment.ensures c.ask.new.self c.in-Ok.replies.kept c.in-Ok.replies.told
    e.answer.1 e.answer.0 ((e.ready (λ none. cc)).at_rest tells) (e.writes.any_moment tells))

pub returns-in-Err-Refused-clause-comes : goal.returns-in-Err-Refused-clause-comes
returns-in-Err-Refused-clause-comes g c =
    let e = rw (c.in-Err-Refused.field-0-is, c.get.ensures) at c.in-Err-Refused.ensures in
    subst (λ (step : Step). StepIs (AskStep g.D.Disk.meaning c.args.manager.now c.args.at c.args.live c.args.node c.args.now c.args.request c.args.took) step c.ask.new.self c.args.at) (sym c.refused.ensures)
    (λ tells cap w asked acted small up live own.
    refused_comes c.site_files_are_accepted.ensures c.site_files_go_on.ensures g.D.Disk.meaning g.met.D.Disk.only_now g.met.D.Disk.counts_now (λ disk f le. g.met.D.Disk.reads_a_crash_state disk f tells le)
    cap w c.args.manager.now c.args.at up small c.args.node c.args.now acted asked c.args.request c.args.took own c.acting-moment.result c.acting-moment.ensures c.ask.new.self c.in-Err-Refused.refusal
    e.answer.1 e.writes e.answer.0)

pub returns-in-Err-Full-clause-comes : goal.returns-in-Err-Full-clause-comes
returns-in-Err-Full-clause-comes g c =
    let e = rw (c.in-Err-Full.field-0-is, c.get.ensures) at c.in-Err-Full.ensures in
    subst (λ (step : Step). StepIs (AskStep g.D.Disk.meaning c.args.manager.now c.args.at c.args.live c.args.node c.args.now c.args.request c.args.took) step c.ask.new.self c.args.at) (sym c.full.ensures)
    (λ tells cap w asked acted small up live own.
    full_comes c.site_files_are_accepted.ensures c.site_files_go_on.ensures g.D.Disk.meaning g.met.D.Disk.only_now g.met.D.Disk.counts_now (λ disk f le. g.met.D.Disk.reads_a_crash_state disk f tells le)
    cap w c.args.manager.now c.args.at up small c.args.node c.args.now acted asked c.args.request c.args.took own c.acting-moment.result c.acting-moment.ensures c.ask.new.self c.in-Err-Full.need c.in-Err-Full.cap
    e.answer.1 e.writes e.answer.0 e.answer.0.short)

pub returns-in-Err-NoMemory-clause-comes : goal.returns-in-Err-NoMemory-clause-comes
returns-in-Err-NoMemory-clause-comes g c =
    let e = rw c.in-Err-NoMemory.field-0-is at c.in-Err-NoMemory.ensures in
    subst (λ (step : Step). StepIs (AskStep g.D.Disk.meaning c.args.manager.now c.args.at c.args.live c.args.node c.args.now c.args.request c.args.took) step c.ask.new.self c.args.at) (sym c.short.ensures)
    (λ tells cap w asked acted small up live own.
    short_comes c.site_files_are_accepted.ensures c.site_files_go_on.ensures g.D.Disk.meaning g.met.D.Disk.only_now g.met.D.Disk.counts_now (λ disk f le. g.met.D.Disk.reads_a_crash_state disk f tells le)
    cap w c.args.manager.now c.args.at up small c.args.node c.args.now acted asked c.args.request c.args.took own c.acting-moment.result c.acting-moment.ensures c.ask.new.self e.answer.1 e.writes)

pub returns-in-Err-Disk-clause-comes : goal.returns-in-Err-Disk-clause-comes
returns-in-Err-Disk-clause-comes g c = λ closed same tells cap w asked acted small up live own.
    let e = rw (c.in-Err-Disk.field-0-is, c.get.ensures) at c.in-Err-Disk.ensures in
    let m = g.D.Disk.meaning in
    let st = standing_of c.args.manager.now in
    let either : CrashState → Type 0 = HoldsEither (m.may_leave (disk_of c.args.manager.now)) st.recorded.says.live st.recorded (with_body st.recorded (text_of c.acting-moment.result c.args.node c.args.request)) in
    doubt_comes c.site_files_are_accepted.ensures c.site_files_go_on.ensures m g.met.D.Disk.only_now g.met.D.Disk.counts_now (λ disk f le. g.met.D.Disk.reads_a_crash_state disk f tells le)
    cap w c.args.manager.now c.args.at up small c.args.node c.args.now acted asked c.args.request c.args.took own c.acting-moment.result c.acting-moment.ensures c.args.live live c.requires.to_manager closed
    _ _ (ap (λ (s : Standing). s.recorded.says.live) e.answer.1) (ap (λ (s : Standing). length s.recorded.bodies) e.answer.1)
    e.answer.0 (subst (λ d. LeavesOnly m (disk_of c.args.manager.now) d either) (sym same) (e.writes.any_moment tells))
