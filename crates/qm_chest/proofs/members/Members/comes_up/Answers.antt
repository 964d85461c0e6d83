use Rattle.std.proofs.Common.{ℕ, ◌∙◌, true, None, ap, arith, refl, sym, subst, slice_set}
use Rattle.qm_history.specs.Common.{Request, acting, system_in}
use Rattle.qm_acting.specs.Asking.{CanBeAsked}
use Rattle.qm_acting.specs.Standing.{disk_of, standing_of}
use Rattle.qm_history.specs.declared.event.Event.TheVariants as event
use Rattle.qm_history.specs.declared.call.Answer.TheVariants as answer
use Rattle.qm_chest.specs.declared.answering.Step.{Step}
use Rattle.qm_chest.specs.declared.asking.Came.{Came}
use Rattle.qm_chest.specs.declared.work.Work.TheVariants.{Up}
use Rattle.qm_chest.specs.Steps.{Comes, IsToManager, came_of}
use Rattle.qm_chest.specs.Whole.{IsServedAs, both}
use Rattle.qm_chest.proofs.InPlace.{left_own}
use Rattle.qm_chest.proofs.Kept.{alone_leaves, behind_leaves, leaves_as, recorded_some}
use Rattle.qm_chest.proofs.Names.{node_within}
use Rattle.qm_chest.proofs.Whole.{served_as}
use Rattle.qm_chest.proofs.ComingUp.{start_moves, start_short, start_stays}
use Rattle.qm_chest.proofs.Requests.{can_start}
use Rattle.qm_chest.proofs.members.Members.comes_up.Goals as goal

pub ask-came-requires-clause-can : goal.ask-came-requires-clause-can
ask-came-requires-clause-can g c =
    let st = standing_of c.args.manager in
    subst (λ (r : Request). CanBeAsked st.system (acting c.args.now st.system) c.args.node r) (sym c.in-Ok.ensures)
    (can_start st.system c.args.node c.args.now (node_within st.system c.args.self.now.names.items c.args.node c.requires.work.1 c.requires.there))

pub ask-came-requires-clause-to_manager : goal.ask-came-requires-clause-to_manager
ask-came-requires-clause-to_manager g c = subst IsToManager (sym c.in-Ok.ensures) tt

pub returns-in_default-clause-serves : goal.returns-in_default-clause-serves
returns-in_default-clause-serves g c = λ tells cap w asked state early is.
    let there = node_within (system_in w) c.args.self.now.names.items c.args.node state.members.names c.requires.there in
    served_as c.alone.result _ c.alone.ensures
    (subst (λ (came : Came g.row.D.Denot). IsServedAs g.D.Disk.meaning cap w c.args.node c.args.now asked (disk_of c.args.manager) (record { members = c.args.self.now; work = came.work }) (both came.event None) came.answer)
    (sym (c.up.ensures ∙ ap (λ (step : Step). came_of step (Up c.args.manager c.args.at)) c.short.ensures))
    (start_short c.site_files_are_accepted.ensures c.nodes_keep_their_names.ensures.names g.D.Disk.meaning g.met.D.Disk.only_now cap w c.args.manager c.args.at c.args.node c.args.now there c.args.self.now state asked is
    (record { work = Up c.args.manager c.args.at; event = None; answer = answer.NoMemory None }) (record { same = refl; work = state.work; told = refl })))

pub returns-then-not-is_recorded-clause-leaves : goal.returns-then-not-is_recorded-clause-leaves
returns-then-not-is_recorded-clause-leaves g c =
    let m = g.D.Disk.meaning in
    let came = c.ask-came.result in
    let left = left_own m c.args.self.now None c.args.manager c.args.at c.requires.work came c.ask-came.ensures.leaves in
    leaves_as c.alone-then-not-is_recorded.result _ c.alone-then-not-is_recorded.ensures
    (alone_leaves m c.args.self.now c.args.self.now (Up c.args.manager c.args.at) came refl refl left)

pub returns-then-not-is_recorded-clause-serves : goal.returns-then-not-is_recorded-clause-serves
returns-then-not-is_recorded-clause-serves g c = λ tells cap w asked state early is.
    let there = node_within (system_in w) c.args.self.now.names.items c.args.node state.members.names c.requires.there in
    served_as c.alone-then-not-is_recorded.result _ c.alone-then-not-is_recorded.ensures
    (start_stays c.site_files_are_accepted.ensures c.nodes_keep_their_names.ensures.names g.D.Disk.meaning g.met.D.Disk.only_now cap w c.args.manager c.args.at c.args.node c.args.now there c.args.self.now state asked is
    c.ask-came.result (subst (λ (r : Request). Comes g.D.Disk.meaning c.args.manager c.args.at true c.args.node c.args.now r None c.ask-came.result) c.in-Ok.ensures (c.ask-came.ensures.comes tells))
    (sym c.requires.can) c.own_requests_are_accepted.ensures.up (omega (arith, c.args.self.now.all_live, c.args.self.now.live.ok.0, c.args.self.now.names.ok.0, c.requires.there))
    (sym c.is_recorded.ensures ∙ c.if-not-is_recorded.true))

pub returns-clause-leaves : goal.returns-clause-leaves
returns-clause-leaves g c =
    let m = g.D.Disk.meaning in
    let came = c.ask-came.result in
    let left = left_own m c.args.self.now None c.args.manager c.args.at c.requires.work came c.ask-came.ensures.leaves in
    leaves_as c.behind.result _ c.behind.ensures
    (behind_leaves m c.args.self.now _ (Up c.args.manager c.args.at) came refl refl left (event.Started c.args.node)
    (recorded_some came.event (sym c.is_recorded.ensures ∙ c.if-not-is_recorded.false)))

pub returns-clause-serves : goal.returns-clause-serves
returns-clause-serves g c = λ tells cap w asked state early is.
    let there = node_within (system_in w) c.args.self.now.names.items c.args.node state.members.names c.requires.there in
    served_as c.behind.result _ c.behind.ensures
    (start_moves c.site_files_are_accepted.ensures c.nodes_keep_their_names.ensures.names g.D.Disk.meaning g.met.D.Disk.only_now cap w c.args.manager c.args.at c.args.node c.args.now there c.args.self.now state asked is
    c.ask-came.result (subst (λ (r : Request). Comes g.D.Disk.meaning c.args.manager c.args.at true c.args.node c.args.now r None c.ask-came.result) c.in-Ok.ensures (c.ask-came.ensures.comes tells))
    (sym c.requires.can) c.own_requests_are_accepted.ensures.up (omega (arith, c.args.self.now.all_live, c.args.self.now.live.ok.0, c.args.self.now.names.ok.0, c.requires.there))
    _ refl (ap (λ (n : ℕ). slice_set c.args.self.now.live.items n true) c.from.ensures) refl refl (sym c.is_recorded.ensures ∙ c.if-not-is_recorded.false))
