use Rattle.std.proofs.Common.{ℕ, ◌∙◌, false, ap, refl, sym, subst, None, Some, slice_set}
use Rattle.qm_acting.specs.Asking.{CanBeAsked}
use Rattle.qm_history.specs.Common.{Request, acting, system_in}
use Rattle.qm_acting.specs.Standing.{disk_of, standing_of}
use Rattle.qm_history.specs.declared.call.Answer.TheVariants as answer
use Rattle.qm_history.specs.declared.event.Event.{Event}
use Rattle.qm_chest.specs.declared.answering.Step.{Step}
use Rattle.qm_chest.specs.declared.asking.Came.{Came}
use Rattle.qm_chest.specs.declared.work.Work.TheVariants.{Up}
use Rattle.qm_chest.specs.Steps.{Comes, IsToManager, came_of}
use Rattle.qm_chest.specs.Whole.{IsServedAs, both}
use Rattle.qm_chest.proofs.InPlace.{left_own}
use Rattle.qm_chest.proofs.Kept.{alone_leaves, behind_leaves, going_some, leaves_as}
use Rattle.qm_chest.proofs.Names.{name_there, node_within}
use Rattle.qm_chest.proofs.Whole.{served_as}
use Rattle.qm_chest.proofs.Losing.{loss_moves, loss_stays, lost_short}
use Rattle.qm_chest.proofs.Requests.{can_lose}
use Rattle.qm_chest.proofs.members.Members.lost.Goals as goal

pub returns-in_default-clause-serves : goal.returns-in_default-clause-serves
returns-in_default-clause-serves g c = λ tells cap w asked state early asks.
    let there = node_within (system_in w) c.args.self.now.names.items c.args.node state.members.names c.requires.there in
    served_as c.alone.result _ c.alone.ensures
    (subst (λ (came : Came g.row.D.Denot). IsServedAs g.D.Disk.meaning cap w c.args.node c.args.now asked (disk_of c.args.manager) (record { members = c.args.self.now; work = came.work }) (both came.event None) came.answer) (sym (c.up.ensures ∙ ap (λ (step : Step). came_of step (Up c.args.manager c.args.at)) c.short.ensures))
    (lost_short c.site_files_are_accepted.ensures c.nodes_keep_their_names.ensures.names g.D.Disk.meaning g.met.D.Disk.only_now cap w c.args.manager c.args.at c.args.node c.args.now there c.args.self.now state asked asks.0
    c.args.leaves asks.1 c.requires.elsewhere asks.2 (record { work = Up c.args.manager c.args.at; event = None; answer = answer.NoMemory None }) (record { same = refl; work = state.work; told = refl })))

pub ask-came-requires-clause-can : goal.ask-came-requires-clause-can
ask-came-requires-clause-can g c =
    let st = standing_of c.args.manager in
    let named = name_there c.args.node st.system.nodes c.args.self.now.names.items c.requires.work.1 c.requires.there in
    subst (λ (r : Request). CanBeAsked st.system (acting c.args.now st.system) c.args.node r) (sym (c.in-Ok.ensures named.0 named.1))
    (can_lose st.system c.args.node c.args.now (node_within st.system c.args.self.now.names.items c.args.node c.requires.work.1 c.requires.there)
    named.0 named.2 (c.site_files_are_consistent.ensures st.recorded.bodies st.system c.requires.work.0.file))

pub ask-came-requires-clause-to_manager : goal.ask-came-requires-clause-to_manager
ask-came-requires-clause-to_manager g c =
    let named = name_there c.args.node (standing_of c.args.manager).system.nodes c.args.self.now.names.items c.requires.work.1 c.requires.there in
    subst IsToManager (sym (c.in-Ok.ensures named.0 named.1)) tt

pub returns-then-not-lets_go-clause-leaves : goal.returns-then-not-lets_go-clause-leaves
returns-then-not-lets_go-clause-leaves g c =
    let m = g.D.Disk.meaning in
    let came = c.ask-came.result in
    let left = left_own m c.args.self.now None c.args.manager c.args.at c.requires.work came c.ask-came.ensures.leaves in
    leaves_as c.alone-then-not-lets_go.result _ c.alone-then-not-lets_go.ensures
    (alone_leaves m c.args.self.now c.args.self.now (Up c.args.manager c.args.at) came refl refl left)

pub returns-then-not-lets_go-clause-serves : goal.returns-then-not-lets_go-clause-serves
returns-then-not-lets_go-clause-serves g c = λ tells cap w asked state early asks.
    let there = node_within (system_in w) c.args.self.now.names.items c.args.node state.members.names c.requires.there in
    let named = name_there c.args.node (system_in w).nodes c.args.self.now.names.items state.members.names c.requires.there in
    let comes = subst (λ (r : Request). Comes g.D.Disk.meaning c.args.manager c.args.at false c.args.node c.args.now r None c.ask-came.result) (c.in-Ok.ensures named.0 named.1)
    (c.ask-came.ensures.comes tells) in
    served_as c.alone-then-not-lets_go.result _ c.alone-then-not-lets_go.ensures
    (loss_stays c.site_files_are_accepted.ensures c.nodes_keep_their_names.ensures.names g.D.Disk.meaning g.met.D.Disk.only_now cap w c.args.manager c.args.at c.args.node c.args.now there c.args.self.now state asked asks.0
    c.args.leaves asks.1 c.requires.elsewhere asks.2 c.ask-came.result named.0 named.2 comes (c.own_requests_are_accepted.ensures.lost (system_in w) (acting c.args.now (system_in w)) c.args.node)
    (sym c.lets_go.ensures ∙ c.if-not-lets_go.true))

pub returns-clause-leaves : goal.returns-clause-leaves
returns-clause-leaves g c =
    let m = g.D.Disk.meaning in
    let came = c.ask-came.result in
    let left = left_own m c.args.self.now None c.args.manager c.args.at c.requires.work came c.ask-came.ensures.leaves in
    leaves_as c.behind.result _ c.behind.ensures
    (behind_leaves m c.args.self.now _ (Up c.args.manager c.args.at) came refl refl left c.gone.result
    (going_some c.args.leaves came.event (sym c.lets_go.ensures ∙ c.if-not-lets_go.false)))

pub returns-clause-serves : goal.returns-clause-serves
returns-clause-serves g c = λ tells cap w asked state early asks.
    let there = node_within (system_in w) c.args.self.now.names.items c.args.node state.members.names c.requires.there in
    let named = name_there c.args.node (system_in w).nodes c.args.self.now.names.items state.members.names c.requires.there in
    let comes = subst (λ (r : Request). Comes g.D.Disk.meaning c.args.manager c.args.at false c.args.node c.args.now r None c.ask-came.result) (c.in-Ok.ensures named.0 named.1)
    (c.ask-came.ensures.comes tells) in
    let first = ap (λ (e : Event). record { work = c.ask-came.result.work; first = Some e; second = c.ask-came.result.event; answer = c.ask-came.result.answer }) c.gone.ensures in
    served_as c.behind.result _ (c.behind.ensures ∙ first)
    (loss_moves c.site_files_are_accepted.ensures c.nodes_keep_their_names.ensures.names g.D.Disk.meaning g.met.D.Disk.only_now cap w c.args.manager c.args.at c.args.node c.args.now there c.args.self.now state asked asks.0
    c.args.leaves asks.1 c.requires.elsewhere asks.2 c.ask-came.result named.0 named.2 comes (c.own_requests_are_accepted.ensures.lost (system_in w) (acting c.args.now (system_in w)) c.args.node)
    _ refl (ap (λ (n : ℕ). slice_set c.args.self.now.live.items n false) c.from.ensures) refl refl (sym c.lets_go.ensures ∙ c.if-not-lets_go.false))
