use Rattle.std.proofs.Common.{◌∙◌, Bool, false, List, ap, refl, sym, subst, slice_get, unwrap_or}
use Rattle.qm_history.specs.Common.{Input, Request, acting}
use Rattle.qm_kinds.specs.declared.input.Input.TheVariants as input
use Rattle.qm_kinds.specs.declared.request.Request.TheVariants as request
use Rattle.qm_acting.specs.Standing.{disk_of, standing_of}
use Rattle.qm_chest.specs.At.{CanBeAskedFor, CanBeRecorded}
use Rattle.qm_chest.specs.Steps.{AskStep, LeavesAsked, LeavesOwn, OwnStep, StepIs, came_of}
use Rattle.qm_chest.specs.declared.work.Work.TheVariants.{Up}
use Rattle.qm_chest.proofs.InPlace.{left_looking, left_own, step_so, step_up}
use Rattle.qm_chest.proofs.Names.{node_within}
use Rattle.qm_chest.proofs.OwnStep.{ask_comes, no_fence}
use Rattle.qm_chest.proofs.Requests.{can_ask}
use Rattle.qm_chest.proofs.members.Members.own_step.Goals as goal

-- ---- TICK

pub tick-requires-clause-can : goal.tick-requires-clause-can
tick-requires-clause-can g c =
    let s = (standing_of c.args.manager.now).system in
    let can = subst (CanBeAskedFor c.args.node) c.in-Ask.is c.requires.can in
    can_ask s c.args.node c.args.now (node_within s c.args.self.now.names.items c.args.node c.requires.work.1 c.requires.there) request.Tick
    (subst (λ (r : Request). CanBeRecorded c.args.node r) (sym c.get.ensures ∙ c.in-Tick.is) can)

pub returns-in-Tick-clause-leaves : goal.returns-in-Tick-clause-leaves
returns-in-Tick-clause-leaves g c =
    let m = g.D.Disk.meaning in
    let old = c.args.manager.now in
    step_so c.tick.new.manager c.args.at (LeavesAsked m c.args.took old c.args.at) (LeavesOwn m c.args.self.now c.args.took old)
    (left_own m c.args.self.now c.args.took old c.args.at c.requires.work) c.tick.result c.tick.ensures.leaves

pub returns-in-Tick-clause-comes : goal.returns-in-Tick-clause-comes
returns-in-Tick-clause-comes g c =
    let old = c.args.manager.now in
    subst (λ (i : Input). StepIs (OwnStep g.D.Disk.meaning c.args.self.now old c.args.at c.args.node c.args.now i c.args.took) c.tick.result c.tick.new.manager c.args.at)
    (ap input.Ask (sym c.in-Tick.is ∙ c.get.ensures) ∙ sym c.in-Ask.is) c.tick.ensures.comes

-- ---- other requests

pub ask_step-requires-clause-can : goal.ask_step-requires-clause-can
ask_step-requires-clause-can g c =
    let s = (standing_of c.args.manager.now).system in
    can_ask s c.args.node c.args.now (node_within s c.args.self.now.names.items c.args.node c.requires.work.1 c.requires.there) c.in-Ask.request
    (subst (CanBeAskedFor c.args.node) c.in-Ask.is c.requires.can)

pub returns-in_default-get-clause-leaves : goal.returns-in_default-get-clause-leaves
returns-in_default-get-clause-leaves g c =
    let m = g.D.Disk.meaning in
    let old = c.args.manager.now in
    step_so c.ask_step.new.manager c.args.at (LeavesAsked m c.args.took old c.args.at) (LeavesOwn m c.args.self.now c.args.took old)
    (left_own m c.args.self.now c.args.took old c.args.at c.requires.work) c.ask_step.result c.ask_step.ensures.leaves

pub returns-in_default-get-clause-comes : goal.returns-in_default-get-clause-comes
returns-in_default-get-clause-comes g c =
    let m = g.D.Disk.meaning in
    let old = c.args.manager.now in
    let asked = c.in-Ask.request in
    subst (λ (i : Input). StepIs (OwnStep m c.args.self.now old c.args.at c.args.node c.args.now i c.args.took) c.ask_step.result c.ask_step.new.manager c.args.at) (sym c.in-Ask.is)
    (step_so c.ask_step.new.manager c.args.at
    (AskStep m old c.args.at c.is_live-live.result c.args.node c.args.now asked c.args.took)
    (OwnStep m c.args.self.now old c.args.at c.args.node c.args.now (input.Ask asked) c.args.took)
    (λ came comes tells acted beside cap w small kept up.
    let live = sym (c.is_live-live.ensures ∙ ap (λ (l : List Bool). unwrap_or (slice_get l c.args.node) false) kept.live) in
    ask_comes c.site_files_are_accepted.ensures m g.met.D.Disk.only_now cap w old c.args.at up c.args.node c.args.now acted beside c.args.took (acting c.args.now (standing_of old).system) refl
    asked (disk_of old) came came.event (no_fence w c.args.node asked (rw c.get.ensures at c.in_default-get.not-Tick))
    (comes tells cap w (input.Ask asked) acted small up live refl))
    c.ask_step.result c.ask_step.ensures.comes)

-- ---- listings and fetches

pub returns-in-Show-clause-leaves : goal.returns-in-Show-clause-leaves
returns-in-Show-clause-leaves g c =
    left_looking g.D.Disk.meaning c.args.self.now c.args.took c.args.manager.now c.args.at c.requires.work c.show.result c.show.ensures.up c.show.ensures.quiet c.show.ensures.told

pub returns-in-Show-clause-comes : goal.returns-in-Show-clause-comes
returns-in-Show-clause-comes g c =
    let old = c.args.manager.now in
    step_up old c.args.at (OwnStep g.D.Disk.meaning c.args.self.now old c.args.at c.args.node c.args.now c.args.input c.args.took) c.show.result c.show.ensures.up
    (subst (λ (i : Input). OwnStep g.D.Disk.meaning c.args.self.now old c.args.at c.args.node c.args.now i c.args.took (came_of c.show.result (Up old c.args.at))) (sym c.in-Show.is) c.show.ensures.comes)

pub returns-in-Fetch-clause-leaves : goal.returns-in-Fetch-clause-leaves
returns-in-Fetch-clause-leaves g c =
    left_looking g.D.Disk.meaning c.args.self.now c.args.took c.args.manager.now c.args.at c.requires.work c.fetch.result c.fetch.ensures.up c.fetch.ensures.quiet c.fetch.ensures.told

pub returns-in-Fetch-clause-comes : goal.returns-in-Fetch-clause-comes
returns-in-Fetch-clause-comes g c =
    let old = c.args.manager.now in
    step_up old c.args.at (OwnStep g.D.Disk.meaning c.args.self.now old c.args.at c.args.node c.args.now c.args.input c.args.took) c.fetch.result c.fetch.ensures.up
    (subst (λ (i : Input). OwnStep g.D.Disk.meaning c.args.self.now old c.args.at c.args.node c.args.now i c.args.took (came_of c.fetch.result (Up old c.args.at))) (sym c.in-Fetch.is) (c.fetch.ensures.comes c.args.self.now))
