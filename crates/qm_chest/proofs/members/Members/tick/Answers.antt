use Rattle.std.proofs.Common.{◌∙◌, ℕ, Bool, false, List, ap, refl, subst, sym, Some, slice_get, unwrap_or}
use Rattle.qm_kinds.specs.declared.input.Input.TheVariants as input
use Rattle.qm_history.specs.Common.{Request, acting}
use Rattle.qm_kinds.specs.declared.request.Request.TheVariants as request
use Rattle.qm_history.specs.declared.call.Answer.TheVariants as answer
use Rattle.qm_history.specs.declared.event.Event.TheVariants as event
use Rattle.qm_acting.specs.Standing.{disk_of, standing_of}
use Rattle.qm_chest.specs.Steps.{AskStep, OwnStep, StepIs}
use Rattle.qm_chest.proofs.InPlace.{left_still, step_so}
use Rattle.qm_chest.proofs.OwnStep.{ask_comes, fence_comes, unfenced}
use Rattle.qm_chest.proofs.members.Members.tick.Goals as goal

pub returns-then-held-current-clause-leaves : goal.returns-then-held-current-clause-leaves
returns-then-held-current-clause-leaves g c =
    left_still g.D.Disk.meaning c.args.took c.args.manager.now c.args.manager.now c.args.at
    (record { event = Some (event.Fenced c.args.node c.held_by-held.result c.epoch-current.result); answer = answer.Fenced c.held_by-held.result c.epoch-current.result })
    refl c.requires.ready refl refl refl (refl, refl, refl, tt)

pub returns-then-held-current-clause-comes : goal.returns-then-held-current-clause-comes
returns-then-held-current-clause-comes g c = λ tells acted beside cap w small kept up.
    let held = c.held_by-held.ensures ∙ ap (λ (l : List ℕ). unwrap_or (slice_get l c.args.node) 0) kept.held in
    fence_comes c.site_files_are_accepted.ensures g.D.Disk.meaning g.met.D.Disk.only_now cap w c.args.manager.now c.args.at up c.args.node c.args.now acted beside c.args.took (acting c.args.now (standing_of c.args.manager.now).system) refl
    c.held_by-held.result c.epoch-current.result held c.epoch-current.ensures c.if-held-current.true

pub returns-clause-leaves : goal.returns-clause-leaves
returns-clause-leaves g c = c.ask_step.ensures.leaves

pub returns-clause-comes : goal.returns-clause-comes
returns-clause-comes g c =
    let m = g.D.Disk.meaning in
    let old = c.args.manager.now in
    step_so c.ask_step.new.manager c.args.at
    (AskStep m old c.args.at c.is_live-live.result c.args.node c.args.now request.Tick c.args.took)
    (OwnStep m c.args.self.now old c.args.at c.args.node c.args.now (input.Ask request.Tick) c.args.took)
    (λ came comes tells acted beside cap w small kept up.
    let held = c.held_by-held.ensures ∙ ap (λ (l : List ℕ). unwrap_or (slice_get l c.args.node) 0) kept.held in
    let live = sym (c.is_live-live.ensures ∙ ap (λ (l : List Bool). unwrap_or (slice_get l c.args.node) false) kept.live) in
    ask_comes c.site_files_are_accepted.ensures m g.met.D.Disk.only_now cap w old c.args.at up c.args.node c.args.now acted beside c.args.took (acting c.args.now (standing_of old).system) refl
    request.Tick (disk_of old) came came.event
    (unfenced c.site_files_are_accepted.ensures m g.met.D.Disk.only_now cap w old c.args.at up c.args.node c.args.now acted beside c.args.took (acting c.args.now (standing_of old).system) refl
    (sym held ∙ c.if-held-current.false ∙ c.epoch-current.ensures))
    (comes tells cap w (input.Ask request.Tick) acted small up live refl))
    c.ask_step.result
    (subst (λ (r : Request). StepIs (AskStep m old c.args.at c.is_live-live.result c.args.node c.args.now r c.args.took) c.ask_step.result c.ask_step.new.manager c.args.at) c.requires.tick c.ask_step.ensures.comes)
