use Rattle.std.proofs.Common.{◌∙◌, Bool, None, subst, sym}
use Rattle.qm_chest.specs.Serving.{Serving}
use Rattle.qm_chest.specs.Steps.{IsBehind}
use Rattle.qm_chest.specs.declared.chest.State.{State}
use Rattle.qm_chest.specs.declared.work.Work.TheVariants.{Up}
use Rattle.qm_chest.proofs.InPlace.{step_serving}
use Rattle.qm_chest.proofs.chest.State.serve.Goals.{then-is_in_doubt, else-is_in_doubt}
use Rattle.qm_chest.proofs.chest.State.serve.Goals as goal

pub returns-clause-serving : goal.returns-clause-serving
returns-clause-serving g c =
    let m = g.D.Disk.meaning in
    let old = c.args.self.now in
    let wanted = c.args.wanted in
    let step = c.own_step-step.result in
    let new = c.own_step-step.new.manager in
    let at = c.in-Up.node in
    let is_step = sym c.is_step.ensures ∙ c.if-not-is_step.false in
    let comes = step_serving c.site_files_are_accepted.ensures c.nodes_keep_their_names.ensures.names m g.met.D.Disk.only_now wanted old c.requires is_step c.in-Up.manager at c.in-Up.is step new in
    elim c.if-is_in_doubt.branch [
      | then-is_in_doubt w ↦
          let after = w.replace_with-then-is_in_doubt.new.dest in
          subst (λ (s : State _). Serving m wanted old s (record { first = step.event; second = None; answer = step.answer })) (sym w.self-is)
          (comes after (subst (λ (b : Bool). IsBehind new at b after) (sym w.if-is_in_doubt.true ∙ c.is_in_doubt.ensures) w.replace_with-then-is_in_doubt.ensures) c.own_step-step.ensures.leaves c.own_step-step.ensures.comes)
      | else-is_in_doubt w ↦
          subst (λ (s : State _). Serving m wanted old s (record { first = step.event; second = None; answer = step.answer })) (sym w.self-is)
          (comes (Up new at) (subst (λ (b : Bool). IsBehind new at b (Up new at)) (sym w.if-is_in_doubt.false ∙ c.is_in_doubt.ensures) (λ i. Up new at)) c.own_step-step.ensures.leaves c.own_step-step.ensures.comes)
    ]
