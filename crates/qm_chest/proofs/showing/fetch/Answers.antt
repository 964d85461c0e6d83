use Rattle.std.proofs.Common.{◌∙◌, ℕ, List, ap, refl, sym, subst}
use Rattle.qm_history.specs.Common.{duties, node_at}
use Rattle.qm_kinds.specs.declared.input.Input.TheVariants as input
use Rattle.qm_acting.specs.Standing.{disk_of, standing_of}
use Rattle.qm_chest.specs.declared.answering.Step.{Step}
use Rattle.qm_chest.specs.declared.work.Work.TheVariants.{Up}
use Rattle.qm_chest.specs.Steps.{IsToldStep, OwnComesTo, came_of}
use Rattle.qm_chest.proofs.OwnStep.{fetch_comes}
use Rattle.qm_chest.proofs.showing.fetch.Goals as goal

pub returns-in-Ok-clause-comes : goal.returns-in-Ok-clause-comes
returns-in-Ok-clause-comes g c = λ members tells acted beside cap w small kept up.
    subst (λ (step : Step). OwnComesTo g.D.Disk.meaning cap w c.args.node c.args.now acted (input.Fetch c.args.known) beside c.args.took (disk_of c.args.manager.now) (came_of step (Up c.args.manager.now c.args.at)) step.event) (sym c.shown.ensures)
    (fetch_comes c.site_files_are_accepted.ensures g.D.Disk.meaning g.met.D.Disk.only_now cap w c.args.manager.now c.args.at up c.args.node c.args.now acted beside c.args.took c.acting-moment.result c.acting-moment.ensures
    c.args.known c.of.result (c.of.ensures ∙ c.in-Ok.ensures ∙ ap (λ (k : List ℕ). duties (standing_of c.args.manager.now).system (node_at c.args.node (standing_of c.args.manager.now).system.nodes) k) c.as_slice.ensures))

pub returns-in-Ok-clause-told : goal.returns-in-Ok-clause-told
returns-in-Ok-clause-told g c =
    let st = standing_of c.args.manager.now in
    subst (λ (step : Step). IsToldStep c.args.took step.event step.answer) (sym c.shown.ensures) (
      refl,
      refl,
      refl,
      record {
        system = st.system;
        node = node_at c.args.node st.system.nodes;
        known = c.as_slice.result.now;
        consistent = c.site_files_are_consistent.ensures st.recorded.bodies st.system c.requires.ready.file;
        are = c.of.ensures ∙ c.in-Ok.ensures;
      },
    )
