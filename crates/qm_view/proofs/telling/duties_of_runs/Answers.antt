use Rattle.std.proofs.Common.{◌∙◌, ◌<◌, ◌++◌, List, length, map, option_to_list, take_all, sym, ap, arith}
use Rattle.qm_model.specs.Common.{Duty, duty_of}
use Rattle.qm_parts.specs.ByRun.{entry_on}
use Rattle.qm_image.specs.Image.{system_of}
use Rattle.qm_view.proofs.Works.{one_more}
use Rattle.qm_view.proofs.telling.duties_of_runs.Goals as goal

pub loop-run-preserved : goal.loop-run-preserved
loop-run-preserved c =
    let s = system_of c.args.image.now in
    let within : c.loop-run.run-index < length c.args.runs.now = omega arith in
    c.in_ok-add_duty.ensures
    ∙ ap (λ (ds : List Duty). ds ++ map (duty_of s c.args.known.now) (option_to_list (entry_on c.args.node.now s.entries c.run-item.result))) c.loop-run.invariant
    ∙ sym (one_more (duty_of s c.args.known.now) (entry_on c.args.node.now s.entries) c.args.runs.now c.loop-run.run-index c.run-item.result within c.run-item.is)

pub loop-run-init : goal.loop-run-init
loop-run-init c = c.new-duties.ensures.items

pub returns : goal.returns
returns c = rw (take_all c.loop-run.run-index c.args.runs.now c.loop-run-test.false) at c.loop-run.invariant
