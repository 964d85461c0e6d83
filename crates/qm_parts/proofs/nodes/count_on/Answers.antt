use Rattle.std.proofs.Common.{◌∙◌, ◌<◌, Bool, List, length, count_by, ap, arith, sym, take_all}
use Rattle.qm_model.specs.Common.{Run, is_among}
use Rattle.qm_parts.proofs.Searches.{counted, passed}
use Rattle.qm_parts.proofs.nodes.count_on.Goals as goal
use Rattle.qm_parts.proofs.nodes.count_on.Goals.{then-is_among, else-is_among}

pub loop-run-preserved : goal.loop-run-preserved
loop-run-preserved c =
    let runs : List Run = c.args.runs.now in
    let i = c.loop-run.run-index in
    let r : Run = c.run-item.result in
    let p : Run → Bool = (λ (x : Run). is_among c.args.nodes.now x.node) in
    let within : i < length runs = omega arith in
    elim c.if-is_among.branch [
      | then-is_among w ↦
          record {
            count = omega (arith, w.count-is, c.loop-run.invariant.count, counted p runs i r within c.run-item.is (sym c.is_among.ensures ∙ w.if-is_among.true));
            few = omega (arith, w.count-is, c.loop-run.invariant.few);
          }
      | else-is_among w ↦
          record {
            count = omega (arith, w.count-is, c.loop-run.invariant.count, passed p runs i r within c.run-item.is (sym c.is_among.ensures ∙ w.if-is_among.false));
            few = omega (arith, w.count-is, c.loop-run.invariant.few);
          }
    ]

pub returns : goal.returns
returns c = c.loop-run.invariant.count ∙ ap (λ (rs : List Run). count_by (λ (x : Run). is_among c.args.nodes.now x.node) rs) (take_all c.loop-run.run-index c.args.runs.now (omega (arith, c.loop-run-test.false)))
