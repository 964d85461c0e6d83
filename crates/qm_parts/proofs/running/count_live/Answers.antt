use Rattle.std.proofs.Common.{◌∙◌, ◌<◌, Bool, List, length, count_by, ap, arith, sym, take_all}
use Rattle.qm_kinds.specs.declared.run.Run.{Run}
use Rattle.qm_parts.specs.Mirror.{is_live_in}
use Rattle.qm_parts.proofs.Searches.{counted, passed}
use Rattle.qm_parts.proofs.running.count_live.Goals as goal
use Rattle.qm_parts.proofs.running.count_live.Goals.{then-is_live_in, else-is_live_in}

pub loop-run-preserved : goal.loop-run-preserved
loop-run-preserved c =
    let runs : List Run = c.args.runs.now in
    let i = c.loop-run.run-index in
    let r : Run = c.run-item.result in
    let p : Run → Bool = (is_live_in c.args.entries.now.entries c.args.queue.now) in
    let within : i < length runs = omega arith in
    elim c.if-is_live_in.branch [
      | then-is_live_in w ↦
          record {
            count = omega (arith, w.count-is, c.loop-run.invariant.count, counted p runs i r within c.run-item.is (sym c.is_live_in.ensures ∙ w.if-is_live_in.true));
            few = omega (arith, w.count-is, c.loop-run.invariant.few);
          }
      | else-is_live_in w ↦
          record {
            count = omega (arith, w.count-is, c.loop-run.invariant.count, passed p runs i r within c.run-item.is (sym c.is_live_in.ensures ∙ w.if-is_live_in.false));
            few = omega (arith, w.count-is, c.loop-run.invariant.few);
          }
    ]

pub returns : goal.returns
returns c = c.loop-run.invariant.count ∙ ap (λ (rs : List Run). count_by (is_live_in c.args.entries.now.entries c.args.queue.now) rs) (take_all c.loop-run.run-index c.args.runs.now (omega (arith, c.loop-run-test.false)))
