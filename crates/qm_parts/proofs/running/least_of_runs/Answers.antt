use Rattle.std.proofs.Common.{◌∙◌, ◌<◌, ℕ, Bool, List, Option, Some, filter, length, map, min, ap, arith, sym, take_all}
use Rattle.std.specs.List.{reduce}
use Rattle.std.specs.Option.{option_map_or}
use Rattle.qm_kinds.specs.declared.run.Run.{Run}
use Rattle.qm_parts.specs.Mirror.{is_run_for}
use Rattle.qm_parts.proofs.Least.{least_taken, least_passed}
use Rattle.qm_parts.proofs.running.least_of_runs.Goals as goal
use Rattle.qm_parts.proofs.running.least_of_runs.Goals.{then-is_run_for, else-is_run_for}

pub loop-run-preserved : goal.loop-run-preserved
loop-run-preserved c =
    let runs : List Run = c.args.runs.now in
    let r : Run = c.run-item.result in
    let test : Run → Bool = is_run_for c.args.entries.now.entries c.args.queue.now in
    let within : c.loop-run.run-index < length runs = omega arith in
    elim c.if-is_run_for.branch [
      | then-is_run_for w ↦
          w.least-is
          ∙ ap (λ (n : ℕ). Some n) (w.lesser.ensures ∙ ap (λ (o : Option ℕ). option_map_or (λ n. min n r.entry) o r.entry) c.loop-run.invariant)
          ∙ sym (least_taken (λ (x : Run). x.entry) test runs c.loop-run.run-index r within c.run-item.is (sym c.is_run_for.ensures ∙ w.if-is_run_for.true))
      | else-is_run_for w ↦
          w.least-is ∙ c.loop-run.invariant ∙ sym (least_passed (λ (x : Run). x.entry) test runs c.loop-run.run-index r within c.run-item.is (sym c.is_run_for.ensures ∙ w.if-is_run_for.false))
    ]

pub returns : goal.returns
returns c =
    let runs : List Run = c.args.runs.now in
    c.loop-run.invariant
    ∙ ap (λ (rs : List Run). reduce min (map (λ r. r.entry) (filter (is_run_for c.args.entries.now.entries c.args.queue.now) rs))) (take_all c.loop-run.run-index runs (omega (arith, c.loop-run-test.false)))
