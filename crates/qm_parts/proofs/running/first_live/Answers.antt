use Rattle.std.proofs.Common.{◌∙◌, ◌<◌, Bool, List, length, arith, sym}
use Rattle.qm_kinds.specs.declared.run.Run.{Run}
use Rattle.qm_parts.specs.Mirror.{is_live_in}
use Rattle.qm_parts.proofs.Searches.{found_here, none_found, none_more, none_of_all}
use Rattle.qm_parts.proofs.running.first_live.Goals as goal

pub returns-then-is_live_in : goal.returns-then-is_live_in
returns-then-is_live_in c =
    let runs : List Run = c.args.runs.now in
    let p : Run → Bool = is_live_in c.args.entries.now.entries c.args.queue.now in
    let within : c.loop-run.run-index < length runs = omega arith in
    found_here p runs c.loop-run.run-index c.run-item.result within c.run-item.is c.loop-run.invariant (sym c.is_live_in.ensures ∙ c.if-is_live_in.true)

pub loop-run-preserved : goal.loop-run-preserved
loop-run-preserved c =
    let runs : List Run = c.args.runs.now in
    let p : Run → Bool = is_live_in c.args.entries.now.entries c.args.queue.now in
    let within : c.loop-run.run-index < length runs = omega arith in
    none_more p runs c.loop-run.run-index c.run-item.result within c.run-item.is c.loop-run.invariant (sym c.is_live_in.ensures ∙ c.if-is_live_in.false)

pub returns : goal.returns
returns c =
    let p : Run → Bool = is_live_in c.args.entries.now.entries c.args.queue.now in
    none_found p c.args.runs.now (sym (none_of_all p c.loop-run.run-index c.args.runs.now c.loop-run.invariant (omega (arith, c.loop-run-test.false))))
