use Rattle.std.proofs.Common.{◌≡◌, IfOk, sym, subst}
use Rattle.qm_kinds.specs.declared.input.Input.{Input}
use Rattle.qm_line.proofs.Serving.{act_line, act_takes, on_err}
use Rattle.qm_line.proofs.asked.read_line.Goals as goal

pub returns-in-Act-clause-input : goal.returns-in-Act-clause-input
returns-in-Act-clause-input c =
    subst (λ (asked : Input). IfOk c.act_asked.result (λ (input : Input). input ≡ asked))
    (sym (act_line c.args.line.now.sort c.args.line.now.user c.args.now c.args.line.now.text.now c.args.scans.now c.args.known.now c.in-Act.is)) c.act_asked.ensures.input

pub returns-in-Act-clause-no_memory : goal.returns-in-Act-clause-no_memory
returns-in-Act-clause-no_memory c =
    on_err c.act_asked.result _ _ c.act_asked.ensures.no_memory
    (act_takes c.args.line.now.sort c.args.line.now.user c.args.now c.args.line.now.text.now c.args.scans.now c.args.known.now c.in-Act.is)
