use Rattle.std.proofs.Common.{sym, ◌∙◌}
use Rattle.qm_parts.specs.Tables.{with_tables}
use Rattle.qm_sched.proofs.FirstReady.{not_executing, not_open, by_place}
use Rattle.qm_sched.proofs.choosing.takes_jobs.Goals as goal

pub returns-then-not-is_execution_queue : goal.returns-then-not-is_execution_queue
returns-then-not-is_execution_queue c s = sym (not_executing (with_tables s c.args.parts.now) c.args.queue.now (sym c.is_execution_queue.ensures ∙ c.if-not-is_execution_queue.true))

pub returns-then-not-is_open_queue : goal.returns-then-not-is_open_queue
returns-then-not-is_open_queue c s =
    sym (not_open (with_tables s c.args.parts.now) c.args.queue.now (sym c.is_execution_queue.ensures ∙ c.if-not-is_execution_queue.false) (sym (c.is_open_queue.ensures s) ∙ c.if-not-is_open_queue.true))

pub returns : goal.returns
returns c s =
    c.has_place.ensures s
    ∙ sym (by_place (with_tables s c.args.parts.now) c.args.queue.now (sym c.is_execution_queue.ensures ∙ c.if-not-is_execution_queue.false) (sym (c.is_open_queue.ensures s) ∙ c.if-not-is_open_queue.false))
