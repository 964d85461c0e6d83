use Rattle.std.proofs.Common.{sym, ◌∙◌}
use Rattle.qm_model.specs.Common.{Entry, is_running_in}
use Rattle.qm_parts.proofs.Asked.{none_of_number, fails_of_number, passes_of_number}
use Rattle.qm_parts.proofs.running.running_numbered.Goals as goal

pub returns-in_default : goal.returns-in_default
returns-in_default c = sym (none_of_number (λ (e : Entry). is_running_in c.args.queue.now e.state) c.args.number c.args.entries.now.entries (sym c.in_default.ensures.found))

pub returns-then-is_running_in : goal.returns-then-is_running_in
returns-then-is_running_in c =
    sym (passes_of_number (λ (e : Entry). is_running_in c.args.queue.now e.state) c.args.number c.args.entries.now.entries c.get.ensures.in_order c.in-Some.entry.now (sym c.in-Some.ensures.found)
    (sym c.is_running_in.ensures ∙ c.if-is_running_in.true))

pub returns-else-is_running_in : goal.returns-else-is_running_in
returns-else-is_running_in c =
    sym (fails_of_number (λ (e : Entry). is_running_in c.args.queue.now e.state) c.args.number c.args.entries.now.entries c.get.ensures.in_order c.in-Some.entry.now (sym c.in-Some.ensures.found)
    (sym c.is_running_in.ensures ∙ c.if-is_running_in.false))
