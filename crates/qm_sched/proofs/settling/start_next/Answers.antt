use Rattle.std.proofs.Common.{◌≡◌, ℕ, ◌+◌, None, Some, sym, ◌∙◌, ap, List, option_copied}
use Rattle.qm_model.specs.Common.{Running, Queue, queue_named, with_entry}
use Rattle.qm_parts.specs.Tables.{Tables, with_tables}
use Rattle.qm_sched.proofs.Starting.{blank, its_queue, its_state, has_number}
use Rattle.qm_sched.proofs.settling.start_next.Goals as goal

pub unreachable-requires : goal.unreachable-requires
unreachable-requires c =
    let its = its_queue (with_tables blank c.args.parts.now) c.args.start.now (c.requires.next blank) c.queue.ensures.in_order in
    let none : queue_named c.args.start.now.queue c.args.parts.now.queues ≡ None = sym c.queue.ensures.found ∙ ap option_copied c.in_default.is in
    let some : queue_named c.args.start.now.queue c.args.parts.now.queues ≡ Some its.queue = its.found in
    cc

pub unreachable-requires-in_default-node : goal.unreachable-requires-in_default-node
unreachable-requires-in_default-node c =
    let its = its_queue (with_tables blank c.args.parts.now) c.args.start.now (c.requires.next blank) c.queue.ensures.in_order in
    let some : Some c.in-Some.queue.now ≡ Some its.queue = sym (ap option_copied c.in-Some.is) ∙ c.queue.ensures.found ∙ its.found in
    let same : c.in-Some.queue.now ≡ its.queue = cc in
    let node : c.in-Some.queue.now.node ≡ Some its.node = ap (λ (q : Queue). q.node) same ∙ its.stands in
    let none : c.in-Some.queue.now.node ≡ None = c.in_default-node.is in
    cc

pub start-requires-clause-numbers : goal.start-requires-clause-numbers
start-requires-clause-numbers c = has_number (with_tables blank c.args.parts.now) c.args.start.now (c.requires.next blank)

pub start-requires-clause-pending : goal.start-requires-clause-pending
start-requires-clause-pending c = its_state (with_tables blank c.args.parts.now) c.args.start.now (c.requires.next blank) c.see_entries.ensures

pub returns-clause-starts : goal.returns-clause-starts
returns-clause-starts c s =
    let its = its_queue (with_tables s c.args.parts.now) c.args.start.now (c.requires.next s) c.queue.ensures.in_order in
    let some : Some c.in-Some.queue.now ≡ Some its.queue = sym (ap option_copied c.in-Some.is) ∙ c.queue.ensures.found ∙ its.found in
    let same : c.in-Some.queue.now ≡ its.queue = cc in
    let both : Some c.in-Some-node.node ≡ Some its.node = sym c.in-Some-node.is ∙ ap (λ (q : Queue). q.node) same ∙ its.stands in
    let node : c.in-Some-node.node ≡ its.node = cc in
    let after : List ℕ → Tables = λ n. record c.args.parts.now {
      entries = with_entry c.args.start.now.entry (λ e. Some (record e { state = Running c.args.start.now.queue n c.args.parts.now.next_run })) c.args.parts.now.entries;
      next_run = c.args.parts.now.next_run + 1;
    } in
    its.starts (with_tables s c.start.new.self) (ap (with_tables s) c.start.ensures.tables ∙ ap (λ n. with_tables s (after n)) node)
