use Rattle.std.proofs.Common.{sym, ◌∙◌, bytes_eq}
use Rattle.std.proofs.lemmas.Bool.{not-true, not-false}
use Rattle.qm_parts.proofs.Asked.{no_such_run, on_another_node, on_the_node}
use Rattle.qm_parts.proofs.tables.TableSet.entry_of_run.Goals as goal

pub returns-in_default : goal.returns-in_default
returns-in_default c =
    rw (← c.self.view_is) (sym (no_such_run c.self.inside.runs.runs c.self.inside.entries.entries c.self.invariant c.args.run c.args.node.now (sym c.in_default.ensures.found)))

pub returns-then-ne : goal.returns-then-ne
returns-then-ne c =
    rw (← c.self.view_is)
    (sym (on_another_node c.self.inside.runs.runs c.self.inside.entries.entries c.self.invariant c.args.run c.args.node.now c.in-Some.ensures.in_order c.in-Some.found.now (sym c.in-Some.ensures.found) (not-true (bytes_eq c.in-Some.found.now.node c.args.node.now) (sym c.ne.ensures ∙ c.if-ne.true))))

pub returns : goal.returns
returns c =
    rw (← c.self.view_is)
    (c.get.ensures.found
    ∙ on_the_node c.self.inside.runs.runs c.self.inside.entries.entries c.self.invariant c.args.run c.args.node.now c.in-Some.ensures.in_order c.get.ensures.in_order c.in-Some.found.now (sym c.in-Some.ensures.found) (not-false (bytes_eq c.in-Some.found.now.node c.args.node.now) (sym c.ne.ensures ∙ c.if-ne.false)))
