use Rattle.std.proofs.Common.{◌∙◌, Some, ap, sym}
use Rattle.qm_keyed.proofs.Keys.{absent, found, kept, removed}
use Rattle.qm_node.proofs.Rows.{numbers}
use Rattle.qm_node.proofs.runs.take_row.Goals as goal

pub returns-in_default-clause-taken : goal.returns-in_default-clause-taken
returns-in_default-clause-taken g c = sym (absent numbers c.args.run c.args.rows.now.items c.in_default.field-0 (rw c.deref.ensures.value at c.in_default.ensures))

pub returns-in_default-clause-left : goal.returns-in_default-clause-left
returns-in_default-clause-left g c = kept numbers c.args.run c.args.rows.now.items c.in_default.field-0 (rw c.deref.ensures.value at c.in_default.ensures)

pub returns-clause-taken : goal.returns-clause-taken
returns-clause-taken g c =
    ap (λ x. Some x) c.remove.ensures.value ∙ sym (found numbers c.args.run c.args.rows.now.items c.in-Ok.place c.remove.result (rw c.deref.ensures.value at c.in-Ok.ensures))

pub returns-clause-left : goal.returns-clause-left
returns-clause-left g c = c.remove.ensures.items ∙ removed numbers c.args.run c.args.rows.now.items c.in-Ok.place (rw c.deref.ensures.value at c.in-Ok.ensures)
