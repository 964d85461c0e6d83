use Rattle.std.proofs.Common.{◌∙◌, refl}
use Rattle.qm_image.proofs.rows.tables_of.Goals as goal

pub returns-clause-tables : goal.returns-clause-tables
returns-clause-tables c =
    let nodes = c.of-nodes.ensures ∙ c.in_ok-from_slice.ensures.items ∙ c.as_slice.ensures in
    let forms = c.in_ok-forms.ensures.forms ∙ c.as_slice-2.ensures in
    let characteristics = c.in_ok-forms.ensures.characteristics ∙ c.as_slice-3.ensures in
    let queues = c.of-queues.ensures ∙ c.in_ok-copy_queues.ensures ∙ c.as_slice-4.ensures in
    rw (c.new.ensures, nodes, forms, characteristics, queues) refl
