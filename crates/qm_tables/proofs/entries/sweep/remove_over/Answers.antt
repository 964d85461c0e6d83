use Rattle.std.proofs.Common.{ap, not, ◌∙◌, rules}
use Rattle.std.proofs.lemmas.Fn.{filter_same}
use Rattle.qm_model.specs.Common.{is_over, Entry}
use Rattle.qm_tables.specs.Boxed.{contents}
use Rattle.qm_tables.proofs.Boxes.{contents_kept}
use Rattle.qm_tables.proofs.entries.sweep.remove_over.Goals as goal

pub returns-clause-contents : goal.returns-clause-contents
returns-clause-contents c =
    ap contents (filter_same _ _ _ (λ x b f' k. search rules) _ _ c.retain.ensures.filtered)
    ∙ contents_kept (λ (e : Entry). not (is_over c.args.now e.state)) c.args.boxes.now.items
