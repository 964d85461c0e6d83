use Rattle.std.proofs.Common.{ap, not, ◌∙◌, rules, bytes_eq}
use Rattle.std.proofs.lemmas.Fn.{filter_same}
use Rattle.qm_kinds.specs.declared.entry.Entry.{Entry}
use Rattle.qm_tables.specs.Boxed.{contents}
use Rattle.qm_tables.proofs.Boxes.{contents_kept}
use Rattle.qm_tables.proofs.entries.sweep.remove_of_home.Goals as goal

pub returns-clause-contents : goal.returns-clause-contents
returns-clause-contents c =
    ap contents (filter_same _ _ _ (λ x b f' k. search rules) _ _ c.retain.ensures.filtered)
    ∙ contents_kept (λ (e : Entry). not (bytes_eq e.home c.args.home.now)) c.args.boxes.now.items
