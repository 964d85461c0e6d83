use Rattle.std.proofs.Common.{◌∙◌, ◌++◌, ◌∷◌, [], List, remove, ap}
use Rattle.std.proofs.lemmas.List.{get_or_default}
use Rattle.qm_ready.specs.Rows.{Row}
use Rattle.qm_parts.proofs.rows.put_last.Goals as goal

pub returns : goal.returns
returns c row =
    c.push_reserved.ensures.items ∙ ap (λ (xs : List Row). xs ++ c.remove-row.result ∷ []) c.remove-row.ensures.items
    ∙ ap (λ (r : Row). remove c.args.rows.now.items c.args.place ++ r ∷ []) (c.remove-row.ensures.value ∙ get_or_default c.args.rows.now.items c.args.place c.remove-row.result row c.requires)
