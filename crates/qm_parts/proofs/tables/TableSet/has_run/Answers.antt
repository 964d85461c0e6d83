use Rattle.std.proofs.Common.{◌≡◌, ◌∙◌, Option, None, Some, is_some, Bor, refl, ap, option_copied}
use Rattle.std.specs.List.{list_any}
use Rattle.qm_model.specs.Standing.{has_run}
use Rattle.qm_parts.specs.Tables.{Tables}
use Rattle.qm_parts.proofs.Asked.{any_has_run}
use Rattle.qm_parts.proofs.tables.TableSet.has_run.Goals as goal

copied : {X : Type 0} (o : Option (Bor X)) → is_some o ≡ is_some (option_copied o)
copied None = refl
copied (Some x) = refl

pub returns : goal.returns
returns c =
    c.is_some.ensures
    ∙ copied c.find.result
    ∙ ap is_some c.find.ensures.found
    ∙ any_has_run c.self.inside.runs.runs c.self.inside.entries.entries c.self.invariant c.args.run
    ∙ ap (λ (t : Tables). list_any (has_run c.args.run) t.entries) c.self.view_is
