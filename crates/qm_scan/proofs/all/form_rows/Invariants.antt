use Rattle.std.proofs.Common.{◌≡◌, map, take, filter}
use Rattle.qm_kinds.specs.Wildcards.{matches}
use Rattle.qm_kinds.specs.declared.query.Row.TheVariants as row
use Rattle.qm_scan.proofs.all.form_rows.Given as goal

abbrev pub invariant-loop-form : goal.invariant-loop-form
invariant-loop-form l = l.rows.items ≡ map (λ f. row.Form f) (filter (λ f. matches l.pattern f.name) (take l.form-index l.forms))
