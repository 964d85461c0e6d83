use Rattle.std.proofs.Common.{◌≡◌, map, take, filter}
use Rattle.qm_kinds.specs.Wildcards.{matches}
use Rattle.qm_kinds.specs.declared.query.Row.TheVariants as row
use Rattle.qm_scan.proofs.all.characteristic_rows.Given as goal

abbrev pub invariant-loop-characteristic : goal.invariant-loop-characteristic
invariant-loop-characteristic l =
    l.rows.items ≡ map (λ c. row.Characteristic c) (filter (λ c. matches l.pattern c.name) (take l.characteristic-index l.characteristics))
