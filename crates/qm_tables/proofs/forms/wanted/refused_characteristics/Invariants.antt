use Rattle.std.proofs.Common.{◌≡◌, drop}
use Rattle.qm_model.specs.Wanted.{refused_characteristics}
use Rattle.qm_tables.proofs.forms.wanted.refused_characteristics.Given as goal

-- what is left decides
abbrev pub invariant-loop-one : goal.invariant-loop-one
invariant-loop-one l = refused_characteristics l.defined (drop l.one-index l.wanted) ≡ refused_characteristics l.defined l.wanted
