use Rattle.std.proofs.Common.{◌≡◌, Bool, cond, false, None, Some, refl, sym, subst, IsOk}
use Rattle.qm_kinds.specs.declared.refusal.Refusal.TheVariants.{NumbersSpent}
use Rattle.qm_model.specs.Outcome.{Accepted, unless_refused}
use Rattle.qm_acting.proofs.laws.own_requests_are_accepted.Goals as goal

unrefused : (spent : Bool) (made : Accepted) → spent ≡ false → IsOk (unless_refused (cond spent (Some NumbersSpent) None) made)
unrefused spent made is = subst (λ (b : Bool). IsOk (unless_refused (cond b (Some NumbersSpent) None) made)) (sym is) refl

pub returns-clause-took : goal.returns-clause-took
returns-clause-took c s moment node epoch gone up may = refl

pub returns-clause-lost : goal.returns-clause-lost
returns-clause-lost c s moment node nodes = refl

pub returns-clause-up : goal.returns-clause-up
returns-clause-up c s moment node unspent = unrefused _ _ unspent
