use Rattle.std.proofs.Common.{◌≡◌, ℕ, List, Option, sym, subst, IfOk}
use Rattle.qm_chest.specs.Taking.{may_by}
use Rattle.qm_chest.proofs.nodes.names_that_may.Goals as goal

pub returns-in-Some : goal.returns-in-Some
returns-in-Some c =
    subst (λ (o : Option (List (List ℕ))). IfOk c.names_listed.result (λ names. names.items ≡ may_by c.args.nodes.now c.args.may.now o)) (sym c.in-Some.ensures) c.names_listed.ensures
