use Rattle.std.proofs.Common.{◌≡◌, subst, None}
use Rattle.qm_model.specs.Common.{Accepted, at_moment, first_refusal_of, change_of, completed, due, node_at, stopped_when_idle}
use Rattle.qm_model.specs.Settling.{next_choice}
use Rattle.qm_model.proofs.SettlingLemmas.{nothing_starts, accepted_is}
use Rattle.qm_model.proofs.ChoiceLemmas.{none_left}
use Rattle.qm_model.proofs.settle.requests_settle.Goals as goal

pub returns : goal.returns
returns c s now node request a is numbers =
    let name = node_at node s.nodes in
    let change = change_of (due now (at_moment now s)) now name request in
    let same : completed change ≡ a = accepted_is (first_refusal_of s name request) (completed change) a is in
    let none : next_choice a.system ≡ None = subst (λ (b : Accepted). next_choice b.system ≡ None) same (nothing_starts (stopped_when_idle change.system)) in
    none_left a.system none numbers
