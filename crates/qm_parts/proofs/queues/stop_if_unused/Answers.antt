use Rattle.std.proofs.Common.{◌≡◌, ◌∙◌, ◌≤◌, List, sym, ap, arith, rules}
use denote.Enum.Bare.{same_true}
use Rattle.std.proofs.lemmas.Bool.{not-false, le-ltb}
use Rattle.qm_kinds.specs.contracts.queue.QueueState.{the_type}
use Rattle.qm_model.specs.Common.{Queue, Stopping}
use Rattle.qm_tables.proofs.QueueNames.{kept_as}
use Rattle.qm_tables.specs.Runs.{places_in_use}
use Rattle.qm_parts.proofs.Stops.{stop_is}
use Rattle.qm_parts.proofs.queues.stop_if_unused.Goals as goal

pub returns : goal.returns
returns c = λ d.
    let read = rw c.as_slice.ensures.queues at c.index-as_slice-place.is in
    let stopping : c.index-as_slice-place.result.state ≡ Stopping = same_true the_type (search rules) _ _ (not-false _ (sym c.ne.ensures ∙ c.if-ne.false)) in
    let none : places_in_use c.index-as_slice-place.result.name c.args.runs.now.runs ≤ 0 = omega (arith, c.in_use.ensures, c.if-in_use-gt0.false) in
    c.set_state.ensures.queues
    ∙ ap (λ (qs : List Queue). kept_as qs c.args.queues.now.spare)
    (stop_is c.args.runs.now.runs c.args.queues.now.queues c.args.place c.index-as_slice-place.result c.as_slice.ensures.in_order c.requires read stopping
    (le-ltb 0 (places_in_use c.index-as_slice-place.result.name c.args.runs.now.runs) none)
    d)
