use Rattle.std.proofs.Common.{◌≡◌, ◌∙◌, ◌||◌, ℕ, List, get_or, set, arith, subst, sym, ap, bytes_eq}
use Rattle.std.specs.List.{list_any}
use Rattle.qm_keyed.specs.Places.{StandsAt, BelongsAt}
use Rattle.qm_model.specs.Common.{Queue, name_cmp}
use Rattle.qm_tables.proofs.QueueNames.{name_of}
use Rattle.qm_parts.specs.Rooms.{leads_to, targets_of}
use Rattle.qm_parts.proofs.Widening.{leads_nowhere, only_there, raised_either, raised_none, raised_there, targets_there}
use Rattle.qm_parts.proofs.rooms.raise_each.Goals as goal

pub returns-in_default-clause-raised : goal.returns-in_default-clause-raised
returns-in_default-clause-raised c =
    let qs = c.args.tables.now.queues in
    let home = c.args.home.now in
    let belongs = subst (λ (ps : List Queue). BelongsAt name_cmp name_of home ps c.in_default.field-0) c.queues.ensures.queues c.in_default.ensures in
    raised_none qs (λ q. leads_to qs q home) c.args.bounds.now.items (leads_nowhere qs home c.in_default.field-0 belongs)

pub returns-clause-raised : goal.returns-clause-raised
returns-clause-raised c =
    let qs = c.args.tables.now.queues in
    let home = c.args.home.now in
    let place = c.in-Ok.place in
    let stands = subst (λ (ps : List Queue). StandsAt name_cmp name_of home ps place) c.queues.ensures.queues c.in-Ok.ensures in
    let bounds = c.args.bounds.now.items in
    let raised = set bounds place c.raise.new.bound in
    let ts : List (List ℕ) = c.as_slice.result.now in
    let targets : targets_of qs home ≡ ts =
    targets_there qs home place stands c.index-queues-place.result
    ∙ ap (λ (ps : List Queue). (get_or ps place c.index-queues-place.result).targets) (sym c.queues-2.ensures.queues) ∙ sym c.as_slice.ensures in
    raised_either qs (λ q. bytes_eq home q.name) (λ q. list_any (λ target. bytes_eq target q.name) ts) (λ q. leads_to qs q home) bounds raised c.raise_targets.new.bounds.items
    (λ q. ap (λ (us : List (List ℕ)). bytes_eq home q.name || list_any (λ target. bytes_eq target q.name) us) targets)
    (raised_there qs (λ q. bytes_eq home q.name) bounds place c.index_mut.result.now c.raise.new.bound (omega (arith, stands.within, c.requires)) c.index_mut.ensures.value c.raise.ensures (only_there qs home place stands))
    c.raise_targets.ensures.raised
