use Rattle.std.proofs.Common.{ap}
use Rattle.qm_node.specs.Rows.{bare}
use Rattle.qm_node.proofs.Stepped.{place_within, same_bare, step_next, step_sound, when_ok}
use Rattle.qm_node.proofs.runs.step_first.Goals as goal

pub returns-clause-same : goal.returns-clause-same
returns-clause-same g c =
    let stands = rw c.deref.ensures.value at c.place_of_next-place.ensures in
    same_bare c.args.rows.now.items c.place_of_next-place.result c.index_mut.result.now c.make_step.new.row c.index_mut.ensures.value
    (place_within c.args.rows.now.items c.args.round.now c.place_of_next-place.result c.requires.some stands) (ap bare c.make_step.ensures.same)

pub returns-clause-sound : goal.returns-clause-sound
returns-clause-sound g c =
    let stands = rw c.deref.ensures.value at c.place_of_next-place.ensures in
    when_ok c.make_step.result
    (λ told goes. step_sound g.Y.Symbiont.stands c.args.rows.now.items c.args.round.now c.place_of_next-place.result c.index_mut.result.now c.make_step.new.row told
    c.index_mut.ensures.value c.make_step.ensures.same c.requires.some stands c.requires.each goes) c.make_step.ensures.next_place

pub returns-clause-step : goal.returns-clause-step
returns-clause-step g c =
    let stands = rw c.deref.ensures.value at c.place_of_next-place.ensures in
    when_ok c.make_step.result
    (λ told step steps. step_next g.Y.Symbiont.meaning c.args.rows.now.items c.args.round.now c.place_of_next-place.result c.index_mut.result.now told c.args.symbiont.now c.make_step.new.symbiont
    c.index_mut.ensures.value c.requires.some stands steps step) c.make_step.ensures.step
