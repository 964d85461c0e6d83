use Rattle.qm_node.proofs.Stepped.{held_on, went_on}
use Rattle.qm_node.proofs.runs.go_on.Goals as goal

pub returns-clause-held : goal.returns-clause-held
returns-clause-held g c =
    let stands = rw (c.deref.ensures.value, c.deref-2.ensures.value) at c.place_of_next-place.ensures in
    rw c.rotate_left.ensures.items
    (held_on g.Y.Symbiont.stands c.args.rows.now.items c.args.round.now.items c.place_of_next-place.result c.index_mut.result.now c.requires.held.0 c.args.next c.index_mut.ensures.value stands c.requires.held.1)

pub returns-clause-settled : goal.returns-clause-settled
returns-clause-settled g c = λ steps value.
    let stands = rw (c.deref.ensures.value, c.deref-2.ensures.value) at c.place_of_next-place.ensures in
    rw c.rotate_left.ensures.items
    (went_on c.args.rows.now.items c.args.round.now.items c.place_of_next-place.result c.index_mut.result.now c.index_mut.ensures.value c.requires.held.1.stepping stands steps value c.args.next)
