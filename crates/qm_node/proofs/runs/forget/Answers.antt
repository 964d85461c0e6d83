use Rattle.qm_node.proofs.Stepped.{forgot, held_forgotten}
use Rattle.qm_node.proofs.runs.forget.Goals as goal

pub returns-clause-held : goal.returns-clause-held
returns-clause-held g c =
    let stands = rw (c.deref.ensures.value, c.deref-2.ensures.value) at c.place_of_next-place.ensures in
    rw (c.remove.ensures.items, c.remove-2.ensures.items)
    (held_forgotten g.Y.Symbiont.stands c.args.rows.now.items c.args.round.now.items c.place_of_next-place.result c.requires.held.0 c.requires.some stands c.requires.held.1)

pub returns-clause-settled : goal.returns-clause-settled
returns-clause-settled g c = λ steps status goes_on.
    let stands = rw (c.deref.ensures.value, c.deref-2.ensures.value) at c.place_of_next-place.ensures in
    rw (c.remove.ensures.items, c.remove-2.ensures.items)
    (forgot c.args.rows.now.items c.args.round.now.items c.place_of_next-place.result c.remove.result c.remove.ensures.value c.requires.some stands steps status goes_on)
