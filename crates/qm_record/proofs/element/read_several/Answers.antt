use Rattle.std.proofs.Common.{◌++◌, ◌∷◌, []}
use Rattle.std.proofs.lemmas.Result.{err_from_is_err_and}
use Rattle.qm_record.proofs.Loops.{goes_on, ends, ends_later, is_there, is_done}
use Rattle.qm_record.proofs.element.read_several.Goals as goal

pub returns-in_err-item : goal.returns-in_err-item
returns-in_err-item g c =
    let p = err_from_is_err_and c.from_residual.result c.from_residual.ensures.1 in
    rw (p.1, p.2) (ends g.T.Element.reading c.loop-place.items.items c.loop-place-test.true c.in_err-item.ensures c.loop-place.invariant)

pub loop-place-preserved : goal.loop-place-preserved
loop-place-preserved g c =
    rw c.in-Ok.ensures.items (goes_on g.T.Element.reading c.loop-place.items.items c.loop-place-test.true c.in_ok-item.ensures c.loop-place.invariant)

pub returns : goal.returns
returns g c = rw c.of.ensures (is_done g.T.Element.reading c.loop-place.items.items c.loop-place-test.false c.loop-place.invariant)

pub returns-in_err-pass_several-in-Err : goal.returns-in_err-pass_several-in-Err
returns-in_err-pass_several-in-Err g c =
    let on = goes_on g.T.Element.reading c.loop-place.items.items c.loop-place-test.true c.in_ok-item.ensures c.loop-place.invariant in
    let residual = c.from_residual-in_err-pass_several-in-Err in
    let p = err_from_is_err_and residual.result residual.ensures.1 in
    rw (p.1, p.2) (ends_later (c.loop-place.items.items ++ c.in_ok-item.item ∷ []) c.in_err-pass_several-in-Err.ensures on)

pub returns-in-Err : goal.returns-in-Err
returns-in-Err g c =
    is_there (c.loop-place.items.items ++ c.in_ok-item.item ∷ []) c.in_ok-pass_several-in-Err.ensures
    (goes_on g.T.Element.reading c.loop-place.items.items c.loop-place-test.true c.in_ok-item.ensures c.loop-place.invariant)
