use Rattle.std.proofs.Common.{◌++◌, ◌∷◌, []}
use Rattle.std.proofs.lemmas.Result.{err_from_is_err_and}
use Rattle.qm_record.proofs.Loops.{goes_on, ends, is_done, passed_none}
use Rattle.qm_record.proofs.element.pass_several.Goals as goal

pub loop-init : goal.loop-init
loop-init g c = passed_none g.T.Element.reading c.args.count c.args.bytes.now.now

pub returns-in_err-read : goal.returns-in_err-read
returns-in_err-read g c =
    let p = err_from_is_err_and c.from_residual.result c.from_residual.ensures.1 in
    rw (p.1, p.2) (ends g.T.Element.reading c.loop.invariant.front c.loop-test.true c.in_err-read.ensures c.loop.invariant.so_far)

pub loop-preserved : goal.loop-preserved
loop-preserved g c = record {
  front = c.loop.invariant.front ++ c.in_ok-read.field-0 ∷ [];
  so_far = goes_on g.T.Element.reading c.loop.invariant.front c.loop-test.true c.in_ok-read.ensures c.loop.invariant.so_far;
}

pub returns : goal.returns
returns g c = (c.loop.invariant.front, is_done g.T.Element.reading c.loop.invariant.front c.loop-test.false c.loop.invariant.so_far)
