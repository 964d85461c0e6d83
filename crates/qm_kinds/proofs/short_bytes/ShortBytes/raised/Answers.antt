use Rattle.qm_kinds.proofs.Reading.{raise_one_more}
use Rattle.qm_kinds.proofs.short_bytes.ShortBytes.raised.Goals as goal

pub loop-i-preserved : goal.loop-i-preserved
loop-i-preserved g c =
    raise_one_more c.loop-i.raised c.args.text.now c.loop-i.i g.row.CAP c.to_ascii_uppercase.result c.loop-i-test.true c.requires.fits c.to_ascii_uppercase.ensures.value c.loop-i.invariant
