use Rattle.qm_kinds.specs.Padding.{padded, front_of_padded}
use Rattle.qm_kinds.proofs.short_bytes.ShortBytes.new.Goals as goal

pub invariant_of-result : goal.invariant_of-result
invariant_of-result g c = rw c.copy_from_slice.ensures.after (padded g.row.CAP c.args.bytes.now c.requires.fits)

pub returns : goal.returns
returns g c = rw c.copy_from_slice.ensures.after (front_of_padded g.row.CAP c.args.bytes.now)
