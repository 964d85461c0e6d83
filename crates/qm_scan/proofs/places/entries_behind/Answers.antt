use Rattle.std.proofs.Common.{◌∙◌, sym, ap, find}
use Rattle.qm_scan.proofs.Boxed.{left_of}
use Rattle.qm_scan.proofs.places.entries_behind.Goals as goal

pub returns : goal.returns
returns c = λ p.
    c.place_behind.ensures.behind p
    ∙ sym (ap (find p) (left_of c.args.entries.now c.place_behind.result c.place_behind.ensures.within))
