use Rattle.std.proofs.Common.{ap, ◌∙◌}
use Rattle.qm_symb.specs.PagePlaces.{blocks_from}
use Rattle.qm_symb.proofs.PlaceLemmas.{place, starts}
use Rattle.qm_symb.proofs.print.cursor.Cursor.start.Goals as goal

pub returns : goal.returns
returns c = ap (λ n. blocks_from c.args.work.now (place c.args.work.now.flag c.args.work.now.copies n)) c.len.ensures ∙ starts c.args.work.now
