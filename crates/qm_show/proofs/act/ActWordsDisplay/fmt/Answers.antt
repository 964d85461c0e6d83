use Rattle.std.proofs.Common.{sym, append_assoc, codes, decimal}
use Rattle.std.proofs.Output.{has_written_of_eq}
use Rattle.qm_model.specs.Words.{run_text}
use Rattle.qm_show.proofs.act.ActWordsDisplay.fmt.Goals as goal

pub returns-in-RunCompleted-clause-writes : goal.returns-in-RunCompleted-clause-writes
returns-in-RunCompleted-clause-writes g c plain ok =
    let act = c.in-RunCompleted in
    rw act.is
    (has_written_of_eq _ _ _ _ _ (sym (append_assoc (run_text act.run') (codes " completed, status ") (decimal act.status)))
    (c.write-in-RunCompleted.ensures.writes plain ok))

pub returns-in-RunRetained-clause-writes : goal.returns-in-RunRetained-clause-writes
returns-in-RunRetained-clause-writes g c plain ok =
    let act = c.in-RunRetained in
    rw act.is
    (has_written_of_eq _ _ _ _ _ (sym (append_assoc (run_text act.run') (codes " retained, status ") (decimal act.status)))
    (c.write-in-RunRetained.ensures.writes plain ok))
