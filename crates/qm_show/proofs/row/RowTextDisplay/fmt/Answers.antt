use Rattle.std.proofs.Common.{sym, append_assoc, codes}
use Rattle.std.proofs.Output.{has_written_of_eq}
use Rattle.qm_model.specs.Words.{listed, manager_text}
use Rattle.qm_show.proofs.row.RowTextDisplay.fmt.Goals as goal

pub returns-in-Manager-clause-writes : goal.returns-in-Manager-clause-writes
returns-in-Manager-clause-writes g c plain ok =
    let row = c.in-Manager in
    rw row.is
    (has_written_of_eq _ _ _ _ _ (sym (append_assoc (manager_text row.node row.epoch) (codes ", may run on ") (listed row.may)))
    (c.write-in-Manager.ensures.writes plain ok))
