use Rattle.qm_tables.proofs.Spooling.{none_named}
use Rattle.qm_tables.proofs.spool.table.Spool.from_files.Goals as goal

pub returns-clause-unnamed : goal.returns-clause-unnamed
returns-clause-unnamed c = λ name. none_named c.in_ok-files.files.items name c.in_ok-files.ensures.unnamed
