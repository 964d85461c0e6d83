use Rattle.std.proofs.Common.{◌≡◌, map, take}
use Rattle.qm_model.specs.Consistent.{spooled}
use Rattle.qm_tables.specs.SpoolRows.{file_of}
use Rattle.qm_tables.proofs.spool.rows.size_of_all.Given as goal

abbrev pub invariant-loop-file : goal.invariant-loop-file
invariant-loop-file l = l.size ≡ spooled (map file_of (take l.file-index l.files))
