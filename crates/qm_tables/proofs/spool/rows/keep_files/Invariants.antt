use Rattle.std.proofs.Common.{◌≡◌, map, take, All}
use Rattle.qm_tables.specs.SpoolRows.{file_of}
use Rattle.qm_tables.proofs.spool.rows.keep_files.Given as goal

abbrev pub invariant-loop-file : goal.invariant-loop-file
invariant-loop-file l = record {
  rows : map file_of l.kept.items ≡ take l.file-index l.files;
  unnamed : All (λ f. f.named ≡ 0) l.kept.items;
}
