-- How often the files failed.
use Rattle.std.specs.Prelude.{ℕ}
use Rattle.qm_files.specs.declared.disk.FileDisk.{FileDisk}

-- how many calls failed
abbrev pub file_faults : {R File Folder : Type 0} → FileDisk R File Folder → ℕ
file_faults disk = disk.faults
