-- How often files failed that blocks were appended to.
use Rattle.std.specs.Prelude.{ℕ}
use Rattle.qm_symb.specs.declared.files.FileDevice.{FileDevice}

-- how many calls failed
abbrev pub file_faults : {R File Folder : Type 0} → FileDevice R File Folder → ℕ
file_faults device = device.faults
