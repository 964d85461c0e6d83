-- The files of a site on which no manager works.
use Rattle.qm_disk.specs.Disk.{Meaning}
use Rattle.qm_store.specs.Database.{disk_of as closed_disk}
use Rattle.qm_acting.specs.Standing.{restored_disk, IsRestored}
use Rattle.qm_acting.specs.declared.files.Files.{Files}
use Rattle.qm_acting.specs.declared.files.Files.TheVariants.{Closed, Read}

-- the device
abbrev pub files_disk : {D : Type 0} → Files D → D
files_disk (Closed closed) = closed_disk closed
files_disk (Read restored) = restored_disk restored

-- files that were read are those of a site, still as they were read
abbrev pub AreSound : {D : Type 0} → Meaning D → Files D → Type 0
AreSound m (Closed closed) = Unit {0}
AreSound m (Read restored) = IsRestored m restored
