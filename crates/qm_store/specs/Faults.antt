-- What a fault of a log is to the database.
use Rattle.qm_glog.specs.declared.fault.MakeFault.{MakeFault}
use Rattle.qm_glog.specs.declared.fault.MakeFault.TheVariants as make
use Rattle.qm_store.specs.declared.fault.WriteFault.{WriteFault}
use Rattle.qm_store.specs.declared.fault.WriteFault.TheVariants as writing

-- where a file is made
abbrev pub making_fault : MakeFault → WriteFault
making_fault make.Disk = writing.Disk
making_fault make.NoMemory = writing.NoMemory
