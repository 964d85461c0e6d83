-- A device in memory, as its callers see it.
use Rattle.std.specs.Prelude.{ℕ, true, List}
use Rattle.qm_symb.specs.Device.{Meaning}
use Rattle.qm_symb.specs.declared.handed.HandOver.{HandOver}

-- the blocks that it took, each with its run and its device, and the calls: which fail by their number, how many there were, and how
-- many failed
pub record HeldDevice : Type 0 where
  pub taken : List HandOver
  pub fail : List ℕ
  pub calls : ℕ
  pub faults : ℕ

-- it tells what it took
abbrev pub in_memory : Meaning HeldDevice
in_memory = record {
  tells = true;
  taken = λ device. device.taken;
  faults = λ device. device.faults;
}
