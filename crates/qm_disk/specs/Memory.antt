-- What a disk in memory shows.
use Rattle.std.specs.Prelude.{◌≡◌, ℕ, true, List, length, Contains, Result, IsErr}
use Rattle.qm_disk.specs.Faults.{counted}
use Rattle.qm_disk.specs.Disk.{Meaning}
use Rattle.qm_disk.specs.Calls.{reading_of, first_of, crashed, LeftOf, LeftSince}
use Rattle.qm_disk.specs.declared.memory.MemoryDisk.{MemoryDisk}

-- what file f holds
abbrev pub held_of : MemoryDisk → ℕ → List ℕ
held_of disk f = reading_of disk.first disk.changed f

-- what a crash may leave of file f
abbrev pub left_of : MemoryDisk → ℕ → List ℕ → Type 0
left_of disk f = LeftOf disk.first disk.calls.items f

-- How many calls are on record is the moment.
abbrev pub in_memory : Meaning MemoryDisk
in_memory = record {
  tells = true;
  seen = held_of;
  may_leave = left_of;
  moment = λ disk. length disk.calls.items;
  left_since = λ disk. LeftSince disk.first disk.calls.items;
  faults = λ disk. disk.faults;
}

-- how many calls were made, a number that stands at the end of its type
abbrev pub made_of : MemoryDisk → ℕ
made_of disk = disk.made

-- the numbers of the calls that fail
abbrev pub fail_of : MemoryDisk → List ℕ
fail_of disk = disk.fail.items

-- what a crash of this kind leaves of file f
abbrev pub crash_of : MemoryDisk → ℕ → ℕ → List ℕ
crash_of disk pick f = crashed pick f disk.calls.items (first_of disk.first f) (first_of disk.first f)

-- the call takes the next number, and fails where the list has that number
pub record TakesNumber {T E : Type 0} (old new : MemoryDisk) (result : Result T E) : Type 0 where
  pub number : made_of new ≡ counted (made_of old)
  pub same_list : fail_of new ≡ fail_of old
  pub fails : Contains (fail_of old) (made_of new) → IsErr result
