-- What the calls of devices and symbionts speak of: the blocks that were handed over, and the faults.
use Rattle.std.specs.Prelude.{◌≡◌, ℕ, ◌<◌, Bool, IsTrue, List, ◌++◌, length, map, take}
use Rattle.qm_disk.specs.Faults.{counted, Tells}
use Rattle.qm_symb.specs.declared.handed.HandOver.{HandOver}

-- What the devices, or the symbionts, of one type mean: all that the contract of their calls speaks of.
pub record Meaning (D : Type 0) : Type 1 where
  -- whether they tell what they took; where they don't, `taken` says nothing
  pub tells : Bool
  -- the blocks that were handed over, each with its run and its device, the first one first
  pub taken : D → List HandOver
  -- how many calls failed
  pub faults : D → ℕ

-- these blocks, each handed by the run to the device
abbrev pub handed_by : ℕ → List ℕ → List (List ℕ) → List HandOver
handed_by run device blocks = map (λ (block : List ℕ). record { run = run; device = device; block = block }) blocks

module _ {D : Type 0} (m : Meaning D) where
  -- a run handed these blocks to a device, in their order, and nothing else was handed over
  abbrev pub Takes : ℕ → List ℕ → List (List ℕ) → D → D → Type 0
  Takes run device blocks old new = IsTrue m.tells → m.taken new ≡ m.taken old ++ handed_by run device blocks

  -- a run handed first ones of these blocks to a device, and not all
  abbrev pub TakesNotAll : ℕ → List ℕ → List (List ℕ) → D → D → Type 0
  TakesNotAll run device blocks old new = (count : ℕ) × (count < length blocks) × Takes run device (take count blocks) old new

  -- one call failed: the count of faults is one more, or stands at the end of its type
  abbrev pub OneFailed : D → D → Type 0
  OneFailed old new = m.faults new ≡ counted (m.faults old)

  -- no call failed
  abbrev pub IsQuiet : D → D → Type 0
  IsQuiet old new = m.faults new ≡ m.faults old

  -- where a fault is told one call failed, and where none is told none did
  abbrev pub TellsFaults : D → D → Type 0 → Type 0
  TellsFaults old new told = Tells (m.faults old) (m.faults new) told
