-- What stands at a place of a list.
use Rattle.std.specs.Prelude.{◌≡◌, ◌≢◌, ℕ, ◌^◌, ◌<◌, ◌≤◌, List, [], ◌++◌, length, Result, Ok, Err}
use Rattle.std.specs.Int.{w16, to_le_bytes}
use Rattle.qm_values.specs.declared.items.fault.ItemFault.{ItemFault}
use Rattle.qm_values.specs.declared.items.fault.ItemFault.TheVariants.{Cut, NoEnd, After, NoMemory}
use Rattle.qm_values.specs.declared.items.reading.Head.{Head}
use Rattle.qm_values.specs.declared.items.reading.Head.TheVariants.{End, Item}
use Rattle.qm_values.specs.ItemText.{list_end}
use Rattle.qm_values.specs.ItemFaults.{IsCut}

-- the head of an item whose value is there
pub record IsHead (rest : List ℕ) (code count : ℕ) : Type 0 where
  pub behind : List ℕ
  pub is : rest ≡ to_le_bytes w16 count ++ (to_le_bytes w16 code ++ behind)
  pub within : count ≤ length behind
  pub short : count < 2 ^ 16
  pub code_fits : code < 2 ^ 16
  pub no_end : count ≡ 0 → code ≢ 0

-- the end of a list, an item, or why there is neither
abbrev pub HeadAt : List ℕ → ℕ → Result Head ItemFault → Type 0
HeadAt rest place (Ok End) = (more : List ℕ) × (rest ≡ list_end ++ more)
HeadAt rest place (Ok (Item code count)) = IsHead rest code count
HeadAt rest place (Err (Cut at)) = (at ≡ place) × IsCut rest
HeadAt rest place (Err (NoEnd at)) = (at ≡ place) × (rest ≡ [])
HeadAt rest place (Err (After at)) = ⊥
HeadAt rest place (Err NoMemory) = ⊥
