-- Where bytes aren't a list of items.
use Rattle.std.specs.Prelude.{◌≡◌, ℕ, ◌+◌, ◌<◌, List, [], ◌∷◌, ◌++◌, length, take, All}
use Rattle.std.specs.Int.{w16, from_le_bytes}
use Rattle.qm_values.specs.declared.items.fault.ItemFault.{ItemFault}
use Rattle.qm_values.specs.declared.items.fault.ItemFault.TheVariants.{Cut, NoEnd, After, NoMemory}
use Rattle.qm_values.specs.declared.items.item.Item.{Item}
use Rattle.qm_values.specs.ItemText.{text, list_end, CanStand}

-- an item that is cut short: one to three bytes, or fewer than its length says
abbrev pub IsCut : List ℕ → Type 0
IsCut rest = (0 < length rest) × (length rest < 4 + from_le_bytes w16 (take 2 rest))

-- bytes stand behind the end of a list
abbrev pub GoesOn : List ℕ → Type 0
GoesOn rest = (byte : ℕ) × (more : List ℕ) × (rest ≡ list_end ++ byte ∷ more)

-- behind whole items, at this place, stands this
pub record StandsAt (bytes : List ℕ) (place : ℕ) (Rest : List ℕ → Type 0) : Type 0 where
  pub items : List Item
  pub rest : List ℕ
  pub each : All CanStand items
  pub whole : bytes ≡ text items ++ rest
  pub place_is : place ≡ length (text items)
  pub is : Rest rest

-- Why the bytes are no list: an item is cut short; they end where an item or the end should stand; or more stands behind the end,
-- whose four bytes lie before the place that is told.
abbrev pub IsFault : List ℕ → ItemFault → Type 0
IsFault bytes (Cut place) = StandsAt bytes place IsCut
IsFault bytes (NoEnd place) = StandsAt bytes place (λ rest. rest ≡ [])
IsFault bytes (After place) = (before : ℕ) × (place ≡ before + 4) × StandsAt bytes before GoesOn
IsFault bytes NoMemory = Unit {0}
