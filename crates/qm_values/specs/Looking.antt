-- The items of a code.
use Rattle.std.specs.Prelude.{ℕ, ◌==◌, Bool, if◌then◌else◌, List, [], ◌∷◌, filter_map, Option, None, Some, is_some}
use Rattle.qm_kinds.specs.declared.request.NameOrNumber.{NameOrNumber}
use Rattle.qm_values.specs.declared.items.item.Item.{Item}
use Rattle.qm_values.specs.declared.codes.TheConstants.{BYTES, CHARACTERISTIC, TARGET}
use Rattle.qm_values.specs.declared.looking.Lists.{Lists}
use Rattle.qm_values.specs.Values.{reference_said, short_name_said}

-- the value of the first item of a code
abbrev pub value_in : ℕ → List Item → Option (List ℕ)
value_in code [] = None
value_in code (item ∷ items) = if item.code == code then Some item.value else value_in code items

abbrev pub is_given : ℕ → List Item → Bool
is_given code items = is_some (value_in code items)

-- the characteristic that an item names; an empty one names none
abbrev pub characteristic_of : Item → Option NameOrNumber
characteristic_of item = if item.code == CHARACTERISTIC then reference_said item.value else None

-- the characteristics that are given, if some are; an empty item alone gives the empty list
abbrev pub characteristics_in : List Item → List NameOrNumber
characteristics_in items = filter_map characteristic_of items

-- the target that an item names
abbrev pub target_of : Item → Option (List ℕ)
target_of item = if item.code == TARGET then short_name_said item.value else None

abbrev pub targets_in : List Item → List (List ℕ)
targets_in items = filter_map target_of items

-- what takes memory of the items
abbrev pub lists_in : List Item → Lists
lists_in items = record {
  characteristics = if is_given CHARACTERISTIC items then Some (characteristics_in items) else None;
  targets = targets_in items;
  bytes = value_in BYTES items;
}
