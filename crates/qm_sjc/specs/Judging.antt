-- What is wrong with an item of a call.
-- This site's own: which fault is told, and where it stands.
use Rattle.std.specs.Prelude.{ℕ, ◌==◌, nat_lt, nat_le, Bool, not, ◌&&◌, ◌||◌, if◌then◌else◌, List, [], ◌∷◌, ◌++◌, length, find, count_by, Option, None, Some, option_map}
use Rattle.std.specs.List.{list_any}
use Rattle.std.specs.Option.{option_or}
use Rattle.qm_kinds.specs.declared.refusal.ParseKind.{ParseKind}
use Rattle.qm_kinds.specs.declared.refusal.ParseKind.TheVariants.{Code, Value, Repeated}
use Rattle.qm_values.specs.declared.items.item.Item.{Item}
use Rattle.qm_values.specs.ItemText.{text}
use Rattle.qm_values.specs.declared.codes.TheConstants.{CHARACTERISTIC, TARGET}
use Rattle.qm_sjc.specs.declared.fault.Fault.{Fault}
use Rattle.qm_values.specs.declared.holds.Holds.{Holds}
use Rattle.qm_values.specs.declared.function.Function.{Function}
use Rattle.qm_sjc.specs.Fields.{fields_of}
use Rattle.qm_values.specs.Values.{is_held}

-- what value the item of a code has, where the function takes it
abbrev pub field_in : Function → ℕ → Option Holds
field_in function code = option_map (λ (field : ℕ × Holds). field.1) (find (λ (field : ℕ × Holds). field.0 == code) (fields_of function))

-- how many items there are of a code
abbrev pub count_in : ℕ → List Item → ℕ
count_in code items = count_by (λ (item : Item). item.code == code) items

-- an item of the code may come again
abbrev pub is_repeatable : ℕ → Bool
is_repeatable code = code == CHARACTERISTIC || code == TARGET

-- no more items of the code may come behind these: of most codes one does, of the others 65,535
abbrev pub is_spent : List Item → ℕ → Bool
is_spent before code = if is_repeatable code then nat_le 65535 (count_in code before) else list_any (λ (item : Item). item.code == code) before

-- an item without a characteristic, which takes away all of them, beside another one
abbrev pub is_empty_beside : List Item → Item → Bool
is_empty_beside all item = item.code == CHARACTERISTIC && length item.value == 0 && nat_lt 1 (count_in CHARACTERISTIC all)

-- what is wrong with an item behind these of a list, by the value that it is to have
abbrev pub kind_of : List Item → List Item → Item → Option Holds → Option ParseKind
kind_of all before item None = Some Code
kind_of all before item (Some form) =
    if not (is_held form item.value) || is_empty_beside all item then Some Value else if is_spent before item.code then Some Repeated else None

-- an item is at fault where it begins
abbrev pub fault_in : Function → List Item → List Item → Item → Option Fault
fault_in function all before item =
    option_map (λ kind. record { place = length (text before); kind = kind }) (kind_of all before item (field_in function item.code))

-- the first fault of the items behind these
abbrev pub fault_behind : Function → List Item → List Item → List Item → Option Fault
fault_behind function all before [] = None
fault_behind function all before (item ∷ items) = option_or (fault_in function all before item) (fault_behind function all (before ++ item ∷ []) items)

-- the first fault of the items of a call
abbrev pub first_fault : Function → List Item → Option Fault
first_fault function items = fault_behind function items [] items
