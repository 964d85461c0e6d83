-- What the bytes of an item list ask for, in the call of a function.
-- OpenVMS System Services Reference Manual, $SNDJBC and $GETQUI, on item lists.
use Rattle.std.specs.Prelude.{ℕ, zero, suc, ◌+◌, ◌==◌, nat_lt, Bool, if◌then◌else◌, List, [], ◌∷◌, length, take, drop, Option, None, Some, Result, Ok, Err, bytes_eq}
use Rattle.std.specs.Int.{w16, from_le_bytes}
use Rattle.qm_kinds.specs.declared.input.Input.{Input}
use Rattle.qm_kinds.specs.declared.input.Input.TheVariants as input
use Rattle.qm_kinds.specs.declared.refusal.ParseKind.TheVariants as parse
use Rattle.qm_values.specs.declared.items.fault.ItemFault.{ItemFault}
use Rattle.qm_values.specs.declared.items.fault.ItemFault.TheVariants as wrong
use Rattle.qm_values.specs.declared.items.item.Item.{Item}
use Rattle.qm_values.specs.ItemText.{list_end}
use Rattle.qm_sjc.specs.declared.fault.Fault.{Fault}
use Rattle.qm_sjc.specs.Calls.{call_of}

-- how many bytes the value of the item has that begins here
abbrev pub count_here : List ℕ → ℕ
count_here rest = from_le_bytes w16 (take 2 rest)

-- the item that begins here
abbrev pub item_here : List ℕ → Item
item_here rest = record { code = from_le_bytes w16 (take 2 (drop 2 rest)); value = take (count_here rest) (drop 4 rest) }

-- what stands behind it
abbrev pub behind_item : List ℕ → List ℕ
behind_item rest = drop (count_here rest) (drop 4 rest)

-- fewer than four bytes stand here, or fewer than the length of the item says
abbrev pub is_cut : List ℕ → Bool
is_cut rest = nat_lt (length rest) (4 + count_here rest)

-- the list ends here
abbrev pub is_end : List ℕ → Bool
is_end rest = bytes_eq (take 4 rest) list_end

-- the end of a list, behind which nothing stands
abbrev pub ended : ℕ → List ℕ → Result (List Item) Fault
ended place rest = if length rest == 4 then Ok [] else Err (record { place = place + 4; kind = parse.After })

-- an item in front of the others, or what is wrong with those
abbrev pub one_item : Item → Result (List Item) Fault → Result (List Item) Fault
one_item item (Ok items) = Ok (item ∷ items)
one_item item (Err f) = Err f

-- The items of a list from a place on, or the first fault. There are no more of them than the given number, since each has four
-- bytes at least.
abbrev pub items_from : ℕ → ℕ → List ℕ → Result (List Item) Fault
items_from zero place rest = Err (record { place = place; kind = parse.NoEnd })
items_from (suc most) place rest =
    if length rest == 0 then Err (record { place = place; kind = parse.NoEnd }) else
    if is_cut rest then Err (record { place = place; kind = parse.Cut }) else
    if is_end rest then ended place rest else
    one_item (item_here rest) (items_from most (place + 4 + count_here rest) (behind_item rest))

-- the items of which the bytes are a list, or the first fault
abbrev pub items_read : List ℕ → Result (List Item) Fault
items_read bytes = items_from (length bytes) 0 bytes

-- why bytes are no list, as it is told; of want of memory nothing is
abbrev pub list_fault : ItemFault → Option Fault
list_fault (wrong.Cut place) = Some (record { place = place; kind = parse.Cut })
list_fault (wrong.NoEnd place) = Some (record { place = place; kind = parse.NoEnd })
list_fault (wrong.After place) = Some (record { place = place; kind = parse.After })
list_fault wrong.NoMemory = None

-- what is asked for, or the fault at its place
abbrev pub or_fault : Result Input Fault → Input
or_fault (Ok asked) = asked
or_fault (Err f) = input.Fault f.place f.kind

-- what is wrong with a list comes before what is wrong with a call
abbrev pub meant : ℕ → List ℕ → Result (List Item) Fault → Input
meant function user (Ok items) = or_fault (call_of user function items)
meant function user (Err f) = input.Fault f.place f.kind

-- what the bytes of an item list mean in the call of a function by a user
abbrev pub items_mean : ℕ → List ℕ → List ℕ → Input
items_mean function bytes user = meant function user (items_read bytes)
