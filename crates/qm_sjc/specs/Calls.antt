-- What the call of a function asks for, or what is wrong with it and where.
use Rattle.std.specs.Prelude.{◌≡◌, ℕ, List, Option, None, Some, Result, Err, ok_or}
use Rattle.qm_model.specs.Common.{Input, ParseKind}
use Rattle.qm_kinds.specs.declared.refusal.ParseKind.TheVariants.{Form, Missing}
use Rattle.qm_values.specs.declared.items.item.Item.{Item}
use Rattle.qm_sjc.specs.declared.fault.CallFault.{CallFault}
use Rattle.qm_sjc.specs.declared.fault.CallFault.TheVariants.{At, NoMemory}
use Rattle.qm_sjc.specs.declared.fault.Fault.{Fault}
use Rattle.qm_values.specs.declared.function.Function.{Function}
use Rattle.qm_values.specs.Asked.{asked}
use Rattle.qm_values.specs.Functions.{function_of}
use Rattle.qm_sjc.specs.Judging.{first_fault}
use Rattle.qm_values.specs.Looking.{lists_in}

-- a fault of the whole call
abbrev pub at_once : ParseKind → Fault
at_once kind = record { place = 0; kind = kind }

-- the first fault of an item, and else what is asked for, unless something is missing
abbrev pub judged : List ℕ → Function → List Item → Option Fault → Result Input Fault
judged user function items None = ok_or (asked user function items (lists_in items)) (at_once Missing)
judged user function items (Some fault) = Err fault

abbrev pub called : List ℕ → List Item → Option Function → Result Input Fault
called user items None = Err (at_once Form)
called user items (Some function) = judged user function items (first_fault function items)

-- What a user asks for who calls the function of a number with these items, or the first fault. A number that is no function's is at
-- fault by its form.
abbrev pub call_of : List ℕ → ℕ → List Item → Result Input Fault
call_of user number items = called user items (function_of number)

-- what is wrong with the call; of want of memory nothing is told
abbrev pub Explains : Result Input Fault → CallFault → Type 0
Explains read (At place kind) = read ≡ Err (record { place = place; kind = kind })
Explains read NoMemory = Unit {0}
