-- The functions that a program calls, by their numbers.
-- OpenVMS System Services Reference Manual, $SNDJBC and $GETQUI, on functions. This site's own: the numbers.
use Rattle.std.specs.Prelude.{ℕ, ◌==◌, if◌then◌else◌, Option, None, Some}
use Rattle.qm_kinds.specs.declared.request_kind.RequestKind.{RequestKind}
use Rattle.qm_kinds.specs.Requests.{request_kind}
use Rattle.qm_values.specs.declared.function.Function.{Function}
use Rattle.qm_values.specs.declared.function.Function.TheVariants as function

-- a function that changes nothing
abbrev pub listing_of : ℕ → Option Function
listing_of n =
    if n == 41 then Some function.DisplayQueue
    else if n == 42 then Some function.DisplayJob
    else if n == 43 then Some function.DisplayEntry
    else if n == 44 then Some function.DisplayForm
    else if n == 45 then Some function.DisplayCharacteristic
    else if n == 46 then Some function.DisplayManager
    else if n == 47 then Some function.CancelOperation
    else None

-- a request, where the number is that of one, or else another function
abbrev pub request_or : Option RequestKind → Option Function → Option Function
request_or (Some kind) other = Some (function.Request kind)
request_or None other = other

abbrev pub function_of : ℕ → Option Function
function_of n = request_or (request_kind n) (listing_of n)
