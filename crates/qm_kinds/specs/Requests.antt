-- What users and programs ask for that changes the system, by its number.
-- This site's own: the numbers, which records and calls by item lists share.
use Rattle.std.specs.Prelude.{ℕ, ◌==◌, if◌then◌else◌, Option, None, Some}
use Rattle.qm_kinds.specs.declared.request_kind.RequestKind.{RequestKind}
use Rattle.qm_kinds.specs.declared.request_kind.RequestKind.TheVariants as request

-- the number of each kind
abbrev pub request_number : RequestKind → ℕ
request_number request.Append = 1
request_number request.Fill = 2
request_number request.Drop = 3
request_number request.DefineForm = 4
request_number request.DeleteForm = 5
request_number request.DefineCharacteristic = 6
request_number request.DeleteCharacteristic = 7
request_number request.InitializeQueue = 8
request_number request.SetQueue = 9
request_number request.StartQueue = 10
request_number request.StopQueue = 11
request_number request.AbortJob = 12
request_number request.DeleteQueue = 13
request_number request.Merge = 14
request_number request.Submit = 15
request_number request.SetEntry = 16
request_number request.DeleteEntry = 17

-- the kind of each number
abbrev pub request_kind : ℕ → Option RequestKind
request_kind n =
    if n == 1 then Some request.Append else
    if n == 2 then Some request.Fill else
    if n == 3 then Some request.Drop else
    if n == 4 then Some request.DefineForm else
    if n == 5 then Some request.DeleteForm else
    if n == 6 then Some request.DefineCharacteristic else
    if n == 7 then Some request.DeleteCharacteristic else
    if n == 8 then Some request.InitializeQueue else
    if n == 9 then Some request.SetQueue else
    if n == 10 then Some request.StartQueue else
    if n == 11 then Some request.StopQueue else
    if n == 12 then Some request.AbortJob else
    if n == 13 then Some request.DeleteQueue else
    if n == 14 then Some request.Merge else
    if n == 15 then Some request.Submit else
    if n == 16 then Some request.SetEntry else
    if n == 17 then Some request.DeleteEntry else
    None
