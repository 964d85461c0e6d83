-- The kinds of records and their numbers.
use Rattle.std.specs.Prelude.{ℕ, ◌==◌, Bool, true, false, if◌then◌else◌, Option, None, Some}
use Rattle.qm_kinds.specs.declared.request_kind.RequestKind.{RequestKind}
use Rattle.qm_kinds.specs.Requests.{request_kind, request_number}
use Rattle.qm_record.specs.declared.kind.RecordKind.{RecordKind}
use Rattle.qm_record.specs.declared.kind.RecordKind.TheVariants.{Request, Mark, Done, Tick, NodeUp, NodeLost, Took, Head, Form, Queue}

-- the number of each kind: of requests up to 32, of the rows of an image from 33 on
abbrev pub number_of : RecordKind → ℕ
number_of (Request kind) = request_number kind
number_of Mark = 18
number_of Done = 19
number_of Tick = 20
number_of NodeUp = 21
number_of NodeLost = 22
number_of Took = 23
number_of Head = 33
number_of Form = 34
number_of Queue = 37

-- the kind of each number that neither a user nor a program asks for
abbrev pub other_kind : ℕ → Option RecordKind
other_kind n =
    if n == 18 then Some Mark else
    if n == 19 then Some Done else
    if n == 20 then Some Tick else
    if n == 21 then Some NodeUp else
    if n == 22 then Some NodeLost else
    if n == 23 then Some Took else
    if n == 33 then Some Head else
    if n == 34 then Some Form else
    if n == 37 then Some Queue else
    None

-- a request, where it is one, or else another kind
abbrev pub request_or : Option RequestKind → Option RecordKind → Option RecordKind
request_or (Some kind) other = Some (Request kind)
request_or None other = other

-- the kind of each number
abbrev pub kind_of : ℕ → Option RecordKind
kind_of n = request_or (request_kind n) (other_kind n)

-- the rows of an image
abbrev pub is_row_kind : RecordKind → Bool
is_row_kind (Request kind) = false
is_row_kind Mark = false
is_row_kind Done = false
is_row_kind Tick = false
is_row_kind NodeUp = false
is_row_kind NodeLost = false
is_row_kind Took = false
is_row_kind Head = true
is_row_kind Form = true
is_row_kind Queue = true
