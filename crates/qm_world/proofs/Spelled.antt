-- What has a spelling has short lists, so it can be written.
use Rattle.std.proofs.Common.{◌<◌, ◌^◌, ℕ, List, [], ◌∷◌, length, Option, None, Some, subst, sym}
use Rattle.std.specs.List.{All, AllByRecursion}
use Rattle.std.proofs.lemmas.List.Elements.{All-append, All-from_recursion}
use Rattle.qm_history.specs.Common.{AllOf, IsList, Record, Body, Request, System, after_record, image_of, AreNext, CanStandBehind, IsAccepted, IsNext}
use Rattle.qm_kinds.specs.declared.record.Body.TheVariants as body
use Rattle.qm_kinds.specs.declared.request.Request.TheVariants as ask
use Rattle.qm_record.specs.Spelling.{AreListsShort, BodyFits, CanBeWritten, HasSpelling, IsShortBody, RequestFits}

few : {A : Type 0} (Fits : A → Type 0) (o : Option (List A)) → AllOf (IsList Fits) o → AllOf (λ (xs : List A). length xs < 2 ^ 16) o
few Fits None h = tt
few Fits (Some xs) h = h.few

request_short : (q : Request) → RequestFits q → AreListsShort q
request_short (ask.Append file bytes) h = h.1.few
request_short (ask.InitializeQueue new) h = record { targets = h.targets_fit.few; change = few _ new.change.characteristics h.change_fits.characteristics_fit }
request_short (ask.SetQueue name change) h = few _ change.characteristics h.1.characteristics_fit
request_short (ask.StartQueue name change) h = few _ change.characteristics h.1.characteristics_fit
request_short (ask.Submit job) h = h.characteristics_fit.few
request_short (ask.SetEntry entry change) h = few _ change.characteristics h.1.characteristics_fit
request_short (ask.NodeLost nodes) h = h.few
request_short (ask.Took epoch gone up may) h = (h.1.few, h.2.few, h.3.few)
request_short _ h = tt

body_short : (b : Body) → BodyFits b → IsShortBody b
body_short (body.Ask asked) h = record { short = request_short asked h }
body_short (body.Head nodes may next_entry next_run last) h = (h.0.few, h.1.few)
body_short (body.Form f) h = tt
body_short (body.Queue q) h = h.targets_fit.few
body_short (body.Characteristic c) h = absurd h
body_short (body.File f) h = absurd h
body_short (body.Entry e) h = absurd h

pub can_be_written : (r : Record) → HasSpelling r → CanBeWritten r
can_be_written r h = record { short = body_short r.body h.body_fits; row_moment = h.row_moment; row_node = h.row_node }

-- a request without a spelling has a list that is too long
pub spelled_is_short : (asked : Request) (moment node : ℕ) → HasSpelling (record { moment = moment; node = node; body = body.Ask asked }) → AreListsShort asked
spelled_is_short asked moment node h = request_short asked h.body_fits

-- ---- the records of a log

body_spelled : (s : System) (moment node : ℕ) (b : Body) → CanStandBehind s moment node b → HasSpelling (record { moment = moment; node = node; body = b })
body_spelled s moment node (body.Ask asked) can = can.spelled
body_spelled s moment node (body.Head nodes may next_entry next_run last) can = absurd can
body_spelled s moment node (body.Form f) can = absurd can
body_spelled s moment node (body.Characteristic c) can = absurd can
body_spelled s moment node (body.File f) can = absurd can
body_spelled s moment node (body.Queue q) can = absurd can
body_spelled s moment node (body.Entry e) can = absurd can

pub next_spelled : (s : System) (r : Record) → IsNext s r → HasSpelling r
next_spelled s r can = body_spelled s r.moment r.node r.body can

all_next_spelled : (s : System) (records : List Record) → AreNext s records → AllByRecursion HasSpelling records
all_next_spelled s [] next = tt
all_next_spelled s (r ∷ records) next = (next_spelled s r next.0, all_next_spelled (after_record s r) records next.1)

pub log_spelled : (log : List Record) → IsAccepted log → All HasSpelling log
log_spelled log h =
    subst (λ (rs : List Record). All HasSpelling rs) (sym h.whole)
    (All-append HasSpelling (image_of h.image) h.requests (All-from_recursion HasSpelling (image_of h.image) h.spelled)
    (All-from_recursion HasSpelling h.requests (all_next_spelled h.image h.requests h.next)))
