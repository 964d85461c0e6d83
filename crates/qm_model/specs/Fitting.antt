-- Which jobs an execution queue can start, and of a job that it can't start, why not.
-- OpenVMS System Manager's Manual, Setting Up and Maintaining Queues, on generic queues, characteristics, forms and their stock, and job sizes.
-- This site's own: that a generic queue has the same states and passes jobs on only while it is started.
use Rattle.std.specs.Prelude.{ℕ, ◌==◌, nat_le, Bool, true, false, not, ◌&&◌, ◌||◌, if◌then◌else◌, List, [], ◌∷◌, Option, None, Some, bit_and, bytes_eq}
use Rattle.std.specs.List.{list_any}
use Rattle.std.specs.Option.{option_map, option_map_or, option_and_then}
use Rattle.qm_kinds.specs.declared.form.Form.{Form}
use Rattle.qm_kinds.specs.declared.queue.Queue.{Queue}
use Rattle.qm_kinds.specs.declared.queue.QueueState.{QueueState}
use Rattle.qm_kinds.specs.declared.queue.QueueState.TheVariants.{Stopped, Started, Paused, Stopping}
use Rattle.qm_kinds.specs.declared.entry.Entry.{Entry}
use Rattle.qm_kinds.specs.declared.request.NameOrNumber.TheVariants.{Name}
use Rattle.qm_kinds.specs.declared.system.Node.{Node}
use Rattle.qm_kinds.specs.declared.system.System.{System}
use Rattle.qm_model.specs.Find.{form_wanted, queue_named}
use Rattle.qm_model.specs.Kinds.{is_generic, job_kind, is_print, is_same_kind}
use Rattle.qm_model.specs.JobStates.{is_pending}

-- why a queue can't start a job
pub data Misfit : Type 0 where
  NotPending : Misfit
  OtherKind : Misfit
  NotStarted : Misfit
  NotPassedOn : Misfit
  LacksCharacteristics : Misfit
  OtherStock : Misfit
  OutsideSizes : Misfit

-- the queue starts jobs
abbrev pub is_started : QueueState → Bool
is_started Stopped = false
is_started Started = true
is_started Paused = false
is_started Stopping = false

-- an execution queue for jobs of the entry's kind
abbrev pub is_of_kind : Entry → Queue → Bool
is_of_kind e q = not (is_generic q.kind) && is_same_kind e.kind (job_kind q.kind)

-- the node is there and up
abbrev pub is_up : List Node → Option (List ℕ) → Bool
is_up nodes None = false
is_up nodes (Some name) = list_any (λ n. bytes_eq n.name name && n.up) nodes

-- the queue is started, and its node is up
abbrev pub is_open : System → Queue → Bool
is_open s q = is_started q.state && is_up s.nodes q.node

-- a generic queue that is started passes its jobs on to the queues that it names
abbrev pub passes_on_to : List ℕ → Queue → Bool
passes_on_to name generic = is_generic generic.kind && is_started generic.state && list_any (λ target. bytes_eq target name) generic.targets

-- the job's home is this queue, or a generic queue that passes it on
abbrev pub is_reached : System → Entry → Queue → Bool
is_reached s e q = bytes_eq e.home q.name || option_map_or (passes_on_to q.name) (queue_named e.home s.queues) false

-- the queue has each characteristic that the job asks for
abbrev pub has_characteristics : Entry → Queue → Bool
has_characteristics e q = bit_and e.characteristics.0 q.characteristics.0 == e.characteristics.0

-- the stock of a form
abbrev pub stock_of : List Form → Option (List ℕ) → Option (List ℕ)
stock_of forms form = option_and_then (λ name. option_map (λ f. f.stock) (form_wanted (Name name) forms)) form

-- both stocks are there and the same
abbrev pub is_same_stock : Option (List ℕ) → Option (List ℕ) → Bool
is_same_stock None b = false
is_same_stock (Some a) None = false
is_same_stock (Some a) (Some b) = bytes_eq a b

-- a print job's form is of the stock of the form that is mounted
abbrev pub has_stock : System → Entry → Queue → Bool
has_stock s e q = not (is_print e.kind) || is_same_stock (stock_of s.forms e.form) (stock_of s.forms q.mounted)

-- a print job's size lies within the queue's limits, both ends included
abbrev pub has_size : Entry → Queue → Bool
has_size e q = not (is_print e.kind) || (nat_le q.lower e.size && nat_le e.size q.upper)

-- the queue can start the job as soon as it has a place
abbrev pub fits : System → Entry → Queue → Bool
fits s e q =
    is_pending e.state && is_of_kind e q && is_open s q && is_reached s e q && has_characteristics e q && has_stock s e q && has_size e q

-- the first of the reasons, each of which goes with a test that fails
abbrev pub first_misfit : List (Bool × Misfit) → Option Misfit
first_misfit [] = None
first_misfit (reason ∷ others) = if reason.0 then first_misfit others else Some reason.1

-- the first reason why the queue can't start the job
abbrev pub misfit_of : System → Entry → Queue → Option Misfit
misfit_of s e q = first_misfit
    ((is_pending e.state, NotPending)
    ∷ (is_of_kind e q, OtherKind)
    ∷ (is_open s q, NotStarted)
    ∷ (is_reached s e q, NotPassedOn)
    ∷ (has_characteristics e q, LacksCharacteristics)
    ∷ (has_stock s e q, OtherStock)
    ∷ (has_size e q, OutsideSizes)
    ∷ [])
