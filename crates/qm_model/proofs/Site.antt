-- Requests at a site, one after the other, and what comes of them.
use Rattle.std.proofs.Common.{ℕ, Bool, true, false, List, [], ◌∷◌, map, Option, None, Some, codes, Result, Ok, Err, flat_map}
use Rattle.qm_model.specs.Common.{FileName, Entry, EntryState, JobRetain, Default, QueueChange, Refusal, Act, Job, Request, InitializeQueue, Submit, Start, System, Accepted, applied}
use Rattle.qm_kinds.specs.declared.entry.JobKind.TheVariants as job
use Rattle.qm_kinds.specs.declared.queue.QueueKind.TheVariants as queue

-- a request of a node, at a moment
pub record Ask : Type 0 where
  pub now : ℕ
  pub node : ℕ
  pub request : Request

-- what was done, and the entries that were started
pub record Told : Type 0 where
  pub act : Act
  pub started : List ℕ

abbrev pub told : Result Accepted Refusal → Result Told Refusal
told (Ok a) = Ok (record { act = a.reply.act; started = map (λ (s : Start). s.entry) a.reply.started })
told (Err refusal) = Err refusal

abbrev pub system_after : System → Result Accepted Refusal → System
system_after s (Ok a) = a.system
system_after s (Err refusal) = s

abbrev pub after : System → List Ask → System
after s [] = s
after s (a ∷ asks) = after (system_after s (applied s a.now a.node a.request)) asks

-- what is told of each request
abbrev pub answers : System → List Ask → List (Result Told Refusal)
answers s [] = []
answers s (a ∷ asks) =
    let outcome = applied s a.now a.node a.request in
    told outcome ∷ answers (system_after s outcome) asks

abbrev pub started_in : Result Told Refusal → List ℕ
started_in (Ok t) = t.started
started_in (Err refusal) = []

-- the entries that are started, in order
abbrev pub starts : System → List Ask → List ℕ
starts s asks = flat_map started_in (answers s asks)

abbrev pub states : System → List EntryState
states s = map (λ (e : Entry). e.state) s.entries

-- the first node asks at the base of the system time
abbrev pub first_asks : List Request → List Ask
first_asks requests = map (λ (r : Request). let a : Ask = record { now = 0; node = 0; request = r } in a) requests

abbrev pub file : List ℕ → List ℕ → FileName
file name extension = record { name = name; extension = Some extension }

abbrev pub listing_file : List ℕ → FileName
listing_file name = file name (codes "LIS")

abbrev pub no_change : QueueChange
no_change = record { limit = None; characteristics = None; form = None; blocks = None; by_size = None; retain = None }

-- a print queue on the calling node, started or not
abbrev pub print_queue : List ℕ → Bool → QueueChange → Request
print_queue name start change = InitializeQueue (record { name = name; kind = queue.Print; node = None; device = None; targets = []; change = change; start = start })

abbrev pub print_queue_on : List ℕ → List ℕ → Request
print_queue_on node name = InitializeQueue (record { name = name; kind = queue.Print; node = Some node; device = None; targets = []; change = no_change; start = true })

abbrev pub generic_queue : List ℕ → List (List ℕ) → Request
generic_queue name targets = InitializeQueue (record { name = name; kind = queue.GenericPrint; node = None; device = None; targets = targets; change = no_change; start = true })

-- jobs with the settings that a job has by default
abbrev pub a_print_job : List ℕ → List ℕ → Job
a_print_job queue name = record {
  user = codes "SYSTEM";
  kind = job.Print;
  queue = queue;
  file = listing_file name;
  name = name;
  priority = 100;
  after = None;
  hold = false;
  retain = Default;
  restart = true;
  characteristics = [];
  form = None;
  copies = 1;
  flag = false;
}

abbrev pub a_batch_job : List ℕ → List ℕ → Job
a_batch_job queue name = record (a_print_job queue name) { kind = job.Batch; file = file name (codes "COM"); restart = false }

abbrev pub print_job : List ℕ → List ℕ → Request
print_job queue name = Submit (a_print_job queue name)

abbrev pub batch_job : List ℕ → List ℕ → Option ℕ → JobRetain → Request
batch_job queue name after retain = Submit (record (a_batch_job queue name) { after = after; retain = retain })
