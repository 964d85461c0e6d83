-- What the laws say of the jobs that are started, and of those that aren't.
-- OpenVMS System Manager's Manual, Setting Up and Maintaining Queues, on how the queue manager starts jobs in execution queues.
use Rattle.std.specs.Prelude.{◌≡◌, true, false, ℕ, List, ◌∷◌, ◌++◌, Some, All, Contains}
use Rattle.qm_kinds.specs.declared.entry.Entry.{Entry}
use Rattle.qm_kinds.specs.declared.entry.EntryState.TheVariants.{Pending, Running}
use Rattle.qm_kinds.specs.declared.queue.Queue.{Queue}
use Rattle.qm_kinds.specs.declared.run.Start.{Start}
use Rattle.qm_kinds.specs.declared.system.System.{System}
use Rattle.qm_model.specs.Consistent.{IsInOrder}
use Rattle.qm_model.specs.Find.{name_cmp}
use Rattle.qm_model.specs.Fitting.{fits}
use Rattle.qm_model.specs.Free.{is_free}

-- the queue has no place, or no job fits it
abbrev pub HasNoneToStart : System → Queue → Type 0
HasNoneToStart s q = is_free s q ≡ true → All (λ e. fits s e q ≡ false) s.entries

-- the queue stands in the list, and none that stands before it has a job to start
pub record IsFirstToStart (s : System) (q : Queue) : Type 0 where
  pub earlier : List Queue
  pub later : List Queue
  pub place : s.queues ≡ earlier ++ q ∷ later
  pub none : All (HasNoneToStart s) earlier

-- the job as it would be if it were pending
abbrev pub as_pending : Entry → Entry
as_pending e = record e { state = Pending }

-- a start that leads from one system to another: the job was pending, and is the same afterwards but that it runs, in the
-- queue of the start, on that queue's node, under the run of the start
pub record WasStarted (old new : System) (start : Start) : Type 0 where
  pub entry : Entry
  pub queue : Queue
  pub node : List ℕ
  pub was_there : Contains old.entries entry
  pub was_pending : entry.state ≡ Pending
  pub number : entry.number ≡ start.entry
  pub name : entry.name ≡ start.name
  pub home : entry.home ≡ start.home
  pub queue_there : Contains new.queues queue
  pub queue_name : queue.name ≡ start.queue
  pub queue_node : queue.node ≡ Some node
  pub runs : Contains new.entries (record entry { state = Running start.queue node start.run })

-- the queues stand by name
abbrev pub StandByName : List Queue → Type 0
StandByName queues = IsInOrder name_cmp (λ q. q.name) queues
