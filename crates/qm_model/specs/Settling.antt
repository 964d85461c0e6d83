-- The jobs that can start are started.
-- OpenVMS System Manager's Manual, Setting Up and Maintaining Queues, on how the queue manager starts jobs in execution queues.
use Rattle.std.specs.Prelude.{◌≡◌, ℕ, zero, suc, ◌+◌, nat_lt, ◌==◌, Bool, not, ◌&&◌, if◌then◌else◌, List, [], ◌∷◌, length, filter, find, unwrap_or, Option, None, Some, IfSome, IsSome}
use Rattle.std.specs.List.{list_any}
use Rattle.std.specs.Option.{option_map, option_map_or, option_and_then}
use Rattle.qm_kinds.specs.declared.entry.Entry.{Entry}
use Rattle.qm_kinds.specs.declared.entry.EntryState.TheVariants.{Running}
use Rattle.qm_kinds.specs.declared.limits.TheConstants.{END_OF_RUNS}
use Rattle.qm_kinds.specs.declared.queue.Queue.{Queue}
use Rattle.qm_kinds.specs.declared.run.Start.{Start}
use Rattle.qm_kinds.specs.declared.system.System.{System}
use Rattle.qm_model.specs.Standing.{with_entry}
use Rattle.qm_model.specs.Fitting.{fits}
use Rattle.qm_model.specs.Before.{first_of}
use Rattle.qm_model.specs.Free.{is_free}

-- a job, and the queue that starts it
pub record Choice : Type 0 where
  pub entry : Entry
  pub queue : Queue

-- a system, and the jobs that were started on the way to it, in order
pub record Settled : Type 0 where
  pub system : System
  pub started : List Start

-- the queue has a place, and a job fits it
abbrev pub can_start : System → Queue → Bool
can_start s q = is_free s q && list_any (λ e. fits s e q) s.entries

-- the first queue by name that can start a job; queues stand by name
abbrev pub next_queue : System → Option Queue
next_queue s = find (can_start s) s.queues

-- the first job by the queue's order of those that fit it
abbrev pub next_job : System → Queue → Option Entry
next_job s q = first_of q (filter (λ e. fits s e q) s.entries)

-- run numbers are left
abbrev pub has_run_numbers : System → Bool
has_run_numbers s = nat_lt s.next_run END_OF_RUNS

-- what starts next, if anything does
abbrev pub next_choice : System → Option Choice
next_choice s =
    if has_run_numbers s then option_and_then (λ q. option_map (λ e. record { entry = e; queue = q }) (next_job s q)) (next_queue s) else None

-- the job runs, in the queue and on its node, under the next run number
abbrev pub made_running : ℕ → Queue → Entry → Entry
made_running run q e = record e { state = Running q.name (unwrap_or q.node []) run }

-- the system after the start: the job runs, and its run number is taken
abbrev pub after_start : System → Choice → System
after_start s c = record s {
  entries = with_entry c.entry.number (λ e. Some (made_running s.next_run c.queue e)) s.entries;
  next_run = s.next_run + 1;
}

-- what is told of the start
abbrev pub start_of : System → Choice → Start
start_of s c = record { entry = c.entry.number; name = c.entry.name; home = c.entry.home; queue = c.queue.name; run = s.next_run }

-- the same with one more start in front
abbrev pub preceded_by : Start → Settled → Settled
preceded_by start later = record { system = later.system; started = start ∷ later.started }

-- at most so many jobs are started, one after the other
abbrev pub settled_within : ℕ → System → Settled
settled_within zero s = record { system = s; started = [] }
settled_within (suc n) s =
    option_map_or (λ c. preceded_by (start_of s c) (settled_within n (after_start s c))) (next_choice s) (record { system = s; started = [] })

-- the job is among those that were started
abbrev pub is_among_started : List Start → Entry → Bool
is_among_started started e = list_any (λ start. start.entry == e.number) started

-- Jobs are started until none is left that can start. Each start makes one pending entry run, so there are no more starts than entries.
abbrev pub settled : System → Settled
settled s = settled_within (length s.entries) s

-- each of these starts is the next one of the system before it, and they lead from one system to another
abbrev pub AreStarts : System → List Start → System → Type 0
AreStarts s [] end = end ≡ s
AreStarts s (start ∷ later) end =
    IsSome (next_choice s) × IfSome (next_choice s) (λ c. (start ≡ start_of s c) × AreStarts (after_start s c) later end)

-- the entries that no start names
abbrev pub not_started : List Start → List Entry → List Entry
not_started started entries = filter (λ e. not (is_among_started started e)) entries
