-- What becomes of jobs whose runs end, are cut short or are lost with their node.
use Rattle.std.proofs.Common.{◌≡◌, ℕ, ◌-◌, Bool, true, false, List, [], ◌∷◌, ◌++◌, map, refl, None, Some, codes, Ok, Err}
use Rattle.qm_model.specs.Common.{Entry, EntryState, JobRetain, QueueRetain, Stopped, Started, Stopping, Request, System, first_system, is_retained}
use Rattle.qm_kinds.specs.declared.entry.EntryState.TheVariants as state
use Rattle.qm_kinds.specs.declared.entry.Fate.TheVariants as fate
use Rattle.qm_kinds.specs.declared.entry.JobRetain.TheVariants as retain
use Rattle.qm_kinds.specs.declared.queue.QueueRetain.TheVariants.{Nothing, Failed, All}
use Rattle.qm_kinds.specs.declared.refusal.Refusal.TheVariants as refused
use Rattle.qm_kinds.specs.declared.reply.Act.TheVariants as act
use Rattle.qm_kinds.specs.declared.request.StopMode.TheVariants as stop
use Rattle.qm_kinds.specs.declared.request.Request.TheVariants.{Append, Fill, StartQueue, StopQueue, DeleteEntry, Submit, Mark, Done, Tick, Took}
use Rattle.qm_model.proofs.Site.{Ask, answers, after, starts, states, first_asks, file, listing_file, no_change, print_queue, print_queue_on, generic_queue, print_job, batch_job, a_print_job}

-- what a queue with a setting does with a job whose setting is given, after a success and after a failure
abbrev row_of : JobRetain → QueueRetain → Bool × Bool
row_of job queue = (is_retained job queue true 100, is_retained job queue false 100)

pub always_kept : (queue : QueueRetain) → row_of retain.Always queue ≡ (true, true)
always_kept queue = refl

pub kept_if_failed : (queue : QueueRetain) → row_of retain.Failed queue ≡ (false, true)
kept_if_failed queue = refl

pub kept_until_later : (queue : QueueRetain) → row_of (retain.Until 101) queue ≡ (true, true)
kept_until_later queue = refl

pub not_kept_until_now : (queue : QueueRetain) → row_of (retain.Until 100) queue ≡ (false, false)
not_kept_until_now queue = refl

pub kept_by_queue : row_of retain.Default All ≡ (true, true)
kept_by_queue = refl

pub kept_by_queue_if_failed : row_of retain.Default Failed ≡ (false, true)
kept_by_queue_if_failed = refl

pub not_kept : row_of retain.Default Nothing ≡ (false, false)
not_kept = refl

-- 1-JAN-2030 13:00
abbrev one : ℕ
one = 540021960000

abbrev asked_at : ℕ → Request → Ask
asked_at now request = record { now = now; node = 0; request = request }

abbrev until_one : List Ask
until_one =
    (asked_at 540021240000 (Append (file (codes "J") (codes "COM")) (codes "$ EXIT 1" ++ 10 ∷ []))
    ∷ asked_at 540021240000 (StartQueue (codes "SYS$BATCH") (record { limit = None; characteristics = None; form = None; blocks = None; by_size = None; retain = Some Failed }))
    ∷ asked_at 540021240000 (batch_job (codes "SYS$BATCH") (codes "J") None retain.Default)
    ∷ asked_at 540021240000 (Done 1 1)
    ∷ asked_at 540021240000 (batch_job (codes "SYS$BATCH") (codes "J") None retain.Default)
    ∷ asked_at 540021240000 (Done 2 2)
    ∷ asked_at 540021240000 (batch_job (codes "SYS$BATCH") (codes "J") None retain.Always)
    ∷ asked_at 540021240000 (Done 3 1)
    ∷ asked_at 540021240000 (batch_job (codes "SYS$BATCH") (codes "J") None (retain.Until one))
    ∷ asked_at 540021240000 (Done 4 1)
    ∷ [])

-- in a queue that keeps jobs that failed: a success goes, a failure stays, and so do a job that is always kept and one until its moment
pub ends_in_a_queue : states (after (first_system (codes "A")) (until_one ++ asked_at (one - 1) Tick ∷ []))
    ≡ state.Retained 2 None ∷ state.Retained 1 None ∷ state.Retained 1 (Some one) ∷ []
ends_in_a_queue = refl

pub kept_until_its_moment : states (after (first_system (codes "A")) (until_one ++ asked_at (one - 1) Tick ∷ asked_at one Tick ∷ []))
    ≡ state.Retained 2 None ∷ state.Retained 1 None ∷ []
kept_until_its_moment = refl

-- a deleted job that runs keeps its place until its run is reported, and a report after that is stale
pub deleted_job_keeps_its_place : answers (first_system (codes "A")) (first_asks
    (Fill (listing_file (codes "F")) 1
    ∷ print_queue (codes "LP") true no_change
    ∷ print_job (codes "LP") (codes "F")
    ∷ print_job (codes "LP") (codes "F")
    ∷ DeleteEntry 1
    ∷ Done 1 1
    ∷ Done 1 1
    ∷ []))
    ≡ (Ok (record { act = act.Filed (listing_file (codes "F")) 64; started = [] })
    ∷ Ok (record { act = act.QueueIs (codes "LP") Started; started = [] })
    ∷ Ok (record { act = act.Submitted (codes "F") (codes "LP") 1 state.Pending; started = 1 ∷ [] })
    ∷ Ok (record { act = act.Submitted (codes "F") (codes "LP") 2 state.Pending; started = [] })
    ∷ Ok (record { act = act.EntryAborting 1; started = [] })
    ∷ Ok (record { act = act.RunRemoved 1; started = 2 ∷ [] })
    ∷ Err (refused.StaleRun 3)
    ∷ [])
deleted_job_keeps_its_place = refl

-- a site of two nodes
abbrev pub two_nodes : System
two_nodes = record (first_system (codes "A")) {
  nodes = record { name = codes "A"; up = true } ∷ record { name = codes "B"; up = true } ∷ [];
  may = codes "A" ∷ codes "B" ∷ [];
}

-- jobs run on A: one that may restart, in a generic queue with a target on each node, one that may not, and one that is deleted
abbrev jobs_on_A : List Ask
jobs_on_A = first_asks
    (Fill (listing_file (codes "F")) 1
    ∷ print_queue_on (codes "A") (codes "LPA")
    ∷ print_queue_on (codes "B") (codes "LPB")
    ∷ generic_queue (codes "GP") (codes "LPA" ∷ codes "LPB" ∷ [])
    ∷ print_queue_on (codes "A") (codes "LPC")
    ∷ print_queue_on (codes "A") (codes "LPD")
    ∷ print_job (codes "GP") (codes "F")
    ∷ Submit (record (a_print_job (codes "LPC") (codes "F")) { retain = retain.Failed; restart = false })
    ∷ print_job (codes "LPD") (codes "F")
    ∷ Mark 1 (codes "3")
    ∷ DeleteEntry 3
    ∷ [])

abbrev pub B_takes_over : Ask
B_takes_over = record { now = 0; node = 1; request = Took 2 (codes "A" ∷ []) (codes "B" ∷ []) (codes "A" ∷ codes "B" ∷ []) }

-- when A is lost, the first goes on at B, the second ends, and the third is gone
pub lost_node : states (after two_nodes (jobs_on_A ++ B_takes_over ∷ []))
    ≡ state.Running (codes "LPB") (codes "B") 4 ∷ state.Retained 1020 None ∷ []
lost_node = refl

pub lost_node_starts : starts two_nodes (jobs_on_A ++ B_takes_over ∷ []) ≡ 1 ∷ 2 ∷ 3 ∷ 1 ∷ []
lost_node_starts = refl

-- what STOP/QUEUE/NEXT replies where a job runs, and where none does
pub next_waits_for_the_run : answers (after (first_system (codes "A")) (first_asks
    (Fill (listing_file (codes "F")) 1
    ∷ print_queue (codes "LP") true no_change
    ∷ print_job (codes "LP") (codes "F")
    ∷ [])))
    (first_asks (StopQueue (codes "LP") stop.Next ∷ Done 1 1 ∷ StopQueue (codes "SYS$BATCH") stop.Next ∷ StartQueue (codes "SYS$BATCH") no_change ∷ StopQueue (codes "SYS$BATCH") stop.Next ∷ []))
    ≡ (Ok (record { act = act.QueueIs (codes "LP") Stopping; started = [] })
    ∷ Ok (record { act = act.RunCompleted 1 1; started = [] })
    ∷ Ok (record { act = act.QueueIs (codes "SYS$BATCH") Stopped; started = [] })
    ∷ Ok (record { act = act.QueueIs (codes "SYS$BATCH") Started; started = [] })
    ∷ Ok (record { act = act.QueueIs (codes "SYS$BATCH") Stopped; started = [] })
    ∷ [])
next_waits_for_the_run = refl

-- a job that is to be put back keeps its place until its run is reported
pub reset_keeps_the_place : states (after (first_system (codes "A")) (first_asks
    (Fill (listing_file (codes "F")) 1
    ∷ print_queue (codes "LP") true no_change
    ∷ print_job (codes "LP") (codes "F")
    ∷ StopQueue (codes "LP") stop.Reset
    ∷ [])))
    ≡ state.Aborting (codes "LP") (codes "A") 1 fate.Requeue ∷ []
reset_keeps_the_place = refl

-- the state of an entry, its mark, and whether it runs again
abbrev how_far : Entry → EntryState × List ℕ × Bool
how_far e = (e.state, e.mark, e.again)

-- a job that is put back keeps its mark, and is known to run again
pub reset_puts_back : map how_far (after (first_system (codes "A")) (first_asks
    (Fill (listing_file (codes "F")) 1
    ∷ print_queue (codes "LP") true no_change
    ∷ print_job (codes "LP") (codes "F")
    ∷ Mark 1 (codes "2")
    ∷ StopQueue (codes "LP") stop.Reset
    ∷ Done 1 1
    ∷ []))).entries ≡ (state.Pending, codes "2", true) ∷ []
reset_puts_back = refl
