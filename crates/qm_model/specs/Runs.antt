-- A symbiont reports a checkpoint or the end of a run.
-- OpenVMS System Services Reference Manual, $SNDJBC, on checkpoint data and completion status of a job.
-- This site's own: the numbers of runs.
use Rattle.std.specs.Prelude.{ℕ, ◌&&◌, is_none, List, find, Option, None, Some}
use Rattle.std.specs.Option.{option_map_or}
use Rattle.qm_kinds.specs.declared.entry.Entry.{Entry}
use Rattle.qm_kinds.specs.declared.queue.Queue.{Queue}
use Rattle.qm_kinds.specs.declared.refusal.Refusal.{Refusal}
use Rattle.qm_kinds.specs.declared.refusal.Refusal.TheVariants.{StaleRun}
use Rattle.qm_kinds.specs.declared.reply.Act.{Act}
use Rattle.qm_kinds.specs.declared.reply.Act.TheVariants.{Marked}
use Rattle.qm_kinds.specs.declared.system.System.{System}
use Rattle.qm_kinds.specs.declared.entry.Fate.{Fate}
use Rattle.qm_model.specs.Outcome.{Accepted, refused_where}
use Rattle.qm_model.specs.Standing.{has_run, is_run_on, with_entry}
use Rattle.qm_model.specs.Ending.{ended, fated, end_act, fate_act}
use Rattle.qm_model.specs.Replying.{replied}
use Rattle.qm_model.specs.JobStates.{fate_of}

-- what a symbiont reports of a run
pub data RunReport : Type 0 where
  MarkReport : List ℕ → RunReport
  EndReport : ℕ → RunReport

-- the entry that has the run, on the node that reports it
abbrev pub entry_of_run : System → List ℕ → ℕ → Option Entry
entry_of_run s node run = find (λ e. has_run run e && is_run_on node e) s.entries

-- no entry on the node has the run
abbrev pub report_refusal : System → List ℕ → ℕ → Option Refusal
report_refusal s node run = refused_where (is_none (entry_of_run s node run)) (StaleRun s.next_run)

-- What becomes of the entry: the mark is kept, or the run ends. A run that is aborting ends at its first report, whatever
-- that says, as its fate has it.
abbrev pub after_report : List Queue → ℕ → RunReport → Option Fate → Entry → Option Entry
after_report queues now (MarkReport value) None e = Some (record e { mark = value })
after_report queues now (EndReport status) None e = ended queues now status e
after_report queues now report (Some fate) e = fated queues now fate e

-- what is replied
abbrev pub report_act : ℕ → RunReport → Option Fate → Option Entry → Act
report_act run (MarkReport value) None left = Marked run value
report_act run (EndReport status) None left = end_act run status left
report_act run report (Some fate) left = fate_act run fate left

-- what becomes of the entry takes its place
abbrev pub reported_of : System → ℕ → ℕ → RunReport → Entry → Accepted
reported_of s now run report e =
    let left = after_report s.queues now report (fate_of e.state) e in
    replied (record s { entries = with_entry e.number (λ x. left) s.entries }) (report_act run report (fate_of e.state) left)

-- an entry that has just gone, since its time was up, stays away
abbrev pub run_reported : System → ℕ → List ℕ → ℕ → RunReport → Accepted
run_reported s now node run report =
    option_map_or (reported_of s now run report) (entry_of_run s node run) (replied s (report_act run report None None))
