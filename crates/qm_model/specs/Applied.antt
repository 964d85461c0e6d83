-- What each request does to a system, and why it is refused.
-- OpenVMS System Services Reference Manual, $SNDJBC, on its function codes.
use Rattle.std.specs.Prelude.{ℕ, nat_le, Bool, true, false, ◌&&◌, if◌then◌else◌, List, Option, None, Some, Result}
use Rattle.qm_kinds.specs.declared.limits.TheConstants.{RUNS_LIMIT}
use Rattle.qm_kinds.specs.declared.refusal.Refusal.{Refusal}
use Rattle.qm_kinds.specs.declared.refusal.Refusal.TheVariants.{NumbersSpent}
use Rattle.qm_kinds.specs.declared.request.Request.{Request}
use Rattle.qm_kinds.specs.declared.system.System.{System}
use Rattle.qm_kinds.specs.declared.request.Request.TheVariants as request
use Rattle.qm_model.specs.Outcome.{Accepted, unless_refused}
use Rattle.qm_model.specs.Appending.{append_refusal, appended}
use Rattle.qm_model.specs.Submitting.{submit_refusal, submitted}
use Rattle.qm_model.specs.Standing.{node_at}
use Rattle.qm_model.specs.Due.{due}
use Rattle.qm_model.specs.States.{stopped_when_idle}
use Rattle.qm_model.specs.Settling.{settled}
use Rattle.qm_model.specs.Filing.{fill_refusal, filled, drop_refusal, dropped}
use Rattle.qm_model.specs.Forms.{define_form_refusal, form_defined, delete_form_refusal, form_deleted}
use Rattle.qm_model.specs.Characteristics.{define_characteristic_refusal, characteristic_defined, delete_characteristic_refusal, characteristic_deleted}
use Rattle.qm_model.specs.Queues.{initialize_refusal, initialized, set_queue_refusal, queue_set, queue_started, delete_queue_refusal, queue_deleted}
use Rattle.qm_model.specs.Stopping.{stop_refusal, queue_stopped, abort_refusal, job_aborted}
use Rattle.qm_model.specs.Merging.{merge_refusal, merged}
use Rattle.qm_model.specs.Entries.{set_entry_refusal, entry_set, delete_entry_refusal, entry_deleted}
use Rattle.qm_model.specs.Runs.{MarkReport, EndReport, report_refusal, run_reported}
use Rattle.qm_model.specs.Nodes.{ticked, node_up, nodes_lost, taken_over}

-- the first refusal of a request that holds of the system before it, but for spent numbers of runs
abbrev pub refusal_of : System → List ℕ → Request → Option Refusal
refusal_of s node (request.Append file bytes) = append_refusal s file bytes
refusal_of s node (request.Fill file lines) = fill_refusal s file lines
refusal_of s node (request.Drop file) = drop_refusal s file
refusal_of s node (request.DefineForm form) = define_form_refusal s form
refusal_of s node (request.DeleteForm name) = delete_form_refusal s name
refusal_of s node (request.DefineCharacteristic characteristic) = define_characteristic_refusal s characteristic
refusal_of s node (request.DeleteCharacteristic name) = delete_characteristic_refusal s name
refusal_of s node (request.InitializeQueue new) = initialize_refusal s new
refusal_of s node (request.SetQueue name change) = set_queue_refusal s name change
refusal_of s node (request.StartQueue name change) = set_queue_refusal s name change
refusal_of s node (request.StopQueue name how) = stop_refusal s name
refusal_of s node (request.AbortJob queue entry requeue) = abort_refusal s queue entry requeue
refusal_of s node (request.DeleteQueue name) = delete_queue_refusal s name
refusal_of s node (request.Merge to from) = merge_refusal s to from
refusal_of s node (request.Submit job) = submit_refusal s job
refusal_of s node (request.SetEntry entry change) = set_entry_refusal s entry change
refusal_of s node (request.DeleteEntry entry) = delete_entry_refusal s entry
refusal_of s node (request.Mark run value) = report_refusal s node run
refusal_of s node (request.Done run status) = report_refusal s node run
refusal_of s node request.Tick = None
refusal_of s node request.NodeUp = None
refusal_of s node (request.NodeLost nodes) = None
refusal_of s node (request.Took epoch gone up may) = None

-- the change that a request makes at a moment, for a node, and its reply before any job is started
abbrev pub change_of : System → ℕ → List ℕ → Request → Accepted
change_of s now node (request.Append file bytes) = appended s file bytes
change_of s now node (request.Fill file lines) = filled s file lines
change_of s now node (request.Drop file) = dropped s file
change_of s now node (request.DefineForm form) = form_defined s form
change_of s now node (request.DeleteForm name) = form_deleted s name
change_of s now node (request.DefineCharacteristic characteristic) = characteristic_defined s characteristic
change_of s now node (request.DeleteCharacteristic name) = characteristic_deleted s name
change_of s now node (request.InitializeQueue new) = initialized s node new
change_of s now node (request.SetQueue name change) = queue_set s name change
change_of s now node (request.StartQueue name change) = queue_started s name change
change_of s now node (request.StopQueue name how) = queue_stopped s name how
change_of s now node (request.AbortJob queue entry requeue) = job_aborted s queue entry requeue
change_of s now node (request.DeleteQueue name) = queue_deleted s name
change_of s now node (request.Merge to from) = merged s to from
change_of s now node (request.Submit job) = submitted s now job
change_of s now node (request.SetEntry entry change) = entry_set s now entry change
change_of s now node (request.DeleteEntry entry) = entry_deleted s entry
change_of s now node (request.Mark run value) = run_reported s now node run (MarkReport value)
change_of s now node (request.Done run status) = run_reported s now node run (EndReport status)
change_of s now node request.Tick = ticked s
change_of s now node request.NodeUp = node_up s node
change_of s now node (request.NodeLost nodes) = nodes_lost s now node nodes
change_of s now node (request.Took epoch gone up may) = taken_over s now node epoch gone up may

-- The queue manager makes the last two requests for itself, and needs no run numbers left for them.
abbrev pub asks_for_numbers : Request → Bool
asks_for_numbers (request.NodeLost nodes) = false
asks_for_numbers (request.Took epoch gone up may) = false
asks_for_numbers _ = true

-- the numbers of runs are spent
abbrev pub are_numbers_spent : System → Bool
are_numbers_spent s = nat_le RUNS_LIMIT s.next_run

-- the first refusal of a request, of which spent numbers come first
abbrev pub first_refusal_of : System → List ℕ → Request → Option Refusal
first_refusal_of s node request =
    if asks_for_numbers request && are_numbers_spent s then Some NumbersSpent else refusal_of s node request

-- what is left to do after a change: queues that are stopping and have no run are stopped, and jobs are started
abbrev pub completed : Accepted → Accepted
completed a =
    let after = settled (stopped_when_idle a.system) in
    record { system = after.system; reply = record { act = a.reply.act; started = after.started } }

-- the system as the acting moment finds it, but for what is due
abbrev pub at_moment : ℕ → System → System
at_moment now s = record s { last = now }

-- An accepted request acts on what the moment finds; a refused one changes nothing. The node is named by its place.
abbrev pub applied : System → ℕ → ℕ → Request → Result Accepted Refusal
applied s now node request =
    let name = node_at node s.nodes in
    unless_refused (first_refusal_of s name request) (completed (change_of (due now (at_moment now s)) now name request))
