-- What a call leaves of the listings that its node has begun, by what it was answered.
-- OpenVMS System Services Reference Manual, $GETQUI, on the calls that go on with a wildcard search.
-- This site's own: that a node which stops ends its listings.
use Rattle.std.specs.Prelude.{Bool, false}
use Rattle.qm_history.specs.Common.{Input, Query}
use Rattle.qm_kinds.specs.declared.input.Input.TheVariants as input
use Rattle.qm_history.specs.declared.call.Answer.{Answer}
use Rattle.qm_history.specs.declared.call.Answer.TheVariants as answer
use Rattle.qm_history.specs.declared.call.Call.{Call}
use Rattle.qm_history.specs.declared.call.Call.TheVariants as call
use Rattle.qm_history.specs.Scans.{Scans, behind_view, no_scans, unless_listed}
use Rattle.qm_scans.specs.declared.step.ScanStep.{ScanStep}
use Rattle.qm_scans.specs.declared.step.ScanStep.TheVariants.{Lists, Stops, Stays}

-- what an input is to the listings of the node that asks for it
abbrev pub step_of_input : Input → ScanStep
step_of_input (input.Show q) = Lists q
step_of_input input.StopNode = Stops
step_of_input (input.Ask asked) = Stays
step_of_input (input.Fetch known) = Stays
step_of_input input.Compact = Stays
step_of_input input.StartNode = Stays
step_of_input (input.TakeManager on) = Stays
step_of_input (input.Fault place kind) = Stays

-- and what a call is; a node that leaves asks for nothing more
abbrev pub step_of : Call → ScanStep
step_of (call.Line line asked) = step_of_input asked
step_of (call.Fetch known) = Stays
step_of (call.Report run told) = Stays
step_of call.Leave = Stays

-- one row is asked for, by an item list
abbrev pub is_single : ScanStep → Bool
is_single (Lists q) = q.single
is_single Stops = false
is_single Stays = false

-- what a query leaves that was answered so
abbrev pub behind_query : Scans → Query → Answer → Scans
behind_query s q (answer.Shown took moment rows) = behind_view s q q.single rows
behind_query s q (answer.Refused took refusal) = unless_listed s q q.single refusal
behind_query s q (answer.Done took moment reply) = s
behind_query s q (answer.Duties took moment duties) = s
behind_query s q (answer.Full took need cap) = s
behind_query s q (answer.Journal took live) = s
behind_query s q (answer.Fenced held current) = s
behind_query s q (answer.NoManager took name) = s
behind_query s q (answer.Damaged file place) = s
behind_query s q answer.HistoryFull = s
behind_query s q (answer.NoMemory took) = s

-- what a stop leaves: nothing, where the node has stopped, whether the record of its loss is in doubt or not
abbrev pub behind_stop : Scans → Answer → Scans
behind_stop s (answer.Done took moment reply) = no_scans
behind_stop s (answer.Journal took live) = no_scans
behind_stop s (answer.Shown took moment rows) = s
behind_stop s (answer.Duties took moment duties) = s
behind_stop s (answer.Refused took refusal) = s
behind_stop s (answer.Full took need cap) = s
behind_stop s (answer.Fenced held current) = s
behind_stop s (answer.NoManager took name) = s
behind_stop s (answer.Damaged file place) = s
behind_stop s answer.HistoryFull = s
behind_stop s (answer.NoMemory took) = s

-- The listings behind a call that was answered so.
abbrev pub behind_answer : Scans → ScanStep → Answer → Scans
behind_answer s (Lists q) a = behind_query s q a
behind_answer s Stops a = behind_stop s a
behind_answer s Stays a = s
