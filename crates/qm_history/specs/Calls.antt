-- What a call asks for, and why its turn is made.
-- OpenVMS System Services Reference Manual, $SNDJBC, on what symbionts and users ask for. This site's own: that a node leaves.
use Rattle.std.specs.Prelude.{ℕ, Bool, true, false}
use Rattle.qm_model.specs.Common.{Input, Request, Report}
use Rattle.qm_kinds.specs.declared.input.Input.TheVariants as input
use Rattle.qm_kinds.specs.declared.request.Request.TheVariants as request
use Rattle.qm_kinds.specs.declared.work.Report.TheVariants as report
use Rattle.qm_history.specs.declared.call.Call.{Call}
use Rattle.qm_history.specs.declared.call.Call.TheVariants as call
use Rattle.qm_history.specs.declared.turn.Why.{Why}
use Rattle.qm_history.specs.declared.turn.Why.TheVariants as why

-- the request that a report makes
abbrev pub request_of_report : ℕ → Report → Request
request_of_report run (report.Mark value next) = request.Mark run value
request_of_report run (report.Done status) = request.Done run status

-- what a call asks for; a node that leaves stops
abbrev pub input_of : Call → Input
input_of (call.Line line asked) = asked
input_of (call.Fetch known) = input.Fetch known
input_of (call.Report run told) = input.Ask (request_of_report run told)
input_of call.Leave = input.StopNode

-- why a call's turn is made
abbrev pub why_of : Call → Why
why_of (call.Line line asked) = why.Line line
why_of (call.Fetch known) = why.Fetch
why_of (call.Report run told) = why.Report
why_of call.Leave = why.Leave

-- users and symbionts ask for it; what the queue manager writes down of nodes and of itself is no request of theirs
abbrev pub IsForUsers : Request → Type 0
IsForUsers request.NodeUp = ⊥
IsForUsers (request.NodeLost nodes) = ⊥
IsForUsers (request.Took epoch gone up may) = ⊥
IsForUsers asked = Unit {0}

-- the input asks for nothing that is the queue manager's own
abbrev pub IsFromOutside : Input → Type 0
IsFromOutside (input.Ask asked) = IsForUsers asked
IsFromOutside asked = Unit {0}

-- the node comes up
abbrev pub is_start : Input → Bool
is_start input.StartNode = true
is_start asked = false
