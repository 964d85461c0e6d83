-- Whether a node is live behind a call, by what it was answered.
-- OpenVMS System Manager's Manual, Managing the Queue Manager and Queue Database, on nodes that leave a cluster.
-- This site's own: that a node may stop and start, and that it leaves with its last call.
use Rattle.std.specs.Prelude.{Bool, true, false}
use Rattle.qm_kinds.specs.declared.input.Input.{Input}
use Rattle.qm_kinds.specs.declared.input.Input.TheVariants as input
use Rattle.qm_history.specs.declared.call.Answer.{Answer}
use Rattle.qm_history.specs.declared.call.Answer.TheVariants as answer
use Rattle.qm_history.specs.declared.call.Call.{Call}
use Rattle.qm_history.specs.declared.call.Call.TheVariants as call
use Rattle.qm_node.specs.declared.living.Presence.{Presence}
use Rattle.qm_node.specs.declared.living.Presence.TheVariants.{Comes, Stops, Leaves, Stays}

-- what an input does to whether the node that asks for it is live
abbrev pub presence_of_input : Input → Presence
presence_of_input input.StartNode = Comes
presence_of_input input.StopNode = Stops
presence_of_input (input.Ask asked) = Stays
presence_of_input (input.Show query) = Stays
presence_of_input (input.Fetch known) = Stays
presence_of_input input.Compact = Stays
presence_of_input (input.TakeManager on) = Stays
presence_of_input (input.Fault place kind) = Stays

-- and what a call does
abbrev pub presence_of : Call → Presence
presence_of (call.Line line asked) = presence_of_input asked
presence_of (call.Fetch known) = Stays
presence_of (call.Report run told) = Stays
presence_of call.Leave = Leaves

-- what was asked for is done
abbrev pub live_done : Bool → Presence → Bool
live_done live Comes = true
live_done live Stops = false
live_done live Leaves = false
live_done live Stays = live

-- there was no room to record it: a node that leaves is gone all the same
abbrev pub live_full : Bool → Presence → Bool
live_full live Comes = live
live_full live Stops = live
live_full live Leaves = false
live_full live Stays = live

-- Whether a node is live behind a call that was answered so, where it was live before or not.
abbrev pub live_behind : Bool → Presence → Answer → Bool
live_behind live presence (answer.Done took moment reply) = live_done live presence
live_behind live presence (answer.Full took need cap) = live_full live presence
live_behind live presence (answer.Journal took then) = then
live_behind live presence (answer.Shown took moment rows) = live
live_behind live presence (answer.Duties took moment duties) = live
live_behind live presence (answer.Refused took refusal) = live
live_behind live presence (answer.Fenced held current) = live
live_behind live presence (answer.NoManager took name) = live
live_behind live presence (answer.Damaged file place) = live
live_behind live presence answer.HistoryFull = live
live_behind live presence (answer.NoMemory took) = live
