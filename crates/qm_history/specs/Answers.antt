-- What the call of a turn is answered.
-- OpenVMS System Services Reference Manual, $SNDJBC and $GETQUI, on what a call returns.
use Rattle.std.specs.Prelude.{ℕ, List, [], ◌∷◌, Option, None, Some, Result, Ok, Err, unwrap_or}
use Rattle.qm_model.specs.Common.{Input, Row, Refusal, Act, Reply, Start, applied, duties, Accepted, view, node_at, system_of}
use Rattle.qm_kinds.specs.declared.input.Input.TheVariants as input
use Rattle.qm_kinds.specs.declared.reply.Act.TheVariants as act
use Rattle.qm_kinds.specs.declared.request.Request.TheVariants as request
use Rattle.qm_history.specs.declared.call.Answer.{Answer}
use Rattle.qm_history.specs.declared.call.Answer.TheVariants as answer
use Rattle.qm_history.specs.declared.call.Takeover.{Takeover}
use Rattle.qm_history.specs.declared.event.Event.{Event}
use Rattle.qm_history.specs.declared.event.Event.TheVariants as event
use Rattle.qm_history.specs.declared.turn.Turn.{Turn}
use Rattle.qm_history.specs.declared.turn.Why.{Why}
use Rattle.qm_history.specs.declared.turn.Why.TheVariants as why
use Rattle.qm_history.specs.declared.world.World.{World}
use Rattle.qm_history.specs.Step.{after_event}
use Rattle.qm_history.specs.World.{system_in, is_live, log_read, role_in}

-- the jobs that an accepted request started
abbrev pub started_by : Result Accepted Refusal → List Start
started_by (Ok accepted) = accepted.reply.started
started_by (Err refusal) = []

-- what is told of the takeover with which a turn begins
abbrev pub takeover_of : World → List Event → Option Takeover
takeover_of w (event.Took node moment epoch gone up may kept ∷ events) = Some (record {
  epoch = epoch;
  kept = kept;
  started = started_by (applied (system_of (log_read w kept)) moment node (request.Took epoch gone up may));
})
takeover_of w (event.TakeDoubt node tried (Some kept) ∷ events) = Some (record { epoch = tried; kept = Some kept; started = [] })
takeover_of w events = None

-- the moment at which an event acted, if it acted on a system
abbrev pub moment_of : Event → Option ℕ
moment_of (event.Done node moment asked reply) = Some moment
moment_of (event.Refused node moment input refusal) = Some moment
moment_of (event.Shown node moment input) = Some moment
moment_of (event.Doubt node moment asked) = Some moment
moment_of (event.Took node moment epoch gone up may kept) = Some moment
moment_of (event.Full node need cap) = None
moment_of (event.NoManager node) = None
moment_of (event.TakeDoubt node tried kept) = None
moment_of (event.Fenced node held current) = None
moment_of (event.Stopped node) = None
moment_of (event.Left node) = None
moment_of (event.Started node) = None
moment_of (event.Compacted node epoch file) = None
moment_of (event.CompactDoubt node) = None

-- the moment of the last event that has one, or else this
abbrev pub last_moment : ℕ → List Event → ℕ
last_moment reading [] = reading
last_moment reading (e ∷ events) = last_moment (unwrap_or (moment_of e) reading) events

-- the rows, where there are some
abbrev pub rows_shown : Result (List Row) Refusal → List Row
rows_shown (Ok rows) = rows
rows_shown (Err refusal) = []

-- a reply that starts no job
abbrev pub plain : Act → Reply
plain what = record { act = what; started = [] }

-- what a listing or a fetch shows
abbrev pub shown_answer : World → ℕ → Option Takeover → ℕ → Input → Answer
shown_answer w node took moment (input.Show query) = answer.Shown took moment (rows_shown (view (system_in w) (role_in w) query))
shown_answer w node took moment (input.Fetch known) =
    answer.Duties took moment (duties (system_in w) (node_at node (system_in w).nodes) known)
shown_answer w node took moment asked = answer.Shown took moment []

-- A takeover alone is the whole of START/QUEUE/MANAGER, whose jobs the takeover told. A turn of the node's own asks for more, so
-- memory ran out there.
abbrev pub taken_answer : Option Takeover → ℕ → List ℕ → ℕ → Why → Answer
taken_answer took moment name epoch (why.Line line) = answer.Done took moment (plain (act.Managing name epoch))
taken_answer took moment name epoch other = answer.NoMemory took

-- the answer of a turn whose last event this is, in the world in which it came
abbrev pub event_answer : World → Option Takeover → Why → ℕ → Event → Answer
event_answer w took because moment (event.Done node acted asked reply) = answer.Done took moment reply
event_answer w took because moment (event.Refused node acted asked refusal) = answer.Refused took refusal
event_answer w took because moment (event.Shown node acted asked) = shown_answer w node took moment asked
event_answer w took because moment (event.Doubt node acted asked) = answer.Journal took (is_live w node)
event_answer w took because moment (event.Full node need cap) = answer.Full took need cap
event_answer w took because moment (event.NoManager node) = answer.NoManager took (node_at node (system_in w).nodes)
event_answer w took because moment (event.Took node acted epoch gone up may kept) =
    taken_answer took moment (node_at node (system_in w).nodes) epoch because
event_answer w took because moment (event.TakeDoubt node tried kept) = answer.Journal took (is_live w node)
event_answer w took because moment (event.Fenced node held current) = answer.Fenced held current
event_answer w took because moment (event.Stopped node) = answer.Done took moment (plain (act.NodeStopped (node_at node (system_in w).nodes)))
event_answer w took because moment (event.Left node) = answer.Done took moment (plain (act.NodeStopped (node_at node (system_in w).nodes)))
event_answer w took because moment (event.Started node) = answer.Done took moment (plain (act.NodeStarted (node_at node (system_in w).nodes)))
event_answer w took because moment (event.Compacted node epoch file) = answer.Done took moment (plain (act.Compacted file))
event_answer w took because moment (event.CompactDoubt node) = answer.Journal took (is_live w node)

-- the last event decides
abbrev pub events_answer : World → Option Takeover → Why → ℕ → List Event → Answer
events_answer w took because moment [] = answer.NoMemory took
events_answer w took because moment (e ∷ []) = event_answer w took because moment e
events_answer w took because moment (e ∷ next ∷ events) = events_answer (after_event w e) took because moment (next ∷ events)

-- the answer of a turn, in the world before it
abbrev pub answer_of : World → Turn → Answer
answer_of w t = events_answer w (takeover_of w t.events) t.why (last_moment t.moment t.events) t.events
