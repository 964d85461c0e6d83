-- An accepted request: the system that it leaves and its reply, before any job is started.
-- OpenVMS System Services Reference Manual, $SNDJBC, on what a request returns.
use Rattle.std.specs.Prelude.{ℕ, List, []}
use Rattle.std.specs.Option.{option_map_or}
use Rattle.qm_kinds.specs.declared.queue.QueueState.{QueueState}
use Rattle.qm_kinds.specs.declared.queue.QueueState.TheVariants.{Stopped}
use Rattle.qm_kinds.specs.declared.reply.Act.{Act}
use Rattle.qm_kinds.specs.declared.reply.Act.TheVariants.{QueueIs}
use Rattle.qm_kinds.specs.declared.system.System.{System}
use Rattle.qm_model.specs.Find.{queue_named}
use Rattle.qm_model.specs.Outcome.{Accepted}
use Rattle.qm_model.specs.States.{stopped_when_idle}

-- the system, with this reply and no job started
abbrev pub replied : System → Act → Accepted
replied s act = record { system = s; reply = record { act = act; started = [] } }

-- the state of the queue of a name
abbrev pub state_of_queue : List ℕ → System → QueueState
state_of_queue name s = option_map_or (λ q. q.state) (queue_named name s.queues) Stopped

-- the reply tells the state that the queue has once the whole request is done
abbrev pub replied_with_queue : System → List ℕ → Accepted
replied_with_queue s name = replied s (QueueIs name (state_of_queue name (stopped_when_idle s)))
