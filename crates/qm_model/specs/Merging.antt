-- The waiting jobs of one queue are moved to another.
-- DCL Dictionary, ASSIGN/MERGE.
use Rattle.std.specs.Prelude.{ℕ, Bool, false, ◌&&◌, if◌then◌else◌, is_none, List, [], ◌∷◌, map, count_by, Option, bytes_eq}
use Rattle.std.specs.Option.{option_map_or}
use Rattle.qm_kinds.specs.declared.entry.Entry.{Entry}
use Rattle.qm_kinds.specs.declared.refusal.Refusal.{Refusal}
use Rattle.qm_kinds.specs.declared.refusal.Refusal.TheVariants.{NoSuchQueue, WrongKind}
use Rattle.qm_kinds.specs.declared.reply.Act.TheVariants.{Moved}
use Rattle.qm_kinds.specs.declared.system.System.{System}
use Rattle.qm_model.specs.Find.{queue_named}
use Rattle.qm_model.specs.Kinds.{job_kind, is_other_kind}
use Rattle.qm_model.specs.Outcome.{Accepted, refused_where, first_refusal}
use Rattle.qm_model.specs.Replying.{replied}
use Rattle.qm_model.specs.JobStates.{is_waiting}

-- the job waits, and the queue is its home
abbrev pub waits_in : List ℕ → Entry → Bool
waits_in queue e = is_waiting e.state && bytes_eq e.home queue

-- one queue is for batch and the other for print
abbrev pub are_of_two_kinds : System → List ℕ → List ℕ → Bool
are_of_two_kinds s to from =
    option_map_or (λ p. option_map_or (is_other_kind (job_kind p.kind)) (queue_named from s.queues) false) (queue_named to s.queues) false

-- why the jobs of one queue can't be moved to another
abbrev pub merge_refusal : System → List ℕ → List ℕ → Option Refusal
merge_refusal s to from = first_refusal
    (refused_where (is_none (queue_named to s.queues)) (NoSuchQueue to)
    ∷ refused_where (is_none (queue_named from s.queues)) (NoSuchQueue from)
    ∷ refused_where (are_of_two_kinds s to from) WrongKind
    ∷ [])

-- a job that waits in the one queue has the other as its home
abbrev pub moved_to : List ℕ → List ℕ → Entry → Entry
moved_to to from e = if waits_in from e then record e { home = to } else e

-- all jobs that wait there are moved, and counted
abbrev pub merged : System → List ℕ → List ℕ → Accepted
merged s to from = replied (record s { entries = map (moved_to to from) s.entries }) (Moved (count_by (waits_in from) s.entries))
