-- Values that a byte tells.
use Rattle.std.proofs.Common.{◌≡◌, ℕ, zero, suc, true, refl, arith}
use Rattle.qm_model.specs.Common.{JobKind, QueueKind, QueueState, QueueRetain, StopMode}
use Rattle.qm_kinds.specs.declared.entry.JobKind.TheVariants as job
use Rattle.qm_kinds.specs.declared.queue.QueueKind.TheVariants as kind
use Rattle.qm_kinds.specs.declared.queue.QueueState.TheVariants as state
use Rattle.qm_kinds.specs.declared.queue.QueueRetain.TheVariants as keep
use Rattle.qm_kinds.specs.declared.request.StopMode.TheVariants as stop
use Rattle.qm_bytes.specs.Reading.{between}
use Rattle.qm_bytes.specs.Laws.{Spells, IsReader}
use Rattle.qm_bytes.specs.Spelling.{byte}
use Rattle.qm_bytes.proofs.Fields.{coded_reader, lies_between}
use Rattle.qm_record.specs.Spelling.{job_kind_code, queue_kind_code, queue_state_code, queue_retain_code, stop_mode_code}
use Rattle.qm_record.specs.Reading.{job_kind_of, queue_kind_of, queue_state_of, queue_retain_of, stop_mode_of, job_kind_at, queue_kind_at, queue_state_at, queue_retain_at, stop_mode_at}

job_kind_back : (b : ℕ) → between 1 2 b ≡ true → job_kind_code (job_kind_of b) ≡ b
job_kind_back zero h = absurd (omega (arith, (lies_between 1 2 0 h).0))
job_kind_back (suc zero) h = refl
job_kind_back (suc (suc zero)) h = refl
job_kind_back (suc (suc (suc b))) h = absurd (omega (arith, (lies_between 1 2 (suc (suc (suc b))) h).1))

job_kind_again : (x : JobKind) → job_kind_of (job_kind_code x) ≡ x
job_kind_again job.Batch = refl
job_kind_again job.Print = refl

job_kind_passes : (x : JobKind) → between 1 2 (job_kind_code x) ≡ true
job_kind_passes job.Batch = refl
job_kind_passes job.Print = refl

pub job_kind_reader : IsReader (Spells (λ x. Unit {0}) (λ x. byte (job_kind_code x))) job_kind_at
unfolding job_kind_at
job_kind_reader =
    coded_reader (between 1 2) job_kind_code job_kind_of job.Batch
    (record { back = job_kind_back; again = job_kind_again; passes = job_kind_passes })

queue_kind_back : (b : ℕ) → between 1 4 b ≡ true → queue_kind_code (queue_kind_of b) ≡ b
queue_kind_back zero h = absurd (omega (arith, (lies_between 1 4 0 h).0))
queue_kind_back (suc zero) h = refl
queue_kind_back (suc (suc zero)) h = refl
queue_kind_back (suc (suc (suc zero))) h = refl
queue_kind_back (suc (suc (suc (suc zero)))) h = refl
queue_kind_back (suc (suc (suc (suc (suc b))))) h = absurd (omega (arith, (lies_between 1 4 (suc (suc (suc (suc (suc b))))) h).1))

queue_kind_again : (x : QueueKind) → queue_kind_of (queue_kind_code x) ≡ x
queue_kind_again kind.Batch = refl
queue_kind_again kind.Print = refl
queue_kind_again kind.GenericBatch = refl
queue_kind_again kind.GenericPrint = refl

queue_kind_passes : (x : QueueKind) → between 1 4 (queue_kind_code x) ≡ true
queue_kind_passes kind.Batch = refl
queue_kind_passes kind.Print = refl
queue_kind_passes kind.GenericBatch = refl
queue_kind_passes kind.GenericPrint = refl

pub queue_kind_reader : IsReader (Spells (λ x. Unit {0}) (λ x. byte (queue_kind_code x))) queue_kind_at
unfolding queue_kind_at
queue_kind_reader =
    coded_reader (between 1 4) queue_kind_code queue_kind_of kind.Batch
    (record { back = queue_kind_back; again = queue_kind_again; passes = queue_kind_passes })

queue_state_back : (b : ℕ) → between 1 4 b ≡ true → queue_state_code (queue_state_of b) ≡ b
queue_state_back zero h = absurd (omega (arith, (lies_between 1 4 0 h).0))
queue_state_back (suc zero) h = refl
queue_state_back (suc (suc zero)) h = refl
queue_state_back (suc (suc (suc zero))) h = refl
queue_state_back (suc (suc (suc (suc zero)))) h = refl
queue_state_back (suc (suc (suc (suc (suc b))))) h =
    absurd (omega (arith, (lies_between 1 4 (suc (suc (suc (suc (suc b))))) h).1))

queue_state_again : (x : QueueState) → queue_state_of (queue_state_code x) ≡ x
queue_state_again state.Stopped = refl
queue_state_again state.Started = refl
queue_state_again state.Paused = refl
queue_state_again state.Stopping = refl

queue_state_passes : (x : QueueState) → between 1 4 (queue_state_code x) ≡ true
queue_state_passes state.Stopped = refl
queue_state_passes state.Started = refl
queue_state_passes state.Paused = refl
queue_state_passes state.Stopping = refl

pub queue_state_reader : IsReader (Spells (λ x. Unit {0}) (λ x. byte (queue_state_code x))) queue_state_at
unfolding queue_state_at
queue_state_reader =
    coded_reader (between 1 4) queue_state_code queue_state_of state.Stopped
    (record { back = queue_state_back; again = queue_state_again; passes = queue_state_passes })

queue_retain_back : (b : ℕ) → between 0 2 b ≡ true → queue_retain_code (queue_retain_of b) ≡ b
queue_retain_back zero h = refl
queue_retain_back (suc zero) h = refl
queue_retain_back (suc (suc zero)) h = refl
queue_retain_back (suc (suc (suc b))) h = absurd (omega (arith, (lies_between 0 2 (suc (suc (suc b))) h).1))

queue_retain_again : (x : QueueRetain) → queue_retain_of (queue_retain_code x) ≡ x
queue_retain_again keep.Nothing = refl
queue_retain_again keep.Failed = refl
queue_retain_again keep.All = refl

queue_retain_passes : (x : QueueRetain) → between 0 2 (queue_retain_code x) ≡ true
queue_retain_passes keep.Nothing = refl
queue_retain_passes keep.Failed = refl
queue_retain_passes keep.All = refl

pub queue_retain_reader : IsReader (Spells (λ x. Unit {0}) (λ x. byte (queue_retain_code x))) queue_retain_at
unfolding queue_retain_at
queue_retain_reader =
    coded_reader (between 0 2) queue_retain_code queue_retain_of keep.Nothing
    (record { back = queue_retain_back; again = queue_retain_again; passes = queue_retain_passes })

stop_mode_back : (b : ℕ) → between 1 3 b ≡ true → stop_mode_code (stop_mode_of b) ≡ b
stop_mode_back zero h = absurd (omega (arith, (lies_between 1 3 0 h).0))
stop_mode_back (suc zero) h = refl
stop_mode_back (suc (suc zero)) h = refl
stop_mode_back (suc (suc (suc zero))) h = refl
stop_mode_back (suc (suc (suc (suc b)))) h = absurd (omega (arith, (lies_between 1 3 (suc (suc (suc (suc b)))) h).1))

stop_mode_again : (x : StopMode) → stop_mode_of (stop_mode_code x) ≡ x
stop_mode_again stop.Pause = refl
stop_mode_again stop.Next = refl
stop_mode_again stop.Reset = refl

stop_mode_passes : (x : StopMode) → between 1 3 (stop_mode_code x) ≡ true
stop_mode_passes stop.Pause = refl
stop_mode_passes stop.Next = refl
stop_mode_passes stop.Reset = refl

pub stop_mode_reader : IsReader (Spells (λ x. Unit {0}) (λ x. byte (stop_mode_code x))) stop_mode_at
unfolding stop_mode_at
stop_mode_reader =
    coded_reader (between 1 3) stop_mode_code stop_mode_of stop.Pause
    (record { back = stop_mode_back; again = stop_mode_again; passes = stop_mode_passes })
