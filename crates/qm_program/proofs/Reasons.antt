-- What the serving of lines says of its end: by one thread, and by a thread for each node.
use Rattle.std.proofs.Common.{ℕ, List, length}
use Rattle.qm_serving.specs.ClusterServing.{ServesAtOnce}
use Rattle.qm_serving.specs.ClusterServing as at_once
use Rattle.qm_history.specs.Common.{Meaning, ServingEnd, UserLine}
use Rattle.qm_history.specs.Ends as serving
use Rattle.qm_history.specs.declared.turn.Turn.{Turn}
use Rattle.qm_cluster.specs.Ends.{CountsDisk, stop_of}
use Rattle.qm_serving.specs.Serving.{Outside, Serves}
use Rattle.qm_symb.specs.Device as symb
use Rattle.qm_program.specs.Causes.{FailedAsTold, HasReason}
use Rattle.qm_program.proofs.Counting.{told_at_full, told_at_write, told_but_none}

failed_as_told : (end : ServingEnd) (turns : List Turn) (before now : ℕ) → CountsDisk (stop_of end) turns before now → FailedAsTold end turns before now
failed_as_told serving.Served turns before now counts = counts
failed_as_told serving.DiskFailed turns before now counts = counts
failed_as_told serving.SinkFailed turns before now counts = told_at_write turns before now counts
failed_as_told serving.HistoryFull turns before now counts = told_at_full turns before now counts
failed_as_told (serving.Damaged file place) turns before now counts = tt
failed_as_told serving.NoMemory turns before now counts = tt

pub one_reason : {D Y : Type 0} (m : Meaning D) (y : symb.Meaning Y) (disk : D) (names : List (List ℕ)) (script : List UserLine)
    (old new : Outside D Y) (turns : List Turn) (end : ServingEnd) → Serves m y disk names script old new turns end → HasReason m.tells end turns (m.faults old.disk) (m.faults new.disk)
one_reason m y disk names script old new turns end serves = record {
  ends = serves.ends;
  failed = failed_as_told end turns (m.faults old.disk) (m.faults new.disk) serves.failed;
  undamaged = serves.undamaged;
}

failed_at_once : (end : ServingEnd) (nodes : ℕ) (turns : List Turn) (before now : ℕ) → at_once.CountsDisk (stop_of end) nodes turns before now → FailedAsTold end turns before now
failed_at_once serving.Served nodes turns before now counts = told_but_none turns before now counts.unread counts.hidden counts.told
failed_at_once serving.DiskFailed nodes turns before now counts = told_but_none turns before now counts.unread counts.hidden counts.told
failed_at_once serving.SinkFailed nodes turns before now counts = told_but_none turns before now counts.unread counts.hidden counts.told
failed_at_once serving.HistoryFull nodes turns before now counts = told_but_none turns before now counts.unread counts.hidden counts.told
failed_at_once (serving.Damaged file place) nodes turns before now counts = tt
failed_at_once serving.NoMemory nodes turns before now counts = tt

pub nodes_reason : {D Y : Type 0} (m : Meaning D) (y : symb.Meaning Y) (disk : D) (names : List (List ℕ)) (script : List UserLine)
    (old new : Outside D Y) (turns : List Turn) (end : ServingEnd) → ServesAtOnce m y disk names script old new turns end → HasReason m.tells end turns (m.faults old.disk) (m.faults new.disk)
nodes_reason m y disk names script old new turns end serves = record {
  ends = serves.ends;
  failed = failed_at_once end (length names) turns (m.faults old.disk) (m.faults new.disk) serves.failed;
  undamaged = serves.undamaged;
}
