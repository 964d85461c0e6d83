use Rattle.std.proofs.Common.{◌≡◌}
use Rattle.qm_glog.specs.Log.{bodies_of}
use Rattle.qm_store.proofs.reading.place_in.Given as goal
use Rattle.qm_history.specs.Start.{place_of}

abbrev pub invariant-loop-before : goal.invariant-loop-before
invariant-loop-before l = l.place ≡ place_of (bodies_of l.log) l.before
