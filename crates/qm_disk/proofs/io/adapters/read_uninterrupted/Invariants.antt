-- A read that was interrupted has taken nothing.
use Rattle.std.specs.Io.KnownBytes.{Keeps}
use Rattle.qm_disk.proofs.io.adapters.read_uninterrupted.Given as goal

abbrev pub invariant-loop : goal.invariant-loop
invariant-loop g l = Keeps (g.R.Read.remaining l.initial.reader) (g.R.Read.remaining l.reader)
