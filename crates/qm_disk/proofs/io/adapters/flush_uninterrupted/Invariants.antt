-- A flush that was interrupted has given nothing.
use Rattle.std.specs.Io.KnownBytes.{Keeps}
use Rattle.qm_disk.proofs.io.adapters.flush_uninterrupted.Given as goal

abbrev pub invariant-loop : goal.invariant-loop
invariant-loop g l = Keeps (g.W.Write.contents l.initial.writer) (g.W.Write.contents l.writer)
