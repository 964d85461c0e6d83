use Rattle.std.proofs.Common.{◌≡◌, drop}
use Rattle.qm_disk.specs.Calls.{crashed}
use Rattle.qm_disk.proofs.memory.kept_at_crash.Given as goal

abbrev pub invariant-loop-call : goal.invariant-loop-call
invariant-loop-call l =
    crashed l.pick l.file (drop l.call-index l.calls) l.content.items l.kept.items ≡ crashed l.pick l.file l.calls l.first.items l.first.items
