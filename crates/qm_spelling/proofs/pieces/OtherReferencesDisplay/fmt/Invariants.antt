use Rattle.std.proofs.Common.{take}
use Rattle.std.specs.Fmt.{HasWritten, IsPlainFormatter}
use Rattle.qm_spelling.proofs.Listed.{references_behind_commas}
use Rattle.qm_spelling.proofs.pieces.OtherReferencesDisplay.fmt.Given as goal

abbrev pub invariant-loop-reference : goal.invariant-loop-reference
invariant-loop-reference g l =
    IsPlainFormatter l.initial.f → HasWritten g.W.Write.write_str_gives l.initial.f (references_behind_commas (take l.reference-index l.self.0.now)) l.f
