use Rattle.std.proofs.Common.{◌≡◌, ◌≤◌, ◌*◌, length, take}
use Rattle.qm_cluster.specs.Printing.{words_of}
use Rattle.qm_cluster.proofs.print.piece_of.Given as goal

abbrev pub invariant-turns : goal.invariant-turns
invariant-turns l = (l.piece.items ≡ words_of l.fn.names (take l.turn-index l.fn.turns)) × (length l.piece.items ≤ 40 * l.turn-index)
