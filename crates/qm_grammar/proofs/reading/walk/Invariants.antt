use Rattle.std.proofs.Common.{◌≡◌, ◌++◌, length}
use Rattle.qm_grammar.specs.Places.{begun}
use Rattle.qm_grammar.specs.Parts.{parts_from}
use Rattle.qm_grammar.specs.Reading.{read_from}
use Rattle.qm_grammar.proofs.reading.walk.Given as goal

abbrev pub invariant-loop-rest : goal.invariant-loop-rest
invariant-loop-rest l =
    (read_from l.text l.verb l.row l.s l.rest ≡ read_from l.text l.verb l.row (begun l.fn.first) l.fn.tokens)
    × (l.parts.items ++ parts_from l.text l.verb l.row l.s l.rest ≡ parts_from l.text l.verb l.row (begun l.fn.first) l.fn.tokens)

abbrev pub decreases-loop-rest : goal.decreases-loop-rest
decreases-loop-rest l = length l.rest
