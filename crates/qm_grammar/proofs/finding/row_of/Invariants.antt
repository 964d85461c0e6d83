use Rattle.std.proofs.Common.{◌≡◌, find, length}
use Rattle.qm_grammar.specs.Finding.{first_parameter, has_object, is_named, row_of}
use Rattle.qm_grammar.proofs.finding.row_of.Given as goal

abbrev pub invariant-loop-rest : goal.invariant-loop-rest
invariant-loop-rest l =
    (find (is_named l.text l.verb l.tokens) l.rest ≡ row_of l.text l.tokens l.verb)
    × (l.last.is_given ≡ has_object l.text l.verb l.last.object (first_parameter l.tokens))

abbrev pub decreases-loop-rest : goal.decreases-loop-rest
decreases-loop-rest l = length l.rest
