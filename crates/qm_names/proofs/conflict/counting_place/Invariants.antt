use Rattle.std.proofs.Common.{◌≡◌, length}
use Rattle.qm_names.specs.Conflicts.{place_from, counting_place}
use Rattle.qm_names.proofs.conflict.counting_place.Given as goal

abbrev pub invariant-loop-rest : goal.invariant-loop-rest
invariant-loop-rest l = place_from l.text l.verb l.row l.word l.slash l.place l.rest ≡ counting_place l.text l.verb l.row l.tokens l.word

abbrev pub decreases-loop-rest : goal.decreases-loop-rest
decreases-loop-rest l = length l.rest
