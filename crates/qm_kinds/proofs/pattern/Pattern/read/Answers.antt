use Rattle.qm_kinds.specs.Text.{is_pattern_byte}
use Rattle.qm_kinds.proofs.Reading.{read_is_lawful}
use Rattle.qm_kinds.proofs.pattern.Pattern.read.Goals as goal

pub invariant_of-result : goal.invariant_of-result
invariant_of-result c =
    read_is_lawful is_pattern_byte c.first_bad.result c.args.text.now c.in_ok-text.text c.first_bad.ensures c.in_ok-text.ensures
