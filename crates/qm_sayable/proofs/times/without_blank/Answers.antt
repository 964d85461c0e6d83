use Rattle.std.proofs.Common.{None, lit<}
use Rattle.std.proofs.lemmas.Str.Pattern.{strip_prefix_char}
use Rattle.qm_sayable.proofs.Blanks.{stays}
use Rattle.qm_sayable.proofs.times.without_blank.Goals as goal

pub returns-in-None : goal.returns-in-None
returns-in-None c = stays _ (strip_prefix_char 32 c.args.text.now None c.in-None.ensures.cases (lit< tt))
