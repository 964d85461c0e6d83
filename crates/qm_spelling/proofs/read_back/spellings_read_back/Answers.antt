use Rattle.std.proofs.Common.{◌∙◌, ap, sym}
use Rattle.qm_dcl.specs.Values.{moment_said}
use Rattle.qm_spelling.proofs.Times.{unquoted_is}
use Rattle.qm_spelling.proofs.SpelledTimes.{inside}
use Rattle.qm_spelling.proofs.SpelledBack.{input_back}
use Rattle.qm_spelling.proofs.read_back.spellings_read_back.Goals as goal

pub returns : goal.returns
returns c = input_back (λ moment now within. ap (moment_said now) (sym (unquoted_is (inside moment))) ∙ c.times_read_back.ensures moment now within)
