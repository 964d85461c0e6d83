use Rattle.std.proofs.Common.{ap, ◌∙◌}
use Rattle.std.specs.Result.{result_ok}
use Rattle.qm_model.specs.MomentText.{moment_text, without_blank}
use Rattle.qm_dcl.specs.Values.{moment_said}
use Rattle.qm_spelling.proofs.Times.{unquoted_is}
use Rattle.qm_spelling.proofs.laws.times_read_back.Goals as goal

pub returns : goal.returns
returns c = λ moment now within.
    ap (moment_said now) (unquoted_is (without_blank (moment_text moment)))
    ∙ ap result_ok (c.printed_moments_read_back.ensures moment now within)
