use Rattle.std.proofs.Common.{refl}
use Rattle.qm_script.proofs.Joining.{at_feed, before_feed, no_feed}
use Rattle.qm_script.proofs.Parts.{rest_of}
use Rattle.qm_script.proofs.extent.first_line.Goals as goal

pub returns-in-None : goal.returns-in-None
returns-in-None c = ((no_feed c.args.script.now c.in-None.ensures.value, refl, refl), refl)

pub returns-in-Some : goal.returns-in-Some
returns-in-Some c =
    rw rest_of ((before_feed c.args.script.now c.in-Some.place c.in-Some.ensures.value, at_feed c.args.script.now c.in-Some.place c.in-Some.ensures.value), refl)
