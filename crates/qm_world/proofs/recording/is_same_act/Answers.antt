use Rattle.std.proofs.Common.{◌∙◌, sym, rules}
use Rattle.qm_world.proofs.Acts.{act_same}
use Rattle.qm_world.proofs.recording.is_same_act.Goals as goal

pub returns : goal.returns
returns c = (λ same. act_same c.args.a.now c.args.b.now (sym c.eq.ensures ∙ same), search rules)
