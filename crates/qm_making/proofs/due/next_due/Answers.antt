use Rattle.std.proofs.Common.{ℕ, ◌<◌, List, ap, subst, All, is_some}
use Rattle.qm_image.proofs.Timed.{none_due}
use Rattle.qm_making.proofs.due.next_due.Goals as goal

pub returns-in-None-clause-none : goal.returns-in-None-clause-none
returns-in-None-clause-none c =
    none_due c.args.now c.args.image.now.parts.entries c.args.image.now.parts.timers c.see_entries.ensures c.args.image.now.timed
    (subst (λ (ts : List (ℕ × ℕ)). All (λ (t : ℕ × ℕ). c.args.now < t.0) ts) c.timers.ensures.timers (c.due.ensures.none.0 (ap is_some c.in-None.is)))
