use Rattle.std.proofs.Common.{◌∙◌, ap, subst, sym}
use Rattle.qm_node.specs.Held.{HeldRuns}
use Rattle.qm_node.specs.Rows.{AreHeld}
use Rattle.qm_node.proofs.Fetched.{held_new}
use Rattle.qm_node.proofs.runs.NodeRuns.learn_by.Goals as goal

pub invariant_of-self : goal.invariant_of-self
invariant_of-self g c =
    let none = ap (λ (h : HeldRuns). h.made) c.self.view_is ∙ c.requires.told in
    let filled = rw c.deref.ensures.value at c.fill_round.ensures in
    subst (λ made. AreHeld g.Y.Symbiont.stands c.move_shown.new.rows.items c.fill_round.new.round.items made) (sym none)
    (held_new g.Y.Symbiont.stands c.move_shown.new.rows.items c.fill_round.new.round.items c.move_shown.ensures.order c.move_shown.ensures.each filled)
