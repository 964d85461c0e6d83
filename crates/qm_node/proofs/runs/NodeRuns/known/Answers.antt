use Rattle.std.proofs.Common.{◌∙◌, ℕ, List, subst, sym, nat_cmp}
use Rattle.qm_model.specs.Consistent.{IsInOrder}
use Rattle.qm_node.proofs.Rows.{known_bare, numbers_rise}
use Rattle.qm_node.proofs.Stepped.{when_ok}
use Rattle.qm_node.proofs.runs.NodeRuns.known.Goals as goal

pub returns-clause-runs : goal.returns-clause-runs
returns-clause-runs g c =
    rw (← c.self.view_is) (when_ok c.numbers_of.result (λ runs is. (rw c.deref.ensures.value at is) ∙ sym (known_bare c.self.inside.rows.items)) c.numbers_of.ensures)

pub returns-clause-rising : goal.returns-clause-rising
returns-clause-rising g c =
    when_ok c.numbers_of.result
    (λ runs is. subst (λ (ns : List ℕ). IsInOrder nat_cmp (λ (run : ℕ). run) ns) (sym (rw c.deref.ensures.value at is)) (numbers_rise c.self.inside.rows.items c.self.invariant.order)) c.numbers_of.ensures
