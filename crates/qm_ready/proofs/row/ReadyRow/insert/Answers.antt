use Rattle.std.proofs.Common.{◌≢◌, ◌∙◌, List, ap, refl, arith, All}
use Rattle.qm_match.specs.declared.order.Key.{Key}
use Rattle.qm_match.specs.Keys.{comes_before}
use Rattle.qm_ready.specs.Rows.{Row, key_numbered}
use Rattle.qm_ready.proofs.Keeping.{put_is, row_put, row_is}
use Rattle.qm_ready.proofs.Numbers.{absent_all, numbered-inserted}
use Rattle.qm_ready.proofs.row.ReadyRow.insert.Goals as goal

pub invariant_of-self : goal.invariant_of-self
invariant_of-self c =
    let keys : List Key = c.self.inside.keys.list in
    let others : All (λ k. k.number ≢ c.args.key.number) keys = absent_all c.args.key.number keys (rw (← c.self.view_is) at c.requires.absent) in
    let spare = ap (λ (r : Row). r.spare) c.self.view_is in
    record {
      row = rw c.insert.ensures.list (row_put c.self.inside.schedule keys c.place_of-place.result c.args.key c.place_of-place.ensures others c.self.invariant.row);
      room = omega (arith, spare);
    }

pub returns-clause-inserted : goal.returns-clause-inserted
returns-clause-inserted c =
    let keys : List Key = c.self.inside.keys.list in
    let others : All (λ k. k.number ≢ c.args.key.number) keys = absent_all c.args.key.number keys (rw (← c.self.view_is) at c.requires.absent) in
    rw (← c.self.view_is)
    (row_is c.self.inside.schedule _ _ _ _ (c.insert.ensures.list ∙ put_is c.self.inside.schedule keys c.place_of-place.result c.args.key c.place_of-place.ensures others) refl)

pub returns-clause-each : goal.returns-clause-each
returns-clause-each c =
    let keys : List Key = c.self.inside.keys.list in
    let others : All (λ k. k.number ≢ c.args.key.number) keys = absent_all c.args.key.number keys (rw (← c.self.view_is) at c.requires.absent) in
    rw (← c.self.view_is) (λ number.
    ap (key_numbered number) (c.insert.ensures.list ∙ put_is c.self.inside.schedule keys c.place_of-place.result c.args.key c.place_of-place.ensures others)
    ∙ numbered-inserted (comes_before c.self.inside.schedule) c.args.key keys others number)

pub returns-clause-in_order : goal.returns-clause-in_order
returns-clause-in_order c =
    let keys : List Key = c.self.inside.keys.list in
    let others : All (λ k. k.number ≢ c.args.key.number) keys = absent_all c.args.key.number keys (rw (← c.self.view_is) at c.requires.absent) in
    rw c.insert.ensures.list (row_put c.self.inside.schedule keys c.place_of-place.result c.args.key c.place_of-place.ensures others c.self.invariant.row)
