use Rattle.std.proofs.Common.{◌∙◌, ℕ, List, ap, sym, subst, refl, arith}
use Rattle.qm_match.specs.declared.order.Key.{Key}
use Rattle.qm_ready.specs.Rows.{key_numbered}
use Rattle.qm_ready.proofs.Keeping.{row_is}
use Rattle.qm_ready.proofs.Searches.{StandsAt, stands, stands_is}
use Rattle.qm_ready.proofs.Replacing.{replaced_is, replaced_row, replaced_numbers}
use Rattle.qm_ready.proofs.row.ReadyRow.replace.Goals as goal

pub returns-then-not-stands_at-clause-found : goal.returns-then-not-stands_at-clause-found
returns-then-not-stands_at-clause-found c =
    rw (← c.self.view_is)
    (sym c.if-not-stands_at.true ∙ c.stands_at.ensures ∙ stands_is c.self.inside.schedule c.self.inside.keys.list c.place_of-from.result c.args.old.now c.self.invariant.row c.place_of-from.ensures)

pub place_beside-to-requires-clause-within : goal.place_beside-to-requires-clause-within
place_beside-to-requires-clause-within c =
    let keys : List Key = c.self.inside.keys.list in
    let at : StandsAt keys c.place_of-from.result c.args.old.now.number = stands keys c.place_of-from.result c.args.old.now (sym c.stands_at.ensures ∙ c.if-not-stands_at.false) in
    at.within

pub shift-requires-clause-from : goal.shift-requires-clause-from
shift-requires-clause-from c =
    let keys : List Key = c.self.inside.keys.list in
    let at : StandsAt keys c.place_of-from.result c.args.old.now.number = stands keys c.place_of-from.result c.args.old.now (sym c.stands_at.ensures ∙ c.if-not-stands_at.false) in
    at.within

pub invariant_of-self : goal.invariant_of-self
invariant_of-self c =
    let keys : List Key = c.self.inside.keys.list in
    let at : StandsAt keys c.place_of-from.result c.args.old.now.number = stands keys c.place_of-from.result c.args.old.now (sym c.stands_at.ensures ∙ c.if-not-stands_at.false) in
    let it : StandsAt keys c.place_of-from.result c.args.key.number = subst (λ (n : ℕ). StandsAt keys c.place_of-from.result n) (sym c.requires.number) at in
    record {
      row = rw c.shift.ensures.list (replaced_row c.self.inside.schedule keys c.self.invariant.row c.place_of-from.result c.place_beside-to.result c.args.key it c.place_beside-to.ensures.stands);
      room = omega (arith, c.self.invariant.room, c.shift.ensures.len, c.shift.ensures.capacity);
    }

pub returns-clause-found : goal.returns-clause-found
returns-clause-found c =
    rw (← c.self.view_is)
    (sym c.if-not-stands_at.false ∙ c.stands_at.ensures ∙ stands_is c.self.inside.schedule c.self.inside.keys.list c.place_of-from.result c.args.old.now c.self.invariant.row c.place_of-from.ensures)

pub returns-clause-replaced : goal.returns-clause-replaced
returns-clause-replaced c =
    let keys : List Key = c.self.inside.keys.list in
    let at : StandsAt keys c.place_of-from.result c.args.old.now.number = stands keys c.place_of-from.result c.args.old.now (sym c.stands_at.ensures ∙ c.if-not-stands_at.false) in
    let it : StandsAt keys c.place_of-from.result c.args.key.number = subst (λ (n : ℕ). StandsAt keys c.place_of-from.result n) (sym c.requires.number) at in
    rw (← c.self.view_is)
    (row_is c.self.inside.schedule _ _ _ _ (c.shift.ensures.list ∙ replaced_is c.self.inside.schedule keys c.self.invariant.row c.place_of-from.result c.place_beside-to.result c.args.key it c.place_beside-to.ensures.stands) refl)

pub returns-clause-each : goal.returns-clause-each
returns-clause-each c =
    let keys : List Key = c.self.inside.keys.list in
    let at : StandsAt keys c.place_of-from.result c.args.old.now.number = stands keys c.place_of-from.result c.args.old.now (sym c.stands_at.ensures ∙ c.if-not-stands_at.false) in
    let it : StandsAt keys c.place_of-from.result c.args.key.number = subst (λ (n : ℕ). StandsAt keys c.place_of-from.result n) (sym c.requires.number) at in
    rw (← c.self.view_is) (λ number.
    ap (key_numbered number) c.shift.ensures.list ∙ replaced_numbers c.self.inside.schedule keys c.self.invariant.row c.place_of-from.result c.place_beside-to.result c.args.key it c.place_beside-to.ensures.stands number)

pub returns-clause-in_order : goal.returns-clause-in_order
returns-clause-in_order c =
    let keys : List Key = c.self.inside.keys.list in
    let at : StandsAt keys c.place_of-from.result c.args.old.now.number = stands keys c.place_of-from.result c.args.old.now (sym c.stands_at.ensures ∙ c.if-not-stands_at.false) in
    let it : StandsAt keys c.place_of-from.result c.args.key.number = subst (λ (n : ℕ). StandsAt keys c.place_of-from.result n) (sym c.requires.number) at in
    rw c.shift.ensures.list (replaced_row c.self.inside.schedule keys c.self.invariant.row c.place_of-from.result c.place_beside-to.result c.args.key it c.place_beside-to.ensures.stands)
