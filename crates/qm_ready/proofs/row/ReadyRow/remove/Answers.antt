use Rattle.std.proofs.Common.{◌∙◌, List, ap, sym, refl, arith}
use Rattle.qm_match.specs.declared.order.Key.{Key}
use Rattle.qm_ready.specs.Rows.{key_numbered}
use Rattle.qm_ready.proofs.Keeping.{row_is, row_without}
use Rattle.qm_ready.proofs.Numbers.{numbered-without}
use Rattle.qm_ready.proofs.Searches.{StandsAt, stands, stands_is, taken_out}
use Rattle.qm_ready.proofs.row.ReadyRow.remove.Goals as goal

pub returns-then-not-stands_at-clause-found : goal.returns-then-not-stands_at-clause-found
returns-then-not-stands_at-clause-found c =
    rw (← c.self.view_is)
    (sym c.if-not-stands_at.true ∙ c.stands_at.ensures ∙ stands_is c.self.inside.schedule c.self.inside.keys.list c.place_of-place.result c.args.key.now c.self.invariant.row c.place_of-place.ensures)

pub remove-requires : goal.remove-requires
remove-requires c =
    let at : StandsAt c.self.inside.keys.list c.place_of-place.result c.args.key.now.number = stands c.self.inside.keys.list c.place_of-place.result c.args.key.now (sym c.stands_at.ensures ∙ c.if-not-stands_at.false) in
    at.within

pub invariant_of-self : goal.invariant_of-self
invariant_of-self c =
    let keys : List Key = c.self.inside.keys.list in
    let at : StandsAt keys c.place_of-place.result c.args.key.now.number = stands keys c.place_of-place.result c.args.key.now (sym c.stands_at.ensures ∙ c.if-not-stands_at.false) in
    record {
      row = rw (c.remove.ensures.list ∙ taken_out keys c.place_of-place.result c.args.key.now.number c.self.invariant.row.once at) (row_without c.self.inside.schedule keys c.args.key.now.number c.self.invariant.row);
      room = omega arith;
    }

pub returns-clause-found : goal.returns-clause-found
returns-clause-found c =
    rw (← c.self.view_is)
    (sym c.if-not-stands_at.false ∙ c.stands_at.ensures ∙ stands_is c.self.inside.schedule c.self.inside.keys.list c.place_of-place.result c.args.key.now c.self.invariant.row c.place_of-place.ensures)

pub returns-clause-removed : goal.returns-clause-removed
returns-clause-removed c =
    let keys : List Key = c.self.inside.keys.list in
    let at : StandsAt keys c.place_of-place.result c.args.key.now.number = stands keys c.place_of-place.result c.args.key.now (sym c.stands_at.ensures ∙ c.if-not-stands_at.false) in
    rw (← c.self.view_is)
    (row_is c.self.inside.schedule _ _ _ _ (c.remove.ensures.list ∙ taken_out keys c.place_of-place.result c.args.key.now.number c.self.invariant.row.once at) refl)

pub returns-clause-each : goal.returns-clause-each
returns-clause-each c =
    let keys : List Key = c.self.inside.keys.list in
    let at : StandsAt keys c.place_of-place.result c.args.key.now.number = stands keys c.place_of-place.result c.args.key.now (sym c.stands_at.ensures ∙ c.if-not-stands_at.false) in
    rw (← c.self.view_is) (λ number.
    ap (key_numbered number) (c.remove.ensures.list ∙ taken_out keys c.place_of-place.result c.args.key.now.number c.self.invariant.row.once at)
    ∙ numbered-without number c.args.key.now.number keys)

pub returns-clause-in_order : goal.returns-clause-in_order
returns-clause-in_order c =
    let keys : List Key = c.self.inside.keys.list in
    let at : StandsAt keys c.place_of-place.result c.args.key.now.number = stands keys c.place_of-place.result c.args.key.now (sym c.stands_at.ensures ∙ c.if-not-stands_at.false) in
    rw (c.remove.ensures.list ∙ taken_out keys c.place_of-place.result c.args.key.now.number c.self.invariant.row.once at) (row_without c.self.inside.schedule keys c.args.key.now.number c.self.invariant.row)
