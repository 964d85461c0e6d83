use Rattle.std.proofs.Common.{Some, sym, ap, ◌∙◌}
use Rattle.qm_keyed.specs.Places.{StandsAt, BelongsAt}
use Rattle.qm_keyed.proofs.Keys.{Keys, found, absent}
use Rattle.qm_keyed.proofs.table.Table.get.Goals as goal

pub returns-in_default-clause-found : goal.returns-in_default-clause-found
returns-in_default-clause-found g c =
    let k : Keys g.row.T.Denot g.row.K.Denot = record { cmp = g.K.Ord.cmp; key = g.T.Keyed.key; has = g.T.Keyed.has; follows = g.T.Keyed.follows; total = g.met.K.Ord.total; has_tests = g.met.T.Keyed.has_tests; follows_tests = g.met.T.Keyed.follows_tests } in
    let belongs : BelongsAt k.cmp k.key c.args.key.now c.self.inside.rows.items c.in_default.field-0 = rw c.deref.ensures.value at c.in_default.ensures in
    rw (← c.self.view_is) (sym (absent k c.args.key.now c.self.inside.rows.items c.in_default.field-0 belongs))

pub returns-clause-found : goal.returns-clause-found
returns-clause-found g c =
    let k : Keys g.row.T.Denot g.row.K.Denot = record { cmp = g.K.Ord.cmp; key = g.T.Keyed.key; has = g.T.Keyed.has; follows = g.T.Keyed.follows; total = g.met.K.Ord.total; has_tests = g.met.T.Keyed.has_tests; follows_tests = g.met.T.Keyed.follows_tests } in
    let stands : StandsAt k.cmp k.key c.args.key.now c.self.inside.rows.items c.in-Ok.place = rw c.deref.ensures.value at c.in-Ok.ensures in
    rw (← c.self.view_is) (ap (λ (x : g.row.T.Denot). Some x) c.index.ensures ∙ sym (found k c.args.key.now c.self.inside.rows.items c.in-Ok.place c.index.result.now stands))
