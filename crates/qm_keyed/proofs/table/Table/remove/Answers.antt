use Rattle.std.proofs.Common.{Some, not, refl, sym, ap, ◌∙◌, arith, filter}
use Rattle.qm_keyed.specs.Places.{StandsAt, BelongsAt}
use Rattle.qm_keyed.specs.Rows.{Rows}
use Rattle.qm_keyed.proofs.Keys.{Keys, found, absent, removed, kept, rows_are}
use Rattle.qm_keyed.proofs.table.Table.remove.Goals as goal

pub returns-in_default-clause-removed : goal.returns-in_default-clause-removed
returns-in_default-clause-removed g c =
    let k : Keys g.row.T.Denot g.row.K.Denot = record { cmp = g.K.Ord.cmp; key = g.T.Keyed.key; has = g.T.Keyed.has; follows = g.T.Keyed.follows; total = g.met.K.Ord.total; has_tests = g.met.T.Keyed.has_tests; follows_tests = g.met.T.Keyed.follows_tests } in
    let belongs : BelongsAt k.cmp k.key c.args.key.now c.self.inside.rows.items c.in_default.field-0 = rw c.deref.ensures.value at c.in_default.ensures in
    rw (← c.self.view_is) (sym (absent k c.args.key.now c.self.inside.rows.items c.in_default.field-0 belongs))

pub returns-in_default-clause-rows : goal.returns-in_default-clause-rows
returns-in_default-clause-rows g c =
    let k : Keys g.row.T.Denot g.row.K.Denot = record { cmp = g.K.Ord.cmp; key = g.T.Keyed.key; has = g.T.Keyed.has; follows = g.T.Keyed.follows; total = g.met.K.Ord.total; has_tests = g.met.T.Keyed.has_tests; follows_tests = g.met.T.Keyed.follows_tests } in
    let belongs : BelongsAt k.cmp k.key c.args.key.now c.self.inside.rows.items c.in_default.field-0 = rw c.deref.ensures.value at c.in_default.ensures in
    rw (← c.self.view_is) (rows_are _ _ _ _ (kept k c.args.key.now c.self.inside.rows.items c.in_default.field-0 belongs) refl)

pub returns-clause-removed : goal.returns-clause-removed
returns-clause-removed g c =
    let k : Keys g.row.T.Denot g.row.K.Denot = record { cmp = g.K.Ord.cmp; key = g.T.Keyed.key; has = g.T.Keyed.has; follows = g.T.Keyed.follows; total = g.met.K.Ord.total; has_tests = g.met.T.Keyed.has_tests; follows_tests = g.met.T.Keyed.follows_tests } in
    let stands : StandsAt k.cmp k.key c.args.key.now c.self.inside.rows.items c.in-Ok.place = rw c.deref.ensures.value at c.in-Ok.ensures in
    rw (← c.self.view_is) (ap (λ (x : g.row.T.Denot). Some x) c.remove.ensures.value ∙ sym (found k c.args.key.now c.self.inside.rows.items c.in-Ok.place c.remove.result stands))

pub returns-clause-rows : goal.returns-clause-rows
returns-clause-rows g c =
    let k : Keys g.row.T.Denot g.row.K.Denot = record { cmp = g.K.Ord.cmp; key = g.T.Keyed.key; has = g.T.Keyed.has; follows = g.T.Keyed.follows; total = g.met.K.Ord.total; has_tests = g.met.T.Keyed.has_tests; follows_tests = g.met.T.Keyed.follows_tests } in
    let stands : StandsAt k.cmp k.key c.args.key.now c.self.inside.rows.items c.in-Ok.place = rw c.deref.ensures.value at c.in-Ok.ensures in
    let rows = c.remove.ensures.items ∙ removed k c.args.key.now c.self.inside.rows.items c.in-Ok.place stands ∙ ap (λ (w : Rows g.row.T.Denot). filter (λ x. not (k.has c.args.key.now x)) w.rows) c.self.view_is in
    let spare = ap (λ (w : Rows g.row.T.Denot). w.spare) c.self.view_is in
    rows_are _ _ _ _ rows (omega (arith, spare, c.self.inside.rows.ok))
