use Rattle.std.proofs.Common.{Some, sym, ap, ◌∙◌, arith}
use Rattle.qm_keyed.specs.Places.{StandsAt, BelongsAt}
use Rattle.qm_keyed.specs.Rows.{Rows, with_row}
use Rattle.qm_keyed.proofs.Keys.{Keys, found, absent, put_is, replaced_is, rows_are}
use Rattle.qm_keyed.proofs.table.Table.put.Goals as goal

pub returns-in-Ok-clause-replaced : goal.returns-in-Ok-clause-replaced
returns-in-Ok-clause-replaced g c =
    let k : Keys g.row.T.Denot g.row.K.Denot = record { cmp = g.K.Ord.cmp; key = g.T.Keyed.key; has = g.T.Keyed.has; follows = g.T.Keyed.follows; total = g.met.K.Ord.total; has_tests = g.met.T.Keyed.has_tests; follows_tests = g.met.T.Keyed.follows_tests } in
    let stands : StandsAt k.cmp k.key (k.key c.args.row) c.self.inside.rows.items c.in-Ok.place = rw (c.deref.ensures.value, c.key.ensures) at c.in-Ok.ensures in
    rw (← c.self.view_is)
    (ap (λ (x : g.row.T.Denot). Some x) (c.replace.ensures.replaced c.replace.result)
    ∙ sym (found k (k.key c.args.row) c.self.inside.rows.items c.in-Ok.place c.replace.result stands))

pub returns-in-Ok-clause-rows : goal.returns-in-Ok-clause-rows
returns-in-Ok-clause-rows g c =
    let k : Keys g.row.T.Denot g.row.K.Denot = record { cmp = g.K.Ord.cmp; key = g.T.Keyed.key; has = g.T.Keyed.has; follows = g.T.Keyed.follows; total = g.met.K.Ord.total; has_tests = g.met.T.Keyed.has_tests; follows_tests = g.met.T.Keyed.follows_tests } in
    let stands : StandsAt k.cmp k.key (k.key c.args.row) c.self.inside.rows.items c.in-Ok.place = rw (c.deref.ensures.value, c.key.ensures) at c.in-Ok.ensures in
    let rows = c.replace.ensures.items ∙ replaced_is k c.args.row c.self.inside.rows.items c.in-Ok.place stands ∙ ap (λ (w : Rows g.row.T.Denot). with_row k.has k.follows k.key c.args.row w.rows) c.self.view_is in
    let spare = ap (λ (w : Rows g.row.T.Denot). w.spare) c.self.view_is in
    rows_are _ _ _ _ rows (omega (arith, spare))

pub returns-in-Err-clause-replaced : goal.returns-in-Err-clause-replaced
returns-in-Err-clause-replaced g c =
    let k : Keys g.row.T.Denot g.row.K.Denot = record { cmp = g.K.Ord.cmp; key = g.T.Keyed.key; has = g.T.Keyed.has; follows = g.T.Keyed.follows; total = g.met.K.Ord.total; has_tests = g.met.T.Keyed.has_tests; follows_tests = g.met.T.Keyed.follows_tests } in
    let belongs : BelongsAt k.cmp k.key (k.key c.args.row) c.self.inside.rows.items c.in-Err.place = rw (c.deref.ensures.value, c.key.ensures) at c.in-Err.ensures in
    rw (← c.self.view_is) (sym (absent k (k.key c.args.row) c.self.inside.rows.items c.in-Err.place belongs))

pub returns-in-Err-clause-rows : goal.returns-in-Err-clause-rows
returns-in-Err-clause-rows g c =
    let k : Keys g.row.T.Denot g.row.K.Denot = record { cmp = g.K.Ord.cmp; key = g.T.Keyed.key; has = g.T.Keyed.has; follows = g.T.Keyed.follows; total = g.met.K.Ord.total; has_tests = g.met.T.Keyed.has_tests; follows_tests = g.met.T.Keyed.follows_tests } in
    let belongs : BelongsAt k.cmp k.key (k.key c.args.row) c.self.inside.rows.items c.in-Err.place = rw (c.deref.ensures.value, c.key.ensures) at c.in-Err.ensures in
    let rows = c.put.ensures.items ∙ put_is k c.args.row c.self.inside.rows.items c.in-Err.place belongs ∙ ap (λ (w : Rows g.row.T.Denot). with_row k.has k.follows k.key c.args.row w.rows) c.self.view_is in
    let spare = ap (λ (w : Rows g.row.T.Denot). w.spare) c.self.view_is in
    rows_are _ _ _ _ rows (omega (arith, spare))
