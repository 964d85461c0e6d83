use Rattle.std.proofs.Common.{is_some, if◌then◌else◌, map, refl, sym, ap, ◌∙◌, arith}
use Rattle.qm_keyed.specs.Places.{StandsAt, BelongsAt}
use Rattle.qm_keyed.specs.Rows.{Rows}
use Rattle.qm_keyed.proofs.Keys.{Keys, absent, unchanged, changed_is, order_changed, is_found, rows_are}
use Rattle.qm_keyed.proofs.table.Table.change.Goals as goal

pub returns-in_default-clause-found : goal.returns-in_default-clause-found
returns-in_default-clause-found g c =
    let k : Keys g.row.T.Denot g.row.K.Denot = record { cmp = g.K.Ord.cmp; key = g.T.Keyed.key; has = g.T.Keyed.has; follows = g.T.Keyed.follows; total = g.met.K.Ord.total; has_tests = g.met.T.Keyed.has_tests; follows_tests = g.met.T.Keyed.follows_tests } in
    let belongs : BelongsAt k.cmp k.key c.args.key.now c.self.inside.rows.items c.in_default.field-0 = rw c.deref.ensures.value at c.in_default.ensures in
    rw (← c.self.view_is) (sym (ap is_some (absent k c.args.key.now c.self.inside.rows.items c.in_default.field-0 belongs)))

pub returns-in_default-clause-rows : goal.returns-in_default-clause-rows
returns-in_default-clause-rows g c =
    let k : Keys g.row.T.Denot g.row.K.Denot = record { cmp = g.K.Ord.cmp; key = g.T.Keyed.key; has = g.T.Keyed.has; follows = g.T.Keyed.follows; total = g.met.K.Ord.total; has_tests = g.met.T.Keyed.has_tests; follows_tests = g.met.T.Keyed.follows_tests } in
    let belongs : BelongsAt k.cmp k.key c.args.key.now c.self.inside.rows.items c.in_default.field-0 = rw c.deref.ensures.value at c.in_default.ensures in
    rw (← c.self.view_is) (rows_are _ _ _ _ (unchanged k c.args.key.now c.self.inside.rows.items c.in_default.field-0 g.changed belongs) refl)

pub invariant_of-self : goal.invariant_of-self
invariant_of-self g c =
    let k : Keys g.row.T.Denot g.row.K.Denot = record { cmp = g.K.Ord.cmp; key = g.T.Keyed.key; has = g.T.Keyed.has; follows = g.T.Keyed.follows; total = g.met.K.Ord.total; has_tests = g.met.T.Keyed.has_tests; follows_tests = g.met.T.Keyed.follows_tests } in
    let stands : StandsAt k.cmp k.key c.args.key.now c.self.inside.rows.items c.in-Ok.place = rw c.deref.ensures.value at c.in-Ok.ensures in
    order_changed k g.changed c.self.inside.rows.items c.change_at.new.rows.items c.in-Ok.place stands.within c.change_at.ensures.items c.requires.1.1.1.1.1 c.self.invariant

pub returns-clause-found : goal.returns-clause-found
returns-clause-found g c =
    let k : Keys g.row.T.Denot g.row.K.Denot = record { cmp = g.K.Ord.cmp; key = g.T.Keyed.key; has = g.T.Keyed.has; follows = g.T.Keyed.follows; total = g.met.K.Ord.total; has_tests = g.met.T.Keyed.has_tests; follows_tests = g.met.T.Keyed.follows_tests } in
    let stands : StandsAt k.cmp k.key c.args.key.now c.self.inside.rows.items c.in-Ok.place = rw c.deref.ensures.value at c.in-Ok.ensures in
    rw (← c.self.view_is) (is_found k c.self.inside.rows.items c.args.key.now c.in-Ok.place stands)

pub returns-clause-rows : goal.returns-clause-rows
returns-clause-rows g c =
    let k : Keys g.row.T.Denot g.row.K.Denot = record { cmp = g.K.Ord.cmp; key = g.T.Keyed.key; has = g.T.Keyed.has; follows = g.T.Keyed.follows; total = g.met.K.Ord.total; has_tests = g.met.T.Keyed.has_tests; follows_tests = g.met.T.Keyed.follows_tests } in
    let stands : StandsAt k.cmp k.key c.args.key.now c.self.inside.rows.items c.in-Ok.place = rw c.deref.ensures.value at c.in-Ok.ensures in
    let rows = changed_is k g.changed c.self.inside.rows.items c.change_at.new.rows.items c.args.key.now c.in-Ok.place stands c.change_at.ensures.items in
    let spare = ap (λ (w : Rows g.row.T.Denot). w.spare) c.self.view_is in
    rows_are _ _ _ _ (rows ∙ ap (λ (w : Rows g.row.T.Denot). map (λ x. if k.has c.args.key.now x then g.changed x else x) w.rows) c.self.view_is) (omega (arith, spare))
