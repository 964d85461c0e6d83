use Rattle.std.proofs.Common.{sym}
use Rattle.qm_keyed.proofs.Keys.{Keys, next_behind_it, next_from_there}
use Rattle.qm_keyed.proofs.places.place_after.Goals as goal

pub returns-in-Ok : goal.returns-in-Ok
returns-in-Ok g c =
    let k : Keys g.row.T.Denot g.row.K.Denot = record { cmp = g.K.Ord.cmp; key = g.T.Keyed.key; has = g.T.Keyed.has; follows = g.T.Keyed.follows; total = g.met.K.Ord.total; has_tests = g.met.T.Keyed.has_tests; follows_tests = g.met.T.Keyed.follows_tests } in
    sym (next_behind_it k c.args.key.now c.args.rows.now c.in-Ok.place c.in-Ok.ensures)

pub returns-in-Err : goal.returns-in-Err
returns-in-Err g c =
    let k : Keys g.row.T.Denot g.row.K.Denot = record { cmp = g.K.Ord.cmp; key = g.T.Keyed.key; has = g.T.Keyed.has; follows = g.T.Keyed.follows; total = g.met.K.Ord.total; has_tests = g.met.T.Keyed.has_tests; follows_tests = g.met.T.Keyed.follows_tests } in
    sym (next_from_there k c.args.key.now c.args.rows.now c.in-Err.place c.in-Err.ensures)
