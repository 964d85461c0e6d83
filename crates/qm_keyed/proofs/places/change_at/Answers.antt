use Rattle.std.proofs.Common.{◌≡◌, ◌∙◌, ◌<◌, length, slice_set, refl, ap, arith}
use Rattle.std.specs.Fn.{FnOnceReturnsAtMut}
use Rattle.std.proofs.lemmas.List.{get_or_default}
use Rattle.qm_keyed.proofs.places.change_at.Goals as goal

-- the closure makes of the row that stands there what the ghost value says
pub returns-clause-items : goal.returns-clause-items
returns-clause-items g c = λ d.
    let rows = c.args.rows.now.items in
    let row = c.index_mut.result.now in
    let made = c.change.new.arg2 in
    let gave : FnOnceReturnsAtMut g.F.FnOnce c.args.change row c.change.result made = record { shown = _; shows = refl; left = _; met = c.change.ensures; leaves = refl } in
    let is : made ≡ g.changed row = c.requires.1.1.1.1 row made gave in
    let within : c.args.place < length rows = omega (arith, c.requires.1.1.0, c.args.rows.now.ok) in
    ap (λ (x : g.row.T.Denot). slice_set rows c.args.place x) (is ∙ ap g.changed (c.index_mut.ensures.value ∙ get_or_default rows c.args.place row d within))
