use Rattle.std.proofs.Common.{◌<◌, ◌++◌, ◌∷◌, ◌∙◌, [], length, refl, sym, ap, arith, take_all}
use Rattle.std.proofs.lemmas.Option.{slice_get_read}
use Rattle.qm_script.specs.ClusterLines.{user_lines_view}
use Rattle.qm_node.specs.Seats.{HeldSeat}
use Rattle.qm_cluster.proofs.Seated.{are_seated, front_seats, own_at, seat_more}
use Rattle.qm_cluster.proofs.fresh.seats_of.Goals as goal

pub places-preserved : goal.places-preserved
places-preserved g c = λ script is.
    let within : c.places.place < length c.args.names.now = omega (arith, c.places-test.true, c.places.auto.place-end) in
    let has : c.places.place < length c.args.own.now = omega (arith, within, c.requires) in
    let name = slice_get_read c.args.names.now (length c.args.names.now) c.places.place c.index-names-place.result refl within c.index-names-place.is in
    let lines = slice_get_read c.args.own.now (length c.args.own.now) c.places.place c.index-own-place.result refl has c.index-own-place.is in
    c.in_ok-push.ensures.items
    ∙ ap (λ (s : HeldSeat). c.places.seats.items ++ s ∷ []) c.new.ensures
    ∙ seat_more script c.args.names.now c.places.place c.index-names-place.result (user_lines_view c.deref.result.now) c.places.seats.items within (sym c.index-names-place.is)
    (c.places.invariant script is)
    (ap user_lines_view c.deref.ensures.value ∙ own_at c.args.own.now script c.args.names.now c.places.place c.index-own-place.result c.index-names-place.result is lines name)

pub returns : goal.returns
returns g c = λ script is.
    are_seated script c.args.names.now c.places.seats.items
    (c.places.invariant script is ∙ ap (front_seats script) (take_all c.places.place c.args.names.now (omega (arith, c.places-test.false, c.places.auto.place-end))))
