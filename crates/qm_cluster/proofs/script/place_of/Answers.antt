use Rattle.std.proofs.Common.{◌≡◌, ◌<◌, ◌∙◌, ℕ, List, Some, length, false, refl, sym, ap, subst, arith, bytes_eq}
use Rattle.std.proofs.lemmas.Option.{slice_get_read}
use Rattle.std.proofs.lemmas.Slice.Eq.{bytes_eq-Decides}
use Rattle.qm_cluster.proofs.Sitting.{found_none, name_at, one_more_past}
use Rattle.qm_cluster.proofs.script.place_of.Goals as goal

pub places-init : goal.places-init
places-init g c = λ j below is. omega (arith, below)

pub returns-then-eq-clause-name : goal.returns-then-eq-clause-name
returns-then-eq-clause-name g c =
    let within : c.places.place < length c.args.seats.now = omega (arith, c.places-test.true, c.places.auto.place-end) in
    let at = slice_get_read c.args.seats.now (length c.args.seats.now) c.places.place c.index-seats-place.result refl within c.index-seats-place.is in
    name_at c.args.seats.now c.places.place c.index-seats-place.result at
    ∙ ap Some (sym c.name.ensures ∙ (bytes_eq-Decides c.name.result c.args.name.now).0 (sym c.eq.ensures ∙ c.if-eq.true))

pub places-preserved : goal.places-preserved
places-preserved g c =
    let within : c.places.place < length c.args.seats.now = omega (arith, c.places-test.true, c.places.auto.place-end) in
    let at = slice_get_read c.args.seats.now (length c.args.seats.now) c.places.place c.index-seats-place.result refl within c.index-seats-place.is in
    one_more_past c.args.seats.now c.args.name.now c.places.place c.index-seats-place.result at
    (subst (λ (n : List ℕ). bytes_eq n c.args.name.now ≡ false) c.name.ensures (sym c.eq.ensures ∙ c.if-eq.false)) c.places.invariant

pub unreachable-requires : goal.unreachable-requires
unreachable-requires g c =
    found_none c.args.seats.now c.args.name.now c.places.place (omega (arith, c.places-test.false, c.places.auto.place-end)) c.requires c.places.invariant
