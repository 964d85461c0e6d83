use Rattle.std.proofs.Common.{◌≡◌, ◌∙◌, [], length, map, drop, ap, subst, sym, arith}
use Rattle.std.specs.List.{AllByRecursion, range_with_len}
use Rattle.std.proofs.lemmas.List.{length-map}
use Rattle.qm_history.specs.Chest.{turns_kept}
use Rattle.qm_cluster.specs.Fresh.{own_view}
use Rattle.qm_node.specs.Sides.{side_of}
use Rattle.qm_cluster.specs.Sharing.{HasStood, MayBegin, StandsFor}
use Rattle.qm_cluster.specs.Gathered.{AreGathered, text_at, text_left}
use Rattle.qm_cluster.specs.Through.{is_at}
use Rattle.qm_cluster.proofs.AllTurns.{all_made, are_here, are_numbered, as_many}
use Rattle.qm_cluster.proofs.Numbers.{as_fresh, is_first, taken_whole}
use Rattle.qm_cluster.proofs.turns.end_turns.Goals as goal

pub drive_all-requires-clause-seats : goal.drive_all-requires-clause-seats
drive_all-requires-clause-seats g c κs within =
    ap length c.deref_mut.ensures.value ∙ as_fresh is_at c.args.turnstile.place (length c.args.names.now) c.args.seats.items c.requires.seats

pub drive_all-requires-clause-new : goal.drive_all-requires-clause-new
drive_all-requires-clause-new g c κs within =
    is_first is_at c.args.turnstile.place (length c.args.names.now) c.deref_mut.result.now (ap (map is_at) c.deref_mut.ensures.value ∙ c.requires.seats)

pub join_all-shared-requires-clause-here : goal.join_all-shared-requires-clause-here
join_all-shared-requires-clause-here g c =
    let place = c.args.turnstile.place in
    let lined = length-map c.args.lines.now _ ∙ c.requires.lines in
    let count = length-map c.args.stations.now (side_of g.C.Clock.told) ∙ c.requires.stations in
    let many = as_many is_at c.drive_all.new.seats g.Y.Symbiont.meaning g.S.Serve.meaning.tells (MayBegin g.S.Serve.meaning g.J.Begins.began) turns_kept place c.args.names.now (own_view c.args.lines.now) (map (side_of g.C.Clock.told) c.args.stations.now)
    (map (side_of g.C.Clock.told) c.drive_all.new.stations) c.drive_all.ensures lined count in
    let were = as_fresh is_at place (length c.args.names.now) c.args.seats.items c.requires.seats in
    let written = taken_whole c.args.seats.len c.drive_all.new.seats (drop (length c.drive_all.new.seats) c.args.seats.items) (omega (arith, c.args.seats.ok.0, were, many)) in
    subst (AllByRecursion (λ s. (s.pass.place ≡ place) × (s.pass.took ≡ []))) (sym written)
    (are_here is_at c.drive_all.new.seats g.Y.Symbiont.meaning g.S.Serve.meaning.tells (MayBegin g.S.Serve.meaning g.J.Begins.began) turns_kept place c.args.names.now (own_view c.args.lines.now) (map (side_of g.C.Clock.told) c.args.stations.now)
    (map (side_of g.C.Clock.told) c.drive_all.new.stations) c.drive_all.ensures lined count)

pub join_all-shared-requires-clause-numbers : goal.join_all-shared-requires-clause-numbers
join_all-shared-requires-clause-numbers g c =
    let place = c.args.turnstile.place in
    let lined = length-map c.args.lines.now _ ∙ c.requires.lines in
    let count = length-map c.args.stations.now (side_of g.C.Clock.told) ∙ c.requires.stations in
    let many = as_many is_at c.drive_all.new.seats g.Y.Symbiont.meaning g.S.Serve.meaning.tells (MayBegin g.S.Serve.meaning g.J.Begins.began) turns_kept place c.args.names.now (own_view c.args.lines.now) (map (side_of g.C.Clock.told) c.args.stations.now)
    (map (side_of g.C.Clock.told) c.drive_all.new.stations) c.drive_all.ensures lined count in
    let were = as_fresh is_at place (length c.args.names.now) c.args.seats.items c.requires.seats in
    let written = taken_whole c.args.seats.len c.drive_all.new.seats (drop (length c.drive_all.new.seats) c.args.seats.items) (omega (arith, c.args.seats.ok.0, were, many)) in
    ap (map (λ s. s.pass.number)) written
    ∙ are_numbered is_at c.drive_all.new.seats g.Y.Symbiont.meaning g.S.Serve.meaning.tells (MayBegin g.S.Serve.meaning g.J.Begins.began) turns_kept place c.args.names.now (own_view c.args.lines.now) (map (side_of g.C.Clock.told) c.args.stations.now)
    (map (side_of g.C.Clock.told) c.drive_all.new.stations) c.drive_all.ensures lined count
    ∙ ap (range_with_len 0) (sym c.requires.passes)

pub join_all-shared-requires-clause-room : goal.join_all-shared-requires-clause-room
join_all-shared-requires-clause-room g c =
    let place = c.args.turnstile.place in
    let lined = length-map c.args.lines.now _ ∙ c.requires.lines in
    let count = length-map c.args.stations.now (side_of g.C.Clock.told) ∙ c.requires.stations in
    let many = as_many is_at c.drive_all.new.seats g.Y.Symbiont.meaning g.S.Serve.meaning.tells (MayBegin g.S.Serve.meaning g.J.Begins.began) turns_kept place c.args.names.now (own_view c.args.lines.now) (map (side_of g.C.Clock.told) c.args.stations.now)
    (map (side_of g.C.Clock.told) c.drive_all.new.stations) c.drive_all.ensures lined count in
    let were = as_fresh is_at place (length c.args.names.now) c.args.seats.items c.requires.seats in
    let written = taken_whole c.args.seats.len c.drive_all.new.seats (drop (length c.drive_all.new.seats) c.args.seats.items) (omega (arith, c.args.seats.ok.0, were, many)) in
    let same = ap length written in
    let room = c.requires.room in
    omega (arith, same, many, room)

pub returns : goal.returns
returns g c =
    let place = c.args.turnstile.place in
    let lined = length-map c.args.lines.now _ ∙ c.requires.lines in
    let count = length-map c.args.stations.now (side_of g.C.Clock.told) ∙ c.requires.stations in
    let many = as_many is_at c.drive_all.new.seats g.Y.Symbiont.meaning g.S.Serve.meaning.tells (MayBegin g.S.Serve.meaning g.J.Begins.began) turns_kept place c.args.names.now (own_view c.args.lines.now) (map (side_of g.C.Clock.told) c.args.stations.now)
    (map (side_of g.C.Clock.told) c.drive_all.new.stations) c.drive_all.ensures lined count in
    let were = as_fresh is_at place (length c.args.names.now) c.args.seats.items c.requires.seats in
    let written = taken_whole c.args.seats.len c.drive_all.new.seats (drop (length c.drive_all.new.seats) c.args.seats.items) (omega (arith, c.args.seats.ok.0, were, many)) in
    all_made is_at c.drive_all.new.seats g.Y.Symbiont.meaning g.S.Serve.meaning.tells (MayBegin g.S.Serve.meaning g.J.Begins.began) turns_kept place c.args.names.now (own_view c.args.lines.now) (map (side_of g.C.Clock.told) c.args.stations.now)
    (map (side_of g.C.Clock.told) c.drive_all.new.stations) c.drive_all.ensures lined count
    (StandsFor g.S.Serve.meaning.tells (MayBegin g.S.Serve.meaning g.J.Begins.began) g.S.Serve.meaning.turns (HasStood g.S.Serve.meaning g.J.Begins.began)) (λ shared. shared.manager) c.join_all-shared.result.0 (map text_left c.join_all-shared.result.1.items)
    (subst (λ l. AreGathered (λ shared notes. StandsFor g.S.Serve.meaning.tells (MayBegin g.S.Serve.meaning g.J.Begins.began) g.S.Serve.meaning.turns (HasStood g.S.Serve.meaning g.J.Begins.began) shared.manager notes) (map (λ s. s.pass) l) c.join_all-shared.result.0) written
    c.join_all-shared.ensures.gathered)
    (c.join_all-shared.ensures.texts ∙ ap (map (λ s. text_at (is_at s))) written)
