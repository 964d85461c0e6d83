use Rattle.std.proofs.Common.{◌∙◌, ℕ, List, refl, arith, bytes_eq}
use Rattle.std.specs.List.{list_any}
use Rattle.qm_parts.specs.Rooms.{is_one_of}
use Rattle.qm_parts.proofs.Widening.{if_ok, keeps_on, room_either, still_room}
use Rattle.qm_parts.proofs.rooms.widen_each.Goals as goal

pub returns-clause-places : goal.returns-clause-places
returns-clause-places c =
    let t = c.args.tables.now in
    let name = c.args.name.now in
    let ts : List (List ℕ) = c.args.targets.now in
    if_ok c.widen_targets.result
    (λ room.
    room_either t c.args.more (λ q. bytes_eq name q.name) (λ q. list_any (λ target. bytes_eq target q.name) ts) (is_one_of name ts) c.widen_targets.new.rows.items (λ q. refl)
    (still_room t c.args.more (λ q. bytes_eq name q.name) c.widen_named.new.rows.items c.widen_targets.new.rows.items (omega (arith, c.requires.enough, c.widen_named.ensures.same.count)) c.widen_targets.ensures.same c.in_ok-widen_named.ensures.places)
    room)
    c.widen_targets.ensures.places

pub returns-clause-same : goal.returns-clause-same
returns-clause-same c = keeps_on c.args.rows.now.items c.widen_named.new.rows.items c.widen_targets.new.rows.items c.widen_named.ensures.same c.widen_targets.ensures.same

pub returns-clause-bounded : goal.returns-clause-bounded
returns-clause-bounded c = c.widen_targets.ensures.bounded ∙ c.widen_named.ensures.bounded
