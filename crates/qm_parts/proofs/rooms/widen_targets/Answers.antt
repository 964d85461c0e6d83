use Rattle.std.proofs.Common.{◌+◌, ◌∙◌, ◌||◌, ℕ, List, take, refl, ap, arith, sym, subst, bytes_eq, take_all}
use Rattle.std.specs.List.{list_any}
use Rattle.std.proofs.lemmas.List.Folds.{list_any_more}
use Rattle.qm_parts.specs.Rooms.{HasRoomWhere}
use Rattle.qm_parts.proofs.Widening.{keeps_on, keeps_same, room_either, still_room}
use Rattle.qm_parts.proofs.rooms.widen_targets.Goals as goal

pub loop-target-init : goal.loop-target-init
loop-target-init c = record {
  places = λ k q within is. absurd (cc);
  same = keeps_same c.args.rows.now.items;
  bounded = refl;
  bounds = c.requires.bounds;
}

pub loop-target-preserved : goal.loop-target-preserved
loop-target-preserved c =
    let ts : List (List ℕ) = c.args.targets.now in
    let i = c.loop-target.target-index in
    let before = c.loop-target.rows.items in
    let after = c.widen_named.new.rows.items in
    record {
      places =
          room_either c.args.tables.now c.args.more (λ q. list_any (λ target. bytes_eq target q.name) (take i ts)) (λ q. bytes_eq c.target-item.result q.name) (λ q. list_any (λ target. bytes_eq target q.name) (take (i + 1) ts))
          after
          (λ q. list_any_more (λ target. bytes_eq target q.name) ts i c.target-item.result c.loop-target-test.true ∙ ap (λ (n : List ℕ). list_any (λ target. bytes_eq target q.name) (take i ts) || bytes_eq n q.name) (sym c.target-item.is))
          (still_room c.args.tables.now c.args.more (λ q. list_any (λ target. bytes_eq target q.name) (take i ts)) before after (omega (arith, c.requires.enough, c.loop-target.invariant.same.count)) c.widen_named.ensures.same c.loop-target.invariant.places)
          c.in_ok-widen_named.ensures.places;
      same = keeps_on c.args.rows.now.items before after c.loop-target.invariant.same c.widen_named.ensures.same;
      bounded = c.widen_named.ensures.bounded ∙ c.loop-target.invariant.bounded;
      bounds = c.widen_named.ensures.bounds;
    }

pub returns-in_err-widen_named-clause-same : goal.returns-in_err-widen_named-clause-same
returns-in_err-widen_named-clause-same c = keeps_on c.args.rows.now.items c.loop-target.rows.items c.widen_named.new.rows.items c.loop-target.invariant.same c.widen_named.ensures.same

pub returns-clause-places : goal.returns-clause-places
returns-clause-places c =
    let ts : List (List ℕ) = c.args.targets.now in
    subst (λ (us : List (List ℕ)). HasRoomWhere (λ q. list_any (λ target. bytes_eq target q.name) us) c.args.more c.args.tables.now c.loop-target.rows.items)
    (take_all c.loop-target.target-index ts (omega (arith, c.loop-target-test.false))) c.loop-target.invariant.places
