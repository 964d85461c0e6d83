-- From what was left at each place to what is said of all nodes.
use Rattle.std.proofs.Common.{◌≡◌, ℕ, ◌<◌, ◌≤◌, Bool, true, IsTrue, List, [], length, map, refl, sym, ◌∙◌, subst, Some, arith, zero-add, slice_get}
use Rattle.std.proofs.lemmas.List.{length-map}
use Rattle.atomic_table.specs.Seated.{TableId}
use Rattle.qm_symb.specs.Device.{Meaning}
use Rattle.qm_history.specs.Common.{NODES_LIMIT, IsSound, is_live, UserLine}
use Rattle.qm_history.specs.Serving.{Meaning as MeaningOf}
use Rattle.qm_history.specs.declared.world.World.{World}
use Rattle.qm_node.specs.Sides.{Side}
use Rattle.qm_turn.specs.Turns.{Known, fresh}
use Rattle.qm_cluster.specs.declared.noted.Noted.{Noted}
use Rattle.qm_turn.specs.Each.{CanBeWorkedOn, IsWorkedOn}
use Rattle.qm_cluster.specs.Sharing.{IsThere, MayBegin}
use Rattle.qm_cluster.specs.Through.{AllAreThrough, AtTurnstile, CanBeDriven, IsThrough, first_at}
use Rattle.qm_cluster.proofs.Places.{get_below, made_from, there}

module _ {A B Y : Type 0} (y : Meaning Y) (tells : Bool) (may_begin : World → Type 0) (most : ℕ) (is_at : A → AtTurnstile) (side : B → Side Y) (place : TableId) (names : List (List ℕ)) (lines : List (List UserLine))
    (seats then : List A) (stations after : List B)
  where
    -- what is left of the node at a place
    abbrev pub Leaves : ℕ → A → B → A → B → Type 0
    Leaves node seat station seat' station' =
        (name : List ℕ) (own : List UserLine) → slice_get names node ≡ Some name → slice_get lines node ≡ Some own
        → IsThrough y tells may_begin most node name own (is_at seat) (is_at seat') (side station) (side station')

    pub all_through : IsWorkedOn Leaves 0 seats stations then after → length seats ≡ length names → ((k : ℕ) (seat : A) → slice_get seats k ≡ Some seat → is_at seat ≡ first_at (fresh place k))
        → AllAreThrough y tells may_begin most place names lines (map is_at then) (map side stations) (map side after)
    all_through worked count new =
        record {
          count = length-map then is_at ∙ worked.firsts_stay ∙ count;
          stations = length-map after side ∙ worked.seconds_stay ∙ sym (length-map stations side);
          each = λ node name own at was now named lined left before behind.
              let seat' = made_from is_at then node at left in
              let station = made_from side stations node was before in
              let station' = made_from side after node now behind in
              let low = get_below then node seat'.0 seat'.1 in
              let stay = worked.firsts_stay in
              let seat = there seats node (omega (arith, low, stay)) in
              let through : IsThrough y tells may_begin most node name own (is_at seat.0) (is_at seat'.0) (side station.0) (side station'.0) =
              subst (λ (k : ℕ). Leaves k seat.0 station.0 seat'.0 station'.0) (zero-add node) (worked.each node seat.0 station.0 seat'.0 station'.0 seat.1 station.1 seat'.1 station'.1) name own named lined in
              subst (λ (a : AtTurnstile). IsThrough y tells may_begin most node name own (first_at (fresh place node)) a was now) seat'.2
              (subst (λ (s : Side Y). IsThrough y tells may_begin most node name own (first_at (fresh place node)) (is_at seat'.0) s now) station.2
              (subst (λ (s : Side Y). IsThrough y tells may_begin most node name own (first_at (fresh place node)) (is_at seat'.0) (side station.0) s) station'.2
              (subst (λ (a : AtTurnstile). IsThrough y tells may_begin most node name own a (is_at seat'.0) (side station.0) (side station'.0)) (new node seat.0 seat.1) through)));
        }

module _ {S A B : Type 0} (m : MeaningOf S) (began : List S) (known : A → Known Noted) (text : A → List ℕ) (place : TableId) (names lines : ℕ) (seats : List A) (stations : List B) where
  -- what is asked of the node at a place
  abbrev pub Ready : ℕ → A → B → Type 0
  Ready node seat station = CanBeDriven m began names lines node × (known seat ≡ fresh place node) × (text seat ≡ [])

  pub all_ready : length seats ≡ names → length stations ≡ names → names ≤ NODES_LIMIT → lines ≡ names → ((k : ℕ) (seat : A) → slice_get seats k ≡ Some seat → (known seat ≡ fresh place k) × (text seat ≡ []))
      → ((node : ℕ) → node < names → IsThere m began node)
      → (IsTrue m.tells → (w : World) → MayBegin m began w → (node : ℕ) → node < names → IsSound w × (is_live w node ≡ true))
      → CanBeWorkedOn Ready 0 seats stations
  all_ready count same few lined new theirs sound =
      record {
        both = same ∙ sym count;
        room = (let limit : NODES_LIMIT ≡ 8 = refl in omega (arith, count, few, limit));
        each = λ k seat station at_seat at_station.
            let low = get_below seats k seat at_seat in
            let within : k < names = omega (arith, low, count) in
            subst (λ (n : ℕ). Ready n seat station) (sym (zero-add k)) (
              record {
                few = few;
                named = within;
                lined = omega (arith, within, lined);
                there = theirs k within;
                sound = λ sure w begins. sound sure w begins k within;
              },
              (new k seat at_seat).0,
              (new k seat at_seat).1,
            );
      }
