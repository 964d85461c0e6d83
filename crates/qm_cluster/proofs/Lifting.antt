-- Turns of one node, as what all nodes did; and these behind others.
use Rattle.std.proofs.Common.{◌≡◌, ◌⊎◌, inl, inr, ℕ, zero, suc, Bool, true, false, List, [], ◌∷◌, ◌++◌, length, refl, sym, ◌∙◌, ap, subst, Option, Some, arith, ◌==◌, slice_get, slice_set, append_assoc, length-set}
use Rattle.std.specs.Io.KnownBytes.{Appends}
use Rattle.std.proofs.lemmas.Bool.Decides.{nat_tests}
use Rattle.qm_symb.specs.Device as symb
use Rattle.qm_history.specs.declared.turn.Turn.{Turn}
use Rattle.qm_history.specs.declared.turn.Why.{Why}
use Rattle.qm_history.specs.declared.world.World.{World}
use Rattle.qm_history.specs.Common.{faults_told, after_turns, text, is_live}
use Rattle.qm_history.specs.Order.{AreInOrder, Served}
use Rattle.qm_history.proofs.EventLemmas.{turns_append}
use Rattle.qm_history.proofs.HistoryLemmas.{text_append}
use Rattle.qm_sjc.specs.Printed.{items_line}
use Rattle.qm_cluster.specs.Runs.{AllDown, AllGo, AllStop, AllWait, AreLive, NodeGoes, NodeStops, Site, served_after}
use Rattle.qm_node.specs.Sides.{Side}
use Rattle.qm_node.specs.Seats.{HeldSeat, standing_of}
use Rattle.qm_history.specs.Serving.{LeavesNone, Meaning}
use Rattle.qm_node.specs.Outside.{Outside}
use Rattle.qm_node.specs.Taken.{RoseBy}
use Rattle.qm_cluster.specs.Turning.{Goes, GoesAt, IsDownOver, Stops, StopsAt, TakesUpTo}
use Rattle.qm_node.specs.declared.turn.TurnEnd.{TurnEnd}
use Rattle.qm_cluster.proofs.Counting.{appends_on, rose_on}
use Rattle.qm_cluster.proofs.Joining.{made_on, told_append, told_to_on, up_to_on}
use Rattle.qm_cluster.proofs.Ordering.{after_append, order_append}
use Rattle.qm_cluster.proofs.Sharing.{node_stops_then, node_then, other_goes, other_stops, own_goes, own_stops}

-- ---- one place of a list

pub get_set_same : {X : Type 0} (xs : List X) (i : ℕ) (x v : X) → slice_get xs i ≡ Some x → slice_get (slice_set xs i v) i ≡ Some v
get_set_same [] i x v is = cc
get_set_same (a ∷ xs) zero x v is = refl
get_set_same (a ∷ xs) (suc i) x v is = get_set_same xs i x v is

pub get_set_other : {X : Type 0} (xs : List X) (i j : ℕ) (v : X) → (j ≡ i → ⊥) → slice_get (slice_set xs i v) j ≡ slice_get xs j
get_set_other [] i j v differs = refl
get_set_other (a ∷ xs) zero zero v differs = absurd (differs refl)
get_set_other (a ∷ xs) zero (suc j) v differs = refl
get_set_other (a ∷ xs) (suc i) zero v differs = refl
get_set_other (a ∷ xs) (suc i) (suc j) v differs = get_set_other xs i j v (λ same. differs (ap suc same))

pub some_there : {X Z : Type 0} (xs : List X) (ys : List Z) (i : ℕ) (x : X) → slice_get xs i ≡ Some x → length ys ≡ length xs → (y : Z) × (slice_get ys i ≡ Some y)
some_there [] ys i x is len = cc
some_there (a ∷ xs) [] i x is len = absurd (omega (arith, len))
some_there (a ∷ xs) (b ∷ ys) zero x is len = (b, refl)
some_there (a ∷ xs) (b ∷ ys) (suc i) x is len = some_there xs ys i x is (omega (arith, len))

pub some_same : {X : Type 0} (o : Option X) (x z : X) → o ≡ Some x → o ≡ Some z → z ≡ x
some_same o x z first second = let e : Some z ≡ Some x = sym second ∙ first in cc

by_test : (a b : ℕ) (t : Bool) → (a == b) ≡ t → (a ≡ b) ⊎ (a ≡ b → ⊥)
by_test a b true is = inl (grind (arith, nat_tests))
by_test a b false is = inr (λ same. let yes : (a == b) ≡ true = grind (arith, nat_tests) in cc)

pub decide : (a b : ℕ) → (a ≡ b) ⊎ (a ≡ b → ⊥)
decide a b = by_test a b (a == b) refl

-- ---- turns of one node

abbrev pub around : {S Y : Type 0} → Outside S Y → List HeldSeat → List (Side Y) → Site S Y
around o seats sides = record { value = o.value; taken = o.taken; seats = seats; sides = sides }

abbrev pub side_at : {S Y : Type 0} → Outside S Y → Side Y
side_at o = record { told = o.told; symbiont = o.symbiont }

module _ {S Y : Type 0} (m : Meaning S) (y : symb.Meaning Y) (May : Why → Type 0) (k : ℕ) (here : HeldSeat) (old new : Outside S Y) (seats : List HeldSeat) (sides : List (Side Y))
    (at_k : slice_get seats k ≡ Some here) (side_k : slice_get sides k ≡ Some (side_at old))
  where
    module _ (there : HeldSeat) (g : Goes m y May k (standing_of here) (standing_of there) old new) where
      abbrev seats_then : List HeldSeat
      seats_then = slice_set seats k there

      abbrev sides_then : List (Side Y)
      sides_then = slice_set sides k (side_at new)

      module _ (w : World) (a : GoesAt m y w k (standing_of here) (standing_of there) g.turns old new) where
        live_by : AreLive w seats → (node : ℕ) (seat : HeldSeat) → (node ≡ k) ⊎ (node ≡ k → ⊥) → slice_get seats_then node ≡ Some seat → seat.live ≡ is_live (after_turns w g.turns) node
        live_by live node seat (inl same) is =
            let found = subst (λ (j : ℕ). slice_get seats_then j ≡ Some seat) same is in
            ap (λ (s : HeldSeat). s.live) (some_same (slice_get seats_then k) there seat (get_set_same seats k here there at_k) found)
            ∙ a.live ∙ ap (is_live (after_turns w g.turns)) (sym same)
        live_by live node seat (inr differs) is =
            live node seat (sym (get_set_other seats k node there differs) ∙ is) ∙ sym (a.others node differs)

        down_by : AllDown seats → (node : ℕ) (seat : HeldSeat) → (node ≡ k) ⊎ (node ≡ k → ⊥) → slice_get seats_then node ≡ Some seat → IsDownOver (standing_of seat)
        down_by down node seat (inl same) is =
            let found = subst (λ (j : ℕ). slice_get seats_then j ≡ Some seat) same is in
            subst (λ (s : HeldSeat). IsDownOver (standing_of s)) (sym (some_same (slice_get seats_then k) there seat (get_set_same seats k here there at_k) found)) (a.down (down k here at_k))
        down_by down node seat (inr differs) is = down node seat (sym (get_set_other seats k node there differs) ∙ is)

        node_by : (node : ℕ) (here' there' : HeldSeat) (was now : Side Y) → (node ≡ k) ⊎ (node ≡ k → ⊥) → slice_get seats node ≡ Some here' → slice_get seats_then node ≡ Some there'
            → slice_get sides node ≡ Some was → slice_get sides_then node ≡ Some now → NodeGoes m y w node (standing_of here') (standing_of there') g.turns was now
        node_by node here' there' was now (inl same) from to before after =
            let from_k = subst (λ (j : ℕ). slice_get seats j ≡ Some here') same from in
            let to_k = subst (λ (j : ℕ). slice_get seats_then j ≡ Some there') same to in
            let before_k = subst (λ (j : ℕ). slice_get sides j ≡ Some was) same before in
            let after_k = subst (λ (j : ℕ). slice_get sides_then j ≡ Some now) same after in
            subst (λ (j : ℕ). NodeGoes m y w j (standing_of here') (standing_of there') g.turns was now) (sym same)
            (subst (λ (s : HeldSeat). NodeGoes m y w k (standing_of s) (standing_of there') g.turns was now) (sym (some_same (slice_get seats k) here here' at_k from_k))
            (subst (λ (s : HeldSeat). NodeGoes m y w k (standing_of here) (standing_of s) g.turns was now) (sym (some_same (slice_get seats_then k) there there' (get_set_same seats k here there at_k) to_k))
            (subst (λ (s : Side Y). NodeGoes m y w k (standing_of here) (standing_of there) g.turns s now) (sym (some_same (slice_get sides k) (side_at old) was side_k before_k))
            (subst (λ (s : Side Y). NodeGoes m y w k (standing_of here) (standing_of there) g.turns (side_at old) s)
            (sym (some_same (slice_get sides_then k) (side_at new) now (get_set_same sides k (side_at old) (side_at new) side_k) after_k))
            (own_goes m y May w k (standing_of here) (standing_of there) g.turns old new g.of_node a)))))
        node_by node here' there' was now (inr differs) from to before after =
            let to_same = some_same (slice_get seats node) here' there' from (sym (get_set_other seats k node there differs) ∙ to) in
            let after_same = some_same (slice_get sides node) was now before (sym (get_set_other sides k node (side_at new) differs) ∙ after) in
            subst (λ (s : HeldSeat). NodeGoes m y w node (standing_of here') (standing_of s) g.turns was now) (sym to_same)
            (subst (λ (s : Side Y). NodeGoes m y w node (standing_of here') (standing_of here') g.turns was s) (sym after_same)
            (other_goes m y May w k node (standing_of here') g.turns was g.of_node differs (a.others node differs)))

      pub lift_goes : (before after : Served) → served_after before g.turns ≡ after
          → ((w : World) → AreLive w seats → AllDown seats → GoesAt m y w k (standing_of here) (standing_of there) g.turns old new → AreInOrder w before g.turns)
          → AllGo m y before after (around old seats sides) (around new seats_then sides_then)
      lift_goes before after behind order = record {
        turns = g.turns;
        kept = g.kept;
        few = g.few;
        nodes = g.nodes;
        serves = g.serves;
        failed = g.failed;
        so_far = behind;
        seats = length-set seats k there;
        sides = length-set sides k (side_at new);
        at = λ w stands live down.
            let a = g.at w stands (live k here at_k) in
            record {
              made = a.made;
              stands = a.stands;
              order = order w live down a;
              printed = a.printed;
              live = λ node seat is. live_by w a live node seat (decide node k) is;
              down = λ node seat is. down_by w a down node seat (decide node k) is;
              nodes = λ node here' there' was now from to before after. node_by w a node here' there' was now (decide node k) from to before after;
            };
      }

    module _ (stopped : TurnEnd) (g : Stops m y May k (standing_of here) old new stopped) (waits : AllWait seats) where
      stop_by : (w : World) → StopsAt m y w k (standing_of here) g.turns old new stopped → (node : ℕ) (here' : HeldSeat) (was now : Side Y) → (node ≡ k) ⊎ (node ≡ k → ⊥) → slice_get seats node ≡ Some here'
          → slice_get sides node ≡ Some was → slice_get (slice_set sides k (side_at new)) node ≡ Some now → NodeStops m y w node (standing_of here') g.turns was now
      stop_by w a node here' was now (inl same) from before after =
          let from_k = subst (λ (j : ℕ). slice_get seats j ≡ Some here') same from in
          let before_k = subst (λ (j : ℕ). slice_get sides j ≡ Some was) same before in
          let after_k = subst (λ (j : ℕ). slice_get (slice_set sides k (side_at new)) j ≡ Some now) same after in
          subst (λ (j : ℕ). NodeStops m y w j (standing_of here') g.turns was now) (sym same)
          (subst (λ (s : HeldSeat). NodeStops m y w k (standing_of s) g.turns was now) (sym (some_same (slice_get seats k) here here' at_k from_k))
          (subst (λ (s : Side Y). NodeStops m y w k (standing_of here) g.turns s now) (sym (some_same (slice_get sides k) (side_at old) was side_k before_k))
          (subst (λ (s : Side Y). NodeStops m y w k (standing_of here) g.turns (side_at old) s)
          (sym (some_same (slice_get (slice_set sides k (side_at new)) k) (side_at new) now (get_set_same sides k (side_at old) (side_at new) side_k) after_k))
          (own_stops m y May w k (standing_of here) g.turns old new stopped g.of_node (waits k here at_k) a))))
      stop_by w a node here' was now (inr differs) from before after =
          let after_same = some_same (slice_get sides node) was now before (sym (get_set_other sides k node (side_at new) differs) ∙ after) in
          subst (λ (s : Side Y). NodeStops m y w node (standing_of here') g.turns was s) (sym after_same)
          (other_stops m y May w k node (standing_of here') g.turns was g.of_node differs (waits node here' from))

      pub lift_stops : (before : Served) → (seats_new : List HeldSeat) → ((w : World) → AreLive w seats → AllDown seats → StopsAt m y w k (standing_of here) g.turns old new stopped → AreInOrder w before g.turns)
          → AllStop m y before (around old seats sides) (around new seats_new (slice_set sides k (side_at new))) stopped
      lift_stops before seats_new order = record {
        turns = g.turns;
        kept = g.kept;
        full = g.full;
        nodes = g.nodes;
        failed = g.failed;
        sides = length-set sides k (side_at new);
        at = λ w stands live down.
            let a = g.at w stands (live k here at_k) in
            record {
              next = a.next;
              made = a.made;
              last = a.last;
              order = order w live down a;
              printed = a.printed;
              nodes = λ node here' was now from before after. stop_by w a node here' was now (decide node k) from before after;
            };
      }

-- ---- one behind another

module _ {S Y : Type 0} (m : Meaning S) (y : symb.Meaning Y) (before between : Served) (old mid : Site S Y) (first : AllGo m y before between old mid) where
  pub all_then : (after : Served) (new : Site S Y) → AllGo m y between after mid new → AllGo m y before after old new
  all_then after new second = record {
    turns = first.turns ++ second.turns;
    kept = second.kept ∙ ap (λ (l : List Turn). l ++ second.turns) first.kept ∙ append_assoc (m.turns old.value) first.turns second.turns;
    few = second.few;
    nodes = second.nodes ∙ first.nodes;
    serves = second.serves;
    failed = subst (λ (n : ℕ). RoseBy n (m.failed old.value) (m.failed new.value)) (sym (told_append first.turns second.turns))
        (rose_on (faults_told first.turns) (faults_told second.turns) (m.failed old.value) (m.failed mid.value) (m.failed new.value) first.failed second.failed);
    so_far = after_append before first.turns second.turns ∙ ap (λ (s : Served). served_after s second.turns) first.so_far ∙ second.so_far;
    seats = second.seats ∙ first.seats;
    sides = second.sides ∙ first.sides;
    at = λ w stands live down.
        let one = first.at w stands live down in
        let two = second.at (after_turns w first.turns) one.stands one.live one.down in
        record {
          made = made_on m y w first.turns second.turns old.value mid.value new.value one.made two.made;
          stands = subst (λ (v : World). m.stands v new.value) (sym (turns_append w first.turns second.turns)) two.stands;
          order = order_append w before first.turns second.turns one.order (subst (λ (s : Served). AreInOrder (after_turns w first.turns) s second.turns) (sym first.so_far) two.order);
          printed = subst (λ (l : List ℕ). Appends old.taken new.taken l) (sym (text_append items_line w first.turns second.turns))
              (appends_on (text items_line w first.turns) (text items_line (after_turns w first.turns) second.turns) old.taken mid.taken new.taken one.printed two.printed);
          live = λ node seat is. two.live node seat is ∙ ap (λ (v : World). is_live v node) (sym (turns_append w first.turns second.turns));
          down = two.down;
          nodes = λ node here there was now from to before after.
              let seat = some_there old.seats mid.seats node here from first.seats in
              let side = some_there old.sides mid.sides node was before first.sides in
              node_then m y w node (standing_of here) (standing_of seat.0) (standing_of there) first.turns second.turns was side.0 now (live node here from)
              (one.nodes node here seat.0 was side.0 from seat.1 before side.1) (two.nodes node seat.0 there side.0 now seat.1 to side.1 after);
        };
  }

  pub all_stop_then : (new : Site S Y) (stopped : TurnEnd) → AllStop m y between mid new stopped → AllStop m y before old new stopped
  all_stop_then new stopped second = record {
    turns = first.turns ++ second.turns;
    kept = second.kept ∙ ap (λ (l : List Turn). l ++ second.turns) first.kept ∙ append_assoc (m.turns old.value) first.turns second.turns;
    full = second.full;
    nodes = second.nodes ∙ first.nodes;
    failed = told_to_on stopped first.turns second.turns (m.failed old.value) (m.failed mid.value) (m.failed new.value) first.failed second.failed;
    sides = second.sides ∙ first.sides;
    at = λ w stands live down.
        let one = first.at w stands live down in
        let two = second.at (after_turns w first.turns) one.stands one.live one.down in
        record {
          next = two.next;
          made = made_on m y w first.turns second.turns old.value mid.value two.next one.made two.made;
          last = subst (λ (v : World). LeavesNone m v two.next new.value) (sym (turns_append w first.turns second.turns)) two.last;
          order = order_append w before first.turns second.turns one.order (subst (λ (s : Served). AreInOrder (after_turns w first.turns) s second.turns) (sym first.so_far) two.order);
          printed = subst (λ (l : List ℕ). TakesUpTo stopped old.taken new.taken l) (sym (text_append items_line w first.turns second.turns))
              (up_to_on stopped (text items_line w first.turns) (text items_line (after_turns w first.turns) second.turns) old.taken mid.taken new.taken one.printed two.printed);
          nodes = λ node here was now from before after.
              let seat = some_there old.seats mid.seats node here from first.seats in
              let side = some_there old.sides mid.sides node was before first.sides in
              node_stops_then m y w node (standing_of here) (standing_of seat.0) first.turns second.turns was side.0 now
              (one.nodes node here seat.0 was side.0 from seat.1 before side.1) (two.nodes node seat.0 side.0 now seat.1 side.1 after);
        };
  }
