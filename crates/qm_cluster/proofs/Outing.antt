-- The nodes behind the last line, one after the other.
use Rattle.std.proofs.Common.{◌≡◌, ◌⊎◌, inl, inr, ◌+◌, ◌<◌, ◌≤◌, ℕ, zero, suc, Bool, true, false, List, [], ◌∷◌, length, map, refl, sym, ◌∙◌, ap, subst, Option, Some, arith, slice_get, slice_set, append-nil}
use Rattle.qm_symb.specs.Device as symb
use Rattle.qm_history.specs.declared.turn.Why.{Why}
use Rattle.qm_history.specs.declared.world.World.{World}
use Rattle.qm_history.specs.Common.{turns_kept, UserLine, is_live}
use Rattle.qm_history.specs.Course.{NextTurn, NoTurn, NodeState, Reading, Fetching, Working, Leaving, Over, Stage, next_at, next_line, next_reading, next_working}
use Rattle.qm_history.specs.Order.{AreOver, IsWaiting, Served}
use Rattle.qm_cluster.specs.Parts.{Both, IsFetch, RunsOut, StopsInBoth}
use Rattle.qm_cluster.specs.Runs.{AllDown, AllGo, AllStop, AllWait, AreLive, AreReadingFrom, AreThrough, IsCluster, NodeGoes, Site, site_of, so_far}
use Rattle.qm_node.specs.Sides.{Side, side_of}
use Rattle.qm_node.specs.Seats.{HeldSeat, standing_of}
use Rattle.qm_node.specs.Outside.{outside, Outside}
use Rattle.qm_history.specs.Serving.{Meaning}
use Rattle.qm_cluster.specs.Turning.{IsOwnWhy}
use Rattle.qm_node.specs.declared.seat.Station.{Station}
use Rattle.qm_node.specs.declared.turn.TurnEnd.{TurnEnd}
use Rattle.qm_cluster.proofs.Behind.{behind_none}
use Rattle.qm_cluster.proofs.Counting.{appends_none}
use Rattle.qm_cluster.proofs.Going.{goes_may, stops_may}
use Rattle.qm_cluster.proofs.Sitting.{cluster_set, map_get, map_set, reading_waits}
use Rattle.qm_cluster.proofs.Stepping.{none_taken}
use Rattle.qm_cluster.proofs.Joining.{length_append, over_of, then_stops}
use Rattle.qm_cluster.proofs.Lifting.{all_stop_then, all_then, around, get_set_other, get_set_same, lift_goes, lift_stops, side_at, some_same}
use Rattle.qm_cluster.proofs.Ordering.{fetch_after, fetch_order, fetch_order_most, fetch_own_order, own_after, own_order}

-- ---- nodes that are through

line_none : (live : Bool) (lines : List UserLine) → next_line live lines ≡ NoTurn → live ≡ false
line_none live (l ∷ lines) is = cc
line_none true [] is = cc
line_none false [] is = refl

reading_none : (live : Bool) (steps : ℕ) (round : List ℕ) (lines : List UserLine) → next_reading live steps round lines ≡ NoTurn → live ≡ false
reading_none live zero round lines is = line_none live lines is
reading_none live (suc steps) [] lines is = line_none live lines is
reading_none live (suc steps) (run ∷ round) lines is = cc

working_none : (round : List ℕ) → next_working round ≡ NoTurn → ⊥
working_none [] is = cc
working_none (run ∷ round) is = cc

none_down : (live : Bool) (n : NodeState) (stage : Stage) → next_at live n stage ≡ NoTurn → (stage ≡ Over → live ≡ false) → live ≡ false
none_down live n Reading is down = reading_none live n.kept.steps n.kept.round n.lines is
none_down live n Fetching is down = cc
none_down live n Working is down = absurd (working_none n.kept.round is)
none_down live n Leaving is down = cc
none_down live n Over is down = down refl

-- none of them is live
pub over_at : (w : World) (k : ℕ) (seats : List HeldSeat) (here : HeldSeat) → slice_get seats k ≡ Some here → AreLive w seats → AllDown seats → AreThrough k seats → AreOver k w.live
over_at w k seats here at live down through = over_of k w.live (λ j below. each j below (there j k seats here below at))
  where
    there : (j k : ℕ) (seats : List HeldSeat) (here : HeldSeat) → j < k → slice_get seats k ≡ Some here → (seat : HeldSeat) × (slice_get seats j ≡ Some seat)
    there j k [] here below at = cc
    there j zero (s ∷ seats) here below at = absurd (omega (arith, below))
    there zero (suc k) (s ∷ seats) here below at = (s, refl)
    there (suc j) (suc k) (s ∷ seats) here below at = there j k seats here (omega (arith, below)) at

    each : (j : ℕ) → j < k → (seat : HeldSeat) × (slice_get seats j ≡ Some seat) → is_live w j ≡ false
    each j below (seat, is) = sym (live j seat is) ∙ none_down seat.live seat.node.state seat.node.state.stage (through j seat below is) (down j seat is)

-- the ones before it stay through
pub through_still : (k : ℕ) (seats : List HeldSeat) (there : HeldSeat) → AreThrough k seats → AreThrough k (slice_set seats k there)
through_still k seats there through = λ j seat below is.
    through j seat below (sym (get_set_other seats k j there (λ same. let bad : k < k = subst (λ (n : ℕ). n < k) same below in omega (arith, bad))) ∙ is)

below_or : (a b : ℕ) → (a < b) ⊎ (b ≤ a)
below_or a zero = inr (omega arith)
below_or zero (suc b) = inl (omega arith)
below_or (suc a) (suc b) = more (below_or a b)
  where
    more : (a < b) ⊎ (b ≤ a) → (suc a < suc b) ⊎ (suc b ≤ suc a)
    more (inl below) = inl (omega (arith, below))
    more (inr above) = inr (omega (arith, above))

-- and it is through too
pub through_next : (k : ℕ) (seats : List HeldSeat) (here there : HeldSeat) → slice_get seats k ≡ Some here → AreThrough k seats → next_at there.live there.node.state there.node.state.stage ≡ NoTurn
    → AreThrough (k + 1) (slice_set seats k there)
through_next k seats here there at through over = λ j seat below is. by j seat below is (below_or j k)
  where
    by : (j : ℕ) (seat : HeldSeat) → j < k + 1 → slice_get (slice_set seats k there) j ≡ Some seat → (j < k) ⊎ (k ≤ j) → next_at seat.live seat.node.state seat.node.state.stage ≡ NoTurn
    by j seat below is (inl before) = through_still k seats there through j seat before is
    by j seat below is (inr above) =
        let same : j ≡ k = omega (arith, below, above) in
        let found = subst (λ (i : ℕ). slice_get (slice_set seats k there) i ≡ Some seat) same is in
        subst (λ (s : HeldSeat). next_at s.live s.node.state s.node.state.stage ≡ NoTurn) (sym (some_same (slice_get (slice_set seats k there) k) there seat (get_set_same seats k here there at) found)) over

-- ---- what one node does behind the last line

module _ {S Y : Type 0} (m : Meaning S) (y : symb.Meaning Y) (k last : ℕ) (here : HeldSeat) (old new : Outside S Y) (seats : List HeldSeat) (sides : List (Side Y))
    (at_k : slice_get seats k ≡ Some here) (side_k : slice_get sides k ≡ Some (side_at old)) (through : AreThrough k seats)
  where
    set_again : {X : Type 0} (xs : List X) (i : ℕ) (a b : X) → slice_set (slice_set xs i a) i b ≡ slice_set xs i b
    set_again [] i a b = refl
    set_again (x ∷ xs) zero a b = refl
    set_again (x ∷ xs) (suc i) a b = ap (λ l. x ∷ l) (set_again xs i a b)

    pub out_all : (there : HeldSeat) → Both m y k IsFetch IsOwnWhy here there old new
        → AllGo m y (so_far [] last) (so_far [] k) (around old seats sides) (around new (slice_set seats k there) (slice_set sides k (side_at new)))
    out_all there both =
        let first = lift_goes m y IsFetch k here old both.between seats sides at_k side_k both.mid both.first (so_far [] last) (so_far [] k)
        (fetch_after [] k last both.first.turns both.one both.first.of_node)
        (λ w live down at. fetch_order w k last both.first.turns both.one both.first.of_node (over_at w k seats here at_k live down through)) in
        let mid_at = get_set_same seats k here both.mid at_k in
        let second = lift_goes m y IsOwnWhy k both.mid both.between new (slice_set seats k both.mid) (slice_set sides k (side_at both.between)) mid_at
        (get_set_same sides k (side_at old) (side_at both.between) side_k) there both.second (so_far [] k) (so_far [] k)
        (own_after [] k both.second.turns both.second.of_node)
        (λ w live down at. own_order w k both.second.turns both.second.of_node
        (at.overs (over_at w k (slice_set seats k both.mid) both.mid mid_at live down (through_still k seats both.mid through)))) in
        subst (λ (s : List HeldSeat). AllGo m y (so_far [] last) (so_far [] k) (around old seats sides) (around new s (slice_set sides k (side_at new)))) (set_again seats k both.mid there)
        (subst (λ (s : List (Side Y)). AllGo m y (so_far [] last) (so_far [] k) (around old seats sides) (around new (slice_set (slice_set seats k both.mid) k there) s))
        (set_again sides k (side_at both.between) (side_at new))
        (all_then m y (so_far [] last) (so_far [] k) (around old seats sides) (around both.between (slice_set seats k both.mid) (slice_set sides k (side_at both.between)))
        first (so_far [] k) (around new (slice_set (slice_set seats k both.mid) k there) (slice_set (slice_set sides k (side_at both.between)) k (side_at new))) second))

    abbrev IsFetchOrOwn : Why → Type 0
    IsFetchOrOwn w = IsFetch w ⊎ IsOwnWhy w

    pub out_stops : (seats_new : List HeldSeat) (stopped : TurnEnd) → AllWait seats → StopsInBoth m y k IsFetch IsOwnWhy here old new stopped
        → AllStop m y (so_far [] last) (around old seats sides) (around new seats_new (slice_set sides k (side_at new))) stopped
    out_stops seats_new stopped waits (inl (stops, one)) =
        lift_stops m y IsFetch k here old new seats sides at_k side_k stopped stops waits (so_far [] last) seats_new
        (λ w live down at. fetch_order_most w k last stops.turns one stops.of_node (over_at w k seats here at_k live down through))
    out_stops seats_new stopped waits (inr behind) =
        lift_stops m y IsFetchOrOwn k here old new seats sides at_k side_k stopped
        (then_stops m y IsFetchOrOwn k (standing_of here) (standing_of behind.mid) old behind.between
        (goes_may m y IsFetch IsFetchOrOwn (λ w h. inl h) k (standing_of here) (standing_of behind.mid) old behind.between behind.first) new stopped
        (stops_may m y IsOwnWhy IsFetchOrOwn (λ w h. inr h) k (standing_of behind.mid) behind.between new stopped behind.second))
        waits (so_far [] last) seats_new
        (λ w live down at. fetch_own_order w k last behind.first.turns behind.second.turns behind.one behind.first.of_node behind.second.of_node
        (at.overs (over_at w k seats here at_k live down through)))

-- ---- the nodes, one after the other

through_waits : (stage : Stage) (nt : NextTurn) → nt ≡ NoTurn → IsWaiting stage nt
through_waits Reading nt is = subst (λ (x : NextTurn). IsWaiting Reading x) (sym is) tt
through_waits Fetching nt is = subst (λ (x : NextTurn). IsWaiting Fetching x) (sym is) tt
through_waits Working nt is = subst (λ (x : NextTurn). IsWaiting Working x) (sym is) tt
through_waits Leaving nt is = subst (λ (x : NextTurn). IsWaiting Leaving x) (sym is) tt
through_waits Over nt is = subst (λ (x : NextTurn). IsWaiting Over x) (sym is) tt

pub out_waits : (k : ℕ) (seats : List HeldSeat) → AreThrough k seats → AreReadingFrom k seats → AllWait seats
out_waits k seats through reading = λ node seat is. by node seat is (below_or node k)
  where
    by : (node : ℕ) (seat : HeldSeat) → slice_get seats node ≡ Some seat → (node < k) ⊎ (k ≤ node) → IsWaiting seat.node.state.stage (next_at seat.live seat.node.state seat.node.state.stage)
    by node seat is (inl below) = through_waits seat.node.state.stage (next_at seat.live seat.node.state seat.node.state.stage) (through node seat below is)
    by node seat is (inr above) = reading_waits [] seat (reading node seat above is)

pub reading_next : (k : ℕ) (seats : List HeldSeat) (there : HeldSeat) → AreReadingFrom k seats → AreReadingFrom (k + 1) (slice_set seats k there)
reading_next k seats there reading = λ node seat above is.
    reading node seat (omega (arith, above)) (sym (get_set_other seats k node there (λ same. let bad : k + 1 ≤ k = subst (λ (n : ℕ). k + 1 ≤ n) same above in omega (arith, bad))) ∙ is)

pub all_none : {S Y : Type 0} (m : Meaning S) (y : symb.Meaning Y) (before : Served) (site : Site S Y) → m.serves site.value → length (m.turns site.value) ≤ turns_kept → AllGo m y before before site site
all_none m y before site serves few = record {
  turns = [];
  kept = sym (append-nil (m.turns site.value));
  few = few;
  nodes = refl;
  serves = serves;
  failed = refl;
  so_far = refl;
  seats = refl;
  sides = refl;
  at = λ w stands live down. record {
    made = refl;
    stands = stands;
    order = tt;
    printed = appends_none site.taken;
    live = live;
    down = down;
    nodes = λ node here there was now from to before after.
        subst (λ (s : HeldSeat). NodeGoes m y w node (standing_of here) (standing_of s) [] was now) (some_same (slice_get site.seats node) there here to from)
        (subst (λ s. NodeGoes m y w node (standing_of here) (standing_of here) [] was s) (some_same (slice_get site.sides node) now was after before)
        (record {
          steps = [];
          reaches = λ earlier behind. (refl, refl, refl);
          behind = λ earlier behind. behind_none earlier (standing_of here) behind;
          live = λ live. live;
          down = λ was_down. was_down;
          told = record { told = []; appended = appends_none was.told; are = refl };
          rose = refl;
          taken = none_taken y was.symbiont;
        }));
  };
}

-- ---- one node more

set_here : {X : Type 0} (xs : List X) (i : ℕ) (x : X) → slice_get xs i ≡ Some x → slice_set xs i x ≡ xs
set_here [] i x is = refl
set_here (a ∷ xs) zero x is = let e : a ≡ x = cc in ap (λ b. b ∷ xs) (sym e)
set_here (a ∷ xs) (suc i) x is = ap (λ l. a ∷ l) (set_here xs i x is)

module _ {S C Y : Type 0} (m : Meaning S) (y : symb.Meaning Y) (told : C → Option (List ℕ)) (value value_then : S) (taken taken_then : Option (List ℕ)) (seats : List HeldSeat) (stations : List (Station C Y))
    (k : ℕ) (here there : HeldSeat) (st st_then : Station C Y) (at_k : slice_get seats k ≡ Some here) (st_k : slice_get stations k ≡ Some st)
  where
    abbrev from : Outside S Y
    from = outside value taken (told st.clock) st.symbiont

    abbrev to : Outside S Y
    to = outside value_then taken_then (told st_then.clock) st_then.symbiont

    abbrev now : Site S Y
    now = site_of told value taken seats stations

    abbrev then : Site S Y
    then = site_of told value_then taken_then (slice_set seats k there) (slice_set stations k st_then)

    sides_then : slice_set (map (side_of told) stations) k (side_at to) ≡ map (side_of told) (slice_set stations k st_then)
    sides_then = sym (map_set (side_of told) stations k st_then)

    stays : there ≡ here → to ≡ from → then ≡ now
    stays same still =
        ap (λ (s : List (Side Y)). around to (slice_set seats k there) s) (sym sides_then)
        ∙ ap (λ (o : Outside S Y). around o (slice_set seats k there) (slice_set (map (side_of told) stations) k (side_at o))) still
        ∙ ap (λ (x : HeldSeat). around from (slice_set seats k x) (slice_set (map (side_of told) stations) k (side_at from))) same
        ∙ ap (λ (l : List HeldSeat). around from l (slice_set (map (side_of told) stations) k (side_at from))) (set_here seats k here at_k)
        ∙ ap (λ (l : List (Side Y)). around from seats l) (set_here (map (side_of told) stations) k (side_at from) (map_get (side_of told) stations k st st_k))

    pub out_on : (first : Served) (start : Site S Y) (last : ℕ) → AllGo m y first (so_far [] last) start now → AreThrough k seats → RunsOut m y k here there from to
        → (n : ℕ) × AllGo m y first (so_far [] n) start then
    out_on first start last go through r = by r.goes
      where
        by : ((there ≡ here) × (to ≡ from)) ⊎ Both m y k IsFetch IsOwnWhy here there from to → (n : ℕ) × AllGo m y first (so_far [] n) start then
        by (inl (same, still)) = (last, subst (λ (s : Site S Y). AllGo m y first (so_far [] last) start s) (sym (stays same still)) go)
        by (inr both) = (
          k,
          all_then m y first (so_far [] last) start now go (so_far [] k) then
              (subst (λ (s : List (Side Y)). AllGo m y (so_far [] last) (so_far [] k) now (around to (slice_set seats k there) s)) sides_then
              (out_all m y k last here from to seats (map (side_of told) stations) at_k (map_get (side_of told) stations k st st_k) through there both)),
        )

    pub out_stops_on : (first : Served) (start : Site S Y) (last : ℕ) (seats_new : List HeldSeat) (stopped : TurnEnd) → AllGo m y first (so_far [] last) start now → AreThrough k seats → AllWait seats
        → StopsInBoth m y k IsFetch IsOwnWhy here from to stopped
        → AllStop m y first start (site_of told value_then taken_then seats_new (slice_set stations k st_then)) stopped
    out_stops_on first start last seats_new stopped go through waits stops =
        all_stop_then m y first (so_far [] last) start now go (site_of told value_then taken_then seats_new (slice_set stations k st_then)) stopped
        (subst (λ (s : List (Side Y)). AllStop m y (so_far [] last) now (around to seats_new s) stopped) sides_then
        (out_stops m y k last here from to seats (map (side_of told) stations) at_k (map_get (side_of told) stations k st st_k) through seats_new stopped waits stops))

    pub out_cluster : (count : ℕ) → IsCluster m value seats count → RunsOut m y k here there from to → IsCluster m value_then (slice_set seats k there) count
    out_cluster count cluster r = cluster_set m value value_then seats k here there count at_k r.name r.can (nodes r.goes) (grows r.goes) cluster
      where
        nodes : ((there ≡ here) × (to ≡ from)) ⊎ Both m y k IsFetch IsOwnWhy here there from to → m.nodes value_then ≡ m.nodes value
        nodes (inl (same, still)) = ap (λ (o : Outside S Y). m.nodes o.value) still
        nodes (inr both) = both.second.nodes ∙ both.first.nodes

        grows : ((there ≡ here) × (to ≡ from)) ⊎ Both m y k IsFetch IsOwnWhy here there from to → length (m.turns value) ≤ length (m.turns value_then)
        grows (inl (same, still)) =
            let e : length (m.turns value_then) ≡ length (m.turns value) = ap (λ (o : Outside S Y). length (m.turns o.value)) still in
            omega (arith, e)
        grows (inr both) =
            let a : length (m.turns both.between.value) ≡ length (m.turns value) + length both.first.turns = ap length both.first.kept ∙ length_append (m.turns value) both.first.turns in
            let b : length (m.turns value_then) ≡ length (m.turns both.between.value) + length both.second.turns =
            ap length both.second.kept ∙ length_append (m.turns both.between.value) both.second.turns in
            omega (arith, a, b)
