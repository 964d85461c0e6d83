-- The nodes of a script, line by line, whatever the disks tell.
use Rattle.std.proofs.Common.{◌≡◌, ◌⊎◌, inl, inr, ◌+◌, ◌<◌, ◌≤◌, ℕ, zero, suc, Bool, true, false, cond, List, [], ◌∷◌, length, map, drop, refl, sym, ◌∙◌, ap, subst, Option, Some, get_or, drop-cons, add-one, arith, slice_get, slice_set, option_map, Contains, bytes_eq}
use Rattle.std.proofs.lemmas.Slice.Eq.{bytes_eq-Decides}
use Rattle.std.proofs.lemmas.List.{length-map, length-set}
use Rattle.std.proofs.lemmas.Option.{slice_get-get_or, slice_get-map}
use Rattle.qm_history.specs.Common.{NODES_LIMIT, UserLine, lines_of, after_turns}
use Rattle.qm_symb.specs.Device as symb
use Rattle.qm_history.specs.declared.turn.Why.{Why}
use Rattle.qm_history.specs.Course.{NextTurn, ALine, Reading, Stage, next_at, next_line, next_reading}
use Rattle.qm_history.specs.Order.{AreInOrder, IsWaiting, Served}
use Rattle.qm_node.specs.Node.{IsTurn}
use Rattle.qm_node.specs.declared.course.Next.{Next}
use Rattle.qm_script.specs.ClusterLines.{user_line_view, user_lines_view}
use Rattle.qm_script.specs.declared.lines.UserLine.{UserLine as CodeLine}
use Rattle.qm_cluster.specs.Nodes.{CanGoOn}
use Rattle.qm_cluster.specs.Parts.{Both, IsLineOf, IsReport, ServesLine, StopsInBoth}
use Rattle.qm_cluster.specs.Runs.{AllCanGoOn, AllGo, AllStop, AllWait, AreReading, IsCluster, IsReading, Site, names_of, numbers_of, site_of, so_far}
use Rattle.qm_node.specs.Sides.{Side, side_of}
use Rattle.qm_node.specs.Seats.{HeldSeat, standing_of}
use Rattle.qm_node.specs.Outside.{outside, Outside}
use Rattle.qm_history.specs.Serving.{Meaning}
use Rattle.qm_cluster.specs.Turning.{Goes}
use Rattle.qm_node.specs.Coming.{IsNoStep}
use Rattle.qm_node.specs.declared.seat.Station.{Station}
use Rattle.qm_node.specs.declared.turn.TurnEnd.{TurnEnd}
use Rattle.qm_cluster.proofs.Going.{goes_may, stops_may}
use Rattle.qm_cluster.proofs.Joining.{length_append, then_stops}
use Rattle.qm_cluster.proofs.Lifting.{all_stop_then, all_then, around, decide, get_set_other, get_set_same, lift_goes, lift_stops, side_at, some_same}
use Rattle.qm_cluster.proofs.Ordering.{line_after, line_order, line_order_most, order_append, report_after, report_order}

-- ---- lines of one node

same_bytes : (x : List ℕ) → bytes_eq x x ≡ true
same_bytes x = (bytes_eq-Decides x x).1 refl

bytes_by : (x z : List ℕ) (b : Bool) → bytes_eq x z ≡ b → (x ≡ z → ⊥) → bytes_eq x z ≡ false
bytes_by x z true is apart = absurd (apart ((bytes_eq-Decides x z).0 is))
bytes_by x z false is apart = is

pub own_lines : (l : UserLine) (rest : List UserLine) (name : List ℕ) → l.line.node ≡ name → lines_of name (l ∷ rest) ≡ l ∷ lines_of name rest
own_lines l rest name is =
    ap (λ (b : Bool). cond b (l ∷ lines_of name rest) (lines_of name rest)) (ap (λ (x : List ℕ). bytes_eq x name) is ∙ same_bytes name)

pub other_lines : (l : UserLine) (rest : List UserLine) (name : List ℕ) → (l.line.node ≡ name → ⊥) → lines_of name (l ∷ rest) ≡ lines_of name rest
other_lines l rest name apart =
    ap (λ (b : Bool). cond b (l ∷ lines_of name rest) (lines_of name rest)) (bytes_by l.line.node name (bytes_eq l.line.node name) refl apart)

-- a node that reads on waits
line_waits : (live : Bool) (lines : List UserLine) → IsWaiting Reading (next_line live lines)
line_waits live (l ∷ lines) = tt
line_waits true [] = tt
line_waits false [] = tt

pub reading_waits : (lines : List UserLine) (seat : HeldSeat) → IsReading lines seat → IsWaiting seat.node.state.stage (next_at seat.live seat.node.state seat.node.state.stage)
reading_waits lines seat reading =
    subst (λ (s : Stage). IsWaiting s (next_at seat.live seat.node.state s)) (sym reading.stage)
    (subst (λ (nt : NextTurn). IsWaiting Reading nt) (sym reading.waits) (line_waits seat.live lines))

pub all_reading_wait : (script : List UserLine) (seats : List HeldSeat) → AreReading script seats → AllWait seats
all_reading_wait script seats reading = λ node seat is. reading_waits (lines_of seat.name script) seat (reading node seat is)

-- where no step comes next, a node that reads goes on with its lines
no_step_reads : (live : Bool) (steps : ℕ) (round : List ℕ) (lines : List UserLine) → IsNoStep (next_reading live steps round lines) → next_reading live steps round lines ≡ next_line live lines
no_step_reads live zero round lines h = refl
no_step_reads live (suc steps) [] lines h = refl
no_step_reads live (suc steps) (run ∷ round) lines h = absurd h

pub reads_with : (lines : List UserLine) (seat : HeldSeat) → seat.node.state.stage ≡ Reading → seat.node.state.lines ≡ lines → IsNoStep (next_at seat.live seat.node.state seat.node.state.stage) → IsReading lines seat
reads_with lines seat stage are none = record {
  stage = stage;
  lines_are = are;
  waits = no_step_reads seat.live seat.node.state.kept.steps seat.node.state.kept.round seat.node.state.lines
      (subst (λ (s : Stage). IsNoStep (next_at seat.live seat.node.state s)) stage none)
      ∙ ap (λ (ls : List UserLine). next_line seat.live ls) are;
}

-- the next line comes next
pub line_next : (l : UserLine) (rest : List UserLine) (seat : HeldSeat) → IsReading (lines_of seat.name (l ∷ rest)) seat → l.line.node ≡ seat.name
    → next_at seat.live seat.node.state seat.node.state.stage ≡ ALine l (lines_of seat.name rest)
line_next l rest seat reading is =
    ap (λ (s : Stage). next_at seat.live seat.node.state s) reading.stage ∙ reading.waits ∙ ap (λ (ls : List UserLine). next_line seat.live ls) (own_lines l rest seat.name is)

pub turn_of : (n : Option Next) (nt : NextTurn) (l : UserLine) (rest : List UserLine) → nt ≡ ALine l rest → IsTurn (ALine l rest) n → IsTurn nt n
turn_of n nt l rest is turn = subst (λ (x : NextTurn). IsTurn x n) (sym is) turn

-- ---- names

pub names_same : (seats : List HeldSeat) (k : ℕ) (here there : HeldSeat) → slice_get seats k ≡ Some here → there.name ≡ here.name → names_of (slice_set seats k there) ≡ names_of seats
names_same [] k here there is same = refl
names_same (s ∷ seats) zero here there is same =
    let e : s ≡ here = cc in ap (λ (n : List ℕ). n ∷ names_of seats) (same ∙ ap (λ (x : HeldSeat). x.name) (sym e))
names_same (s ∷ seats) (suc k) here there is same = ap (λ (l : List (List ℕ)). s.name ∷ l) (names_same seats k here there is same)

pub name_at : (seats : List HeldSeat) (k : ℕ) (seat : HeldSeat) → slice_get seats k ≡ Some seat → slice_get (names_of seats) k ≡ Some seat.name
name_at seats k seat is = slice_get-map (λ (s : HeldSeat). s.name) seats k ∙ ap (λ (o : Option HeldSeat). option_map (λ (s : HeldSeat). s.name) o) is

-- ---- each node can go on

pub all_can : {S : Type 0} (m : Meaning S) (old new : S) (seats : List HeldSeat) (k : ℕ) (here there : HeldSeat) → slice_get seats k ≡ Some here → AllCanGoOn m old seats → CanGoOn m k new there
    → m.nodes new ≡ m.nodes old → length (m.turns old) ≤ length (m.turns new) → AllCanGoOn m new (slice_set seats k there)
all_can m old new seats k here there at can one nodes grows = λ node seat is. by node seat is (decide node k)
  where
    by : (node : ℕ) (seat : HeldSeat) → slice_get (slice_set seats k there) node ≡ Some seat → (node ≡ k) ⊎ (node ≡ k → ⊥) → CanGoOn m node new seat
    by node seat is (inl same) =
        let found = subst (λ (j : ℕ). slice_get (slice_set seats k there) j ≡ Some seat) same is in
        subst (λ (j : ℕ). CanGoOn m j new seat) (sym same)
        (subst (λ (s : HeldSeat). CanGoOn m k new s) (sym (some_same (slice_get (slice_set seats k there) k) there seat (get_set_same seats k here there at) found)) one)
    by node seat is (inr differs) =
        let before = can node seat (sym (get_set_other seats k node there differs) ∙ is) in
        record {
          serves = one.serves;
          there = ap (λ (l : List (List ℕ)). slice_get l node) nodes ∙ before.there;
          ready = before.ready;
          own = let a : seat.count ≤ length (m.turns old) = before.own in omega (arith, a, grows);
          few = one.few;
        }

pub cluster_set : {S : Type 0} (m : Meaning S) (old new : S) (seats : List HeldSeat) (k : ℕ) (here there : HeldSeat) (count : ℕ) → slice_get seats k ≡ Some here → there.name ≡ here.name → CanGoOn m k new there
    → m.nodes new ≡ m.nodes old → length (m.turns old) ≤ length (m.turns new) → IsCluster m old seats count → IsCluster m new (slice_set seats k there) count
cluster_set m old new seats k here there count at name can nodes grows cluster = record {
  can = all_can m old new seats k here there at cluster.can can nodes grows;
  distinct = subst (λ (ns : List (List ℕ)). (i j : ℕ) (name : List ℕ) → slice_get ns i ≡ Some name → slice_get ns j ≡ Some name → i ≡ j) (sym (names_same seats k here there at name)) cluster.distinct;
  enough = subst (λ (n : ℕ). n ≤ count) (sym (length-set seats k there)) cluster.enough;
  few = subst (λ (n : ℕ). n ≤ NODES_LIMIT) (sym (length-set seats k there)) cluster.few;
}

-- ---- the turn of a line, and the steps behind it

pub all_reading : (l : UserLine) (rest : List UserLine) (seats : List HeldSeat) (k : ℕ) (here there : HeldSeat) → slice_get seats k ≡ Some here → l.line.node ≡ here.name
    → ((i j : ℕ) (name : List ℕ) → slice_get (names_of seats) i ≡ Some name → slice_get (names_of seats) j ≡ Some name → i ≡ j)
    → there.name ≡ here.name → IsReading (lines_of there.name rest) there → AreReading (l ∷ rest) seats → AreReading rest (slice_set seats k there)
all_reading l rest seats k here there at is distinct same one reading = λ node seat found. by node seat found (decide node k)
  where
    by : (node : ℕ) (seat : HeldSeat) → slice_get (slice_set seats k there) node ≡ Some seat → (node ≡ k) ⊎ (node ≡ k → ⊥) → IsReading (lines_of seat.name rest) seat
    by node seat found (inl equal) =
        let found_k = subst (λ (j : ℕ). slice_get (slice_set seats k there) j ≡ Some seat) equal found in
        subst (λ (s : HeldSeat). IsReading (lines_of s.name rest) s) (sym (some_same (slice_get (slice_set seats k there) k) there seat (get_set_same seats k here there at) found_k)) one
    by node seat found (inr differs) =
        let before : slice_get seats node ≡ Some seat = sym (get_set_other seats k node there differs) ∙ found in
        subst (λ (ls : List UserLine). IsReading ls seat)
        (other_lines l rest seat.name (λ clash. differs (distinct node k seat.name (name_at seats node seat before) (name_at seats k here at ∙ ap Some (sym is ∙ clash)))))
        (reading node seat before)

module _ {S Y : Type 0} (m : Meaning S) (y : symb.Meaning Y) (k n : ℕ) (nums : List ℕ) (last : ℕ) (here : HeldSeat) (old new : Outside S Y) (seats : List HeldSeat) (sides : List (Side Y))
    (at_k : slice_get seats k ≡ Some here) (side_k : slice_get sides k ≡ Some (side_at old))
  where
    set_again : {X : Type 0} (xs : List X) (i : ℕ) (a b : X) → slice_set (slice_set xs i a) i b ≡ slice_set xs i b
    set_again [] i a b = refl
    set_again (x ∷ xs) zero a b = refl
    set_again (x ∷ xs) (suc i) a b = ap (λ l. x ∷ l) (set_again xs i a b)

    -- the turn of the line, alone
    module _ (mid : HeldSeat) (between : Outside S Y) (first : Goes m y (IsLineOf n) k (standing_of here) (standing_of mid) old between) (one : length first.turns ≡ 1) where
      line_goes : AllGo m y (so_far (n ∷ nums) last) (so_far nums k) (around old seats sides) (around between (slice_set seats k mid) (slice_set sides k (side_at between)))
      line_goes = lift_goes m y (IsLineOf n) k here old between seats sides at_k side_k mid first (so_far (n ∷ nums) last) (so_far nums k)
          (line_after n k nums last first.turns one first.of_node) (λ w live down at. line_order w n k nums last first.turns one first.of_node)

    pub line_all : (there : HeldSeat) → Both m y k (IsLineOf n) IsReport here there old new
        → AllGo m y (so_far (n ∷ nums) last) (so_far nums k) (around old seats sides) (around new (slice_set seats k there) (slice_set sides k (side_at new)))
    line_all there both =
        let second = lift_goes m y IsReport k both.mid both.between new (slice_set seats k both.mid) (slice_set sides k (side_at both.between)) (get_set_same seats k here both.mid at_k)
        (get_set_same sides k (side_at old) (side_at both.between) side_k) there both.second (so_far nums k) (so_far nums k)
        (report_after nums k both.second.turns both.second.of_node) (λ w live down at. report_order w nums k both.second.turns both.second.of_node) in
        subst (λ (s : List HeldSeat). AllGo m y (so_far (n ∷ nums) last) (so_far nums k) (around old seats sides) (around new s (slice_set sides k (side_at new)))) (set_again seats k both.mid there)
        (subst (λ (s : List (Side Y)). AllGo m y (so_far (n ∷ nums) last) (so_far nums k) (around old seats sides) (around new (slice_set (slice_set seats k both.mid) k there) s))
        (set_again sides k (side_at both.between) (side_at new))
        (all_then m y (so_far (n ∷ nums) last) (so_far nums k) (around old seats sides) (around both.between (slice_set seats k both.mid) (slice_set sides k (side_at both.between)))
        (line_goes both.mid both.between both.first both.one) (so_far nums k)
        (around new (slice_set (slice_set seats k both.mid) k there) (slice_set (slice_set sides k (side_at both.between)) k (side_at new))) second))

    abbrev IsLineOrReport : Why → Type 0
    IsLineOrReport w = IsLineOf n w ⊎ IsReport w

    pub line_stops : (seats_new : List HeldSeat) (stopped : TurnEnd) → AllWait seats → StopsInBoth m y k (IsLineOf n) IsReport here old new stopped
        → AllStop m y (so_far (n ∷ nums) last) (around old seats sides) (around new seats_new (slice_set sides k (side_at new))) stopped
    line_stops seats_new stopped waits (inl (stops, one)) =
        lift_stops m y (IsLineOf n) k here old new seats sides at_k side_k stopped stops waits (so_far (n ∷ nums) last) seats_new
        (λ w live down at. line_order_most w n k nums last stops.turns one stops.of_node)
    line_stops seats_new stopped waits (inr behind) =
        lift_stops m y IsLineOrReport k here old new seats sides at_k side_k stopped
        (then_stops m y IsLineOrReport k (standing_of here) (standing_of behind.mid) old behind.between
        (goes_may m y (IsLineOf n) IsLineOrReport (λ w h. inl h) k (standing_of here) (standing_of behind.mid) old behind.between behind.first) new stopped
        (stops_may m y IsReport IsLineOrReport (λ w h. inr h) k (standing_of behind.mid) behind.between new stopped behind.second))
        waits (so_far (n ∷ nums) last) seats_new
        (λ w live down at. order_append w (so_far (n ∷ nums) last) behind.first.turns behind.second.turns (line_order w n k nums last behind.first.turns behind.one behind.first.of_node)
        (subst (λ (s : Served). AreInOrder (after_turns w behind.first.turns) s behind.second.turns) (sym (line_after n k nums last behind.first.turns behind.one behind.first.of_node))
        (report_order (after_turns w behind.first.turns) nums k behind.second.turns behind.second.of_node)))

-- ---- one line more

pub map_set : {X Z : Type 0} (f : X → Z) (xs : List X) (i : ℕ) (v : X) → map f (slice_set xs i v) ≡ slice_set (map f xs) i (f v)
map_set f [] i v = refl
map_set f (x ∷ xs) zero v = refl
map_set f (x ∷ xs) (suc i) v = ap (λ l. f x ∷ l) (map_set f xs i v)

pub map_get : {X Z : Type 0} (f : X → Z) (xs : List X) (i : ℕ) (x : X) → slice_get xs i ≡ Some x → slice_get (map f xs) i ≡ Some (f x)
map_get f xs i x is = slice_get-map f xs i ∙ ap (λ o. option_map f o) is

module _ {S C Y : Type 0} (m : Meaning S) (y : symb.Meaning Y) (told : C → Option (List ℕ)) (value value_then : S) (taken taken_then : Option (List ℕ)) (seats : List HeldSeat) (stations : List (Station C Y))
    (k : ℕ) (here there : HeldSeat) (st st_then : Station C Y) (at_k : slice_get seats k ≡ Some here) (st_k : slice_get stations k ≡ Some st)
  where
    abbrev from : Outside S Y
    from = outside value taken (told st.clock) st.symbiont

    abbrev to : Outside S Y
    to = outside value_then taken_then (told st_then.clock) st_then.symbiont

    sides_then : slice_set (map (side_of told) stations) k (side_at to) ≡ map (side_of told) (slice_set stations k st_then)
    sides_then = sym (map_set (side_of told) stations k st_then)

    pub line_on : (first : Served) (start : Site S Y) (l : UserLine) (rest : List UserLine) (last : ℕ) → AllGo m y first (so_far (numbers_of (l ∷ rest)) last) start (site_of told value taken seats stations)
        → ServesLine m y k l.line.number here there from to
        → AllGo m y first (so_far (numbers_of rest) k) start (site_of told value_then taken_then (slice_set seats k there) (slice_set stations k st_then))
    line_on first start l rest last go served =
        all_then m y first (so_far (numbers_of (l ∷ rest)) last) start (site_of told value taken seats stations) go (so_far (numbers_of rest) k)
        (site_of told value_then taken_then (slice_set seats k there) (slice_set stations k st_then))
        (subst (λ (s : List (Side Y)). AllGo m y (so_far (numbers_of (l ∷ rest)) last) (so_far (numbers_of rest) k) (site_of told value taken seats stations) (around to (slice_set seats k there) s)) sides_then
        (line_all m y k l.line.number (numbers_of rest) last here from to seats (map (side_of told) stations) at_k (map_get (side_of told) stations k st st_k) there served.goes))

    pub line_stops_on : (first : Served) (start : Site S Y) (l : UserLine) (rest : List UserLine) (last : ℕ) (seats_new : List HeldSeat) (stopped : TurnEnd)
        → AllGo m y first (so_far (numbers_of (l ∷ rest)) last) start (site_of told value taken seats stations) → AllWait seats
        → StopsInBoth m y k (IsLineOf l.line.number) IsReport here from to stopped
        → AllStop m y first start (site_of told value_then taken_then seats_new (slice_set stations k st_then)) stopped
    line_stops_on first start l rest last seats_new stopped go waits stops =
        all_stop_then m y first (so_far (numbers_of (l ∷ rest)) last) start (site_of told value taken seats stations) go
        (site_of told value_then taken_then seats_new (slice_set stations k st_then)) stopped
        (subst (λ (s : List (Side Y)). AllStop m y (so_far (numbers_of (l ∷ rest)) last) (site_of told value taken seats stations) (around to seats_new s) stopped) sides_then
        (line_stops m y k l.line.number (numbers_of rest) last here from to seats (map (side_of told) stations) at_k (map_get (side_of told) stations k st st_k) seats_new stopped waits stops))

    pub cluster_on : (n count : ℕ) → IsCluster m value seats count → ServesLine m y k n here there from to → IsCluster m value_then (slice_set seats k there) count
    cluster_on n count cluster served =
        let a : length (m.turns served.goes.between.value) ≡ length (m.turns value) + length served.goes.first.turns = ap length served.goes.first.kept ∙ length_append (m.turns value) served.goes.first.turns in
        let b : length (m.turns value_then) ≡ length (m.turns served.goes.between.value) + length served.goes.second.turns =
        ap length served.goes.second.kept ∙ length_append (m.turns served.goes.between.value) served.goes.second.turns in
        let grows : length (m.turns value) ≤ length (m.turns value_then) = omega (arith, a, b) in
        cluster_set m value value_then seats k here there count at_k served.name served.can (served.goes.second.nodes ∙ served.goes.first.nodes) grows cluster

    pub served_reading : (l : UserLine) (rest : List UserLine) → l.line.node ≡ here.name
        → ((i j : ℕ) (name : List ℕ) → slice_get (names_of seats) i ≡ Some name → slice_get (names_of seats) j ≡ Some name → i ≡ j)
        → AreReading (l ∷ rest) seats → ServesLine m y k l.line.number here there from to → AreReading rest (slice_set seats k there)
    served_reading l rest is distinct reading served =
        all_reading l rest seats k here there at_k is distinct served.name
        (reads_with (lines_of there.name rest) there served.stage
        (served.lines ∙ ap (λ (ls : List UserLine). drop 1 ls) ((reading k here at_k).lines_are ∙ own_lines l rest here.name is) ∙ ap (λ (n : List ℕ). lines_of n rest) (sym served.name))
        served.waits)
        reading

-- ---- lines in memory

-- the lines from a place on begin with the line there
pub lines_from : (lines : List CodeLine) (i : ℕ) (line : CodeLine) → i < length lines → line ≡ get_or lines i line
    → user_lines_view (drop i lines) ≡ user_line_view line ∷ user_lines_view (drop (i + 1) lines)
lines_from lines i line within is =
    ap user_lines_view (drop-cons lines i line within)
    ∙ ap (λ (l : CodeLine). user_line_view l ∷ user_lines_view (drop (suc i) lines)) (sym is)
    ∙ ap (λ (n : ℕ). user_line_view line ∷ user_lines_view (drop n lines)) (sym (add-one i))

-- ---- the place of a name

below_more : (j k : ℕ) → j < k + 1 → (j ≡ k → ⊥) → j < k
below_more zero zero below differs = absurd (differs refl)
below_more zero (suc k) below differs = omega arith
below_more (suc j) zero below differs = absurd (omega (arith, below))
below_more (suc j) (suc k) below differs = let inner = below_more j k (omega (arith, below)) (λ same. differs (ap suc same)) in omega (arith, inner)

pub one_more_past : (seats : List HeldSeat) (name : List ℕ) (k : ℕ) (seat : HeldSeat) → slice_get seats k ≡ Some seat → bytes_eq seat.name name ≡ false
    → ((j : ℕ) → j < k → slice_get (names_of seats) j ≡ Some name → ⊥) → (j : ℕ) → j < k + 1 → slice_get (names_of seats) j ≡ Some name → ⊥
one_more_past seats name k seat at apart before = λ j below is. by j below is (decide j k)
  where
    by : (j : ℕ) → j < k + 1 → slice_get (names_of seats) j ≡ Some name → (j ≡ k) ⊎ (j ≡ k → ⊥) → ⊥
    by j below is (inl same) =
        let found = subst (λ (i : ℕ). slice_get (names_of seats) i ≡ Some name) same is in
        let equal : name ≡ seat.name = some_same (slice_get (names_of seats) k) seat.name name (name_at seats k seat at) found in
        let bad : false ≡ true = sym apart ∙ (bytes_eq-Decides seat.name name).1 (sym equal) in cc
    by j below is (inr differs) = before j (below_more j k below differs) is

pub found_none : (seats : List HeldSeat) (name : List ℕ) (k : ℕ) → length seats ≤ k → Contains (names_of seats) name → ((j : ℕ) → j < k → slice_get (names_of seats) j ≡ Some name → ⊥) → ⊥
found_none seats name k past (j, within, is) none =
    let inside : j < length seats = subst (λ (n : ℕ). j < n) (length-map seats (λ (s : HeldSeat). s.name)) within in
    none j (omega (arith, inside, past)) (slice_get-get_or (names_of seats) j name within ∙ ap Some is)
