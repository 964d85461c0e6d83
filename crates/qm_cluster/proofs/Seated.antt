-- Seats in front of own lines, and the cluster that they make.
use Rattle.std.proofs.Common.{◌≡◌, ◌≢◌, ◌⊎◌, inl, inr, ◌+◌, ◌<◌, ◌≤◌, ℕ, Bool, true, false, cond, List, [], ◌∷◌, ◌++◌, length, map, take, get_or, refl, sym, ◌∙◌, ap, subst, Option, None, Some, Vec, AllPairs, arith, slice_get, option_map, bytes_eq}
use Rattle.std.specs.declared.alloc.Global.{Global}
use Rattle.std.proofs.lemmas.List.{append-nil, length-map, map-append, take_more}
use Rattle.std.proofs.lemmas.List.Elements.{filter-append}
use Rattle.std.proofs.lemmas.Bool.{cases_lt}
use Rattle.std.proofs.lemmas.Option.{get_or_from_slice_get, slice_get-map, slice_get_within}
use Rattle.qm_history.specs.Common.{NODES_LIMIT, turns_kept, at_first, no_scans, UserLine, lines_of, is_live}
use Rattle.qm_history.specs.declared.world.World.{World}
use Rattle.qm_script.specs.ClusterLines.{user_line_view, user_lines_view}
use Rattle.qm_script.specs.declared.lines.UserLine.{UserLine as CodeLine}
use Rattle.qm_cluster.specs.Fresh.{AreSeated, each_lines, own_view}
use Rattle.qm_cluster.specs.Runs.{AreLive, IsCluster, names_of}
use Rattle.qm_node.specs.Seats.{HeldSeat, standing_of}
use Rattle.qm_history.specs.Serving.{Meaning}
use Rattle.qm_node.specs.Standing.{IsBehind}
use Rattle.qm_cluster.proofs.Lifting.{some_same}
use Rattle.qm_cluster.proofs.Sitting.{name_at}

-- ---- own lines

behind_one : (lines : List CodeLine) (i : ℕ) (line : CodeLine) (name : List ℕ) → i < length lines → get_or lines i line ≡ line
    → lines_of name (user_lines_view (take (i + 1) lines)) ≡ lines_of name (user_lines_view (take i lines)) ++ lines_of name (user_line_view line ∷ [])
behind_one lines i line name within at =
    ap (λ (ls : List CodeLine). lines_of name (user_lines_view ls)) (take_more lines i line within ∙ ap (λ (l : CodeLine). take i lines ++ l ∷ []) at)
    ∙ ap (lines_of name) (map-append user_line_view (take i lines) (line ∷ []))
    ∙ filter-append (λ (l : UserLine). bytes_eq l.line.node name) (user_lines_view (take i lines)) (user_line_view line ∷ [])

-- one line more, if it is the node's
pub line_more : (lines : List CodeLine) (i : ℕ) (line : CodeLine) (name : List ℕ) (own : List CodeLine) → i < length lines → get_or lines i line ≡ line
    → user_lines_view own ≡ lines_of name (user_lines_view (take i lines)) → bytes_eq line.node name ≡ true
    → user_lines_view (own ++ line ∷ []) ≡ lines_of name (user_lines_view (take (i + 1) lines))
line_more lines i line name own within at is same =
    map-append user_line_view own (line ∷ [])
    ∙ ap (λ (b : Bool). user_lines_view own ++ cond b (user_line_view line ∷ []) []) (sym same)
    ∙ ap (λ (ls : List UserLine). ls ++ lines_of name (user_line_view line ∷ [])) is
    ∙ sym (behind_one lines i line name within at)

pub line_passed : (lines : List CodeLine) (i : ℕ) (line : CodeLine) (name : List ℕ) (own : List CodeLine) → i < length lines → get_or lines i line ≡ line
    → user_lines_view own ≡ lines_of name (user_lines_view (take i lines)) → bytes_eq line.node name ≡ false
    → user_lines_view own ≡ lines_of name (user_lines_view (take (i + 1) lines))
line_passed lines i line name own within at is differs =
    sym (append-nil (user_lines_view own))
    ∙ ap (λ (b : Bool). user_lines_view own ++ cond b (user_line_view line ∷ []) []) (sym differs)
    ∙ ap (λ (ls : List UserLine). ls ++ lines_of name (user_line_view line ∷ [])) is
    ∙ sym (behind_one lines i line name within at)

-- the lines of one node more
pub node_more : (script : List UserLine) (names : List (List ℕ)) (i : ℕ) (name : List ℕ) (own : List (Vec CodeLine Global)) (one : Vec CodeLine Global) → i < length names → get_or names i name ≡ name
    → own_view own ≡ each_lines script (take i names) → user_lines_view one.items ≡ lines_of name script
    → own_view (own ++ one ∷ []) ≡ each_lines script (take (i + 1) names)
node_more script names i name own one within at is one_is =
    map-append (λ (v : Vec CodeLine Global). user_lines_view v.items) own (one ∷ [])
    ∙ ap (λ (ls : List (List UserLine)). ls ++ user_lines_view one.items ∷ []) is
    ∙ ap (λ (l : List UserLine). each_lines script (take i names) ++ l ∷ []) one_is
    ∙ sym (map-append (λ (n : List ℕ). lines_of n script) (take i names) (name ∷ []))
    ∙ ap (each_lines script) (sym (take_more names i name within ∙ ap (λ (n : List ℕ). take i names ++ n ∷ []) at))

pub own_each : (own : List (Vec CodeLine Global)) (script : List UserLine) (names : List (List ℕ)) → own_view own ≡ each_lines script names → length own ≡ length names
own_each own script names is =
    sym (length-map own (λ (v : Vec CodeLine Global). user_lines_view v.items))
    ∙ ap (λ (ls : List (List UserLine)). length ls) is
    ∙ length-map names (λ (n : List ℕ). lines_of n script)

pub own_at : (own : List (Vec CodeLine Global)) (script : List UserLine) (names : List (List ℕ)) (k : ℕ) (one : Vec CodeLine Global) (name : List ℕ) → own_view own ≡ each_lines script names
    → slice_get own k ≡ Some one → slice_get names k ≡ Some name → user_lines_view one.items ≡ lines_of name script
own_at own script names k one name is mine named =
    some_same (slice_get (own_view own) k) (lines_of name script) (user_lines_view one.items)
    (ap (λ (ls : List (List UserLine)). slice_get ls k) is
    ∙ slice_get-map (λ (n : List ℕ). lines_of n script) names k ∙ ap (λ (o : Option (List ℕ)). option_map (λ (n : List ℕ). lines_of n script) o) named)
    (slice_get-map (λ (v : Vec CodeLine Global). user_lines_view v.items) own k ∙ ap (λ (o : Option (Vec CodeLine Global)). option_map (λ (v : Vec CodeLine Global). user_lines_view v.items) o) mine)

-- ---- seats in front of them

abbrev pub fresh_seat : List ℕ → List UserLine → HeldSeat
fresh_seat name lines = record { name = name; node = record { state = at_first lines; made = None }; live = true; count = 0; begun = no_scans }

abbrev pub front_seat : List UserLine → List ℕ → HeldSeat
front_seat script name = fresh_seat name (lines_of name script)

abbrev pub front_seats : List UserLine → List (List ℕ) → List HeldSeat
front_seats script names = map (front_seat script) names

pub seat_more : (script : List UserLine) (names : List (List ℕ)) (i : ℕ) (name : List ℕ) (lines : List UserLine) (seats : List HeldSeat) → i < length names → get_or names i name ≡ name
    → seats ≡ front_seats script (take i names) → lines ≡ lines_of name script → seats ++ fresh_seat name lines ∷ [] ≡ front_seats script (take (i + 1) names)
seat_more script names i name lines seats within at is own =
    ap (λ (ss : List HeldSeat). ss ++ fresh_seat name lines ∷ []) is
    ∙ ap (λ (ls : List UserLine). front_seats script (take i names) ++ fresh_seat name ls ∷ []) own
    ∙ sym (map-append (front_seat script) (take i names) (name ∷ []))
    ∙ ap (front_seats script) (sym (take_more names i name within ∙ ap (λ (n : List ℕ). take i names ++ n ∷ []) at))

front_names : (script : List UserLine) (names : List (List ℕ)) → names_of (front_seats script names) ≡ names
front_names script [] = refl
front_names script (name ∷ names) = ap (λ (ns : List (List ℕ)). name ∷ ns) (front_names script names)

front_found : (script : List UserLine) (o : Option (List ℕ)) (seat : HeldSeat) → option_map (front_seat script) o ≡ Some seat → (name : List ℕ) × (seat ≡ front_seat script name)
front_found script None seat is = cc
front_found script (Some name) seat is = (name, cc)

front_at : (script : List UserLine) (names : List (List ℕ)) (node : ℕ) (seat : HeldSeat) → slice_get (front_seats script names) node ≡ Some seat → (name : List ℕ) × (seat ≡ front_seat script name)
front_at script names node seat is = front_found script (slice_get names node) seat (sym (slice_get-map (front_seat script) names node) ∙ is)

front_seated : (script : List UserLine) (names : List (List ℕ)) → AreSeated script names (front_seats script names)
front_seated script names = record {
  named = front_names script names;
  fresh = λ node seat is.
      let e = (front_at script names node seat is).1 in
      (subst (λ (s : HeldSeat). s.node.state ≡ at_first (lines_of s.name script)) (sym e) refl, subst (λ (s : HeldSeat). IsBehind [] (standing_of s)) (sym e) (record { count = refl; begun = refl }));
  live = λ node seat is. ap (λ (s : HeldSeat). s.live) (front_at script names node seat is).1;
  ready = λ node seat is. ap (λ (s : HeldSeat). s.node.made) (front_at script names node seat is).1;
}

pub are_seated : (script : List UserLine) (names : List (List ℕ)) (seats : List HeldSeat) → seats ≡ front_seats script names → AreSeated script names seats
are_seated script names seats is = subst (λ (ss : List HeldSeat). AreSeated script names ss) (sym is) (front_seated script names)

-- ---- the cluster that they make

places_by : (names : List (List ℕ)) → AllPairs (λ (a b : List ℕ). a ≢ b) names → (i j : ℕ) (name : List ℕ) → slice_get names i ≡ Some name → slice_get names j ≡ Some name
    → (i < j) ⊎ (j ≤ i) → (j < i) ⊎ (i ≤ j) → i ≡ j
places_by names apart i j name first second (inl less) other =
    absurd (apart i j name less (slice_get_within names j name second) (get_or_from_slice_get names i name name first ∙ sym (get_or_from_slice_get names j name name second)))
places_by names apart i j name first second (inr from) (inl less) =
    absurd (apart j i name less (slice_get_within names i name first) (get_or_from_slice_get names j name name second ∙ sym (get_or_from_slice_get names i name name first)))
places_by names apart i j name first second (inr from) (inr to) = omega (arith, from, to)

pub distinct_places : (names : List (List ℕ)) → AllPairs (λ (a b : List ℕ). a ≢ b) names → (i j : ℕ) (name : List ℕ) → slice_get names i ≡ Some name → slice_get names j ≡ Some name → i ≡ j
distinct_places names apart i j name first second = places_by names apart i j name first second (cases_lt i j) (cases_lt j i)

module _ (script : List UserLine) (names : List (List ℕ)) (seats : List HeldSeat) (seated : AreSeated script names seats) where
  pub seated_count : length seats ≡ length names
  seated_count = sym (length-map seats (λ (s : HeldSeat). s.name)) ∙ ap (λ (ns : List (List ℕ)). length ns) seated.named

  pub seated_cluster : {S : Type 0} (m : Meaning S) (value : S) (stations : ℕ) → m.nodes value ≡ names → m.serves value → length (m.turns value) ≤ turns_kept
      → ((i j : ℕ) (name : List ℕ) → slice_get names i ≡ Some name → slice_get names j ≡ Some name → i ≡ j) → length names ≤ stations → length names ≤ NODES_LIMIT
      → IsCluster m value seats stations
  seated_cluster m value stations nodes serves few distinct enough limit = record {
    can = λ node seat is. record {
      serves = serves;
      there = ap (λ (ns : List (List ℕ)). slice_get ns node) (nodes ∙ sym seated.named) ∙ name_at seats node seat is;
      ready = seated.ready node seat is;
      own = subst (λ (n : ℕ). n ≤ length (m.turns value)) (seated.fresh node seat is).1.count (omega arith);
      few = few;
    };
    distinct = subst (λ (ns : List (List ℕ)). (i j : ℕ) (name : List ℕ) → slice_get ns i ≡ Some name → slice_get ns j ≡ Some name → i ≡ j) (sym seated.named) distinct;
    enough = subst (λ (n : ℕ). n ≤ stations) (sym seated_count) enough;
    few = subst (λ (n : ℕ). n ≤ NODES_LIMIT) (sym seated_count) limit;
  }

  pub seated_live : (w : World) → ((node : ℕ) → node < length names → is_live w node ≡ true) → AreLive w seats
  seated_live w live = λ node seat is. seated.live node seat is ∙ sym (live node (subst (λ (n : ℕ). node < n) seated_count (slice_get_within seats node seat is)))
