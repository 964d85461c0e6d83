-- A script that was served, and one that was served up to an end.
use Rattle.std.proofs.Common.{◌≡◌, ℕ, Bool, List, [], ◌∷◌, length, refl, sym, ◌∙◌, ap, subst, Option, None, Some, arith, slice_get, option_map}
use Rattle.std.proofs.lemmas.Option.{slice_get-map, slice_get_within}
use Rattle.qm_symb.specs.Device as symb
use Rattle.qm_history.specs.declared.turn.Turn.{Turn}
use Rattle.qm_history.specs.declared.world.World.{World}
use Rattle.qm_history.specs.Course.{Whole, Begun, GoesOn, NextTurn, NoTurn, NodeState, Reading, Fetching, Working, Leaving, Over, Stage, at_first, failed_steps, next_at}
use Rattle.qm_history.specs.Common.{after_turn, IsLegal, IsWaiting, Reaches, UserLine, lines_of, visits_of, is_live}
use Rattle.qm_history.proofs.AnswerLemmas.{answers_legal}
use Rattle.qm_node.specs.Asking.{read_built}
use Rattle.qm_cluster.specs.Runs.{AllDown, AllGo, AllStop, AreFresh, AreReading, AreThrough, IsNodeOf, NodeGoes, NodeStops, Serving, Site, Stopping, names_of, numbers_of, so_far}
use Rattle.qm_node.specs.Sides.{Side}
use Rattle.qm_node.specs.Seats.{HeldSeat, standing_of}
use Rattle.qm_history.specs.Serving.{AreMade, Meaning}
use Rattle.qm_node.specs.Standing.{IsBehind}
use Rattle.qm_node.specs.declared.turn.TurnEnd.{TurnEnd}
use Rattle.qm_cluster.proofs.Lifting.{some_there}
use Rattle.qm_cluster.proofs.Reached.{reached_is}

-- ---- nodes in front of their lines

pub fresh_reading : (script : List UserLine) (seats : List HeldSeat) → AreFresh script seats → AreReading script seats
fresh_reading script seats fresh = λ node seat is.
    let first = (fresh node seat is).0 in
    record {
      stage = ap (λ (n : NodeState). n.stage) first;
      lines_are = ap (λ (n : NodeState). n.lines) first;
      waits = ap (λ (n : NodeState). next_at seat.live n Reading) first;
    }

pub fresh_down : (script : List UserLine) (seats : List HeldSeat) → AreFresh script seats → AllDown seats
fresh_down script seats fresh = λ node seat is over.
    let bad : Reading ≡ Over = sym (ap (λ (n : NodeState). n.stage) (fresh node seat is).0) ∙ over in cc

none_waits : (stage : Stage) (nt : NextTurn) → nt ≡ NoTurn → IsWaiting stage nt
none_waits Reading nt is = subst (λ (x : NextTurn). IsWaiting Reading x) (sym is) tt
none_waits Fetching nt is = subst (λ (x : NextTurn). IsWaiting Fetching x) (sym is) tt
none_waits Working nt is = subst (λ (x : NextTurn). IsWaiting Working x) (sym is) tt
none_waits Leaving nt is = subst (λ (x : NextTurn). IsWaiting Leaving x) (sym is) tt
none_waits Over nt is = subst (λ (x : NextTurn). IsWaiting Over x) (sym is) tt

-- the seat of a name
seat_found : (o : Option HeldSeat) (name : List ℕ) → option_map (λ (s : HeldSeat). s.name) o ≡ Some name → (s : HeldSeat) × (o ≡ Some s) × (s.name ≡ name)
seat_found None name is = cc
seat_found (Some s) name is = (s, refl, cc)

seat_of : (seats : List HeldSeat) (node : ℕ) (name : List ℕ) → slice_get (names_of seats) node ≡ Some name → (s : HeldSeat) × (slice_get seats node ≡ Some s) × (s.name ≡ name)
seat_of seats node name is = seat_found (slice_get seats node) name (sym (slice_get-map (λ (s : HeldSeat). s.name) seats node) ∙ is)

module _ {S Y : Type 0} (m : Meaning S) (y : symb.Meaning Y) where
  made_legal : (w : World) (turns : List Turn) (old new : S) → AreMade m w old turns new → IsLegal w turns
  made_legal w [] old new made = tt
  made_legal w (t ∷ turns) old new (asked, told, next, may, does, rest) = (answers_legal w asked t told may, made_legal (after_turn w t) turns next new rest)

  -- ---- the whole script

  node_whole : (w : World) (turns : List Turn) (node : ℕ) (lines : List UserLine) (here there : HeldSeat) (was now : Side Y) → here.node.state ≡ at_first lines → IsBehind [] (standing_of here) → here.live ≡ is_live w node
      → next_at there.live there.node.state there.node.state.stage ≡ NoTurn → NodeGoes m y w node (standing_of here) (standing_of there) turns was now → IsNodeOf m y Whole w turns node lines was now
  node_whole w turns node lines here there was now first none live over g =
      let reached : Reaches read_built (at_first lines) [] (is_live w node) (visits_of node w turns) g.steps there.node.state there.live =
      subst (λ (n : NodeState). Reaches read_built n [] (is_live w node) (visits_of node w turns) g.steps there.node.state there.live) first
      (subst (λ (b : Bool). Reaches read_built here.node.state [] b (visits_of node w turns) g.steps there.node.state there.live) live (g.reaches [] none)) in
      record {
        faults = failed_steps g.steps;
        course = record {
          steps = g.steps;
          broken = None;
          turns_are = reached_is Whole (visits_of node w turns) [] (at_first lines) (is_live w node) g.steps there.node.state there.live reached over;
          few_faults = omega arith;
        };
        rose = g.rose;
        told = g.told;
        taken = g.taken;
        waits = λ isnt. (there.node.state, there.live, reached, none_waits there.node.state.stage (next_at there.live there.node.state there.node.state.stage) over);
      }

  pub script_served : (script : List UserLine) (last : ℕ) (old new : Site S Y) → AreFresh script old.seats → AllGo m y (so_far (numbers_of script) 0) (so_far [] last) old new
      → AreThrough (length new.seats) new.seats → Serving m y script old new
  script_served script last old new fresh go through = record {
    turns = go.turns;
    kept = go.kept;
    failed = go.failed;
    at = λ w stands live.
        let a = go.at w stands live (fresh_down script old.seats fresh) in
        record {
          run = record {
            legal = made_legal w go.turns old.value new.value a.made;
            order = a.order;
            nodes = λ node name before after named was now.
                let seat = seat_of old.seats node name named in
                let there = some_there old.seats new.seats node seat.0 seat.1 go.seats in
                let whole = node_whole w go.turns node (lines_of seat.0.name script) seat.0 there.0 before after (fresh node seat.0 seat.1).0 (fresh node seat.0 seat.1).1 (live node seat.0 seat.1)
                (through node there.0 (slice_get_within new.seats node there.0 there.1) there.1) (a.nodes node seat.0 there.0 before after seat.1 there.1 was now) in
                subst (λ (n : List ℕ). IsNodeOf m y Whole w go.turns node (lines_of n script) before after) seat.2 whole;
          };
          made = a.made;
          stands = a.stands;
          printed = a.printed;
        };
  }

  -- ---- up to an end

  node_begun : (w : World) (turns : List Turn) (node : ℕ) (lines : List UserLine) (here : HeldSeat) (was now : Side Y) → here.node.state ≡ at_first lines → IsBehind [] (standing_of here) → here.live ≡ is_live w node
      → NodeStops m y w node (standing_of here) turns was now → IsNodeOf m y Begun w turns node lines was now
  node_begun w turns node lines here was now first none live g = record {
    faults = g.faults;
    course = record {
      steps = g.steps;
      broken = g.broken;
      turns_are =
          subst (λ (n : NodeState). GoesOn read_built Begun g.broken n [] (is_live w node) (visits_of node w turns) g.steps) first
          (subst (λ (b : Bool). GoesOn read_built Begun g.broken here.node.state [] b (visits_of node w turns) g.steps) live (g.goes_on [] none));
      few_faults = g.few_faults;
    };
    rose = g.rose;
    told = g.told;
    taken = g.taken;
    waits = λ isnt.
        let waiting = g.waits isnt [] none in (
          waiting.0,
          waiting.1,
          subst (λ (n : NodeState). Reaches read_built n [] (is_live w node) (visits_of node w turns) g.steps waiting.0 waiting.1) first
              (subst (λ (b : Bool). Reaches read_built here.node.state [] b (visits_of node w turns) g.steps waiting.0 waiting.1) live waiting.2),
          waiting.3,
        );
  }

  pub script_stopped : (script : List UserLine) (old new : Site S Y) (stopped : TurnEnd) → AreFresh script old.seats → AllStop m y (so_far (numbers_of script) 0) old new stopped
      → Stopping m y script old new stopped
  script_stopped script old new stopped fresh stop = record {
    turns = stop.turns;
    kept = stop.kept;
    full = stop.full;
    failed = stop.failed;
    at = λ w stands live.
        let a = stop.at w stands live (fresh_down script old.seats fresh) in
        record {
          run = record {
            legal = made_legal w stop.turns old.value a.next a.made;
            order = a.order;
            nodes = λ node name before after named was now.
                let seat = seat_of old.seats node name named in
                subst (λ (n : List ℕ). IsNodeOf m y Begun w stop.turns node (lines_of n script) before after) seat.2
                (node_begun w stop.turns node (lines_of seat.0.name script) seat.0 before after (fresh node seat.0 seat.1).0 (fresh node seat.0 seat.1).1 (live node seat.0 seat.1)
                (a.nodes node seat.0 before after seat.1 was now));
          };
          next = a.next;
          made = a.made;
          last = a.last;
          printed = a.printed;
        };
  }
