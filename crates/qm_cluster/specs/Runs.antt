-- What serving a script of several nodes on one thread leaves.
-- OpenVMS System Manager's Manual, Setting Up and Maintaining Queues, and Managing the Queue Manager and Queue Database.
-- This site's own: lines in their order, and then the nodes in the cluster's.
use Rattle.std.specs.Prelude.{◌≡◌, ◌≢◌, ◌<◌, ◌≤◌, ℕ, Bool, List, [], ◌∷◌, ◌++◌, length, map, slice_get, Option, None, Some, Contains}
use Rattle.std.specs.List.{AllByRecursion}
use Rattle.std.specs.Io.KnownBytes.{Appends}
use Rattle.qm_history.specs.Common.{NODES_LIMIT, KeptRun, turns_kept, faults_told, after_turns, IsLegal, Reaches, UserLine, lines_of, text, Visit, visits_of, is_live}
use Rattle.qm_symb.specs.Device as symb
use Rattle.qm_history.specs.declared.turn.Turn.{Turn}
use Rattle.qm_history.specs.declared.world.World.{World}
use Rattle.qm_history.specs.Course.{Extent, Whole, Begun, GoesOn, IsCourse, MadeStep, NodeState, NoTurn, Reading, at_first, failed_steps, next_at, next_line}
use Rattle.qm_history.specs.Order.{AreInOrder, IsWaiting, Served, WaitsUnlessLast, last_node, nothing_served, served_with}
use Rattle.qm_sjc.specs.Printed.{items_line}
use Rattle.qm_node.specs.Asking.{read_built}
use Rattle.qm_cluster.specs.Nodes.{CanGoOn}
use Rattle.qm_node.specs.Seats.{HeldSeat, standing_of}
use Rattle.qm_history.specs.Serving.{Meaning, AreMade, LeavesNone}
use Rattle.qm_node.specs.Standing.{IsBehind, Standing}
use Rattle.qm_node.specs.Sides.{Side, side_of}
use Rattle.qm_node.specs.Taken.{AreTaken, AreTold, Rises, RoseBy}
use Rattle.qm_cluster.specs.Turning.{IsDownOver, IsFullAt, IsToldTo, TakesUpTo}
use Rattle.qm_node.specs.declared.seat.Station.{Station}
use Rattle.qm_node.specs.declared.turn.TurnEnd.{TurnEnd}

-- what serving touches: the value, the sink, the nodes between two turns, and what each has of its own
pub record Site (S Y : Type 0) : Type 0 where
  pub value : S
  pub taken : Option (List ℕ)
  pub seats : List HeldSeat
  pub sides : List (Side Y)

abbrev pub site_of : {S C Y : Type 0} → (C → Option (List ℕ)) → S → Option (List ℕ) → List HeldSeat → List (Station C Y) → Site S Y
site_of told value taken seats stations = record { value = value; taken = taken; seats = seats; sides = map (side_of told) stations }

-- how far serving has come: these lines are left, and this node's turn was the last one
abbrev pub so_far : List ℕ → ℕ → Served
so_far left node = record { left = left; node = node }

-- the numbers of lines
abbrev pub numbers_of : List UserLine → List ℕ
numbers_of script = map (λ (l : UserLine). l.line.number) script

-- how far serving has come behind turns
abbrev pub served_after : Served → List Turn → Served
served_after so_far [] = so_far
served_after so_far (t ∷ turns) = served_after (served_with so_far t.node t.why) turns

-- the node reads these lines: it stands before the next one, and no step is left behind the last one
pub record IsReading (lines : List UserLine) (seat : HeldSeat) : Type 0 where
  pub stage : seat.node.state.stage ≡ Reading
  pub lines_are : seat.node.state.lines ≡ lines
  pub waits : next_at seat.live seat.node.state Reading ≡ next_line seat.live lines

-- the same of each node that has its lines of a script
abbrev pub AreReading : List UserLine → List HeldSeat → Type 0
AreReading script seats = (node : ℕ) (seat : HeldSeat) → slice_get seats node ≡ Some seat → IsReading (lines_of seat.name script) seat

-- nothing more comes of these first nodes
abbrev pub AreThrough : ℕ → List HeldSeat → Type 0
AreThrough nodes seats =
    (node : ℕ) (seat : HeldSeat) → node < nodes → slice_get seats node ≡ Some seat → next_at seat.live seat.node.state seat.node.state.stage ≡ NoTurn

-- the nodes from this one on read, with no line left
abbrev pub AreReadingFrom : ℕ → List HeldSeat → Type 0
AreReadingFrom first seats = (node : ℕ) (seat : HeldSeat) → first ≤ node → slice_get seats node ≡ Some seat → IsReading [] seat

-- each node can make its next turn on the value
abbrev pub AllCanGoOn : {S : Type 0} → Meaning S → S → List HeldSeat → Type 0
AllCanGoOn m value seats = (node : ℕ) (seat : HeldSeat) → slice_get seats node ≡ Some seat → CanGoOn m node value seat

-- the names of the nodes
abbrev pub names_of : List HeldSeat → List (List ℕ)
names_of seats = map (λ (s : HeldSeat). s.name) seats

-- Turns of these nodes can be made on the value: they are its own, each name is there once, and each node has a station.
pub record IsCluster {S : Type 0} (m : Meaning S) (value : S) (seats : List HeldSeat) (stations : ℕ) : Type 0 where
  pub can : AllCanGoOn m value seats
  pub distinct : (i j : ℕ) (name : List ℕ) → slice_get (names_of seats) i ≡ Some name → slice_get (names_of seats) j ≡ Some name → i ≡ j
  pub enough : length seats ≤ stations
  pub few : length seats ≤ NODES_LIMIT

-- each line is of one of the nodes
abbrev pub AreOfNodes : List HeldSeat → List UserLine → Type 0
AreOfNodes seats script = AllByRecursion (λ (l : UserLine). Contains (names_of seats) l.line.node) script

-- each node stands in front of its lines of the script, with no run, and has made no turn
abbrev pub AreFresh : List UserLine → List HeldSeat → Type 0
AreFresh script seats =
    (node : ℕ) (seat : HeldSeat) → slice_get seats node ≡ Some seat → (seat.node.state ≡ at_first (lines_of seat.name script)) × IsBehind [] (standing_of seat)

-- each node is live as it stands
abbrev pub AreLive : World → List HeldSeat → Type 0
AreLive w seats = (node : ℕ) (seat : HeldSeat) → slice_get seats node ≡ Some seat → seat.live ≡ is_live w node

-- each node that is through with everything is live no more
abbrev pub AllDown : List HeldSeat → Type 0
AllDown seats = (node : ℕ) (seat : HeldSeat) → slice_get seats node ≡ Some seat → IsDownOver (standing_of seat)

-- each node is one in whose place others are served
abbrev pub AllWait : List HeldSeat → Type 0
AllWait seats =
    (node : ℕ) (seat : HeldSeat) → slice_get seats node ≡ Some seat → IsWaiting seat.node.state.stage (next_at seat.live seat.node.state seat.node.state.stage)

module _ {S Y : Type 0} (m : Meaning S) (y : symb.Meaning Y) where
  -- Turns were made in this world, of which these are this node's: each is the one that comes next by what the node keeps, its
  -- clock told their readings, and its devices took the blocks of their steps.
  pub record NodeGoes (w : World) (node : ℕ) (here there : Standing) (turns : List Turn) (was now : Side Y) : Type 0 where
    pub steps : List MadeStep
    pub reaches :
        (earlier : List Visit) → IsBehind earlier here
        → Reaches read_built here.state earlier here.live (visits_of node w turns) steps there.state there.live
    pub behind : (earlier : List Visit) → IsBehind earlier here → IsBehind (earlier ++ visits_of node w turns) there
    pub live : here.live ≡ is_live w node → there.live ≡ is_live (after_turns w turns) node
    pub down : IsDownOver here → IsDownOver there
    pub told : AreTold Whole (visits_of node w turns) was.told now.told
    pub rose : Rises y (failed_steps steps) was.symbiont now.symbiont
    pub taken : AreTaken y steps None was.symbiont now.symbiont

  -- In a world for which the value stood, these turns were made one behind another, in the order of one thread from where serving
  -- had come before; the value stands for the world behind them; the sink took what they print; and of each node they are what it
  -- does.
  pub record AllGoAt (w : World) (before : Served) (turns : List Turn) (old new : Site S Y) : Type 0 where
    pub made : AreMade m w old.value turns new.value
    pub stands : m.stands (after_turns w turns) new.value
    pub order : AreInOrder w before turns
    pub printed : Appends old.taken new.taken (text items_line w turns)
    pub live : AreLive (after_turns w turns) new.seats
    pub down : AllDown new.seats
    pub nodes :
        (node : ℕ) (here there : HeldSeat) (was now : Side Y) → slice_get old.seats node ≡ Some here → slice_get new.seats node ≡ Some there
        → slice_get old.sides node ≡ Some was → slice_get new.sides node ≡ Some now → NodeGoes w node (standing_of here) (standing_of there) turns was now

  -- Turns of the nodes were made, behind which serving has come so far.
  pub record AllGo (before after : Served) (old new : Site S Y) : Type 0 where
    pub turns : List Turn
    pub kept : m.turns new.value ≡ m.turns old.value ++ turns
    pub few : length (m.turns new.value) ≤ turns_kept
    pub nodes : m.nodes new.value ≡ m.nodes old.value
    pub serves : m.serves new.value
    pub failed : RoseBy (faults_told turns) (m.failed old.value) (m.failed new.value)
    pub so_far : served_after before turns ≡ after
    pub seats : length new.seats ≡ length old.seats
    pub sides : length new.sides ≡ length old.sides
    pub at : (w : World) → m.stands w old.value → AreLive w old.seats → AllDown old.seats → AllGoAt w before turns old new

  -- The first ones of a node's turns, up to an end; it waits, unless its turn was the last one.
  pub record NodeStops (w : World) (node : ℕ) (here : Standing) (turns : List Turn) (was now : Side Y) : Type 0 where
    pub steps : List MadeStep
    pub broken : Option KeptRun
    pub goes_on :
        (earlier : List Visit) → IsBehind earlier here
        → GoesOn read_built Begun broken here.state earlier here.live (visits_of node w turns) steps
    pub told : AreTold Begun (visits_of node w turns) was.told now.told
    pub faults : ℕ
    pub rose : Rises y faults was.symbiont now.symbiont
    pub few_faults : failed_steps steps ≤ faults
    pub taken : AreTaken y steps broken was.symbiont now.symbiont
    pub waits :
        last_node turns ≢ Some node → (earlier : List Visit) → IsBehind earlier here
        → (then : NodeState) × (then_live : Bool) × Reaches read_built here.state earlier here.live (visits_of node w turns) steps then then_live
        × IsWaiting then.stage (next_at then_live then then.stage)

  pub record AllStopAt (w : World) (before : Served) (turns : List Turn) (old new : Site S Y) (stopped : TurnEnd) : Type 0 where
    pub next : S
    pub made : AreMade m w old.value turns next
    pub last : LeavesNone m (after_turns w turns) next new.value
    pub order : AreInOrder w before turns
    pub printed : TakesUpTo stopped old.taken new.taken (text items_line w turns)
    pub nodes :
        (node : ℕ) (here : HeldSeat) (was now : Side Y) → slice_get old.seats node ≡ Some here → slice_get old.sides node ≡ Some was
        → slice_get new.sides node ≡ Some now → NodeStops w node (standing_of here) turns was now

  -- Turns of the nodes were made up to an end.
  pub record AllStop (before : Served) (old new : Site S Y) (stopped : TurnEnd) : Type 0 where
    pub turns : List Turn
    pub kept : m.turns new.value ≡ m.turns old.value ++ turns
    pub full : IsFullAt stopped (m.turns new.value)
    pub nodes : m.nodes new.value ≡ m.nodes old.value
    pub failed : IsToldTo stopped turns (m.failed old.value) (m.failed new.value)
    pub sides : length new.sides ≡ length old.sides
    pub at : (w : World) → m.stands w old.value → AreLive w old.seats → AllDown old.seats → AllStopAt w before turns old new stopped

  -- Turns of the nodes behind the last line were made up to an end, whoever's turn was the last one before.
  abbrev pub AllStopWorking : Site S Y → Site S Y → TurnEnd → Type 0
  AllStopWorking old new stopped = (last : ℕ) → AllStop (so_far [] last) old new stopped

  -- the lines were served, in their order, and each node reads on behind its last one
  pub record ServesLines (script : List UserLine) (old new : Site S Y) : Type 0 where
    pub last : ℕ
    pub go : AllGo (so_far (numbers_of script) 0) (so_far [] last) old new
    pub cluster : IsCluster m new.value new.seats (length new.sides)
    pub names : names_of new.seats ≡ names_of old.seats
    pub reading : AreReading [] new.seats

  -- each node worked on for itself until nothing more came of it, whoever's turn was the last one before
  pub record RunsNodes (old new : Site S Y) : Type 0 where
    pub go : (last : ℕ) → (now : ℕ) × AllGo (so_far [] last) (so_far [] now) old new
    pub through : AreThrough (length new.seats) new.seats
    pub names : names_of new.seats ≡ names_of old.seats

  -- ---- what is left

  -- A node's turns in a history are a course of its lines, by its symbiont's count of faults and the moments that its clock told;
  -- its devices took the blocks of its steps; and it waits, unless its turn was the last one.
  pub record IsNodeOf (extent : Extent) (w : World) (turns : List Turn) (node : ℕ) (lines : List UserLine) (was now : Side Y) : Type 0 where
    pub faults : ℕ
    pub course : IsCourse read_built extent w turns node lines faults
    pub rose : Rises y faults was.symbiont now.symbiont
    pub told : AreTold extent (visits_of node w turns) was.told now.told
    pub taken : AreTaken y course.steps course.broken was.symbiont now.symbiont
    pub waits : WaitsUnlessLast read_built w turns node lines course.steps

  -- The turns are a legal history, in the order of one thread, and each node's are so.
  pub record IsRun (extent : Extent) (w : World) (script : List UserLine) (names : List (List ℕ)) (turns : List Turn) (was now : List (Side Y)) : Type 0 where
    pub legal : IsLegal w turns
    pub order : AreInOrder w (nothing_served (numbers_of script)) turns
    pub nodes :
        (node : ℕ) (name : List ℕ) (before after : Side Y) → slice_get names node ≡ Some name → slice_get was node ≡ Some before
        → slice_get now node ≡ Some after → IsNodeOf extent w turns node (lines_of name script) before after

  -- the script was served whole: the turns were made one behind another, and the sink took their text
  pub record ServesScript (w : World) (script : List UserLine) (names : List (List ℕ)) (turns : List Turn) (old new : Site S Y) : Type 0 where
    pub run : IsRun Whole w script names turns old.sides new.sides
    pub made : AreMade m w old.value turns new.value
    pub stands : m.stands (after_turns w turns) new.value
    pub printed : Appends old.taken new.taken (text items_line w turns)

  -- it was served up to an end
  pub record StopsScript (w : World) (script : List UserLine) (names : List (List ℕ)) (turns : List Turn) (old new : Site S Y) (end : TurnEnd) : Type 0 where
    pub run : IsRun Begun w script names turns old.sides new.sides
    pub next : S
    pub made : AreMade m w old.value turns next
    pub last : LeavesNone m (after_turns w turns) next new.value
    pub printed : TakesUpTo end old.taken new.taken (text items_line w turns)

  -- What serving a script leaves whatever the disks tell, and in each world for which the value stood, in which each node is live as
  -- it stands.
  pub record Serving (script : List UserLine) (old new : Site S Y) : Type 0 where
    pub turns : List Turn
    pub kept : m.turns new.value ≡ m.turns old.value ++ turns
    pub failed : RoseBy (faults_told turns) (m.failed old.value) (m.failed new.value)
    pub at : (w : World) → m.stands w old.value → AreLive w old.seats → ServesScript w script (names_of old.seats) turns old new

  pub record Stopping (script : List UserLine) (old new : Site S Y) (stopped : TurnEnd) : Type 0 where
    pub turns : List Turn
    pub kept : m.turns new.value ≡ m.turns old.value ++ turns
    pub full : IsFullAt stopped (m.turns new.value)
    pub failed : IsToldTo stopped turns (m.failed old.value) (m.failed new.value)
    pub at : (w : World) → m.stands w old.value → AreLive w old.seats → StopsScript w script (names_of old.seats) turns old new stopped
