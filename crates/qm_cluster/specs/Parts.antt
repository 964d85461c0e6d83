-- What a node does where it is its turn: the turn of a line and the steps behind it, or, behind its last line, a fetch and all
-- that follows.
use Rattle.std.specs.Prelude.{◌≡◌, ◌⊎◌, ℕ, [], Some, length, drop}
use Rattle.qm_symb.specs.Device as symb
use Rattle.qm_history.specs.declared.turn.Why.{Why}
use Rattle.qm_history.specs.declared.turn.Why.TheVariants as why
use Rattle.qm_history.specs.Course.{NoTurn, Reading}
use Rattle.qm_cluster.specs.Nodes.{CanGoOn}
use Rattle.qm_node.specs.Answered.{IsLineOrStep, lines_behind}
use Rattle.qm_node.specs.Node.{CanBeMade, IsTurn}
use Rattle.qm_node.specs.Seats.{HeldSeat, next_turn, standing_of}
use Rattle.qm_history.specs.Serving.{Meaning}
use Rattle.qm_node.specs.Outside.{Outside}
use Rattle.qm_cluster.specs.Turning.{Goes, IsOwnWhy, Stops, StopsOnce}
use Rattle.qm_node.specs.Coming.{IsNoStep, why_next}
use Rattle.qm_node.specs.declared.course.Next.{Next}
use Rattle.qm_node.specs.declared.turn.TurnEnd.{TurnEnd}
use Rattle.qm_cluster.specs.declared.part.Part.{Part}
use Rattle.qm_cluster.specs.declared.part.Part.TheVariants.{Steps, Own}

abbrev pub IsLineOf : ℕ → Why → Type 0
IsLineOf number w = w ≡ why.Line number

abbrev pub IsReport : Why → Type 0
IsReport w = w ≡ why.Report

abbrev pub IsFetch : Why → Type 0
IsFetch w = w ≡ why.Fetch

-- the reason of a turn that came next
abbrev pub IsWhyOf : Next → Why → Type 0
IsWhyOf next w = w ≡ why_next next

-- the reasons of the turns of a part
abbrev pub IsWhyIn : Part → Why → Type 0
IsWhyIn Steps w = IsReport w
IsWhyIn Own w = IsOwnWhy w

abbrev pub IsOfPart : Part → Next → Type 0
IsOfPart Steps next = why_next next ≡ why.Report
IsOfPart Own next = Unit {0}

-- this comes next, can be made, and is a turn of the part
pub record IsNextIn (part : Part) (seat : HeldSeat) (next : Next) : Type 0 where
  pub turn_is : IsTurn (next_turn seat) (Some next)
  pub can : CanBeMade seat.node.state next
  pub of_part : IsOfPart part next

-- no turn of the part comes next
abbrev pub NoneIsNextIn : Part → HeldSeat → Type 0
NoneIsNextIn Steps seat = IsNoStep (next_turn seat)
NoneIsNextIn Own seat = next_turn seat ≡ NoTurn

-- turns of the part can be made there: a node makes none of itself before its last line
abbrev pub CanFollow : Part → HeldSeat → Type 0
CanFollow Steps seat = Unit {0}
CanFollow Own seat = seat.node.state.lines ≡ []

-- Behind a first turn and steps the node has the lines that the first turn left, and reads on if it did so; behind turns of its own
-- it has no line.
abbrev pub LeavesLines : Part → Next → HeldSeat → HeldSeat → Type 0
LeavesLines Steps first here there =
    (there.node.state.lines ≡ lines_behind first here.node.state.lines)
    × (IsLineOrStep first → here.node.state.stage ≡ Reading → there.node.state.stage ≡ Reading)
LeavesLines Own first here there = there.node.state.lines ≡ []

module _ {S Y : Type 0} (m : Meaning S) (y : symb.Meaning Y) (node : ℕ) where
  -- turns for one reason, and behind them turns for another
  pub record Both (One Two : Why → Type 0) (here there : HeldSeat) (old new : Outside S Y) : Type 0 where
    pub mid : HeldSeat
    pub between : Outside S Y
    pub first : Goes m y One node (standing_of here) (standing_of mid) old between
    pub one : length first.turns ≡ 1
    pub second : Goes m y Two node (standing_of mid) (standing_of there) between new

  -- serving stopped within the first ones, or within those behind them
  pub record StopsBehind (One Two : Why → Type 0) (here : HeldSeat) (old new : Outside S Y) (stopped : TurnEnd) : Type 0 where
    pub mid : HeldSeat
    pub between : Outside S Y
    pub first : Goes m y One node (standing_of here) (standing_of mid) old between
    pub one : length first.turns ≡ 1
    pub second : Stops m y Two node (standing_of mid) between new stopped

  abbrev pub StopsInBoth : (Why → Type 0) → (Why → Type 0) → HeldSeat → Outside S Y → Outside S Y → TurnEnd → Type 0
  StopsInBoth One Two here old new stopped = StopsOnce m y One node (standing_of here) old new stopped ⊎ StopsBehind One Two here old new stopped

  -- The turn that came next was made, and those of a part behind it, until none came next.
  pub record ServesPart (part : Part) (first : Next) (here there : HeldSeat) (old new : Outside S Y) : Type 0 where
    pub goes : Both (IsWhyOf first) (IsWhyIn part) here there old new
    pub can : CanGoOn m node new.value there
    pub name : there.name ≡ here.name
    pub lines : LeavesLines part first here there
    pub none : NoneIsNextIn part there

  -- Serving stopped at the turn that came next, or at one of those behind it.
  abbrev pub StopsPart : Part → Next → HeldSeat → Outside S Y → Outside S Y → TurnEnd → Type 0
  StopsPart part first here old new stopped = StopsInBoth (IsWhyOf first) (IsWhyIn part) here old new stopped

  -- It stopped where a node works on for itself: at its first fetch, or behind it.
  abbrev pub StopsWorking : HeldSeat → Outside S Y → Outside S Y → TurnEnd → Type 0
  StopsWorking here old new stopped = StopsInBoth IsFetch IsOwnWhy here old new stopped

  -- The turn of a line was made, and the steps behind it; the node reads on behind that line.
  pub record ServesLine (number : ℕ) (here there : HeldSeat) (old new : Outside S Y) : Type 0 where
    pub goes : Both (IsLineOf number) IsReport here there old new
    pub can : CanGoOn m node new.value there
    pub name : there.name ≡ here.name
    pub stage : there.node.state.stage ≡ Reading
    pub lines : there.node.state.lines ≡ drop 1 here.node.state.lines
    pub waits : IsNoStep (next_turn there)

  -- Nothing came next, or a fetch did and all that follows; nothing more comes then.
  pub record RunsOut (here there : HeldSeat) (old new : Outside S Y) : Type 0 where
    pub goes : ((there ≡ here) × (new ≡ old)) ⊎ Both IsFetch IsOwnWhy here there old new
    pub can : CanGoOn m node new.value there
    pub name : there.name ≡ here.name
    pub over : next_turn there ≡ NoTurn
