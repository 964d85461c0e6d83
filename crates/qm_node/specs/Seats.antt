-- A node between two turns, as its callers see it.
use Rattle.std.specs.Prelude.{ℕ, Bool, true, List, None}
use Rattle.qm_history.specs.Course.{NextTurn, at_first, next_at}
use Rattle.qm_history.specs.Common.{Scans, no_scans, UserLine}
use Rattle.qm_node.specs.Node.{HeldNode}
use Rattle.qm_node.specs.Standing.{Standing}

-- its name, where it is in its course, whether it is live, how many turns it has made, and the listings that it has begun in them
pub record HeldSeat : Type 0 where
  pub name : List ℕ
  pub node : HeldNode
  pub live : Bool
  pub count : ℕ
  pub begun : Scans

-- before its first turn: live in front of its lines, with no listing begun
abbrev pub first_seat : List ℕ → List UserLine → HeldSeat
first_seat name lines = record { name = name; node = record { state = at_first lines; made = None }; live = true; count = 0; begun = no_scans }

-- what comes next there
abbrev pub next_turn : HeldSeat → NextTurn
next_turn seat = next_at seat.live seat.node.state seat.node.state.stage

abbrev pub standing_of : HeldSeat → Standing
standing_of seat = record { state = seat.node.state; live = seat.live; count = seat.count; begun = seat.begun }
