-- The nodes of a script before its first line.
-- OpenVMS User's Manual, on command procedures. This site's own: a node has those lines of a script that name it.
use Rattle.std.specs.Prelude.{◌≡◌, ℕ, true, List, map, Some, None, Vec, slice_get}
use Rattle.std.specs.declared.alloc.Global.{Global}
use Rattle.qm_history.specs.Script.{UserLine, lines_of}
use Rattle.qm_script.specs.ClusterLines.{user_lines_view}
use Rattle.qm_script.specs.declared.lines.UserLine.{UserLine as CodeLine}
use Rattle.qm_cluster.specs.Runs.{AreFresh, names_of}
use Rattle.qm_node.specs.Seats.{HeldSeat}

-- lists of lines, without where they lie in memory
abbrev pub own_view : List (Vec CodeLine Global) → List (List UserLine)
own_view own = map (λ (lines : Vec CodeLine Global). user_lines_view lines.items) own

-- the lines of each of these nodes
abbrev pub each_lines : List UserLine → List (List ℕ) → List (List UserLine)
each_lines script names = map (λ (name : List ℕ). lines_of name script) names

-- Nodes of these names, each live in front of its lines of the script, with no turn and no step made.
pub record AreSeated (script : List UserLine) (names : List (List ℕ)) (seats : List HeldSeat) : Type 0 where
  pub named : names_of seats ≡ names
  pub fresh : AreFresh script seats
  pub live : (node : ℕ) (seat : HeldSeat) → slice_get seats node ≡ Some seat → seat.live ≡ true
  pub ready : (node : ℕ) (seat : HeldSeat) → slice_get seats node ≡ Some seat → seat.node.made ≡ None
