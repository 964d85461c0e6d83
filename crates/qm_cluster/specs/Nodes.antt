-- What a node is like between two turns, whatever the disks tell.
use Rattle.std.specs.Prelude.{◌≡◌, ◌≤◌, ℕ, None, Some, length, slice_get}
use Rattle.qm_history.specs.Common.{turns_kept, Reading}
use Rattle.qm_node.specs.Seats.{HeldSeat}
use Rattle.qm_history.specs.Serving.{Meaning}

-- the next turn of this node can be made on the value
pub record CanGoOn {S : Type 0} (m : Meaning S) (node : ℕ) (value : S) (seat : HeldSeat) : Type 0 where
  pub serves : m.serves value
  pub there : slice_get (m.nodes value) node ≡ Some seat.name
  pub ready : seat.node.made ≡ None
  pub own : seat.count ≤ length (m.turns value)
  pub few : length (m.turns value) ≤ turns_kept

-- behind steps alone a node has the lines that it had, and reads on where it read
pub record ReadsOn (old new : HeldSeat) : Type 0 where
  pub name : new.name ≡ old.name
  pub lines : new.node.state.lines ≡ old.node.state.lines
  pub reads : old.node.state.stage ≡ Reading → new.node.state.stage ≡ Reading
