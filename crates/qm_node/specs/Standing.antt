-- Where a node stands between two turns.
use Rattle.std.specs.Prelude.{◌≡◌, ℕ, Bool, List, length}
use Rattle.qm_history.specs.Common.{NodeState, Scans, scans_of, Visit}

-- its state, whether it is live, how many turns it has made, and the listings that it has begun in them
pub record Standing : Type 0 where
  pub state : NodeState
  pub live : Bool
  pub count : ℕ
  pub begun : Scans

-- these are the turns that it has made
pub record IsBehind (earlier : List Visit) (here : Standing) : Type 0 where
  pub count : length earlier ≡ here.count
  pub begun : scans_of earlier ≡ here.begun
