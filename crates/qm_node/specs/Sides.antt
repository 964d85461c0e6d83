-- What each node has of its own, as its callers see it.
use Rattle.std.specs.Prelude.{ℕ, List, Option, map}
use Rattle.qm_node.specs.declared.seat.Station.{Station}

-- what a node has of its own: what its clock told so far, and its symbiont
pub record Side (Y : Type 0) : Type 0 where
  pub told : Option (List ℕ)
  pub symbiont : Y

abbrev pub side_of : {C Y : Type 0} → (C → Option (List ℕ)) → Station C Y → Side Y
side_of told station = record { told = told station.clock; symbiont = station.symbiont }

-- the same of each node, in their order
abbrev pub sides_of : {C Y : Type 0} → (C → Option (List ℕ)) → List (Station C Y) → List (Side Y)
sides_of told stations = map (side_of told) stations
