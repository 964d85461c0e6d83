-- What the turns of one node touch.
use Rattle.std.specs.Prelude.{ℕ, Option, List}
use Rattle.qm_node.specs.declared.seat.Station.{Station}

-- whom it asks, what the sink took so far, and the node's clock and symbiont
pub record Outside (A Y : Type 0) : Type 0 where
  pub value : A
  pub taken : Option (List ℕ)
  pub told : Option (List ℕ)
  pub symbiont : Y

abbrev pub outside : {A Y : Type 0} → A → Option (List ℕ) → Option (List ℕ) → Y → Outside A Y
outside value taken told symbiont = record { value = value; taken = taken; told = told; symbiont = symbiont }

-- the same, with what is the node's own
abbrev pub outside_at : {A C Y : Type 0} → (C → Option (List ℕ)) → A → Option (List ℕ) → Station C Y → Outside A Y
outside_at told value taken station = outside value taken (told station.clock) station.symbiont
