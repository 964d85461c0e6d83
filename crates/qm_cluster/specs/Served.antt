-- What a node has done in the turns of all.
-- OpenVMS System Manager's Manual, Setting Up and Maintaining Queues, on symbionts; OpenVMS System Services Reference Manual,
-- $GETTIM. This site's own: turns.
use Rattle.std.specs.Prelude.{◌≡◌, ℕ, List, slice_get, Some}
use Rattle.qm_symb.specs.Device.{Meaning}
use Rattle.qm_history.specs.declared.turn.Turn.{Turn}
use Rattle.qm_history.specs.declared.world.World.{World}
use Rattle.qm_history.specs.Common.{IsCourse, HasPrinted, NodeText, extent_of, UserLine, visits_of}
use Rattle.qm_node.specs.Asking.{read_built}
use Rattle.qm_node.specs.Sides.{Side}
use Rattle.qm_node.specs.Taken.{AreTaken, AreTold, Rises}
use Rattle.qm_cluster.specs.Driving.{text_told}

module _ {Y : Type 0} (y : Meaning Y) (w : World) (turns : List Turn) where
  -- The node's turns among these are a course of its lines, by its symbiont's count of faults and the moments that its clock told; its
  -- devices took the blocks of its steps; and what it printed is their text; all as far as their end says.
  pub record HasServed (node : ℕ) (name : List ℕ) (lines : List UserLine) (left : NodeText) (was now : Side Y) : Type 0 where
    pub faults : ℕ
    pub course : IsCourse read_built (extent_of left.end) w turns node lines faults
    pub rose : Rises y faults was.symbiont now.symbiont
    pub told : AreTold (extent_of left.end) (visits_of node w turns) was.told now.told
    pub taken : AreTaken y course.steps course.broken was.symbiont now.symbiont
    pub text : HasPrinted left.end (text_told name (visits_of node w turns)) left.printed

  -- the same of each node
  abbrev pub AllHaveServed : List (List ℕ) → List (List UserLine) → List NodeText → List (Side Y) → List (Side Y) → Type 0
  AllHaveServed names lines left was now =
      (node : ℕ) (name : List ℕ) (own : List UserLine) (at : NodeText) (before after : Side Y)
      → slice_get names node ≡ Some name → slice_get lines node ≡ Some own → slice_get left node ≡ Some at
      → slice_get was node ≡ Some before → slice_get now node ≡ Some after
      → HasServed node name own at before after
