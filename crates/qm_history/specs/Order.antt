-- The order of turns where one thread serves the whole script.
-- This site's own: lines in their order, and then the nodes in the cluster's.
use Rattle.std.specs.Prelude.{◌≡◌, ◌≢◌, ℕ, Bool, false, List, [], ◌∷◌, drop, take, Option, None, Some}
use Rattle.std.specs.List.{AllByRecursion}
use Rattle.qm_kinds.specs.declared.input.Input.{Input}
use Rattle.qm_history.specs.declared.turn.Turn.{Turn}
use Rattle.qm_history.specs.declared.turn.Why.{Why}
use Rattle.qm_history.specs.declared.turn.Why.TheVariants as why
use Rattle.qm_history.specs.declared.world.World.{World}
use Rattle.qm_history.specs.Course.{ALeave, ALine, AFetch, AStep, Fetching, Leaving, MadeStep, NextTurn, NodeState, NoTurn, Over, Reading, Stage, Working, at_first, next_at}
use Rattle.qm_history.specs.Legal.{after_turn}
use Rattle.qm_history.specs.Reaching.{Reaches}
use Rattle.qm_history.specs.Script.{UserLine}
use Rattle.qm_history.specs.Visits.{Visit, visits_of}
use Rattle.qm_history.specs.World.{is_live}

-- how far serving has come: the numbers of the script's lines that are left, and the node of the last turn
pub record Served : Type 0 where
  pub left : List ℕ
  pub node : ℕ

-- before the first turn all lines are left
abbrev pub nothing_served : List ℕ → Served
nothing_served numbers = record { left = numbers; node = 0 }

-- the line is the next one
abbrev pub IsNextLine : ℕ → List ℕ → Type 0
IsNextLine line [] = ⊥
IsNextLine line (next ∷ left) = line ≡ next

-- no node before this one is live any more: each has left or is stopped
abbrev pub AreOver : ℕ → List Bool → Type 0
AreOver node live = AllByRecursion (λ (l : Bool). l ≡ false) (take node live)

-- each line behind the one before it; a report or a leave right behind a turn of its node; and behind the last line the nodes'
-- own fetches, node by node
abbrev pub MayFollow : World → Served → ℕ → Why → Type 0
MayFollow w so_far node (why.Line line) = IsNextLine line so_far.left
MayFollow w so_far node why.Report = node ≡ so_far.node
MayFollow w so_far node why.Leave = node ≡ so_far.node
MayFollow w so_far node why.Fetch = (so_far.left ≡ []) × AreOver node w.live

-- how far serving has come behind a turn
abbrev pub served_with : Served → ℕ → Why → Served
served_with so_far node (why.Line line) = record { left = drop 1 so_far.left; node = node }
served_with so_far node why.Report = record so_far { node = node }
served_with so_far node why.Leave = record so_far { node = node }
served_with so_far node why.Fetch = record so_far { node = node }

-- from a world on the turns come as on one thread, behind what has been served
abbrev pub AreInOrder : World → Served → List Turn → Type 0
AreInOrder w so_far [] = Unit {0}
AreInOrder w so_far (t ∷ turns) = MayFollow w so_far t.node t.why × AreInOrder (after_turn w t) (served_with so_far t.node t.why) turns

-- the node of the last turn, if there is one
abbrev pub last_node : List Turn → Option ℕ
last_node [] = None
last_node (t ∷ []) = Some t.node
last_node (t ∷ next ∷ turns) = last_node (next ∷ turns)

-- A node in whose place others are served: it is before a line or before the first fetch of its own, or nothing more comes of it.
-- So it has made all steps behind its last STEP line, and once it works for itself it goes on until it leaves.
abbrev pub IsWaiting : Stage → NextTurn → Type 0
IsWaiting Reading (ALine l lines) = Unit {0}
IsWaiting Reading AFetch = Unit {0}
IsWaiting Reading (AStep run round) = ⊥
IsWaiting Reading ALeave = ⊥
IsWaiting stage NoTurn = Unit {0}
IsWaiting Fetching next = ⊥
IsWaiting Working next = ⊥
IsWaiting Leaving next = ⊥
IsWaiting Over next = ⊥

module _ (read : UserLine → ℕ → List Visit → List ℕ → Input) where
  -- behind its turns, with these steps, the node waits
  abbrev pub Waits : World → List Turn → ℕ → List UserLine → List MadeStep → Type 0
  Waits start turns node lines steps =
      (then : NodeState) × (then_live : Bool)
      × Reaches read (at_first lines) [] (is_live start node) (visits_of node start turns) steps then then_live
      × IsWaiting then.stage (next_at then_live then then.stage)

  -- where one thread serves all nodes, each node waits but the one whose turn was the last
  abbrev pub WaitsUnlessLast : World → List Turn → ℕ → List UserLine → List MadeStep → Type 0
  WaitsUnlessLast start turns node lines steps = last_node turns ≢ Some node → Waits start turns node lines steps
