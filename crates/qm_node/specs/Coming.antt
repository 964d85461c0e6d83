-- What comes next in a node: why its turn is made, and whether it is a step.
use Rattle.std.specs.Prelude.{◌≡◌, Some}
use Rattle.qm_history.specs.declared.turn.Why.{Why}
use Rattle.qm_history.specs.declared.turn.Why.TheVariants as why
use Rattle.qm_history.specs.Course.{NextTurn, ALine, AStep, AFetch, ALeave, NoTurn, NodeState}
use Rattle.qm_node.specs.Node.{CanBeMade, IsTurn}
use Rattle.qm_node.specs.declared.course.Next.{Next}
use Rattle.qm_node.specs.declared.course.Next.TheVariants as next

-- why the turn is made that comes next
abbrev pub why_next : Next → Why
why_next (next.Line line) = why.Line line.now.number
why_next (next.Step run) = why.Report
why_next next.Fetch = why.Fetch
why_next next.Leave = why.Leave

-- a step comes next, and can be made
pub record IsStepNext (turn : NextTurn) (n : NodeState) (next : Next) : Type 0 where
  pub turn_is : IsTurn turn (Some next)
  pub can : CanBeMade n next
  pub why : why_next next ≡ why.Report

-- no step comes next
abbrev pub IsNoStep : NextTurn → Type 0
IsNoStep (AStep run others) = ⊥
IsNoStep (ALine l lines) = Unit {0}
IsNoStep AFetch = Unit {0}
IsNoStep ALeave = Unit {0}
IsNoStep NoTurn = Unit {0}
