use Rattle.qm_node.proofs.runs.NodeRuns.step.Goals as goal

pub returns-clause-step : goal.returns-clause-step
returns-clause-step g c = rw (← c.self.view_is) (rw c.deref.ensures.value at (c.in_ok-report.ensures.step c.self.inside.steps))
