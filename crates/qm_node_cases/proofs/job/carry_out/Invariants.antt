use Rattle.qm_node_cases.proofs.job.carry_out.Given as goal

-- the cursor stands at the place
abbrev pub invariant-loop-marks : goal.invariant-loop-marks
invariant-loop-marks g l = g.S.Symbiont.stands l.work l.at l.cursor
