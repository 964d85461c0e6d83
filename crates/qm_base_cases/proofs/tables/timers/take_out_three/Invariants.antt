use Rattle.std.proofs.Common.{◌==◌, not}
use Rattle.qm_base_cases.proofs.tables.timers.take_out_three.Given as goal

-- all numbers but one
abbrev pub ghost-retain : goal.ghost-retain
ghost-retain a = λ n. not (n == 3)
