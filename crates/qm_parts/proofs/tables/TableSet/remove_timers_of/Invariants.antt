use Rattle.std.proofs.Common.{not}
use Rattle.qm_parts.specs.Timing.{is_at_home}
use Rattle.qm_parts.proofs.tables.TableSet.remove_timers_of.Given as goal

-- the numbers that are kept are those of no entry of the queue
abbrev pub ghost-retain : goal.ghost-retain
ghost-retain a = λ n. not (is_at_home n a.keeps.1.now a.keeps.0.now.entries)
