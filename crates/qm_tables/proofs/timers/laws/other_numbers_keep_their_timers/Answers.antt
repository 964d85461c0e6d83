use Rattle.qm_tables.specs.Timers.{is_before}
use Rattle.qm_tables.proofs.TimerNumbers.{absent_all, timer_of-inserted, timer_of-without}
use Rattle.qm_tables.proofs.timers.laws.other_numbers_keep_their_timers.Goals as goal

pub returns-clause-inserted : goal.returns-clause-inserted
returns-clause-inserted c = λ t ts number none. timer_of-inserted is_before t ts (absent_all t.1 ts none) number

pub returns-clause-removed : goal.returns-clause-removed
returns-clause-removed c = λ gone number ts. timer_of-without number gone ts
