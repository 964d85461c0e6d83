use Rattle.std.proofs.Common.{◌≤◌, ℕ, sym, subst}
use Rattle.qm_model.proofs.MovingLemmas.{last_is_now, runs_rise, entries_rise}
use Rattle.qm_model.proofs.moving.requests_move_on.Goals as goal

pub returns-clause-last : goal.returns-clause-last
returns-clause-last c = last_is_now

pub returns-clause-later : goal.returns-clause-later
returns-clause-later c s now node request a is later = subst (λ (n : ℕ). s.last ≤ n) (sym (last_is_now s now node request a is)) later

pub returns-clause-runs : goal.returns-clause-runs
returns-clause-runs c = runs_rise

pub returns-clause-entries : goal.returns-clause-entries
returns-clause-entries c = entries_rise
