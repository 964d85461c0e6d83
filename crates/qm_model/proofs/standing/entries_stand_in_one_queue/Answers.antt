use Rattle.std.proofs.Common.{◌≡◌, ◌≢◌, ℕ, List, refl, ap, unwrap_or}
use Rattle.qm_model.specs.Common.{EntryState, Running, Aborting, Fate, runs_in}
use Rattle.qm_model.proofs.StandingLemmas.{stand_in_one_queue}
use Rattle.qm_model.proofs.standing.entries_stand_in_one_queue.Goals as goal

pub returns-clause-one : goal.returns-clause-one
returns-clause-one c = stand_in_one_queue

pub returns-clause-running : goal.returns-clause-running
returns-clause-running c e queue node run is = ap (λ state. unwrap_or (runs_in state) e.home) is

pub returns-clause-aborting : goal.returns-clause-aborting
returns-clause-aborting c e queue node run fate is = ap (λ state. unwrap_or (runs_in state) e.home) is

home_by : (home : List ℕ) (state : EntryState) → ((queue node : List ℕ) (run : ℕ) → state ≢ Running queue node run)
    → ((queue node : List ℕ) (run : ℕ) (fate : Fate) → state ≢ Aborting queue node run fate) → unwrap_or (runs_in state) home ≡ home
home_by home (Running queue node run) not_running not_aborting = absurd (not_running queue node run refl)
home_by home (Aborting queue node run fate) not_running not_aborting = absurd (not_aborting queue node run fate refl)
home_by home _ not_running not_aborting = refl

pub returns-clause-at_home : goal.returns-clause-at_home
returns-clause-at_home c e not_running not_aborting = home_by e.home e.state not_running not_aborting
