use Rattle.std.proofs.Common.{refl, subst, sym}
use Rattle.qm_history.specs.Again.{AreAgain}
use Rattle.qm_history.specs.World.{system_in}
use Rattle.qm_history.proofs.NextLemmas.{history_next}
use Rattle.qm_history.proofs.RequeueLemmas.{put_back, stays_again, records_again, shown_again}
use Rattle.qm_history.proofs.again.jobs_that_went_back_run_again.Goals as goal

pub returns-clause-back : goal.returns-clause-back
returns-clause-back c number s now node asked a accepted puts =
    put_back number c.settling_changes_entries_alone.ensures.states_alone s now node asked a puts accepted

pub returns-clause-request : goal.returns-clause-request
returns-clause-request c number s now node asked a accepted given h =
    stays_again number c.settling_changes_entries_alone.ensures.states_alone s now node asked a given h accepted

pub returns-clause-records : goal.returns-clause-records
returns-clause-records c number s records =
    records_again number c.settling_changes_entries_alone.ensures.states_alone c.requests_move_on.ensures.entries s records

pub returns-clause-history : goal.returns-clause-history
returns-clause-history c number w turns sound legal given h =
    let more = history_next c.nodes_keep_their_names.ensures.names w turns sound legal in
    subst (λ s. AreAgain number s.entries) (sym more.3)
    (records_again number c.settling_changes_entries_alone.ensures.states_alone c.requests_move_on.ensures.entries (system_in w) more.0 more.2 given h)

pub returns-clause-fetch : goal.returns-clause-fetch
returns-clause-fetch c v run work gives again = shown_again work.entry v run work again gives refl
