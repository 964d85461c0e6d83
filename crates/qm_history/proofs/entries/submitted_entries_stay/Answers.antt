use Rattle.std.proofs.Common.{subst, sym}
use Rattle.qm_history.specs.Common.{after_turns, system_in}
use Rattle.qm_history.specs.Marks.{HasEntry}
use Rattle.qm_history.proofs.EntryLemmas.{submitted_there, there_after_request, there_after_records}
use Rattle.qm_history.proofs.LogLemmas.{accepted_consistent}
use Rattle.qm_history.proofs.NextLemmas.{history_next}
use Rattle.qm_history.proofs.SoundLemmas.{history_sound}
use Rattle.qm_history.proofs.entries.submitted_entries_stay.Goals as goal

pub returns-clause-submitted : goal.returns-clause-submitted
returns-clause-submitted c = submitted_there c.settling_changes_entries_alone.ensures.states_alone

pub returns-clause-request : goal.returns-clause-request
returns-clause-request c number s now node asked a accepted there leaves =
    there_after_request c.settling_changes_entries_alone.ensures.states_alone s now node asked a number there leaves accepted

pub returns-clause-records : goal.returns-clause-records
returns-clause-records c number s records =
    there_after_records c.settling_changes_entries_alone.ensures.states_alone s records number

pub returns-clause-history : goal.returns-clause-history
returns-clause-history c number w turns sound legal h =
    let more = history_next c.nodes_keep_their_names.ensures.names w turns sound legal in (
      more.0,
      more.1,
      λ leave. subst (λ s. HasEntry number s.entries) (sym more.3)
          (there_after_records c.settling_changes_entries_alone.ensures.states_alone (system_in w) more.0 number more.2 h leave),
    )

pub returns-clause-one_queue : goal.returns-clause-one_queue
returns-clause-one_queue c w turns sound legal =
    let later = history_sound c.nodes_keep_their_names.ensures.names w turns sound legal in
    c.entries_stand_in_one_queue.ensures.one (system_in (after_turns w turns))
    (accepted_consistent c.requests_keep_consistent.ensures (after_turns w turns).log later.log)
