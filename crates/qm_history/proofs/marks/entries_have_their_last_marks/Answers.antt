use Rattle.std.proofs.Common.{subst, sym}
use Rattle.qm_history.specs.Marks.{HaveMarks, last_mark}
use Rattle.qm_history.specs.World.{system_in}
use Rattle.qm_history.proofs.LogLemmas.{accepted_consistent}
use Rattle.qm_history.proofs.MarkLemmas.{marks_after_request, marks_after_records}
use Rattle.qm_history.proofs.NextLemmas.{history_next}
use Rattle.qm_history.proofs.marks.entries_have_their_last_marks.Goals as goal

pub returns-clause-request : goal.returns-clause-request
returns-clause-request c s now node asked a accepted marks consistent have =
    marks_after_request c.settling_changes_entries_alone.ensures.states_alone s now node asked a marks consistent have accepted

pub returns-clause-records : goal.returns-clause-records
returns-clause-records c s records next marks consistent have =
    marks_after_records c.settling_changes_entries_alone.ensures.states_alone c.requests_keep_consistent.ensures s records marks
    consistent have next

pub returns-clause-history : goal.returns-clause-history
returns-clause-history c w turns sound legal marks h =
    let more = history_next c.nodes_keep_their_names.ensures.names w turns sound legal in (
      more.0,
      more.1,
      subst (λ s. HaveMarks (λ number. last_mark number (marks number) (system_in w) more.0) s.entries) (sym more.3)
          (marks_after_records c.settling_changes_entries_alone.ensures.states_alone c.requests_keep_consistent.ensures (system_in w) more.0 marks
          (accepted_consistent c.requests_keep_consistent.ensures w.log sound.log) h more.2),
    )
