use Rattle.std.proofs.Common.{refl, sym, ap, flat_map}
use Rattle.qm_history.specs.Text.{visit_text}
use Rattle.qm_history.proofs.HistoryLemmas.{same_course}
use Rattle.qm_cluster.specs.Passes.{turns_in}
use Rattle.qm_cluster.proofs.Owning.{visits_whole}
use Rattle.qm_cluster.proofs.pass_laws.courses_and_texts_are_whole.Goals as goal

pub returns-clause-visits : goal.returns-clause-visits
returns-clause-visits c = visits_whole

pub returns-clause-course : goal.returns-clause-course
returns-clause-course c read extent node w seen log lines faults same h =
    same_course read extent w w (turns_in seen) (turns_in log) node lines faults refl (sym same) h

pub returns-clause-text : goal.returns-clause-text
returns-clause-text c items_line node w seen log same = ap (flat_map (visit_text items_line)) same
