use Rattle.qm_history.proofs.AnswerLemmas.{answers_legal, turn_journal, never_journal}
use Rattle.qm_history.proofs.answers.journal_tells_of_disks.Goals as goal

pub returns-clause-legal : goal.returns-clause-legal
returns-clause-legal c = answers_legal

pub returns-clause-answer : goal.returns-clause-answer
returns-clause-answer c = turn_journal

pub returns-clause-never : goal.returns-clause-never
returns-clause-never c = never_journal
