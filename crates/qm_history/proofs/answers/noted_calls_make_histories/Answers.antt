use Rattle.qm_history.proofs.NotedLemmas.{noted_legal, noted_within}
use Rattle.qm_history.proofs.answers.noted_calls_make_histories.Goals as goal

pub returns-clause-legal : goal.returns-clause-legal
returns-clause-legal c = noted_legal

pub returns-clause-within : goal.returns-clause-within
returns-clause-within c notes w noted room told = noted_within notes w room noted told
