use Rattle.std.proofs.Common.{None}
use Rattle.qm_history.specs.Calls.{input_of}
use Rattle.qm_history.proofs.AnswerLemmas.{all_above}
use Rattle.qm_history.proofs.answers.full_files_are_full.Goals as goal

pub returns : goal.returns
returns c w m asked t told = all_above None w m t.moment (input_of asked) t.events told
