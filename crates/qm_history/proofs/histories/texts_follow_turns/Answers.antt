use Rattle.std.proofs.Common.{refl}
use Rattle.qm_history.proofs.HistoryLemmas.{text_append, node_text_append}
use Rattle.qm_history.proofs.histories.texts_follow_turns.Goals as goal

pub returns-clause-none : goal.returns-clause-none
returns-clause-none c items_line w = refl

pub returns-clause-one : goal.returns-clause-one
returns-clause-one c items_line w t turns = refl

pub returns-clause-two : goal.returns-clause-two
returns-clause-two c = text_append

pub returns-clause-node : goal.returns-clause-node
returns-clause-node c items_line = node_text_append items_line
