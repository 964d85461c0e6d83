use Rattle.qm_history.proofs.ComingLemmas.{call_turn}
use Rattle.qm_history.proofs.turns.each_call_has_a_turn.Goals as goal

pub returns : goal.returns
returns c w node reading kept asked sound may =
    call_turn c.nodes_keep_their_names.ensures.names c.requests_keep_consistent.ensures w sound node reading may.there kept may.told asked may.outside may.lawful
    may.spelled
