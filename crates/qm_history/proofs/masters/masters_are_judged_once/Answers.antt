use Rattle.qm_history.proofs.MasterLemmas.{sound_master, one_place, unformatted_apart}
use Rattle.qm_history.proofs.masters.masters_are_judged_once.Goals as goal

pub returns-clause-sound : goal.returns-clause-sound
returns-clause-sound c file masters place one_way =
    sound_master one_way file masters place

pub returns-clause-one_place : goal.returns-clause-one_place
returns-clause-one_place c file p q one_way =
    one_place one_way file p q

pub returns-clause-unformatted : goal.returns-clause-unformatted
returns-clause-unformatted c files byte place one_way =
    unformatted_apart one_way files byte place
