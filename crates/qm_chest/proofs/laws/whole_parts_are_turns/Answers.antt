use Rattle.qm_chest.proofs.Turning.{adds, tells_room, whole}
use Rattle.qm_chest.proofs.laws.whole_parts_are_turns.Goals as goal

pub returns-clause-turn : goal.returns-clause-turn
returns-clause-turn g c = λ w node reading asked failed events old new is served.
    whole g.D.Disk.meaning w node reading asked failed events old new is.there is.outside is.part served

pub returns-clause-adds : goal.returns-clause-adds
returns-clause-adds g c = λ w node reading asked failed events old new told is by.
    adds g.D.Disk.meaning w node reading asked failed events old new is.there is.outside is.part told by.may by.undamaged by.quiet by.image

pub returns-clause-room : goal.returns-clause-room
returns-clause-room g c = λ w node reading asked failed events old new is. tells_room g.D.Disk.meaning w node reading asked failed events old new is.there is.outside is.part
