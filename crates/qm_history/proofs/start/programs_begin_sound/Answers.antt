use Rattle.std.proofs.Common.{refl}
use Rattle.qm_history.proofs.LogLemmas.{image_stands}
use Rattle.qm_history.proofs.StartLemmas.{first_sound}
use Rattle.qm_history.proofs.start.programs_begin_sound.Goals as goal

pub returns-clause-sound : goal.returns-clause-sound
returns-clause-sound c = first_sound

pub returns-clause-system : goal.returns-clause-system
returns-clause-system c log epoch = refl

pub returns-clause-image : goal.returns-clause-image
returns-clause-image c = image_stands
