use Rattle.qm_program.proofs.Completing.{ends_well}
use Rattle.qm_program.proofs.laws.sound_scripts_are_served.Goals as goal

pub returns : goal.returns
returns c = λ tells files left turns old new end used told sound source sink disk cause.
    ends_well c.held_files_load.ensures.undamaged c.held_files_load.ensures.formatted c.one_content.ensures
    files sound.site tells told left sound turns old new source sink disk end used cause
