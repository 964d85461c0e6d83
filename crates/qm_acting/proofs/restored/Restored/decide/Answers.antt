use Rattle.qm_acting.specs.Standing.{restored_standing}
use Rattle.qm_acting.proofs.restored.Restored.decide.Goals as goal

pub decide-requires-clause-sound : goal.decide-requires-clause-sound
decide-requires-clause-sound g c =
    let st = restored_standing c.args.self.now in
    c.site_files_are_consistent.ensures st.recorded.bodies st.system c.requires.restored.file
