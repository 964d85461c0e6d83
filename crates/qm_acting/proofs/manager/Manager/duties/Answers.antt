use Rattle.qm_acting.specs.Standing.{standing_of}
use Rattle.qm_acting.proofs.manager.Manager.duties.Goals as goal

pub duties-requires : goal.duties-requires
duties-requires g c =
    let st = standing_of c.args.self.now in
    record { sound = c.site_files_are_consistent.ensures st.recorded.bodies st.system c.requires.ready.file }
