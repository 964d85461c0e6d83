use Rattle.std.proofs.Common.{ℕ, refl, subst}
use Rattle.qm_acting.specs.declared.files.Files.TheVariants.{Read}
use Rattle.qm_chest.specs.Checking.{AreFirstMembers}
use Rattle.qm_chest.proofs.Beginning.{begun}
use Rattle.qm_chest.proofs.chest.Chest.new.Goals as goal

pub returns-clause-begins : goal.returns-clause-begins
returns-clause-begins g c =
    let kept = subst (λ (epoch : ℕ). AreFirstMembers c.nodes.result.now epoch c.in-Ok.members) c.epoch.ensures c.in-Ok.ensures in
    begun c.sites_begin_one_world.ensures.one g.D.Disk.meaning c.args.checked c.requires.checked _ (Read c.args.checked.restored) c.requires.checked.restored c.in-Ok.members refl c.new-2.ensures.items refl
    c.nodes.result.now c.nodes.ensures kept c.requires.early c.site_files_are_accepted.ensures
