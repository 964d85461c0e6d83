use Rattle.qm_restore.proofs.Consistent.{first_consistent}
use Rattle.qm_restore.proofs.Next.{file_is_accepted}
use Rattle.qm_restore.proofs.laws.site_files_are_accepted.Goals as goal

pub returns : goal.returns
returns c bodies s f = file_is_accepted f.first s bodies (first_consistent c.new_sites_are_consistent.ensures.consistent f.first f.is_new) f.file
