use Rattle.qm_restore.proofs.Consistent.{site_files_consistent}
use Rattle.qm_restore.proofs.laws.site_files_are_consistent.Goals as goal

pub returns : goal.returns
returns c = site_files_consistent c.requests_keep_consistent.ensures c.new_sites_are_consistent.ensures.consistent
