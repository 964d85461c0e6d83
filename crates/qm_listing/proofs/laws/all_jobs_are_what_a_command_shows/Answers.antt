use Rattle.std.proofs.Common.{refl}
use Rattle.qm_listing.proofs.laws.all_jobs_are_what_a_command_shows.Goals as goal

pub returns : goal.returns
returns c user now = refl
