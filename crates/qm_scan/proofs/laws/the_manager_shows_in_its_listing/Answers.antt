use Rattle.std.proofs.Common.{◌≡◌, ◌≢◌, Option, refl}
use Rattle.qm_model.specs.Common.{Listing, Queues, Jobs, Entries, Forms, Characteristics, Manager, Cancel, Query, System}
use Rattle.qm_model.specs.Rows.{ManagerRole, rows_in}
use Rattle.qm_scan.proofs.laws.the_manager_shows_in_its_listing.Goals as goal

same : (s : System) (one other : Option ManagerRole) (q : Query) (what : Listing) → what ≢ Manager → rows_in s one q what ≡ rows_in s other q what
same s one other q Queues is = refl
same s one other q Jobs is = refl
same s one other q Entries is = refl
same s one other q Forms is = refl
same s one other q Characteristics is = refl
same s one other q Manager is = absurd (is refl)
same s one other q Cancel is = refl

pub returns : goal.returns
returns c = λ s one other q is. same s one other q q.listing is
