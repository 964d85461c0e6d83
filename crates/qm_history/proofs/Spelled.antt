-- The requests of worked cases are spelled.
use Rattle.std.proofs.Common.{ℕ, lit<, lit≤, Bool, List, [], refl, codes}
use Rattle.qm_kinds.specs.declared.entry.JobRetain.{JobRetain}
use Rattle.qm_bytes.specs.Spelling.{IsFileName, IsList, IsName}
use Rattle.qm_record.specs.Spelling.{ChangeFits, JobFits, RequestFits, RetainFits}
use Rattle.qm_history.proofs.TwoNodes.{generic_queue, listing_file, no_change, print_job, print_queue}

pub listing_file_fits : IsFileName listing_file
listing_file_fits = record { name = record { some = lit< tt; few = lit≤ tt; lawful = refl }; extension = record { some = lit< tt; few = lit≤ tt; lawful = refl } }

pub lp_is_name : IsName (codes "LP")
lp_is_name = record { some = lit< tt; few = lit≤ tt; lawful = refl }

pub lpa_is_name : IsName (codes "LPA")
lpa_is_name = record { some = lit< tt; few = lit≤ tt; lawful = refl }

pub lpb_is_name : IsName (codes "LPB")
lpb_is_name = record { some = lit< tt; few = lit≤ tt; lawful = refl }

pub lpc_is_name : IsName (codes "LPC")
lpc_is_name = record { some = lit< tt; few = lit≤ tt; lawful = refl }

pub gp_is_name : IsName (codes "GP")
gp_is_name = record { some = lit< tt; few = lit≤ tt; lawful = refl }

f_is_name : IsName (codes "F")
f_is_name = record { some = lit< tt; few = lit≤ tt; lawful = refl }

system_is_name : IsName (codes "SYSTEM")
system_is_name = record { some = lit< tt; few = lit≤ tt; lawful = refl }

no_change_fits : ChangeFits no_change
no_change_fits = record { limit_fits = tt; characteristics_fit = tt; form_fits = tt; blocks_fit = tt }

no_targets_fit : IsList IsName []
no_targets_fit = record { few = lit< tt; each = tt }

pub print_queue_fits : (node name : List ℕ) → IsName node → IsName name → RequestFits (print_queue node name)
print_queue_fits node name on is = record { name_fits = is; node_fits = on; device_fits = tt; targets_fit = no_targets_fit; change_fits = no_change_fits }

pub generic_queue_fits : RequestFits generic_queue
generic_queue_fits = record {
  name_fits = gp_is_name;
  node_fits = tt;
  device_fits = tt;
  targets_fit = record { few = lit< tt; each = (lpa_is_name, (lpb_is_name, tt)) };
  change_fits = no_change_fits;
}

pub print_job_fits : (name : List ℕ) (retain : JobRetain) (restart : Bool) → IsName name → RetainFits retain
    → JobFits (record (print_job name) { retain = retain; restart = restart })
print_job_fits name retain restart is kept = record {
  user_fits = system_is_name;
  queue_fits = is;
  file_fits = listing_file_fits;
  name_fits = f_is_name;
  priority_fits = lit< tt;
  after_fits = tt;
  retain_fits = kept;
  characteristics_fit = record { few = lit< tt; each = tt };
  form_fits = tt;
  copies_fits = lit< tt;
}
