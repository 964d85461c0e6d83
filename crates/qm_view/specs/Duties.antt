-- What it takes to tell a node the work of an entry.
use Rattle.std.specs.Prelude.{ℕ, List, map, filter_map, option_to_list, IfSome, IsSome}
use Rattle.qm_model.specs.Common.{Entry, Duty, Run, Name, System, form_wanted}
use Rattle.qm_model.specs.Duties.{device_of_run, duty_of, form_that_shapes}
use Rattle.qm_parts.specs.ByRun.{entry_on}

-- the entry runs at a device, and the form that shapes its pages is there
pub record HasWork (s : System) (e : Entry) : Type 0 where
  pub device : IsSome (device_of_run s e)
  pub form : IsSome (form_wanted (Name (form_that_shapes e.kind e.form)) s.forms)

-- the same for the entry of a run, if it is on the node
abbrev pub HasWorkOn : System → List ℕ → Run → Type 0
HasWorkOn s node run = IfSome (entry_on node s.entries run) (HasWork s)

-- what the node has to do for a run, if it is on the node
abbrev pub duty_on : System → List ℕ → List ℕ → Run → List Duty
duty_on s node known run = map (duty_of s known) (option_to_list (entry_on node s.entries run))

-- what it has to do for those of these runs that are on it
abbrev pub duties_on : System → List ℕ → List ℕ → List Run → List Duty
duties_on s node known runs = map (duty_of s known) (filter_map (entry_on node s.entries) runs)
