-- Jobs that go back into their queue, and run again.
-- OpenVMS System Manager's Manual, Setting Up and Maintaining Queues, on jobs that restart; DCL Dictionary, STOP/QUEUE/REQUEUE.
use Rattle.std.specs.Prelude.{◌≡◌, ℕ, ◌==◌, Bool, true, false, ◌&&◌, List, Option, None, Some}
use Rattle.std.specs.List.{AllByRecursion}
use Rattle.qm_model.specs.Common.{Entry, EntryState, Fate, Request, System, at_moment, due, is_among, fate_of}
use Rattle.qm_kinds.specs.declared.entry.EntryState.TheVariants as state
use Rattle.qm_kinds.specs.declared.entry.Fate.TheVariants as fate
use Rattle.qm_kinds.specs.declared.request.Request.TheVariants as request
use Rattle.qm_history.specs.Marks.{reporting}

-- each entry of the number is one that runs again
abbrev pub AreAgain : ℕ → List Entry → Type 0
AreAgain number entries = AllByRecursion (λ (e : Entry). e.number ≡ number → e.again ≡ true) entries

-- it was decided that the job goes back
abbrev pub is_to_go_back : Option Fate → Bool
is_to_go_back None = false
is_to_go_back (Some fate.Requeue) = true
is_to_go_back (Some fate.Finish) = false
is_to_go_back (Some fate.Remove) = false

-- the report finds the entry of the number, whose run is to be cut short and which then goes back
abbrev pub finds_going_back : ℕ → Option Entry → Bool
finds_going_back number None = false
finds_going_back number (Some e) = e.number == number && is_to_go_back (fate_of e.state)

-- the entry has its run on one of these nodes, and goes back when they are lost
abbrev pub goes_back : List (List ℕ) → EntryState → Bool → Bool
goes_back lost state.Pending restart = false
goes_back lost state.Holding restart = false
goes_back lost (state.Timed at) restart = false
goes_back lost (state.Running queue node run) restart = is_among lost node && restart
goes_back lost (state.Aborting queue node run what) restart = is_among lost node && is_to_go_back (Some what)
goes_back lost (state.Retained status until) restart = false

-- so does each entry of the number
abbrev pub AllGoBack : ℕ → List (List ℕ) → List Entry → Type 0
AllGoBack number lost entries = AllByRecursion (λ (e : Entry). e.number ≡ number → goes_back lost e.state e.restart ≡ true) entries

-- the request puts the entry of the number back into its queue
abbrev pub PutsBack : ℕ → System → ℕ → ℕ → Request → Type 0
PutsBack number s now node (request.Mark run value) = finds_going_back number (reporting s now node run) ≡ true
PutsBack number s now node (request.Done run status) = finds_going_back number (reporting s now node run) ≡ true
PutsBack number s now node (request.NodeLost nodes) = AllGoBack number nodes (due now (at_moment now s)).entries
PutsBack number s now node (request.Took epoch gone up may) = AllGoBack number gone (due now (at_moment now s)).entries
PutsBack number s now node asked = ⊥
