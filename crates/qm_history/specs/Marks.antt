-- The marks and the ends of jobs, record by record.
-- OpenVMS System Services Reference Manual, $SNDJBC, on checkpoint data; OpenVMS System Manager's Manual, Setting Up and
-- Maintaining Queues, on jobs that restart at a checkpoint.
-- This site's own: that a job which goes back into its queue has its last mark.
use Rattle.std.specs.Prelude.{◌≡◌, ◌⊎◌, ℕ, ◌==◌, Bool, false, not, ◌&&◌, ◌||◌, if◌then◌else◌, List, [], ◌∷◌, Option, None, Some, bytes_eq}
use Rattle.std.specs.List.{AllByRecursion}
use Rattle.std.specs.Option.{option_map_or}
use Rattle.qm_model.specs.Common.{Entry, Record, Body, Request, System, at_moment, due, is_over, is_among, is_aborting, runs_on, entry_of_run, node_at, after_record}
use Rattle.qm_kinds.specs.declared.record.Body.TheVariants as body
use Rattle.qm_kinds.specs.declared.request.Request.TheVariants as request

-- the entry that a report names, as the moment finds it
abbrev pub reporting : System → ℕ → ℕ → ℕ → Option Entry
reporting s moment node run = entry_of_run (due moment (at_moment moment s)) (node_at node s.nodes) run

-- ---- marks

-- the report finds the entry of the number running, and not to be cut short
abbrev pub finds_running : ℕ → Option Entry → Bool
finds_running number None = false
finds_running number (Some e) = e.number == number && not (is_aborting e.state)

-- The mark of the entry of a number behind a request, where it had this one: a checkpoint that finds it running gives it
-- another, and a submission begins without one.
abbrev pub mark_after : ℕ → List ℕ → System → ℕ → ℕ → Request → List ℕ
mark_after number mark s moment node (request.Mark run value) = if finds_running number (reporting s moment node run) then value else mark
mark_after number mark s moment node (request.Submit job) = if s.next_entry == number then [] else mark
mark_after number mark s moment node asked = mark

-- the same of a record
abbrev pub mark_behind : ℕ → List ℕ → System → ℕ → ℕ → Body → List ℕ
mark_behind number mark s moment node (body.Ask asked) = mark_after number mark s moment node asked
mark_behind number mark s moment node other = mark

-- the mark that the last of these records gave to the entry of a number, or the one that it had before
abbrev pub last_mark : ℕ → List ℕ → System → List Record → List ℕ
last_mark number mark s [] = mark
last_mark number mark s (r ∷ records) = last_mark number (mark_behind number mark s r.moment r.node r.body) (after_record s r) records

-- each entry has the mark that is told of its number
abbrev pub HaveMarks : (ℕ → List ℕ) → List Entry → Type 0
HaveMarks marks entries = AllByRecursion (λ (e : Entry). e.mark ≡ marks e.number) entries

-- ---- ends

-- an entry has this number
abbrev pub HasEntry : ℕ → List Entry → Type 0
HasEntry number [] = ⊥
HasEntry number (e ∷ entries) = (e.number ≡ number) ⊎ HasEntry number entries

-- the report names the entry of the number
abbrev pub names_entry : ℕ → Option Entry → Bool
names_entry number None = false
names_entry number (Some e) = e.number == number

-- the report finds the entry of the number to be cut short
abbrev pub finds_aborting : ℕ → Option Entry → Bool
finds_aborting number None = false
finds_aborting number (Some e) = e.number == number && is_aborting e.state

-- the entry has its run on one of these nodes
abbrev pub is_run_on_one : List (List ℕ) → Entry → Bool
is_run_on_one nodes e = option_map_or (is_among nodes) (runs_on e.state) false

-- The request can end or delete the entry: it tells the end of its run, or a checkpoint of a run that is to be cut short;
-- deletes it, or its home; or tells that the node is lost where it has its run.
abbrev pub can_end : System → ℕ → ℕ → Request → Entry → Bool
can_end s moment node (request.Mark run value) e = finds_aborting e.number (reporting s moment node run)
can_end s moment node (request.Done run status) e = names_entry e.number (reporting s moment node run)
can_end s moment node (request.DeleteEntry number) e = e.number == number
can_end s moment node (request.DeleteQueue name) e = bytes_eq e.home name
can_end s moment node (request.NodeLost nodes) e = is_run_on_one nodes e
can_end s moment node (request.Took epoch gone up may) e = is_run_on_one gone e
can_end s moment node asked e = false

-- or the time is up until which it was retained
abbrev pub ends_at : System → ℕ → ℕ → Request → Entry → Bool
ends_at s moment node asked e = is_over moment e.state || can_end s moment node asked e

-- a request ends or deletes no entry of this number
abbrev pub LeavesEntry : ℕ → System → ℕ → ℕ → Body → Type 0
LeavesEntry number s moment node (body.Ask asked) = AllByRecursion (λ (e : Entry). e.number ≡ number → ends_at s moment node asked e ≡ false) s.entries
LeavesEntry number s moment node other = Unit {0}

-- none of these records does
abbrev pub LeaveEntry : ℕ → System → List Record → Type 0
LeaveEntry number s [] = Unit {0}
LeaveEntry number s (r ∷ records) = LeavesEntry number s r.moment r.node r.body × LeaveEntry number (after_record s r) records
