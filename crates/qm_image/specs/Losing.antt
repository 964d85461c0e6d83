-- What the loss of nodes leaves of the entries, and the room that it takes.
use Rattle.std.specs.Prelude.{ℕ, ◌≤◌, List, count_by, filter_map}
use Rattle.qm_model.specs.Common.{Entry, Queue, after_loss}
use Rattle.qm_parts.specs.Nodes.{is_run_on_one}
use Rattle.qm_parts.specs.Tables.{Tables}

-- what is left of the entries when these nodes are lost
abbrev pub entries_left : List Queue → ℕ → List (List ℕ) → List Entry → List Entry
entries_left queues now lost entries = filter_map (λ e. after_loss queues now lost e.state e) entries

-- there is room for a timer of each job that has a run on one of these nodes: it may be kept until a moment
abbrev pub HasTimersFor : List (List ℕ) → Tables → Type 0
HasTimersFor lost t = count_by (is_run_on_one lost) t.entries ≤ t.spare_timers
