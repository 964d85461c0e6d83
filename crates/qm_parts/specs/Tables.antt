-- The tables that belong together: what their callers see.
use Rattle.std.specs.Prelude.{ℕ, List}
use Rattle.qm_model.specs.Common.{Entry, Characteristic, Form, Queue, Node, System}

-- the forms, the characteristics and the entries by number, the queues by name, the number of the next run, the timers in order of
-- their moments, how many more of each have room, and for how many jobs the rows of the queues have room, in their order
pub record Tables : Type 0 where
  pub nodes : List Node
  pub forms : List Form
  pub characteristics : List Characteristic
  pub queues : List Queue
  pub entries : List Entry
  pub next_run : ℕ
  pub timers : List (ℕ × ℕ)
  pub spare_forms : ℕ
  pub spare_characteristics : ℕ
  pub spare_queues : ℕ
  pub spare_entries : ℕ
  pub spare_runs : ℕ
  pub spare_timers : ℕ
  pub rooms : List ℕ

-- the system with what the tables hold in place of its own
abbrev pub with_tables : System → Tables → System
with_tables s t = record s {
  nodes = t.nodes;
  forms = t.forms;
  characteristics = t.characteristics;
  queues = t.queues;
  entries = t.entries;
  next_run = t.next_run;
}
