-- The system of a new site of one node.
-- OpenVMS System Manager's Manual, Managing the Queue Manager and Queue Database, on creating a queue database; Setting Up and
-- Maintaining Queues, on the form DEFAULT and the queue SYS$BATCH.
use Rattle.std.specs.Prelude.{ℕ, true, false, List, [], ◌∷◌, None, Some}
use Rattle.qm_kinds.specs.declared.queue.Queue.{Queue}
use Rattle.qm_kinds.specs.declared.queue.QueueKind.TheVariants.{Batch}
use Rattle.qm_kinds.specs.declared.queue.QueueState.TheVariants.{Stopped}
use Rattle.qm_kinds.specs.declared.queue.QueueRetain.TheVariants.{Nothing}
use Rattle.qm_kinds.specs.declared.form.Form.{Form}
use Rattle.qm_kinds.specs.declared.system.System.{System}
use Rattle.qm_kinds.specs.Names.{default_form, batch_queue}

-- the form that is always there: 66 lines of 132 columns, six lines at the bottom left free, and what is longer is cut
abbrev pub first_form : Form
first_form = record {
  name = default_form;
  number = 0;
  stock = default_form;
  shape = record { length = 66; width = 132; top = 0; bottom = 6; left = 0; right = 0; wrap = false };
}

-- the batch queue that is there from the start, stopped, on a node
abbrev pub first_queue : List ℕ → Queue
first_queue node = record {
  name = batch_queue;
  kind = Batch;
  state = Stopped;
  node = Some node;
  device = Some batch_queue;
  limit = 1;
  characteristics = record { 0 = 0 };
  mounted = None;
  lower = 1;
  upper = 4294967295;
  by_size = true;
  retain = Nothing;
  targets = [];
}

-- one node, which is up
abbrev pub first_system : List ℕ → System
first_system node = record {
  nodes = record { name = node; up = true } ∷ [];
  may = node ∷ [];
  forms = first_form ∷ [];
  characteristics = [];
  files = [];
  queues = first_queue node ∷ [];
  entries = [];
  next_entry = 1;
  next_run = 1;
  last = 0;
}
