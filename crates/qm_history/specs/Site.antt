-- The site that is made for nodes.
-- OpenVMS System Manager's Manual, Managing the Queue Manager and Queue Database, on creating a queue database.
use Rattle.std.specs.Prelude.{ℕ, false, List, [], ◌∷◌, map}
use Rattle.qm_model.specs.Common.{System, first_form, first_queue}

-- the node that has the first queue
abbrev pub first_name : List (List ℕ) → List ℕ
first_name [] = []
first_name (name ∷ names) = name

-- each node is down and may be manager; the form and the batch queue of a new site are there, the queue on the first node; and
-- numbers begin at 1, at the first moment
abbrev pub site_of : List (List ℕ) → System
site_of names = record {
  nodes = map (λ (name : List ℕ). record { name = name; up = false }) names;
  may = names;
  forms = first_form ∷ [];
  characteristics = [];
  files = [];
  queues = first_queue (first_name names) ∷ [];
  entries = [];
  next_entry = 1;
  next_run = 1;
  last = 0;
}
