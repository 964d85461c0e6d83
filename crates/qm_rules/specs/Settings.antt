-- Systems that have the rows of tables, and settings that a change gives.
use Rattle.std.specs.Prelude.{◌≡◌, ℕ, List}
use Rattle.qm_model.specs.Common.{Queue, QueueChange, NewQueue, Node, System, with_change}
use Rattle.qm_model.specs.Queues.{plain_queue}
use Rattle.qm_tables.specs.Forms.{Defined}
use Rattle.qm_tables.specs.declared.queues.settings.Settings.{Settings}
use Rattle.qm_tables.specs.Queues.{Kept}
use Rattle.qm_tables.specs.Settings.{with_settings}

-- the system has the forms and characteristics of the table
pub record HasForms (s : System) (table : Defined) : Type 0 where
  pub forms_are : s.forms ≡ table.forms
  pub characteristics_are : s.characteristics ≡ table.characteristics

-- the system has the queues of the table
pub record HasQueues (s : System) (table : Kept) : Type 0 where
  pub queues_are : s.queues ≡ table.queues

-- the system has these nodes, and the forms, characteristics and queues of these tables
pub record AgreesWith (s : System) (nodes : List Node) (forms : Defined) (queues : Kept) : Type 0 where
  pub nodes_are : s.nodes ≡ nodes
  pub has_forms : HasForms s forms
  pub has_queues : HasQueues s queues

-- the settings are those that the change gives in the system
abbrev pub AreSettingsOf : System → QueueChange → Settings → Type 0
AreSettingsOf s change settings = (q : Queue) → with_settings settings q ≡ with_change s change q

-- the queue is the one that is made from this node, with the settings that are given
abbrev pub IsMadeFrom : Defined → List ℕ → NewQueue → Queue → Type 0
IsMadeFrom forms node new queue = (s : System) → HasForms s forms → queue ≡ with_change s new.change (plain_queue node new)
