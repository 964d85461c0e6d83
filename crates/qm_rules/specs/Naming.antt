-- What entries and queues name.
use Rattle.std.specs.Prelude.{ℕ, ◌==◌, Bool, not, bit_and, bytes_eq}
use Rattle.std.specs.List.{list_any}
use Rattle.qm_model.specs.Common.{Entry, Queue, same_file_name, is_named}
use Rattle.qm_rules.specs.declared.naming.Named.{Named}
use Rattle.qm_rules.specs.declared.naming.Named.TheVariants.{File, Form, Characteristics}
use Rattle.qm_rules.specs.declared.naming.QueueNamed.{QueueNamed}
use Rattle.qm_rules.specs.declared.naming.QueueNamed.TheVariants as queue

-- one set has something of the other
abbrev pub has_one_of : ℕ → ℕ → Bool
has_one_of wanted set = not (bit_and set wanted == 0)

-- the entry has the file, the form, or one of the characteristics
abbrev pub names : Named → Entry → Bool
names (File name) e = same_file_name e.file name.now
names (Form name) e = is_named name.now e.form
names (Characteristics wanted) e = has_one_of wanted.0 e.characteristics.0

-- the queue has the form mounted, has one of the characteristics, or passes jobs on to the queue
abbrev pub queue_names : QueueNamed → Queue → Bool
queue_names (queue.Form name) q = is_named name.now q.mounted
queue_names (queue.Characteristics wanted) q = has_one_of wanted.0 q.characteristics.0
queue_names (queue.Target name) q = list_any (bytes_eq name.now) q.targets
