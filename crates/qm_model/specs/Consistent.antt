-- What makes a system consistent.
-- OpenVMS System Manager's Manual, Setting Up and Maintaining Queues, on queues, forms and characteristics; Managing the Queue Manager
-- and Queue Database, on what the queue database holds.
-- This site's own: the limits in number and size, the files, and the numbers of runs.
use Rattle.std.specs.Prelude.{◌≡◌, ◌≢◌, ◌<◌, ◌≤◌, ◌+◌, ℕ, Bool, true, false, List, [], length, map, filter, sum_by, find, Option, Some, IfSome, IsSome, IsNone, IsTrue, All, AllPairs, Contains, IsBitSet, bytes_eq}
use Rattle.std.specs.List.{list_any, list_all}
use Rattle.std.specs.Ordering.{nat_cmp}
use Rattle.std.specs.Char.{is_ascii_digit}
use Rattle.std.specs.Option.{option_map_or}
use Rattle.std.specs.declared.cmp.Ordering.{Ordering}
use Rattle.std.specs.declared.cmp.Ordering.TheVariants.{Less}
use Rattle.qm_kinds.specs.declared.file.File.{File}
use Rattle.qm_kinds.specs.declared.form.Shape.{Shape}
use Rattle.qm_kinds.specs.declared.form.Form.{Form}
use Rattle.qm_kinds.specs.declared.form.Characteristic.{Characteristic}
use Rattle.qm_kinds.specs.declared.queue.Queue.{Queue}
use Rattle.qm_kinds.specs.declared.queue.QueueKind.{QueueKind}
use Rattle.qm_kinds.specs.declared.queue.QueueKind.TheVariants.{Batch, Print, GenericBatch, GenericPrint}
use Rattle.qm_kinds.specs.declared.queue.QueueState.TheVariants.{Stopping}
use Rattle.qm_kinds.specs.declared.entry.Entry.{Entry}
use Rattle.qm_kinds.specs.declared.entry.JobKind.{JobKind}
use Rattle.qm_kinds.specs.declared.limits.TheConstants.{NODES_LIMIT, QUEUES_LIMIT, TARGETS_LIMIT, LAST_FORM, LAST_CHARACTERISTIC, ENTRIES_LIMIT, FILES_LIMIT, FILE_LIMIT, SPOOL_LIMIT, END_OF_RUNS}
use Rattle.qm_kinds.specs.declared.name.TheConstants.{NODE_NAME_BYTES, SHORT_NAME_BYTES}
use Rattle.qm_kinds.specs.declared.request.NameOrNumber.TheVariants.{Name}
use Rattle.qm_kinds.specs.declared.system.Node.{Node}
use Rattle.qm_kinds.specs.declared.system.System.{System}
use Rattle.qm_kinds.specs.Names.{default_form}
use Rattle.qm_kinds.specs.declared.entry.JobKind.TheVariants as job
use Rattle.qm_model.specs.Find.{name_cmp, file_name_cmp, file_named, queue_named, form_wanted}
use Rattle.qm_model.specs.Kinds.{execution_kind, is_generic, job_kind}
use Rattle.qm_model.specs.JobStates.{run_of, runs_in, runs_on}

-- each stands before the later ones
abbrev pub IsInOrder : {X K : Type 0} → (K → K → Ordering) → (X → K) → List X → Type 0
IsInOrder cmp key xs = AllPairs (λ a b. cmp (key a) (key b) ≡ Less) xs

-- no name stands twice
abbrev pub AreDistinct : {X : Type 0} → (X → List ℕ) → List X → Type 0
AreDistinct name xs = AllPairs (λ a b. name a ≢ name b) xs

-- a name of a queue, a form, a characteristic, a stock or a device
abbrev pub IsShort : List ℕ → Type 0
IsShort name = length name ≤ SHORT_NAME_BYTES

-- a name of a form or a characteristic: short, and not of digits alone
abbrev pub IsDefinable : List ℕ → Type 0
IsDefinable name = IsShort name × (list_all is_ascii_digit name ≡ false)

-- at least one node, each once, with names that a node can have
pub record AreNodes (nodes : List Node) : Type 0 where
  pub some : 0 < length nodes
  pub few : length nodes ≤ NODES_LIMIT
  pub short : All (λ n. length n.name ≤ NODE_NAME_BYTES) nodes
  pub distinct : AreDistinct (λ n. n.name) nodes

-- there is room for text between the margins
pub record HasRoom (shape : Shape) : Type 0 where
  pub lines : shape.top + shape.bottom < shape.length
  pub columns : shape.left + shape.right < shape.width

-- a number of a form, a name, a stock, and room for text
pub record IsProperForm (form : Form) : Type 0 where
  pub number : form.number ≤ LAST_FORM
  pub name : IsDefinable form.name
  pub stock : IsShort form.stock
  pub shape : HasRoom form.shape

-- by number, under names of their own, and DEFAULT has number 0
pub record AreForms (forms : List Form) : Type 0 where
  pub each : All IsProperForm forms
  pub order : IsInOrder nat_cmp (λ f. f.number) forms
  pub distinct : AreDistinct (λ f. f.name) forms
  pub default : IfSome (form_wanted (Name default_form) forms) (λ f. f.number ≡ 0) × IsSome (form_wanted (Name default_form) forms)

-- by number, none too great, under names of their own
pub record AreCharacteristics (characteristics : List Characteristic) : Type 0 where
  pub numbers : All (λ c. c.number ≤ LAST_CHARACTERISTIC) characteristics
  pub names : All (λ c. IsDefinable c.name) characteristics
  pub order : IsInOrder nat_cmp (λ c. c.number) characteristics
  pub distinct : AreDistinct (λ c. c.name) characteristics

-- how many bytes all files have
abbrev pub spooled : List File → ℕ
spooled files = sum_by (λ f. length f.bytes) files

-- not too many files, of not too many bytes each and together, by name
pub record AreFiles (files : List File) : Type 0 where
  pub few : length files ≤ FILES_LIMIT
  pub each : All (λ f. length f.bytes ≤ FILE_LIMIT) files
  pub total : spooled files ≤ SPOOL_LIMIT
  pub order : IsInOrder file_name_cmp (λ f. f.name) files

-- each characteristic of the set is defined
abbrev pub AreDefined : ℕ → List Characteristic → Type 0
AreDefined set characteristics = (n : ℕ) → IsBitSet set n → Contains (map (λ c. c.number) characteristics) n

-- the name is that of an execution queue for this kind of job
abbrev pub IsExecutionQueue : JobKind → List Queue → List ℕ → Type 0
IsExecutionQueue kind queues name = IsSome (find (λ q. bytes_eq q.name name) queues) × IfSome (find (λ q. bytes_eq q.name name) queues) (λ q. q.kind ≡ execution_kind kind)

-- An execution queue stands on a node of the list, with a device, and names no targets. A generic queue names
-- execution queues of its kind, and has neither node nor device.
abbrev pub IsPlaced : List Node → List Queue → Queue → Bool → Type 0
IsPlaced nodes queues q false =
    IfSome q.node (λ node. Contains (map (λ n. n.name) nodes) node) × IsSome q.node
    × IfSome q.device IsShort × IsSome q.device × (q.targets ≡ [])
IsPlaced nodes queues q true =
    IsNone q.node × IsNone q.device × (0 < length q.targets) × (length q.targets ≤ TARGETS_LIMIT) × AllPairs (λ a b. a ≢ b) q.targets
    × All (IsExecutionQueue (job_kind q.kind) queues) q.targets

-- a print queue has a form mounted, which is defined, and no other queue has one
abbrev pub IsMounted : List Form → QueueKind → Option (List ℕ) → Type 0
IsMounted forms Print mounted = IsSome mounted × IfSome mounted (λ form. IsSome (form_wanted (Name form) forms))
IsMounted forms Batch mounted = IsNone mounted
IsMounted forms GenericBatch mounted = IsNone mounted
IsMounted forms GenericPrint mounted = IsNone mounted

-- The queue stands where it can, what it names is defined, it has a limit and sizes that jobs can keep, and while it is stopping it
-- has a run.
pub record IsQueue (s : System) (q : Queue) : Type 0 where
  pub name : IsShort q.name
  pub placed : IsPlaced s.nodes s.queues q (is_generic q.kind)
  pub mounted : IsMounted s.forms q.kind q.mounted
  pub characteristics : AreDefined q.characteristics.0 s.characteristics
  pub limit : 0 < q.limit
  pub sizes : (0 < q.lower) × (q.lower ≤ q.upper)
  -- a queue that is stopping still has a run
  pub stopping : q.state ≡ Stopping → IsTrue (list_any (λ e. option_map_or (λ name. bytes_eq name q.name) (runs_in e.state) false) s.entries)

-- not too many queues, by name
pub record AreQueues (s : System) : Type 0 where
  pub few : length s.queues ≤ QUEUES_LIMIT
  pub each : All (IsQueue s) s.queues
  pub order : IsInOrder name_cmp (λ q. q.name) s.queues

-- a print job's form is defined
abbrev pub HasForm : List Form → JobKind → Option (List ℕ) → Type 0
HasForm forms job.Print form = IsSome form × IfSome form (λ name. IsSome (form_wanted (Name name) forms))
HasForm forms job.Batch form = Unit {0}

-- The entry has a number that was given, its home is a queue for its kind of job, its file is there, its form and
-- characteristics are defined, and its run, if it has one, is in an execution queue of its kind, on a node, under a number
-- that was given.
pub record IsEntry (s : System) (e : Entry) : Type 0 where
  pub number : (0 < e.number) × (e.number < s.next_entry)
  pub home : IsSome (queue_named e.home s.queues) × IfSome (queue_named e.home s.queues) (λ q. job_kind q.kind ≡ e.kind)
  pub file : IsSome (file_named e.file s.files)
  pub form : HasForm s.forms e.kind e.form
  pub characteristics : AreDefined e.characteristics.0 s.characteristics
  pub queue : IfSome (runs_in e.state) (IsExecutionQueue e.kind s.queues)
  pub node : IfSome (runs_on e.state) (Contains (map (λ n. n.name) s.nodes))
  pub run : IfSome (run_of e.state) (λ run. (0 < run) × (run < s.next_run))

-- not too many entries, by number, each run under a number of its own
pub record AreEntries (s : System) : Type 0 where
  pub few : length s.entries ≤ ENTRIES_LIMIT
  pub each : All (IsEntry s) s.entries
  pub order : IsInOrder nat_cmp (λ e. e.number) s.entries
  pub runs : AllPairs (λ a b. IfSome (run_of a.state) (λ run. run_of b.state ≢ Some run)) s.entries

-- All parts keep their rules, and the next numbers of entries and runs lie above 0.
pub record IsConsistent (s : System) : Type 0 where
  pub nodes : AreNodes s.nodes
  -- some of the nodes or none, in their order
  pub may : s.may ≡ filter (λ name. list_any (bytes_eq name) s.may) (map (λ n. n.name) s.nodes)
  pub forms : AreForms s.forms
  pub characteristics : AreCharacteristics s.characteristics
  pub files : AreFiles s.files
  pub queues : AreQueues s
  pub entries : AreEntries s
  pub next_entry : 0 < s.next_entry
  pub next_run : (0 < s.next_run) × (s.next_run ≤ END_OF_RUNS)
