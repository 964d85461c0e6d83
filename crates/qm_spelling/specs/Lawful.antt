-- What the types of requests promise of the values in them.
use Rattle.std.specs.Prelude.{◌≡◌, ◌<◌, ◌≤◌, ◌^◌, ℕ, List, [], ◌∷◌, IfSome}
use Rattle.qm_model.specs.Common.{IsText, is_name_byte, is_pattern_byte, JobRetain, FileName, Characteristic, Form, Shape, Input, Ask, Show, TakeManager, LAST_MOMENT, Query, NewQueue, QueueChange, EntryChange, Job, NameOrNumber, Name, Number, Request, DefineForm, DeleteForm, DefineCharacteristic, DeleteCharacteristic, InitializeQueue, SetQueue, StartQueue, StopQueue, AbortJob, DeleteQueue, Merge, Submit, SetEntry, DeleteEntry}
use Rattle.qm_kinds.specs.declared.entry.JobRetain.TheVariants.{Default, Always, Failed, Until}

-- a name
abbrev pub IsName : List ℕ → Type 0
IsName name = IsText is_name_byte name

abbrev pub AreNames : List (List ℕ) → Type 0
AreNames [] = Unit {0}
AreNames (name ∷ names) = IsName name × AreNames names

-- a form or a characteristic, by its name or by a number of 16 bits
abbrev pub IsReference : NameOrNumber → Type 0
IsReference (Name name) = IsName name
IsReference (Number number) = number < 2 ^ 16

abbrev pub AreReferences : List NameOrNumber → Type 0
AreReferences [] = Unit {0}
AreReferences (reference ∷ references) = IsReference reference × AreReferences references

-- what is changed of a queue
pub record IsQueueChange (change : QueueChange) : Type 0 where
  pub limit : IfSome change.limit (λ n. n < 2 ^ 8)
  pub characteristics : IfSome change.characteristics AreReferences
  pub form : IfSome change.form IsReference
  pub blocks : IfSome change.blocks (λ limits. (limits.0 < 2 ^ 32) × (limits.1 < 2 ^ 32))

-- how text is set on a form
pub record IsShape (shape : Shape) : Type 0 where
  pub length : shape.length < 2 ^ 8
  pub width : shape.width < 2 ^ 8
  pub top : shape.top < 2 ^ 8
  pub bottom : shape.bottom < 2 ^ 8
  pub left : shape.left < 2 ^ 8
  pub right : shape.right < 2 ^ 8

-- a form
pub record IsForm (form : Form) : Type 0 where
  pub name : IsName form.name
  pub number : form.number < 2 ^ 16
  pub stock : IsName form.stock
  pub shape : IsShape form.shape

-- a characteristic
pub record IsCharacteristic (characteristic : Characteristic) : Type 0 where
  pub name : IsName characteristic.name
  pub number : characteristic.number < 2 ^ 8

-- a listing, which this user asks for
pub record IsQueryOf (user : List ℕ) (query : Query) : Type 0 where
  pub pattern : IsText is_pattern_byte query.pattern
  pub number : IfSome query.number (λ n. n < 2 ^ 32)
  pub asker : IfSome query.user (λ name. name ≡ user)

-- a moment before the end of 9999
abbrev pub IsMoment : ℕ → Type 0
IsMoment moment = moment ≤ LAST_MOMENT

-- whether a job is kept
abbrev pub IsRetain : JobRetain → Type 0
IsRetain Default = Unit {0}
IsRetain Always = Unit {0}
IsRetain Failed = Unit {0}
IsRetain (Until moment) = IsMoment moment

-- a file
pub record IsFileName (file : FileName) : Type 0 where
  pub name : IsName file.name
  pub extension : IfSome file.extension IsName

-- a job, which this user submits
pub record IsJobOf (user : List ℕ) (job : Job) : Type 0 where
  pub submitter : job.user ≡ user
  pub queue : IsName job.queue
  pub file : IsFileName job.file
  pub name : IsName job.name
  pub priority : job.priority < 2 ^ 8
  pub after : IfSome job.after IsMoment
  pub retain : IsRetain job.retain
  pub characteristics : AreReferences job.characteristics
  pub form : IfSome job.form IsReference
  pub copies : job.copies < 2 ^ 8

-- what is changed of an entry
pub record IsEntryChange (change : EntryChange) : Type 0 where
  pub after : IfSome change.after (λ moment. IfSome moment IsMoment)
  pub priority : IfSome change.priority (λ n. n < 2 ^ 8)
  pub name : IfSome change.name IsName
  pub characteristics : IfSome change.characteristics AreReferences
  pub form : IfSome change.form IsReference
  pub queue : IfSome change.queue IsName
  pub retain : IfSome change.retain IsRetain

-- a queue that is made
pub record IsNewQueue (new : NewQueue) : Type 0 where
  pub name : IsName new.name
  pub node : IfSome new.node IsName
  pub device : IfSome new.device IsName
  pub targets : AreNames new.targets
  pub change : IsQueueChange new.change

-- what this user can ask for, whose values are as their types promise
abbrev pub IsRequestOf : List ℕ → Request → Type 0
IsRequestOf user (DefineForm form) = IsForm form
IsRequestOf user (DeleteForm name) = IsName name
IsRequestOf user (DefineCharacteristic characteristic) = IsCharacteristic characteristic
IsRequestOf user (DeleteCharacteristic name) = IsName name
IsRequestOf user (InitializeQueue new) = IsNewQueue new
IsRequestOf user (SetQueue name change) = IsName name × IsQueueChange change
IsRequestOf user (StartQueue name change) = IsName name × IsQueueChange change
IsRequestOf user (StopQueue name how) = IsName name
IsRequestOf user (AbortJob queue entry requeue) = IsName queue × IfSome entry (λ n. n < 2 ^ 32)
IsRequestOf user (DeleteQueue name) = IsName name
IsRequestOf user (Merge to from) = IsName to × IsName from
IsRequestOf user (Submit job) = IsJobOf user job
IsRequestOf user (SetEntry entry change) = (entry < 2 ^ 32) × IsEntryChange change
IsRequestOf user (DeleteEntry entry) = entry < 2 ^ 32
IsRequestOf user _ = Unit {0}

abbrev pub IsInputOf : List ℕ → Input → Type 0
IsInputOf user (Ask request) = IsRequestOf user request
IsInputOf user (Show query) = IsQueryOf user query
IsInputOf user (TakeManager on) = IfSome on AreNames
IsInputOf user _ = Unit {0}
