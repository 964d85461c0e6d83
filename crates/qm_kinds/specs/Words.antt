-- The words that are printed.
use Rattle.std.specs.Prelude.{ℕ, List, codes}
use Rattle.qm_kinds.specs.declared.queue.QueueKind.{QueueKind}
use Rattle.qm_kinds.specs.declared.queue.QueueKind.TheVariants.{Batch, Print, GenericBatch, GenericPrint}
use Rattle.qm_kinds.specs.declared.queue.QueueState.{QueueState}
use Rattle.qm_kinds.specs.declared.queue.QueueState.TheVariants.{Stopped, Started, Paused, Stopping}
use Rattle.qm_kinds.specs.declared.refusal.ParseKind.{ParseKind}
use Rattle.qm_kinds.specs.declared.refusal.ParseKind.TheVariants as parse
use Rattle.qm_kinds.specs.declared.script.ScriptKind.{ScriptKind}
use Rattle.qm_kinds.specs.declared.script.ScriptKind.TheVariants as script

-- what a queue is for
abbrev pub queue_kind_text : QueueKind → List ℕ
queue_kind_text Batch = codes "batch"
queue_kind_text Print = codes "print"
queue_kind_text GenericBatch = codes "generic batch"
queue_kind_text GenericPrint = codes "generic print"

-- the state of a queue
abbrev pub queue_state_text : QueueState → List ℕ
queue_state_text Stopped = codes "stopped"
queue_state_text Started = codes "started"
queue_state_text Paused = codes "paused"
queue_state_text Stopping = codes "stopping"

-- what is wrong with a command
abbrev pub parse_kind_text : ParseKind → List ℕ
parse_kind_text parse.Form = codes "form"
parse_kind_text parse.Word = codes "word"
parse_kind_text parse.Ambiguous = codes "ambiguous"
parse_kind_text parse.Qualifier = codes "qualifier"
parse_kind_text parse.Value = codes "value"
parse_kind_text parse.Missing = codes "missing"
parse_kind_text parse.Extra = codes "extra"
parse_kind_text parse.Conflict = codes "conflict"
parse_kind_text parse.Hex = codes "hex"
parse_kind_text parse.Cut = codes "cut"
parse_kind_text parse.NoEnd = codes "noend"
parse_kind_text parse.After = codes "after"
parse_kind_text parse.Code = codes "code"
parse_kind_text parse.Repeated = codes "repeated"
parse_kind_text parse.NotBuilt = codes "notbuilt"

-- what is wrong with a script
abbrev pub script_kind_text : ScriptKind → List ℕ
script_kind_text script.Byte = codes "byte"
script_kind_text script.Form = codes "form"
script_kind_text script.Node = codes "node"
script_kind_text script.End = codes "end"
script_kind_text script.Long = codes "long"
