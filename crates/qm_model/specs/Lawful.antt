-- What a request's names and lists keep to, beside what is checked before it is accepted. This asks only for what it takes
-- to keep a system consistent. The other names of an accepted request were found in the system, where they keep its rules
-- if it is consistent. What else names and lists keep to is to be judged where requests come in: that the node from which a
-- request comes is one of the cluster, and that lists of nodes name nodes of it in the cluster's order, each once.
-- DCL Dictionary, DEFINE/CHARACTERISTIC, DEFINE/FORM and INITIALIZE/QUEUE, on their names; OpenVMS System Manager's Manual,
-- Managing the Queue Manager, on the nodes where it runs.
use Rattle.std.specs.Prelude.{ℕ, ◌≡◌, ◌<◌, length, map, filter, IfSome}
use Rattle.qm_kinds.specs.declared.request.Request.{Request}
use Rattle.qm_kinds.specs.declared.request.Request.TheVariants.{Append, Fill, Drop, DefineForm, DeleteForm, DefineCharacteristic, DeleteCharacteristic, InitializeQueue, SetQueue, StartQueue, StopQueue, AbortJob, DeleteQueue, Merge, Submit, SetEntry, DeleteEntry, Mark, Done, Tick, NodeUp, NodeLost, Took}
use Rattle.qm_kinds.specs.declared.system.System.{System}
use Rattle.qm_model.specs.Consistent.{IsShort, IsDefinable}
use Rattle.qm_model.specs.Find.{is_among}

-- Whatever is new has a name that can stand, a queue comes from a node of the cluster, and the nodes that may be manager
-- stand in the cluster's order.
abbrev pub IsLawful : System → ℕ → Request → Type 0
IsLawful s node (Append file bytes) = Unit {0}
IsLawful s node (Fill file lines) = Unit {0}
IsLawful s node (Drop file) = Unit {0}
IsLawful s node (DefineForm form) = IsDefinable form.name × IsShort form.stock
IsLawful s node (DeleteForm name) = Unit {0}
IsLawful s node (DefineCharacteristic characteristic) = IsDefinable characteristic.name
IsLawful s node (DeleteCharacteristic name) = Unit {0}
IsLawful s node (InitializeQueue new) = IsShort new.name × IfSome new.device IsShort × (node < length s.nodes)
IsLawful s node (SetQueue name change) = Unit {0}
IsLawful s node (StartQueue name change) = Unit {0}
IsLawful s node (StopQueue name how) = Unit {0}
IsLawful s node (AbortJob queue entry requeue) = Unit {0}
IsLawful s node (DeleteQueue name) = Unit {0}
IsLawful s node (Merge to from) = Unit {0}
IsLawful s node (Submit job) = Unit {0}
IsLawful s node (SetEntry entry change) = Unit {0}
IsLawful s node (DeleteEntry entry) = Unit {0}
IsLawful s node (Mark run value) = Unit {0}
IsLawful s node (Done run status) = Unit {0}
IsLawful s node Tick = Unit {0}
IsLawful s node NodeUp = Unit {0}
IsLawful s node (NodeLost nodes) = Unit {0}
IsLawful s node (Took epoch gone up may) = may ≡ filter (is_among may) (map (λ n. n.name) s.nodes)
