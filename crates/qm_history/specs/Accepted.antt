-- Which records may stand in a log: the image of a consistent system, and requests that were accepted one after the other.
-- OpenVMS System Manager's Manual, Managing the Queue Manager and Queue Database, on the queue database; DCL Dictionary,
-- START/QUEUE/MANAGER, on its list of nodes.
use Rattle.std.specs.Prelude.{◌≡◌, ◌<◌, ◌≤◌, ℕ, List, ◌++◌, length, map, filter, IsOk}
use Rattle.std.specs.List.{AllByRecursion}
use Rattle.qm_model.specs.Common.{Record, Body, Request, System, applied, IsConsistent, is_among, IsLawful, request_record, image_of}
use Rattle.qm_kinds.specs.declared.record.Body.TheVariants as body
use Rattle.qm_kinds.specs.declared.request.Request.TheVariants as request
use Rattle.qm_model.specs.Folding.{EachStands}
use Rattle.qm_record.specs.Spelling.{HasSpelling}

-- the names of the cluster's nodes, in its order
abbrev pub cluster : System → List (List ℕ)
cluster s = map (λ n. n.name) s.nodes

-- nodes of the cluster in its order, each once
abbrev pub IsListOfNodes : System → List (List ℕ) → Type 0
IsListOfNodes s names = names ≡ filter (is_among names) (cluster s)

-- each list of nodes in the request is one
abbrev pub HasListsOfNodes : System → Request → Type 0
HasListsOfNodes s (request.NodeLost nodes) = IsListOfNodes s nodes
HasListsOfNodes s (request.Took epoch gone up may) = IsListOfNodes s gone × IsListOfNodes s up × IsListOfNodes s may
HasListsOfNodes s _ = Unit {0}

-- A request can be the next record: it is spelled, from a node of the cluster, not of an earlier moment, its names and lists
-- keep their rules, and it isn't refused.
pub record CanFollow (s : System) (moment node : ℕ) (asked : Request) : Type 0 where
  pub spelled : HasSpelling (request_record moment node asked)
  pub node_there : node < length s.nodes
  pub not_earlier : s.last ≤ moment
  pub names : IsLawful s node asked
  pub lists : HasListsOfNodes s asked
  pub accepted : IsOk (applied s moment node asked)

-- behind an image stand requests alone
abbrev pub CanStandBehind : System → ℕ → ℕ → Body → Type 0
CanStandBehind s moment node (body.Ask asked) = CanFollow s moment node asked
CanStandBehind s moment node (body.Head nodes may next_entry next_run last) = ⊥
CanStandBehind s moment node (body.Form f) = ⊥
CanStandBehind s moment node (body.Characteristic c) = ⊥
CanStandBehind s moment node (body.File f) = ⊥
CanStandBehind s moment node (body.Queue q) = ⊥
CanStandBehind s moment node (body.Entry e) = ⊥

-- the record can be the next one
abbrev pub IsNext : System → Record → Type 0
IsNext s r = CanStandBehind s r.moment r.node r.body

-- each record is the next one of those before it
abbrev pub AreNext : System → List Record → Type 0
AreNext s records = EachStands IsNext s records

-- the rows of the image of a consistent system, and then requests
pub record IsAccepted (log : List Record) : Type 0 where
  pub image : System
  pub requests : List Record
  pub consistent : IsConsistent image
  pub spelled : AllByRecursion HasSpelling (image_of image)
  pub whole : log ≡ image_of image ++ requests
  pub next : AreNext image requests
