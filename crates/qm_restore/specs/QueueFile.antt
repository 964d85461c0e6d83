-- What the records of a queue file stand for.
use Rattle.std.specs.Prelude.{◌≡◌, ℕ, ◌+◌, ◌<◌, ◌≤◌, List, ◌++◌, length, map, take}
use Rattle.std.specs.List.{AllByRecursion}
use Rattle.qm_history.specs.Common.{AreNext, HasListsOfNodes, IsAccepted, Record, Request, Node, System, AreNodes, replayed, system_of, IsLawful, image_of, HasSpelling, record_text}
use Rattle.qm_restore.specs.Site.{new_system}

-- A request can act: its moment doesn't go back, its node is there, and its names and lists of nodes keep their rules. What is
-- spelled then, and isn't refused, can be the next record of a log.
pub record CanAct (s : System) (moment node : ℕ) (asked : Request) : Type 0 where
  pub not_earlier : s.last ≤ moment
  pub node_there : node < length s.nodes
  pub names : IsLawful s node asked
  pub lists : HasListsOfNodes s asked

-- each of the records can be the next one of a log behind those before it, and they leave this system
pub record LeadTo (s : System) (records : List Record) (t : System) : Type 0 where
  pub stand : AreNext s records
  pub leave : replayed s records ≡ t

-- The records of a queue file, by their bodies, and the system that they stand for: the rows of a first system, and requests that
-- were accepted one after the other from there on.
pub record IsFileFrom (first : System) (bodies : List (List ℕ)) (s : System) : Type 0 where
  pub requests : List Record
  pub fit : AllByRecursion HasSpelling (image_of first ++ requests)
  pub spelled : bodies ≡ map record_text (image_of first ++ requests)
  pub lead : LeadTo first requests s

-- the system of a new site of some nodes
pub record IsNewSite (first : System) : Type 0 where
  pub nodes : List Node
  pub proper : AreNodes nodes
  pub is : first ≡ new_system nodes

-- The records of a queue file, and the system that they stand for. The first ones are the rows of a new site.
pub record IsSiteFile (bodies : List (List ℕ)) (s : System) : Type 0 where
  pub first : System
  pub is_new : IsNewSite first
  pub file : IsFileFrom first bodies s

-- these are the records of an accepted log, by their bodies, which stands for this system
abbrev pub SpellAccepted : List (List ℕ) → System → Type 0
SpellAccepted bodies s = (log : List Record) × (bodies ≡ map record_text log) × IsAccepted log × (system_of log ≡ s)

-- some queue file begins with these records
pub record Begins (bodies : List (List ℕ)) : Type 0 where
  pub more : List (List ℕ)
  pub system : System
  pub is : IsSiteFile (bodies ++ more) system

-- The first record with which no queue file goes on, by its index; or, where the file ends too early, where it ends.
pub record IsFirstUnlawful (bodies : List (List ℕ)) (index : ℕ) : Type 0 where
  pub within : index ≤ length bodies
  pub begins : Begins (take index bodies)
  pub ends : index < length bodies → Begins (take (index + 1) bodies) → ⊥
  pub unfinished : index ≡ length bodies → (s : System) → IsSiteFile bodies s → ⊥
