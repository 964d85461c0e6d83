-- How the records of a queue file are judged, one by one.
use Rattle.std.specs.Prelude.{◌≡◌, ℕ, ◌≤◌, ◌<◌, Bool, true, false, List, [], ◌∷◌, ◌++◌, map, Some, Result, Ok, Err, slice_get}
use Rattle.std.specs.List.{AllByRecursion}
use Rattle.qm_history.specs.Common.{Spells, IsNext, Record, Body, Head, Node, System, AreNodes, after_record, HasSpelling, record_text, IsRecord}
use Rattle.qm_record.specs.declared.fault.RecordFault.{RecordFault}
use Rattle.qm_record.specs.declared.fault.RecordFault.TheVariants.{Bad}
use Rattle.qm_record.specs.declared.fault.RecordFault.TheVariants as record_fault
use Rattle.qm_restore.specs.Site.{new_rows, new_system}
use Rattle.qm_restore.specs.QueueFile.{IsFileFrom, IsSiteFile, IsFirstUnlawful, LeadTo}
use Rattle.qm_restore.specs.declared.fault.RestoreFault.{RestoreFault}
use Rattle.qm_restore.specs.declared.fault.RestoreFault.TheVariants.{Unlawful, NoMemory}
use Rattle.qm_restore.specs.declared.fault.Flaw.{Flaw}
use Rattle.qm_restore.specs.declared.fault.Flaw.TheVariants.{Unreadable, NoRow, Refused}

-- this is so of the body with this index
abbrev pub OfBody : List (List ℕ) → ℕ → (List ℕ → Type 0) → Type 0
OfBody bodies index P = (body : List ℕ) → slice_get bodies index ≡ Some body → P body

-- there is a body with this index, and this is so of it
abbrev pub HasBody : List (List ℕ) → ℕ → (List ℕ → Type 0) → Type 0
HasBody bodies index P = (body : List ℕ) × (slice_get bodies index ≡ Some body) × P body

-- how many rows a new site has
abbrev pub rows_count : ℕ
rows_count = 3

-- What is wrong with the record of this index: its body spells none; or it should be a row of a new site, which it isn't, or the
-- file ends before it; or it is a record behind the rows, which can't stand there.
abbrev pub IsFlaw : List (List ℕ) → ℕ → Flaw → Type 0
IsFlaw bodies index Unreadable = HasBody bodies index (λ body. IsRecord body → ⊥)
IsFlaw bodies index NoRow = index < rows_count
IsFlaw bodies index Refused = (rows_count ≤ index) × HasBody bodies index IsRecord

-- the first record that can't stand there, and what is wrong with it
abbrev pub Judges : List (List ℕ) → RestoreFault → Type 0
Judges bodies (Unlawful index flaw) = IsFirstUnlawful bodies index × IsFlaw bodies index flaw
Judges bodies NoMemory = Unit {0}

-- the nodes that a head names
abbrev pub named_by : Body → List Node
named_by (Head nodes may next_entry next_run last) = nodes
named_by _ = []

-- these are the nodes that a head names, and a site can have them
abbrev pub Names : Body → List Node → Type 0
Names body nodes = (nodes ≡ named_by body) × AreNodes (named_by body)

-- what is told of a first row that names no nodes of a site
abbrev pub NamesNone : Body → RestoreFault → Type 0
NamesNone body (Unlawful index Unreadable) = ⊥
NamesNone body (Unlawful index NoRow) = (index ≡ 0) × (AreNodes (named_by body) → ⊥)
NamesNone body (Unlawful index Refused) = ⊥
NamesNone body NoMemory = Unit {0}

-- Each queue file that begins with the first of these records is of these nodes, which are named there.
pub record IsOf (bodies : List (List ℕ)) (nodes : List Node) : Type 0 where
  pub proper : AreNodes nodes
  pub fit : AllByRecursion HasSpelling (new_rows nodes)
  pub first : List ℕ
  pub others : List (List ℕ)
  pub are : bodies ≡ first ∷ others
  pub only : (others : List Node) (more : List (List ℕ)) (s : System) → IsFileFrom (new_system others) (first ∷ more) s → others ≡ nodes

-- The first records are the rows of a new site of these nodes, and each queue file that begins with the first of them is of
-- these nodes.
pub record BeginsWithRows (bodies : List (List ℕ)) (nodes : List Node) : Type 0 where
  pub proper : AreNodes nodes
  pub fit : AllByRecursion HasSpelling (new_rows nodes)
  pub rest : List (List ℕ)
  pub rows : bodies ≡ map record_text (new_rows nodes) ++ rest
  pub only : (others : List Node) (more : List (List ℕ)) (s : System) → IsFileFrom (new_system others) (map record_text (new_rows nodes) ++ more) s → others ≡ nodes

-- records with which a system goes on to another, by their bodies
pub record GoesOn (s : System) (more : List (List ℕ)) (t : System) : Type 0 where
  pub records : List Record
  pub fit : AllByRecursion HasSpelling records
  pub spelled : more ≡ map record_text records
  pub lead : LeadTo s records t

-- These records are a queue file of this system, and each queue file that begins with them goes on from it.
pub record Stands (front : List (List ℕ)) (s : System) : Type 0 where
  pub lawful : IsSiteFile front s
  pub goes_on : (more : List (List ℕ)) (t : System) → IsSiteFile (front ++ more) t → GoesOn s more t

-- the record can be the next one behind this system, and leaves that one
abbrev pub GoesTo : System → Record → System → Type 0
GoesTo old r new = IsNext old r × (after_record old r ≡ new)

-- it can't be the next one
abbrev pub CannotStand : System → Record → Type 0
CannotStand old r = IsNext old r → ⊥

-- the record was replayed, or it can't be the next one
abbrev pub IsReplayed : Bool → System → Record → System → Type 0
IsReplayed true old r new = GoesTo old r new
IsReplayed false old r new = CannotStand old r

-- What one record, by its body, makes of a system: the system after it, or nothing.
pub record Leaves (body : List ℕ) (old new : System) : Type 0 where
  pub value : Record
  pub spells : Spells HasSpelling record_text value body
  pub leaves : GoesTo old value new
  pub only : (other : Record) → HasSpelling other → body ≡ record_text other → other ≡ value

-- it makes nothing of it
abbrev pub LeavesNothing : List ℕ → System → Type 0
LeavesNothing body old = (other : Record) → HasSpelling other → body ≡ record_text other → CannotStand old other

-- what was read of a record makes this of a system
abbrev pub LeavesBy : Result Record RecordFault → System → System → Type 0
LeavesBy (Ok r) old new = GoesTo old r new
LeavesBy (Err fault) old new = ⊥

-- what a record is that was refused, by what was read of it
abbrev pub IsFlawOfRead : Result Record RecordFault → Flaw → Type 0
IsFlawOfRead (Ok r) Unreadable = ⊥
IsFlawOfRead (Ok r) NoRow = ⊥
IsFlawOfRead (Ok r) Refused = Unit {0}
IsFlawOfRead (Err fault) Unreadable = Unit {0}
IsFlawOfRead (Err fault) NoRow = ⊥
IsFlawOfRead (Err fault) Refused = ⊥

-- What was read of the record with this index makes nothing of it. Memory is wanted for what can stand there alone, or was
-- wanted where it was read.
abbrev pub RefusesRead : ℕ → Result Record RecordFault → System → RestoreFault → Type 0
RefusesRead index (Ok r) s (Unlawful i flaw) = (i ≡ index) × CannotStand s r × IsFlawOfRead (Ok r) flaw
RefusesRead index (Ok r) s NoMemory = IsNext s r
RefusesRead index (Err (Bad place)) s (Unlawful i flaw) = (i ≡ index) × IsFlawOfRead (Err (Bad place)) flaw
RefusesRead index (Err (Bad place)) s NoMemory = ⊥
RefusesRead index (Err record_fault.NoMemory) s (Unlawful i flaw) = ⊥
RefusesRead index (Err record_fault.NoMemory) s NoMemory = Unit {0}

-- this record was read, unless memory ran out
abbrev pub IsRead : Record → Result Record RestoreFault → Type 0
IsRead r (Ok x) = x ≡ r
IsRead r (Err NoMemory) = Unit {0}
IsRead r (Err (Unlawful index flaw)) = ⊥

-- what is wrong with a body: it spells no record, or it is one
abbrev pub IsFlawOf : List ℕ → Flaw → Type 0
IsFlawOf body Unreadable = IsRecord body → ⊥
IsFlawOf body NoRow = ⊥
IsFlawOf body Refused = IsRecord body

-- the record with this index and body can't stand there; or memory ran out over a body that is a record's
abbrev pub IsRefused : ℕ → List ℕ → System → RestoreFault → Type 0
IsRefused index body s (Unlawful i flaw) = (i ≡ index) × LeavesNothing body s × IsFlawOf body flaw
IsRefused index body s NoMemory = IsRecord body

-- the only index that is told, of a record that can't be read
abbrev pub IsUnreadableAt : ℕ → RestoreFault → Type 0
IsUnreadableAt index (Unlawful i flaw) = (i ≡ index) × (flaw ≡ Unreadable)
IsUnreadableAt index NoMemory = Unit {0}

-- it is the first record that is told
abbrev pub IsFirst : RestoreFault → Type 0
IsFirst (Unlawful index flaw) = index ≡ 0
IsFirst NoMemory = Unit {0}
