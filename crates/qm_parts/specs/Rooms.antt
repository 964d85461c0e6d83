-- The queues that a job may come to, and the room that their rows have.
use Rattle.std.specs.Prelude.{◌≡◌, ◌<◌, ◌≤◌, ◌+◌, ℕ, Bool, true, false, ◌||◌, if◌then◌else◌, List, [], length, map, count_by, Option, None, IfSome, slice_index_or, bytes_eq}
use Rattle.std.specs.List.{list_any}
use Rattle.std.specs.Option.{option_map_or}
use Rattle.qm_model.specs.Common.{Entry, Queue, entry_numbered, queue_named}
use Rattle.qm_ready.specs.Rows.{Row}
use Rattle.qm_renewal.specs.Renewing.{room_of}
use Rattle.qm_parts.specs.Tables.{Tables}

-- the targets of the queue of a name, if there is such a queue
abbrev pub targets_of : List Queue → List ℕ → List (List ℕ)
targets_of queues name = option_map_or (λ q. q.targets) (queue_named name queues) []

-- the queue has this name, or is one of these targets
abbrev pub is_one_of : List ℕ → List (List ℕ) → Queue → Bool
is_one_of name targets q = bytes_eq name q.name || list_any (λ target. bytes_eq target q.name) targets

-- jobs of this home may come to the queue: it is the home, or one of the home's targets, whatever the states of both
abbrev pub leads_to : List Queue → Queue → List ℕ → Bool
leads_to queues q home = is_one_of home (targets_of queues home) q

-- the job may come to the queue
abbrev pub may_come : List Queue → Queue → Entry → Bool
may_come queues q e = leads_to queues q e.home

-- how many jobs may come to the queue
abbrev pub reach : List Queue → List Entry → Queue → ℕ
reach queues entries q = count_by (may_come queues q) entries

-- the queue is the entry's home
abbrev pub is_home : List ℕ → Entry → Bool
is_home name e = bytes_eq e.home name

-- for how many keys each row has room, those that it has counted among them
abbrev pub rooms_of : List Row → List ℕ
rooms_of rows = map room_of rows

-- the row of each queue has room for as many keys as it needs
abbrev pub AreMet : (Queue → ℕ) → List Queue → List ℕ → Type 0
AreMet needs queues rooms = (place : ℕ) (q : Queue) → place < length queues → needs (slice_index_or queues place q) ≤ slice_index_or rooms place 0

-- the row of each queue has room for each job that may come to it
abbrev pub HaveRoom : List Queue → List Entry → List ℕ → Type 0
HaveRoom queues entries rooms = AreMet (reach queues entries) queues rooms

-- and for so many more, where the queue passes a test
abbrev pub HavePlacesWhere : (Queue → Bool) → ℕ → List Queue → List Entry → List ℕ → Type 0
HavePlacesWhere test more queues entries rooms = (place : ℕ) (q : Queue) → place < length queues → test (slice_index_or queues place q) ≡ true
    → reach queues entries (slice_index_or queues place q) + more ≤ slice_index_or rooms place 0

-- the same of rows
abbrev pub HasRoomWhere : (Queue → Bool) → ℕ → Tables → List Row → Type 0
HasRoomWhere test more t rows = HavePlacesWhere test more t.queues t.entries (rooms_of rows)

-- the rows of the queues that jobs of this home may come to have room for so many more
abbrev pub HasRoomFor : List ℕ → ℕ → Tables → List Row → Type 0
HasRoomFor home more t rows = HasRoomWhere (is_one_of home (targets_of t.queues home)) more t rows

-- where the queue has this name or is one of these targets
abbrev pub HavePlaces : List ℕ → List (List ℕ) → ℕ → Tables → Type 0
HavePlaces name targets more t = HavePlacesWhere (is_one_of name targets) more t.queues t.entries t.rooms

-- where jobs of this home may come to the queue
abbrev pub HavePlacesFor : List ℕ → ℕ → Tables → Type 0
HavePlacesFor home more t = HavePlaces home (targets_of t.queues home) more t

-- There is room for the queue, and for the jobs that have it as their home already in the row of each queue that it names. Where no
-- queue has its name, there is a row for it.
pub record CanPut (q : Queue) (t : Tables) : Type 0 where
  pub room : 0 < t.spare_queues
  pub places : HavePlaces q.name q.targets (count_by (is_home q.name) t.entries) t
  pub row : queue_named q.name t.queues ≡ None → reach t.queues t.entries q + count_by (is_home q.name) t.entries ≤ slice_index_or t.rooms (length t.queues) 0

-- the number is at most this, where that is known
abbrev pub IsAtMost : ℕ → Option ℕ → Type 0
IsAtMost n most = IfSome most (λ m. n ≤ m)

-- at most so many jobs may come to each queue, where that is known
abbrev pub AreBounds : List Queue → List Entry → List (Option ℕ) → Type 0
AreBounds queues entries bounds = (place : ℕ) (q : Queue) → place < length queues → IsAtMost (reach queues entries (slice_index_or queues place q)) (slice_index_or bounds place None)

-- one job more may come to each queue that passes a test
abbrev pub IsRaisedWhere : (Queue → Bool) → List Queue → List (Option ℕ) → List (Option ℕ) → Type 0
IsRaisedWhere test queues old new = (place n : ℕ) (q : Queue) → place < length queues → IsAtMost n (slice_index_or old place None)
    → IsAtMost (n + (if test (slice_index_or queues place q) then 1 else 0)) (slice_index_or new place None)

-- the queue has this name
abbrev pub is_named : List ℕ → Queue → Bool
is_named name q = bytes_eq name q.name

-- the queue is among these targets
abbrev pub is_target : List (List ℕ) → Queue → Bool
is_target targets q = list_any (λ target. bytes_eq target q.name) targets

-- where the entry gets another home there is room for it in the rows of the queues that it may come to
abbrev pub HasPlacesIfMoved : Entry → Tables → Type 0
HasPlacesIfMoved entry t = IfSome (entry_numbered entry.number t.entries) (λ old. bytes_eq old.home entry.home ≡ false → HavePlacesFor entry.home 1 t)

-- the room of a row that has no queue yet is enough for this one, and for so many more jobs
abbrev pub HasComingRoom : Queue → ℕ → Tables → Type 0
HasComingRoom q more t = reach t.queues t.entries q + more ≤ slice_index_or t.rooms (length t.queues) 0

-- the rows of the queues that are there have the room that they had
abbrev pub KeepsRooms : Tables → Tables → Type 0
KeepsRooms old new = (place : ℕ) → place < length old.queues → slice_index_or new.rooms place 0 ≡ slice_index_or old.rooms place 0

-- no queue of its name needs less than this one
abbrev pub NeedsLeast : (Queue → ℕ) → Queue → Type 0
NeedsLeast needs q = (p : Queue) → p.name ≡ q.name → needs q ≤ needs p

-- where no queue has the name, the first row that has no queue has room for what the queue needs
abbrev pub HasRowIfNew : (Queue → ℕ) → Queue → List ℕ → List Queue → List ℕ → Type 0
HasRowIfNew needs q name queues rooms = queue_named name queues ≡ None → needs q ≤ slice_index_or rooms (length queues) 0
