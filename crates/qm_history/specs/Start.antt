-- The world with which a program begins on its files, and where files that aren't a site's are wrong.
-- OpenVMS System Manager's Manual, Managing the Queue Manager and Queue Database, on starting the queue manager and on the
-- files of the queue database.
use Rattle.std.specs.Prelude.{◌≡◌, ◌≢◌, ◌⊎◌, ◌<◌, ◌≤◌, ◌+◌, ℕ, true, List, [], ◌∷◌, ◌++◌, length, map, replicate, take, Option, None, Some}
use Rattle.std.specs.Ordering.{nat_cmp}
use Rattle.qm_model.specs.Common.{Record, Body, System, IsInOrder, IsConsistent, name_cmp, file_name_cmp, system_of, row}
use Rattle.qm_kinds.specs.declared.record.Body.TheVariants as body
use Rattle.qm_glog.specs.Records.{IsDamaged, IsLog, size_of}
use Rattle.qm_record.specs.Spelling.{HasSpelling, record_text}
use Rattle.qm_history.specs.declared.world.World.{World}
use Rattle.qm_history.specs.Accepted.{IsAccepted, IsNext, AreNext}
use Rattle.qm_history.specs.Master.{MasterRecord, MasterState, master_text, master_of, no_master, AreMaster, AllStandInMaster, CanStandInMaster}

-- a program begins: each node is live and holds no epoch, and the epochs go on behind the greatest recorded one
abbrev pub first_world : List Record → ℕ → World
first_world log epoch = record {
  log = log;
  doubt = None;
  manager = None;
  greatest = epoch;
  live = replicate (length (system_of log).nodes) true;
  held = replicate (length (system_of log).nodes) 0;
}

-- the byte with which a file begins, which is 0 where it is empty
abbrev pub first_byte : List ℕ → ℕ
first_byte [] = 0
first_byte (byte ∷ bytes) = byte

-- ---- rows of an image

-- the order of kinds in an image
abbrev pub rank : Body → ℕ
rank (body.Head nodes may next_entry next_run last) = 0
rank (body.Form f) = 1
rank (body.Characteristic c) = 2
rank (body.File f) = 3
rank (body.Queue q) = 4
rank (body.Entry e) = 5
rank (body.Ask asked) = 6

-- the row stands in the order of listings behind those of its kind, and a head names a node
abbrev pub IsInItsOrder : System → Body → Type 0
IsInItsOrder s (body.Head nodes may next_entry next_run last) = 0 < length nodes
IsInItsOrder s (body.Form f) = IsInOrder nat_cmp (λ x. x.number) (s.forms ++ f ∷ [])
IsInItsOrder s (body.Characteristic c) = IsInOrder nat_cmp (λ x. x.number) (s.characteristics ++ c ∷ [])
IsInItsOrder s (body.File f) = IsInOrder file_name_cmp (λ x. x.name) (s.files ++ f ∷ [])
IsInItsOrder s (body.Queue q) = IsInOrder name_cmp (λ x. x.name) (s.queues ++ q ∷ [])
IsInItsOrder s (body.Entry e) = IsInOrder nat_cmp (λ x. x.number) (s.entries ++ e ∷ [])
IsInItsOrder s (body.Ask asked) = ⊥

-- the first row is a head, and the only one; kinds stand in their order
abbrev pub KindFollows : Option ℕ → Body → Type 0
KindFollows None b = rank b ≡ 0
KindFollows (Some before) b = (before ≤ rank b) × (0 < rank b)

-- ---- files that hold a log

-- the files of a site hold these records, under a master that says this
pub record HoldRecords (files : ℕ → List ℕ) (says : MasterState) (records : List Record) : Type 0 where
  pub masters : List MasterRecord
  pub master_is_log : IsLog (files 0) (map master_text masters)
  pub are_master : AreMaster masters
  pub says_is : says ≡ master_of no_master masters
  pub live_is_log : IsLog (files says.live) (map record_text records)
  pub accepted : IsAccepted records

-- they hold a log: its records, or others that stand for the same system
pub record Hold (files : ℕ → List ℕ) (log : List Record) : Type 0 where
  pub says : MasterState
  pub records : List Record
  pub hold : HoldRecords files says records
  pub same : system_of records ≡ system_of log

-- the world with which a program begins on these files
pub record Starts (files : ℕ → List ℕ) (w : World) : Type 0 where
  pub says : MasterState
  pub records : List Record
  pub hold : HoldRecords files says records
  pub begins : w ≡ first_world records says.epoch

-- ---- the first place that is wrong

-- the place of a record's gate in a file of these bodies
abbrev pub place_of : List (List ℕ) → ℕ → ℕ
place_of bodies index = size_of (take index bodies)

-- the master doesn't begin with a record
abbrev pub IsUnformatted : (ℕ → List ℕ) → ℕ → Type 0
IsUnformatted files byte = (byte ≡ first_byte (files 0)) × (byte ≢ 1)

-- this body of the master is the first one that can't stand there
pub record IsFirstBadMaster (bodies : List (List ℕ)) (index : ℕ) : Type 0 where
  pub before : List MasterRecord
  pub bad : List ℕ
  pub behind : List (List ℕ)
  pub whole : bodies ≡ map master_text before ++ bad ∷ behind
  pub index_is : index ≡ length before
  pub each : AllStandInMaster [] before
  pub none : (r : MasterRecord) → master_text r ≡ bad → CanStandInMaster before r → ⊥

-- the record is spelled as a row that can stand behind these
pub record IsNextRow (last : Option ℕ) (s : System) (r : Record) : Type 0 where
  pub spelled : HasSpelling r
  pub is_row : r ≡ row r.body
  pub kind : KindFollows last r.body
  pub order : IsInItsOrder s r.body

-- each row can stand behind those before it, which come first
abbrev pub AreRows : Option ℕ → List Record → List Record → Type 0
AreRows last before [] = Unit {0}
AreRows last before (r ∷ rows) = IsNextRow last (system_of before) r × AreRows (Some (rank r.body)) (before ++ r ∷ []) rows

-- the kind of the last row
abbrev pub last_rank : Option ℕ → List Record → Option ℕ
last_rank before [] = before
last_rank before (r ∷ rows) = last_rank (Some (rank r.body)) rows

-- the body spells a request
abbrev pub SpellsRequest : List ℕ → Type 0
SpellsRequest text = (r : Record) × HasSpelling r × (record_text r ≡ text) × (rank r.body ≡ 6)

-- an image ends before a request, and where the log ends
abbrev pub IsBehindImage : List (List ℕ) → Type 0
IsBehindImage [] = Unit {0}
IsBehindImage (text ∷ behind) = SpellsRequest text

-- no row that can come next is spelled so, and no request
abbrev pub IsNoRow : List Record → List ℕ → Type 0
IsNoRow rows text =
    ((r : Record) → record_text r ≡ text → IsNextRow (last_rank None rows) (system_of rows) r → ⊥) × (SpellsRequest text → ⊥)

-- rows can stand there, and then something that is no row
pub record HasBadRow (bodies : List (List ℕ)) (index : ℕ) : Type 0 where
  pub rows : List Record
  pub bad : List ℕ
  pub behind : List (List ℕ)
  pub whole : bodies ≡ map record_text rows ++ bad ∷ behind
  pub each : AreRows None [] rows
  pub none : IsNoRow rows bad
  pub index_is : index ≡ length rows

-- rows can stand there, but make no consistent system; that shows behind them
pub record HasBadImage (bodies : List (List ℕ)) (index : ℕ) : Type 0 where
  pub rows : List Record
  pub behind : List (List ℕ)
  pub whole : bodies ≡ map record_text rows ++ behind
  pub each : AreRows None [] rows
  pub ends : IsBehindImage behind
  pub not_consistent : IsConsistent (system_of rows) → ⊥
  pub index_is : index ≡ length rows

-- behind the image of a consistent system stand requests, and then something that isn't the next one
pub record HasBadRequest (bodies : List (List ℕ)) (index : ℕ) : Type 0 where
  pub rows : List Record
  pub requests : List Record
  pub bad : List ℕ
  pub behind : List (List ℕ)
  pub whole : bodies ≡ map record_text rows ++ map record_text requests ++ bad ∷ behind
  pub each : AreRows None [] rows
  pub consistent : IsConsistent (system_of rows)
  pub next : AreNext (system_of rows) requests
  pub none : (r : Record) → record_text r ≡ bad → IsNext (system_of (rows ++ requests)) r → ⊥
  pub some : (requests ≡ []) → SpellsRequest bad
  pub index_is : index ≡ length rows + length requests

-- this record is the first that can't stand in a queue file
abbrev pub IsFirstBad : List (List ℕ) → ℕ → Type 0
IsFirstBad bodies index = HasBadRow bodies index ⊎ HasBadImage bodies index ⊎ HasBadRequest bodies index

-- the master is broken off at this place, or this is the gate of its first record that can't stand there
abbrev pub IsMasterDamaged : List ℕ → ℕ → Type 0
IsMasterDamaged file place =
    (first_byte file ≡ 1) × (IsDamaged file place ⊎ ((bodies : List (List ℕ)) × (index : ℕ) × IsLog file bodies × IsFirstBadMaster bodies index × (place ≡ place_of bodies index)))

-- the same of a queue file, which is damaged at its beginning where it is empty
abbrev pub IsLiveDamaged : List ℕ → ℕ → Type 0
IsLiveDamaged file place =
    IsDamaged file place ⊎ ((bodies : List (List ℕ)) × (index : ℕ) × IsLog file bodies × IsFirstBad bodies index × (place ≡ place_of bodies index))

-- the master says which file is live, and that one is damaged; the other one is never judged
pub record IsLiveDamagedAt (files : ℕ → List ℕ) (file place : ℕ) : Type 0 where
  pub masters : List MasterRecord
  pub master_is_log : IsLog (files 0) (map master_text masters)
  pub are_master : AreMaster masters
  pub file_is : file ≡ (master_of no_master masters).live
  pub damaged : IsLiveDamaged (files file) place

-- the first place that is wrong: the master, which has the number 0, is asked before the live file
abbrev pub AreDamaged : (ℕ → List ℕ) → ℕ → ℕ → Type 0
AreDamaged files file place = ((file ≡ 0) × IsMasterDamaged (files 0) place) ⊎ IsLiveDamagedAt files file place
