-- A chest that was opened on a site's files.
use Rattle.std.proofs.Common.{◌≡◌, ◌≢◌, ◌⊎◌, inl, inr, ℕ, ◌^◌, ◌<◌, ◌≤◌, true, false, IsTrue, List, [], length, map, replicate, AllPairs, sym, ◌∙◌, ap, subst, arith, Some, Result, Ok, Err, IfOk, IfErr, OnOk, slice_get}
use Rattle.std.proofs.lemmas.List.{get_or-map, get_or-replicate, length-map}
use Rattle.std.proofs.lemmas.Bool.{cases_lt}
use Rattle.std.proofs.lemmas.Option.{get_or_from_slice_get, slice_get_within, unwrap_or-slice_get}
use Rattle.qm_acting.specs.Reading.{IsRestoreFault}
use Rattle.qm_chest.specs.At.{chest_disk}
use Rattle.qm_chest.specs.Checking.{Begins, BeginsWorld, IsChecked, checked_disk, checked_standing}
use Rattle.qm_chest.specs.Noting.{StandsSince, StartsEarly}
use Rattle.qm_chest.specs.Opening.{AreNames, IsFresh, IsOpened, disk_opened}
use Rattle.qm_chest.specs.declared.checked.Checked.{Checked}
use Rattle.qm_chest.specs.declared.chest.Chest.{Chest}
use Rattle.qm_store.proofs.Contents.{held_bodies, one_content}
use Rattle.qm_store.proofs.Faults.{held_is_open}
use Rattle.qm_store.specs.Recorded.{Holds, Recorded}
use Rattle.qm_history.specs.Common.{CrashState, Meaning, OnlyLooks, TellsFaults, IsLog, OpenFault, cluster, Starts, is_live, system_in, NODES_LIMIT, Node, System, AreNodes, IsConsistent, system_of, record_text}
use Rattle.qm_glog.specs.declared.fault.OpenFault.TheVariants as fault
use Rattle.qm_history.specs.Master.{IsQueueFile, master_text}
use Rattle.qm_history.specs.declared.world.World.{World}
use Rattle.qm_store.proofs.Masters.{says_lawful}
use Rattle.qm_restore.specs.QueueFile.{IsSiteFile}

-- ---- names

places_by : (names : List (List ℕ)) → AllPairs (λ (a b : List ℕ). a ≢ b) names → (i j : ℕ) (name : List ℕ) → slice_get names i ≡ Some name → slice_get names j ≡ Some name
    → (i < j) ⊎ (j ≤ i) → (j < i) ⊎ (i ≤ j) → i ≡ j
places_by names apart i j name first second (inl less) other =
    absurd (apart i j name less (slice_get_within names j name second) (get_or_from_slice_get names i name name first ∙ sym (get_or_from_slice_get names j name name second)))
places_by names apart i j name first second (inr from) (inl less) =
    absurd (apart j i name less (slice_get_within names i name first) (get_or_from_slice_get names j name name second ∙ sym (get_or_from_slice_get names i name name first)))
places_by names apart i j name first second (inr from) (inr to) = omega (arith, from, to)

distinct_places : (names : List (List ℕ)) → AllPairs (λ (a b : List ℕ). a ≢ b) names → (i j : ℕ) (name : List ℕ) → slice_get names i ≡ Some name → slice_get names j ≡ Some name → i ≡ j
distinct_places names apart i j name first second = places_by names apart i j name first second (cases_lt i j) (cases_lt j i)

names_apart : (nodes : List Node) → AllPairs (λ (a b : Node). a.name ≢ b.name) nodes → AllPairs (λ (a b : List ℕ). a ≢ b) (map (λ (n : Node). n.name) nodes)
names_apart nodes h i j d lt within same =
    let inside : j < length nodes = subst (λ (n : ℕ). j < n) (length-map nodes (λ (n : Node). n.name)) within in
    let none : Node = record { name = d; up = false } in
    h i j none lt inside
    (sym (get_or-map (λ (n : Node). n.name) nodes i none d (omega (arith, lt, inside))) ∙ same ∙ get_or-map (λ (n : Node). n.name) nodes j none d inside)

names_of_nodes : (nodes : List Node) → AreNodes nodes → AreNames (map (λ (n : Node). n.name) nodes)
names_of_nodes nodes are = record {
  few = subst (λ (n : ℕ). n ≤ NODES_LIMIT) (sym (length-map nodes (λ (n : Node). n.name))) are.few;
  distinct = distinct_places (map (λ (n : Node). n.name) nodes) (names_apart nodes are.distinct);
}

-- ---- the world in which a program begins

live_small : (file : ℕ) → IsQueueFile file → file ≤ 2
live_small file (inl one) = omega (arith, one)
live_small file (inr two) = omega (arith, two)

-- files that read the same begin the same world
pub starts_moved : (old new : CrashState) → ((f : ℕ) → f ≤ 2 → new f ≡ old f) → (w : World) → StartsEarly old w → StartsEarly new w
starts_moved old new same w early =
    let s = early.starts in
    let h = s.hold in
    let small : s.says.live ≤ 2 = live_small s.says.live (says_lawful (map master_text h.masters) s.says (held_bodies old s.says s.records h).is_master).live in
    record {
      starts = record {
        says = s.says;
        records = s.records;
        hold = record {
          masters = h.masters;
          master_is_log = subst (λ (file : List ℕ). IsLog file (map master_text h.masters)) (sym (same 0 (omega arith))) h.master_is_log;
          are_master = h.are_master;
          says_is = h.says_is;
          live_is_log = subst (λ (file : List ℕ). IsLog file (map record_text s.records)) (sym (same s.says.live small)) h.live_is_log;
          accepted = h.accepted;
        };
        begins = s.begins;
      };
      early = early.early;
    }

starts_early : (files : CrashState) (r : Recorded) → Holds files r → r.says.epoch < 2 ^ 61 → (w : World) → Starts files w → StartsEarly files w
starts_early files r holds epoch w s = record {
  starts = s;
  early =
      subst (λ (q : Recorded). q.says.epoch < 2 ^ 61)
      (sym (one_content files (record { master = map master_text s.hold.masters; says = s.says; bodies = map record_text s.records }) r (held_bodies files s.says s.records s.hold) holds)) epoch;
}

-- in it each node is live
pub first_live : (files : CrashState) (w : World) → Starts files w → (node : ℕ) → node < length (cluster (system_in w)) → is_live w node ≡ true
first_live files w s node within =
    let count : ℕ = length (system_of s.records).nodes in
    let log : w.log ≡ s.records = ap (λ (v : World). v.log) s.begins in
    let less : node < count =
    subst (λ (n : ℕ). node < n) (length-map (system_in w).nodes (λ (n : Node). n.name) ∙ ap (λ l. length (system_of l).nodes) log) within in
    ap (λ (v : World). is_live v node) s.begins ∙ unwrap_or-slice_get (replicate count true) node false ∙ get_or-replicate count node true false less

-- ---- an opening

abbrev BeginsSome : Type 0
BeginsSome = (files : CrashState) (r : Recorded) (s : System) → Holds files r → IsSiteFile r.bodies s → (w : World) × Starts files w

abbrev BeginsOne : Type 0
BeginsOne = (files : CrashState) (r : Recorded) (s : System) (w : World) → Holds files r → IsSiteFile r.bodies s → Starts files w → BeginsWorld r s w

abbrev Consistent : Type 0
Consistent = (bodies : List (List ℕ)) (s : System) → IsSiteFile bodies s → IsConsistent s

abbrev Without : {D : Type 0} → Meaning D → Type 0
Without {D} m =
    (checked : Checked D) (chest : Chest D) (w : World) → Begins m checked chest → m.faults (chest_disk chest) < 2 ^ 64 → (IsTrue m.tells → StartsEarly (m.seen (chest_disk chest)) w)
    → StandsSince m (checked_standing checked).recorded.says.cap w (chest_disk chest) chest 0 []

module _ (some : BeginsSome) (one : BeginsOne) (consistent : Consistent) {D : Type 0} (m : Meaning D) (without : Without m) (disk : D) (checked : Checked D) (is : IsChecked m checked)
    (found : IsTrue m.tells → Holds (m.seen disk) (checked_standing checked).recorded) (looks : OnlyLooks m disk (checked_disk checked)) (faults : TellsFaults m disk (checked_disk checked) ⊥)
  where
    module _ (early : (checked_standing checked).recorded.says.epoch < 2 ^ 61) (chest : Chest D) (begins : Begins m checked chest) where
      abbrev r : Recorded
      r = (checked_standing checked).recorded

      abbrev s : System
      s = (checked_standing checked).system

      looked : OnlyLooks m disk (chest_disk chest)
      looked = subst (OnlyLooks m disk) (sym begins.disk) looks

      still : m.faults (chest_disk chest) ≡ m.faults disk
      still = ap m.faults begins.disk ∙ faults.quiet (λ bad. bad)

      fresh : IsFresh m chest
      fresh = record {
        turns = begins.turns;
        serving = begins.serving;
        names = subst AreNames (sym begins.names) (names_of_nodes s.nodes (consistent r.bodies s is.restored.file).nodes);
      }

      opened : IsOpened m disk chest
      opened = record {
        looks = looked;
        quiet = still;
        fresh = fresh;
        begins = λ tells. let w = some (m.seen disk) r s (found tells) is.restored.file in (w.0, starts_early (m.seen disk) r (found tells) early w.0 w.1);
        names = λ tells w starts. ap cluster (one (m.seen disk) r s w (found tells) is.restored.file starts.starts).system ∙ sym begins.names;
        cap = r.says.cap;
        at = λ tells w starts. begins.at tells w (starts_moved (m.seen disk) (m.seen (checked_disk checked)) looks.reads w starts).starts;
        stands = λ tells w may.
            without checked chest w begins (subst (λ (n : ℕ). n < 2 ^ 64) (sym still) may.counted)
            (λ told. starts_moved (m.seen disk) (m.seen (chest_disk chest)) looked.reads w may.starts);
      }

    pub begun_opened : (result : Result (Chest D) (D × OpenFault)) → IfOk result (Begins m checked) → OnOk result ((checked_standing checked).recorded.says.epoch < 2 ^ 61)
        → IfOk result (IsOpened m disk)
    begun_opened (Ok chest) begins early = opened early chest begins
    begun_opened (Err failed) begins early = tt

    pub begun_fault : (result : Result (Chest D) (D × OpenFault)) → IfErr result (λ failed. (failed.0 ≡ checked_disk checked) × (failed.1 ≡ fault.NoMemory)) → IsTrue m.tells
        → IfErr result (λ failed. IsRestoreFault (m.seen disk) failed.1)
    begun_fault (Ok chest) back tells = tt
    begun_fault (Err failed) back tells = subst (IsRestoreFault (m.seen disk)) (sym back.1) (held_is_open (m.seen disk) (checked_standing checked).recorded (found tells))

-- the device behind it is the one that was read
pub begun_disk : {D : Type 0} (m : Meaning D) (checked : Checked D) (result : Result (Chest D) (D × OpenFault)) → IfOk result (Begins m checked)
    → IfErr result (λ failed. (failed.0 ≡ checked_disk checked) × (failed.1 ≡ fault.NoMemory)) → disk_opened result ≡ checked_disk checked
begun_disk m checked (Ok chest) begins back = begins.disk
begun_disk m checked (Err failed) begins back = back.0
