-- Files that hold a world: what they are to the definitions of histories, and how much room they take.
use Rattle.std.proofs.Common.{◌≡◌, ◌⊎◌, inl, inr, ⊎_elim, ℕ, ◌+◌, ◌≤◌, Bool, true, false, List, [], ◌∷◌, ◌++◌, map, refl, sym, ◌∙◌, ap, subst, Option, None, Some, ◌&&◌, option_to_list, sum_by}
use Rattle.std.proofs.lemmas.List.Sums.{sum_by-cons}
use Rattle.qm_disk.specs.Disk.{CrashState, Meaning, IsLeft}
use Rattle.qm_disk.proofs.Moments.{started, looks_not}
use Rattle.qm_history.specs.Common.{size_of, Input, Record, System, system_of, record_text, IsAccepted, Grow, MasterState, master_text, Hold, HoldRecords, CanCome}
use Rattle.qm_store.specs.Recorded.{Recorded, Holds}
use Rattle.qm_store.proofs.Contents.{one_content, held_records, held_bodies}
use Rattle.qm_restore.specs.QueueFile.{IsSiteFile}
use Rattle.qm_history.specs.declared.event.Event.{Event}
use Rattle.qm_history.specs.declared.world.Role.{Role}
use Rattle.qm_history.specs.declared.world.World.{World}
use Rattle.qm_history.specs.Contents.{HoldWorld, IsEpochOf, Keeps, LeavesFiles, is_without_write}
use Rattle.qm_history.specs.Room.{Room, HasRoom, room_after, room_in, taken}
use Rattle.qm_chest.specs.declared.place.Place.{Place}
use Rattle.qm_chest.specs.Holding.{IsFound, MayHold, SomeHold, AllHold}
use Rattle.qm_chest.specs.Parts.{HoldsWithin, HoldSome, Part}

-- ---- how far files reach

-- how far the files of a database reach
abbrev pub room_of : Recorded → Room
room_of r = record { master = size_of r.master; live = size_of r.bodies; file = r.says.live; cap = r.says.cap }

sizes : {X : Type 0} (text : X → List ℕ) (xs : List X) → sum_by (λ (x : X). taken (text x)) xs ≡ size_of (map text xs)
sizes text [] = refl
sizes text (x ∷ xs) =
    let more = sizes text xs in
    sum_by-cons (λ x. taken (text x)) x xs ∙ ap (λ n. taken (text x) + n) more

pub room_is : (files : CrashState) (says : MasterState) (records : List Record) (h : HoldRecords files says records) (r : Recorded) → Holds files r
    → room_in says h.masters records ≡ room_of r
room_is files says records h r holds =
    let same : ◌≡◌ {A = Recorded} (record { master = map master_text h.masters; says = says; bodies = map record_text records }) r =
    one_content files (record { master = map master_text h.masters; says = says; bodies = map record_text records }) r (held_bodies files says records h) holds in
    (λ i. record { master = sizes master_text h.masters i; live = sizes record_text records i; file = says.live; cap = says.cap }) ∙ ap room_of same

-- where files hold this before and that behind, they grow as these do
pub grows : {D : Type 0} (m : Meaning D) (before after : CrashState) (r s : Recorded) (grown : Room → Room) → Holds before r → Holds after s → room_of s ≡ grown (room_of r)
    → Grow m before after grown
grows m before after r s grown was is same said says old new hold_was hold_is =
    room_is after says new hold_is s is ∙ same ∙ ap grown (sym (room_is before said old hold_was r was))

-- ---- files of a world

pub left_of : (doubt : Option Record) (place : Option Place) (before log : List Record) (r : Recorded) → IsFound doubt place before log r → (log ≡ before) ⊎ (log ≡ before ++ option_to_list doubt)
left_of None None before log r same = inl same
left_of None (Some place) before log r found = absurd found
left_of (Some d) None before log r found = absurd found
left_of (Some d) (Some place) before log r found = ⊎_elim (λ no. inl no.1) (λ yes. inr yes.1) found.1

-- the bodies of a site's files are records, which are accepted
abbrev pub SiteFilesAreAccepted : Type 0
SiteFilesAreAccepted = (bodies : List (List ℕ)) (s : System) → IsSiteFile bodies s → (log : List Record) × (bodies ≡ map record_text log) × IsAccepted log × (system_of log ≡ s)

module _ (accepted : SiteFilesAreAccepted) where
  abbrev pub holds_log : (files : CrashState) (r : Recorded) (log : List Record) → Holds files r → IsSiteFile r.bodies (system_of log) → Hold files log
  holds_log files r log holds site =
      let found = accepted r.bodies (system_of log) site in
      record { says = r.says; records = found.0; hold = held_records files r found.0 holds found.1 found.2; same = found.3 }

  pub holds_some : (files : CrashState) (r : Recorded) (s : System) → Holds files r → IsSiteFile r.bodies s → HoldSome files
  holds_some files r s holds site =
      let found = accepted r.bodies s site in
      record { says = r.says; records = found.0; holds = held_records files r found.0 holds found.1 found.2 }

  pub holds_world : (cap : ℕ) (w : World) (place : Option Place) (files : CrashState) (r : Recorded) → Holds files r → MayHold cap w place r → IsEpochOf w w.manager r.says.epoch
      → HoldWorld files w
  holds_world cap w place files r holds may epoch = record {
    log = may.log;
    left = left_of w.doubt place w.log may.log r may.found;
    holds = holds_log files r may.log holds may.site;
    epoch = epoch;
    recorded = may.recorded;
  }

-- while no manager is up, an epoch that isn't above the greatest is one of the world
pub epoch_of_none : (w : World) (epoch : ℕ) (manager : Option Role) → manager ≡ None → epoch ≤ w.greatest → IsEpochOf w manager epoch
epoch_of_none w epoch None none low = low
epoch_of_none w epoch (Some role) none low = cc

module _ (accepted : SiteFilesAreAccepted) {D : Type 0} (m : Meaning D) (cap : ℕ) (w : World) (place : Option Place) (none : w.manager ≡ None) where
  some_world : (files : CrashState) → SomeHold (MayHold cap w place) files → HoldWorld files w
  some_world files some = holds_world accepted cap w place files some.recorded some.holds some.is (epoch_of_none w some.recorded.says.epoch w.manager none some.is.epoch)

module _ (accepted : SiteFilesAreAccepted) {D : Type 0} (m : Meaning D) (cap : ℕ) (w : World) (place : Option Place) (disk : D) (none : w.manager ≡ None) where
  pub world_kept : AllHold m (MayHold cap w place) disk → Keeps m w disk
  world_kept holds = record {
    reads = some_world accepted m cap w place none (m.seen disk) holds.reads;
    crash = λ crashed left. some_world accepted m cap w place none crashed (holds.crash crashed left);
  }

-- what holds a world holds what a crash within any events may leave
pub world_within : (w : World) (events : List Event) (files : CrashState) → HoldWorld files w → HoldsWithin w events files
world_within w events files h = record { log = h.log; left = ⊎_elim (λ a. inl a) (λ b. inr (inl b)) h.left; holds = h.holds; recorded = h.recorded }

-- ---- an event that writes nothing

module _ {D : Type 0} (m : Meaning D) (disk : D) (only_now : (crashed : CrashState) → m.left_since disk (m.moment disk) crashed → IsLeft (m.may_leave disk) crashed) where
  looks : (quiet : Bool) → LeavesFiles m quiet disk disk
  looks true = looks_not m disk only_now
  looks false = tt

  pub still : (behind : Option Bool) (w : World) (reading : ℕ) (asked : Input) (failed : Bool) (e : Event) (r : Recorded) → Holds (m.seen disk) r
      → ((crashed : CrashState) → IsLeft (m.may_leave disk) crashed → HoldWorld crashed w)
      → CanCome w e → ((room : Room) → room_after w room e ≡ room) → HasRoom behind w (room_of r) reading asked e []
      → Part m behind w reading asked failed (e ∷ []) disk disk
  still behind w reading asked failed e r holds crash comes stays has = record {
    comes = (comes, tt);
    moments = started m disk (HoldsWithin w (e ∷ [])) (λ crashed since. world_within w (e ∷ []) crashed (crash crashed (only_now crashed since)));
    files = looks (is_without_write e && true);
    reaches = λ quiet. grows m (m.seen disk) (m.seen disk) r r (λ room. room_after w room e) holds holds (sym (stays (room_of r)));
    room = λ says records h. (subst (λ (room : Room). HasRoom behind w room reading asked e []) (sym (room_is (m.seen disk) says records h r holds)) has, tt);
  }
