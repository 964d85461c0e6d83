-- Files that couldn't be read before a takeover, or may not be: what the call leaves.
use Rattle.std.proofs.Common.{◌≡◌, inl, ℕ, ◌+◌, ◌^◌, ◌<◌, ◌≤◌, Bool, true, false, List, [], ◌∷◌, length, refl, sym, ◌∙◌, ap, subst, arith, Option, None, slice_get, unwrap_or, IsTrue}
use Rattle.qm_disk.specs.Disk.{Meaning, IsLeft, OnlyLooks, TellsFaults}
use Rattle.qm_disk.proofs.Moments.{weaker}
use Rattle.qm_history.specs.Common.{IsLog, OpenFault, Input, input_of, is_journal, after_event}
use Rattle.qm_glog.specs.declared.fault.OpenFault.TheVariants as opening
use Rattle.qm_store.proofs.Masters.{says_lawful}
use Rattle.qm_store.specs.Database.{disk_of as closed_disk}
use Rattle.qm_store.specs.Recorded.{Recorded, Holds, epoch_behind}
use Rattle.qm_store.specs.declared.closed.Closed.{Closed}
use Rattle.qm_store.proofs.Contents.{one_content}
use Rattle.qm_store.proofs.Moving.{live_within}
use Rattle.qm_acting.specs.Spare.{KeepsSpare}
use Rattle.qm_acting.specs.declared.files.Files.TheVariants as site_files
use Rattle.qm_history.specs.declared.call.Answer.TheVariants as answer
use Rattle.qm_history.specs.declared.call.Call.{Call}
use Rattle.qm_history.specs.declared.event.Event.{Event}
use Rattle.qm_history.specs.declared.event.Event.TheVariants as event
use Rattle.qm_history.specs.declared.world.World.{World}
use Rattle.qm_history.specs.Room.{Unless, epoch_need, room_in}
use Rattle.qm_chest.specs.declared.members.Members.{Members}
use Rattle.qm_chest.specs.declared.work.Work.TheVariants.{Down}
use Rattle.qm_chest.specs.declared.place.Place.{Place}
use Rattle.qm_chest.specs.declared.serving.Served.{Served}
use Rattle.qm_chest.specs.At.{CanBeAskedFor}
use Rattle.qm_chest.specs.Members.{AreMembersOf}
use Rattle.qm_chest.specs.Work.{IsDown}
use Rattle.qm_chest.specs.Duties.{ShowsNodeDuties}
use Rattle.qm_chest.specs.Holding.{MayHold, AllHold}
use Rattle.qm_chest.specs.Parts.{HoldsWithin, Part}
use Rattle.qm_chest.specs.Taking.{AreEarly, IsTaking, LeavesFrom, failed, unread_answer}
use Rattle.qm_chest.specs.Whole.{IsServedAs, IsToldBy, both}
use Rattle.qm_chest.proofs.Failures as failures
use Rattle.qm_chest.proofs.Holding.{SiteFilesAreAccepted}
use Rattle.qm_chest.proofs.Outcomes.{failed_leaves, served_as}
use Rattle.qm_chest.proofs.Reading.{some_within}
use Rattle.qm_chest.proofs.Trying.{same_number}

-- ---- whatever the disks tell

unread_faults : {D : Type 0} (m : Meaning D) (before after : D) (live : Bool) (fault : OpenFault) → TellsFaults m before after (fault ≡ opening.Disk) → TellsFaults m before after (is_journal (unread_answer live fault) ≡ true)
unread_faults m before after live opening.Disk tells = record { fault = λ is. tells.fault refl; quiet = λ not. absurd (not refl) }
unread_faults m before after live (opening.Unformatted byte) tells = record { fault = λ is. cc; quiet = λ not. tells.quiet (λ same. cc) }
unread_faults m before after live (opening.Damaged file place) tells = record { fault = λ is. cc; quiet = λ not. tells.quiet (λ same. cc) }
unread_faults m before after live opening.NoMemory tells = record { fault = λ is. cc; quiet = λ not. tells.quiet (λ same. cc) }

unread_told : (node tried : ℕ) (live : Bool) (fault : OpenFault) → IsToldBy (event.TakeDoubt node tried None ∷ []) (unread_answer live fault)
unread_told node tried live opening.Disk = ((λ is. cc), (λ h. refl))
unread_told node tried live (opening.Unformatted byte) = ((λ is. cc), (λ h. cc))
unread_told node tried live (opening.Damaged file place) = ((λ is. cc), (λ h. cc))
unread_told node tried live opening.NoMemory = ((λ is. cc), (λ h. cc))

unread_duties : (live : Bool) (fault : OpenFault) → ShowsNodeDuties (unread_answer live fault)
unread_duties live opening.Disk = tt
unread_duties live (opening.Unformatted byte) = tt
unread_duties live (opening.Damaged file place) = tt
unread_duties live opening.NoMemory = tt

pub unread_leaves : {D : Type 0} (m : Meaning D) (members : Members) (disk : D) (closed : Closed D) (place : Option Place) (node : ℕ) (live : Bool) (fault : OpenFault) (s : Served D)
    → TellsFaults m disk (closed_disk closed) (fault ≡ opening.Disk) → (IsTrue m.tells → KeepsSpare m disk (closed_disk closed)) → s ≡ failed closed place node members.greatest None None (unread_answer live fault) → LeavesFrom m members disk (members.greatest + 1) members s
unread_leaves m members disk closed place node live fault s tells spare is =
    failed_leaves m members members disk (members.greatest + 1) closed place node members.greatest None None (unread_answer live fault) s refl (omega arith) (unread_faults m disk (closed_disk closed) live fault tells)
    spare (unread_told node members.greatest live fault) (unread_duties live fault) is

-- a disk that didn't fail, at a file that isn't taken
pub damaged_faults : {D : Type 0} (m : Meaning D) (before after : D) (file place : ℕ) → m.faults after ≡ m.faults before → TellsFaults m before after (opening.Damaged file place ≡ opening.Disk)
damaged_faults m before after file place same = record { fault = λ is. cc; quiet = λ not. same }

-- ---- files that are only looked at hold what they held

held_after : {D : Type 0} (m : Meaning D) (old new : D) (r : Recorded) → Holds (m.seen old) r → OnlyLooks m old new → Holds (m.seen new) r
held_after m old new r holds looks = record {
  master_is_log = subst (λ (f : List ℕ). IsLog f r.master) (sym (looks.reads 0 (omega arith))) holds.master_is_log;
  is_master = holds.is_master;
  live_is_log = subst (λ (f : List ℕ). IsLog f r.bodies) (sym (looks.reads r.says.live (live_within r.says.live (says_lawful r.master r.says holds.is_master).live))) holds.live_is_log;
}

module _ (accepted : SiteFilesAreAccepted) {D : Type 0} (m : Meaning D) (cap : ℕ) (w : World) (asked : Call) (members : Members) (node now : ℕ) (what : Input) (taking : IsTaking members node what cap w asked)
    (there : node < length members.names.items) (can : CanBeAskedFor node what) (place : Option Place) (old : D) (all : AllHold m (MayHold cap w place) old) (closed : Closed D)
    (looks : OnlyLooks m old (closed_disk closed))
  where
    abbrev tried : ℕ
    tried = members.greatest

    tried_is : tried ≡ w.greatest
    tried_is = taking.members.greatest

    abbrev e : Event
    e = event.TakeDoubt node members.greatest None

    abbrev v : World
    v = after_event w (event.TakeDoubt node members.greatest None)

    may_still : (r : Recorded) → MayHold cap w place r → MayHold cap v place r
    may_still r may =
        let low = may.epoch in
        record { log = may.log; found = may.found; site = may.site; cap_is = may.cap_is; fits = may.fits; epoch = omega (arith, low, tried_is); recorded = may.recorded }

    down : IsDown m cap v (site_files.Closed closed) place
    down = record {
      none = refl;
      holds = record {
        reads = record { recorded = all.reads.recorded; holds = held_after m old (closed_disk closed) all.reads.recorded all.reads.holds looks; is = may_still all.reads.recorded all.reads.is };
        crash = λ crashed left.
            let some = all.crash crashed (λ f le. looks.no_more f (crashed f) le (left f le)) in
            record { recorded = some.recorded; holds = some.holds; is = may_still some.recorded some.is };
      };
    }

    part : Part m None w now (input_of asked) true (e ∷ []) old (closed_disk closed)
    part = record {
      comes = ((inl tried_is, λ some. cc), tt);
      moments = weaker m old (closed_disk closed) (IsLeft (m.may_leave old)) (HoldsWithin w (e ∷ [])) looks.any_moment (λ crashed left. some_within accepted cap w place (e ∷ []) crashed (all.crash crashed left));
      files = tt;
      reaches = λ quiet. cc;
      room = λ says records h. (subst (λ (b : Bool). Unless b (epoch_need (room_in says h.masters records) tried node ≤ 1048576)) (sym (same_number tried w.greatest tried_is)) tt, tt);
    }

    members_still : AreMembersOf v members
    members_still = record { names = taking.members.names; live = taking.members.live; held = taking.members.held; greatest = refl }

    rises : v.greatest ≤ w.greatest + 1
    rises = omega (arith, tried_is)

    pub unread_served : (fault : OpenFault) (live : Bool) (s : Served D) → live ≡ unwrap_or (slice_get members.live.items node) false → ((file at : ℕ) → fault ≡ opening.Damaged file at → ⊥) → ((byte : ℕ) → fault ≡ opening.Unformatted byte → ⊥)
        → s ≡ failed closed place node members.greatest None None (unread_answer live fault)
        → IsServedAs m cap w node now asked old (record { members = members; work = s.work }) (both s.first s.second) s.answer
    unread_served opening.Disk live s live_is undamaged formatted is =
        served_as m cap w node now asked old members s (failed closed place node members.greatest None None (answer.Journal None live)) is
        (failures.put_plain m cap w asked members node now what taking there can e [] true members old (Down (site_files.Closed closed) place) part (λ said. cc) refl members_still down rises (answer.Journal None live) refl
        (ap (λ (b : Bool). answer.Journal None b) (live_is ∙ ap (λ (l : List Bool). unwrap_or (slice_get l node) false) taking.members.live))
        (failures.served m cap w asked members node now what taking there can (e ∷ []) (refl, λ later. absurd (omega (arith, later, tried_is)))))
    unread_served opening.NoMemory live s live_is undamaged formatted is =
        served_as m cap w node now asked old members s (failed closed place node members.greatest None None (answer.NoMemory None)) is
        (failures.put_alone m cap w asked members node now what taking there can e [] true members old (Down (site_files.Closed closed) place) part (λ said. cc) refl members_still down rises None refl refl
        (failures.alone m cap w asked members node now what taking there can (e ∷ []) (refl, λ later. absurd (omega (arith, later, tried_is)))))
    unread_served (opening.Damaged file at) live s live_is undamaged formatted is = absurd (undamaged file at refl)
    unread_served (opening.Unformatted byte) live s live_is undamaged formatted is = absurd (formatted byte refl)

-- ---- epochs

pub early_of : {D : Type 0} (m : Meaning D) (members : Members) (disk : D) (place : Option Place) (r : Recorded) → AreEarly m members disk place → Holds (m.seen disk) r → epoch_behind r members.greatest < 2 ^ 62
early_of m members disk place r are holds =
    let same : are.holds.reads.recorded ≡ r = one_content (m.seen disk) are.holds.reads.recorded r are.holds.reads.holds holds in
    let low : r.says.epoch ≤ are.w.greatest = subst (λ (x : Recorded). x.says.epoch ≤ are.w.greatest) same are.holds.reads.is.epoch in
    let is = are.greatest in
    let early = are.early in
    omega (arith, low, is, early)
