-- A node that goes, or comes up, where a manager elsewhere records it: its event, and then the record's.
use Rattle.std.proofs.Common.{◌≡◌, ◌≢◌, ℕ, zero, suc, ◌≤◌, Bool, true, false, cond, List, [], ◌∷◌, refl, ◌∙◌, ap, subst, arith, Option, None, Some, Result, Ok, Err, ◌==◌, slice_get, slice_set, unwrap_or}
use Rattle.std.specs.List.{AllByRecursion}
use Rattle.std.proofs.lemmas.Bool.Decides.{nat_tests}
use Rattle.qm_disk.specs.Disk.{CrashState, Meaning, IsLeft}
use Rattle.qm_history.specs.Common.{Input, Refusal, Request, system_of, Accepted, told_by, CanCome, after_event, unless_of, without, is_live}
use Rattle.qm_acting.specs.Standing.{standing_of, disk_of}
use Rattle.qm_acting.specs.declared.manager.Manager.{Manager}
use Rattle.qm_history.specs.declared.event.Event.{Event}
use Rattle.qm_history.specs.declared.event.Event.TheVariants as event
use Rattle.qm_history.specs.declared.world.Role.{Role}
use Rattle.qm_history.specs.declared.world.World.{World}
use Rattle.qm_history.specs.Happening.{may_come_first}
use Rattle.qm_history.specs.Room.{Room, HasRoom, failed_by, is_compacted_next, room_after}
use Rattle.qm_history.specs.Turn.{IsChange, IsDecided}
use Rattle.qm_chest.specs.declared.work.Work.TheVariants.{Up}
use Rattle.qm_chest.specs.Work.{IsUp}
use Rattle.qm_chest.specs.Parts.{HoldSome, Part}
use Rattle.qm_chest.specs.Steps.{is_recorded, is_step}
use Rattle.qm_chest.specs.Whole.{goes_by}
use Rattle.qm_chest.proofs.Going.{may_stay}
use Rattle.qm_chest.proofs.Holding.{SiteFilesAreAccepted, holds_some}
use Rattle.qm_chest.proofs.Joining.{joined}
use Rattle.qm_chest.proofs.Whole.{work_still}

-- a node that is set is what it was set to, where it has a place
pub set_off : (live : List Bool) (node : ℕ) → unwrap_or (slice_get (slice_set live node false) node) false ≡ false
set_off [] node = refl
set_off (l ∷ live) zero = refl
set_off (l ∷ live) (suc node) = set_off live node

-- another manager than this node stays
other_test : (a b : ℕ) → a ≢ b → (a == b) ≡ false
other_test a b differ = grind (arith, nat_tests)

pub other_stays : (node at epoch : ℕ) (o : Option Role) → o ≡ Some (record { node = at; epoch = epoch }) → at ≢ node → unless_of node o ≡ Some (record { node = at; epoch = epoch })
other_stays node at epoch o is differ =
    let role : Role = record { node = at; epoch = epoch } in
    ap (unless_of node) is ∙ ap (λ (b : Bool). cond b None (Some role)) (other_test at node differ)

-- the manager works on without the node
pub up_without : {D : Type 0} (m : Meaning D) (cap : ℕ) (w : World) (node : ℕ) (manager : Manager D) (at : ℕ) → IsUp m cap w manager at → at ≢ node → IsUp m cap (without w node) manager at
up_without m cap w node manager at up differ = record {
  role = other_stays node at w.greatest w.manager up.role differ;
  sure = up.sure;
  system = up.system;
  at_rest = up.at_rest;
  may = may_stay cap w node None (standing_of manager).recorded up.may;
  epoch = up.epoch;
}

-- ---- the events of a change

-- what was asked for is recorded or in doubt, so the change is one
pub change_is : (first : Event) (node moment : ℕ) (wanted : Request) (res : Result Accepted Refusal) (e : Event) → is_recorded (Some e) ≡ true → IsDecided node moment wanted res (e ∷ []) → IsChange first node moment wanted res (first ∷ e ∷ [])
change_is first node moment wanted (Err refusal) (event.Done n m r told) is decided = absurd cc
change_is first node moment wanted (Err refusal) (event.Doubt n m r) is decided = absurd cc
change_is first node moment wanted (Ok a) (event.Done n m r told) is decided = (refl, decided)
change_is first node moment wanted (Ok a) (event.Doubt n m r) is decided = (refl, decided)
change_is first node moment wanted res (event.Refused n m i refusal) is decided = cc
change_is first node moment wanted res (event.Shown n m i) is decided = cc
change_is first node moment wanted res (event.Full n need cap) is decided = cc
change_is first node moment wanted res (event.NoManager n) is decided = cc
change_is first node moment wanted res (event.Took n m epoch gone up may kept) is decided = cc
change_is first node moment wanted res (event.TakeDoubt n tried kept) is decided = cc
change_is first node moment wanted res (event.Fenced n held current) is decided = cc
change_is first node moment wanted res (event.Stopped n) is decided = cc
change_is first node moment wanted res (event.Left n) is decided = cc
change_is first node moment wanted res (event.Started n) is decided = cc
change_is first node moment wanted res (event.Compacted n epoch file) is decided = cc
change_is first node moment wanted res (event.CompactDoubt n) is decided = cc

-- a step tells of no takeover, and isn't a compaction
plain_step : (e : Event) → is_step e ≡ true → (told_by (e ∷ []) ≡ None) × (is_compacted_next (e ∷ []) ≡ false)
plain_step (event.Done n m r told) is = (refl, refl)
plain_step (event.Doubt n m r) is = (refl, refl)
plain_step (event.Refused n m i refusal) is = (refl, refl)
plain_step (event.Shown n m i) is = (refl, refl)
plain_step (event.Full n need cap) is = (refl, refl)
plain_step (event.Fenced n held current) is = (refl, refl)
plain_step (event.NoManager n) is = cc
plain_step (event.Took n m epoch gone up may kept) is = cc
plain_step (event.TakeDoubt n tried kept) is = cc
plain_step (event.Stopped n) is = cc
plain_step (event.Left n) is = cc
plain_step (event.Started n) is = cc
plain_step (event.Compacted n epoch file) is = cc
plain_step (event.CompactDoubt n) is = cc

-- ---- both events

module _ (accepted : SiteFilesAreAccepted) {D : Type 0} (m : Meaning D) (only_now : (disk : D) (crashed : CrashState) → m.left_since disk (m.moment disk) crashed → IsLeft (m.may_leave disk) crashed)
    (cap : ℕ) (w : World) (manager : Manager D) (at : ℕ) (up : IsUp m cap w manager at) (node now : ℕ) (asked : Input) (failed : Bool) (e : Event) (step : is_step e ≡ true) (new : D)
  where
    low : AllByRecursion (λ (h : ℕ). h ≤ w.greatest) w.held
    low = subst (λ (n : ℕ). AllByRecursion (λ (h : ℕ). h ≤ n) w.held) up.epoch up.may.recorded

    between : HoldSome (m.seen (disk_of manager))
    between = holds_some accepted (m.seen (disk_of manager)) (standing_of manager).recorded (system_of up.may.log) up.at_rest.holds up.may.site

    -- a node stops or leaves, or comes up, and then a step of the manager comes
    behind : (first : Event) → may_come_first first ≡ true → failed_by w first ≡ None → CanCome w first → ((room : Room) → room_after w room first ≡ room)
        → ((room : Room) → HasRoom None w room now asked first []) → Part m (failed_by w first) (after_event w first) now asked failed (e ∷ []) (disk_of manager) new
        → Part m None w now asked failed (first ∷ e ∷ []) (disk_of manager) new
    behind first comes_first unfailed comes stays has part =
        let of = plain_step e step in
        joined m w now asked failed first (e ∷ []) (disk_of manager) (disk_of manager) new comes_first of.0 of.1 low between
        (work_still accepted m cap w only_now (Up manager at) up now asked first comes stays has) part

    pub goes_and : is_live w node ≡ true → (leaves : Bool) → Part m None (without w node) now asked failed (e ∷ []) (disk_of manager) new
        → Part m None w now asked failed (goes_by node leaves ∷ e ∷ []) (disk_of manager) new
    goes_and live true part = behind (event.Left node) refl refl live (λ room. refl) (λ room. tt) part
    goes_and live false part = behind (event.Stopped node) refl refl live (λ room. refl) (λ room. tt) part

    pub starts_and : is_live w node ≡ false → Part m None (after_event w (event.Started node)) now asked failed (e ∷ []) (disk_of manager) new
        → Part m None w now asked failed (event.Started node ∷ e ∷ []) (disk_of manager) new
    starts_and live part = behind (event.Started node) refl refl live (λ room. refl) (λ room. tt) part
