-- What a takeover comes to, by what its calls answered.
use Rattle.std.proofs.Common.{◌≡◌, ◌⊎◌, inl, inr, ⊎_elim, ℕ, ◌+◌, ◌-◌, ◌^◌, ◌<◌, ◌≤◌, Bool, true, false, length, refl, sym, ap, subst, arith, Option, None, Some, IsTrue}
use Rattle.std.proofs.lemmas.Bool.{cases_eq}
use Rattle.qm_disk.specs.Disk.{CrashState, Meaning, IsLeft, LeavesOnly, TellsFaults}
use Rattle.qm_disk.proofs.Moments.{weaker}
use Rattle.qm_history.specs.Common.{Input, cluster, is_journal}
use Rattle.qm_store.specs.Database.{disk_of as closed_disk}
use Rattle.qm_store.specs.Opening.{in_next_epoch, next_need}
use Rattle.qm_store.specs.Recorded.{Recorded, HoldsEither, IsAtRest}
use Rattle.qm_store.specs.declared.closed.Closed.{Closed}
use Rattle.qm_store.specs.declared.files.TheConstants.{MASTER_CAP}
use Rattle.qm_acting.specs.Spare.{KeepsSpare}
use Rattle.qm_acting.proofs.Spare.{keeps_at}
use Rattle.qm_acting.specs.Standing.{Standing, IsReady, standing_of, disk_of}
use Rattle.qm_acting.specs.Taking.{HoldsEpoch, in_next}
use Rattle.qm_acting.specs.declared.manager.Manager.{Manager}
use Rattle.qm_history.specs.declared.call.Answer.{Answer}
use Rattle.qm_history.specs.declared.call.Answer.TheVariants as answer
use Rattle.qm_history.specs.declared.call.Call.{Call}
use Rattle.qm_history.specs.declared.event.Event.{Event}
use Rattle.qm_history.specs.declared.event.Event.TheVariants as event
use Rattle.qm_history.specs.declared.world.World.{World}
use Rattle.qm_chest.specs.declared.members.Members.{Members}
use Rattle.qm_chest.specs.declared.place.Place.{Place}
use Rattle.qm_chest.specs.declared.serving.Served.{Served}
use Rattle.qm_chest.specs.At.{CanBeAskedFor}
use Rattle.qm_chest.specs.Duties.{ShowsNodeDuties}
use Rattle.qm_chest.specs.Taking.{IsReadOf, IsTaking, LeavesFrom, failed, told_of_failed}
use Rattle.qm_chest.specs.Whole.{IsServedAs, IsToldBy, both}
use Rattle.qm_chest.proofs.Failed as failing
use Rattle.qm_chest.proofs.Holding.{SiteFilesAreAccepted}

-- ---- whatever the disks tell

-- no call failed, and no fault is told
pub quiet_faults : {D : Type 0} (m : Meaning D) (before after : D) → m.faults after ≡ m.faults before → TellsFaults m before after (false ≡ true)
quiet_faults m before after same = record { fault = λ is. cc; quiet = λ not. same }

pub same_faults : {D : Type 0} (m : Meaning D) (before after : D) → after ≡ before → TellsFaults m before after (false ≡ true)
same_faults m before after same = quiet_faults m before after (ap m.faults same)

-- the call failed, and that is told
pub fault_told : {D : Type 0} (m : Meaning D) (before after : D) (P : Type 0) → P → TellsFaults m before after P → TellsFaults m before after (true ≡ true)
fault_told m before after P is tells = record { fault = λ told. tells.fault is; quiet = λ not. absurd (not refl) }

-- a takeover that failed leaves no manager
pub failed_leaves : {D : Type 0} (m : Meaning D) (members after : Members) (disk : D) (greatest : ℕ) (closed : Closed D) (place : Option Place) (node tried : ℕ) (kept : Option Bool) (second : Option Event) (told : Answer) (s : Served D)
    → after.names.items ≡ members.names.items → after.greatest ≤ greatest → TellsFaults m disk (closed_disk closed) (is_journal told ≡ true) → (IsTrue m.tells → KeepsSpare m disk (closed_disk closed))
    → IsToldBy (both (Some (event.TakeDoubt node tried kept)) second) told → ShowsNodeDuties told → s ≡ failed closed place node tried kept second told → LeavesFrom m members disk greatest after s
failed_leaves m members after disk greatest closed place node tried kept second told s names rises faults spare says duties is =
    subst (λ (x : Served _). LeavesFrom m members disk greatest after x) (sym is)
    (record { work = tt; names = names; rises = rises; first = refl; leaves = record { faults = faults; spare = spare }; down = λ journal. tt; told = says; duties = duties })

-- ---- what was opened

pub opened_rest : {D : Type 0} (m : Meaning D) (st : Standing) (tried node : ℕ) (manager : Manager D) (closed : Closed D) → standing_of manager ≡ in_next st tried node → IsReady m manager → IsTrue m.tells
    → closed_disk closed ≡ disk_of manager → IsAtRest m (in_next_epoch st.recorded tried node) (closed_disk closed)
opened_rest m st tried node manager closed is ready tells same =
    subst (λ (x : Standing). IsAtRest m x.recorded (closed_disk closed)) is (subst (λ (d : _). IsAtRest m (standing_of manager).recorded d) (sym same) (ready.at_rest tells))

pub epoch_run : {D : Type 0} (m : Meaning D) (file : ℕ) (r next : Recorded) (before after closed : D) → closed ≡ after → LeavesOnly m before after (HoldsEither (m.may_leave before) file r next)
    → LeavesOnly m before closed (HoldsEpoch r next)
epoch_run m file r next before after closed same run =
    subst (λ (d : _). LeavesOnly m before d (HoldsEpoch r next)) (sym same)
    (weaker m before after (HoldsEither (m.may_leave before) file r next) (HoldsEpoch r next) run (λ crashed h. h.either))

-- ---- the whole call, by what it is

pub served_as : {D : Type 0} (m : Meaning D) (cap : ℕ) (w : World) (node now : ℕ) (asked : Call) (old : D) (members : Members) (s t : Served D) → s ≡ t
    → IsServedAs m cap w node now asked old (record { members = members; work = t.work }) (both t.first t.second) t.answer
    → IsServedAs m cap w node now asked old (record { members = members; work = s.work }) (both s.first s.second) s.answer
served_as m cap w node now asked old members s t is h =
    subst (λ (x : Served _). IsServedAs m cap w node now asked old (record { members = members; work = x.work }) (both x.first x.second) x.answer) (sym is) h

-- a number up to a bound is below it or is it
pub below_or_at : (n bound : ℕ) → n ≤ bound → (n < bound) ⊎ (n ≡ bound)
below_or_at n bound le = ⊎_elim (λ same. inr same) (λ other. inl (omega (arith, le, other))) (cases_eq n bound)

-- a master without room
pub full_leaves : {D : Type 0} (m : Meaning D) (members : Members) (disk : D) (closed : Closed D) (node : ℕ) (kept : Option Bool) (need most : ℕ) (s : Served D) → closed_disk closed ≡ disk → need ≤ 2 ^ 64 - 1
    → (need < 2 ^ 64 - 1 → s ≡ failed closed None node members.greatest kept (Some (event.Full node need most)) (answer.Full (told_of_failed members.greatest kept) need most))
    → (need ≡ 2 ^ 64 - 1 → s ≡ failed closed None node members.greatest kept None (answer.NoMemory (told_of_failed members.greatest kept)))
    → LeavesFrom m members disk (members.greatest + 1) members s
full_leaves m members disk closed node kept need most s same le full short =
    ⊎_elim (λ below. failed_leaves m members members disk (members.greatest + 1) closed None node members.greatest kept (Some (event.Full node need most)) (answer.Full (told_of_failed members.greatest kept) need most) s
    refl (omega arith) (same_faults m disk (closed_disk closed) same) (λ tells. keeps_at m disk (closed_disk closed) same) ((λ is. cc), (λ h. refl)) tt (full below))
    (λ at. failed_leaves m members members disk (members.greatest + 1) closed None node members.greatest kept None (answer.NoMemory (told_of_failed members.greatest kept)) s
    refl (omega arith) (same_faults m disk (closed_disk closed) same) (λ tells. keeps_at m disk (closed_disk closed) same) ((λ is. cc), (λ h. cc)) tt (short at))
    (below_or_at need (2 ^ 64 - 1) le)

module _ (accepted : SiteFilesAreAccepted) {D : Type 0} (m : Meaning D) (only_now : (disk : D) (crashed : CrashState) → m.left_since disk (m.moment disk) crashed → IsLeft (m.may_leave disk) crashed)
    (counts_now : (disk : D) (t : ℕ) (crashed : CrashState) → t ≤ m.moment disk → IsLeft (m.may_leave disk) crashed → m.left_since disk t crashed)
    (reads : (disk : D) → IsLeft (m.may_leave disk) (m.seen disk)) (cap : ℕ) (w : World) (asked : Call) (kept : Option Bool) (old mid : D) (st : Standing) (read : IsReadOf m cap w kept old st mid)
    (members : Members) (node now : ℕ) (what : Input) (taking : IsTaking members node what cap w asked) (there : node < length members.names.items) (can : CanBeAskedFor node what)
    (nodes : cluster st.system ≡ members.names.items)
  where
    pub master_full : (closed : Closed D) (need most : ℕ) (s : Served D) → closed_disk closed ≡ mid → most < need → need ≡ next_need st.recorded members.greatest node → most ≡ MASTER_CAP → need ≤ 2 ^ 64 - 1
        → (need < 2 ^ 64 - 1 → s ≡ failed closed None node members.greatest kept (Some (event.Full node need most)) (answer.Full (told_of_failed members.greatest kept) need most))
        → (need ≡ 2 ^ 64 - 1 → s ≡ failed closed None node members.greatest kept None (answer.NoMemory (told_of_failed members.greatest kept)))
        → IsServedAs m cap w node now asked old (record { members = members; work = s.work }) (both s.first s.second) s.answer
    master_full closed need most s same over need_is most_is le full short =
        ⊎_elim (λ below. served_as m cap w node now asked old members s (failed closed None node members.greatest kept (Some (event.Full node need most)) (answer.Full (told_of_failed members.greatest kept) need most)) (full below)
        (failing.master_full_served accepted m only_now counts_now reads cap w asked kept old mid st read members node now what taking there can nodes closed same need most over need_is most_is below))
        (λ at. served_as m cap w node now asked old members s (failed closed None node members.greatest kept None (answer.NoMemory (told_of_failed members.greatest kept))) (short at)
        (failing.short_served accepted m only_now counts_now reads cap w asked kept old mid st read members node now what taking there can nodes closed same))
        (below_or_at need (2 ^ 64 - 1) le)
