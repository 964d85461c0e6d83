-- How a takeover begins: from a manager that is up, or while none is; and how its parts leave what a call leaves.
use Rattle.std.proofs.Common.{◌≡◌, ℕ, ◌+◌, ◌-◌, ◌^◌, ◌<◌, Bool, true, false, not, List, [], ◌∷◌, length, refl, sym, ◌∙◌, ap, subst, arith, Option, None, Some, ◌||◌, is_none, min, option_to_list, slice_get, IsSome, IsTrue}
use Rattle.qm_disk.specs.Disk.{CrashState, Meaning, IsLeft}
use Rattle.qm_history.specs.Common.{Input, System, input_of, IsFromOutside, is_journal, ATakeover, IsBehindTakeover, IsOwn, IsServed, UnlessDown, is_down, system_in}
use Rattle.qm_kinds.specs.declared.input.Input.TheVariants as input
use Rattle.qm_store.specs.Database.{disk_of as closed_disk}
use Rattle.qm_store.specs.declared.closed.Closed.{Closed}
use Rattle.qm_acting.specs.Leaving.{LeavesDisk}
use Rattle.qm_acting.specs.Spare.{KeepsSpare}
use Rattle.qm_acting.proofs.Spare.{keeps_on, keeps_same}
use Rattle.qm_acting.specs.Standing.{standing_of, disk_of}
use Rattle.qm_acting.specs.Files.{files_disk}
use Rattle.qm_acting.specs.declared.files.Files.{Files}
use Rattle.qm_acting.specs.declared.manager.Manager.{Manager}
use Rattle.qm_history.specs.declared.call.Answer.TheVariants as answer
use Rattle.qm_history.specs.declared.call.Call.{Call}
use Rattle.qm_history.specs.declared.event.Event.{Event}
use Rattle.qm_history.specs.declared.event.Event.TheVariants as event
use Rattle.qm_history.specs.declared.world.Role.{Role}
use Rattle.qm_history.specs.declared.world.World.{World}
use Rattle.qm_history.specs.Takeover.{StandsOrFails, UnlessRefused, is_named, nodes_on, takes_over}
use Rattle.qm_chest.specs.declared.members.Members.{Members}
use Rattle.qm_chest.specs.declared.work.Work.{Work}
use Rattle.qm_chest.specs.declared.work.Work.TheVariants.{Up, Down}
use Rattle.qm_chest.specs.declared.place.Place.{Place}
use Rattle.qm_chest.specs.declared.serving.Served.{Served}
use Rattle.qm_chest.specs.declared.taken.Taken.{Taken}
use Rattle.qm_chest.specs.At.{CanBeAskedFor, IsWorkOf, IsStateAt}
use Rattle.qm_chest.specs.Work.{work_disk, is_due}
use Rattle.qm_chest.specs.Holding.{MayHold, AllHold}
use Rattle.qm_chest.specs.Taking.{AreEarly, IsTaking, LeavesFrom, NeedsManager, TakesFrom, TakesOnFiles}
use Rattle.qm_chest.specs.Whole.{AsksToTake, IsServedAs, Leaves, StandsEarly, both}
use Rattle.qm_chest.proofs.Going.{up_holds}
use Rattle.qm_chest.proofs.Holding.{SiteFilesAreAccepted}
use Rattle.qm_chest.proofs.Lists.{named_none, named_up, unnamed_up}
use Rattle.qm_chest.proofs.Names.{name_there, node_within, one_name, outside_of}
use Rattle.qm_chest.proofs.Whole.{work_still, one_served}

-- ---- whatever the disks tell

-- one more, or the same at the end of the type
abbrev counted : ℕ → ℕ
counted n = min (n + 1) (2 ^ 64 - 1)

pub needs_of : {D : Type 0} (work : Work D) (what : Input) → is_due work what ≡ true → NeedsManager what
needs_of work (input.Ask asked) due = tt
needs_of work (input.Show query) due = tt
needs_of work (input.Fetch known) due = tt
needs_of work input.Compact due = tt
needs_of work (input.TakeManager on) due = tt
needs_of work input.StartNode due = tt
needs_of work input.StopNode due = cc
needs_of work (input.Fault place kind) due = cc

one_more : (o : Option Event) → IsSome o → length (option_to_list o) ≡ 1
one_more None some = cc
one_more (Some e) some = refl

pub leaves_of : {D : Type 0} (m : Meaning D) (old : Members) (was : Work D) (disk : D) (new : Members) (served : Served D) → disk ≡ work_disk was → LeavesFrom m old disk (old.greatest + 1) new served → Leaves m old was new served
leaves_of m old was disk new served same h = record {
  work = h.work;
  names = h.names;
  rises = let size = one_more served.first h.first in let le = h.rises in omega (arith, size, le);
  leaves = subst (λ (d : _). LeavesDisk m d (work_disk served.work) (is_journal served.answer ≡ true)) same h.leaves;
  down = h.down;
  told = h.told;
  duties = h.duties;
}

-- a node that may not take the role from a manager that is up leaves all as it is
pub unnamed_leaves : {D : Type 0} (m : Meaning D) (members : Members) (manager : Manager D) (at node : ℕ) (name : List ℕ) → IsWorkOf m members.names.items (Up manager at)
    → LeavesFrom m members (disk_of manager) (members.greatest + 1) members (record { work = Up manager at; first = Some (event.NoManager node); second = None; answer = answer.NoManager None name })
unnamed_leaves m members manager at node name work = record {
  work = work;
  names = refl;
  rises = omega arith;
  first = refl;
  leaves = record { faults = record { fault = λ told. cc; quiet = λ none. refl }; spare = λ tells. keeps_same m (disk_of manager) };
  down = λ told. cc;
  told = (λ full. cc, λ hides. refl);
  duties = tt;
}

-- calls in which none failed come before
pub leaves_behind : {D : Type 0} (m : Meaning D) (old : Members) (before disk : D) (greatest : ℕ) (new : Members) (served : Served D) → m.faults disk ≡ m.faults before → (IsTrue m.tells → KeepsSpare m before disk) → LeavesFrom m old disk greatest new served
    → LeavesFrom m old before greatest new served
leaves_behind m old before disk greatest new served same kept h = record {
  work = h.work;
  names = h.names;
  rises = h.rises;
  first = h.first;
  leaves = record { faults = record { fault = λ told. h.leaves.faults.fault told ∙ ap counted same; quiet = λ not. h.leaves.faults.quiet not ∙ same }; spare = λ tells. keeps_on m before disk (work_disk served.work) (kept tells) (h.leaves.spare tells) };
  down = h.down;
  told = h.told;
  duties = h.duties;
}

-- what follows a takeover that stands
pub leaves_taken : {D : Type 0} (m : Meaning D) (old mid new : Members) (disk : D) (node : ℕ) (taken : Taken D) (served : Served D) → TakesFrom m old disk node mid taken
    → LeavesFrom m mid (disk_of taken.manager) mid.greatest new served → LeavesFrom m old disk (old.greatest + 1) new served
leaves_taken m old mid new disk node taken served takes h = leaves_behind m old disk (disk_of taken.manager) (old.greatest + 1) new served takes.quiet takes.spare (record {
  work = h.work;
  names = h.names ∙ takes.names;
  rises = let a = h.rises in let b = takes.rises in omega (arith, a, b);
  first = h.first;
  leaves = h.leaves;
  down = h.down;
  told = h.told;
  duties = h.duties;
})

-- ---- a manager is up

managed : (o : Option Role) (role : Role) → o ≡ Some role → is_none o ≡ false
managed o role is = ap is_none is

module _ (accepted : SiteFilesAreAccepted) {D : Type 0} (m : Meaning D) (only_now : (disk : D) (crashed : CrashState) → m.left_since disk (m.moment disk) crashed → IsLeft (m.may_leave disk) crashed)
    (cap : ℕ) (w : World) (asked : Call) (members : Members) (manager : Manager D) (at node now : ℕ) (what : Input) (state : IsStateAt m cap w (record { members = members; work = Up manager at }))
    (early : w.greatest + 1 < 2 ^ 62) (asks : AsksToTake node what w asked) (there : node < length members.names.items) (can : CanBeAskedFor node what)
  where
    in_world : is_named (standing_of manager).system (nodes_on what) node ≡ is_named (system_in w) (nodes_on what) node
    in_world = ap (λ (s : System). is_named s (nodes_on what) node) state.work.system

    -- the node may have the role
    pub taking_up : is_named (standing_of manager).system (nodes_on what) node ≡ true → IsTaking members node what cap w asked
    taking_up named = record {
      asks = asks;
      members = state.members;
      small = state.small;
      early = early;
      named = named_up (is_none w.manager) (is_named (system_in w) (nodes_on what) node) (sym in_world ∙ named);
    }

    -- or it may not, and nothing has changed
    pub refused_up : (name : List ℕ) → slice_get members.names.items node ≡ Some name → is_named (standing_of manager).system (nodes_on what) node ≡ false
        → IsServedAs m cap w node now asked (disk_of manager) (record { members = members; work = Up manager at }) (event.NoManager node ∷ []) (answer.NoManager None name)
    refused_up name found unnamed =
        let outside : IsFromOutside (input_of asked) = subst IsFromOutside (sym asks.0) (outside_of node what can) in
        let within : node < length (system_in w).nodes = node_within (system_in w) members.names.items node state.members.names there in
        let there_ = name_there node (system_in w).nodes members.names.items state.members.names there in
        let same : Some name ≡ Some there_.0 = sym found ∙ there_.1 in
        let one : name ≡ there_.0 = one_name name there_.0 same in
        let refused : not (is_none w.manager || is_named (system_in w) (nodes_on (input_of asked)) node) ≡ true =
        unnamed_up (is_none w.manager) (is_named (system_in w) (nodes_on (input_of asked)) node) (managed w.manager (record { node = at; epoch = w.greatest }) state.work.role)
        (ap (λ (i : Input). is_named (system_in w) (nodes_on i) node) asks.0 ∙ sym in_world ∙ unnamed) in
        one_served m cap w node now asked within outside (event.NoManager node) (answer.NoManager None name) false (disk_of manager) (record { members = members; work = Up manager at }) refl
        (work_still accepted m cap w only_now (Up manager at) state.work now (input_of asked) (event.NoManager node) tt (λ room. refl) (λ room. tt))
        (served refused) refl (ap (λ (n : List ℕ). answer.NoManager None n) (one ∙ there_.2)) state
      where
        served : not (is_none w.manager || is_named (system_in w) (nodes_on (input_of asked)) node) ≡ true → IsServed w node now asked (event.NoManager node ∷ [])
        served refused =
            subst (λ (b : Bool). UnlessDown b node now (input_of asked) (IsBehindTakeover w node now asked (takes_over w (input_of asked)) (event.NoManager node ∷ [])) (event.NoManager node ∷ []))
            (sym (ap (λ (i : Input). is_down w node i) asks.0 ∙ asks.1))
            (subst (λ (b : Bool). IsBehindTakeover w node now asked b (event.NoManager node ∷ [])) (sym (ap (takes_over w) asks.0 ∙ asks.2))
            (subst (λ (b : Bool). UnlessRefused b node (StandsOrFails w node now (nodes_on (input_of asked)) (λ after own. IsOwn after node now asked ATakeover (input_of asked) own) (event.NoManager node ∷ []))
            (event.NoManager node ∷ [])) (sym refused) refl))

-- its closed files hold the world
pub held_up : {D : Type 0} (m : Meaning D) (members : Members) (manager : Manager D) (at : ℕ) (closed : Closed D) → closed_disk closed ≡ disk_of manager → StandsEarly m (record { members = members; work = Up manager at })
    → AreEarly m members (closed_disk closed) None
held_up m members manager at closed same stands = record {
  cap = stands.cap;
  w = stands.w;
  holds = subst (λ (d : _). AllHold m (MayHold stands.cap stands.w None) d) (sym same) (up_holds m stands.cap stands.w manager at stands.at.work);
  greatest = stands.at.members.greatest;
  early = stands.early;
}

pub taken_up_serves : {D : Type 0} (m : Meaning D) (cap : ℕ) (w : World) (asked : Call) (members : Members) (manager : Manager D) (at node now : ℕ) (what : Input) (closed : Closed D) (after : Members) (served : Served D)
    → closed_disk closed ≡ disk_of manager → IsStateAt m cap w (record { members = members; work = Up manager at }) → IsTaking members node what cap w asked
    → IsTrue m.tells → TakesOnFiles m members (closed_disk closed) None node now what after served
    → IsServedAs m cap w node now asked (disk_of manager) (record { members = after; work = served.work }) (both served.first served.second) served.answer
taken_up_serves m cap w asked members manager at node now what closed after served same state taking tells takes =
    subst (λ (d : _). IsServedAs m cap w node now asked d (record { members = after; work = served.work }) (both served.first served.second) served.answer) same
    (takes tells cap w asked taking (subst (λ (d : _). AllHold m (MayHold cap w None) d) (sym same) (up_holds m cap w manager at state.work)))

-- ---- no manager is up

pub held_down : {D : Type 0} (m : Meaning D) (members : Members) (files : Files D) (place : Option Place) → StandsEarly m (record { members = members; work = Down files place }) → AreEarly m members (files_disk files) place
held_down m members files place stands = record { cap = stands.cap; w = stands.w; holds = stands.at.work.holds; greatest = stands.at.members.greatest; early = stands.early }

pub taking_down : {D : Type 0} (m : Meaning D) (cap : ℕ) (w : World) (asked : Call) (members : Members) (files : Files D) (place : Option Place) (node : ℕ) (what : Input)
    → IsStateAt m cap w (record { members = members; work = Down files place }) → w.greatest + 1 < 2 ^ 62 → AsksToTake node what w asked → IsTaking members node what cap w asked
taking_down m cap w asked members files place node what state early asks = record {
  asks = asks;
  members = state.members;
  small = state.small;
  early = early;
  named = named_none (is_none w.manager) (is_named (system_in w) (nodes_on what) node) (ap is_none state.work.none);
}
