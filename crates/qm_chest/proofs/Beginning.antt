-- A chest that begins on files that were read.
use Rattle.std.proofs.Common.{◌≡◌, ℕ, zero, suc, ◌^◌, ◌<◌, ◌≤◌, true, IsTrue, List, [], ◌++◌, length, map, refl, sym, ◌∙◌, ap, subst, arith, None, replicate, append-nil}
use Rattle.std.specs.List.{AllByRecursion}
use Rattle.qm_history.specs.Common.{CrashState, Meaning, IsLog, size_of, Record, Node, System, system_of, HasSpelling, record_text, Starts, first_world, IsSound, system_in}
use Rattle.qm_store.specs.MasterJudging.{IsLawful}
use Rattle.qm_store.proofs.Masters.{says_lawful}
use Rattle.qm_store.specs.Recorded.{Recorded, Holds, IsAtRest}
use Rattle.qm_store.proofs.Contents.{held_records}
use Rattle.qm_store.proofs.Moving.{left_at_rest}
use Rattle.qm_restore.specs.QueueFile.{IsSiteFile}
use Rattle.qm_acting.specs.Files.{files_disk, AreSound}
use Rattle.qm_acting.specs.declared.files.Files.{Files}
use Rattle.qm_history.specs.declared.world.World.{World}
use Rattle.qm_chest.specs.At.{IsAt, IsStateAt, IsSteady, state_disk}
use Rattle.qm_chest.specs.Members.{AreMembersOf}
use Rattle.qm_chest.specs.Checking.{Begins, BeginsWorld, IsChecked, AreFirstMembers, checked_disk, checked_standing}
use Rattle.qm_chest.specs.Work.{IsDown}
use Rattle.qm_chest.specs.Holding.{MayHold, AllHold}
use Rattle.qm_chest.specs.declared.members.Members.{Members}
use Rattle.qm_chest.specs.declared.checked.Checked.{Checked}
use Rattle.qm_chest.specs.declared.chest.Chest.{Chest}
use Rattle.qm_chest.specs.declared.chest.State.{State}
use Rattle.qm_chest.specs.declared.work.Work.TheVariants.{Down}
use Rattle.qm_chest.proofs.Holding.{SiteFilesAreAccepted}

-- ---- the world in which a program begins

-- one record has one spelling
one_spelling : ((a b : Record) (rest : List ℕ) → HasSpelling a → HasSpelling b → record_text b ≡ record_text a ++ rest → (b ≡ a) × (rest ≡ []))
    → (q r : Record) → HasSpelling q → HasSpelling r → record_text q ≡ record_text r → q ≡ r
one_spelling none q r spelled_q spelled_r same = (none r q [] spelled_r spelled_q (same ∙ sym (append-nil (record_text r)))).0

pub begins_some : SiteFilesAreAccepted → (files : CrashState) (r : Recorded) (s : System) → Holds files r → IsSiteFile r.bodies s → (w : World) × Starts files w
begins_some accepted files r s holds site =
    let found = accepted r.bodies s site in
    (first_world found.0 r.says.epoch, record { says = r.says; records = found.0; hold = held_records files r found.0 holds found.1 found.2; begins = refl })

abbrev OneWorld : Type 0
OneWorld =
    (files : CrashState) (w v : World) → ((file : List ℕ) (a b : List (List ℕ)) → IsLog file a → IsLog file b → a ≡ b) → ((q r : Record) → HasSpelling q → HasSpelling r → record_text q ≡ record_text r → q ≡ r)
    → Starts files w → Starts files v → w ≡ v

abbrev StartsSound : Type 0
StartsSound = (files : CrashState) (w : World) → Starts files w → IsSound w

pub begins_one : SiteFilesAreAccepted → ((file : List ℕ) (a b : List (List ℕ)) → IsLog file a → IsLog file b → a ≡ b)
    → ((a b : Record) (rest : List ℕ) → HasSpelling a → HasSpelling b → record_text b ≡ record_text a ++ rest → (b ≡ a) × (rest ≡ []))
    → OneWorld → StartsSound → (files : CrashState) (r : Recorded) (s : System) (w : World) → Holds files r → IsSiteFile r.bodies s → Starts files w → BeginsWorld r s w
begins_one accepted one none world sound files r s w holds site starts =
    let found = accepted r.bodies s site in
    let v : World = first_world found.0 r.says.epoch in
    let begun : Starts files v = record { says = r.says; records = found.0; hold = held_records files r found.0 holds found.1 found.2; begins = refl } in
    let same : v ≡ w = world files v w one (one_spelling none) begun starts in
    let of_v : BeginsWorld r s v = record { first = refl; spelled = found.1; system = found.3; sound = sound files v begun } in
    subst (BeginsWorld r s) same of_v

-- ---- what is kept of the nodes

all_zero : (epoch n : ℕ) → AllByRecursion (λ (held : ℕ). held ≤ epoch) (replicate n 0)
all_zero epoch zero = tt
all_zero epoch (suc n) = (omega arith, all_zero epoch n)

members_of : (r : Recorded) (s : System) (w : World) → BeginsWorld r s w → (nodes : List Node) → nodes ≡ s.nodes → (members : Members) → AreFirstMembers nodes r.says.epoch members → AreMembersOf w members
members_of r s w begins nodes are members is =
    let in_world : nodes ≡ (system_in w).nodes = are ∙ ap (λ (t : System). t.nodes) (sym begins.system) in
    record {
      names = ap (map (λ (n : Node). n.name)) (sym in_world) ∙ sym is.names;
      live = is.live ∙ ap (λ (l : List Node). replicate (length l) true) in_world ∙ ap (λ (v : World). v.live) (sym begins.first);
      held = is.held ∙ ap (λ (l : List Node). replicate (length l) 0) in_world ∙ ap (λ (v : World). v.held) (sym begins.first);
      greatest = is.greatest_is ∙ ap (λ (v : World). v.greatest) (sym begins.first);
    }

-- ---- what the files hold

may_begin : (r : Recorded) (s : System) (w : World) → IsSiteFile r.bodies s → BeginsWorld r s w → size_of r.bodies < 2 ^ 62 → MayHold r.says.cap w None r
may_begin r s w site begins reach =
    let first : World = first_world w.log r.says.epoch in
    let of_first : MayHold r.says.cap first None r = record {
      log = w.log;
      found = refl;
      site = subst (IsSiteFile r.bodies) (sym begins.system) site;
      cap_is = refl;
      fits = omega (arith, reach);
      epoch = omega arith;
      recorded = all_zero r.says.epoch (length (system_of w.log).nodes);
    } in
    subst (λ (v : World). MayHold r.says.cap v None r) (sym begins.first) of_first

all_hold : {D : Type 0} (m : Meaning D) (P : Recorded → Type 0) (r : Recorded) (disk : D) → IsAtRest m r disk → P r → AllHold m P disk
all_hold m P r disk at_rest is = record {
  reads = record { recorded = r; holds = at_rest.holds; is = is };
  crash = λ crashed left. record { recorded = r; holds = left_at_rest m r disk at_rest crashed left; is = is };
}

module _ (one : (files : CrashState) (r : Recorded) (s : System) (w : World) → Holds files r → IsSiteFile r.bodies s → Starts files w → BeginsWorld r s w)
    {D : Type 0} (m : Meaning D) (checked : Checked D) (is : IsChecked m checked) (chest : Chest D) (files : Files D) (sound : AreSound m files) (members : Members) (state_is : chest.state ≡ record { members = members; work = Down files None })
    (turns : chest.turns.items ≡ []) (same : files_disk files ≡ checked_disk checked) (nodes : List Node) (are : nodes ≡ (checked_standing checked).system.nodes)
    (kept : AreFirstMembers nodes (checked_standing checked).recorded.says.epoch members) (early : IsTrue m.tells → (checked_standing checked).recorded.says.epoch < 2 ^ 61)
  where
    abbrev r : Recorded
    r = (checked_standing checked).recorded

    abbrev s : System
    s = (checked_standing checked).system

    at_begun : IsTrue m.tells → (w : World) → BeginsWorld r s w → IsAt m r.says.cap w chest
    at_begun tells w begins =
        let at_rest : IsAtRest m r (checked_disk checked) = is.restored.at_rest tells in
        let lawful : IsLawful r.says = says_lawful r.master r.says at_rest.holds.is_master in
        let first : World = first_world w.log r.says.epoch in
        let none : w.manager ≡ None = ap (λ (v : World). v.manager) begins.first in
        let down : IsDown m r.says.cap w files None =
        record { none = none; holds = subst (AllHold m (MayHold r.says.cap w None)) (sym same) (all_hold m (MayHold r.says.cap w None) r (checked_disk checked) at_rest (may_begin r s w is.restored.file begins is.reach)) } in
        let of_state : IsStateAt m r.says.cap w (record { members = members; work = Down files None }) =
        record { members = members_of r s w begins nodes are members kept; work = down; small = lawful.greatest } in
        let low : w.greatest ≤ 2 ^ 61 = omega (arith, ap (λ (v : World). v.greatest) begins.first, early tells) in
        record { state = subst (IsStateAt m r.says.cap w) (sym state_is) of_state; sound = begins.sound; early = omega (arith, low) }

    pub at_start : IsTrue m.tells → (w : World) → Starts (m.seen (checked_disk checked)) w → IsAt m r.says.cap w chest
    at_start tells w starts = at_begun tells w (one (m.seen (checked_disk checked)) r s w (is.restored.at_rest tells).holds is.restored.file starts)

    steady_begun : IsSteady m (length chest.turns.items) chest.state
    steady_begun =
        let low = is.epoch in
        let of_state : IsSteady m (length chest.turns.items) (record { members = members; work = Down files None }) = record { work = sound; epochs = omega (arith, kept.greatest_is, low) } in
        subst (IsSteady m (length chest.turns.items)) (sym state_is) of_state

    pub begun : SiteFilesAreAccepted → Begins m checked chest
    begun accepted = record {
      disk = ap (λ (state : State D). state_disk state) state_is ∙ same;
      names = ap (λ (state : State D). state.members.names.items) state_is ∙ kept.names ∙ ap (map (λ (n : Node). n.name)) are;
      turns = turns;
      serving = record {
        steady = steady_begun;
        stands = λ tells.
            let some = begins_some accepted (m.seen (checked_disk checked)) r s (is.restored.at_rest tells).holds is.restored.file in
            (r.says.cap, some.0, at_start tells some.0 some.1);
      };
      at = at_start;
    }
