-- What a step leaves: of what is kept of the nodes, and whatever the disks tell.
use Rattle.std.proofs.Common.{◌≡◌, ◌≢◌, ℕ, ◌<◌, Bool, true, false, List, length, map, refl, sym, ◌∙◌, ap, subst, arith, Option, None, Some, Ok, IsSome}
use Rattle.qm_history.specs.Common.{Meaning, Request, System, applied, request_record, Accepted, cluster, CanCome, after_event, system_in}
use Rattle.qm_history.specs.declared.call.Answer.{Answer}
use Rattle.qm_history.specs.declared.call.Answer.TheVariants as answer
use Rattle.qm_history.specs.declared.call.Takeover.{Takeover}
use Rattle.qm_history.specs.declared.event.Event.{Event}
use Rattle.qm_history.specs.declared.event.Event.TheVariants as event
use Rattle.qm_history.specs.declared.world.World.{World}
use Rattle.qm_history.proofs.LogLemmas.{next_cluster, one_more}
use Rattle.qm_chest.specs.declared.asking.Came.{Came}
use Rattle.qm_chest.specs.declared.members.Members.{Members}
use Rattle.qm_chest.specs.declared.work.Work.{Work}
use Rattle.qm_chest.specs.declared.work.Work.TheVariants.{Up, Down}
use Rattle.qm_chest.specs.declared.serving.Served.{Served}
use Rattle.qm_chest.specs.At.{IsWorkOf}
use Rattle.qm_chest.specs.Members.{AreMembersOf}
use Rattle.qm_chest.specs.Work.{IsReadyWork, work_disk}
use Rattle.qm_chest.specs.Duties.{ShowsNodeDuties}
use Rattle.qm_chest.specs.Steps.{IsOfNodes, IsToldStep, LeavesStep, goes_then, is_plain, is_recorded, is_step, served_alone, served_behind}
use Rattle.qm_chest.specs.Whole.{IsToldBy, Leaves, both}

-- no request takes a node's name or its place in the cluster
abbrev pub NodesKeepTheirNames : Type 0
NodesKeepTheirNames = (s : System) (now node : ℕ) (asked : Request) (a : Accepted) → applied s now node asked ≡ Ok a → map (λ n. n.name) a.system.nodes ≡ map (λ n. n.name) s.nodes

-- what is kept of the nodes is right behind a step too
pub members_step : NodesKeepTheirNames → (w : World) (e : Event) (members : Members) → is_step e ≡ true → CanCome w e → AreMembersOf w members → AreMembersOf (after_event w e) members
members_step names w (event.Done node moment asked reply) members step comes kept =
    let rec = request_record moment node asked in
    record {
      names = ap cluster (one_more w.log rec) ∙ next_cluster names (system_in w) rec comes.1 ∙ kept.names;
      live = kept.live;
      held = kept.held;
      greatest = kept.greatest;
    }
members_step names w (event.Doubt node moment asked) members step comes kept = record { names = kept.names; live = kept.live; held = kept.held; greatest = kept.greatest }
members_step names w (event.Refused node moment asked refusal) members step comes kept = kept
members_step names w (event.Shown node moment asked) members step comes kept = kept
members_step names w (event.Full node need cap) members step comes kept = kept
members_step names w (event.Fenced node held current) members step comes kept = kept
members_step names w (event.NoManager node) members step comes kept = kept
members_step names w (event.Took node moment epoch gone up may told) members step comes kept = cc
members_step names w (event.TakeDoubt node tried told) members step comes kept = cc
members_step names w (event.Stopped node) members step comes kept = cc
members_step names w (event.Left node) members step comes kept = cc
members_step names w (event.Started node) members step comes kept = cc
members_step names w (event.Compacted node epoch file) members step comes kept = cc
members_step names w (event.CompactDoubt node) members step comes kept = cc

-- ---- whatever the disks tell

-- a manager that can be asked, of the same nodes, on the same one
pub work_of : {D : Type 0} (m : Meaning D) (names : List (List ℕ)) (at : ℕ) (work : Work D) → at < length names → IsReadyWork m work → IsOfNodes names at work → IsWorkOf m names work
work_of m names at (Up manager node) below ready of = (ready, of.0, subst (λ (n : ℕ). n < length names) (sym of.1) below)
work_of m names at (Down files place) below ready of = ready

not_full : (told : Answer) → is_plain told ≡ true → told ≢ answer.HistoryFull
not_full told plain is = let no : is_plain answer.HistoryFull ≡ true = subst (λ (a : Answer). is_plain a ≡ true) is plain in cc

pub told_alone : (o : Option Event) (told : Answer) → IsToldStep None o told → IsToldBy (both o None) told
told_alone None told step = step
told_alone (Some e) told step = (not_full told step.1, λ hides. step.2)

pub told_behind : (first : Event) (o : Option Event) (told : Answer) → IsSome o → IsToldStep None o told → IsToldBy (both (Some first) o) told
told_behind first None told some step = cc
told_behind first (Some e) told some step = (not_full told step.1, λ hides. step.2)

pub shows_duties : (took : Option Takeover) (o : Option Event) (told : Answer) → IsToldStep took o told → ShowsNodeDuties told
shows_duties took None told step = subst ShowsNodeDuties (sym step) tt
shows_duties took (Some e) told step = step.3

pub recorded_some : (o : Option Event) → is_recorded o ≡ true → IsSome o
recorded_some None is = cc
recorded_some (Some e) is = refl

pub going_some : (leaves : Bool) (o : Option Event) → goes_then leaves o ≡ true → IsSome o
going_some true None is = cc
going_some false None is = cc
going_some leaves (Some e) is = refl

module _ {D : Type 0} (m : Meaning D) (old new : Members) (work : Work D) (came : Came D) (names : new.names.items ≡ old.names.items) (greatest : new.greatest ≡ old.greatest)
    (left : LeavesStep m (IsWorkOf m old.names.items) None (work_disk work) came)
  where
    of_new : IsWorkOf m new.names.items came.work
    of_new = subst (λ (l : List (List ℕ)). IsWorkOf m l came.work) (sym names) left.work

    -- a step that is the whole call
    pub alone_leaves : Leaves m old work new (served_alone came)
    alone_leaves = record {
      work = of_new;
      names = names;
      rises = omega (arith, greatest);
      leaves = left.leaves;
      down = left.down;
      told = told_alone came.event came.answer left.told;
      duties = shows_duties None came.event came.answer left.told;
    }

    -- a step behind another event
    pub behind_leaves : (first : Event) → IsSome came.event → Leaves m old work new (served_behind first came)
    behind_leaves first some = record {
      work = of_new;
      names = names;
      rises = omega (arith, greatest);
      leaves = left.leaves;
      down = left.down;
      told = told_behind first came.event came.answer some left.told;
      duties = shows_duties None came.event came.answer left.told;
    }

-- the same of what is told by an equation
module _ {D : Type 0} {m : Meaning D} {old new : Members} {was : Work D} (served other : Served D) where
  pub leaves_as : served ≡ other → Leaves m old was new other → Leaves m old was new served
  leaves_as is leaves = subst (λ (x : Served D). Leaves m old was new x) (sym is) leaves
