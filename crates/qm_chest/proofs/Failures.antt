-- A call whose takeover failed behind the reading: what it leaves, by what failed.
use Rattle.std.proofs.Common.{◌≡◌, ℕ, ◌+◌, ◌<◌, ◌≤◌, Bool, true, false, not, List, [], ◌∷◌, length, refl, sym, ◌∙◌, ap, subst, Option, None, Some, ◌||◌, is_none, slice_get}
use Rattle.qm_history.specs.Common.{Meaning, Input, Record, System, system_of, node_at, cluster, answer_of, takeover_of, input_of, IsFromOutside, compacted_by, tells_disk_fault, after_events, log_read, system_in}
use Rattle.qm_kinds.specs.declared.input.Input.TheVariants as input
use Rattle.qm_acting.specs.Standing.{Standing}
use Rattle.qm_history.specs.declared.call.Answer.{Answer}
use Rattle.qm_history.specs.declared.call.Answer.TheVariants as answer
use Rattle.qm_history.specs.declared.call.Call.{Call}
use Rattle.qm_history.specs.declared.call.Takeover.{Takeover}
use Rattle.qm_history.specs.declared.event.Event.{Event}
use Rattle.qm_history.specs.declared.event.Event.TheVariants as event
use Rattle.qm_history.specs.declared.world.World.{World}
use Rattle.qm_history.specs.Answering.{MayAnswer, IsOneTakeover}
use Rattle.qm_history.specs.Room.{Room, HasRoomInDoubt, LacksForTakeover, Lacks, record_need, tried_takeover}
use Rattle.qm_history.specs.Takeover.{StandsOrFails, UnlessRefused, is_named, nodes_on, takes_over}
use Rattle.qm_history.specs.Turn.{ATakeover, IsBehindTakeover, IsOwn, IsServed, IsTakeoverAlone, UnlessDown, is_down}
use Rattle.qm_chest.specs.declared.members.Members.{Members}
use Rattle.qm_chest.specs.declared.work.Work.{Work}
use Rattle.qm_chest.specs.At.{CanBeAskedFor}
use Rattle.qm_chest.specs.Members.{AreMembersOf}
use Rattle.qm_chest.specs.Work.{IsWorkAt, work_disk}
use Rattle.qm_chest.specs.Parts.{HoldSome, Part}
use Rattle.qm_chest.specs.Steps.{is_plain}
use Rattle.qm_chest.specs.Taking.{IsReadOf, IsTaking, told_of_failed}
use Rattle.qm_chest.specs.Turns.{made_turn}
use Rattle.qm_chest.specs.Whole.{IsServedAs}
use Rattle.qm_chest.proofs.Holding.{SiteFilesAreAccepted, holds_some}
use Rattle.qm_chest.proofs.Names.{name_there, node_within, one_name, outside_of}
use Rattle.qm_chest.proofs.Reading.{held_before}
use Rattle.qm_chest.proofs.Trying.{read_first}
use Rattle.qm_chest.proofs.Turning.{adds, cut_short, tells_room}
use Rattle.qm_chest.proofs.Turning as turning
use Rattle.qm_chest.proofs.Whole.{says, plain_undamaged}

-- ---- what is told of it

pub took_is : (w : World) (node tried : ℕ) (kept : Option Bool) (events : List Event) → takeover_of w (event.TakeDoubt node tried kept ∷ events) ≡ told_of_failed tried kept
took_is w node tried None events = refl
took_is w node tried (Some kept) events = refl

-- ---- at what isn't COMPACT

not_compact : (node : ℕ) (what : Input) → CanBeAskedFor node what → what ≡ input.Compact → ⊥
not_compact node what can is = subst (CanBeAskedFor node) is can

pub lacks_takeover : (w : World) (room : Room) (node reading : ℕ) (what : Input) (e : Event) → (what ≡ input.Compact → ⊥)
    → Lacks (record_need room (tried_takeover w node reading (nodes_on what))) room.cap e → LacksForTakeover w room node reading what e
lacks_takeover w room node reading input.Compact e plain h = absurd (plain refl)
lacks_takeover w room node reading (input.Ask asked) e plain h = h
lacks_takeover w room node reading (input.Show query) e plain h = h
lacks_takeover w room node reading (input.Fetch known) e plain h = h
lacks_takeover w room node reading (input.TakeManager on) e plain h = h
lacks_takeover w room node reading input.StartNode e plain h = h
lacks_takeover w room node reading input.StopNode e plain h = h
lacks_takeover w room node reading (input.Fault place kind) e plain h = h

pub doubt_room : (w : World) (room : Room) (what : Input) (r : Record) → (what ≡ input.Compact → ⊥) → record_need room r ≤ room.cap → HasRoomInDoubt w room what r
doubt_room w room input.Compact r plain h = absurd (plain refl)
doubt_room w room (input.Ask asked) r plain h = h
doubt_room w room (input.Show query) r plain h = h
doubt_room w room (input.Fetch known) r plain h = h
doubt_room w room (input.TakeManager on) r plain h = h
doubt_room w room input.StartNode r plain h = h
doubt_room w room input.StopNode r plain h = h
doubt_room w room (input.Fault place kind) r plain h = h

-- ---- the whole call

-- what is kept of the nodes, with this as the greatest epoch
pub record AreMembersWith (old new : Members) (greatest : ℕ) : Type 0 where
  pub names : new.names.items ≡ old.names.items
  pub live : new.live.items ≡ old.live.items
  pub held : new.held.items ≡ old.held.items
  pub greatest_is : new.greatest ≡ greatest

module _ {D : Type 0} (m : Meaning D) (cap : ℕ) (w : World) (asked : Call) (members : Members) (node now : ℕ) (what : Input) (taking : IsTaking members node what cap w asked) (there : node < length members.names.items)
    (can : CanBeAskedFor node what)
  where
    pub outside : IsFromOutside (input_of asked)
    outside = subst IsFromOutside (sym taking.asks.0) (outside_of node what can)

    pub within : node < length (system_in w).nodes
    within = node_within (system_in w) members.names.items node taking.members.names there

    pub plain : input_of asked ≡ input.Compact → ⊥
    plain is = not_compact node what can (sym taking.asks.0 ∙ is)

    abbrev Behind : World → List Event → Type 0
    Behind after own = IsOwn after node now asked ATakeover (input_of asked) own

    unrefused : not (is_none w.manager || is_named (system_in w) (nodes_on (input_of asked)) node) ≡ false
    unrefused = ap (λ (i : Input). not (is_none w.manager || is_named (system_in w) (nodes_on i) node)) taking.asks.0 ∙ taking.named

    up : is_down w node (input_of asked) ≡ false
    up = ap (λ (i : Input). is_down w node i) taking.asks.0 ∙ taking.asks.1

    takes : takes_over w (input_of asked) ≡ true
    takes = ap (takes_over w) taking.asks.0 ∙ taking.asks.2

    -- the takeover comes first
    pub served : (events : List Event) → StandsOrFails w node now (nodes_on (input_of asked)) Behind events → IsServed w node now asked events
    served events h =
        subst (λ (b : Bool). UnlessDown b node now (input_of asked) (IsBehindTakeover w node now asked (takes_over w (input_of asked)) events) events) (sym up)
        (subst (λ (b : Bool). IsBehindTakeover w node now asked b events) (sym takes)
        (subst (λ (b : Bool). UnlessRefused b node (StandsOrFails w node now (nodes_on (input_of asked)) Behind events) events) (sym unrefused) h))

    pub alone : (events : List Event) → StandsOrFails w node now (nodes_on (input_of asked)) (λ after own. own ≡ []) events → IsTakeoverAlone w node now (input_of asked) events
    alone events h = (
      up,
      takes,
      subst (λ (b : Bool). UnlessRefused b node (StandsOrFails w node now (nodes_on (input_of asked)) (λ after own. own ≡ []) events) events) (sym unrefused) h,
    )

    -- ---- the whole call

    module _ (e : Event) (events : List Event) (failed : Bool) (after : Members) (old : D) (work : Work D) (part : Part m None w now (input_of asked) failed (e ∷ events) old (work_disk work))
        (quiet : tells_disk_fault (e ∷ events) ≡ false → failed ≡ false) (none : compacted_by (e ∷ events) ≡ None) (members_at : AreMembersOf (after_events w (e ∷ events)) after)
        (work_at : IsWorkAt m cap (after_events w (e ∷ events)) work) (rises : (after_events w (e ∷ events)).greatest ≤ w.greatest + 1)
      where
        told_so : (told : Answer) → MayAnswer w asked (made_turn node now asked (e ∷ events)) told → ((file place : ℕ) → told ≡ answer.Damaged file place → ⊥)
            → IsServedAs m cap w node now asked old (record { members = after; work = work }) (e ∷ events) told
        told_so told may undamaged = record {
          adds = adds m w node now asked failed (e ∷ events) old (work_disk work) within outside part told may undamaged quiet none;
          room = tells_room m w node now asked failed (e ∷ events) old (work_disk work) within outside part;
          at = record { members = members_at; work = work_at; small = taking.small };
          rises = rises;
        }

        -- it is answered what its last event says
        pub put_plain : (told : Answer) → is_plain told ≡ true → told ≡ answer_of w (made_turn node now asked (e ∷ events)) → IsServed w node now asked (e ∷ events)
            → IsServedAs m cap w node now asked old (record { members = after; work = work }) (e ∷ events) told
        put_plain told plainly is serves =
            told_so told (says w asked (made_turn node now asked (e ∷ events)) told plainly (turning.whole m w node now asked failed (e ∷ events) old (work_disk work) within outside part serves, is))
            (plain_undamaged told plainly)

        -- memory was short behind its takeover
        pub put_alone : (took : Option Takeover) → took ≡ takeover_of w (e ∷ events) → IsOneTakeover (e ∷ events) → IsTakeoverAlone w node now (input_of asked) (e ∷ events)
            → IsServedAs m cap w node now asked old (record { members = after; work = work }) (e ∷ events) (answer.NoMemory took)
        put_alone took is one only =
            told_so (answer.NoMemory took) (cut_short m w node now asked failed (e ∷ events) old (work_disk work) within outside part only, one, is) (λ file place same. cc)

-- ---- on files that were read

module _ (accepted : SiteFilesAreAccepted) {D : Type 0} (m : Meaning D) (cap : ℕ) (w : World) (asked : Call) (kept : Option Bool) (old mid : D) (st : Standing) (read : IsReadOf m cap w kept old st mid)
    (members : Members) (node now : ℕ) (what : Input) (taking : IsTaking members node what cap w asked) (there : node < length members.names.items) (can : CanBeAskedFor node what)
    (nodes : cluster st.system ≡ members.names.items)
  where
    abbrev pub s : System
    s = system_of (log_read w kept)

    pub cluster_is : cluster s ≡ members.names.items
    cluster_is = ap cluster (sym read.system) ∙ nodes

    pub name_is : (name : List ℕ) → slice_get members.names.items node ≡ Some name → name ≡ node_at node s.nodes
    name_is name is =
        let found = name_there node s.nodes members.names.items cluster_is there in
        let same : Some name ≡ Some found.0 = sym is ∙ found.1 in
        let one : name ≡ found.0 = one_name name found.0 same in
        one ∙ found.2

    between : HoldSome (m.seen mid)
    between = holds_some accepted (m.seen mid) st.recorded (system_of read.may.log) read.at_rest.holds read.may.site

    module _ (e : Event) (events : List Event) (failed : Bool) (after : Members) (work : Work D) (part : Part m None w now (input_of asked) failed (e ∷ events) mid (work_disk work))
        (quiet : tells_disk_fault (e ∷ events) ≡ false → failed ≡ false) (none : compacted_by (e ∷ events) ≡ None) (members_at : AreMembersOf (after_events w (e ∷ events)) after)
        (work_at : IsWorkAt m cap (after_events w (e ∷ events)) work) (rises : (after_events w (e ∷ events)).greatest ≤ w.greatest + 1)
      where
        from_old : Part m None w now (input_of asked) failed (e ∷ events) old (work_disk work)
        from_old =
            read_first accepted m w now (input_of asked) failed (e ∷ events) old mid (work_disk work) st.recorded (held_before m old mid st.recorded read.at_rest read.looks) read.at_rest.holds between
            read.looks (read.before (e ∷ events)) part

        -- it is answered what its last event says
        pub put : (told : Answer) → is_plain told ≡ true → told ≡ answer_of w (made_turn node now asked (e ∷ events)) → StandsOrFails w node now (nodes_on (input_of asked)) (Behind m cap w asked members node now what taking there can) (e ∷ events)
            → IsServedAs m cap w node now asked old (record { members = after; work = work }) (e ∷ events) told
        put told plainly is stands =
            put_plain m cap w asked members node now what taking there can e events failed after old work from_old quiet none members_at work_at rises told plainly is
            (served m cap w asked members node now what taking there can (e ∷ events) stands)

        -- memory was short behind its takeover
        pub put_short : (took : Option Takeover) → took ≡ takeover_of w (e ∷ events) → IsOneTakeover (e ∷ events) → StandsOrFails w node now (nodes_on (input_of asked)) (λ after own. own ≡ []) (e ∷ events)
            → IsServedAs m cap w node now asked old (record { members = after; work = work }) (e ∷ events) (answer.NoMemory took)
        put_short took is one stands =
            put_alone m cap w asked members node now what taking there can e events failed after old work from_old quiet none members_at work_at rises took is one
            (alone m cap w asked members node now what taking there can (e ∷ events) stands)
