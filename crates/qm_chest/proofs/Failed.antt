-- A takeover that failed behind the reading, by what failed: the call then is served so.
use Rattle.std.proofs.Common.{◌≡◌, ℕ, ◌+◌, ◌-◌, ◌^◌, ◌<◌, ◌≤◌, Bool, true, false, not, List, [], ◌∷◌, length, refl, sym, ◌∙◌, ap, subst, arith, Option, None, Some, IsNone, slice_get, unwrap_or}
use Rattle.std.specs.List.{AllByRecursion}
use Rattle.qm_disk.specs.Disk.{CrashState, Meaning, IsLeft, LeavesOnly}
use Rattle.qm_history.specs.Common.{Input, Record, System, acting, system_of, request_record, cluster, input_of, told_by, Epoch, master_text, CanCome, after_event, doubt_read, gone_in, is_live, log_read, up_with}
use Rattle.qm_kinds.specs.declared.request.Request.TheVariants as request
use Rattle.qm_store.specs.Database.{disk_of as closed_disk}
use Rattle.qm_store.specs.Opening.{in_next_epoch, next_need}
use Rattle.qm_store.specs.Recorded.{Recorded, IsAtRest, epoch_behind}
use Rattle.qm_store.specs.declared.closed.Closed.{Closed}
use Rattle.qm_store.specs.declared.files.TheConstants.{MASTER_CAP}
use Rattle.qm_acting.specs.Asking.{Lacks as LacksThere}
use Rattle.qm_acting.specs.Standing.{Standing}
use Rattle.qm_acting.specs.Taking.{HoldsEpoch, in_next}
use Rattle.qm_acting.specs.declared.files.Files.TheVariants as site_files
use Rattle.qm_history.specs.declared.call.Answer.TheVariants as answer
use Rattle.qm_history.specs.declared.call.Call.{Call}
use Rattle.qm_history.specs.declared.call.Takeover.{Takeover}
use Rattle.qm_history.specs.declared.event.Event.{Event}
use Rattle.qm_history.specs.declared.event.Event.TheVariants as event
use Rattle.qm_history.specs.declared.world.World.{World}
use Rattle.qm_history.specs.Room.{Room, HasRoom, LacksBehind, Lacks, epoch_need, failed_by, is_compacted_next, record_need, room_after, tried_takeover}
use Rattle.qm_history.specs.Takeover.{is_named, may_after, nodes_on}
use Rattle.qm_chest.specs.declared.members.Members.{Members}
use Rattle.qm_chest.specs.declared.work.Work.TheVariants.{Down}
use Rattle.qm_chest.specs.At.{CanBeAskedFor}
use Rattle.qm_chest.specs.Members.{AreMembersOf}
use Rattle.qm_chest.specs.Work.{IsDown}
use Rattle.qm_chest.specs.Holding.{MayHold, AllHold}
use Rattle.qm_chest.specs.Parts.{Part}
use Rattle.qm_chest.specs.Taking.{IsReadOf, IsTaking, told_of_failed}
use Rattle.qm_chest.specs.Whole.{IsServedAs}
use Rattle.qm_chest.proofs.Failures.{AreMembersWith, doubt_room, lacks_takeover, took_is}
use Rattle.qm_chest.proofs.Failures as failures
use Rattle.qm_chest.proofs.Holding.{SiteFilesAreAccepted, holds_some, room_of, still}
use Rattle.qm_chest.proofs.Joining.{joined}
use Rattle.qm_chest.proofs.Trying.{same_number, other_number}
use Rattle.qm_chest.proofs.Trying as trying

-- an event that tells nothing of a record in doubt, and compacts nothing
abbrev told_of_none : Event → Type 0
told_of_none e = (told_by (e ∷ []) ≡ None) × (is_compacted_next (e ∷ []) ≡ false)

pub is_none_so : (o : Option Record) → o ≡ None → IsNone o
is_none_so o is = subst (λ (x : Option Record). IsNone x) (sym is) refl

module _ (accepted : SiteFilesAreAccepted) {D : Type 0} (m : Meaning D) (only_now : (disk : D) (crashed : CrashState) → m.left_since disk (m.moment disk) crashed → IsLeft (m.may_leave disk) crashed)
    (counts_now : (disk : D) (t : ℕ) (crashed : CrashState) → t ≤ m.moment disk → IsLeft (m.may_leave disk) crashed → m.left_since disk t crashed)
    (reads : (disk : D) → IsLeft (m.may_leave disk) (m.seen disk)) (cap : ℕ) (w : World) (asked : Call) (kept : Option Bool) (old mid : D) (st : Standing) (read : IsReadOf m cap w kept old st mid)
    (members : Members) (node now : ℕ) (what : Input) (taking : IsTaking members node what cap w asked) (there : node < length members.names.items) (can : CanBeAskedFor node what)
    (nodes : cluster st.system ≡ members.names.items)
  where
    abbrev tried : ℕ
    tried = members.greatest

    abbrev r : Recorded
    r = st.recorded

    abbrev s : System
    s = system_of (log_read w kept)

    abbrev epoch : ℕ
    epoch = epoch_behind r tried

    abbrev next : Recorded
    next = in_next_epoch r tried node

    tried_is : tried ≡ w.greatest
    tried_is = taking.members.greatest

    epoch_is : epoch ≡ w.greatest + 1
    epoch_is = trying.epoch_is accepted m only_now counts_now reads cap w kept old mid st read node now tried tried_is (input_of asked)

    sure : doubt_read w kept ≡ None
    sure = trying.sure accepted m only_now counts_now reads cap w kept old mid st read node now tried tried_is (input_of asked)

    low : AllByRecursion (λ (h : ℕ). h ≤ w.greatest) w.held
    low = trying.low accepted m only_now counts_now reads cap w kept old mid st read node now tried tried_is (input_of asked)

    -- the world behind a takeover that failed, and what is kept of the nodes
    abbrev failed_world : ℕ → World
    failed_world t = after_event w (event.TakeDoubt node t kept)

    members_failed : (t : ℕ) (after : Members) → AreMembersWith members after t → AreMembersOf (failed_world t) after
    members_failed t after with_ = record {
      names = failures.cluster_is accepted m cap w asked kept old mid st read members node now what taking there can nodes ∙ sym with_.names;
      live = with_.live ∙ taking.members.live;
      held = with_.held ∙ taking.members.held;
      greatest = with_.greatest_is;
    }

    live_is : (live : Bool) → live ≡ unwrap_or (slice_get members.live.items node) false → live ≡ is_live w node
    live_is live is = is ∙ ap (λ (l : List Bool). unwrap_or (slice_get l node) false) taking.members.live

    -- ---- memory was short

    module _ (closed : Closed D) (same : closed_disk closed ≡ mid) where
      still_there : (events : List Event) (failed : Bool) → Part m None w now (input_of asked) failed events mid mid → Part m None w now (input_of asked) failed events mid (closed_disk closed)
      still_there events failed part = subst (λ (d : D). Part m None w now (input_of asked) failed events mid d) (sym same) part

      still_down : IsDown m cap (failed_world tried) (site_files.Closed closed) None
      still_down = record {
        none = refl;
        holds = subst (λ (d : D). AllHold m (MayHold cap (failed_world tried) None) d) (sym same)
            (trying.all_still accepted m only_now counts_now reads cap w kept old mid st read node now tried tried_is (input_of asked));
      }

      still_part : Part m None w now (input_of asked) false (event.TakeDoubt node tried kept ∷ []) mid mid
      still_part = trying.still_part accepted m only_now counts_now reads cap w kept old mid st read node now tried tried_is (input_of asked)

      pub short_served : IsServedAs m cap w node now asked old (record { members = members; work = Down (site_files.Closed closed) None }) (event.TakeDoubt node tried kept ∷ []) (answer.NoMemory (told_of_failed tried kept))
      short_served =
          failures.put_short accepted m cap w asked kept old mid st read members node now what taking there can nodes (event.TakeDoubt node tried kept) [] false members (Down (site_files.Closed closed) None)
          (still_there (event.TakeDoubt node tried kept ∷ []) false still_part) (λ said. refl) refl (members_failed tried members (record { names = refl; live = refl; held = refl; greatest_is = refl })) still_down
          (omega (arith, tried_is)) (told_of_failed tried kept) (sym (took_is w node tried kept [])) refl
          (refl, λ later. absurd (omega (arith, later, tried_is)))

      -- ---- the master has no room for the epoch

      module _ (need most : ℕ) (over : most < need) (need_is : need ≡ next_need r tried node) (most_is : most ≡ MASTER_CAP) (short : need < 2 ^ 64 - 1) where
        wanted : need ≡ epoch_need (room_of r) (tried + 1) node
        wanted =
            let one : epoch ≡ tried + 1 = omega (arith, epoch_is, tried_is) in
            let size : length (master_text (Epoch epoch node)) ≡ length (master_text (Epoch (tried + 1) node)) = ap (λ (e : ℕ). length (master_text (Epoch e node))) one in
            omega (arith, need_is, short, size)

        full_part : Part m None w now (input_of asked) false (event.TakeDoubt node tried kept ∷ event.Full node need most ∷ []) mid mid
        full_part =
            joined m w now (input_of asked) false (event.TakeDoubt node tried kept) (event.Full node need most ∷ []) mid mid mid refl refl refl low
            (holds_some accepted (m.seen mid) r (system_of read.may.log) read.at_rest.holds read.may.site) still_part
            (still m mid (only_now mid) (failed_by w (event.TakeDoubt node tried kept)) (failed_world tried) now (input_of asked) false (event.Full node need most) r read.at_rest.holds
            (trying.crash_still accepted m only_now counts_now reads cap w kept old mid st read node now tried tried_is (input_of asked)) tt (λ room. refl)
            (subst (λ (b : Bool). LacksBehind (Some (not b)) (failed_world tried) (room_of r) node now (input_of asked) (event.Full node need most)) (sym (same_number tried w.greatest tried_is))
            (wanted, most_is, omega (arith, over, most_is, wanted))))

        pub master_full_served : IsServedAs m cap w node now asked old (record { members = members; work = Down (site_files.Closed closed) None })
            (event.TakeDoubt node tried kept ∷ event.Full node need most ∷ []) (answer.Full (told_of_failed tried kept) need most)
        master_full_served =
            failures.put accepted m cap w asked kept old mid st read members node now what taking there can nodes (event.TakeDoubt node tried kept) (event.Full node need most ∷ []) false members (Down (site_files.Closed closed) None)
            (still_there (event.TakeDoubt node tried kept ∷ event.Full node need most ∷ []) false full_part) (λ said. refl) refl
            (members_failed tried members (record { names = refl; live = refl; held = refl; greatest_is = refl })) still_down (omega (arith, tried_is))
            (answer.Full (told_of_failed tried kept) need most) refl (ap (λ (o : Option Takeover). answer.Full o need most) (sym (took_is w node tried kept (event.Full node need most ∷ []))))
            (refl, (refl, (λ other. absurd (other most_is)), (λ later. absurd (omega (arith, later, tried_is))), is_none_so (doubt_read w kept) sure))

    -- ---- a disk failed at the epoch

    module _ (closed : Closed D) (after : Members) (with_ : AreMembersWith members after epoch) (has : next_need r tried node ≤ MASTER_CAP) (run : LeavesOnly m mid (closed_disk closed) (HoldsEpoch r next)) where
      rises : (failed_world epoch).greatest ≤ w.greatest + 1
      rises = omega (arith, epoch_is)

      pub epoch_served : (live : Bool) → live ≡ unwrap_or (slice_get members.live.items node) false
          → IsServedAs m cap w node now asked old (record { members = after; work = Down (site_files.Closed closed) None }) (event.TakeDoubt node epoch kept ∷ []) (answer.Journal (told_of_failed epoch kept) live)
      epoch_served live is =
          failures.put accepted m cap w asked kept old mid st read members node now what taking there can nodes (event.TakeDoubt node epoch kept) [] true after (Down (site_files.Closed closed) None)
          (trying.epoch_part accepted m only_now counts_now reads cap w kept old mid st read node now tried tried_is (input_of asked) (closed_disk closed) true run has (λ no. cc))
          (λ said. cc) refl (members_failed epoch after with_)
          (record { none = refl; holds = trying.all_epoch accepted m only_now counts_now reads cap w kept old mid st read node now tried tried_is (input_of asked) (closed_disk closed) run }) rises
          (answer.Journal (told_of_failed epoch kept) live) refl
          ((λ i. answer.Journal (sym (took_is w node epoch kept []) i) (live_is live is i)))
          (refl, λ later. is_none_so (doubt_read w kept) sure)

      -- ---- the epoch is there

      module _ (rest : IsAtRest m next (closed_disk closed)) where
        down : IsDown m cap (failed_world epoch) (site_files.Closed closed) None
        down = record { none = refl; holds = trying.all_next accepted m only_now counts_now reads cap w kept old mid st read node now tried tried_is (input_of asked) (closed_disk closed) rest }

        first_part : Part m None w now (input_of asked) false (event.TakeDoubt node epoch kept ∷ []) mid (closed_disk closed)
        first_part = trying.epoch_part accepted m only_now counts_now reads cap w kept old mid st read node now tried tried_is (input_of asked) (closed_disk closed) false run has (λ no. rest.holds)

        then_part : (e : Event) → told_of_none e → CanCome (failed_world epoch) e → ((room : Room) → room_after (failed_world epoch) room e ≡ room)
            → HasRoom (failed_by w (event.TakeDoubt node epoch kept)) (failed_world epoch) (room_of next) now (input_of asked) e []
            → Part m None w now (input_of asked) false (event.TakeDoubt node epoch kept ∷ e ∷ []) mid (closed_disk closed)
        then_part e told comes stays room =
            joined m w now (input_of asked) false (event.TakeDoubt node epoch kept) (e ∷ []) mid (closed_disk closed) (closed_disk closed) refl told.0 told.1 low
            (holds_some accepted (m.seen (closed_disk closed)) next (system_of read.may.log) rest.holds read.may.site) first_part
            (still m (closed_disk closed) (only_now (closed_disk closed)) (failed_by w (event.TakeDoubt node epoch kept)) (failed_world epoch) now (input_of asked) false e next rest.holds
            (trying.crash_next accepted m only_now counts_now reads cap w kept old mid st read node now tried tried_is (input_of asked) (closed_disk closed) rest) comes stays room)

        -- the node isn't named
        pub unnamed_served : (name : List ℕ) → slice_get members.names.items node ≡ Some name → is_named s (nodes_on what) node ≡ false
            → IsServedAs m cap w node now asked old (record { members = after; work = Down (site_files.Closed closed) None }) (event.TakeDoubt node epoch kept ∷ event.NoManager node ∷ []) (answer.NoManager (told_of_failed epoch kept) name)
        unnamed_served name found unnamed =
            failures.put accepted m cap w asked kept old mid st read members node now what taking there can nodes (event.TakeDoubt node epoch kept) (event.NoManager node ∷ []) false after (Down (site_files.Closed closed) None)
            (then_part (event.NoManager node) (refl, refl) tt (λ room. refl) tt) (λ said. refl) refl (members_failed epoch after with_) down rises
            (answer.NoManager (told_of_failed epoch kept) name) refl
            ((λ i. answer.NoManager (sym (took_is w node epoch kept (event.NoManager node ∷ [])) i) (failures.name_is accepted m cap w asked kept old mid st read members node now what taking there can nodes name found i)))
            (refl, (refl, subst (λ (i : Input). is_named s (nodes_on i) node ≡ false) (sym taking.asks.0) unnamed, epoch_is, is_none_so (doubt_read w kept) sure))

        -- its record has no room
        pub full_served : (moment : ℕ) (need most : ℕ) → moment ≡ acting now s → is_named s (nodes_on what) node ≡ true
            → LacksThere (in_next st tried node) moment node (request.Took epoch (gone_in w s) (up_with w node s) (may_after s (nodes_on what))) need most
            → IsServedAs m cap w node now asked old (record { members = after; work = Down (site_files.Closed closed) None }) (event.TakeDoubt node epoch kept ∷ event.Full node need most ∷ []) (answer.Full (told_of_failed epoch kept) need most)
        full_served moment need most moment_is named lacks =
            let rec : Record = request_record moment node (request.Took epoch (gone_in w s) (up_with w node s) (may_after s (nodes_on what))) in
            let fits = read.may.fits in
            let small = taking.small in
            let short = lacks.short in
            let whole : need ≡ record_need (room_of next) rec = omega (arith, lacks.need_is, short, fits, small) in
            let is_rec : rec ≡ tried_takeover (failed_world epoch) node now (nodes_on (input_of asked)) =
            (λ i. request_record (moment_is i) node (request.Took epoch (gone_in w s) (up_with w node s) (may_after s (nodes_on (sym taking.asks.0 i))))) in
            failures.put accepted m cap w asked kept old mid st read members node now what taking there can nodes (event.TakeDoubt node epoch kept) (event.Full node need most ∷ []) false after (Down (site_files.Closed closed) None)
            (then_part (event.Full node need most) (refl, refl) tt (λ room. refl)
            (subst (λ (b : Bool). LacksBehind (Some (not b)) (failed_world epoch) (room_of next) node now (input_of asked) (event.Full node need most)) (sym (other_number epoch w.greatest (λ same. omega (arith, same, epoch_is))))
            (lacks_takeover (failed_world epoch) (room_of next) node now (input_of asked) (event.Full node need most) (failures.plain m cap w asked members node now what taking there can)
            (subst (λ (x : Record). Lacks (record_need (room_of next) x) (room_of next).cap (event.Full node need most)) is_rec
            (whole, lacks.cap_is, subst (λ (n : ℕ). r.says.cap < n) whole (subst (λ (c : ℕ). c < need) lacks.cap_is lacks.over))))))
            (λ said. refl) refl (members_failed epoch after with_) down rises
            (answer.Full (told_of_failed epoch kept) need most) refl (ap (λ (o : Option Takeover). answer.Full o need most) (sym (took_is w node epoch kept (event.Full node need most ∷ []))))
            (refl, (refl, (λ other. epoch_is), (λ later. subst (λ (i : Input). is_named s (nodes_on i) node ≡ true) (sym taking.asks.0) named), is_none_so (doubt_read w kept) sure))

    -- the next epoch by what is kept
    pub next_is : members.greatest + 1 ≡ epoch_behind st.recorded members.greatest
    next_is = omega (arith, epoch_is, tried_is)
