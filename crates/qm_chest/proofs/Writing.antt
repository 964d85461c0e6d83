-- What writing the epoch and the record of a takeover comes to, by what the call answered.
use Rattle.std.proofs.Common.{◌≡◌, ℕ, ◌+◌, ◌<◌, ◌≤◌, Bool, true, false, List, length, refl, sym, ◌∙◌, ap, subst, arith, Option, None, Some, Ok, slice_get, slice_set, unwrap_or, IsTrue}
use Rattle.qm_disk.specs.Disk.{CrashState, Meaning, IsLeft, IsQuiet, LeavesOnly}
use Rattle.qm_history.specs.Common.{Input, Reply, Request, System, acting, applied, system_of, CanFollow, cluster, input_of, gone_in, log_read, up_with}
use Rattle.qm_kinds.specs.declared.request.Request.TheVariants as request
use Rattle.qm_store.specs.Database.{disk_of as closed_disk}
use Rattle.qm_store.specs.Opening.{in_next_epoch, next_need}
use Rattle.qm_store.specs.Recorded.{Recorded, IsAtRest, epoch_behind, with_body}
use Rattle.qm_store.specs.declared.closed.Closed.{Closed}
use Rattle.qm_store.specs.declared.files.TheConstants.{MASTER_CAP}
use Rattle.qm_acting.specs.Asking.{IsInDoubt, Lacks, need_with, text_of}
use Rattle.qm_acting.specs.Spare.{KeepsSpare}
use Rattle.qm_acting.specs.Standing.{Standing, standing_of, disk_of}
use Rattle.qm_acting.specs.Taking.{HoldsEpoch, HoldsTaken, Takes, in_next}
use Rattle.qm_acting.specs.declared.manager.Manager.{Manager}
use Rattle.qm_history.specs.declared.call.Answer.TheVariants as answer
use Rattle.qm_history.specs.declared.call.Call.{Call}
use Rattle.qm_history.specs.declared.event.Event.TheVariants as event
use Rattle.qm_history.specs.declared.world.World.{World}
use Rattle.qm_history.specs.Takeover.{is_named, may_after, nodes_on}
use Rattle.qm_chest.specs.declared.members.Members.{Members}
use Rattle.qm_chest.specs.declared.serving.Served.{Served}
use Rattle.qm_chest.specs.declared.taken.Taken.{Taken}
use Rattle.qm_chest.specs.declared.work.Work.TheVariants.{Up}
use Rattle.qm_chest.specs.At.{CanBeAskedFor, IsWorkOf}
use Rattle.qm_chest.specs.Taking.{IsReadOf, IsTaken, IsTaking, TakesFrom, failed, request_of, told_of_failed}
use Rattle.qm_chest.specs.Whole.{IsServedAs, both}
use Rattle.qm_chest.proofs.Failed as failing
use Rattle.qm_chest.proofs.Failures.{AreMembersWith}
use Rattle.qm_chest.proofs.Holding.{SiteFilesAreAccepted}
use Rattle.qm_chest.proofs.Kept.{NodesKeepTheirNames}
use Rattle.qm_chest.proofs.Lists.{request_is}
use Rattle.qm_chest.proofs.Outcomes.{served_as}
use Rattle.qm_chest.proofs.Recorded as recorded
use Rattle.qm_chest.proofs.Recording.{whole_need}
use Rattle.qm_chest.proofs.Steps.{SiteFilesGoOn}

module _ (accepted : SiteFilesAreAccepted) (goes_on : SiteFilesGoOn) (names : NodesKeepTheirNames) {D : Type 0} (m : Meaning D)
    (only_now : (disk : D) (crashed : CrashState) → m.left_since disk (m.moment disk) crashed → IsLeft (m.may_leave disk) crashed)
    (counts_now : (disk : D) (t : ℕ) (crashed : CrashState) → t ≤ m.moment disk → IsLeft (m.may_leave disk) crashed → m.left_since disk t crashed)
    (reads : (disk : D) → IsLeft (m.may_leave disk) (m.seen disk)) (cap : ℕ) (w : World) (asked : Call) (kept : Option Bool) (old mid : D) (st : Standing) (read : IsReadOf m cap w kept old st mid)
    (members : Members) (node now : ℕ) (what : Input) (taking : IsTaking members node what cap w asked) (there : node < length members.names.items) (can : CanBeAskedFor node what)
    (nodes : cluster st.system ≡ members.names.items) (named : is_named st.system (nodes_on what) node ≡ true) (moment : ℕ) (moment_is : moment ≡ acting now st.system)
    (epoch : ℕ) (epoch_is : epoch ≡ epoch_behind st.recorded members.greatest) (asks : Request) (asks_is : asks ≡ request_of members st.system node what epoch)
  where
    abbrev s : System
    s = system_of (log_read w kept)

    abbrev next_epoch : ℕ
    next_epoch = epoch_behind st.recorded members.greatest

    abbrev next : Recorded
    next = in_next_epoch st.recorded members.greatest node

    -- the request that the model knows
    abbrev took : Request
    took = request.Took next_epoch (gone_in w s) (up_with w node s) (may_after s (nodes_on what))

    asks_took : asks ≡ took
    asks_took = asks_is ∙ ap (λ (e : ℕ). request_of members st.system node what e) epoch_is ∙ request_is w s st.system node what next_epoch members taking.members read.system

    at_moment : moment ≡ acting now s
    at_moment = moment_is ∙ ap (acting now) read.system

    named_there : is_named s (nodes_on what) node ≡ true
    named_there = subst (λ (t : System). is_named t (nodes_on what) node ≡ true) read.system named

    kept_with : (after : Members) → after.names.items ≡ members.names.items → after.live.items ≡ members.live.items → after.held.items ≡ members.held.items → after.greatest ≡ members.greatest + 1
        → AreMembersWith members after next_epoch
    kept_with after after_names after_live after_held after_greatest = record {
      names = after_names;
      live = after_live;
      held = after_held;
      greatest_is = after_greatest ∙ failing.next_is accepted m only_now counts_now reads cap w asked kept old mid st read members node now what taking there can nodes;
    }

    follows_there : CanFollow st.system moment node asks → CanFollow s moment node took
    follows_there follows =
        subst (λ (t : System). CanFollow t moment node took) read.system (subst (λ (x : Request). CanFollow st.system moment node x) asks_took follows)

    module _ (closed : Closed D) (after : Members) (after_names : after.names.items ≡ members.names.items) (after_live : after.live.items ≡ members.live.items) (after_held : after.held.items ≡ members.held.items)
        (after_greatest : after.greatest ≡ members.greatest + 1) (has : next_need st.recorded members.greatest node ≤ MASTER_CAP) (served : Served D)
      where
        live : Bool
        live = unwrap_or (slice_get members.live.items node) false

        pub epoch_at : LeavesOnly m mid (closed_disk closed) (HoldsEpoch st.recorded next)
            → served ≡ failed closed None node epoch kept None (answer.Journal (told_of_failed epoch kept) (unwrap_or (slice_get members.live.items node) false))
            → IsServedAs m cap w node now asked old (record { members = after; work = served.work }) (both served.first served.second) served.answer
        epoch_at run is =
            served_as m cap w node now asked old after served (failed closed None node next_epoch kept None (answer.Journal (told_of_failed next_epoch kept) (unwrap_or (slice_get members.live.items node) false)))
            (is ∙ ap (λ (e : ℕ). failed closed None node e kept None (answer.Journal (told_of_failed e kept) (unwrap_or (slice_get members.live.items node) false))) epoch_is)
            (failing.epoch_served accepted m only_now counts_now reads cap w asked kept old mid st read members node now what taking there can nodes closed after
            (kept_with after after_names after_live after_held after_greatest) has run (unwrap_or (slice_get members.live.items node) false) refl)

        pub full_at : (need most : ℕ) → IsAtRest m next (closed_disk closed) → Lacks (in_next st members.greatest node) moment node asks need most → LeavesOnly m mid (closed_disk closed) (HoldsEpoch st.recorded next)
            → served ≡ failed closed None node epoch kept (Some (event.Full node need most)) (answer.Full (told_of_failed epoch kept) need most)
            → IsServedAs m cap w node now asked old (record { members = after; work = served.work }) (both served.first served.second) served.answer
        full_at need most rest lacks run is =
            served_as m cap w node now asked old after served (failed closed None node next_epoch kept (Some (event.Full node need most)) (answer.Full (told_of_failed next_epoch kept) need most))
            (is ∙ ap (λ (e : ℕ). failed closed None node e kept (Some (event.Full node need most)) (answer.Full (told_of_failed e kept) need most)) epoch_is)
            (failing.full_served accepted m only_now counts_now reads cap w asked kept old mid st read members node now what taking there can nodes closed after
            (kept_with after after_names after_live after_held after_greatest) has run rest moment need most at_moment named_there
            (subst (λ (x : Request). Lacks (in_next st members.greatest node) moment node x need most) asks_took lacks))

        pub doubt_at : (file before : ℕ) → file ≡ st.recorded.says.live → before ≡ length st.recorded.bodies → IsInDoubt (in_next st members.greatest node) moment node asks
            → LeavesOnly m mid (closed_disk closed) (HoldsTaken st.recorded next (text_of moment node asks))
            → served ≡ failed closed (Some (record { file = file; before = before })) node epoch kept (Some (event.Doubt node moment asks))
            (answer.Journal (told_of_failed epoch kept) (unwrap_or (slice_get members.live.items node) false))
            → IsServedAs m cap w node now asked old (record { members = after; work = served.work }) (both served.first served.second) served.answer
        doubt_at file before file_is before_is doubt run is =
            let small = taking.small in
            let cap_is = read.may.cap_is in
            let there_ : IsInDoubt (in_next st members.greatest node) moment node took = subst (λ (x : Request). IsInDoubt (in_next st members.greatest node) moment node x) asks_took doubt in
            let whole = whole_need st.recorded.bodies (text_of moment node took) st.recorded.says.cap (omega (arith, small, cap_is)) there_.room in
            served_as m cap w node now asked old after served
            (failed closed (Some (record { file = st.recorded.says.live; before = length st.recorded.bodies })) node next_epoch kept (Some (event.Doubt node moment took))
            (answer.Journal (told_of_failed next_epoch kept) (unwrap_or (slice_get members.live.items node) false)))
            (is ∙ (λ i. failed closed (Some (record { file = file_is i; before = before_is i })) node (epoch_is i) kept (Some (event.Doubt node moment (asks_took i)))
            (answer.Journal (told_of_failed (epoch_is i) kept) (unwrap_or (slice_get members.live.items node) false))))
            (recorded.doubt_served accepted goes_on names m only_now counts_now reads cap w asked kept old mid st read members node now what taking there can nodes moment at_moment
            next_epoch (gone_in w s) (up_with w node s) (may_after s (nodes_on what)) refl refl refl refl named_there
            (subst (λ (t : System). CanFollow t moment node took) read.system there_.follows) has (omega (arith, whole, cap_is)) closed after (kept_with after after_names after_live after_held after_greatest)
            (subst (λ (x : Request). LeavesOnly m mid (closed_disk closed) (HoldsTaken st.recorded next (text_of moment node x))) asks_took run) (unwrap_or (slice_get members.live.items node) false) refl)

    pub took_at : (manager : Manager D) (reply : Reply) (after : Members) (taken : Taken D) → IsTrue m.tells → Takes m members.greatest moment node asks st manager reply
        → LeavesOnly m mid (disk_of manager) (HoldsTaken st.recorded next (text_of moment node asks))
        → after.names.items ≡ members.names.items → after.live.items ≡ members.live.items → after.held.items ≡ slice_set members.held.items node epoch → after.greatest ≡ members.greatest + 1
        → ((e : ℕ) (g u y : List (List ℕ)) → asks ≡ request.Took e g u y
        → taken ≡ record { manager = manager; moment = moment; epoch = e; gone = g; up = u; may = y; kept = kept; started = reply.started })
        → IsTaken m cap w node now (input_of asked) old after taken
    took_at manager reply after taken tells takes run after_names after_live after_held after_greatest is =
        let small = taking.small in
        let cap_is = read.may.cap_is in
        let does = takes.does in
        let room = subst (λ (x : Request). need_with next (text_of moment node x) ≤ st.recorded.says.cap) asks_took does.room in
        let whole = whole_need st.recorded.bodies (text_of moment node took) st.recorded.says.cap (omega (arith, small, cap_is)) room in
        let accept : applied s moment node took ≡ Ok (record { system = (standing_of manager).system; reply = reply }) =
        subst (λ (t : System). applied t moment node took ≡ Ok (record { system = (standing_of manager).system; reply = reply })) read.system
        (subst (λ (x : Request). applied st.system moment node x ≡ Ok (record { system = (standing_of manager).system; reply = reply })) asks_took does.accepted) in
        subst (λ (t : Taken D). IsTaken m cap w node now (input_of asked) old after t) (sym (is next_epoch (gone_in w s) (up_with w node s) (may_after s (nodes_on what)) asks_took))
        (recorded.is_taken accepted goes_on names m only_now counts_now reads cap w asked kept old mid st read members node now what taking there can nodes moment at_moment
        next_epoch (gone_in w s) (up_with w node s) (may_after s (nodes_on what)) refl refl refl refl named_there (follows_there does.follows) takes.master_room (omega (arith, whole, cap_is))
        manager reply accept (does.recorded ∙ ap (λ (x : Request). with_body next (text_of moment node x)) asks_took) (takes.ready.at_rest tells)
        (subst (λ (x : Request). LeavesOnly m mid (disk_of manager) (HoldsTaken st.recorded next (text_of moment node x))) asks_took run)
        after after_names after_live (after_held ∙ ap (λ (e : ℕ). slice_set members.held.items node e) epoch_is)
        (after_greatest ∙ failing.next_is accepted m only_now counts_now reads cap w asked kept old mid st read members node now what taking there can nodes))

-- whatever the disks tell, a manager of the same nodes is up behind it
pub took_leaves : NodesKeepTheirNames → {D : Type 0} (m : Meaning D) (members after : Members) (disk : D) (node moment : ℕ) (asks : Request) (st : Standing) (manager : Manager D) (reply : Reply) (taken : Taken D)
    → cluster st.system ≡ members.names.items → node < length members.names.items → Takes m members.greatest moment node asks st manager reply → after.names.items ≡ members.names.items → after.greatest ≤ members.greatest + 1
    → IsQuiet m disk (disk_of manager) → (IsTrue m.tells → KeepsSpare m disk (disk_of manager)) → taken.manager ≡ manager → TakesFrom m members disk node after taken
took_leaves names m members after disk node moment asks st manager reply taken nodes there takes after_names rises quiet spare is = record {
  work = subst (λ (x : Manager _). IsWorkOf m after.names.items (Up x node)) (sym is) (
    takes.ready,
    names st.system moment node asks (record { system = (standing_of manager).system; reply = reply }) takes.does.accepted ∙ nodes ∙ sym after_names,
    subst (λ (l : List (List ℕ)). node < length l) (sym after_names) there,
  );
  names = after_names;
  rises = rises;
  quiet = subst (λ (x : Manager _). IsQuiet m disk (disk_of x)) (sym is) quiet;
  spare = λ tells. subst (λ (x : Manager _). KeepsSpare m disk (disk_of x)) (sym is) (spare tells);
}
