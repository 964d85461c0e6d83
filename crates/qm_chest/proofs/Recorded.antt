-- The record of a takeover, which is there behind its epoch, or in doubt.
use Rattle.std.proofs.Common.{◌≡◌, inl, inr, ℕ, zero, suc, ◌+◌, ◌^◌, ◌<◌, ◌≤◌, Bool, true, false, List, [], ◌∷◌, ◌++◌, length, take, refl, sym, ◌∙◌, ap, subst, arith, Option, None, Some, Result, Ok, filter_map, max, slice_get, slice_set, unwrap_or, IsTrue, length-append}
use Rattle.std.specs.List.{AllByRecursion}
use Rattle.qm_disk.specs.Disk.{CrashState, Meaning, IsLeft, LeavesOnly}
use Rattle.qm_disk.proofs.Moments.{holds_now, weaker}
use Rattle.qm_history.specs.Common.{size_of, Input, Record, Refusal, Reply, Request, System, acting, applied, is_among, system_after, system_of, request_record, Accepted, node_at, record_text, CanFollow, cluster, input_of, told_by, Epoch, master_text, record_of, doubt_read, gone_in, log_read, up_with}
use Rattle.qm_kinds.specs.declared.request.Request.TheVariants as request
use Rattle.qm_store.specs.Database.{disk_of as closed_disk}
use Rattle.qm_store.specs.Opening.{in_next_epoch, next_need}
use Rattle.qm_store.specs.Recorded.{Recorded, Holds, IsAtRest, epoch_behind, with_body}
use Rattle.qm_store.specs.declared.closed.Closed.{Closed}
use Rattle.qm_store.specs.declared.files.TheConstants.{MASTER_CAP}
use Rattle.qm_restore.specs.QueueFile.{IsSiteFile}
use Rattle.qm_acting.specs.Asking.{text_of}
use Rattle.qm_acting.specs.Standing.{Standing, standing_of, disk_of}
use Rattle.qm_acting.specs.Taking.{HoldsTaken}
use Rattle.qm_acting.specs.declared.files.Files.TheVariants as site_files
use Rattle.qm_acting.specs.declared.manager.Manager.{Manager}
use Rattle.qm_history.specs.declared.call.Answer.TheVariants as answer
use Rattle.qm_history.specs.declared.call.Call.{Call}
use Rattle.qm_history.specs.declared.event.Event.{Event}
use Rattle.qm_history.specs.declared.event.Event.TheVariants as event
use Rattle.qm_history.specs.declared.world.World.{World}
use Rattle.qm_history.specs.Answers.{started_by}
use Rattle.qm_history.specs.Room.{Room, HasRoomInDoubt, HaveRoom, epoch_need, record_need, room_after, taken}
use Rattle.qm_history.specs.Step.{CanBeInDoubt, IsTakeover, NamesNodes, after_event}
use Rattle.qm_history.specs.Takeover.{is_named, may_after, nodes_on}
use Rattle.qm_history.proofs.LogLemmas.{one_more}
use Rattle.qm_chest.specs.declared.members.Members.{Members}
use Rattle.qm_chest.specs.declared.work.Work.TheVariants.{Down}
use Rattle.qm_chest.specs.declared.place.Place.{Place}
use Rattle.qm_chest.specs.At.{CanBeAskedFor}
use Rattle.qm_chest.specs.Members.{AreMembersOf}
use Rattle.qm_chest.specs.Work.{IsUp}
use Rattle.qm_chest.specs.Holding.{MayHold, SomeHold, AllHold}
use Rattle.qm_chest.specs.Parts.{HoldsWithin, Part}
use Rattle.qm_chest.specs.Taking.{IsReadOf, IsTaken, IsTaking, told_of_failed}
use Rattle.qm_chest.specs.Whole.{IsServedAs}
use Rattle.qm_chest.proofs.Failures.{AreMembersWith, doubt_room, took_is}
use Rattle.qm_chest.proofs.Failures as failures
use Rattle.qm_chest.proofs.Failed as failed
use Rattle.qm_chest.proofs.Holding.{SiteFilesAreAccepted, grows, holds_log, holds_some, room_is, room_of}
use Rattle.qm_chest.proofs.Kept.{NodesKeepTheirNames}
use Rattle.qm_chest.proofs.Reading.{held_before}
use Rattle.qm_chest.proofs.Recording.{one_larger}
use Rattle.qm_chest.proofs.Steps.{SiteFilesGoOn}
use Rattle.qm_chest.proofs.Trying.{all_later, other_number, read_first}
use Rattle.qm_chest.proofs.Trying as trying

-- each is at most this, where one of them is set to it
set_below : (held : List ℕ) (node epoch : ℕ) → AllByRecursion (λ (h : ℕ). h ≤ epoch) held → AllByRecursion (λ (h : ℕ). h ≤ epoch) (slice_set held node epoch)
set_below [] node epoch all = tt
set_below (h ∷ held) zero epoch all = (omega arith, all.1)
set_below (h ∷ held) (suc node) epoch all = (all.0, set_below held node epoch all.1)

module _ (accepted : SiteFilesAreAccepted) (goes_on : SiteFilesGoOn) (names : NodesKeepTheirNames) {D : Type 0} (m : Meaning D)
    (only_now : (disk : D) (crashed : CrashState) → m.left_since disk (m.moment disk) crashed → IsLeft (m.may_leave disk) crashed)
    (counts_now : (disk : D) (t : ℕ) (crashed : CrashState) → t ≤ m.moment disk → IsLeft (m.may_leave disk) crashed → m.left_since disk t crashed)
    (reads : (disk : D) → IsLeft (m.may_leave disk) (m.seen disk)) (cap : ℕ) (w : World) (asked : Call) (kept : Option Bool) (old mid : D) (st : Standing) (read : IsReadOf m cap w kept old st mid)
    (members : Members) (node now : ℕ) (what : Input) (taking : IsTaking members node what cap w asked) (there : node < length members.names.items) (can : CanBeAskedFor node what)
    (nodes : cluster st.system ≡ members.names.items) (moment : ℕ) (moment_is : moment ≡ acting now (system_of (log_read w kept)))
    (e : ℕ) (g u y : List (List ℕ)) (e_is : e ≡ epoch_behind st.recorded members.greatest) (g_is : g ≡ gone_in w (system_of (log_read w kept))) (u_is : u ≡ up_with w node (system_of (log_read w kept)))
    (y_is : y ≡ may_after (system_of (log_read w kept)) (nodes_on what)) (named : is_named (system_of (log_read w kept)) (nodes_on what) node ≡ true)
    (follows : CanFollow (system_of (log_read w kept)) moment node (request.Took e g u y))
    (has : next_need st.recorded members.greatest node ≤ MASTER_CAP)
    (room : size_of st.recorded.bodies + (5 + length (text_of moment node (request.Took e g u y))) + 1 ≤ cap)
  where
    abbrev tried : ℕ
    tried = members.greatest

    abbrev r : Recorded
    r = st.recorded

    abbrev log : List Record
    log = log_read w kept

    abbrev s : System
    s = system_of log

    abbrev epoch : ℕ
    epoch = epoch_behind r tried

    abbrev next : Recorded
    next = in_next_epoch r tried node

    abbrev asks : Request
    asks = request.Took e g u y

    abbrev rec : Record
    rec = request_record moment node asks

    abbrev more : Recorded
    more = with_body next (record_text rec)

    tried_is : tried ≡ w.greatest
    tried_is = taking.members.greatest

    epoch_is : epoch ≡ w.greatest + 1
    epoch_is = trying.epoch_is accepted m only_now counts_now reads cap w kept old mid st read node now tried tried_is (input_of asked)

    e_next : e ≡ w.greatest + 1
    e_next = e_is ∙ epoch_is

    sure : doubt_read w kept ≡ None
    sure = trying.sure accepted m only_now counts_now reads cap w kept old mid st read node now tried tried_is (input_of asked)

    site : IsSiteFile r.bodies s
    site = trying.site accepted m only_now counts_now reads cap w kept old mid st read node now tried tried_is (input_of asked)

    recorded_next : AllByRecursion (λ (h : ℕ). h ≤ epoch) w.held
    recorded_next = trying.recorded_next accepted m only_now counts_now reads cap w kept old mid st read node now tried tried_is (input_of asked)

    grown : IsSiteFile (r.bodies ++ record_text rec ∷ []) (system_of (log ++ rec ∷ []))
    grown = subst (IsSiteFile (r.bodies ++ record_text rec ∷ [])) (sym (one_more log rec)) (goes_on r.bodies s moment node asks site follows)

    may_is : y ≡ may_after s (nodes_on (input_of asked))
    may_is = subst (λ (i : Input). y ≡ may_after s (nodes_on i)) (sym taking.asks.0) y_is

    names_nodes : NamesNodes w s node g u y
    names_nodes = record { gone_is = g_is; up_is = u_is; named = subst (λ (l : List (List ℕ)). IsTrue (is_among l (node_at node s.nodes))) (sym y_is) named }

    -- ---- what a crash leaves

    within_taken : (events : List Event) → told_by events ≡ kept → filter_map record_of events ≡ rec ∷ [] → (files : CrashState) → HoldsTaken r next (record_text rec) files → HoldsWithin w events files
    within_taken events told records files (inl held) =
        trying.within_log accepted m only_now counts_now reads cap w kept old mid st read node now tried tried_is (input_of asked) events told files r held site read.may.recorded
    within_taken events told records files (inr (inl held)) =
        trying.within_log accepted m only_now counts_now reads cap w kept old mid st read node now tried tried_is (input_of asked) events told files next held site recorded_next
    within_taken events told records files (inr (inr held)) = record {
      log = log ++ rec ∷ [];
      left = inr (inr (1, λ i. log_read w (sym told i) ++ take 1 (sym records i)));
      holds = holds_log accepted files more (log ++ rec ∷ []) held grown;
      recorded = recorded_next;
    }

    more_fits : size_of more.bodies ≤ max cap (2 ^ 62)
    more_fits = let larger = one_larger r.bodies (record_text rec) in omega (arith, larger, room)

    within_cap : record_need (room_of next) rec ≤ (room_of next).cap
    within_cap = let is = read.may.cap_is in omega (arith, room, is)

    -- ---- the record is in doubt

    module _ (closed : Closed D) (after : Members) (with_ : AreMembersWith members after epoch) (run : LeavesOnly m mid (closed_disk closed) (HoldsTaken r next (record_text rec))) where
      abbrev v : World
      v = after_event w (event.TakeDoubt node epoch kept)

      abbrev doubtful : World
      doubtful = after_event v (event.Doubt node moment asks)

      abbrev place : Place
      place = record { file = r.says.live; before = length r.bodies }

      in_doubt : (files : CrashState) → HoldsTaken r next (record_text rec) files → SomeHold (MayHold cap doubtful (Some place)) files
      in_doubt files (inl held) = record {
        recorded = r;
        holds = held;
        is = record { log = log; found = (refl, inl (refl, refl)); site = site; cap_is = read.may.cap_is; fits = read.may.fits; epoch = omega arith; recorded = read.may.recorded };
      }
      in_doubt files (inr (inl held)) = record {
        recorded = next;
        holds = held;
        is = record { log = log; found = (refl, inl (refl, refl)); site = site; cap_is = read.may.cap_is; fits = read.may.fits; epoch = omega arith; recorded = recorded_next };
      }
      in_doubt files (inr (inr held)) = record {
        recorded = more;
        holds = held;
        is = record {
          log = log ++ rec ∷ [];
          found = (refl, inr (length-append r.bodies (record_text rec ∷ []), refl));
          site = grown;
          cap_is = read.may.cap_is;
          fits = more_fits;
          epoch = omega arith;
          recorded = recorded_next;
        };
      }

      doubt_holds : AllHold m (MayHold cap doubtful (Some place)) (closed_disk closed)
      doubt_holds = record {
        reads = in_doubt (m.seen (closed_disk closed)) (holds_now m mid (closed_disk closed) (HoldsTaken r next (record_text rec)) run (counts_now (closed_disk closed)) (m.seen (closed_disk closed)) (reads (closed_disk closed)));
        crash = λ crashed left. in_doubt crashed (holds_now m mid (closed_disk closed) (HoldsTaken r next (record_text rec)) run (counts_now (closed_disk closed)) crashed left);
      }

      can_doubt : CanBeInDoubt v node moment asks
      can_doubt = record {
        no_manager = refl;
        no_doubt = failed.is_none_so (doubt_read w kept) sure;
        epoch_is = e_is;
        nodes = record { gone_is = names_nodes.gone_is; up_is = names_nodes.up_is; named = names_nodes.named };
        follows = follows;
      }

      events : List Event
      events = event.TakeDoubt node epoch kept ∷ event.Doubt node moment asks ∷ []

      doubt_part : Part m None w now (input_of asked) true (event.TakeDoubt node epoch kept ∷ event.Doubt node moment asks ∷ []) mid (closed_disk closed)
      doubt_part =
          let first = trying.epoch_told accepted m only_now counts_now reads cap w kept old mid st read node now tried tried_is (input_of asked) has in
          record {
            comes = (first.0, (can_doubt, tt));
            moments = weaker m mid (closed_disk closed) (HoldsTaken r next (record_text rec)) (HoldsWithin w (event.TakeDoubt node epoch kept ∷ event.Doubt node moment asks ∷ [])) run
                (λ crashed h. within_taken (event.TakeDoubt node epoch kept ∷ event.Doubt node moment asks ∷ []) refl refl crashed h);
            files = tt;
            reaches = λ quiet. cc;
            room = λ says records h. subst (λ (x : Room). HaveRoom None w x now (input_of asked) (event.TakeDoubt node epoch kept ∷ event.Doubt node moment asks ∷ []))
                (sym (room_is (m.seen mid) says records h r read.at_rest.holds)) (
                  first.1,
                  (
                    subst (λ (x : Room). HasRoomInDoubt v x (input_of asked) rec)
                        (trying.next_room accepted m only_now counts_now reads cap w kept old mid st read node now tried tried_is (input_of asked))
                        (doubt_room v (room_of next) (input_of asked) rec (failures.plain m cap w asked members node now what taking there can) within_cap),
                    tt,
                  ),
                );
          }

      pub doubt_served : (live : Bool) → live ≡ unwrap_or (slice_get members.live.items node) false
          → IsServedAs m cap w node now asked old (record { members = after; work = Down (site_files.Closed closed) (Some place) })
          (event.TakeDoubt node epoch kept ∷ event.Doubt node moment asks ∷ []) (answer.Journal (told_of_failed epoch kept) live)
      doubt_served live is =
          failures.put accepted m cap w asked kept old mid st read members node now what taking there can nodes (event.TakeDoubt node epoch kept) (event.Doubt node moment asks ∷ []) true after (Down (site_files.Closed closed) (Some place))
          doubt_part (λ said. cc) refl
          (record {
            names = failures.cluster_is accepted m cap w asked kept old mid st read members node now what taking there can nodes ∙ sym with_.names;
            live = with_.live ∙ taking.members.live;
            held = with_.held ∙ taking.members.held;
            greatest = with_.greatest_is;
          })
          (record { none = refl; holds = doubt_holds }) (omega (arith, epoch_is)) (answer.Journal (told_of_failed epoch kept) live) refl
          ((λ i. answer.Journal (sym (took_is w node epoch kept (event.Doubt node moment asks ∷ [])) i)
          ((is ∙ ap (λ (l : List Bool). unwrap_or (slice_get l node) false) taking.members.live) i)))
          (refl, (refl, moment_is, may_is, epoch_is, failed.is_none_so (doubt_read w kept) sure))

    -- ---- the record is there

    module _ (manager : Manager D) (reply : Reply) (accept : applied s moment node asks ≡ Ok (record { system = (standing_of manager).system; reply = reply }))
        (recorded : (standing_of manager).recorded ≡ more) (rest : IsAtRest m (standing_of manager).recorded (disk_of manager)) (run : LeavesOnly m mid (disk_of manager) (HoldsTaken r next (record_text rec)))
        (after : Members) (after_names : after.names.items ≡ members.names.items) (after_live : after.live.items ≡ members.live.items) (after_held : after.held.items ≡ slice_set members.held.items node e)
        (after_greatest : after.greatest ≡ e)
      where
        abbrev took : Event
        took = event.Took node moment e g u y kept

        abbrev behind : World
        behind = after_event w (event.Took node moment e g u y kept)

        can_take : IsTakeover w node moment e g u y kept
        can_take = record { next_epoch = e_next; told = read.told; nodes = names_nodes; follows = follows }

        took_room : room_of more ≡ room_after w (room_of r) took
        took_room =
            (λ i. record { master = one_larger r.master (master_text (Epoch epoch node)) i; live = one_larger r.bodies (record_text rec) i; file = r.says.live; cap = r.says.cap })
            ∙ ap (λ (x : ℕ). record { master = size_of r.master + taken (master_text (Epoch x node)); live = size_of r.bodies + taken (record_text rec); file = r.says.live; cap = r.says.cap }) (sym e_is)

        more_holds : Holds (m.seen (disk_of manager)) more
        more_holds = subst (Holds (m.seen (disk_of manager))) recorded rest.holds

        part : Part m None w now (input_of asked) false (took ∷ []) mid (disk_of manager)
        part = record {
          comes = (can_take, tt);
          moments = weaker m mid (disk_of manager) (HoldsTaken r next (record_text rec)) (HoldsWithin w (took ∷ [])) run (λ crashed h. within_taken (took ∷ []) refl refl crashed h);
          files = tt;
          reaches = λ quiet. grows m (m.seen mid) (m.seen (disk_of manager)) r more (λ room. room_after w room took) read.at_rest.holds more_holds took_room;
          room = λ says records h. subst (λ (x : Room). HaveRoom None w x now (input_of asked) (took ∷ [])) (sym (room_is (m.seen mid) says records h r read.at_rest.holds)) (
            (
              subst (λ (x : ℕ). epoch_need (room_of r) x node ≤ 1048576) (sym e_is)
                  (trying.epoch_room accepted m only_now counts_now reads cap w kept old mid st read node now tried tried_is (input_of asked) has),
              within_cap,
            ),
            tt,
          );
        }

        is_up : IsUp m cap behind manager node
        is_up = record {
          role = refl;
          sure = refl;
          system = sym (one_more log rec ∙ ap (system_after s) accept);
          at_rest = rest;
          may = subst (MayHold cap behind None) (sym recorded) (record {
            log = log ++ rec ∷ [];
            found = refl;
            site = grown;
            cap_is = read.may.cap_is;
            fits = more_fits;
            epoch = omega (arith, e_is);
            recorded = subst (λ (x : ℕ). AllByRecursion (λ (h : ℕ). h ≤ epoch) (slice_set w.held node x)) (sym e_is) (set_below w.held node epoch recorded_next);
          });
          epoch = ap (λ (x : Recorded). x.says.epoch) recorded ∙ sym e_is;
        }

        are_members : AreMembersOf behind after
        are_members = record {
          names = ap cluster (one_more log rec ∙ ap (system_after s) accept)
              ∙ names s moment node asks (record { system = (standing_of manager).system; reply = reply }) accept
              ∙ failures.cluster_is accepted m cap w asked kept old mid st read members node now what taking there can nodes ∙ sym after_names;
          live = after_live ∙ taking.members.live;
          held = after_held ∙ ap (λ (l : List ℕ). slice_set l node e) taking.members.held;
          greatest = after_greatest;
        }

        pub is_taken : IsTaken m cap w node now (input_of asked) old after
            (record { manager = manager; moment = moment; epoch = e; gone = g; up = u; may = y; kept = kept; started = reply.started })
        is_taken = record {
          part = read_first accepted m w now (input_of asked) false (took ∷ []) old mid (disk_of manager) r (held_before m old mid r read.at_rest read.looks) read.at_rest.holds
              (holds_some accepted (m.seen mid) r s read.at_rest.holds site) read.looks (read.before (took ∷ [])) part;
          moment = moment_is;
          may = may_is;
          told = ap (λ (res : Result Accepted Refusal). Some (record { epoch = e; kept = kept; started = started_by res })) accept;
          low = trying.low accepted m only_now counts_now reads cap w kept old mid st read node now tried tried_is (input_of asked);
          members = are_members;
          up = is_up;
        }
