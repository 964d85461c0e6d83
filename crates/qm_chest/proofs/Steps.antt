-- What a request comes to that is asked of a manager which stands for a world.
use Rattle.std.proofs.Common.{◌≡◌, ℕ, ◌+◌, ◌-◌, ◌^◌, ◌<◌, ◌≤◌, Bool, true, false, List, [], ◌∷◌, ◌++◌, length, refl, sym, ◌∙◌, ap, subst, arith, Option, None, Some, Result, Ok, Err, IsSome, IsOk}
use Rattle.qm_disk.specs.Disk.{CrashState, Meaning, IsLeft, LeavesOnly}
use Rattle.qm_history.specs.Common.{need_of, size_of, Input, Record, Refusal, Reply, Request, System, acting, applied, after_record, system_after, system_of, request_record, Accepted, record_text, GREATEST_CAP, CanFollow, CanBeInDoubt, CanCome, IsReply, after_event, is_live, system_in}
use Rattle.qm_kinds.specs.declared.input.Input.TheVariants as input
use Rattle.qm_kinds.specs.declared.request.Request.TheVariants as request
use Rattle.qm_store.specs.Database.{disk_of as closed_disk}
use Rattle.qm_store.specs.Recorded.{Recorded, Holds, HoldsEither, IsAtRest, with_body}
use Rattle.qm_store.proofs.Moving.{left_at_rest}
use Rattle.qm_store.specs.declared.closed.Closed.{Closed}
use Rattle.qm_restore.specs.QueueFile.{IsSiteFile}
use Rattle.qm_acting.specs.Asking.{Does, IsInDoubt, Lacks, text_of}
use Rattle.qm_acting.specs.Standing.{Standing, standing_of, disk_of}
use Rattle.qm_acting.specs.declared.files.Files.TheVariants as site_files
use Rattle.qm_acting.specs.declared.manager.Manager.{Manager}
use Rattle.qm_history.specs.declared.call.Answer.TheVariants as answer
use Rattle.qm_history.specs.declared.call.Takeover.{Takeover}
use Rattle.qm_history.specs.declared.event.Event.{Event}
use Rattle.qm_history.specs.declared.event.Event.TheVariants as event
use Rattle.qm_history.specs.declared.world.World.{World}
use Rattle.qm_history.specs.declared.world.Role.{Role}
use Rattle.qm_history.specs.Contents.{HoldWorld, IsEpochOf}
use Rattle.qm_history.specs.Room.{Room, HasRoom, own_request, record_need, room_after, Lacks as LacksRoom}
use Rattle.qm_history.specs.Turn.{IsDecided}
use Rattle.qm_history.proofs.LogLemmas.{one_more}
use Rattle.qm_chest.specs.declared.work.Work.TheVariants.{Up, Down}
use Rattle.qm_chest.specs.Work.{IsUp, IsDown}
use Rattle.qm_chest.specs.Steps.{ComesTo, IsToManager}
use Rattle.qm_chest.specs.Holding.{MayHold}
use Rattle.qm_chest.specs.Parts.{Part}
use Rattle.qm_chest.proofs.Holding.{SiteFilesAreAccepted, holds_world, room_of, still}
use Rattle.qm_chest.proofs.Recording.{whole_need, done_part, doubt_part, doubt_holds, lacks_own, one_more_holds, found_sure}

-- files of a site go on with the record of each request that can follow
abbrev pub SiteFilesGoOn : Type 0
SiteFilesGoOn = (bodies : List (List ℕ)) (s : System) (moment node : ℕ) (asked : Request) → IsSiteFile bodies s → CanFollow s moment node asked
    → IsSiteFile (bodies ++ text_of moment node asked ∷ []) (after_record s (request_record moment node asked))

is_some : {X : Type 0} (o : Option X) (x : X) → o ≡ Some x → IsSome o
is_some (Some y) x is = refl
is_some None x is = cc

-- the epoch of a manager's role
pub epoch_of_role : (w : World) (epoch : ℕ) (manager : Option Role) (role : Role) → manager ≡ Some role → epoch ≡ role.epoch → IsEpochOf w manager epoch
epoch_of_role w epoch (Some other) role is same = let one : ◌≡◌ {A = Role} other role = cc in same ∙ sym (ap (λ (x : Role). x.epoch) one)
epoch_of_role w epoch None role is same = cc

-- a reply of an accepted request
replies : (res : Result Accepted Refusal) (system : System) (reply : Reply) → res ≡ Ok (record { system = system; reply = reply }) → IsReply reply res
replies (Ok a) system reply is = let same : ◌≡◌ {A = Accepted} a (record { system = system; reply = reply }) = cc in sym (ap (λ (x : Accepted). x.reply) same)
replies (Err refusal) system reply is = cc

accepted_system : (s : System) (res : Result Accepted Refusal) (system : System) (reply : Reply) → res ≡ Ok (record { system = system; reply = reply }) → system_after s res ≡ system
accepted_system s (Ok a) system reply is = let same : ◌≡◌ {A = Accepted} a (record { system = system; reply = reply }) = cc in ap (λ (x : Accepted). x.system) same
accepted_system s (Err refusal) system reply is = cc

can_be_in_doubt : (w : World) (node moment : ℕ) (asked : Request) → IsToManager asked → IsSome w.manager → CanFollow (system_in w) moment node asked → CanBeInDoubt w node moment asked
can_be_in_doubt w node moment (request.Took epoch gone up may) plain managed follows = absurd plain
can_be_in_doubt w node moment _ plain managed follows = (managed, follows)

module _ (accepted : SiteFilesAreAccepted) (goes_on : SiteFilesGoOn) {D : Type 0} (m : Meaning D) (only_now : (disk : D) (crashed : CrashState) → m.left_since disk (m.moment disk) crashed → IsLeft (m.may_leave disk) crashed)
    (counts_now : (disk : D) (t : ℕ) (crashed : CrashState) → t ≤ m.moment disk → IsLeft (m.may_leave disk) crashed → m.left_since disk t crashed)
    (reads : (disk : D) → IsLeft (m.may_leave disk) (m.seen disk)) (cap : ℕ) (w : World) (manager : Manager D) (at : ℕ) (up : IsUp m cap w manager at)
  where
    abbrev r : Recorded
    r = (standing_of manager).recorded

    abbrev disk : D
    disk = disk_of manager

    managed : IsSome w.manager
    managed = is_some w.manager (record { node = at; epoch = w.greatest }) up.role

    site : IsSiteFile r.bodies (system_in w)
    site = subst (λ (log : List Record). IsSiteFile r.bodies (system_of log)) (found_sure w.log up.may.log r w.doubt up.sure up.may.found) up.may.site

    -- what a manager's files hold is the world's
    pub world_held : (files : CrashState) → Holds files r → HoldWorld files w
    world_held files holds = holds_world accepted cap w None files r holds up.may (epoch_of_role w r.says.epoch w.manager (record { node = at; epoch = w.greatest }) up.role up.epoch)

    pub crash_holds : (crashed : CrashState) → IsLeft (m.may_leave disk) crashed → HoldWorld crashed w
    crash_holds crashed left = world_held crashed (left_at_rest m r disk up.at_rest crashed left)

    -- ---- a request, at its acting moment

    module _ (node reading : ℕ) (asked : Input) (request : Request) (own : own_request w node asked ≡ Some request) where
      abbrev moment : ℕ
      moment = acting reading (system_in w)

      abbrev rec : Record
      rec = request_record moment node request

      grown : CanFollow (system_in w) moment node request → IsSiteFile (r.bodies ++ record_text rec ∷ []) (system_of (w.log ++ rec ∷ []))
      grown follows = subst (IsSiteFile (r.bodies ++ record_text rec ∷ [])) (sym (one_more w.log rec)) (goes_on r.bodies (system_in w) moment node request site follows)

      module _ (follows : CanFollow (system_in w) moment node request) (room : need_of r.bodies (record_text rec) ≤ r.says.cap) (small : r.says.cap < 2 ^ 64 - 1) where
        within : size_of r.bodies + (5 + length (record_text rec)) + 1 ≤ cap
        within = let has = whole_need r.bodies (record_text rec) r.says.cap small room in omega (arith, has, up.may.cap_is)

        -- it is done
        pub done_step : (new : Manager D) (reply : Reply) → applied (system_in w) moment node request ≡ Ok (record { system = (standing_of new).system; reply = reply })
            → (standing_of new).recorded ≡ with_body r (record_text rec) → IsAtRest m (standing_of new).recorded (disk_of new)
            → LeavesOnly m disk (disk_of new) (HoldsEither (m.may_leave disk) r.says.live r (with_body r (record_text rec)))
            → Part m None w reading asked false (event.Done node moment request reply ∷ []) disk (disk_of new) × IsUp m cap (after_event w (event.Done node moment request reply)) new at
        done_step new reply is recorded rest run = (
          done_part accepted m cap w node moment request r up.sure up.may (grown follows) within reading asked own disk (disk_of new) up.at_rest.holds small managed follows run room reply
              (replies (applied (system_in w) moment node request) (standing_of new).system reply is)
              (subst (Holds (m.seen (disk_of new))) recorded rest.holds),
          record {
            role = up.role;
            sure = up.sure;
            system = sym (one_more w.log rec ∙ accepted_system (system_in w) (applied (system_in w) moment node request) (standing_of new).system reply is);
            at_rest = rest;
            may = subst (MayHold cap (after_event w (event.Done node moment request reply)) None) (sym recorded) (one_more_holds accepted m cap w node moment request r up.sure up.may (grown follows) within reply);
            epoch = ap (λ (x : Recorded). x.says.epoch) recorded ∙ up.epoch;
          },
        )

        -- it is in doubt
        pub doubt_step : (closed : Closed D) → CanBeInDoubt w node moment request
            → LeavesOnly m disk (closed_disk closed) (HoldsEither (m.may_leave disk) r.says.live r (with_body r (record_text rec)))
            → Part m None w reading asked true (event.Doubt node moment request ∷ []) disk (closed_disk closed)
            × IsDown m cap (after_event w (event.Doubt node moment request)) (site_files.Closed closed) (Some (record { file = r.says.live; before = length r.bodies }))
        doubt_step closed can run = (
          doubt_part accepted m cap w node moment request r up.sure up.may (grown follows) within reading asked own disk (closed_disk closed) up.at_rest.holds small managed follows run room can,
          record {
            none = refl;
            holds = doubt_holds accepted m cap w node moment request r up.sure up.may (grown follows) within disk (closed_disk closed) (counts_now (closed_disk closed)) (reads (closed_disk closed)) run;
          },
        )

    -- ---- what is answered

    module _ (small : cap ≤ GREATEST_CAP) (node reading acted : ℕ) (asked : Input) (request : Request) (took : Option Takeover) (own : own_request w node asked ≡ Some request)
        (mo : ℕ) (mo_is : mo ≡ acting reading (standing_of manager).system)
      where
        abbrev at_moment : ℕ
        at_moment = acting reading (system_in w)

        at_is : mo ≡ at_moment
        at_is = mo_is ∙ ap (acting reading) up.system

        little : r.says.cap < 2 ^ 64 - 1
        little = omega (arith, small, up.may.cap_is)

        -- what is said of the manager's system is said of the world's
        in_world : (P : System → Type 0) → P (standing_of manager).system → P (system_in w)
        in_world P p = subst P up.system p

        done_there : (new : Manager D) (kept : Reply) → Does (standing_of manager) at_moment node request (standing_of new) kept → IsAtRest m (standing_of new).recorded (disk_of new)
            → LeavesOnly m disk (disk_of new) (HoldsEither (m.may_leave disk) r.says.live r (with_body r (text_of at_moment node request)))
            → ComesTo m cap w node reading acted asked request took disk (record { work = Up new at; event = Some (event.Done node at_moment request kept); answer = answer.Done took at_moment kept })
            (Some (event.Done node at_moment request kept))
        done_there new kept does rest run =
            let is = in_world (λ (s : System). applied s at_moment node request ≡ Ok (record { system = (standing_of new).system; reply = kept })) does.accepted in
            let both = done_step node reading asked request own (in_world (λ (s : System). CanFollow s at_moment node request) does.follows) does.room little new kept is does.recorded rest run in (
              record { part = both.0; work = both.1; told = λ because. refl },
              subst (λ (res : Result Accepted Refusal). IsDecided node at_moment request res (event.Done node at_moment request kept ∷ [])) (sym is) (refl, refl, refl, refl),
            )

        pub done_comes : (new : Manager D) (kept told : Reply) → told ≡ kept → Does (standing_of manager) mo node request (standing_of new) kept → IsAtRest m (standing_of new).recorded (disk_of new)
            → LeavesOnly m disk (disk_of new) (HoldsEither (m.may_leave disk) r.says.live r (with_body r (text_of mo node request)))
            → ComesTo m cap w node reading acted asked request took disk (record { work = Up new at; event = Some (event.Done node mo request kept); answer = answer.Done took mo told }) (Some (event.Done node mo request kept))
        done_comes new kept told same does rest run =
            subst (λ (t : Reply). ComesTo m cap w node reading acted asked request took disk (record { work = Up new at; event = Some (event.Done node mo request kept); answer = answer.Done took mo t }) (Some (event.Done node mo request kept))) (sym same)
            (subst (λ (x : ℕ). Does (standing_of manager) x node request (standing_of new) kept
            → LeavesOnly m disk (disk_of new) (HoldsEither (m.may_leave disk) r.says.live r (with_body r (text_of x node request)))
            → ComesTo m cap w node reading acted asked request took disk (record { work = Up new at; event = Some (event.Done node x request kept); answer = answer.Done took x kept }) (Some (event.Done node x request kept)))
            (sym at_is) (λ does run. done_there new kept does rest run) does run)

        -- a request that is accepted is in doubt where its record is
        in_doubt_decided : (res : Result Accepted Refusal) → IsOk res → IsDecided node at_moment request res (event.Doubt node at_moment request ∷ [])
        in_doubt_decided (Ok a) ok = (refl, refl, refl)
        in_doubt_decided (Err refusal) ok = cc

        full_decided : (need cap : ℕ) (res : Result Accepted Refusal) → IsOk res → IsDecided node at_moment request res (event.Full node need cap ∷ [])
        full_decided need cap (Ok a) ok = refl
        full_decided need cap (Err refusal) ok = cc

        doubt_there : (live : Bool) (live_is : is_live w node ≡ live) → IsToManager request → (closed : Closed D) → IsInDoubt (standing_of manager) at_moment node request
            → LeavesOnly m disk (closed_disk closed) (HoldsEither (m.may_leave disk) r.says.live r (with_body r (text_of at_moment node request)))
            → ComesTo m cap w node reading acted asked request took disk
            (record { work = Down (site_files.Closed closed) (Some (record { file = r.says.live; before = length r.bodies })); event = Some (event.Doubt node at_moment request); answer = answer.Journal took live })
            (Some (event.Doubt node at_moment request))
        doubt_there live live_is plain closed doubt run =
            let follows = in_world (λ (s : System). CanFollow s at_moment node request) doubt.follows in
            let both = doubt_step node reading asked request own follows doubt.room little closed (can_be_in_doubt w node at_moment request plain managed follows) run in (
              record { part = both.0; work = both.1; told = λ because. ap (λ (b : Bool). answer.Journal took b) (sym live_is) },
              in_doubt_decided (applied (system_in w) at_moment node request) follows.accepted,
            )

        pub doubt_comes : (live : Bool) (live_is : is_live w node ≡ live) → IsToManager request → (closed : Closed D) (file before : ℕ) → file ≡ r.says.live → before ≡ length r.bodies → IsInDoubt (standing_of manager) mo node request
            → LeavesOnly m disk (closed_disk closed) (HoldsEither (m.may_leave disk) r.says.live r (with_body r (text_of mo node request)))
            → ComesTo m cap w node reading acted asked request took disk
            (record { work = Down (site_files.Closed closed) (Some (record { file = file; before = before })); event = Some (event.Doubt node mo request); answer = answer.Journal took live })
            (Some (event.Doubt node mo request))
        doubt_comes live live_is plain closed file before file_is before_is doubt run =
            subst (λ (f : ℕ). ComesTo m cap w node reading acted asked request took disk
            (record { work = Down (site_files.Closed closed) (Some (record { file = f; before = before })); event = Some (event.Doubt node mo request); answer = answer.Journal took live }) (Some (event.Doubt node mo request))) (sym file_is)
            (subst (λ (n : ℕ). ComesTo m cap w node reading acted asked request took disk
            (record { work = Down (site_files.Closed closed) (Some (record { file = r.says.live; before = n })); event = Some (event.Doubt node mo request); answer = answer.Journal took live }) (Some (event.Doubt node mo request))) (sym before_is)
            (subst (λ (x : ℕ). IsInDoubt (standing_of manager) x node request
            → LeavesOnly m disk (closed_disk closed) (HoldsEither (m.may_leave disk) r.says.live r (with_body r (text_of x node request)))
            → ComesTo m cap w node reading acted asked request took disk
            (record { work = Down (site_files.Closed closed) (Some (record { file = r.says.live; before = length r.bodies })); event = Some (event.Doubt node x request); answer = answer.Journal took live })
            (Some (event.Doubt node x request)))
            (sym at_is) (λ doubt run. doubt_there live live_is plain closed doubt run) doubt run))

        -- nothing was written: the manager stands as before, on the same device
        stays_up : (new : Manager D) → standing_of new ≡ standing_of manager → disk_of new ≡ disk → IsUp m cap w new at
        stays_up new same there = record {
          role = up.role;
          sure = up.sure;
          system = ap (λ (s : Standing). s.system) same ∙ up.system;
          at_rest = subst (λ (s : Standing). IsAtRest m s.recorded (disk_of new)) (sym same) (subst (λ (d : D). IsAtRest m r d) (sym there) up.at_rest);
          may = subst (λ (s : Standing). MayHold cap w None s.recorded) (sym same) up.may;
          epoch = ap (λ (s : Standing). s.recorded.says.epoch) same ∙ up.epoch;
        }

        still_there : (new : Manager D) → disk_of new ≡ disk → (e : Event) → CanCome w e → ((room : Room) → room_after w room e ≡ room) → HasRoom None w (room_of r) reading asked e []
            → Part m None w reading asked false (e ∷ []) disk (disk_of new)
        still_there new there e comes stays has =
            subst (λ (d : D). Part m None w reading asked false (e ∷ []) disk d) (sym there) (still m disk (only_now disk) None w reading asked false e r up.at_rest.holds crash_holds comes stays has)

        pub refused_comes : (new : Manager D) (refusal : Refusal) → standing_of new ≡ standing_of manager → disk_of new ≡ disk → applied (standing_of manager).system mo node request ≡ Err refusal
            → ComesTo m cap w node reading acted asked request took disk
            (record { work = Up new at; event = Some (event.Refused node mo (input.Ask request) refusal); answer = answer.Refused took refusal }) (Some (event.Refused node mo (input.Ask request) refusal))
        refused_comes new refusal same there is =
            let is_there : applied (system_in w) at_moment node request ≡ Err refusal =
            subst (λ (x : ℕ). applied (system_in w) x node request ≡ Err refusal) at_is (in_world (λ (s : System). applied s mo node request ≡ Err refusal) is) in (
              record {
                part = still_there new there (event.Refused node mo (input.Ask request) refusal) tt (λ room. refl) tt;
                work = stays_up new same there;
                told = λ because. refl;
              },
              subst (λ (res : Result Accepted Refusal). IsDecided node at_moment request res (event.Refused node mo (input.Ask request) refusal ∷ [])) (sym is_there)
                  (ap (λ (x : ℕ). event.Refused node x (input.Ask request) refusal ∷ []) at_is),
            )

        pub full_comes : (new : Manager D) (need most : ℕ) → standing_of new ≡ standing_of manager → disk_of new ≡ disk → Lacks (standing_of manager) mo node request need most
            → length (text_of mo node request) < 2 ^ 63
            → ComesTo m cap w node reading acted asked request took disk (record { work = Up new at; event = Some (event.Full node need most); answer = answer.Full took need most }) (Some (event.Full node need most))
        full_comes new need most same there lacks short =
            let follows : CanFollow (system_in w) at_moment node request =
            subst (λ (x : ℕ). CanFollow (system_in w) x node request) at_is (in_world (λ (s : System). CanFollow s mo node request) lacks.follows) in
            let fits = up.may.fits in
            let whole : need ≡ record_need (room_of r) (request_record mo node request) = omega (arith, lacks.need_is, short, fits, small) in (
              record {
                part = still_there new there (event.Full node need most) tt (λ room. refl)
                    (lacks_own w (room_of r) node reading asked request (event.Full node need most) own
                    (subst (λ (x : ℕ). LacksRoom (record_need (room_of r) (request_record x node request)) (room_of r).cap (event.Full node need most)) at_is
                    (whole, lacks.cap_is, subst (λ (n : ℕ). r.says.cap < n) whole (subst (λ (c : ℕ). c < need) lacks.cap_is lacks.over))));
                work = stays_up new same there;
                told = λ because. refl;
              },
              full_decided need most (applied (system_in w) at_moment node request) follows.accepted,
            )

        pub short_comes : (new : Manager D) → standing_of new ≡ standing_of manager → disk_of new ≡ disk
            → ComesTo m cap w node reading acted asked request took disk (record { work = Up new at; event = None; answer = answer.NoMemory took }) None
        short_comes new same there = record { same = there; work = stays_up new same there; told = refl }
