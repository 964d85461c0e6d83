-- The parts of a takeover, on files that were read: what is tried before the record is written, and how the whole call is put together.
use Rattle.std.proofs.Common.{◌≡◌, ◌≢◌, inl, inr, ℕ, ◌+◌, ◌≤◌, Bool, true, false, cond, List, [], ◌∷◌, length, refl, sym, ◌∙◌, ap, subst, arith, Option, None, ◌==◌, IsSome, append-nil}
use Rattle.std.specs.List.{AllByRecursion}
use Rattle.std.proofs.lemmas.Bool.Decides.{nat_tests}
use Rattle.qm_disk.specs.Disk.{CrashState, Meaning, IsLeft, LeavesOnly, OnlyLooks}
use Rattle.qm_disk.proofs.Moments.{goes_further, holds_now, looks_on, started, weaker}
use Rattle.qm_history.specs.Common.{size_of, Input, Record, system_of, told_by, Epoch, master_text, CanCome, after_event, doubt_read, log_read}
use Rattle.qm_store.specs.Opening.{in_next_epoch, next_need}
use Rattle.qm_store.specs.Recorded.{Recorded, Holds, IsAtRest, epoch_behind}
use Rattle.qm_store.specs.declared.files.TheConstants.{MASTER_CAP}
use Rattle.qm_store.proofs.Moving.{left_at_rest}
use Rattle.qm_restore.specs.QueueFile.{IsSiteFile}
use Rattle.qm_acting.specs.Standing.{Standing}
use Rattle.qm_acting.specs.Taking.{HoldsEpoch}
use Rattle.qm_history.specs.declared.event.Event.{Event}
use Rattle.qm_history.specs.declared.event.Event.TheVariants as event
use Rattle.qm_history.specs.declared.world.World.{World}
use Rattle.qm_history.specs.Contents.{HoldWorld, LeavesFiles, are_without_write}
use Rattle.qm_history.specs.Room.{Room, HasRoom, HaveRoom, Unless, epoch_need, room_after, room_after_events, room_in}
use Rattle.qm_chest.specs.Holding.{MayHold, SomeHold, AllHold}
use Rattle.qm_chest.specs.Parts.{HoldsWithin, HoldSome, Part}
use Rattle.qm_chest.specs.Taking.{IsReadOf}
use Rattle.qm_chest.proofs.Holding.{SiteFilesAreAccepted, epoch_of_none, grows, holds_log, holds_world, room_is, room_of}
use Rattle.qm_chest.proofs.Recording.{found_sure, one_larger, whole_need}
use Rattle.qm_chest.proofs.Reading.{found_at, sure_read}

-- ---- numbers

pub same_number : (a b : ℕ) → a ≡ b → (a == b) ≡ true
same_number a b same = grind (arith, nat_tests)

pub other_number : (a b : ℕ) → a ≢ b → (a == b) ≡ false
other_number a b differ = grind (arith, nat_tests)

pub all_later : (held : List ℕ) (a b : ℕ) → a ≤ b → AllByRecursion (λ (h : ℕ). h ≤ a) held → AllByRecursion (λ (h : ℕ). h ≤ b) held
all_later [] a b le all = tt
all_later (h ∷ held) a b le all = let one : h ≤ a = all.0 in (omega (arith, one, le), all_later held a b le all.1)

-- ---- looking comes first

-- a part of files that were only looked at before is one from then on
module _ (accepted : SiteFilesAreAccepted) {D : Type 0} (m : Meaning D) (w : World) (reading : ℕ) (asked : Input) (failed : Bool) (events : List Event) (old mid new : D) (r : Recorded)
    (was : Holds (m.seen old) r) (is : Holds (m.seen mid) r) (between : HoldSome (m.seen mid)) (looks : OnlyLooks m old mid)
    (before : (crashed : CrashState) → IsLeft (m.may_leave old) crashed → HoldsWithin w events crashed) (part : Part m None w reading asked failed events mid new)
  where
    files_on : (quiet : Bool) → LeavesFiles m quiet mid new → LeavesFiles m quiet old new
    files_on true then_ = looks_on m old mid new looks then_
    files_on false then_ = tt

    pub read_first : Part m None w reading asked failed events old new
    read_first = record {
      comes = part.comes;
      moments = goes_further m old mid new (HoldsWithin w events) (HoldsWithin w events) (weaker m old mid (IsLeft (m.may_leave old)) (HoldsWithin w events) looks.any_moment before) part.moments
          (λ crashed h. h);
      files = files_on (are_without_write events) part.files;
      reaches = λ quiet said says records more was_held is_held.
          part.reaches quiet between.says says between.records more between.holds is_held
          ∙ ap (λ (room : Room). room_after_events w room events) (room_is (m.seen mid) between.says between.records between.holds r is ∙ sym (room_is (m.seen old) said records was_held r was));
      room = λ says records h. subst (λ (room : Room). HaveRoom None w room reading asked events)
          (room_is (m.seen mid) between.says between.records between.holds r is ∙ sym (room_is (m.seen old) says records h r was)) (part.room between.says between.records between.holds);
    }

-- ---- on files that were read

module _ (accepted : SiteFilesAreAccepted) {D : Type 0} (m : Meaning D) (only_now : (disk : D) (crashed : CrashState) → m.left_since disk (m.moment disk) crashed → IsLeft (m.may_leave disk) crashed)
    (counts_now : (disk : D) (t : ℕ) (crashed : CrashState) → t ≤ m.moment disk → IsLeft (m.may_leave disk) crashed → m.left_since disk t crashed)
    (reads : (disk : D) → IsLeft (m.may_leave disk) (m.seen disk)) (cap : ℕ) (w : World) (kept : Option Bool) (old mid : D) (st : Standing) (read : IsReadOf m cap w kept old st mid)
    (node now tried : ℕ) (tried_is : tried ≡ w.greatest) (asked : Input)
  where
    abbrev pub r : Recorded
    r = st.recorded

    abbrev pub log : List Record
    log = log_read w kept

    pub sure : doubt_read w kept ≡ None
    sure = sure_read w kept read.told

    log_is : read.may.log ≡ log
    log_is = found_sure log read.may.log r (doubt_read w kept) sure read.may.found

    pub site : IsSiteFile r.bodies (system_of log)
    site = subst (λ (l : List Record). IsSiteFile r.bodies (system_of l)) log_is read.may.site

    pub holds : Holds (m.seen mid) r
    holds = read.at_rest.holds

    -- the epoch that is tried
    abbrev pub epoch : ℕ
    epoch = epoch_behind r tried

    abbrev pub next : Recorded
    next = in_next_epoch r tried node

    pub epoch_is : epoch ≡ w.greatest + 1
    epoch_is = let below = read.may.epoch in omega (arith, tried_is, below)

    pub below : r.says.epoch ≤ epoch
    below = omega arith

    pub recorded_next : AllByRecursion (λ (h : ℕ). h ≤ epoch) w.held
    recorded_next = all_later w.held r.says.epoch epoch below read.may.recorded

    pub low : AllByRecursion (λ (h : ℕ). h ≤ w.greatest) w.held
    low = all_later w.held r.says.epoch w.greatest read.may.epoch read.may.recorded

    is_later : epoch ≢ w.greatest
    is_later same = let next_ = epoch_is in omega (arith, same, next_)

    -- ---- what a crash leaves

    -- within events that tell what was found of the record in doubt
    pub within_log : (events : List Event) → told_by events ≡ kept → (files : CrashState) (q : Recorded) → Holds files q → IsSiteFile q.bodies (system_of log) → AllByRecursion (λ (h : ℕ). h ≤ q.says.epoch) w.held
        → HoldsWithin w events files
    within_log events told files q held is recorded = record {
      log = log;
      left = inr (inr (0, ap (log_read w) (sym told) ∙ sym (append-nil (log_read w (told_by events)))));
      holds = holds_log accepted files q log held is;
      recorded = recorded;
    }

    pub within_epoch : (events : List Event) → told_by events ≡ kept → (files : CrashState) → HoldsEpoch r next files → HoldsWithin w events files
    within_epoch events told files (inl held) = within_log events told files r held site read.may.recorded
    within_epoch events told files (inr held) = within_log events told files next held site recorded_next

    -- ---- what the files hold behind a takeover that failed

    -- the world behind it
    abbrev pub failed_world : ℕ → World
    failed_world t = after_event w (event.TakeDoubt node t kept)

    pub may_still : (t : ℕ) → r.says.epoch ≤ t → MayHold cap (failed_world t) None r
    may_still t le = record {
      log = log;
      found = found_at (doubt_read w kept) log log r sure refl;
      site = site;
      cap_is = read.may.cap_is;
      fits = read.may.fits;
      epoch = le;
      recorded = read.may.recorded;
    }

    pub may_next : MayHold cap (failed_world epoch) None next
    may_next = record {
      log = log;
      found = found_at (doubt_read w kept) log log next sure refl;
      site = site;
      cap_is = read.may.cap_is;
      fits = read.may.fits;
      epoch = omega arith;
      recorded = recorded_next;
    }

    -- what is at rest, each crash leaves
    all_at_rest : (v : World) (q : Recorded) (disk : D) → IsAtRest m q disk → MayHold cap v None q → AllHold m (MayHold cap v None) disk
    all_at_rest v q disk rest may = record {
      reads = record { recorded = q; holds = rest.holds; is = may };
      crash = λ crashed left. record { recorded = q; holds = left_at_rest m q disk rest crashed left; is = may };
    }

    pub all_still : AllHold m (MayHold cap (failed_world tried) None) mid
    all_still = let le = read.may.epoch in all_at_rest (failed_world tried) r mid read.at_rest (may_still tried (omega (arith, le, tried_is)))

    pub all_next : (new : D) → IsAtRest m next new → AllHold m (MayHold cap (failed_world epoch) None) new
    all_next new rest = all_at_rest (failed_world epoch) next new rest may_next

    some_epoch : (files : CrashState) → HoldsEpoch r next files → SomeHold (MayHold cap (failed_world epoch) None) files
    some_epoch files (inl held) = record { recorded = r; holds = held; is = may_still epoch below }
    some_epoch files (inr held) = record { recorded = next; holds = held; is = may_next }

    pub all_epoch : (new : D) → LeavesOnly m mid new (HoldsEpoch r next) → AllHold m (MayHold cap (failed_world epoch) None) new
    all_epoch new run = record {
      reads = some_epoch (m.seen new) (holds_now m mid new (HoldsEpoch r next) run (counts_now new) (m.seen new) (reads new));
      crash = λ crashed left. some_epoch crashed (holds_now m mid new (HoldsEpoch r next) run (counts_now new) crashed left);
    }

    -- the same in the words of histories
    pub crash_next : (new : D) → IsAtRest m next new → (crashed : CrashState) → IsLeft (m.may_leave new) crashed → HoldWorld crashed (failed_world epoch)
    crash_next new rest crashed left =
        holds_world accepted cap (failed_world epoch) None crashed next (left_at_rest m next new rest crashed left) may_next (epoch_of_none (failed_world epoch) next.says.epoch None refl (omega arith))

    pub crash_still : (crashed : CrashState) → IsLeft (m.may_leave mid) crashed → HoldWorld crashed (failed_world tried)
    crash_still crashed left =
        let le = read.may.epoch in
        let before : r.says.epoch ≤ tried = omega (arith, le, tried_is) in
        holds_world accepted cap (failed_world tried) None crashed r (left_at_rest m r mid read.at_rest crashed left) (may_still tried before) (epoch_of_none (failed_world tried) r.says.epoch None refl before)

    -- ---- the takeover fails before its epoch

    doubt_told : IsSome kept → IsSome w.doubt
    doubt_told some = sym read.told ∙ some

    pub still_part : Part m None w now asked false (event.TakeDoubt node tried kept ∷ []) mid mid
    still_part = record {
      comes = ((inl tried_is, doubt_told), tt);
      moments = started m mid (HoldsWithin w (event.TakeDoubt node tried kept ∷ []))
          (λ crashed since. within_log (event.TakeDoubt node tried kept ∷ []) refl crashed r (left_at_rest m r mid read.at_rest crashed (only_now mid crashed since)) site read.may.recorded);
      files = tt;
      reaches = λ quiet. grows m (m.seen mid) (m.seen mid) r r (λ room. room_after w room (event.TakeDoubt node tried kept)) holds holds
          (sym (ap (λ (b : Bool). cond b (room_of r) (record (room_of r) { master = size_of r.master + (5 + length (master_text (Epoch tried node))) })) (same_number tried w.greatest tried_is)));
      room = λ says records h. (subst (λ (b : Bool). Unless b (epoch_need (room_in says h.masters records) tried node ≤ 1048576)) (sym (same_number tried w.greatest tried_is)) tt, tt);
    }

    -- ---- and at its epoch, or behind it

    pub epoch_room : next_need r tried node ≤ MASTER_CAP → epoch_need (room_of r) epoch node ≤ 1048576
    epoch_room has = whole_need r.master (master_text (Epoch epoch node)) MASTER_CAP (omega arith) has

    pub next_room : room_of next ≡ room_after w (room_of r) (event.TakeDoubt node epoch kept)
    next_room =
        (λ i. record { master = one_larger r.master (master_text (Epoch epoch node)) i; live = size_of r.bodies; file = r.says.live; cap = r.says.cap })
        ∙ sym (ap (λ (b : Bool). cond b (room_of r) (record (room_of r) { master = size_of r.master + (5 + length (master_text (Epoch epoch node))) })) (other_number epoch w.greatest is_later))

    -- the event may come, and has room
    pub epoch_told : next_need r tried node ≤ MASTER_CAP → CanCome w (event.TakeDoubt node epoch kept) × HasRoom None w (room_of r) now asked (event.TakeDoubt node epoch kept) []
    epoch_told has = (
      (inr epoch_is, doubt_told),
      subst (λ (b : Bool). Unless b (epoch_need (room_of r) epoch node ≤ 1048576)) (sym (other_number epoch w.greatest is_later)) (epoch_room has),
    )

    pub epoch_part : (new : D) (failed : Bool) → LeavesOnly m mid new (HoldsEpoch r next) → next_need r tried node ≤ MASTER_CAP → (failed ≡ false → Holds (m.seen new) next)
        → Part m None w now asked failed (event.TakeDoubt node epoch kept ∷ []) mid new
    epoch_part new failed run has then_ = record {
      comes = ((epoch_told has).0, tt);
      moments = weaker m mid new (HoldsEpoch r next) (HoldsWithin w (event.TakeDoubt node epoch kept ∷ [])) run (λ crashed h. within_epoch (event.TakeDoubt node epoch kept ∷ []) refl crashed h);
      files = tt;
      reaches = λ quiet. grows m (m.seen mid) (m.seen new) r next (λ room. room_after w room (event.TakeDoubt node epoch kept)) holds (then_ quiet) next_room;
      room = λ says records h. (
        subst (λ (room : Room). HasRoom None w room now asked (event.TakeDoubt node epoch kept) []) (sym (room_is (m.seen mid) says records h r holds)) (epoch_told has).1,
        tt,
      );
    }
