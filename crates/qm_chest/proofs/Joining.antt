-- Two parts of a call, one behind the other, are a part.
use Rattle.std.proofs.Common.{◌≡◌, ◌⊎◌, inl, inr, ℕ, zero, suc, ◌<◌, ◌≤◌, Bool, true, false, List, [], ◌∷◌, ◌++◌, take, refl, sym, ◌∙◌, ap, subst, arith, Option, None, Some, ◌&&◌, filter_map, option_to_list, slice_set, append_assoc, append-nil}
use Rattle.std.specs.List.{AllByRecursion, cons_option}
use Rattle.qm_history.specs.Common.{CrashState, Meaning, Input, Record, request_record, Grow, MasterState, record_of, HoldRecords, CanCome, after_event, log_read}
use Rattle.qm_disk.proofs.Moments.{weaker, goes_further, looks_on}
use Rattle.qm_kinds.specs.declared.request.Request.TheVariants as request
use Rattle.qm_history.specs.declared.event.Event.{Event}
use Rattle.qm_history.specs.declared.event.Event.TheVariants as event
use Rattle.qm_history.specs.declared.world.World.{World}
use Rattle.qm_history.specs.Contents.{LeavesFiles, is_without_write, are_without_write}
use Rattle.qm_history.specs.Happening.{may_come_first, told_of_doubt}
use Rattle.qm_history.specs.Leaving.{MayBeLeft, told_by}
use Rattle.qm_history.specs.Room.{Room, HasRoom, HaveRoom, Unless, record_need, failed_by, is_compacted_next, room_after_events, room_in}
use Rattle.qm_chest.specs.Parts.{turn_with, HoldsWithin, HoldSome, Part}

-- ---- what a crash leaves within the second part

-- the first ones of some records, with the one before them
first_of : (o : Option Record) (n : ℕ) (others : List Record) → (k : ℕ) × (take n (cons_option o []) ≡ take k (cons_option o others))
first_of None zero others = (zero, refl)
first_of None (suc n) others = (zero, refl)
first_of (Some r) zero others = (zero, refl)
first_of (Some r) (suc zero) others = (1, refl)
first_of (Some r) (suc (suc n)) others = (1, refl)

-- what a crash may leave within the first event it may leave within all of them
first_leaves : (w : World) (e : Event) (events : List Event) (log : List Record) → MayBeLeft w (turn_with (e ∷ [])) log → MayBeLeft w (turn_with (e ∷ events)) log
first_leaves w e events log (inl same) = inl same
first_leaves w e events log (inr (inl same)) = inr (inl same)
first_leaves w e events log (inr (inr (n, same))) =
    let more = first_of (record_of e) n (filter_map record_of events) in
    inr (inr (more.0, same ∙ ap (λ x. log_read w (told_of_doubt e) ++ x) more.1))

-- the log behind an event with which a turn may begin
abbrev behind_is : World → Event → Type 0
behind_is w e = (after_event w e).log ≡ log_read w (told_of_doubt e) ++ cons_option (record_of e) []

log_behind : (w : World) (e : Event) → may_come_first e ≡ true → behind_is w e
log_behind w (event.Took node moment epoch gone up may kept) first = refl
log_behind w (event.TakeDoubt node tried kept) first = sym (append-nil (log_read w kept))
log_behind w (event.Stopped node) first = sym (append-nil w.log)
log_behind w (event.Left node) first = sym (append-nil w.log)
log_behind w (event.Started node) first = sym (append-nil w.log)
log_behind w (event.Done node moment asked reply) first = cc
log_behind w (event.Doubt node moment asked) first = cc
log_behind w (event.Refused node moment asked refusal) first = cc
log_behind w (event.Shown node moment asked) first = cc
log_behind w (event.Full node need cap) first = cc
log_behind w (event.NoManager node) first = cc
log_behind w (event.Fenced node held current) first = cc
log_behind w (event.Compacted node epoch file) first = cc
log_behind w (event.CompactDoubt node) first = cc

-- behind it nothing is in doubt; or the same record is, behind the same log
doubt_behind : (w : World) (e : Event) → may_come_first e ≡ true
    → ((after_event w e).doubt ≡ None) ⊎ (((after_event w e).doubt ≡ w.doubt) × ((after_event w e).log ≡ w.log))
doubt_behind w (event.Took node moment epoch gone up may kept) first = inl refl
doubt_behind w (event.TakeDoubt node tried None) first = inr (refl, refl)
doubt_behind w (event.TakeDoubt node tried (Some kept)) first = inl refl
doubt_behind w (event.Stopped node) first = inr (refl, refl)
doubt_behind w (event.Left node) first = inr (refl, refl)
doubt_behind w (event.Started node) first = inr (refl, refl)
doubt_behind w (event.Done node moment asked reply) first = cc
doubt_behind w (event.Doubt node moment asked) first = cc
doubt_behind w (event.Refused node moment asked refusal) first = cc
doubt_behind w (event.Shown node moment asked) first = cc
doubt_behind w (event.Full node need cap) first = cc
doubt_behind w (event.NoManager node) first = cc
doubt_behind w (event.Fenced node held current) first = cc
doubt_behind w (event.Compacted node epoch file) first = cc
doubt_behind w (event.CompactDoubt node) first = cc

-- the record of the first event, and the first ones of the others
with_first : (o : Option Record) (n : ℕ) (others : List Record) → (k : ℕ) × (cons_option o [] ++ take n others ≡ take k (cons_option o others))
with_first None n others = (n, refl)
with_first (Some r) n others = (suc n, refl)

module _ (w : World) (e : Event) (events : List Event) (first : may_come_first e ≡ true) (plain : told_by events ≡ None) where
  abbrev v : World
  v = after_event w e

  -- the log behind the first event, and the first ones of the records of the others
  behind_first : (n : ℕ) (log : List Record) → log ≡ v.log ++ take n (filter_map record_of events) → MayBeLeft w (turn_with (e ∷ events)) log
  behind_first n log same =
      let more = with_first (record_of e) n (filter_map record_of events) in
      inr (inr (
        more.0,
        same ∙ ap (λ x. x ++ take n (filter_map record_of events)) (log_behind w e first)
            ∙ append_assoc (log_read w (told_of_doubt e)) (cons_option (record_of e) []) (take n (filter_map record_of events))
            ∙ ap (λ x. log_read w (told_of_doubt e) ++ x) more.1,
      ))

  with_doubt : (log : List Record) → log ≡ v.log ++ option_to_list v.doubt → MayBeLeft w (turn_with (e ∷ events)) log
  with_doubt log same = elim (doubt_behind w e first) [
    | inl none ↦ behind_first zero log (same ∙ ap (λ d. v.log ++ option_to_list d) none)
    | inr is ↦ inr (inl (same ∙ ap (λ d. v.log ++ option_to_list d) is.0 ∙ ap (λ l. l ++ option_to_list w.doubt) is.1))
  ]

  then_leaves : (log : List Record) → MayBeLeft v (turn_with events) log → MayBeLeft w (turn_with (e ∷ events)) log
  then_leaves log (inl same) = behind_first zero log (same ∙ sym (append-nil v.log))
  then_leaves log (inr (inl same)) = with_doubt log same
  then_leaves log (inr (inr (n, same))) = behind_first n log (same ∙ ap (λ told. log_read v told ++ take n (filter_map record_of events)) plain)

-- ---- the epochs that nodes hold

-- a node that gets a greater epoch held a smaller one
smaller_before : (held : List ℕ) (node epoch most greatest : ℕ) → greatest < epoch → AllByRecursion (λ (h : ℕ). h ≤ greatest) held
    → AllByRecursion (λ (h : ℕ). h ≤ most) (slice_set held node epoch) → AllByRecursion (λ (h : ℕ). h ≤ most) held
smaller_before [] node epoch most greatest rises low all = tt
smaller_before (h ∷ held) zero epoch most greatest rises low all =
    let one : h ≤ greatest = low.0 in
    let two : epoch ≤ most = all.0 in
    (omega arith, all.1)
smaller_before (h ∷ held) (suc node) epoch most greatest rises low all = (all.0, smaller_before held node epoch most greatest rises low.1 all.1)

held_before : (w : World) (e : Event) (most : ℕ) → may_come_first e ≡ true → CanCome w e → AllByRecursion (λ (h : ℕ). h ≤ w.greatest) w.held
    → AllByRecursion (λ (h : ℕ). h ≤ most) (after_event w e).held → AllByRecursion (λ (h : ℕ). h ≤ most) w.held
held_before w (event.Took node moment epoch gone up may kept) most first comes low all =
    let rises : w.greatest < epoch = omega (arith, comes.next_epoch) in
    smaller_before w.held node epoch most w.greatest rises low all
held_before w (event.TakeDoubt node tried kept) most first comes low all = all
held_before w (event.Stopped node) most first comes low all = all
held_before w (event.Left node) most first comes low all = all
held_before w (event.Started node) most first comes low all = all
held_before w (event.Done node moment asked reply) most first comes low all = cc
held_before w (event.Doubt node moment asked) most first comes low all = cc
held_before w (event.Refused node moment asked refusal) most first comes low all = cc
held_before w (event.Shown node moment asked) most first comes low all = cc
held_before w (event.Full node need cap) most first comes low all = cc
held_before w (event.NoManager node) most first comes low all = cc
held_before w (event.Fenced node held current) most first comes low all = cc
held_before w (event.Compacted node epoch file) most first comes low all = cc
held_before w (event.CompactDoubt node) most first comes low all = cc

-- ---- files and room

files_join : {D : Type 0} (m : Meaning D) (one others : Bool) (old mid new : D) → LeavesFiles m one old mid → LeavesFiles m others mid new → LeavesFiles m (one && others) old new
files_join m true true old mid new first second = looks_on m old mid new first second
files_join m true false old mid new first second = tt
files_join m false others old mid new first second = tt

files_alone : {D : Type 0} (m : Meaning D) (one : Bool) (old new : D) → LeavesFiles m (one && true) old new → LeavesFiles m one old new
files_alone m true old new h = h
files_alone m false old new h = tt

-- whether an image comes next counts at a takeover alone
room_first : (behind : Option Bool) (w : World) (room : Room) (reading : ℕ) (asked : Input) (e : Event) (events : List Event) → is_compacted_next events ≡ false
    → HasRoom behind w room reading asked e [] → HasRoom behind w room reading asked e events
room_first behind w room reading asked (event.Took node moment epoch gone up may kept) events none has = (has.0, subst (λ (b : Bool). Unless b (record_need room (request_record moment node (request.Took epoch gone up may)) ≤ room.cap)) (sym none) has.1)
room_first behind w room reading asked (event.TakeDoubt node tried kept) events none has = has
room_first behind w room reading asked (event.Stopped node) events none has = has
room_first behind w room reading asked (event.Left node) events none has = has
room_first behind w room reading asked (event.Started node) events none has = has
room_first behind w room reading asked (event.Done node moment r reply) events none has = has
room_first behind w room reading asked (event.Doubt node moment r) events none has = has
room_first behind w room reading asked (event.Refused node moment r refusal) events none has = has
room_first behind w room reading asked (event.Shown node moment r) events none has = has
room_first behind w room reading asked (event.Full node need cap) events none has = has
room_first behind w room reading asked (event.NoManager node) events none has = has
room_first behind w room reading asked (event.Fenced node held current) events none has = has
room_first behind w room reading asked (event.Compacted node epoch file) events none has = has
room_first behind w room reading asked (event.CompactDoubt node) events none has = has

-- ---- both parts

module _ {D : Type 0} (m : Meaning D) (w : World) (reading : ℕ) (asked : Input) (failed : Bool) (e : Event) (events : List Event) (old mid new : D) (first : may_come_first e ≡ true)
    (plain : told_by events ≡ None) (no_image : is_compacted_next events ≡ false) (low : AllByRecursion (λ (h : ℕ). h ≤ w.greatest) w.held) (between : HoldSome (m.seen mid))
    (one : Part m None w reading asked false (e ∷ []) old mid) (others : Part m (failed_by w e) (after_event w e) reading asked failed events mid new)
  where
    within_first : (crashed : CrashState) → HoldsWithin w (e ∷ []) crashed → HoldsWithin w (e ∷ events) crashed
    within_first crashed h = record { log = h.log; left = first_leaves w e events h.log h.left; holds = h.holds; recorded = h.recorded }

    within_others : (crashed : CrashState) → HoldsWithin (after_event w e) events crashed → HoldsWithin w (e ∷ events) crashed
    within_others crashed h = record {
      log = h.log;
      left = then_leaves w e events first plain h.log h.left;
      holds = h.holds;
      recorded = held_before w e h.holds.says.epoch first one.comes.0 low h.recorded;
    }

    room_then : (says : MasterState) (records : List Record) (h : HoldRecords (m.seen old) says records)
        → HaveRoom None w (room_in says h.masters records) reading asked (e ∷ events)
    room_then says records h = (
      room_first None w (room_in says h.masters records) reading asked e events no_image (one.room says records h).0,
      subst (λ (room : Room). HaveRoom (failed_by w e) (after_event w e) room reading asked events) (one.reaches refl says between.says records between.records h between.holds)
          (others.room between.says between.records between.holds),
    )

    grows : failed ≡ false → Grow m (m.seen old) (m.seen new) (λ room. room_after_events w room (e ∷ events))
    grows quiet said says before after was is =
        others.reaches quiet between.says says between.records after between.holds is
        ∙ ap (λ (room : Room). room_after_events (after_event w e) room events) (one.reaches refl said between.says before between.records was between.holds)

    pub joined : Part m None w reading asked failed (e ∷ events) old new
    joined = record {
      comes = (one.comes.0, others.comes);
      moments = goes_further m old mid new (HoldsWithin w (e ∷ events)) (HoldsWithin (after_event w e) events)
          (weaker m old mid (HoldsWithin w (e ∷ [])) (HoldsWithin w (e ∷ events)) one.moments within_first) others.moments within_others;
      files = files_join m (is_without_write e) (are_without_write events) old mid new (files_alone m (is_without_write e) old mid one.files) others.files;
      reaches = grows;
      room = room_then;
    }
