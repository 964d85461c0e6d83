-- A chest that stands for notes stands for one more behind each call.
use Rattle.std.proofs.Common.{◌≡◌, ◌⊎◌, inl, inr, ℕ, ◌+◌, ◌^◌, ◌<◌, ◌≤◌, Bool, true, false, cond, IsTrue, List, [], ◌∷◌, ◌++◌, length, map, refl, sym, ◌∙◌, ap, subst, arith, Option, None, Some, ◌&&◌, IsNone, option_to_list}
use Rattle.std.specs.List.{AllByRecursion}
use Rattle.std.proofs.lemmas.List.{append-nil, append_cancel_left}
use Rattle.qm_disk.specs.Disk.{CrashState, Meaning, IsLeft, LeavesOnly, TellsFaults}
use Rattle.qm_disk.proofs.Moments.{started, weaker, goes_further}
use Rattle.qm_history.specs.Common.{Record, record_text, MayAnswer, HoldWithin, HoldWorld, Keeps, faults_told, is_journal, tells_disk_fault, after_turn, after_turns, MasterState, master_text, HoldRecords, Starts, IsCutShort, IsTurnOf}
use Rattle.qm_acting.specs.Standing.{standing_of}
use Rattle.qm_store.specs.Recorded.{Recorded}
use Rattle.qm_store.proofs.Contents.{held_bodies, held_records, one_content}
use Rattle.qm_history.specs.declared.call.Answer.{Answer}
use Rattle.qm_history.specs.declared.call.Answer.TheVariants as answer
use Rattle.qm_history.specs.declared.call.Call.{Call}
use Rattle.qm_history.specs.declared.turn.Turn.{Turn}
use Rattle.qm_history.specs.declared.world.World.{World}
use Rattle.qm_history.specs.Chest.{Adds, AddsNone, AddsTurn, Grow, LeavesTurn, Note, Serves as NotesCall, StandsFor, TellsRoom, TellsWorld, hides_events, turns_kept, turns_noted, unread_of}
use Rattle.qm_history.specs.Room.{AreAboveCap, IsAboveCap, IsRoomTold, Room, UnlessFailed, room_after_events, room_in}
use Rattle.qm_history.specs.Serving.{TellsDisk, behind}
use Rattle.qm_history.proofs.EventLemmas.{turns_append}
use Rattle.qm_chest.specs.At.{IsAt, IsWithout, LeavesOne, Serves, chest_disk}
use Rattle.qm_chest.specs.Work.{IsWorkAt, work_disk}
use Rattle.qm_chest.specs.Noting.{AreQuiet, StandsSince, chest_told, failed_with, note_of, role_at, room_behind}
use Rattle.qm_chest.specs.declared.chest.Chest.{Chest}
use Rattle.qm_chest.specs.declared.work.Work.{Work}
use Rattle.qm_chest.specs.declared.work.Work.TheVariants.{Up, Down}
use Rattle.qm_chest.proofs.Holding.{SiteFilesAreAccepted, room_is}
use Rattle.qm_chest.proofs.Notes.{HoldsIn, IsNotedLast, LastFits, above_more, count_more, work_keeps, failed_count, hidden_quiet, in_behind, in_last, in_longer, none_quiet, noted_more, noted_with, quiet_more, reach_more, room_more, told_or_noted, world_told}

-- ---- what the disks hold, as histories say it

-- files that hold records of a site, under a master with this cap
record HoldCapped (cap : ℕ) (files : CrashState) : Type 0 where
  says : MasterState
  records : List Record
  holds : HoldRecords files says records
  capped : says.cap ≡ cap

module _ (accepted : SiteFilesAreAccepted) {D : Type 0} (m : Meaning D) (cap : ℕ) (w : World) where
  work_capped : (work : Work D) → IsWorkAt m cap w work → HoldCapped cap (m.seen (work_disk work))
  work_capped (Up manager node) up =
      let r = (standing_of manager).recorded in
      let found = accepted r.bodies _ up.may.site in
      record { says = r.says; records = found.0; holds = held_records (m.seen (work_disk (Up manager node))) r found.0 up.at_rest.holds found.1 found.2; capped = up.may.cap_is }
  work_capped (Down files place) down =
      let some = down.holds.reads in
      let found = accepted some.recorded.bodies _ some.is.site in
      record { says = some.recorded.says; records = found.0; holds = held_records (m.seen (work_disk (Down files place))) some.recorded found.0 some.holds found.1 found.2; capped = some.is.cap_is }

-- files have one cap
cap_once : (files : CrashState) (says said : MasterState) (records others : List Record) (h : HoldRecords files says records)
    (k : HoldRecords files said others) → says.cap ≡ said.cap
cap_once files says said records others h k =
    ap (λ (r : Recorded). r.says.cap)
    (one_content files (record { master = map master_text h.masters; says = says; bodies = map record_text records }) (record { master = map master_text k.masters; says = said; bodies = map record_text others })
    (held_bodies files says records h) (held_bodies files said others k))

-- a turn that may be answered so is one of its call
turn_is : (w : World) (asked : Call) (t : Turn) (told : Answer) → MayAnswer w asked t told → IsTurnOf w asked t ⊎ IsCutShort w asked t
turn_is w asked t (answer.NoMemory took) may = inr may.0
turn_is w asked t (answer.Damaged file place) may = inl may.0
turn_is w asked t answer.HistoryFull may = absurd may
turn_is w asked t (answer.Done took moment reply) may = inl may.0
turn_is w asked t (answer.Shown took moment rows) may = inl may.0
turn_is w asked t (answer.Duties took moment duties) may = inl may.0
turn_is w asked t (answer.Refused took refusal) may = inl may.0
turn_is w asked t (answer.Full took need cap) may = inl may.0
turn_is w asked t (answer.Journal took live) may = inl may.0
turn_is w asked t (answer.Fenced held current) may = inl may.0
turn_is w asked t (answer.NoManager took name) may = inl may.0

nothing_more : (failed : Bool) → UnlessFailed failed (Unit {0})
nothing_more true = tt
nothing_more false = tt

same_turn : (turns : List Turn) (a b : Option Turn) → turns ++ option_to_list a ≡ turns ++ option_to_list b → a ≡ b
same_turn turns a b same = one_turn a b (append_cancel_left turns (option_to_list a) (option_to_list b) same)
  where
    one_turn : (a b : Option Turn) → option_to_list a ≡ option_to_list b → a ≡ b
    one_turn None None is = refl
    one_turn None (Some t) is = cc
    one_turn (Some t) None is = cc
    one_turn (Some t) (Some s) is = cc

few_in : {D : Type 0} (chest : Chest D) → length chest.turns.items ≤ turns_kept
few_in chest = let few = chest.few in let len = chest.turns.ok.0 in omega (arith, few, len)

abbrev FilesAreFull : Type 0
FilesAreFull = (w : World) (m : Room) (asked : Call) (t : Turn) → IsRoomTold w m asked t → AllByRecursion (IsAboveCap m.cap) t.events

-- ---- one call more

module _ (accepted : SiteFilesAreAccepted) (full : FilesAreFull) {D : Type 0} (m : Meaning D) (cap : ℕ) (w : World) (began : D) (old new : Chest D) (failed : ℕ) (notes : List Note) (asked : Call) (told : Answer)
    (since : StandsSince m cap w began old failed notes) (faults : TellsFaults m (chest_disk old) (chest_disk new) (is_journal told ≡ true))
  where
    abbrev turns : List Turn
    turns = old.turns.items

    abbrev v : World
    v = after_turns w turns

    abbrev more : ℕ
    more = failed_with failed told

    -- a call that left no turn
    module _ (kept : new.turns.items ≡ turns) where
      abbrev none : Note
      none = note_of asked None told

      abbrev for_none : (tells : IsTrue m.tells) → AddsNone m v (chest_disk old) (chest_disk new) told → IsAt m cap v new
          → StandsFor m w began (chest_told new more) (notes ++ none ∷ [])
      for_none tells adds at =
          let was = since.stands.stands tells in
          record {
            starts = was.starts;
            early = was.early;
            noted = noted_more none notes w was.noted tt;
            room = room_more none notes w (room_in was.starts.says was.starts.hold.masters was.starts.records) was.room (λ quiet. tt);
            caps = subst (AreAboveCap was.starts.says.cap) (sym kept) was.caps;
            tells = subst (λ (l : List Turn). TellsWorld (after_turns w l) (chest_told new more)) (sym kept) (world_told m cap v new more at.state);
            keeps = subst (λ (l : List Turn). Keeps m (after_turns w l) (chest_disk new)) (sym kept) (work_keeps m cap v accepted new.state.work at.state.work);
            moments = subst (λ (l : List Turn). LeavesOnly m began (chest_disk new) (HoldsIn w l)) (sym kept)
                (goes_further m began (chest_disk old) (chest_disk new) (HoldsIn w turns) (λ (crashed : CrashState). HoldWorld crashed v) was.moments adds.moments
                (λ crashed h. in_behind w turns crashed h));
          }

      reaches_none : IsTrue m.tells → AddsNone m v (chest_disk old) (chest_disk new) told → AreQuiet new.turns.items
          → Grow m (m.seen began) (m.seen (chest_disk new)) (λ room. room_behind w room new.turns.items)
      reaches_none tells adds quiet =
          let at = since.at tells in
          let mid = work_capped accepted m cap v old.state.work at.state.work in
          let before = since.reaches tells (subst AreQuiet kept quiet) in
          λ said says records others was is.
          adds.reaches mid.says says mid.records others mid.holds is ∙ before said mid.says records mid.records was mid.holds
          ∙ ap (λ (l : List Turn). room_behind w (room_in said was.masters records) l) (sym kept)

      since_none : LeavesTurn turns None told → (IsTrue m.tells → Adds m v (chest_disk old) (chest_disk new) asked None told) → (IsTrue m.tells → IsAt m cap v new)
          → StandsSince m cap w began new more (notes ++ none ∷ [])
      since_none why adds at =
          let quiet : is_journal told ≡ false = none_quiet turns told why in
          let one_failed : cond (is_journal told) (failed + 1) failed ≡ failed = ap (λ (b : Bool). cond b (failed + 1) failed) quiet in
          let unread : unread_of (notes ++ none ∷ []) ≡ unread_of notes + 0 = count_more (λ (n : Note). n.unread) notes none in
          let faults_are : faults_told new.turns.items ≡ faults_told turns = ap faults_told kept in
          let told_was = since.stands.told in
          record {
            stands = record {
              turns = kept ∙ since.stands.turns ∙ sym (append-nil (turns_noted notes)) ∙ sym (noted_with notes none);
              few = few_in new;
              failed = failed_count m (chest_disk old) (chest_disk new) (m.faults began) failed (is_journal told) faults since.stands.failed;
              told = omega (arith, one_failed, unread, faults_are, told_was);
              stands = λ tells. for_none tells (adds tells) (at tells);
            };
            at = λ tells. subst (λ (l : List Turn). IsAt m cap (after_turns w l) new) (sym kept) (at tells);
            capped = λ tells. since.capped tells;
            reaches = λ tells quiet_all. reaches_none tells (adds tells) quiet_all;
          }

    -- a call that left one
    module _ (t : Turn) (kept : new.turns.items ≡ turns ++ t ∷ []) where
      abbrev some : Note
      some = note_of asked (Some t) told

      -- it tells of room what is so
      room_there : (tells : IsTrue m.tells) → TellsRoom m v (m.seen (chest_disk old)) asked (Some t) → (starts : Starts (m.seen began) w)
          → LastFits w (room_in starts.says starts.hold.masters starts.records) turns some
      room_there tells room starts quiet =
          let mid = work_capped accepted m cap v old.state.work (since.at tells).state.work in (
            subst (λ (there : Room). IsRoomTold v there asked t) (since.reaches tells quiet starts.says mid.says starts.records mid.records starts.hold mid.holds) (room mid.says mid.records mid.holds),
            nothing_more (tells_disk_fault t.events),
          )

      above : (tells : IsTrue m.tells) → TellsRoom m v (m.seen (chest_disk old)) asked (Some t) → (most : ℕ) → most ≡ cap → AllByRecursion (IsAboveCap most) t.events
      above tells room most is =
          let mid = work_capped accepted m cap v old.state.work (since.at tells).state.work in
          subst (λ (c : ℕ). AllByRecursion (IsAboveCap c) t.events) (mid.capped ∙ sym is)
          (full v (room_in mid.says mid.holds.masters mid.records) asked t (room mid.says mid.records mid.holds))

      abbrev for_some : (tells : IsTrue m.tells) → AddsTurn m v (chest_disk old) (chest_disk new) asked t told
          → TellsRoom m v (m.seen (chest_disk old)) asked (Some t) → IsAt m cap (after_turn v t) new
          → StandsFor m w began (chest_told new more) (notes ++ some ∷ [])
      for_some tells adds room at =
          let was = since.stands.stands tells in
          let world : after_turns w new.turns.items ≡ after_turn v t = ap (after_turns w) kept ∙ turns_append w turns (t ∷ []) in
          record {
            starts = was.starts;
            early = was.early;
            noted = noted_more some notes w was.noted (subst (λ (l : List Turn). IsNotedLast (after_turns w l) some) since.stands.turns (turn_is v asked t told adds.answers, tt));
            room = room_more some notes w (room_in was.starts.says was.starts.hold.masters was.starts.records) was.room
                (subst (λ (l : List Turn). LastFits w (room_in was.starts.says was.starts.hold.masters was.starts.records) l some) since.stands.turns (room_there tells room was.starts));
            caps = subst (AreAboveCap was.starts.says.cap) (sym kept) (above_more was.starts.says.cap turns t was.caps (above tells room was.starts.says.cap (since.capped tells)));
            tells = subst (λ (u : World). TellsWorld u (chest_told new more)) (sym world) (world_told m cap (after_turn v t) new more at.state);
            keeps = subst (λ (u : World). Keeps m u (chest_disk new)) (sym world) (work_keeps m cap (after_turn v t) accepted new.state.work at.state.work);
            moments = subst (λ (l : List Turn). LeavesOnly m began (chest_disk new) (HoldsIn w l)) (sym kept)
                (goes_further m began (chest_disk old) (chest_disk new) (HoldsIn w (turns ++ t ∷ [])) (λ (crashed : CrashState). HoldWithin crashed v t)
                (weaker m began (chest_disk old) (HoldsIn w turns) (HoldsIn w (turns ++ t ∷ [])) was.moments (λ crashed h. in_longer w turns t crashed h)) adds.moments (λ crashed h. in_last w turns t crashed h));
          }

      reaches_some : IsTrue m.tells → AddsTurn m v (chest_disk old) (chest_disk new) asked t told → AreQuiet new.turns.items
          → Grow m (m.seen began) (m.seen (chest_disk new)) (λ room. room_behind w room new.turns.items)
      reaches_some tells adds quiet =
          let mid = work_capped accepted m cap v old.state.work (since.at tells).state.work in
          let parts = quiet_more turns t (subst AreQuiet kept quiet) in
          let before = since.reaches tells parts.0 in
          λ said says records others was is.
          adds.reaches parts.1 mid.says says mid.records others mid.holds is
          ∙ ap (λ (room : Room). room_after_events v room t.events) (before said mid.says records mid.records was mid.holds)
          ∙ sym (reach_more w (room_in said was.masters records) turns t) ∙ ap (λ (l : List Turn). room_behind w (room_in said was.masters records) l) (sym kept)

      since_some : TellsDisk (Some t) told → (IsTrue m.tells → Adds m v (chest_disk old) (chest_disk new) asked (Some t) told)
          → (IsTrue m.tells → TellsRoom m v (m.seen (chest_disk old)) asked (Some t)) → (IsTrue m.tells → IsAt m cap (after_turn v t) new)
          → StandsSince m cap w began new more (notes ++ some ∷ [])
      since_some says adds room at =
          let fault = tells_disk_fault t.events in
          let split = told_or_noted fault (hides_events told) (is_journal told) says (hidden_quiet told) in
          let unread : unread_of (notes ++ some ∷ []) ≡ unread_of notes + cond (fault && hides_events told) 1 0 = count_more (λ (n : Note). n.unread) notes some in
          let faults_are : faults_told new.turns.items ≡ faults_told turns + cond fault 1 0 = ap faults_told kept ∙ count_more (λ (s : Turn). tells_disk_fault s.events) turns t in
          let one_failed : cond (is_journal told) (failed + 1) failed ≡ failed + cond (is_journal told) 1 0 = one_more (is_journal told) in
          let told_was = since.stands.told in
          record {
            stands = record {
              turns = kept ∙ ap (λ (l : List Turn). l ++ t ∷ []) since.stands.turns ∙ sym (noted_with notes some);
              few = few_in new;
              failed = failed_count m (chest_disk old) (chest_disk new) (m.faults began) failed (is_journal told) faults since.stands.failed;
              told = omega (arith, one_failed, split, unread, faults_are, told_was);
              stands = λ tells. for_some tells (adds tells) (room tells) (at tells);
            };
            at = λ tells. subst (λ (u : World). IsAt m cap u new) (sym (ap (after_turns w) kept ∙ turns_append w turns (t ∷ []))) (at tells);
            capped = λ tells. since.capped tells;
            reaches = λ tells quiet. reaches_some tells (adds tells) quiet;
          }
        where
          one_more : (b : Bool) → cond b (failed + 1) failed ≡ failed + cond b 1 0
          one_more true = refl
          one_more false = omega arith

    -- either of both
    since_with : (turn : Option Turn) → new.turns.items ≡ turns ++ option_to_list turn → LeavesTurn turns turn told → TellsDisk turn told
        → (IsTrue m.tells → Adds m v (chest_disk old) (chest_disk new) asked turn told) → (IsTrue m.tells → TellsRoom m v (m.seen (chest_disk old)) asked turn)
        → (IsTrue m.tells → IsAt m cap (behind v turn) new) → StandsSince m cap w began new more (notes ++ note_of asked turn told ∷ [])
    since_with None kept why says adds room at = since_none (kept ∙ append-nil turns) why adds at
    since_with (Some t) kept why says adds room at = since_some t kept says adds room at

    module _ (node now : ℕ) (one : LeavesOne node now asked old.turns.items new.turns.items told) (serves : IsTrue m.tells → (u : World) → IsAt m cap u old → Serves m cap u node now asked old new told) where
      same_as : (tells : IsTrue m.tells) → (serves tells v (since.at tells)).one.turn ≡ one.turn
      same_as tells =
          let there = serves tells v (since.at tells) in same_turn turns there.one.turn one.turn (sym there.one.turns ∙ one.turns)

      adds_so : IsTrue m.tells → Adds m v (chest_disk old) (chest_disk new) asked one.turn told
      adds_so tells = subst (λ (turn : Option Turn). Adds m v (chest_disk old) (chest_disk new) asked turn told) (same_as tells) (serves tells v (since.at tells)).adds

      room_so : IsTrue m.tells → TellsRoom m v (m.seen (chest_disk old)) asked one.turn
      room_so tells = subst (λ (turn : Option Turn). TellsRoom m v (m.seen (chest_disk old)) asked turn) (same_as tells) (serves tells v (since.at tells)).room

      at_so : IsTrue m.tells → IsAt m cap (behind v one.turn) new
      at_so tells = subst (λ (turn : Option Turn). IsAt m cap (behind v turn) new) (same_as tells) (serves tells v (since.at tells)).at

      pub stands_on : StandsSince m cap w began new more (notes ++ note_of asked one.turn told ∷ [])
      stands_on = since_with one.turn one.turns one.leaves one.tells adds_so room_so at_so

      pub call_noted : (is_journal told ≡ true → IsWithout new.state.work)
          → NotesCall m w began (chest_told old failed) (chest_told new more) notes node now (note_of asked one.turn told) told
      call_noted down = record {
        made = one.made;
        leaves = one.leaves;
        unread = refl;
        faults = faults;
        down = λ journal. none_up new.state.work (down journal);
        adds = adds_so;
        room = room_so;
        stands = stands_on.stands;
      }
        where
          none_up : (work : Work D) → IsWithout work → IsNone (role_at work)
          none_up (Up manager node) without = absurd without
          none_up (Down files place) without = refl

-- ---- no call so far

-- files reach one way
same_room : (files : CrashState) (said says : MasterState) (records others : List Record) (was : HoldRecords files said records) (is : HoldRecords files says others)
    → room_in says is.masters others ≡ room_in said was.masters records
same_room files said says records others was is =
    let r : Recorded = record { master = map master_text was.masters; says = said; bodies = map record_text records } in
    let holds = held_bodies files said records was in
    room_is files says others is r holds ∙ sym (room_is files said records was r holds)

module _ (accepted : SiteFilesAreAccepted) {D : Type 0} (m : Meaning D) (only_now : (disk : D) (crashed : CrashState) → m.left_since disk (m.moment disk) crashed → IsLeft (m.may_leave disk) crashed)
    (cap : ℕ) (w : World) (chest : Chest D) (none : chest.turns.items ≡ []) (at : IsTrue m.tells → IsAt m cap w chest) (starts : IsTrue m.tells → Starts (m.seen (chest_disk chest)) w)
    (early : (tells : IsTrue m.tells) → (starts tells).says.epoch < 2 ^ 61) (counted : m.faults (chest_disk chest) < 2 ^ 64)
  where
    abbrev disk : D
    disk = chest_disk chest

    abbrev for_begun : (tells : IsTrue m.tells) → StandsFor m w disk (chest_told chest 0) []
    for_begun tells = record {
      starts = starts tells;
      early = early tells;
      noted = tt;
      room = tt;
      caps = subst (AreAboveCap (starts tells).says.cap) (sym none) tt;
      tells = subst (λ (l : List Turn). TellsWorld (after_turns w l) (chest_told chest 0)) (sym none) (world_told m cap w chest 0 (at tells).state);
      keeps = subst (λ (l : List Turn). Keeps m (after_turns w l) disk) (sym none) (work_keeps m cap w accepted chest.state.work (at tells).state.work);
      moments = subst (λ (l : List Turn). LeavesOnly m disk disk (HoldsIn w l)) (sym none)
          (started m disk (HoldsIn w []) (λ crashed since. in_behind w [] crashed ((work_keeps m cap w accepted chest.state.work (at tells).state.work).crash crashed (only_now disk crashed since))));
    }

    pub stands_first : StandsSince m cap w disk chest 0 []
    stands_first = record {
      stands = record {
        turns = none;
        few = few_in chest;
        failed = omega (arith, counted);
        told = ap faults_told none;
        stands = λ tells. for_begun tells;
      };
      at = λ tells. subst (λ (l : List Turn). IsAt m cap (after_turns w l) chest) (sym none) (at tells);
      capped = λ tells.
          let mid = work_capped accepted m cap w chest.state.work (at tells).state.work in
          let begun = starts tells in
          cap_once (m.seen disk) begun.says mid.says begun.records mid.records begun.hold mid.holds ∙ mid.capped;
      reaches = λ tells quiet said says records others was is.
          subst (λ (l : List Turn). room_in says is.masters others ≡ room_behind w (room_in said was.masters records) l) (sym none) (same_room (m.seen disk) said says records others was is);
    }
