-- Programs that the definitions refuse: what each does, and that it can't be.
use Rattle.std.proofs.Common.{◌≡◌, ◌≢◌, inl, inr, ℕ, ◌+◌, ◌^◌, ◌<◌, ◌≤◌, true, false, List, [], ◌∷◌, ◌++◌, refl, sym, ◌∙◌, ap, subst, arith, Option, None, Some, codes, ◌-◌, min, is_some, option_to_list, append-nil}
use Rattle.std.specs.List.{AllByRecursion}
use Rattle.qm_disk.specs.Disk.{CrashState, Meaning, IsLeft, OnlyLooks, TellsFaults}
use Rattle.qm_history.specs.Common.{Input, Query, Record, Request, IsLog, HasSpelling, record_text, MayAnswer, input_of, acting, Whole, faults_told, is_journal, system_of, IsLegalTurn, read, request_record, MasterState, Hold, HoldRecords, IsServed, Visit, visits_of, system_in}
use Rattle.qm_kinds.specs.declared.input.Input.TheVariants as input
use Rattle.qm_kinds.specs.declared.query.After.TheVariants as after
use Rattle.qm_kinds.specs.declared.query.Listing.TheVariants.{Queues}
use Rattle.qm_kinds.specs.declared.refusal.ParseKind.TheVariants as parse
use Rattle.qm_kinds.specs.declared.refusal.Refusal.TheVariants as refused
use Rattle.qm_kinds.specs.declared.request.Request.TheVariants as request
use Rattle.qm_history.specs.declared.call.Answer.{Answer}
use Rattle.qm_history.specs.declared.call.Answer.TheVariants as answer
use Rattle.qm_history.specs.declared.call.Call.{Call}
use Rattle.qm_history.specs.declared.call.Call.TheVariants as call
use Rattle.qm_history.specs.declared.event.Event.{Event}
use Rattle.qm_history.specs.declared.event.Event.TheVariants as event
use Rattle.qm_history.specs.declared.turn.Turn.{Turn}
use Rattle.qm_history.specs.declared.turn.Why.{Why}
use Rattle.qm_history.specs.declared.turn.Why.TheVariants as why
use Rattle.qm_history.specs.declared.world.Role.{Role}
use Rattle.qm_history.specs.declared.world.World.{World}
use Rattle.qm_history.specs.Chest.{AddsTurn, AreRoomTold, Chest, IsMadeFor, LeavesTurn, Note, Stands, TellsRoom, unread_of}
use Rattle.qm_history.specs.Contents.{Compacts, HoldWorld, IsEpochOf, Keeps, LeavesFiles, are_without_write}
use Rattle.qm_history.specs.Leaving.{MayBeLeftBehind}
use Rattle.qm_history.specs.Order.{AreInOrder, nothing_served}
use Rattle.qm_history.specs.Reaching.{IsCutBehindTakeover}
use Rattle.qm_history.specs.Readings.{AreReadings}
use Rattle.qm_history.specs.Room.{Room, IsAboveCap, IsRoomTold, HaveRoom, record_need, room_in}
use Rattle.qm_history.specs.Script.{UserLine, LineSort, Items, Act}
use Rattle.qm_history.specs.Telling.{TellsWhatItRead}
use Rattle.qm_history.proofs.AnswerLemmas.{all_above}
use Rattle.qm_history.proofs.StartLemmas.{says_one, hold_one}
use Rattle.qm_history.proofs.TellingLemmas.{turn_tells}
use Rattle.qm_history.proofs.Serving.{new_site, world_of, listing_of}

-- ---- answers, room and faults

-- It tells that a file is full whose room it didn't ask for.
pub full_with_room : (w : World) (m : Room) (asked : Call) (t : Turn) (node need cap : ℕ) → need ≤ cap → t.events ≡ event.Full node need cap ∷ []
    → IsRoomTold w m asked t → ⊥
full_with_room w m asked t node need cap small is told =
    let above : AllByRecursion (IsAboveCap m.cap) (event.Full node need cap ∷ []) =
    subst (AllByRecursion (IsAboveCap m.cap)) is (all_above None w m t.moment (input_of asked) t.events told) in
    omega (arith, small, above.0.0)

fits_or_not : (a b : ℕ) → a ≤ b → b < a → ⊥
fits_or_not a b within above = omega (arith, within, above)

-- Once a disk has failed it tells of each request that the file is full: what is told is of the files as they are before the call.
pub full_behind_a_fault : {D : Type 0} (m : Meaning D) (w : World) (files : CrashState) (says : MasterState)
    (records : List Record) (holds : HoldRecords files says records) (line : ℕ) (r : Request) (t : Turn) (node need cap : ℕ) → t.events ≡ event.Full node need cap ∷ []
    → record_need (room_in says holds.masters records) (request_record (acting t.moment (system_in w)) node r) ≤ (room_in says holds.masters records).cap
    → TellsRoom m w files (call.Line line (input.Ask r)) (Some t) → ⊥
full_behind_a_fault m w files says records holds line r t node need cap is fits tells =
    let told : HaveRoom None w (room_in says holds.masters records) t.moment (input.Ask r) (event.Full node need cap ∷ []) =
    subst (HaveRoom None w (room_in says holds.masters records) t.moment (input.Ask r)) is (tells says records holds) in
    fits_or_not _ _ fits told.0.2

-- It tells of a request with room that the file is full, and notes the need of another one.
pub full_with_anothers_need : (w : World) (room : Room) (line : ℕ) (r : Request)
    (t : Turn) (node need cap : ℕ) (notes : List Note) → t.events ≡ event.Full node need cap ∷ [] → need ≢ record_need room (request_record (acting t.moment (system_in w)) node r)
    → AreRoomTold w room (record { asked = call.Line line (input.Ask r); turn = Some t; unread = false } ∷ notes) → ⊥
full_with_anothers_need w room line r t node need cap notes is other told =
    let own : HaveRoom None w room t.moment (input.Ask r) (event.Full node need cap ∷ []) = subst (HaveRoom None w room t.moment (input.Ask r)) is told.0 in
    other own.0.0

-- It tells that a disk failed in a turn, and neither answers nor notes it.
pub fault_not_counted : {D : Type 0} (m : Meaning D) (w : World) (began : D) (c : Chest D) (notes : List Note)
    → faults_told c.turns ≡ 1 → c.failed ≡ 0 → unread_of notes ≡ 0 → Stands m w began c notes → ⊥
fault_not_counted m w began c notes one none read stands =
    let same : faults_told c.turns ≡ c.failed + unread_of notes = stands.told in omega (arith, one, none, read, same)

-- It answers that a disk failed, where none did.
pub journal_on_a_good_disk : {D : Type 0} (m : Meaning D) (old new : D) (told : Answer) → m.faults new ≡ m.faults old → m.faults old < 2 ^ 64 - 1
    → is_journal told ≡ true → TellsFaults m old new (is_journal told ≡ true) → ⊥
journal_on_a_good_disk m old new told same small says tells =
    let one : m.faults new ≡ min (m.faults old + 1) (2 ^ 64 - 1) = tells.fault says in omega (arith, same, small, one)

-- It hides behind want of memory that a record was left in doubt by a disk.
pub fault_behind_no_memory : (w : World) (asked : Call) (t : Turn) (first next : Event) → t.events ≡ first ∷ next ∷ []
    → MayAnswer w asked t (answer.NoMemory None) → ⊥
fault_behind_no_memory w asked t first next is may =
    subst (λ (events : List Event). Rattle.qm_history.specs.Answering.IsOneTakeover events) is may.1

-- ---- clocks

-- It never asks its clock, and takes the first moment.
pub no_reading : (v : Visit) → v.turn.moment ≡ 0 → AreReadings Whole (1000 ∷ []) (v ∷ []) → ⊥
no_reading v zero_is told = let same : ◌≡◌ {A = ℕ} 1000 0 = cc in absurd (omega (arith, same))

-- ---- files

module _ (one_log : (file : List ℕ) (a b : List (List ℕ)) → IsLog file a → IsLog file b → a ≡ b) (one_record : (q r : Record) → HasSpelling q → HasSpelling r → record_text q ≡ record_text r → q ≡ r) where
  settled : (w : World) (log : List Record) → w.doubt ≡ None → MayBeLeftBehind w log → system_of log ≡ system_in w
  settled w log none (inl same) = ap system_of same
  settled w log none (inr same) = ap system_of (same ∙ ap (λ (o : Option Record). w.log ++ option_to_list o) none ∙ append-nil w.log)

  -- It puts the last sync of an append off: a crash may still leave the log before a record that was acknowledged.
  pub sync_put_off : {D : Type 0} (m : Meaning D) (w : World) (disk : D) (crashed : CrashState) (before : List Record) → w.doubt ≡ None → IsLeft (m.may_leave disk) crashed
      → Hold crashed before → system_of before ≢ system_in w → Keeps m w disk → ⊥
  sync_put_off m w disk crashed before none left holds other keeps =
      let kept : HoldWorld crashed w = keeps.crash crashed left in
      other (hold_one one_log one_record crashed before kept.log holds kept.holds ∙ settled w kept.log none kept.left)

  -- Its COMPACT writes nothing.
  pub nothing_compacted : (files : CrashState) (file : ℕ) (w : World) → Compacts files files file w → ⊥
  nothing_compacted files file w h =
      h.other (sym h.live ∙ ap (λ (m : _). m.live) (says_one one_log one_record files h.says h.said _ _ h.is h.was))

  -- It writes no epoch into the master.
  pub no_epoch : (files : CrashState) (w : World) (role : Role) → w.manager ≡ Some role → 0 < role.epoch → (h : HoldWorld files w) → h.holds.says.epoch ≡ 0 → ⊥
  no_epoch files w role up high h none =
      let same : h.holds.says.epoch ≡ role.epoch = subst (λ (o : Option Role). IsEpochOf w o h.holds.says.epoch) up h.epoch in omega (arith, high, none, same)

  -- Its COMPACT of a node that holds another epoch rewrites a file.
  pub rewritten_by_a_fenced_call : {D : Type 0} (m : Meaning D) (w : World) (old new : D) (asked : Call) (t : Turn) (told : Answer) (node held current f : ℕ)
      → t.events ≡ event.Fenced node held current ∷ [] → f ≤ 2 → m.seen new f ≢ m.seen old f → AddsTurn m w old new asked t told → ⊥
  rewritten_by_a_fenced_call m w old new asked t told node held current f is within other adds =
      let looks : OnlyLooks m old new = subst (λ (events : List Event). LeavesFiles m (are_without_write events) old new) is adds.files in
      other (looks.reads f within)

  -- It tells that a file is damaged, though its disks hold the log.
  pub damaged_on_good_files : {D : Type 0} (m : Meaning D) (w : World) (old new : D) (asked : Call) (t : Turn) (file place : ℕ)
      → AddsTurn m w old new asked t (answer.Damaged file place) → ⊥
  damaged_on_good_files m w old new asked t file place adds = adds.undamaged file place refl

-- It serves a call of one node as a turn of another.
pub turn_of_another_node : (now : ℕ) (asked : Call) (t : Turn) → t.node ≡ 1 → IsMadeFor 0 now asked (Some t) → ⊥
turn_of_another_node now asked t is made = let same : ◌≡◌ {A = ℕ} 1 0 = sym is ∙ made.0 in absurd (omega (arith, same))

-- It tells that no more turns are kept before any is.
pub full_at_once : LeavesTurn [] None answer.HistoryFull → ⊥
full_at_once (inl spent) = let none : ◌≡◌ {A = ℕ} 0 1000000 = spent.1 in absurd (omega (arith, none))
full_at_once (inr short) = cc

-- ---- takeovers

-- Its takeover reads the file, and hides what became of the record in doubt.
pub hidden_doubt : (w : World) (t : Turn) (r : Record) → w.doubt ≡ Some r → t.events ≡ event.TakeDoubt t.node (w.greatest + 1) None ∷ []
    → IsLegalTurn w t → ⊥
hidden_doubt w t r doubt is legal =
    let tells : TellsWhatItRead w (event.TakeDoubt t.node (w.greatest + 1) None ∷ []) = subst (TellsWhatItRead w) is (turn_tells w t legal) in
    let bad : false ≡ is_some w.doubt = tells refl in
    let worse : false ≡ true = bad ∙ ap (λ (o : Option Record). is_some o) doubt in
    cc

-- Its takeover finds the master full, once it has read the files, and hides what became of the record in doubt.
pub hidden_behind_a_full_master : (w : World) (t : Turn) (r : Record) (node need cap : ℕ) → w.doubt ≡ Some r
    → t.events ≡ event.TakeDoubt t.node w.greatest None ∷ event.Full node need cap ∷ [] → IsLegalTurn w t → ⊥
hidden_behind_a_full_master w t r node need cap doubt is legal =
    let bad : false ≡ is_some w.doubt = subst (TellsWhatItRead w) is (turn_tells w t legal) in
    let worse : false ≡ true = bad ∙ ap (λ (o : Option Record). is_some o) doubt in
    cc

-- It tells that memory was short behind a takeover that was all that was asked for.
pub role_taken_cut_short : (reader : UserLine → ℕ → List Visit → List ℕ → Input) (w : World) (number : ℕ) (on : Option (List (List ℕ))) (t : Turn)
    → IsCutBehindTakeover reader w (call.Line number (input.TakeManager on)) t → ⊥
role_taken_cut_short reader w number on t cut = let bad : true ≡ false = cut.2 in cc

-- ---- readers

abbrev line : ℕ → List ℕ → LineSort → List ℕ → UserLine
line number node sort what = record { line = record { number = number; node = node; sort = sort; text = what }; user = codes "SYSTEM" }

-- the query of an item list that goes on with a listing of queues
abbrev queues : Query
queues = record (listing_of Queues None) { single = true }

-- whatever an item list says, it asks for the next queue
abbrev next_queue : ℕ → List ℕ → List ℕ → Input
next_queue function bytes user = input.Show queues

-- whatever a command says, it looks at the clock
abbrev at_the_clock : List ℕ → ℕ → List ℕ → Input
at_the_clock user reading text = input.Ask request.Tick

abbrev site : World
site = world_of new_site

-- Its reader finds a fault in each line: TICK is read, and the turn of a fault isn't one of it.
pub each_line_a_fault : IsServed site 0 1000 (call.Line 1 (read next_queue at_the_clock (line 1 (codes "A") Act (codes "TICK")) 1000 [] [])) (event.Refused 0 1000 (input.Fault 0 parse.Form) (refused.ParseFault 0 parse.Form) ∷ []) → ⊥
each_line_a_fault served = served

-- ---- order

abbrev turn : ℕ → Why → Turn
turn node because = record { node = node; why = because; moment = 1000; events = [] }

-- It serves all of one node before the other node's lines.
pub node_by_node : AreInOrder site (nothing_served (1 ∷ 2 ∷ [])) (turn 0 (why.Line 1) ∷ turn 0 why.Fetch ∷ turn 0 why.Leave ∷ turn 1 (why.Line 2) ∷ []) → ⊥
node_by_node order = let none : ◌≡◌ {A = List ℕ} (2 ∷ []) [] = order.1.0.0 in cc

-- It leaves a line out.
pub line_left_out : AreInOrder site (nothing_served (1 ∷ 2 ∷ [])) (turn 1 (why.Line 2) ∷ []) → ⊥
line_left_out order = let same : ◌≡◌ {A = ℕ} 2 1 = order.0 in absurd (omega (arith, same))

-- It lets the second node fetch before the first one has left.
pub node_left_waiting : AreInOrder site (nothing_served []) (turn 0 why.Fetch ∷ turn 1 why.Fetch ∷ []) → ⊥
node_left_waiting order = let down : true ≡ false = order.1.0.1.0 in cc

-- ---- listings

-- The queue SYS$BATCH was shown to A. A's next call goes on behind it, and B's call begins: it has no listing of A's.
abbrev shown_to_a : List Turn
shown_to_a =
    record { node = 0; why = why.Line 1; moment = 1000; events = event.Took 0 1000 1 (codes "A" ∷ codes "B" ∷ []) (codes "A" ∷ codes "B" ∷ []) (codes "A" ∷ codes "B" ∷ []) None ∷ event.Shown 0 1000 (input.Show queues) ∷ [] } ∷ []

pub a_goes_on : read next_queue at_the_clock (line 2 (codes "A") Items (codes "41 00000000")) 1000 (visits_of 0 site shown_to_a) []
    ≡ input.Show (record queues { after = Some (after.Name (codes "SYS$BATCH")) })
a_goes_on = refl

pub b_begins : read next_queue at_the_clock (line 3 (codes "B") Items (codes "41 00000000")) 1000 (visits_of 1 site shown_to_a) [] ≡ input.Show queues
b_begins = refl
