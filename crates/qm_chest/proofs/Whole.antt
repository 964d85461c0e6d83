-- Calls that write nothing: what they leave.
use Rattle.std.proofs.Common.{◌≡◌, ℕ, ◌<◌, ◌≤◌, Bool, true, false, List, [], ◌∷◌, length, refl, sym, ◌∙◌, ap, subst, arith, Option, None, unwrap_or}
use Rattle.qm_disk.specs.Disk.{CrashState, Meaning, IsLeft}
use Rattle.qm_disk.proofs.Moments.{started}
use Rattle.qm_history.specs.Common.{Input, answer_of, event_answer, moment_of, shown_answer, takeover_of, input_of, why_of, IsFromOutside, HoldWorld, compacted_by, is_disk_fault, is_journal, tells_disk_fault, CanCome, after_event, takes_over, IsBehindTakeover, IsOwn, IsServed, Nothing, UnlessDown, is_down, system_in, GREATEST_CAP}
use Rattle.qm_kinds.specs.declared.input.Input.TheVariants as input
use Rattle.qm_kinds.specs.declared.refusal.ParseKind.{ParseKind}
use Rattle.qm_kinds.specs.declared.refusal.Refusal.TheVariants as refused
use Rattle.qm_store.specs.Recorded.{Recorded, Holds}
use Rattle.qm_acting.specs.Standing.{standing_of}
use Rattle.qm_history.specs.declared.call.Answer.{Answer}
use Rattle.qm_history.specs.declared.call.Answer.TheVariants as answer
use Rattle.qm_history.specs.declared.call.Call.{Call}
use Rattle.qm_history.specs.declared.call.Takeover.{Takeover}
use Rattle.qm_history.specs.declared.event.Event.{Event}
use Rattle.qm_history.specs.declared.event.Event.TheVariants as event
use Rattle.qm_history.specs.declared.turn.Turn.{Turn}
use Rattle.qm_history.specs.declared.turn.Why.{Why}
use Rattle.qm_history.specs.declared.world.World.{World}
use Rattle.qm_history.specs.Answering.{MayAnswer, SaysItsEvents}
use Rattle.qm_history.specs.Chest.{AddsNone}
use Rattle.qm_history.specs.Room.{Room, HasRoom, room_after}
use Rattle.qm_chest.specs.declared.work.Work.{Work}
use Rattle.qm_chest.specs.declared.work.Work.TheVariants.{Up, Down}
use Rattle.qm_chest.specs.declared.chest.State.{State}
use Rattle.qm_chest.specs.At.{IsStateAt, state_disk}
use Rattle.qm_chest.specs.declared.asking.Came.{Came}
use Rattle.qm_chest.specs.declared.members.Members.{Members}
use Rattle.qm_chest.specs.Members.{AreMembersOf}
use Rattle.qm_chest.specs.Steps.{IsShort, IsStep, is_plain, is_step}
use Rattle.qm_chest.specs.Work.{IsWorkAt, work_disk}
use Rattle.qm_chest.specs.Parts.{Part}
use Rattle.qm_chest.specs.Turns.{made_turn}
use Rattle.qm_chest.specs.declared.serving.Served.{Served}
use Rattle.qm_chest.specs.Whole.{IsServedAs, both}
use Rattle.qm_chest.proofs.Holding.{SiteFilesAreAccepted, epoch_of_none, grows, holds_world, room_of, still}
use Rattle.qm_chest.proofs.Turning.{adds, tells_room, whole}
use Rattle.qm_chest.proofs.Steps.{epoch_of_role}
use Rattle.qm_store.proofs.Moving.{left_at_rest}

-- ---- what its files hold

module _ (accepted : SiteFilesAreAccepted) {D : Type 0} (m : Meaning D) (cap : ℕ) (w : World) where
  pub work_reads : (work : Work D) → IsWorkAt m cap w work → (r : Recorded) × Holds (m.seen (work_disk work)) r
  work_reads (Up manager node) up = ((standing_of manager).recorded, up.at_rest.holds)
  work_reads (Down files place) down = (down.holds.reads.recorded, down.holds.reads.holds)

  pub work_crash : (work : Work D) → IsWorkAt m cap w work → (crashed : CrashState) → IsLeft (m.may_leave (work_disk work)) crashed → HoldWorld crashed w
  work_crash (Up manager node) up crashed left =
      holds_world accepted cap w None crashed (standing_of manager).recorded (left_at_rest m (standing_of manager).recorded (work_disk (Up manager node)) up.at_rest crashed left) up.may
      (epoch_of_role w (standing_of manager).recorded.says.epoch w.manager (record { node = node; epoch = w.greatest }) up.role up.epoch)
  work_crash (Down files place) down crashed left =
      let some = down.holds.crash crashed left in
      holds_world accepted cap w place crashed some.recorded some.holds some.is (epoch_of_none w some.recorded.says.epoch w.manager down.none some.is.epoch)

  -- an event that writes nothing, whatever the chest works with
  pub work_still : (only_now : (disk : D) (crashed : CrashState) → m.left_since disk (m.moment disk) crashed → IsLeft (m.may_leave disk) crashed) (work : Work D) → IsWorkAt m cap w work
      → (reading : ℕ) (asked : Input) (e : Event) → CanCome w e → ((room : Room) → room_after w room e ≡ room) → ((room : Room) → HasRoom None w room reading asked e [])
      → Part m None w reading asked false (e ∷ []) (work_disk work) (work_disk work)
  work_still only_now work at reading asked e comes stays has =
      let reads = work_reads work at in
      still m (work_disk work) (only_now (work_disk work)) None w reading asked false e reads.0 reads.1 (work_crash work at) comes stays (has (room_of reads.0))

-- ---- an answer that says what the events do

pub says : (w : World) (asked : Call) (t : Turn) (told : Answer) → is_plain told ≡ true → SaysItsEvents w asked t told → MayAnswer w asked t told
says w asked t (answer.NoMemory took) plain h = cc
says w asked t (answer.Damaged file place) plain h = cc
says w asked t answer.HistoryFull plain h = cc
says w asked t (answer.Done took moment reply) plain h = h
says w asked t (answer.Shown took moment rows) plain h = h
says w asked t (answer.Duties took moment duties) plain h = h
says w asked t (answer.Refused took refusal) plain h = h
says w asked t (answer.Full took need cap) plain h = h
says w asked t (answer.Journal took live) plain h = h
says w asked t (answer.Fenced held current) plain h = h
says w asked t (answer.NoManager took name) plain h = h

pub plain_undamaged : (told : Answer) → is_plain told ≡ true → (file place : ℕ) → told ≡ answer.Damaged file place → ⊥
plain_undamaged told plain file place is = let no : is_plain (answer.Damaged file place) ≡ true = subst (λ (a : Answer). is_plain a ≡ true) is plain in cc

-- ---- what one event that is no takeover says

-- neither a takeover nor a compaction
abbrev is_simple : Event → Bool
is_simple (event.Took node moment epoch gone up may kept) = false
is_simple (event.TakeDoubt node tried kept) = false
is_simple (event.Compacted node epoch file) = false
is_simple _ = true

plain_shown : (w : World) (node : ℕ) (took : Option Takeover) (moment : ℕ) (asked : Input) → is_plain (shown_answer w node took moment asked) ≡ true
plain_shown w node took moment (input.Show query) = refl
plain_shown w node took moment (input.Fetch known) = refl
plain_shown w node took moment (input.Ask asked) = refl
plain_shown w node took moment input.Compact = refl
plain_shown w node took moment input.StartNode = refl
plain_shown w node took moment input.StopNode = refl
plain_shown w node took moment (input.TakeManager on) = refl
plain_shown w node took moment (input.Fault place kind) = refl

journal_shown : (w : World) (node : ℕ) (took : Option Takeover) (moment : ℕ) (asked : Input) → is_journal (shown_answer w node took moment asked) ≡ false
journal_shown w node took moment (input.Show query) = refl
journal_shown w node took moment (input.Fetch known) = refl
journal_shown w node took moment (input.Ask asked) = refl
journal_shown w node took moment input.Compact = refl
journal_shown w node took moment input.StartNode = refl
journal_shown w node took moment input.StopNode = refl
journal_shown w node took moment (input.TakeManager on) = refl
journal_shown w node took moment (input.Fault place kind) = refl

-- what such an event says: its answer is plain, tells of a disk where the event does, and no takeover stands in front; and the greatest
-- epoch stays
record SaysOf (w : World) (took : Option Takeover) (because : Why) (moment : ℕ) (e : Event) : Type 0 where
  plain : is_plain (event_answer w took because moment e) ≡ true
  journal : is_journal (event_answer w took because moment e) ≡ is_disk_fault e
  alone : takeover_of w (e ∷ []) ≡ None
  image : compacted_by (e ∷ []) ≡ None
  greatest : (after_event w e).greatest ≡ w.greatest

says_of : (w : World) (took : Option Takeover) (because : Why) (moment : ℕ) (e : Event) → is_simple e ≡ true → SaysOf w took because moment e
says_of w took because moment (event.Took node acted epoch gone up may kept) simple = cc
says_of w took because moment (event.TakeDoubt node tried kept) simple = cc
says_of w took because moment (event.Compacted node epoch file) simple = cc
says_of w took because moment (event.Shown node acted asked) simple =
    record { plain = plain_shown w node took moment asked; journal = journal_shown w node took moment asked; alone = refl; image = refl; greatest = refl }
says_of w took because moment (event.Done node acted asked reply) simple = record { plain = refl; journal = refl; alone = refl; image = refl; greatest = refl }
says_of w took because moment (event.Refused node acted asked refusal) simple = record { plain = refl; journal = refl; alone = refl; image = refl; greatest = refl }
says_of w took because moment (event.Doubt node acted asked) simple = record { plain = refl; journal = refl; alone = refl; image = refl; greatest = refl }
says_of w took because moment (event.Full node need cap) simple = record { plain = refl; journal = refl; alone = refl; image = refl; greatest = refl }
says_of w took because moment (event.NoManager node) simple = record { plain = refl; journal = refl; alone = refl; image = refl; greatest = refl }
says_of w took because moment (event.Fenced node held current) simple = record { plain = refl; journal = refl; alone = refl; image = refl; greatest = refl }
says_of w took because moment (event.Stopped node) simple = record { plain = refl; journal = refl; alone = refl; image = refl; greatest = refl }
says_of w took because moment (event.Left node) simple = record { plain = refl; journal = refl; alone = refl; image = refl; greatest = refl }
says_of w took because moment (event.Started node) simple = record { plain = refl; journal = refl; alone = refl; image = refl; greatest = refl }
says_of w took because moment (event.CompactDoubt node) simple = record { plain = refl; journal = refl; alone = refl; image = refl; greatest = refl }

-- a node that comes up, or goes
abbrev pub is_move : Event → Bool
is_move (event.Stopped node) = true
is_move (event.Left node) = true
is_move (event.Started node) = true
is_move _ = false

-- it is no takeover, has no moment of its own, and leaves the greatest epoch
record MovesOf (w : World) (first : Event) : Type 0 where
  alone : (events : List Event) → takeover_of w (first ∷ events) ≡ None
  timeless : moment_of first ≡ None
  greatest : (after_event w first).greatest ≡ w.greatest

moves_of : (w : World) (first : Event) → is_move first ≡ true → MovesOf w first
moves_of w (event.Stopped node) move = record { alone = λ events. refl; timeless = refl; greatest = refl }
moves_of w (event.Left node) move = record { alone = λ events. refl; timeless = refl; greatest = refl }
moves_of w (event.Started node) move = record { alone = λ events. refl; timeless = refl; greatest = refl }
moves_of w (event.Done n m r told) move = cc
moves_of w (event.Doubt n m r) move = cc
moves_of w (event.Refused n m i refusal) move = cc
moves_of w (event.Shown n m i) move = cc
moves_of w (event.Full n need cap) move = cc
moves_of w (event.NoManager n) move = cc
moves_of w (event.Took n m epoch gone up may kept) move = cc
moves_of w (event.TakeDoubt n tried kept) move = cc
moves_of w (event.Fenced n held current) move = cc
moves_of w (event.Compacted n epoch file) move = cc
moves_of w (event.CompactDoubt n) move = cc

pub step_simple : (e : Event) → is_step e ≡ true → is_simple e ≡ true
step_simple (event.Done n m r told) step = refl
step_simple (event.Doubt n m r) step = refl
step_simple (event.Refused n m i refusal) step = refl
step_simple (event.Shown n m i) step = refl
step_simple (event.Full n need cap) step = refl
step_simple (event.Fenced n held current) step = refl
step_simple (event.NoManager n) step = refl
step_simple (event.Stopped n) step = refl
step_simple (event.Left n) step = refl
step_simple (event.Started n) step = refl
step_simple (event.Took n m epoch gone up may kept) step = cc
step_simple (event.TakeDoubt n tried kept) step = cc
step_simple (event.Compacted n epoch file) step = cc
step_simple (event.CompactDoubt n) step = cc

-- ---- a call that is served whole by one event, or by a node that moves and its record

module _ {D : Type 0} (m : Meaning D) (cap : ℕ) (w : World) (node now : ℕ) (asked : Call) (there : node < length (system_in w).nodes) (outside : IsFromOutside (input_of asked)) where
  pub one_served : (e : Event) (told : Answer) (failed : Bool) (old : D) (new : State D) → is_simple e ≡ true → Part m None w now (input_of asked) failed (e ∷ []) old (state_disk new) → IsServed w node now asked (e ∷ [])
      → failed ≡ is_journal told → told ≡ event_answer w None (why_of asked) (unwrap_or (moment_of e) now) e → IsStateAt m cap (after_event w e) new → IsServedAs m cap w node now asked old new (e ∷ []) told
  one_served e told failed old new simple part served failed_is is at =
      let t : Turn = made_turn node now asked (e ∷ []) in
      let of = says_of w None (why_of asked) (unwrap_or (moment_of e) now) e simple in
      let plain : is_plain told ≡ true = ap is_plain is ∙ of.plain in
      let answers : told ≡ answer_of w t = is ∙ ap (λ (o : Option Takeover). event_answer w o (why_of asked) (unwrap_or (moment_of e) now) e) (sym of.alone) in
      let quiet : tells_disk_fault (e ∷ []) ≡ false → failed ≡ false = λ said. failed_is ∙ ap is_journal is ∙ of.journal ∙ said in
      record {
        adds = adds m w node now asked failed (e ∷ []) old (state_disk new) there outside part told
            (says w asked t told plain (whole m w node now asked failed (e ∷ []) old (state_disk new) there outside part served, answers)) (plain_undamaged told plain) quiet of.image;
        room = tells_room m w node now asked failed (e ∷ []) old (state_disk new) there outside part;
        at = at;
        rises = omega (arith, of.greatest);
      }

  pub two_served : (first e : Event) (told : Answer) (failed : Bool) (old : D) (new : State D) → is_move first ≡ true → is_step e ≡ true
      → Part m None w now (input_of asked) failed (first ∷ e ∷ []) old (state_disk new) → IsServed w node now asked (first ∷ e ∷ [])
      → failed ≡ is_journal told → told ≡ event_answer (after_event w first) None (why_of asked) (unwrap_or (moment_of e) now) e → IsStateAt m cap (after_event (after_event w first) e) new
      → IsServedAs m cap w node now asked old new (first ∷ e ∷ []) told
  two_served first e told failed old new move step part served failed_is is at =
      let events : List Event = first ∷ e ∷ [] in
      let t : Turn = made_turn node now asked events in
      let of = says_of (after_event w first) None (why_of asked) (unwrap_or (moment_of e) now) e (step_simple e step) in
      let moves = moves_of w first move in
      let plain : is_plain told ≡ true = ap is_plain is ∙ of.plain in
      let answers : told ≡ answer_of w t =
      is ∙ ap (λ (o : Option ℕ). event_answer (after_event w first) None (why_of asked) (unwrap_or (moment_of e) (unwrap_or o now)) e) (sym moves.timeless)
      ∙ ap (λ (o : Option Takeover). event_answer (after_event w first) o (why_of asked) (unwrap_or (moment_of e) (unwrap_or (moment_of first) now)) e) (sym (moves.alone (e ∷ []))) in
      let quiet : tells_disk_fault events ≡ false → failed ≡ false = λ said. failed_is ∙ ap is_journal is ∙ of.journal ∙ said in
      record {
        adds = adds m w node now asked failed events old (state_disk new) there outside part told
            (says w asked t told plain (whole m w node now asked failed events old (state_disk new) there outside part served, answers)) (plain_undamaged told plain) quiet of.image;
        room = tells_room m w node now asked failed events old (state_disk new) there outside part;
        at = at;
        rises = omega (arith, of.greatest, moves.greatest);
      }

  -- a node that is down is told so
  down_served : is_down w node (input_of asked) ≡ true → IsServed w node now asked (event.Refused node now (input_of asked) refused.NodeDown ∷ [])
  down_served is =
      subst (λ (b : Bool). UnlessDown b node now (input_of asked) (IsBehindTakeover w node now asked (takes_over w (input_of asked)) (event.Refused node now (input_of asked) refused.NodeDown ∷ []))
      (event.Refused node now (input_of asked) refused.NodeDown ∷ [])) (sym is) refl

  -- a call that is served behind no takeover
  pub own_served : (events : List Event) → is_down w node (input_of asked) ≡ false → takes_over w (input_of asked) ≡ false → IsOwn w node now asked Nothing (input_of asked) events → IsServed w node now asked events
  own_served events up none own =
      subst (λ (b : Bool). UnlessDown b node now (input_of asked) (IsBehindTakeover w node now asked (takes_over w (input_of asked)) events) events) (sym up)
      (subst (λ (b : Bool). IsBehindTakeover w node now asked b events) (sym none) own)

  module _ (accepted : SiteFilesAreAccepted) (only_now : (disk : D) (crashed : CrashState) → m.left_since disk (m.moment disk) crashed → IsLeft (m.may_leave disk) crashed) (state : State D) (at : IsStateAt m cap w state) where
    pub node_down : is_down w node (input_of asked) ≡ true
        → IsServedAs m cap w node now asked (state_disk state) state (event.Refused node now (input_of asked) refused.NodeDown ∷ []) (answer.Refused None refused.NodeDown)
    node_down down =
        one_served (event.Refused node now (input_of asked) refused.NodeDown) (answer.Refused None refused.NodeDown) false (state_disk state) state refl
        (work_still accepted m cap w only_now state.work at.work now (input_of asked) (event.Refused node now (input_of asked) refused.NodeDown) tt (λ room. refl) (λ room. tt))
        (down_served down) refl refl at

    pub not_read : (place : ℕ) (kind : ParseKind) → input_of asked ≡ input.Fault place kind → is_down w node (input_of asked) ≡ false
        → IsServedAs m cap w node now asked (state_disk state) state (event.Refused node now (input.Fault place kind) (refused.ParseFault place kind) ∷ []) (answer.Refused None (refused.ParseFault place kind))
    not_read place kind is up =
        one_served (event.Refused node now (input.Fault place kind) (refused.ParseFault place kind)) (answer.Refused None (refused.ParseFault place kind)) false (state_disk state) state refl
        (work_still accepted m cap w only_now state.work at.work now (input_of asked) (event.Refused node now (input.Fault place kind) (refused.ParseFault place kind)) tt (λ room. refl) (λ room. tt))
        (own_served (event.Refused node now (input.Fault place kind) (refused.ParseFault place kind) ∷ []) up (ap (takes_over w) is)
        (subst (λ (i : Input). IsOwn w node now asked Nothing i (event.Refused node now (input.Fault place kind) (refused.ParseFault place kind) ∷ [])) (sym is) refl)) refl refl at

    -- memory was short, and nothing has changed
    pub short_served : (came : Came D) → IsShort m cap w None (state_disk state) came → IsServedAs m cap w node now asked (state_disk state) (record { members = state.members; work = came.work }) [] came.answer
    short_served came short =
        let old = state_disk state in
        let reads = work_reads accepted m cap w state.work at.work in
        let crash = work_crash accepted m cap w state.work at.work in
        record {
          adds = subst (λ (d : D). AddsNone m w old d came.answer) (sym short.same) (record {
            files = λ full. let no : answer.NoMemory None ≡ answer.HistoryFull = sym short.told ∙ full in cc;
            moments = started m old (λ (crashed : CrashState). HoldWorld crashed w) (λ crashed since. crash crashed (only_now old crashed since));
            reaches = grows m (m.seen old) (m.seen old) reads.0 reads.0 (λ room. room) reads.1 reads.1 refl;
          });
          room = tt;
          at = record { members = at.members; work = short.work; small = at.small };
          rises = omega arith;
        }

  -- a step of a manager that is up is the whole call
  pub step_served : (old : D) (came : Came D) (members : Members) (e : Event) → is_simple e ≡ true → IsStep m cap w now now (input_of asked) None old came e → IsOwn w node now asked Nothing (input_of asked) (e ∷ [])
      → is_down w node (input_of asked) ≡ false → takes_over w (input_of asked) ≡ false → AreMembersOf (after_event w e) members → cap ≤ GREATEST_CAP
      → IsServedAs m cap w node now asked old (record { members = members; work = came.work }) (e ∷ []) came.answer
  step_served old came members e simple step own up none kept small =
      one_served e came.answer (is_journal came.answer) old (record { members = members; work = came.work }) simple step.part (own_served (e ∷ []) up none own) refl (step.told (why_of asked))
      (record { members = kept; work = step.work; small = small })

-- what is told by an equation
module _ {D : Type 0} {m : Meaning D} {cap : ℕ} {w : World} {node now : ℕ} {asked : Call} {old : D} {members : Members} (served other : Served D) where
  pub served_as : served ≡ other → IsServedAs m cap w node now asked old (record { members = members; work = other.work }) (both other.first other.second) other.answer
      → IsServedAs m cap w node now asked old (record { members = members; work = served.work }) (both served.first served.second) served.answer
  served_as is serves = subst (λ (x : Served D). IsServedAs m cap w node now asked old (record { members = members; work = x.work }) (both x.first x.second) x.answer) (sym is) serves
