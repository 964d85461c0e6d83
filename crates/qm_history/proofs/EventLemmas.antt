-- Events one behind another.
use Rattle.std.proofs.Common.{◌≡◌, ℕ, zero, suc, ◌+◌, ◌≤◌, ◌⊎◌, inl, inr, Bool, true, false, List, [], ◌∷◌, ◌++◌, refl, sym, ◌∙◌, ap, subst, arith, Option, None, Some, Contains, option_to_list, append_assoc, append-nil}
use Rattle.qm_history.specs.Common.{Record, after_turn, after_turns, IsLegal, request_record, after_event, after_events, CanAllCome, log_read}
use Rattle.qm_kinds.specs.declared.request.Request.TheVariants as request
use Rattle.qm_history.specs.declared.event.Event.{Event}
use Rattle.qm_history.specs.declared.event.Event.TheVariants as event
use Rattle.qm_history.specs.declared.turn.Turn.{Turn}
use Rattle.qm_history.specs.declared.world.World.{World}
use Rattle.qm_history.specs.Happening.{events_of, epochs_taken, RiseFrom, Begins, is_without_change, acknowledged, told_of_doubt}
use Rattle.qm_history.proofs.SoundLemmas.{legal_comes}

-- ---- lists of events

pub events_append : (w : World) (a b : List Event) → after_events w (a ++ b) ≡ after_events (after_events w a) b
events_append w [] b = refl
events_append w (e ∷ a) b = events_append (after_event w e) a b

pub turns_append : (w : World) (a b : List Turn) → after_turns w (a ++ b) ≡ after_turns (after_turns w a) b
turns_append w [] b = refl
turns_append w (t ∷ a) b = turns_append (after_turn w t) a b

pub world_of_events : (w : World) (turns : List Turn) → after_turns w turns ≡ after_events w (events_of turns)
world_of_events w [] = refl
world_of_events w (t ∷ turns) = world_of_events (after_turn w t) turns ∙ sym (events_append w t.events (events_of turns))

come_append : (w : World) (a b : List Event) → CanAllCome w a → CanAllCome (after_events w a) b → CanAllCome w (a ++ b)
come_append w [] b first second = second
come_append w (e ∷ a) b first second = (first.0, come_append (after_event w e) a b first.1 second)

pub all_come : (w : World) (turns : List Turn) → IsLegal w turns → CanAllCome w (events_of turns)
all_come w [] legal = tt
all_come w (t ∷ turns) legal = come_append w t.events (events_of turns) (legal_comes w t legal.0) (all_come (after_turn w t) turns legal.1)

-- ---- epochs

rise_later : (n m : ℕ) → n ≤ m → (numbers : List ℕ) → RiseFrom m numbers → RiseFrom n numbers
rise_later n m below [] rise = tt
rise_later n m below (x ∷ numbers) rise = (omega (arith, rise.0), rise.1)

tried_rises : (w : World) (tried : ℕ) → (tried ≡ w.greatest) ⊎ (tried ≡ w.greatest + 1) → w.greatest ≤ tried
tried_rises w tried (inl same) = omega arith
tried_rises w tried (inr next) = omega arith

pub rise : (w : World) (events : List Event) → CanAllCome w events → RiseFrom w.greatest (epochs_taken events)
rise w [] come = tt
rise w (event.Took node moment epoch gone up may kept ∷ events) come =
    let next : epoch ≡ w.greatest + 1 = come.0.next_epoch in
    (omega arith, rise (after_event w (event.Took node moment epoch gone up may kept)) events come.1)
rise w (event.TakeDoubt node tried kept ∷ events) come =
    rise_later w.greatest tried (tried_rises w tried come.0.0) (epochs_taken events) (rise (after_event w (event.TakeDoubt node tried kept)) events come.1)
rise w (event.Done node moment asked reply ∷ events) come = rise (after_event w (event.Done node moment asked reply)) events come.1
rise w (event.Refused node moment asked refusal ∷ events) come = rise w events come.1
rise w (event.Shown node moment asked ∷ events) come = rise w events come.1
rise w (event.Doubt node moment asked ∷ events) come = rise (after_event w (event.Doubt node moment asked)) events come.1
rise w (event.Full node need cap ∷ events) come = rise w events come.1
rise w (event.NoManager node ∷ events) come = rise w events come.1
rise w (event.Fenced node held current ∷ events) come = rise w events come.1
rise w (event.Stopped node ∷ events) come = rise (after_event w (event.Stopped node)) events come.1
rise w (event.Left node ∷ events) come = rise (after_event w (event.Left node)) events come.1
rise w (event.Started node ∷ events) come = rise (after_event w (event.Started node)) events come.1
rise w (event.Compacted node epoch file ∷ events) come = rise w events come.1
rise w (event.CompactDoubt node ∷ events) come = rise (after_event w (event.CompactDoubt node)) events come.1

-- ---- what changes nothing

pub nothing_changes : (w : World) (e : Event) → is_without_change e ≡ true → after_event w e ≡ w
nothing_changes w (event.Refused node moment asked refusal) h = refl
nothing_changes w (event.Shown node moment asked) h = refl
nothing_changes w (event.Full node need cap) h = refl
nothing_changes w (event.NoManager node) h = refl
nothing_changes w (event.Fenced node held current) h = refl
nothing_changes w (event.Compacted node epoch file) h = refl
nothing_changes w _ h = cc

-- ---- logs grow

same_log : (log : List Record) → Begins log log
same_log log = ([], sym (append-nil log))

with_one : (log : List Record) (r : Record) → Begins log (log ++ r ∷ [])
with_one log r = (r ∷ [], refl)

pub begins_on : (a b c : List Record) → Begins a b → Begins b c → Begins a c
begins_on a b c first second = (first.0 ++ second.0, second.1 ∙ ap (λ x. x ++ second.0) first.1 ∙ append_assoc a first.0 second.0)

pub read_begins : (w : World) (kept : Option Bool) → Begins w.log (log_read w kept)
read_begins w None = same_log w.log
read_begins w (Some false) = same_log w.log
read_begins w (Some true) = (option_to_list w.doubt, refl)

event_begins : (w : World) (e : Event) → Begins w.log (after_event w e).log
event_begins w (event.Done node moment asked reply) = with_one w.log (request_record moment node asked)
event_begins w (event.Took node moment epoch gone up may kept) =
    let r : Record = request_record moment node (request.Took epoch gone up may) in
    begins_on w.log (log_read w kept) (log_read w kept ++ r ∷ []) (read_begins w kept) (with_one (log_read w kept) r)
event_begins w (event.TakeDoubt node tried kept) = read_begins w kept
event_begins w _ = same_log w.log

pub events_begin : (w : World) (events : List Event) → Begins w.log (after_events w events).log
events_begin w [] = same_log w.log
events_begin w (e ∷ events) =
    begins_on w.log (after_event w e).log (after_events (after_event w e) events).log (event_begins w e) (events_begin (after_event w e) events)

pub turns_begin : (w : World) (before behind : List Turn) → Begins (after_turns w before).log (after_turns w (before ++ behind)).log
turns_begin w before behind =
    subst (λ v. Begins (after_turns w before).log v.log) (sym (turns_append w before behind ∙ world_of_events (after_turns w before) behind))
    (events_begin (after_turns w before) (events_of behind))

-- ---- records stay

contains_front : (a b : List Record) (r : Record) → Contains a r → Contains (a ++ b) r
contains_front [] b r found = absurd (omega (arith, found.1))
contains_front (x ∷ a) b r (zero, within, is) = (zero, omega arith, is)
contains_front (x ∷ a) b r (suc k, within, is) =
    let further = contains_front a b r (k, omega arith, is) in (suc further.0, omega (arith, further.1), further.2)

contains_last : (a : List Record) (r : Record) → Contains (a ++ r ∷ []) r
contains_last [] r = (0, omega arith, refl)
contains_last (x ∷ a) r = let further = contains_last a r in (suc further.0, omega (arith, further.1), further.2)

pub stays_in : (a b : List Record) (r : Record) → Begins a b → Contains a r → Contains b r
stays_in a b r begins found = subst (λ x. Contains x r) (sym begins.1) (contains_front a begins.0 r found)

in_event : (w : World) (e : Event) (r : Record) → acknowledged e ≡ Some r → Contains (after_event w e).log r
in_event w (event.Done node moment asked reply) r is =
    let same : request_record moment node asked ≡ r = cc in subst (λ x. Contains (w.log ++ request_record moment node asked ∷ []) x) same (contains_last w.log (request_record moment node asked))
in_event w (event.Took node moment epoch gone up may kept) r is =
    let x : Record = request_record moment node (request.Took epoch gone up may) in
    let same : x ≡ r = cc in subst (λ y. Contains (log_read w kept ++ x ∷ []) y) same (contains_last (log_read w kept) x)
in_event w (event.Refused node moment asked refusal) r is = cc
in_event w _ r is = cc

read_doubt_in : (w : World) (kept : Option Bool) (r : Record) → w.doubt ≡ Some r → kept ≡ Some true → Contains (log_read w kept) r
read_doubt_in w kept r doubt is =
    subst (λ k. Contains (log_read w k) r) (sym is) (subst (λ d. Contains (w.log ++ option_to_list d) r) (sym doubt) (contains_last w.log r))

in_reading : (w : World) (e : Event) (r : Record) → w.doubt ≡ Some r → told_of_doubt e ≡ Some true → Contains (after_event w e).log r
in_reading w (event.Took node moment epoch gone up may kept) r doubt is =
    contains_front (log_read w kept) (request_record moment node (request.Took epoch gone up may) ∷ []) r (read_doubt_in w kept r doubt is)
in_reading w (event.TakeDoubt node tried kept) r doubt is = read_doubt_in w kept r doubt is
in_reading w _ r doubt is = cc

-- what is in the log behind an event is in every later one
later : (w : World) (before : List Event) (e : Event) (behind : List Event) (r : Record) → Contains (after_event (after_events w before) e).log r
    → Contains (after_events w (before ++ e ∷ behind)).log r
later w before e behind r found =
    subst (λ v. Contains v.log r) (sym (events_append w before (e ∷ behind)))
    (stays_in (after_event (after_events w before) e).log (after_events (after_event (after_events w before) e) behind).log r (events_begin (after_event (after_events w before) e) behind) found)

pub acknowledged_in : (w : World) (before : List Event) (e : Event) (behind : List Event) (r : Record) → acknowledged e ≡ Some r → Contains (after_events w (before ++ e ∷ behind)).log r
acknowledged_in w before e behind r is = later w before e behind r (in_event (after_events w before) e r is)

pub kept_in : (w : World) (before : List Event) (e : Event) (behind : List Event) (r : Record) → (after_events w before).doubt ≡ Some r → told_of_doubt e ≡ Some true
    → Contains (after_events w (before ++ e ∷ behind)).log r
kept_in w before e behind r doubt is = later w before e behind r (in_reading (after_events w before) e r doubt is)
