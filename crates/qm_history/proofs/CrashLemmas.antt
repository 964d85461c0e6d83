-- What a crash leaves of the log.
use Rattle.std.proofs.Common.{◌≡◌, ℕ, zero, suc, ◌⊎◌, inl, inr, true, false, List, [], ◌∷◌, ◌++◌, map, take, drop, refl, sym, ◌∙◌, ap, subst, Option, None, Some, Ok, IfSome, filter_map, option_to_list, append_assoc, append-nil}
use Rattle.std.specs.List.{cons_option}
use Rattle.qm_history.specs.Common.{Record, Request, System, applied, Accepted, IsNext, AreNext, IsAccepted, system_of, after_turn, IsLegalTurn, record_of, request_record, after_event, after_events, CanCome, CanAllCome, log_read, doubt_read, system_in, IsSound}
use Rattle.qm_kinds.specs.declared.request.Request.TheVariants as request
use Rattle.qm_history.specs.declared.event.Event.{Event}
use Rattle.qm_history.specs.declared.event.Event.TheVariants as event
use Rattle.qm_history.specs.declared.turn.Turn.{Turn}
use Rattle.qm_history.specs.declared.world.World.{World}
use Rattle.qm_history.specs.Happening.{Begins, is_takeover, may_come_first, told_of_doubt, AreOneOrTwo}
use Rattle.qm_history.specs.Leaving.{records_of, told_by, MayBeLeft, MayBeLeftBehind}
use Rattle.qm_history.proofs.EventLemmas.{begins_on, read_begins, events_begin}
use Rattle.qm_history.proofs.LogLemmas.{one_more, accepted_append}
use Rattle.qm_history.proofs.ShapeLemmas.{turn_two}
use Rattle.qm_history.proofs.SoundLemmas.{doubt_follows, legal_comes, read_log, with_doubt}

-- ---- the first ones of some records

-- the first ones, and the others
take_and_drop : (n : ℕ) (xs : List Record) → xs ≡ take n xs ++ drop n xs
take_and_drop zero xs = refl
take_and_drop (suc n) [] = refl
take_and_drop (suc n) (x ∷ xs) = ap (λ ys. x ∷ ys) (take_and_drop n xs)

first_begin : (log records : List Record) (n : ℕ) → Begins (log ++ take n records) (log ++ records)
first_begin log records n = (drop n records, ap (λ x. log ++ x) (take_and_drop n records) ∙ sym (append_assoc log (take n records) (drop n records)))

-- ---- the events of a turn, and the log that they leave

-- what one event writes stands in its log, or in doubt behind that
one_in : (w : World) (e : Event) → Begins (log_read w (told_of_doubt e) ++ cons_option (record_of e) []) ((after_event w e).log ++ option_to_list (after_event w e).doubt)
one_in w (event.Done node moment asked reply) = (option_to_list w.doubt, refl)
one_in w (event.Doubt node moment asked) = ([], sym (append-nil (w.log ++ request_record moment node asked ∷ [])))
one_in w (event.Took node moment epoch gone up may kept) = ([], refl)
one_in w (event.TakeDoubt node tried kept) = (option_to_list (doubt_read w kept), ap (λ x. x ++ option_to_list (doubt_read w kept)) (sym (append-nil (log_read w kept))))
one_in w _ = (option_to_list w.doubt, ap (λ x. x ++ option_to_list w.doubt) (sym (append-nil w.log)))

-- what is no takeover tells of no doubt
plain_tells : (e : Event) → is_takeover e ≡ false → told_of_doubt e ≡ None
plain_tells (event.Took node moment epoch gone up may kept) h = cc
plain_tells (event.TakeDoubt node tried kept) h = cc
plain_tells _ h = refl

-- the log, and what one event writes
abbrev written : World → Event → List Record
written w e = log_read w (told_of_doubt e) ++ cons_option (record_of e) []

next_in : (w : World) (e : Event) → is_takeover e ≡ false → Begins (w.log ++ cons_option (record_of e) []) ((after_event w e).log ++ option_to_list (after_event w e).doubt)
next_in w e plain =
    subst (λ told. Begins (log_read w told ++ cons_option (record_of e) []) ((after_event w e).log ++ option_to_list (after_event w e).doubt)) (plain_tells e plain) (one_in w e)

two_in : (w : World) (e next : Event) → may_come_first e ≡ true → is_takeover next ≡ false
    → Begins (log_read w (told_of_doubt e) ++ cons_option (record_of e) (cons_option (record_of next) [])) ((after_event (after_event w e) next).log ++ option_to_list (after_event (after_event w e) next).doubt)
two_in w (event.Took node moment epoch gone up may kept) next first plain =
    let v : World = after_event w (event.Took node moment epoch gone up may kept) in
    subst (λ log. Begins log ((after_event v next).log ++ option_to_list (after_event v next).doubt))
    (append_assoc (log_read w kept) (request_record moment node (request.Took epoch gone up may) ∷ []) (cons_option (record_of next) [])) (next_in v next plain)
two_in w (event.TakeDoubt node tried kept) next first plain = next_in (after_event w (event.TakeDoubt node tried kept)) next plain
two_in w (event.Stopped node) next first plain = next_in (after_event w (event.Stopped node)) next plain
two_in w (event.Left node) next first plain = next_in (after_event w (event.Left node)) next plain
two_in w (event.Started node) next first plain = next_in (after_event w (event.Started node)) next plain
two_in w _ next first plain = cc

all_in : (w : World) (events : List Event) → AreOneOrTwo events → Begins (log_read w (told_by events) ++ filter_map record_of events) ((after_events w events).log ++ option_to_list (after_events w events).doubt)
all_in w [] two = absurd two
all_in w (e ∷ []) two = one_in w e
all_in w (e ∷ next ∷ []) two = two_in w e next two.0 two.1
all_in w (e ∷ next ∷ other ∷ events) two = absurd two

with_doubt_begins : (w : World) → Begins w.log (w.log ++ option_to_list w.doubt)
with_doubt_begins w = (option_to_list w.doubt, refl)

-- what is left begins with the log before
pub left_holds : (w : World) (t : Turn) (log : List Record) → MayBeLeft w t log → Begins w.log log
left_holds w t log (inl same) = ([], same ∙ sym (append-nil w.log))
left_holds w t log (inr (inl same)) = (option_to_list w.doubt, same)
left_holds w t log (inr (inr (n, same))) =
    begins_on w.log (log_read w (told_by t.events)) log (read_begins w (told_by t.events)) (take n (records_of t), same)

-- the log behind the turn begins with what is left, unless that is the log before it with the record that was then in doubt
pub left_begins : (w : World) (t : Turn) (log : List Record) → IsLegalTurn w t → MayBeLeft w t log
    → Begins log ((after_turn w t).log ++ option_to_list (after_turn w t).doubt) ⊎ (log ≡ w.log ++ option_to_list w.doubt)
left_begins w t log legal (inl same) =
    inl (subst (λ x. Begins x ((after_turn w t).log ++ option_to_list (after_turn w t).doubt)) (sym same)
    (begins_on w.log (after_turn w t).log ((after_turn w t).log ++ option_to_list (after_turn w t).doubt) (events_begin w t.events) (with_doubt_begins (after_turn w t))))
left_begins w t log legal (inr (inl same)) = inr same
left_begins w t log legal (inr (inr (n, same))) =
    let all : List Record = log_read w (told_by t.events) ++ records_of t in
    inl (begins_on log all ((after_turn w t).log ++ option_to_list (after_turn w t).doubt)
    (subst (λ x. Begins x all) (sym same) (first_begin (log_read w (told_by t.events)) (records_of t) n))
    (all_in w t.events (turn_two w t legal)))

-- ---- what is left is accepted

accepted_first : (log records : List Record) (n : ℕ) → IsAccepted log → AreNext (system_of log) records → IsAccepted (log ++ take n records)
accepted_first log records zero h next = subst IsAccepted (sym (append-nil log)) h
accepted_first log [] (suc n) h next = subst IsAccepted (sym (append-nil log)) h
accepted_first log (r ∷ records) (suc n) h next =
    subst IsAccepted (append_assoc log (r ∷ []) (take n records))
    (accepted_first (log ++ r ∷ []) records n (accepted_append log r h next.0) (subst (λ s. AreNext s records) (sym (one_more log r)) next.1))

one_next : (s : System) (o : Option Record) → IfSome o (IsNext s) → AreNext s (cons_option o [])
one_next s None h = tt
one_next s (Some r) h = (h, tt)

module _ (names : (s : System) (now node : ℕ) (asked : Request) (a : Accepted) → applied s now node asked ≡ Ok a → map (λ n. n.name) a.system.nodes ≡ map (λ n. n.name) s.nodes) where
  event_next : (w : World) (e : Event) → CanCome w e → IfSome (record_of e) (IsNext (system_of (log_read w (told_of_doubt e))))
  event_next w (event.Done node moment asked reply) can = can.1
  event_next w (event.Doubt node moment asked) can = doubt_follows names w node moment asked can
  event_next w (event.Took node moment epoch gone up may kept) can = can.follows
  event_next w _ can = tt

  second_next : (w : World) (e : Event) → is_takeover e ≡ false → CanCome w e → AreNext (system_in w) (cons_option (record_of e) [])
  second_next w e plain can =
      one_next (system_in w) (record_of e) (subst (λ told. IfSome (record_of e) (IsNext (system_of (log_read w told)))) (plain_tells e plain) (event_next w e can))

  two_next : (w : World) (e next : Event) → may_come_first e ≡ true → is_takeover next ≡ false → CanCome w e → CanCome (after_event w e) next
      → AreNext (system_of (log_read w (told_of_doubt e))) (cons_option (record_of e) (cons_option (record_of next) []))
  two_next w (event.Took node moment epoch gone up may kept) next first plain can then =
      let v : World = after_event w (event.Took node moment epoch gone up may kept) in
      let r : Record = request_record moment node (request.Took epoch gone up may) in
      (can.follows, subst (λ s. AreNext s (cons_option (record_of next) [])) (one_more (log_read w kept) r) (second_next v next plain then))
  two_next w (event.TakeDoubt node tried kept) next first plain can then = second_next (after_event w (event.TakeDoubt node tried kept)) next plain then
  two_next w (event.Stopped node) next first plain can then = second_next (after_event w (event.Stopped node)) next plain then
  two_next w (event.Left node) next first plain can then = second_next (after_event w (event.Left node)) next plain then
  two_next w (event.Started node) next first plain can then = second_next (after_event w (event.Started node)) next plain then
  two_next w _ next first plain can then = cc

  all_next : (w : World) (events : List Event) → AreOneOrTwo events → CanAllCome w events → AreNext (system_of (log_read w (told_by events))) (filter_map record_of events)
  all_next w [] two can = absurd two
  all_next w (e ∷ []) two can = one_next (system_of (log_read w (told_of_doubt e))) (record_of e) (event_next w e can.0)
  all_next w (e ∷ next ∷ []) two can = two_next w e next two.0 two.1 can.0 can.1.0
  all_next w (e ∷ next ∷ other ∷ events) two can = absurd two

  pub behind_accepted : (w : World) (log : List Record) → IsSound w → MayBeLeftBehind w log → IsAccepted log
  behind_accepted w log sound (inl same) = subst IsAccepted (sym same) sound.log
  behind_accepted w log sound (inr same) =
      let reading = with_doubt names w.log w.doubt sound.log sound.doubt in subst IsAccepted (sym same) reading.accepted

  pub left_accepted : (w : World) (t : Turn) (log : List Record) → IsSound w → IsLegalTurn w t → MayBeLeft w t log → IsAccepted log
  left_accepted w t log sound legal (inl same) = behind_accepted w log sound (inl same)
  left_accepted w t log sound legal (inr (inl same)) = behind_accepted w log sound (inr same)
  left_accepted w t log sound legal (inr (inr (n, same))) =
      let reading = read_log names w (told_by t.events) sound in
      subst IsAccepted (sym same)
      (accepted_first (log_read w (told_by t.events)) (records_of t) n reading.accepted
      (all_next w t.events (turn_two w t legal) (legal_comes w t legal)))
