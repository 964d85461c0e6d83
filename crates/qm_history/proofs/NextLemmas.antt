-- The records of a history, one behind another.
use Rattle.std.proofs.Common.{◌≡◌, ℕ, Bool, true, false, List, [], ◌∷◌, ◌++◌, map, refl, sym, ◌∙◌, ap, subst, Option, None, Some, Ok, IfSome, option_to_list, append_assoc, append-nil}
use Rattle.qm_history.specs.Common.{Record, Request, System, applied, Accepted, IsNext, AreNext, after_record, no_system, replayed, system_of, after_turns, IsLegal, request_record, after_event, after_events, CanCome, CanAllCome, system_in, log_read, IsSound}
use Rattle.qm_kinds.specs.declared.request.Request.TheVariants as request
use Rattle.qm_history.specs.declared.event.Event.{Event}
use Rattle.qm_history.specs.declared.event.Event.TheVariants as event
use Rattle.qm_history.specs.declared.turn.Turn.{Turn}
use Rattle.qm_history.specs.declared.world.World.{World}
use Rattle.qm_history.specs.Happening.{events_of}
use Rattle.qm_history.proofs.EventLemmas.{all_come, world_of_events}
use Rattle.qm_history.proofs.LogLemmas.{replayed_append}
use Rattle.qm_history.proofs.SoundLemmas.{step_sound}

-- the log goes on with these records, each the next one of those before it
abbrev pub GoesOnWith : List Record → List Record → List Record → Type 0
GoesOnWith log later records = (later ≡ log ++ records) × AreNext (system_of log) records

abbrev pub GoesOn : List Record → List Record → Type 0
GoesOn log later = (records : List Record) × (later ≡ log ++ records) × AreNext (system_of log) records

nothing_more : (log : List Record) → GoesOn log log
nothing_more log = ([], sym (append-nil log), tt)

one_next : (log : List Record) (r : Record) → IsNext (system_of log) r → GoesOn log (log ++ r ∷ [])
one_next log r can = (r ∷ [], refl, (can, tt))

doubt_next : (log : List Record) (d : Option Record) → IfSome d (IsNext (system_of log)) → GoesOn log (log ++ option_to_list d)
doubt_next log None can = ([], refl, tt)
doubt_next log (Some r) can = one_next log r can

next_append : (s : System) (a b : List Record) → AreNext s a → AreNext (replayed s a) b → AreNext s (a ++ b)
next_append s [] b first second = second
next_append s (r ∷ a) b first second = (first.0, next_append (after_record s r) a b first.1 second)

go_on : (x y z : List Record) → GoesOn x y → GoesOn y z → GoesOn x z
go_on x y z first second = (
  first.0 ++ second.0,
  second.1 ∙ ap (λ l. l ++ second.0) first.1 ∙ append_assoc x first.0 second.0,
  next_append (system_of x) first.0 second.0 first.2
      (subst (λ s. AreNext s second.0) (ap system_of first.1 ∙ replayed_append no_system x first.0) second.2),
)

reading_next : (w : World) (kept : Option Bool) → IsSound w → GoesOn w.log (log_read w kept)
reading_next w None h = nothing_more w.log
reading_next w (Some false) h = nothing_more w.log
reading_next w (Some true) h = doubt_next w.log w.doubt h.doubt

event_next : (w : World) (e : Event) → IsSound w → CanCome w e → GoesOn w.log (after_event w e).log
event_next w (event.Done node moment asked reply) h can = one_next w.log (request_record moment node asked) can.1
event_next w (event.Took node moment epoch gone up may kept) h can =
    let r : Record = request_record moment node (request.Took epoch gone up may) in
    go_on w.log (log_read w kept) (log_read w kept ++ r ∷ []) (reading_next w kept h) (one_next (log_read w kept) r can.follows)
event_next w (event.TakeDoubt node tried kept) h can = reading_next w kept h
event_next w _ h can = nothing_more w.log

module _ (names : (s : System) (now node : ℕ) (asked : Request) (a : Accepted) → applied s now node asked ≡ Ok a → map (λ n. n.name) a.system.nodes ≡ map (λ n. n.name) s.nodes) where
  pub events_next : (w : World) (events : List Event) → IsSound w → CanAllCome w events → GoesOn w.log (after_events w events).log
  events_next w [] h can = nothing_more w.log
  events_next w (e ∷ events) h can =
      go_on w.log (after_event w e).log (after_events (after_event w e) events).log (event_next w e h can.0)
      (events_next (after_event w e) events (step_sound names w e h can.0) can.1)

  -- the records of a history, and what they make of the system
  pub history_next : (w : World) (turns : List Turn) → IsSound w → IsLegal w turns
      → (records : List Record) × ((after_turns w turns).log ≡ w.log ++ records) × AreNext (system_in w) records × (system_in (after_turns w turns) ≡ replayed (system_in w) records)
  history_next w turns h legal =
      let more = events_next w (events_of turns) h (all_come w turns legal) in
      let log : (after_turns w turns).log ≡ w.log ++ more.0 = ap (λ (v : World). v.log) (world_of_events w turns) ∙ more.1 in
      (more.0, log, more.2, ap system_of log ∙ replayed_append no_system w.log more.0)
