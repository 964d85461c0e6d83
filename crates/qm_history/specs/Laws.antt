-- What the laws say, and of what: of requests and records, of events, turns and histories, and of what crashes leave.
-- This site's own: all of it.
use Rattle.std.specs.Prelude.{◌≡◌, ◌⊎◌, ◌<◌, ℕ, true, List, [], ◌∷◌, ◌++◌, Some, Ok, All, option_to_list}
use Rattle.qm_kinds.specs.declared.record.Body.TheVariants as body
use Rattle.qm_model.specs.Common.{Record, Submitted, EntryState, Job, Request, Submit, System, applied, IsConsistent, replayed, Accepted}
use Rattle.qm_model.specs.Standing.{StandsInOne}
use Rattle.qm_history.specs.declared.event.Event.{Event}
use Rattle.qm_history.specs.declared.turn.Turn.{Turn}
use Rattle.qm_history.specs.declared.world.World.{World}
use Rattle.qm_history.specs.Accepted.{AreNext, IsAccepted}
use Rattle.qm_history.specs.Again.{AreAgain, PutsBack}
use Rattle.qm_history.specs.Happening.{epochs_taken, events_of, Begins, RiseFrom, told_of_doubt}
use Rattle.qm_history.specs.Leaving.{MayBeLeft, MayBeLeftBehind, MayBeLeftIn}
use Rattle.qm_history.specs.Legal.{after_turn, after_turns, IsLegal, IsLegalTurn}
use Rattle.qm_history.specs.Marks.{HasEntry, HaveMarks, LeaveEntry, LeavesEntry, last_mark, mark_after}
use Rattle.qm_history.specs.Start.{first_world}
use Rattle.qm_history.specs.Step.{after_events, CanAllCome}
use Rattle.qm_history.specs.World.{system_in, IsSound}

-- ---- requests

-- this holds of each accepted request: of the system before it, its moment and node, what it asks for, and the system behind it
abbrev pub OfEachRequest : (System → ℕ → ℕ → Request → System → Type 0) → Type 0
OfEachRequest Holds =
    (s : System) (now node : ℕ) (asked : Request) (a : Accepted) → applied s now node asked ≡ Ok a → Holds s now node asked a.system

-- this holds of each accepted submission: of the system before it, the job, and what it is accepted with
abbrev pub OfEachSubmission : (System → Job → Accepted → Type 0) → Type 0
OfEachSubmission Holds = (s : System) (now node : ℕ) (job : Job) (a : Accepted) → applied s now node (Submit job) ≡ Ok a → Holds s job a

-- the submission makes an entry under the next number, and its reply tells that number
abbrev pub MakesEntry : System → Job → Accepted → Type 0
MakesEntry s job a =
    HasEntry s.next_entry a.system.entries × ((state : EntryState) × (a.reply.act ≡ Submitted job.name job.queue s.next_entry state))

-- each entry of the system stands in exactly one queue
abbrev pub AllStandInOne : System → Type 0
AllStandInOne s = All (StandsInOne s.queues) s.entries

-- the job of the number is one that runs again
abbrev pub IsAgainIn : ℕ → System → Type 0
IsAgainIn number s = AreAgain number s.entries

-- the job that the request puts back into its queue is one that runs again behind it
abbrev pub BackIsAgain : ℕ → System → ℕ → ℕ → Request → System → Type 0
BackIsAgain number s now node asked after = PutsBack number s now node asked → IsAgainIn number after

-- a job whose number is given, and that runs again, is one that runs again later too
abbrev pub StaysAgain : ℕ → System → System → Type 0
StaysAgain number s later = number < s.next_entry → IsAgainIn number s → IsAgainIn number later

-- an entry that is there is there behind a request that doesn't end or delete it
abbrev pub StaysBehindRequest : ℕ → System → ℕ → ℕ → Request → System → Type 0
StaysBehindRequest number s now node asked after =
    HasEntry number s.entries → LeavesEntry number s now node (body.Ask asked) → HasEntry number after.entries

-- an entry that is there is there behind records that don't end or delete it
abbrev pub StaysBehindRecords : ℕ → System → List Record → System → Type 0
StaysBehindRecords number s records after = HasEntry number s.entries → LeaveEntry number s records → HasEntry number after.entries

-- the later log has some records more, and an entry that was there is there behind them, where they don't end or delete it
abbrev pub StaysInLog : ℕ → World → World → Type 0
StaysInLog number w later =
    HasEntry number (system_in w).entries
    → (records : List Record) × (later.log ≡ w.log ++ records)
    × (LeaveEntry number (system_in w) records → HasEntry number (system_in later).entries)

-- behind the request each entry has the mark that it gave, or else the one that the entry had
abbrev pub GivesMarks : System → ℕ → ℕ → Request → System → Type 0
GivesMarks s now node asked after =
    (marks : ℕ → List ℕ) → IsConsistent s → HaveMarks marks s.entries
    → HaveMarks (λ number. mark_after number (marks number) s now node asked) after.entries

-- behind the records each entry has the mark that the last of them gave, or else the one that the entry had
abbrev pub GiveMarks : System → List Record → System → Type 0
GiveMarks s records after =
    (marks : ℕ → List ℕ) → IsConsistent s → HaveMarks marks s.entries
    → HaveMarks (λ number. last_mark number (marks number) s records) after.entries

-- the later log has some records more, and each entry has the mark that the last of them gave, or else the one that it had
abbrev pub HasLastMarks : World → World → Type 0
HasLastMarks w later =
    (marks : ℕ → List ℕ) → HaveMarks marks (system_in w).entries
    → (records : List Record) × (later.log ≡ w.log ++ records)
    × HaveMarks (λ number. last_mark number (marks number) (system_in w) records) (system_in later).entries

-- ---- events

-- this holds of each event, of those before it, a record, and the log behind it and more events
abbrev pub OfEachEvent : (World → List Event → Event → Record → List Record → Type 0) → Type 0
OfEachEvent Holds =
    (w : World) (before : List Event) (e : Event) (behind : List Event) (r : Record)
    → Holds w before e r (after_events w (before ++ e ∷ behind)).log

-- the record was in doubt behind these events, and this one tells that a reading found it
abbrev pub WasFound : World → List Event → Event → Record → Type 0
WasFound w before e r = ((after_events w before).doubt ≡ Some r) × (told_of_doubt e ≡ Some true)

-- the epochs of takeovers that stand rise, from above the greatest that was recorded or tried before
abbrev pub EpochsRise : World → List Event → Type 0
EpochsRise w events = RiseFrom w.greatest (epochs_taken events)

-- this holds of the world behind turns, and of that behind these and more
abbrev pub OfLaterTurns : (World → World → Type 0) → Type 0
OfLaterTurns Holds = (w : World) (before behind : List Turn) → Holds (after_turns w before) (after_turns w (before ++ behind))

-- ---- crashes

-- the log, and behind it the record that is in doubt, where one is
abbrev pub log_and_doubt : World → List Record
log_and_doubt w = w.log ++ option_to_list w.doubt

-- A crash within the turn leaves a beginning of the log behind the turn, with what is in doubt there, or the log before the turn
-- with the record that was in doubt then.
abbrev pub LeavesBeginning : World → Turn → Type 0
LeavesBeginning w t = (log : List Record) → MayBeLeft w t log → Begins log (log_and_doubt (after_turn w t)) ⊎ (log ≡ log_and_doubt w)

-- a crash behind the history leaves this log
abbrev pub IsLeftBehind : World → List Turn → List Record → Type 0
IsLeftBehind w turns log = MayBeLeftBehind (after_turns w turns) log

-- this holds of each log that a crash behind a history leaves
abbrev pub OfEachLeftBehind : (World → List Turn → List Record → Type 0) → Type 0
OfEachLeftBehind Holds = (w : World) (turns : List Turn) (log : List Record) → IsLeftBehind w turns log → Holds w turns log

-- this holds of each log that a crash at a moment of a history leaves
abbrev pub OfEachLeft : (World → List Turn → List Record → Type 0) → Type 0
OfEachLeft Holds = (w : World) (turns : List Turn) (log : List Record) → MayBeLeftIn w turns log → Holds w turns log

-- this holds of each event before a turn within which a crash leaves a log: of those before it, of a record, and of that log
abbrev pub OfEachEventLeft : (World → List Event → Event → Record → List Record → Type 0) → Type 0
OfEachEventLeft Holds =
    (w : World) (before : List Turn) (t : Turn) (log : List Record) (some : List Event) (e : Event) (others : List Event) (r : Record)
    → MayBeLeft (after_turns w before) t log → events_of before ≡ some ++ e ∷ others → Holds w some e r log

-- ---- histories

-- this holds of records that are accepted one after the other: of the system before them, and the one behind them
abbrev pub OfNextRecords : (System → List Record → System → Type 0) → Type 0
OfNextRecords Holds = (s : System) (records : List Record) → AreNext s records → Holds s records (replayed s records)

-- this holds of each legal history
abbrev pub OfHistories : (World → List Turn → Type 0) → Type 0
OfHistories Holds = (w : World) (turns : List Turn) → IsLegal w turns → Holds w turns

-- this holds of each legal history from a sound world, and of the world behind it
abbrev pub OfSoundHistories : (World → List Turn → World → Type 0) → Type 0
OfSoundHistories Holds =
    (w : World) (turns : List Turn) → IsSound w → IsLegal w turns → Holds w turns (after_turns w turns)

-- this holds of the systems before and behind each legal history from a sound world
abbrev pub OfLaterSystems : (System → System → Type 0) → Type 0
OfLaterSystems Holds = OfSoundHistories (λ w turns after. Holds (system_in w) (system_in after))

-- this holds of each turn that is legal in a sound world
abbrev pub OfSoundTurns : (World → Turn → Type 0) → Type 0
OfSoundTurns Holds = (w : World) (t : Turn) → IsSound w → IsLegalTurn w t → Holds w t

-- this holds of events that may come one behind another
abbrev pub OfEvents : (World → List Event → Type 0) → Type 0
OfEvents Holds = (w : World) (events : List Event) → CanAllCome w events → Holds w events

-- behind what may come in a sound world, the world is sound
abbrev pub KeepSound : {X : Type 0} → (World → X → Type 0) → (World → X → World) → Type 0
KeepSound {X} MayCome after = (w : World) (x : X) → IsSound w → MayCome w x → IsSound (after w x)

-- each log that may be left is accepted
abbrev pub AreAccepted : (List Record → Type 0) → Type 0
AreAccepted MayBe = (log : List Record) → MayBe log → IsAccepted log

-- each log that a crash at a moment of a legal history from a sound world leaves is accepted
abbrev pub CrashesLeaveAccepted : Type 0
CrashesLeaveAccepted = OfSoundHistories (λ w turns after. AreAccepted (MayBeLeftIn w turns))

-- this holds of each world with which a program begins that finds an accepted log
abbrev pub OfFirstWorlds : (List Record → World → Type 0) → Type 0
OfFirstWorlds Holds = (log : List Record) (epoch : ℕ) → IsAccepted log → Holds log (first_world log epoch)

-- a program that begins on what a crash left within the last turn of a legal history begins in a sound world
abbrev pub BeginSoundBehindCrashes : Type 0
BeginSoundBehindCrashes =
    (w : World) (before : List Turn) (t : Turn) (log : List Record) (epoch : ℕ) → IsSound w
    → IsLegal w (before ++ t ∷ []) → MayBeLeft (after_turns w before) t log → IsSound (first_world log epoch)
