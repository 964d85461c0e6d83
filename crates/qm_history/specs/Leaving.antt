-- What a crash may leave of the log: within a turn, behind one, and at any moment of a history.
-- OpenVMS System Manager's Manual, Managing the Queue Manager and Queue Database, on the recovery of the queue database.
-- This site's own: the record in doubt.
use Rattle.std.specs.Prelude.{◌≡◌, ◌⊎◌, ℕ, Bool, List, [], ◌∷◌, ◌++◌, take, filter_map, option_to_list, Option, None}
use Rattle.qm_kinds.specs.declared.record.Record.{Record}
use Rattle.qm_history.specs.declared.event.Event.{Event}
use Rattle.qm_history.specs.declared.turn.Turn.{Turn}
use Rattle.qm_history.specs.declared.world.World.{World}
use Rattle.qm_history.specs.Happening.{told_of_doubt}
use Rattle.qm_history.specs.Legal.{after_turn, after_turns}
use Rattle.qm_history.specs.Records.{record_of}
use Rattle.qm_history.specs.World.{log_read}

-- the records that a turn writes, in their order, whether they are there in the end or in doubt
abbrev pub records_of : Turn → List Record
records_of t = filter_map record_of t.events

-- some of these records, the first ones, behind a log
abbrev pub IsBehind : List Record → List Record → List Record → Type 0
IsBehind before records log = (n : ℕ) × (log ≡ before ++ take n records)

-- what the turn tells of the record in doubt, which only its first event can
abbrev pub told_by : List Event → Option Bool
told_by [] = None
told_by (e ∷ events) = told_of_doubt e

-- the log before the turn, with or without the record then in doubt; or the log as the turn read it, and behind it the first
-- ones of the turn's records
abbrev pub MayBeLeft : World → Turn → List Record → Type 0
MayBeLeft w t log = (log ≡ w.log) ⊎ ((log ≡ w.log ++ option_to_list w.doubt) ⊎ IsBehind (log_read w (told_by t.events)) (records_of t) log)

-- behind a turn the log is there, with or without the record that is in doubt then
abbrev pub MayBeLeftBehind : World → List Record → Type 0
MayBeLeftBehind w log = (log ≡ w.log) ⊎ (log ≡ w.log ++ option_to_list w.doubt)

-- a crash at some moment of a history: within one of its turns, or behind the last one
abbrev pub MayBeLeftIn : World → List Turn → List Record → Type 0
MayBeLeftIn w [] log = MayBeLeftBehind w log
MayBeLeftIn w (t ∷ turns) log = MayBeLeft w t log ⊎ MayBeLeftIn (after_turn w t) turns log

-- the moment was one within a turn of the history, and this is what it left
pub record IsLeftWithin (w : World) (turns : List Turn) (log : List Record) : Type 0 where
  pub before : List Turn
  pub turn : Turn
  pub behind : List Turn
  pub turns_are : turns ≡ before ++ turn ∷ behind
  pub left : MayBeLeft (after_turns w before) turn log
