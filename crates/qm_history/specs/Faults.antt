-- In which turns a disk failed.
-- OpenVMS System Messages, on failures of the queue database. This site's own: that such a turn leaves something in doubt.
use Rattle.std.specs.Prelude.{ℕ, Bool, true, false, List, [], ◌∷◌, count_by}
use Rattle.qm_history.specs.declared.call.Answer.{Answer}
use Rattle.qm_history.specs.declared.call.Answer.TheVariants as answer
use Rattle.qm_history.specs.declared.event.Event.{Event}
use Rattle.qm_history.specs.declared.event.Event.TheVariants as event
use Rattle.qm_history.specs.declared.turn.Turn.{Turn}

-- a record, a takeover or a compaction was cut short by a disk
abbrev pub is_disk_fault : Event → Bool
is_disk_fault (event.Doubt node moment asked) = true
is_disk_fault (event.TakeDoubt node tried kept) = true
is_disk_fault (event.CompactDoubt node) = true
is_disk_fault (event.Done node moment asked reply) = false
is_disk_fault (event.Refused node moment asked refusal) = false
is_disk_fault (event.Shown node moment asked) = false
is_disk_fault (event.Full node need cap) = false
is_disk_fault (event.NoManager node) = false
is_disk_fault (event.Took node moment epoch gone up may kept) = false
is_disk_fault (event.Fenced node held current) = false
is_disk_fault (event.Stopped node) = false
is_disk_fault (event.Left node) = false
is_disk_fault (event.Started node) = false
is_disk_fault (event.Compacted node epoch file) = false

-- A disk failed in a turn whose last event tells so. A takeover that only had no room, or whose node isn't named, tells that.
abbrev pub tells_disk_fault : List Event → Bool
tells_disk_fault [] = false
tells_disk_fault (e ∷ []) = is_disk_fault e
tells_disk_fault (e ∷ next ∷ events) = tells_disk_fault (next ∷ events)

-- in how many turns a disk failed
abbrev pub faults_told : List Turn → ℕ
faults_told turns = count_by (λ (t : Turn). tells_disk_fault t.events) turns

-- the call is told that a disk failed
abbrev pub is_journal : Answer → Bool
is_journal (answer.Journal took live) = true
is_journal (answer.Done took moment reply) = false
is_journal (answer.Shown took moment rows) = false
is_journal (answer.Duties took moment duties) = false
is_journal (answer.Refused took refusal) = false
is_journal (answer.Full took need cap) = false
is_journal (answer.Fenced held current) = false
is_journal (answer.NoManager took name) = false
is_journal (answer.Damaged file place) = false
is_journal answer.HistoryFull = false
is_journal (answer.NoMemory took) = false
