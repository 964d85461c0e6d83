-- How the serving of a script ends.
-- This site's own: the ends, and what each says of the sink, the turns and the disks.
use Rattle.std.specs.Prelude.{◌≡◌, ◌||◌, ℕ, Bool, true, false, if◌then◌else◌, List, [], ◌∷◌, length, Option, None, Some}
use Rattle.std.specs.Io.KnownBytes.{Appends}
use Rattle.qm_node.specs.Taken.{RoseBy}
use Rattle.qm_cluster.specs.Turning.{IsToldTo, TakesUpTo}
use Rattle.qm_node.specs.declared.turn.TurnEnd.{TurnEnd}
use Rattle.qm_node.specs.declared.turn.TurnEnd.TheVariants as stop
use Rattle.qm_history.specs.Common.{counted, turns_kept, Extent, Whole, Begun, faults_told, tells_disk_fault}
use Rattle.qm_history.specs.declared.turn.Turn.{Turn}
use Rattle.qm_history.specs.Ends.{ServingEnd, Served, DiskFailed, SinkFailed, HistoryFull, Damaged, NoMemory}
use Rattle.qm_cluster.specs.declared.ends.ServeEnd.{ServeEnd}
use Rattle.qm_cluster.specs.declared.ends.ServeEnd.TheVariants as end

-- the end, as histories say it
abbrev pub serving_end : ServeEnd → ServingEnd
serving_end end.Served = Served
serving_end end.DiskFailed = DiskFailed
serving_end end.SinkFailed = SinkFailed
serving_end end.HistoryFull = HistoryFull
serving_end (end.Damaged file place) = Damaged file place
serving_end end.NoMemory = NoMemory

-- where the nodes were stopped
abbrev pub end_of_stop : TurnEnd → ServingEnd
end_of_stop stop.Write = SinkFailed
end_of_stop stop.HistoryFull = HistoryFull
end_of_stop (stop.Damaged file place) = Damaged file place
end_of_stop stop.NoMemory = NoMemory

-- some turn tells that a disk failed
abbrev pub some_disk_failed : List Turn → Bool
some_disk_failed [] = false
some_disk_failed (t ∷ turns) = tells_disk_fault t.events || some_disk_failed turns

-- where they weren't
abbrev pub end_of_turns : List Turn → ServingEnd
end_of_turns turns = if some_disk_failed turns then DiskFailed else Served

-- what stopped the nodes, if something did
abbrev pub stop_of : ServingEnd → Option TurnEnd
stop_of Served = None
stop_of DiskFailed = None
stop_of SinkFailed = Some stop.Write
stop_of HistoryFull = Some stop.HistoryFull
stop_of (Damaged file place) = Some (stop.Damaged file place)
stop_of NoMemory = Some stop.NoMemory

-- the run is whole where nothing stopped it
abbrev pub extent_to : Option TurnEnd → Extent
extent_to None = Whole
extent_to (Some stopped) = Begun

-- The sink took this text: all of it where nothing stopped the run, or more turns can't be kept, and else first bytes of it.
abbrev pub TakesTo : Option TurnEnd → Option (List ℕ) → Option (List ℕ) → List ℕ → Type 0
TakesTo None old new text = Appends old new text
TakesTo (Some stopped) old new text = TakesUpTo stopped old new text

-- Disks failed as often as turns tell so, but for one turn that may hide it where memory was short or a file isn't sound.
abbrev pub CountsDisk : Option TurnEnd → List Turn → ℕ → ℕ → Type 0
CountsDisk None turns old new = RoseBy (faults_told turns) old new
CountsDisk (Some stopped) turns old new = IsToldTo stopped turns old new

-- The sink failed once where that is the end, and else never.
abbrev pub CountsSink : ServingEnd → ℕ → ℕ → Type 0
CountsSink Served old new = new ≡ old
CountsSink DiskFailed old new = new ≡ old
CountsSink SinkFailed old new = new ≡ counted old
CountsSink HistoryFull old new = new ≡ old
CountsSink (Damaged file place) old new = new ≡ old
CountsSink NoMemory old new = new ≡ old

-- A script that was served ends so by whether some turn tells that a disk failed. No more turns can be kept only where as many are.
abbrev pub EndsBy : ServingEnd → List Turn → Type 0
EndsBy Served turns = some_disk_failed turns ≡ false
EndsBy DiskFailed turns = some_disk_failed turns ≡ true
EndsBy SinkFailed turns = Unit {0}
EndsBy HistoryFull turns = length turns ≡ turns_kept
EndsBy (Damaged file place) turns = Unit {0}
EndsBy NoMemory turns = Unit {0}

-- no file is told as one that isn't sound
abbrev pub IsUndamaged : ServingEnd → Type 0
IsUndamaged Served = Unit {0}
IsUndamaged DiskFailed = Unit {0}
IsUndamaged SinkFailed = Unit {0}
IsUndamaged HistoryFull = Unit {0}
IsUndamaged (Damaged file place) = ⊥
IsUndamaged NoMemory = Unit {0}
