-- The status of each end, and what is said of it.
use Rattle.std.specs.Prelude.{◌≡◌, ◌⊎◌, ℕ, List, [], ◌++◌, codes, decimal, Option, None, Err, IsOk}
use Rattle.qm_kinds.specs.Words.{script_kind_text}
use Rattle.qm_program.specs.declared.outcome.End.{End}
use Rattle.qm_program.specs.declared.outcome.End.TheVariants as ends
use Rattle.qm_glog.specs.declared.fault.MakeFault.{MakeFault}
use Rattle.qm_glog.specs.declared.fault.MakeFault.TheVariants as init
use Rattle.qm_history.specs.Common.{OpenFault, ServingEnd, LineFault, script_lines, Long}
use Rattle.qm_glog.specs.declared.fault.OpenFault.TheVariants as opening
use Rattle.qm_history.specs.Ends as serving
use Rattle.qm_disk.specs.declared.io.whole.ReadEnd.{ReadEnd}
use Rattle.qm_disk.specs.declared.io.whole.ReadEnd.TheVariants as reading
use Rattle.qm_script.specs.declared.lines.LinesEnd.{LinesEnd}
use Rattle.qm_script.specs.declared.lines.LinesEnd.TheVariants as lines

abbrev pub status_of : End → ℕ
status_of ends.Ok = 0
status_of ends.Usage = 2
status_of (ends.Script line kind) = 3
status_of ends.Read = 4
status_of ends.Write = 5
status_of ends.Journal = 6
status_of (ends.Unformatted byte) = 7
status_of (ends.Damaged file place) = 8
status_of ends.HistoryFull = 9
status_of ends.NoMemory = 10

-- what is printed on standard error, behind `qman: `
abbrev pub end_text : End → List ℕ
end_text ends.Ok = []
end_text ends.Usage = codes "usage"
end_text (ends.Script line kind) = codes "script line " ++ decimal line ++ codes ": " ++ script_kind_text kind
end_text ends.Read = codes "read failed"
end_text ends.Write = codes "write failed"
end_text ends.Journal = codes "journal failed"
end_text (ends.Unformatted byte) = codes "unformatted, byte " ++ decimal byte
end_text (ends.Damaged file place) = codes "damaged, file " ++ decimal file ++ codes ", byte " ++ decimal place
end_text ends.HistoryFull = codes "history full"
end_text ends.NoMemory = codes "no memory"

-- the end of a run whose files can't be opened
abbrev pub end_of_opening : OpenFault → End
end_of_opening opening.Disk = ends.Journal
end_of_opening (opening.Unformatted byte) = ends.Unformatted byte
end_of_opening (opening.Damaged file place) = ends.Damaged file place
end_of_opening opening.NoMemory = ends.NoMemory

-- the end where the files of a new site couldn't be made
abbrev pub end_of_making : MakeFault → End
end_of_making init.Disk = ends.Journal
end_of_making init.NoMemory = ends.NoMemory

-- the end of a run whose source can't be read
abbrev pub end_of_reading : ReadEnd → End
end_of_reading reading.Failed = ends.Read
end_of_reading reading.TooLong = ends.Script 0 Long
end_of_reading reading.NoMemory = ends.NoMemory

-- the end of a run where no lines are read
abbrev pub end_of_lines : LinesEnd → End
end_of_lines (lines.Fault line kind) = ends.Script line kind
end_of_lines lines.NoMemory = ends.NoMemory

-- the end of a run whose lines were served up to this end
abbrev pub end_of_serving : ServingEnd → End
end_of_serving serving.Served = ends.Ok
end_of_serving serving.DiskFailed = ends.Journal
end_of_serving serving.SinkFailed = ends.Write
end_of_serving serving.HistoryFull = ends.HistoryFull
end_of_serving (serving.Damaged file place) = ends.Damaged file place
end_of_serving serving.NoMemory = ends.NoMemory

-- A run whose lines can't be served ends so where the text is a script for these nodes, and else by the fault that is first in it. Memory
-- for the lines of a script may run out.
abbrev pub EndsUnserved : Option (List (List ℕ)) → List ℕ → End → End → Type 0
EndsUnserved names text other end =
    (IsOk (script_lines names text) × ((end ≡ other) ⊎ (end ≡ ends.NoMemory)))
    ⊎ ((fault : LineFault) × (script_lines names text ≡ Err fault) × (end ≡ ends.Script fault.line fault.kind))

-- the end of a run whose files can't be opened
abbrev pub EndsUnopened : List ℕ → OpenFault → End → Type 0
EndsUnopened text opening.NoMemory end = end ≡ ends.NoMemory
EndsUnopened text opening.Disk end = EndsUnserved None text (end_of_opening opening.Disk) end
EndsUnopened text (opening.Unformatted byte) end = EndsUnserved None text (end_of_opening (opening.Unformatted byte)) end
EndsUnopened text (opening.Damaged file place) end = EndsUnserved None text (end_of_opening (opening.Damaged file place)) end

-- the whole text was read
abbrev pub IsBehindText : End → Type 0
IsBehindText ends.Usage = ⊥
IsBehindText ends.Read = ⊥
IsBehindText other = Unit {0}
