-- What a symbiont does in a run, from a place on: the blocks that it hands over and the reports that it gives, in order.
-- OpenVMS System Manager's Manual, Setting Up and Maintaining Queues, on symbionts and on jobs that restart at a checkpoint.
use Rattle.std.specs.Prelude.{◌≡◌, ◌<◌, ◌^◌, ℕ, zero, suc, ◌+◌, ◌-◌, nat_lt, nat_le, Bool, ◌&&◌, if◌then◌else◌, List, [], ◌∷◌, length, map, filter_map, take, drop, Option, None, Some, decimal}
use Rattle.std.specs.List.{list_all, range_with_len}
use Rattle.std.specs.Char.{is_ascii_digit}
use Rattle.qm_kinds.specs.declared.entry.JobKind.{JobKind}
use Rattle.qm_kinds.specs.declared.entry.JobKind.TheVariants.{Batch, Print}
use Rattle.qm_kinds.specs.declared.work.Work.{Work}
use Rattle.qm_kinds.specs.declared.work.Place.{Place}
use Rattle.qm_kinds.specs.declared.work.Report.{Report}
use Rattle.qm_kinds.specs.declared.work.Report.TheVariants as report
use Rattle.qm_model.specs.Texts.{value_of}
use Rattle.qm_model.specs.Pages.{page_blocks, lines}
use Rattle.qm_model.specs.Batch.{BatchMove, GoOn, Output, SaveMark, EndRun, move_at, normal_status, line_limit_status}

-- what a run does: a block goes to the device, or a report to the queue manager
pub data Step : Type 0 where
  Handed : List ℕ → Step
  Reported : Report → Step

-- a mark of digits alone says how many blocks were printed, where there are so many; any other says none
abbrev pub printed : ℕ → List ℕ → ℕ
printed blocks mark = if list_all is_ascii_digit mark && nat_le (value_of mark) blocks then value_of mark else 0

-- a print job goes on behind its mark, and a batch job begins at its first line
abbrev pub begin_at : JobKind → Work → ℕ
begin_at Print w = printed (length (page_blocks w)) w.mark
begin_at Batch w = 1

-- the place where a run begins
abbrev pub begin : Work → Place
begin w = record { at = begin_at w.kind w; used = 0 }

-- after so many of all blocks: the end, or a mark that counts them
abbrev pub print_report : ℕ → ℕ → ℕ → Report
print_report all used count = if nat_lt count all then report.Mark (decimal count) (record { at = count; used = used }) else report.Done normal_status

-- the blocks that are left are handed over, each with a report; where none is left, the run ends at once
abbrev pub print_steps : ℕ → ℕ → ℕ → List (List ℕ) → List Step
print_steps all used at [] = Reported (report.Done normal_status) ∷ []
print_steps all used at (block ∷ []) = Handed block ∷ Reported (print_report all used (at + 1)) ∷ []
print_steps all used at (block ∷ next ∷ blocks) =
    Handed block ∷ Reported (print_report all used (at + 1)) ∷ print_steps all used (at + 1) (next ∷ blocks)

-- all that a print job does from a place on
abbrev pub print_course : Work → Place → List Step
print_course w p = print_steps (length (page_blocks w)) p.used p.at (drop p.at (page_blocks w))

-- how many lines a run may read
abbrev pub line_limit : ℕ
line_limit = 10000

-- what a move comes to, and what follows it
abbrev pub steps_of : BatchMove → ℕ → (ℕ → List Step) → List Step
steps_of (GoOn at) used onward = onward at
steps_of (Output block at) used onward = Handed block ∷ onward at
steps_of (SaveMark text at) used onward = Reported (report.Mark text (record { at = at + 1; used = used })) ∷ onward at
steps_of (EndRun status) used onward = Reported (report.Done status) ∷ []

-- At most so many lines are read. A run that has read them all ends, well where it is behind its last line.
abbrev pub batch_steps : ℕ → List (List ℕ) → Bool → List ℕ → ℕ → List Step
batch_steps zero all again mark at = Reported (report.Done (if nat_le (length all) at then normal_status else line_limit_status)) ∷ []
batch_steps (suc room) all again mark at =
    steps_of (move_at all again mark at) (line_limit - room) (λ next. batch_steps room all again mark next)

-- all that a batch job does from a place on
abbrev pub batch_course : Work → Place → List Step
batch_course w p = batch_steps (line_limit - p.used) (lines w.text) w.again w.mark (p.at - 1)

-- all that a job of a kind does from a place on
abbrev pub course_of : JobKind → Work → Place → List Step
course_of Print w p = print_course w p
course_of Batch w p = batch_course w p

-- all that a run does from a place on
abbrev pub course : Work → Place → List Step
course w p = course_of w.kind w p

-- the report of a step, if it is one
abbrev pub report_of : Step → Option Report
report_of (Handed block) = None
report_of (Reported told) = Some told

-- the reports from a place on, of which the last is the end
abbrev pub reports : Work → Place → List Report
reports w p = filter_map report_of (course w p)

-- some marks, and one end behind them
abbrev pub EndOnce : List Report → Type 0
EndOnce [] = ⊥
EndOnce (report.Mark value next ∷ others) = EndOnce others
EndOnce (report.Done status ∷ others) = others ≡ []

-- what stands behind each mark is what is reported from its place on
abbrev pub GoOnAtMarks : Work → List Report → Type 0
GoOnAtMarks w [] = Unit {0}
GoOnAtMarks w (report.Mark value next ∷ others) = (reports w next ≡ others) × GoOnAtMarks w others
GoOnAtMarks w (report.Done status ∷ others) = GoOnAtMarks w others

-- the work with another mark
abbrev pub with_mark : Work → List ℕ → Work
with_mark w value = record w { mark = value }

-- a run that gets the value of a mark begins at the mark's place, and reports what stands behind the mark
abbrev pub BeginAtMarks : Work → List Report → Type 0
BeginAtMarks w [] = Unit {0}
BeginAtMarks w (report.Mark value next ∷ others) =
    (begin (with_mark w value) ≡ next) × (reports (with_mark w value) (begin (with_mark w value)) ≡ others) × BeginAtMarks w others
BeginAtMarks w (report.Done status ∷ others) = BeginAtMarks w others

-- a print job's mark behind so many blocks
abbrev pub mark_behind : ℕ → ℕ → Report
mark_behind used count = report.Mark (decimal count) (record { at = count; used = used })

-- one step of a symbiont: the next report, and the blocks that are handed over before it
abbrev pub next_report : List Step → Report
next_report [] = report.Done normal_status
next_report (Handed block ∷ steps) = next_report steps
next_report (Reported told ∷ steps) = told

-- the blocks that are handed over before the next report
abbrev pub blocks_before_report : List Step → List (List ℕ)
blocks_before_report [] = []
blocks_before_report (Handed block ∷ steps) = block ∷ blocks_before_report steps
blocks_before_report (Reported told ∷ steps) = []

-- how many blocks of a print job are left at a place
abbrev pub blocks_left : Work → Place → ℕ
blocks_left w p = length (page_blocks w) - p.at

-- a mark behind each block that is left but the last, which counts the blocks so far
abbrev pub marks_left : Work → Place → List Report
marks_left w p = map (mark_behind p.used) (range_with_len (p.at + 1) (blocks_left w p - 1))

-- the next block of a print job, if one is left
abbrev pub next_block : Work → Place → List (List ℕ)
next_block w p = take 1 (drop p.at (page_blocks w))

-- this holds of each print job, at each place
abbrev pub OfEachPrintJob : (Work → Place → Type 0) → Type 0
OfEachPrintJob Holds = (w : Work) (p : Place) → w.kind ≡ Print → Holds w p

-- the blocks of the job are fewer than 2^64
abbrev pub HasCountedBlocks : Work → Type 0
HasCountedBlocks w = length (page_blocks w) < 2 ^ 64
