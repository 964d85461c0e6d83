-- The blocks and reports of print and batch jobs.
use Rattle.std.proofs.Common.{◌≡◌, ℕ, Bool, true, false, List, [], ◌∷◌, ◌++◌, length, map, refl, codes, flat_map}
use Rattle.std.specs.Fmt.{digits}
use Rattle.qm_kinds.specs.declared.entry.JobKind.TheVariants.{Batch, Print}
use Rattle.qm_model.specs.Common.{Shape, first_form, filling, Work, Place, Report, page_blocks}
use Rattle.qm_kinds.specs.declared.work.Report.TheVariants.{Mark, Done}
use Rattle.qm_model.specs.Reports.{Step, Handed, Reported, begin, course, reports, next_report, blocks_before_report}

-- one copy of a text on a form
abbrev printing : Shape → List ℕ → Work
printing shape text = record { run = 1; entry = 7; kind = Print; name = codes "X"; user = codes "SMITH"; device = codes "LPA0"; text = text; shape = shape; copies = 1; flag = false; again = false; mark = [] }

abbrev start : Place
start = record { at = 0; used = 0 }

abbrev plain : List ℕ → List (List ℕ)
plain text = page_blocks (printing first_form.shape text)

pub one_line : plain (97 ∷ 10 ∷ []) ≡ (97 ∷ 10 ∷ 12 ∷ []) ∷ []
one_line = refl

pub one_line_is_printed : course (printing first_form.shape (97 ∷ 10 ∷ [])) start ≡ Handed (97 ∷ 10 ∷ 12 ∷ []) ∷ Reported (Done 1) ∷ []
one_line_is_printed = refl

pub no_text : plain [] ≡ []
no_text = refl

pub no_text_is_printed : course (printing first_form.shape []) start ≡ Reported (Done 1) ∷ []
no_text_is_printed = refl

-- an empty section is a blank page, but not at the end
pub form_feeds : plain (12 ∷ 97 ∷ 12 ∷ 12 ∷ 98 ∷ 12 ∷ []) ≡ (12 ∷ []) ∷ (97 ∷ 10 ∷ 12 ∷ []) ∷ (12 ∷ []) ∷ (98 ∷ 10 ∷ 12 ∷ []) ∷ []
form_feeds = refl

pub only_a_form_feed : plain (12 ∷ []) ≡ (12 ∷ []) ∷ []
only_a_form_feed = refl

-- three lines of two columns, with a line free at the top and a column at the left
abbrev small : Bool → Shape
small wrap = record { length = 5; width = 4; top = 1; bottom = 1; left = 1; right = 1; wrap = wrap }

pub lines_go_on : page_blocks (printing (small true) (codes "abcde" ++ 10 ∷ 10 ∷ codes "f"))
    ≡ (10 ∷ codes " ab" ++ 10 ∷ codes " cd" ++ 10 ∷ codes " e" ++ 10 ∷ 12 ∷ []) ∷ (10 ∷ codes " " ++ 10 ∷ codes " f" ++ 10 ∷ 12 ∷ []) ∷ []
lines_go_on = refl

pub lines_are_cut : page_blocks (printing (small false) (codes "abcde" ++ 10 ∷ 10 ∷ codes "f"))
    ≡ (10 ∷ codes " ab" ++ 10 ∷ codes " " ++ 10 ∷ codes " f" ++ 10 ∷ 12 ∷ []) ∷ []
lines_are_cut = refl

-- one flag page, and the pages as often as there are copies
pub flag_and_copies : page_blocks (record (printing first_form.shape (97 ∷ [])) { flag = true; copies = 2 })
    ≡ (codes "ENTRY 7 JOB X USER SMITH" ++ 10 ∷ 12 ∷ []) ∷ (97 ∷ 10 ∷ 12 ∷ []) ∷ (97 ∷ 10 ∷ 12 ∷ []) ∷ []
unfolding digits
flag_and_copies = refl

-- 420 lines on pages of 60
pub seven_pages : length (plain (filling 420)) ≡ 7
seven_pages = refl

abbrev two_pages : List ℕ → Work
two_pages mark = record (printing first_form.shape (97 ∷ 12 ∷ 98 ∷ [])) { mark = mark }

-- a run's reports count the blocks, and the last block ends it
pub reports_count : reports (two_pages []) (begin (two_pages [])) ≡ Mark (49 ∷ []) (record { at = 1; used = 0 }) ∷ Done 1 ∷ []
unfolding digits
reports_count = refl

-- a job that restarts begins behind its mark
pub goes_on : course (two_pages (codes "1")) (begin (two_pages (codes "1"))) ≡ Handed (98 ∷ 10 ∷ 12 ∷ []) ∷ Reported (Done 1) ∷ []
unfolding digits
goes_on = refl

pub marks : map (λ (mark : List ℕ). (begin (two_pages mark)).at) (codes "2" ∷ codes "02" ∷ codes "3" ∷ codes "x" ∷ codes "" ∷ []) ≡ 2 ∷ 2 ∷ 0 ∷ 0 ∷ 0 ∷ []
marks = refl

pub behind_the_last_block : course (two_pages (codes "2")) (begin (two_pages (codes "2"))) ≡ Reported (Done 1) ∷ []
behind_the_last_block = refl

-- a mark that says so many blocks, and where the run goes on
abbrev pub counted : List ℕ → ℕ → Report
counted text blocks = Mark text (record { at = blocks; used = 0 })

-- the rest of a print run: its steps, and its reports
abbrev printed_from : Work → List Step
printed_from w = course w (begin w)

abbrev reported_from : Work → List Report
reported_from w = reports w (begin w)

-- 16 lines fill no page, and 72 lines fill more than one
pub short_text_has_no_mark : reported_from (printing first_form.shape (filling 16)) ≡ Done 1 ∷ []
short_text_has_no_mark = refl

pub longer_text_has_a_mark : reported_from (printing first_form.shape (filling 72)) ≡ counted (codes "1") 1 ∷ Done 1 ∷ []
unfolding digits
longer_text_has_a_mark = refl

-- 420 lines on the form DEFAULT, after a mark
abbrev long : List ℕ → Work
long mark = record (printing first_form.shape (filling 420)) { mark = mark }

-- 60 lines of 63 letters x, and a form feed
abbrev pub full_page : List ℕ
full_page = filling 60 ++ 12 ∷ []

pub seven_blocks_are_counted : reported_from (long [])
    ≡ counted (codes "1") 1 ∷ counted (codes "2") 2 ∷ counted (codes "3") 3 ∷ counted (codes "4") 4 ∷ counted (codes "5") 5 ∷ counted (codes "6") 6 ∷ Done 1 ∷ []
unfolding digits
seven_blocks_are_counted = refl

-- a job that restarts behind its third block hands over the other four, the last one in the step that ends the run
pub four_blocks_are_left : printed_from (long (codes "3"))
    ≡ Handed full_page ∷ Reported (counted (codes "4") 4)
    ∷ Handed full_page ∷ Reported (counted (codes "5") 5)
    ∷ Handed full_page ∷ Reported (counted (codes "6") 6)
    ∷ Handed full_page ∷ Reported (Done 1)
    ∷ []
unfolding digits
four_blocks_are_left = refl

-- pages of one line each, so that each block tells which line it is
abbrev one_line_each : List ℕ → List ℕ → Work
one_line_each letters mark = record
    (printing (record { length = 3; width = 8; top = 1; bottom = 1; left = 0; right = 0; wrap = false }) (flat_map (λ letter. letter ∷ 10 ∷ []) letters))
    { mark = mark }

pub fourth_to_seventh : printed_from (one_line_each (codes "ABCDEFG") (codes "3"))
    ≡ Handed (10 ∷ codes "D" ++ 10 ∷ 12 ∷ []) ∷ Reported (counted (codes "4") 4)
    ∷ Handed (10 ∷ codes "E" ++ 10 ∷ 12 ∷ []) ∷ Reported (counted (codes "5") 5)
    ∷ Handed (10 ∷ codes "F" ++ 10 ∷ 12 ∷ []) ∷ Reported (counted (codes "6") 6)
    ∷ Handed (10 ∷ codes "G" ++ 10 ∷ 12 ∷ []) ∷ Reported (Done 1)
    ∷ []
unfolding digits
fourth_to_seventh = refl

-- the step behind the sixth mark hands over the seventh block and ends the run
pub last_step_hands_over : blocks_before_report (course (one_line_each (codes "ABCDEFG") []) (record { at = 6; used = 0 })) ≡ (10 ∷ codes "G" ++ 10 ∷ 12 ∷ []) ∷ []
last_step_hands_over = refl

pub last_step_ends : next_report (course (one_line_each (codes "ABCDEFG") []) (record { at = 6; used = 0 })) ≡ Done 1
unfolding digits
last_step_ends = refl

-- a mark is a number in decimal, also of more than one digit
pub tenth_mark : reported_from (one_line_each (codes "ABCDEFGHIJKL") (codes "9")) ≡ counted (codes "10") 10 ∷ counted (codes "11") 11 ∷ Done 1 ∷ []
unfolding digits
tenth_mark = refl

-- two copies of 100 lines on pages of 56, with two lines free at the top
abbrev letter : Work
letter = record (printing (record { length = 60; width = 132; top = 2; bottom = 2; left = 0; right = 0; wrap = false }) (filling 100)) { copies = 2 }

abbrev pub letter_page : ℕ → List ℕ
letter_page lines = 10 ∷ 10 ∷ filling lines ++ 12 ∷ []

pub four_blocks : printed_from letter
    ≡ Handed (letter_page 56) ∷ Reported (counted (codes "1") 1)
    ∷ Handed (letter_page 44) ∷ Reported (counted (codes "2") 2)
    ∷ Handed (letter_page 56) ∷ Reported (counted (codes "3") 3)
    ∷ Handed (letter_page 44) ∷ Reported (Done 1)
    ∷ []
unfolding digits
four_blocks = refl

-- the flag page is a block like others, and isn't printed again
pub flag_page_counts : printed_from (record (one_line_each (codes "AB") (codes "1")) { flag = true })
    ≡ Handed (10 ∷ codes "A" ++ 10 ∷ 12 ∷ []) ∷ Reported (counted (codes "2") 2)
    ∷ Handed (10 ∷ codes "B" ++ 10 ∷ 12 ∷ []) ∷ Reported (Done 1)
    ∷ []
unfolding digits
flag_page_counts = refl

-- a batch job of these lines, run again with a mark or for the first time
abbrev batch : List (List ℕ) → Bool → List ℕ → Work
batch lines again mark = record (printing first_form.shape (flat_map (λ line. line ++ 10 ∷ []) lines)) { kind = Batch; again = again; mark = mark }

abbrev runs : Work → List Step
runs w = course w (begin w)

pub exits : runs (batch (codes "$ EXIT 2" ∷ []) false []) ≡ Reported (Done 2) ∷ []
exits = refl

pub comes_to_its_end : runs (batch (codes "$! nothing" ∷ [] ∷ codes "$ LABEL:" ∷ []) false []) ≡ Reported (Done 1) ∷ []
comes_to_its_end = refl

pub meets_a_bad_line : map (λ line. runs (batch (line ∷ []) false []))
    (codes "DIRECTORY" ∷ codes "$ exit 1" ∷ codes "$ EXIT 1 " ∷ codes "$ EXIT 4294967296" ∷ codes "$ SET RESTART_VALUE = " ∷ codes "$WRITE SYS$OUTPUT" ∷ [])
    ≡ (Reported (Done 1052) ∷ []) ∷ (Reported (Done 1052) ∷ []) ∷ (Reported (Done 1052) ∷ []) ∷ (Reported (Done 1052) ∷ []) ∷ (Reported (Done 1052) ∷ []) ∷ (Reported (Done 1052) ∷ []) ∷ []
meets_a_bad_line = refl

pub misses_a_label : runs (batch (codes "$ GOTO NOWHERE" ∷ []) false []) ≡ Reported (Done 1044) ∷ []
misses_a_label = refl

pub goes_to_the_first_label : runs (batch (codes "$ GOTO B" ∷ codes "$ EXIT 3" ∷ codes "$ B:" ∷ codes "$ EXIT 5" ∷ codes "$ B:" ∷ []) false []) ≡ Reported (Done 5) ∷ []
goes_to_the_first_label = refl

-- a line that writes holds two quotes
abbrev write : List ℕ → List ℕ
write text = codes "$ WRITE SYS$OUTPUT " ++ 34 ∷ text ++ 34 ∷ []

abbrev in_two_parts : List (List ℕ)
in_two_parts =
    codes "$ IF $RESTART THEN GOTO 'BATCH$RESTART'"
    ∷ write (codes "one")
    ∷ codes "$ SET RESTART_VALUE = TWO"
    ∷ codes "$ TWO:"
    ∷ write (codes "two")
    ∷ []

pub first_run : runs (batch in_two_parts false [])
    ≡ Handed (codes "one" ++ 10 ∷ []) ∷ Reported (Mark (codes "TWO") (record { at = 4; used = 3 })) ∷ Handed (codes "two" ++ 10 ∷ []) ∷ Reported (Done 1) ∷ []
first_run = refl

pub second_run : runs (batch in_two_parts true (codes "TWO")) ≡ Handed (codes "two" ++ 10 ∷ []) ∷ Reported (Done 1) ∷ []
second_run = refl

pub second_run_without_a_mark : length (runs (batch in_two_parts true [])) ≡ 4
second_run_without_a_mark = refl

-- two lines that go round for ever
pub reads_too_many_lines : runs (batch (codes "$ L:" ∷ codes "$ GOTO L" ∷ []) false []) ≡ Reported (Done 1036) ∷ []
reads_too_many_lines = refl

-- a run that has read all the lines that it may ends well where it is at the end of its text
pub ends_at_the_limit : course (batch ([] ∷ []) false []) (record { at = 1; used = 9999 }) ≡ Reported (Done 1) ∷ []
ends_at_the_limit = refl

pub stops_at_the_limit : course (batch ([] ∷ [] ∷ []) false []) (record { at = 1; used = 9999 }) ≡ Reported (Done 1036) ∷ []
stops_at_the_limit = refl

-- the statuses of EXIT have no zero in front
pub exits_with_no_zero_in_front : map (λ line. runs (batch (line ∷ []) false [])) (codes "$ EXIT 0" ∷ codes "$ EXIT 01" ∷ [])
    ≡ (Reported (Done 0) ∷ []) ∷ (Reported (Done 1052) ∷ []) ∷ []
exits_with_no_zero_in_front = refl

-- a run goes on at a line in the middle
pub goes_on_at_a_line : course (batch (codes "DIRECTORY" ∷ codes "$ EXIT 2" ∷ []) false []) (record { at = 2; used = 1 }) ≡ Reported (Done 2) ∷ []
goes_on_at_a_line = refl
