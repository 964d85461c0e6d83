-- How a moment is printed. It is a number of hundredths of a second from 17-NOV-1858 00:00:00.00, the base of the system time.
-- OpenVMS User's Manual, on absolute time, and Programming Concepts, on the 64-bit system time.
use Rattle.std.specs.Prelude.{ℕ, ◌+◌, ◌/◌, ◌%◌, ◌==◌, nat_lt, if◌then◌else◌, List, [], ◌∷◌, ◌++◌, codes}
use Rattle.qm_model.specs.Calendar.{CivilDate, date_of_day}

-- the digit of a number below 10
abbrev pub digit : ℕ → ℕ
digit n = 48 + n

-- a number below 100 in two digits
abbrev pub two_digits : ℕ → List ℕ
two_digits n = digit (n / 10) ∷ digit (n % 10) ∷ []

-- a number below 10,000 in four digits
abbrev pub four_digits : ℕ → List ℕ
four_digits n = two_digits (n / 100) ++ two_digits (n % 100)

-- a number below 100 right in two places
abbrev pub right_in_two : ℕ → List ℕ
right_in_two n = (if nat_lt n 10 then 32 else digit (n / 10)) ∷ digit (n % 10) ∷ []

-- the letters of a month
unfoldable pub month_letters : ℕ → List ℕ
month_letters month =
    if month == 1 then codes "JAN" else
    if month == 2 then codes "FEB" else
    if month == 3 then codes "MAR" else
    if month == 4 then codes "APR" else
    if month == 5 then codes "MAY" else
    if month == 6 then codes "JUN" else
    if month == 7 then codes "JUL" else
    if month == 8 then codes "AUG" else
    if month == 9 then codes "SEP" else
    if month == 10 then codes "OCT" else
    if month == 11 then codes "NOV" else
    codes "DEC"

-- as 17-NOV-1858
abbrev pub date_text : CivilDate → List ℕ
date_text date =
    right_in_two date.day ++ codes "-" ++ month_letters date.month ++ codes "-" ++ four_digits date.year

-- as 23:59:59.99, of hundredths of a second since midnight
abbrev pub clock_text : ℕ → List ℕ
clock_text hundredths =
    two_digits (hundredths / 360000) ++ codes ":" ++ two_digits (hundredths / 6000 % 60) ++ codes ":"
    ++ two_digits (hundredths / 100 % 60) ++ codes "." ++ two_digits (hundredths % 100)

-- as 17-NOV-1858 00:00:00.00: the date of the whole days since the base, and the clock for what is left
unfoldable pub moment_text : ℕ → List ℕ
moment_text moment = date_text (date_of_day (moment / 8640000)) ++ codes " " ++ clock_text (moment % 8640000)

-- a text without the blank in front of it, if there is one
abbrev pub without_blank : List ℕ → List ℕ
without_blank [] = []
without_blank (b ∷ bs) = if b == 32 then bs else b ∷ bs
