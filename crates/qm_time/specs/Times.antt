-- Times as they stand in a text.
use Rattle.std.specs.Prelude.{ℕ, ◌+◌, ◌≤◌, ◌==◌, ◌||◌, nat_le, max, is_some, if◌then◌else◌, List, length, codes, Result, Ok, Err}
use Rattle.qm_time.specs.declared.fault.TimeFault.{TimeFault}
use Rattle.qm_time.specs.declared.fault.TimeFault.TheVariants.{Form}
use Rattle.qm_time.specs.declared.number.Number.{Number}
use Rattle.qm_time.specs.declared.time.Absolute.{Absolute}
use Rattle.qm_time.specs.declared.time.Base.{Base}
use Rattle.qm_time.specs.declared.time.Base.TheVariants.{Now, Today, Tomorrow, Date}
use Rattle.qm_time.specs.declared.time.Time.{Time}
use Rattle.qm_time.specs.Clocks.{clock_at, minutes_at, delta_at}
use Rattle.qm_time.specs.Months.{shared, month_at}
use Rattle.qm_time.specs.Numbers.{and_then, stands, ends, digit_at, number_at, four_digits_at}

-- TODAY or TOMORROW
unfoldable pub day_word_at : List ℕ → Result Absolute TimeFault
day_word_at text =
    if shared (codes "TODAY") text == 5 then Ok (record { base = Today; clock = 0; end = 5 }) else
    if shared (codes "TOMORROW") text == 8 then Ok (record { base = Tomorrow; clock = 0; end = 8 }) else
    Err (Form (max (shared (codes "TODAY") text) (shared (codes "TOMORROW") text)))

-- behind a date: a blank, a tab or a colon and a clock time, or nothing
unfoldable pub clocked_at : List ℕ → Absolute → Result Absolute TimeFault
clocked_at text date =
    if stands text date.end 32 || stands text date.end 9 || stands text date.end 58
    then and_then (clock_at text (date.end + 1)) (λ clock. Ok (record { base = date.base; clock = clock.value; end = clock.end }))
    else Ok date

-- behind a day and its month: a - and the year in four digits
unfoldable pub year_at : List ℕ → Number → Number → Result Absolute TimeFault
year_at text day month =
    if stands text month.end 45
    then and_then (four_digits_at text (month.end + 1)) (λ year. clocked_at text (record { base = Date year.value month.value day.value; clock = 0; end = year.end }))
    else Err (Form month.end)

-- a number in front: the day of a date before a -, or the hours of a clock time of today
unfoldable pub numbered_at : List ℕ → Number → Result Absolute TimeFault
numbered_at text n =
    if stands text n.end 45 then and_then (month_at text (n.end + 1)) (year_at text n) else
    if nat_le n.value 23 then and_then (minutes_at text n) (λ clock. Ok (record { base = Today; clock = clock.value; end = clock.end })) else
    Err (Form n.end)

-- an absolute time
unfoldable pub absolute_at : List ℕ → Result Absolute TimeFault
absolute_at text =
    if is_some (digit_at text 0) then and_then (number_at 99 text 0) (numbered_at text) else
    day_word_at text

-- a delta up to the end of the text
unfoldable pub last_delta_at : List ℕ → ℕ → Result ℕ TimeFault
last_delta_at text place =
    and_then (delta_at text place) (λ delta. if ends text delta.end then Ok delta.value else Err (Form delta.end))

-- behind an absolute time: + or - and a delta, or nothing
unfoldable pub changed_at : List ℕ → Absolute → Result Time TimeFault
changed_at text start =
    if ends text start.end then Ok (record { base = start.base; clock = start.clock; plus = 0; minus = 0 }) else
    if stands text start.end 43 then and_then (last_delta_at text (start.end + 1)) (λ delta. Ok (record { base = start.base; clock = start.clock; plus = delta; minus = 0 })) else
    if stands text start.end 45 then and_then (last_delta_at text (start.end + 1)) (λ delta. Ok (record { base = start.base; clock = start.clock; plus = 0; minus = delta })) else
    Err (Form start.end)

-- a time: a sign and a delta from now, or an absolute time and what is behind it
unfoldable pub time_at : List ℕ → Result Time TimeFault
time_at text =
    if stands text 0 43 || stands text 0 45 then changed_at text (record { base = Now; clock = 0; end = 0 }) else
    and_then (absolute_at text) (changed_at text)

-- the parts of a date are as high as its digits and letters can spell
abbrev pub IsBase : Base → Type 0
IsBase Now = Unit {0}
IsBase Today = Unit {0}
IsBase Tomorrow = Unit {0}
IsBase (Date year month day) = (year ≤ 9999) × (1 ≤ month) × (month ≤ 12) × (day ≤ 99)

-- an absolute time within its text
pub record IsAbsoluteIn (text : List ℕ) (start : Absolute) : Type 0 where
  pub base : IsBase start.base
  pub clock : start.clock ≤ 8639999
  pub inside : start.end ≤ length text

-- a time as high as its digits can spell
pub record IsTime (time : Time) : Type 0 where
  pub base : IsBase time.base
  pub clock : time.clock ≤ 8639999
  pub plus : time.plus ≤ 86399999999
  pub minus : time.minus ≤ 86399999999
