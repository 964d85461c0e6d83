-- The calendar: the Gregorian one, also for the days before it began.
-- OpenVMS Programming Concepts, on the system time, which counts from the base of the Modified Julian Day.
use Rattle.std.specs.Prelude.{ℕ, zero, suc, ◌+◌, ◌-◌, ◌%◌, ◌≤◌, Bool, true, false, not, ◌&&◌, ◌||◌, ◌==◌, nat_lt, if◌then◌else◌}

-- a day of the calendar, with its month from 1 and its place in the month from 1
pub record CivilDate : Type 0 where
  pub year : ℕ
  pub month : ℕ
  pub day : ℕ

-- every fourth year is a leap year, but of the centuries only every fourth
abbrev pub is_leap_year : ℕ → Bool
is_leap_year year = year % 4 == 0 && (not (year % 100 == 0) || year % 400 == 0)

-- the days of a year
abbrev pub days_in_year : ℕ → ℕ
days_in_year year = if is_leap_year year then 366 else 365

-- thirty days have September, April, June and November
abbrev pub days_in_month : ℕ → ℕ → ℕ
days_in_month year month =
    if month == 2 then (if is_leap_year year then 29 else 28) else
    if month == 4 || month == 6 || month == 9 || month == 11 then 30 else
    31

-- the calendar has the date
pub record IsDate (date : CivilDate) : Type 0 where
  pub month_from : 1 ≤ date.month
  pub month_to : date.month ≤ 12
  pub day_from : 1 ≤ date.day
  pub day_to : date.day ≤ days_in_month date.year date.month

-- the days of the years from the year 0 to before a year
unfoldable pub days_of_years : ℕ → ℕ
days_of_years zero = 0
days_of_years (suc year) = days_of_years year + days_in_year year

-- the days of the first months of a year
unfoldable pub days_of_months : ℕ → ℕ → ℕ
days_of_months year zero = 0
days_of_months year (suc months) = days_of_months year months + days_in_month year (suc months)

-- the days from the first of January of the year 0 to a date
unfoldable pub day_count : CivilDate → ℕ
day_count date = days_of_years date.year + days_of_months date.year (date.month - 1) + (date.day - 1)

-- the date so many days after the first of a month, in that month or in one of so many months behind it
unfoldable pub date_from_month : (behind year month days : ℕ) → CivilDate
date_from_month zero year month days = record { year = year; month = month; day = days + 1 }
date_from_month (suc behind) year month days =
    elim (nat_lt days (days_in_month year month)) [
      | true ↦ record { year = year; month = month; day = days + 1 }
      | false ↦ date_from_month behind year (month + 1) (days - days_in_month year month)
    ]

-- the date so many days after the first of January of a year, in that year or in one of so many years behind it
unfoldable pub date_from_year : (behind year days : ℕ) → CivilDate
date_from_year zero year days = date_from_month 11 year 1 days
date_from_year (suc behind) year days =
    elim (nat_lt days (days_in_year year)) [
      | true ↦ date_from_month 11 year 1 days
      | false ↦ date_from_year behind (year + 1) (days - days_in_year year)
    ]

-- the date so many days after 17-NOV-1858, which is day 320 of its year, up to the year 9999
unfoldable pub date_of_day : ℕ → CivilDate
date_of_day day = date_from_year 8141 1858 (day + 320)
