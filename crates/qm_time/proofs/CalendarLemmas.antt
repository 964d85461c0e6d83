-- The date that is found by counting off years and months is the one whose days are counted.
use Rattle.std.proofs.Common.{◌≡◌, ℕ, zero, suc, ◌+◌, ◌-◌, ◌*◌, ◌/◌, ◌<◌, ◌≤◌, cond, refl, ap, ◌∙◌, arith, inl, inr}
use Rattle.std.proofs.lemmas.Bool.{lt-ltb, le-ltb, cases_lt}
use Rattle.std.proofs.lemmas.Bool.Decides.{nat_tests}
use Rattle.qm_model.specs.Calendar.{CivilDate, IsDate, is_leap_year, days_in_year, days_in_month, days_of_years, days_of_months, day_count, date_from_month, date_from_year, date_of_day}

-- 1 for a leap year, and else 0
abbrev pub leap_day : ℕ → ℕ
leap_day y = cond (is_leap_year y) 1 0

pub days_in_year-leap_day : (y : ℕ) → days_in_year y ≡ 365 + leap_day y
days_in_year-leap_day y = grind arith

-- the days of the years before, in closed form
abbrev pub closed_days : ℕ → ℕ
closed_days n = 365 * n + n / 4 - n / 100 + n / 400

closed_days-suc : (n : ℕ) → closed_days (suc n) ≡ closed_days n + 365 + leap_day (suc n)
closed_days-suc n = grind (arith, nat_tests)

pub days_of_years-closed : (n : ℕ) → days_of_years (suc n) ≡ closed_days n + 366
unfolding days_of_years
days_of_years-closed zero = refl
days_of_years-closed (suc n) =
    omega (arith, days_of_years-closed n, closed_days-suc n, days_in_year-leap_day (suc n))

-- the days before the year of the base, and before the year 10000
pub days_of_years-1858 : days_of_years 1858 ≡ 678621
days_of_years-1858 = days_of_years-closed 1857

pub days_of_years-end : days_of_years 10000 ≡ 3652425
days_of_years-end = days_of_years-closed 9999

days_of_months-suc : (y m : ℕ) → days_of_months y (suc m) ≡ days_of_months y m + days_in_month y (suc m)
unfolding days_of_months
days_of_months-suc y m = refl

days_of_months-zero : (y : ℕ) → days_of_months y 0 ≡ 0
unfolding days_of_months
days_of_months-zero y = refl

pub days_of_months-all : (y : ℕ) → days_of_months y 12 ≡ days_in_year y
unfolding days_of_months
days_of_months-all y = grind arith

-- a date of a year with so many days before it in the year
pub record IsInYear (year count : ℕ) (date : CivilDate) : Type 0 where
  pub year_is : date.year ≡ year
  pub lawful : IsDate date
  pub count_is : days_of_months date.year (date.month - 1) + (date.day - 1) ≡ count

-- a day of a month is in its year
found_here : (year m days : ℕ) → m ≤ 11 → days < days_in_month year (suc m) → IsInYear year (days_of_months year m + days) (record { year = year; month = suc m; day = days + 1 })
found_here year m days few low =
    let back : suc m - 1 ≡ m = omega arith in
    record {
      year_is = refl;
      lawful = record { month_from = omega arith; month_to = omega arith; day_from = omega arith; day_to = omega arith };
      count_is = rw back (omega arith);
    }

pub date_from_month-found : (behind year m days : ℕ) → m + behind ≤ 11 → days_of_months year m + days < days_of_months year (m + suc behind) → IsInYear year (days_of_months year m + days) (date_from_month behind year (suc m) days)
unfolding date_from_month
date_from_month-found zero year m days few low =
    let next : m + suc zero ≡ suc m = omega arith in
    found_here year m days (omega arith) (omega (arith, days_of_months-suc year m, rw next at low))
date_from_month-found (suc behind) year m days few low =
    let end : m + suc (suc behind) ≡ suc m + suc behind = omega arith in
    let next : suc m + 1 ≡ suc (suc m) = omega arith in
    elim (cases_lt days (days_in_month year (suc m))) [
      | inl here ↦ rw (lt-ltb _ _ here, date_from_month) (found_here year m days (omega arith) here)
      | inr left ↦
          let same : days_of_months year (suc m) + (days - days_in_month year (suc m)) ≡ days_of_months year m + days = omega (arith, days_of_months-suc year m) in
          rw (le-ltb _ _ left, date_from_month, next) (rw same at (date_from_month-found behind year (suc m) (days - days_in_month year (suc m)) (omega arith) (rw (← same, end) at low)))
    ]

-- a date from a year to another with so many days before it
pub record IsFound (count from to : ℕ) (date : CivilDate) : Type 0 where
  pub from_year : from ≤ date.year
  pub to_year : date.year ≤ to
  pub lawful : IsDate date
  pub count_is : day_count date ≡ count

days_of_years-suc : (y : ℕ) → days_of_years (suc y) ≡ days_of_years y + days_in_year y
unfolding days_of_years
days_of_years-suc y = refl

-- a day of a year
found_in_year : (year days to : ℕ) → year ≤ to → days < days_in_year year → IsFound (days_of_years year + days) year to (date_from_month 11 year 1 days)
unfolding day_count
found_in_year year days to few low =
    let found = date_from_month-found 11 year 0 days (omega arith) (omega (arith, days_of_months-zero year, days_of_months-all year)) in
    record {
      from_year = omega (arith, found.year_is);
      to_year = omega (arith, found.year_is);
      lawful = found.lawful;
      count_is = ap (λ y. days_of_years y + days_of_months (date_from_month 11 year 1 days).year ((date_from_month 11 year 1 days).month - 1) + ((date_from_month 11 year 1 days).day - 1)) found.year_is ∙ omega (arith, found.count_is, days_of_months-zero year);
    }

pub date_from_year-found : (behind year days : ℕ) → days_of_years year + days < days_of_years (year + suc behind) → IsFound (days_of_years year + days) year (year + behind) (date_from_year behind year days)
unfolding date_from_year
date_from_year-found zero year days low =
    let next : year + suc zero ≡ suc year = omega arith in
    found_in_year year days (year + zero) (omega arith) (omega (arith, days_of_years-suc year, rw next at low))
date_from_year-found (suc behind) year days low =
    let end : year + suc (suc behind) ≡ suc year + suc behind = omega arith in
    let next : year + 1 ≡ suc year = omega arith in
    elim (cases_lt days (days_in_year year)) [
      | inl here ↦ rw (lt-ltb _ _ here, date_from_year) (found_in_year year days (year + suc behind) (omega arith) here)
      | inr left ↦
          let same : days_of_years (suc year) + (days - days_in_year year) ≡ days_of_years year + days = omega (arith, days_of_years-suc year) in
          let found = rw same at (date_from_year-found behind (suc year) (days - days_in_year year) (rw (← same, end) at low)) in
          rw (le-ltb _ _ left, date_from_year, next) (record { from_year = omega (arith, found.from_year); to_year = omega (arith, found.to_year); lawful = found.lawful; count_is = found.count_is })
    ]

-- each day up to 31-DEC-9999 has its date, and 678,941 days lie before the base
pub date_of_day-found : (day : ℕ) → day < 2973484 → IsFound (day + 678941) 1858 9999 (date_of_day day)
unfolding date_of_day
date_of_day-found day low =
    let found = date_from_year-found 8141 1858 (day + 320) (omega (arith, days_of_years-1858, days_of_years-end)) in
    let same : days_of_years 1858 + (day + 320) ≡ day + 678941 = omega (arith, days_of_years-1858) in
    rw same at found

pub days_in_month-few : (year month : ℕ) → days_in_month year month ≤ 31
days_in_month-few year month = grind arith
