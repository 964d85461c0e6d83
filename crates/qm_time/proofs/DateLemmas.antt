-- The calendar of `jiff`, which counts its days from the year -10000, is the calendar.
use Rattle.std.proofs.Common.{◌≡◌, ℕ, zero, suc, ◌+◌, ◌-◌, ◌*◌, ◌<◌, ◌≤◌, refl, ap, ◌∙◌, arith, ℤ, pos, negsuc, ◌+ℤ◌, ◌-ℤ◌, ◌*ℤ◌, ◌≤ℤ◌, unsigned_abs, to_z, of_z, w64, inl, inr, Some, None, int_div}
use Rattle.std.proofs.lemmas.Bool.{le-leb, lt-leb, cases_lt}
use Rattle.jiff_core.specs.declared.civil.date.Date.{Date}
use Rattle.jiff_core.specs.Calendar.{days_of_years as jiff_years, days_of_months as jiff_months, day_count as jiff_count, IsDate as IsJiffDate, IsEpochDay}
use Rattle.jiff_core.specs.Date.{epoch_day, IsYmd}
use Rattle.jiff_core.proofs.SignedLemmas.{signed_arith, back_small}
use Rattle.jiff_core.proofs.MarchLemmas.{leap_day-shift, days_of_years-suc, days_of_years-march_days}
use Rattle.jiff_core.proofs.CalendarLemmas.{days_from_civil-day_count, day_count_bounds}
use Rattle.jiff_core.proofs.DateLemmas.{civil, epoch_day_injective}
use Rattle.qm_model.specs.Calendar.{CivilDate, IsDate, days_in_month, days_of_years, days_of_months, day_count, date_of_day}
use Rattle.qm_time.specs.Dates.{IsSameDate}
use Rattle.qm_time.specs.Moments.{day_of_date}
use Rattle.qm_time.proofs.CalendarLemmas.{days_in_year-leap_day, days_of_years-1858, date_of_day-found}

jiff_months-same : (y n : ℕ) → jiff_months (pos y) n ≡ days_of_months y n
unfolding jiff_months days_of_months
jiff_months-same y zero = refl
jiff_months-same y (suc n) = rw (jiff_months-same y n) refl

jiff_years-same : (n : ℕ) → jiff_years (n + 10000) ≡ days_of_years n + 3652425
unfolding days_of_years
jiff_years-same zero = omega (arith, days_of_years-march_days 10000)
jiff_years-same (suc n) =
    let next : suc n + 10000 ≡ suc (n + 10000) = omega arith in
    rw next (omega (arith, jiff_years-same n, days_of_years-suc (n + 10000), leap_day-shift (pos n) (n + 10000) refl, days_in_year-leap_day n))

-- the two count the same days, from different years
pub jiff_count-same : (date : CivilDate) → IsDate date → jiff_count (pos date.year) date.month date.day ≡ day_count date + 3652425
unfolding jiff_count day_count
jiff_count-same date lawful =
    omega (arith, jiff_years-same date.year, jiff_months-same date.year (date.month - 1), lawful.day_from)

days_of_months-october : (y : ℕ) → days_of_months 1858 10 ≡ 304
unfolding days_of_months
days_of_months-october y = refl

-- the base is 17-NOV-1858
base_count : (base : Date) → IsYmd (pos 1858) (pos 11) (pos 17) base → jiff_count base.year base.month base.day ≡ 4331366
unfolding day_count
base_count base is =
    let month : base.month ≡ 11 = omega (arith, signed_arith, is.1) in
    let day : base.day ≡ 17 = omega (arith, signed_arith, is.2) in
    let date : CivilDate = record { year = 1858; month = 11; day = 17 } in
    let lawful : IsDate date = record { month_from = omega arith; month_to = omega arith; day_from = omega arith; day_to = omega arith } in
    rw (is.0, month, day) (omega (arith, jiff_count-same date lawful, days_of_years-1858, days_of_months-october))

-- what it is as a date of `jiff`
as_jiff : (date : CivilDate) → IsDate date → date.year ≤ 9999 → Date
as_jiff date lawful few = record {
  year = pos date.year;
  month = date.month;
  day = date.day;
  year_in = omega (arith, signed_arith);
  month_in = (lawful.month_from, lawful.month_to);
  day_in = (lawful.day_from, lawful.day_to);
}

-- dates that are as many days after the base are one date
pub same_date : (day : ℕ) (base d : Date) → day < 2973484 → IsYmd (pos 1858) (pos 11) (pos 17) base → epoch_day d ≡ epoch_day base +ℤ pos day → IsSameDate (date_of_day day) d
unfolding as_jiff
same_date day base d low is e =
    let found = date_of_day-found day low in
    let there = as_jiff (date_of_day day) found.lawful found.to_year in
    let count : jiff_count there.year there.month there.day ≡ day + 4331366 = omega (arith, jiff_count-same (date_of_day day) found.lawful, found.count_is) in
    let same : epoch_day d ≡ epoch_day there = omega (arith, signed_arith, days_from_civil-day_count, base_count base is, count) in
    let parts = epoch_day_injective d there same in
    record { year = parts.0; month = parts.1; day = parts.2 }

-- the base lies in the calendar of `jiff`, and so do the days after it
pub in_calendar : (day : ℕ) (base : Date) → day < 2973484 → IsYmd (pos 1858) (pos 11) (pos 17) base → IsEpochDay (epoch_day base +ℤ pos day)
in_calendar day base low is = omega (arith, signed_arith, days_from_civil-day_count, base_count base is)

-- a date of `jiff` from the year 0 on, as a date
abbrev pub plain_date : Date → CivilDate
plain_date d = record { year = unsigned_abs d.year; month = d.month; day = d.day }

not_negative : (z : ℤ) → pos 0 ≤ℤ z → z ≡ pos (unsigned_abs z)
not_negative (pos n) low = refl
not_negative (negsuc n) low = absurd (omega (arith, signed_arith))

plain_count : (d : Date) → pos 0 ≤ℤ d.year → jiff_count d.year d.month d.day ≡ day_count (plain_date d) + 3652425
plain_count d low =
    let day = rw (not_negative d.year low) at d.day_in in
    let lawful : IsDate (plain_date d) = record { month_from = d.month_in.0; month_to = d.month_in.1; day_from = day.0; day_to = day.1 } in
    ap (λ y. jiff_count y d.month d.day) (not_negative d.year low) ∙ jiff_count-same (plain_date d) lawful

-- the first day of the year 0
zero_count : (base : Date) → IsYmd (pos 0) (pos 1) (pos 1) base → jiff_count base.year base.month base.day ≡ 3652425
unfolding day_count days_of_years days_of_months
zero_count base is =
    let month : base.month ≡ 1 = omega (arith, signed_arith, is.1) in
    let day : base.day ≡ 1 = omega (arith, signed_arith, is.2) in
    let date : CivilDate = record { year = 0; month = 1; day = 1 } in
    let lawful : IsDate date = record { month_from = omega arith; month_to = omega arith; day_from = omega arith; day_to = omega arith } in
    rw (is.0, month, day) (jiff_count-same date lawful)

-- the days to a date are few
pub few_days : (d : Date) → pos 0 ≤ℤ d.year → day_count (plain_date d) ≤ 3652424
few_days d low = omega (arith, plain_count d low, day_count_bounds d.year d.month d.day (civil d))

-- the hours from one midnight to another are 24 for each day between them
pub hours_are : (d base : Date) (hours : ℤ) → pos 0 ≤ℤ d.year → IsYmd (pos 0) (pos 1) (pos 1) base → hours ≡ int_div ((epoch_day d -ℤ epoch_day base) *ℤ pos 86400000000000) (pos 3600000000000) → hours ≡ pos (day_count (plain_date d) * 24)
hours_are d base hours low is e =
    let days : epoch_day d -ℤ epoch_day base ≡ pos (day_count (plain_date d)) = omega (arith, signed_arith, days_from_civil-day_count, plain_count d low, zero_count base is) in
    e ∙ ap (λ z. int_div (z *ℤ pos 86400000000000) (pos 3600000000000)) days ∙ ap pos (omega arith)

-- and a 24th of them are the days
pub days_are : (hours : ℤ) (n : ℕ) → hours ≡ pos (n * 24) → n ≤ 3652424 → to_z w64 (of_z w64 (int_div (to_z w64 (of_z w64 hours)) (pos 24))) ≡ pos n
days_are hours n e few =
    ap (λ z. to_z w64 (of_z w64 (int_div (to_z w64 (of_z w64 z)) (pos 24)))) e
    ∙ ap (λ z. to_z w64 (of_z w64 (int_div z (pos 24)))) (back_small w64 (pos (n * 24)) (omega arith))
    ∙ ap (λ m. to_z w64 (of_z w64 (pos m))) (omega arith)
    ∙ back_small w64 (pos n) (omega arith)

-- `jiff` has the date exactly where the calendar has it
pub day_of_date-some : (year month day : ℕ) (d : Date) → IsYmd (pos year) (pos month) (pos day) d → day_of_date year month day ≡ Some (day_count (plain_date d))
unfolding day_of_date
day_of_date-some year month day d is =
    let same_month : d.month ≡ month = omega (arith, signed_arith, is.1) in
    let same_day : d.day ≡ day = omega (arith, signed_arith, is.2) in
    let low = rw (is.0, same_month, same_day) at d.day_in in
    rw (le-leb _ _ low.0, le-leb _ _ low.1, is.0, same_month, same_day) refl

pub day_of_date-none : (year month day : ℕ) → year ≤ 9999 → 1 ≤ month → month ≤ 12 → (IsJiffDate (pos year) (pos month) (pos day) → ⊥) → day_of_date year month day ≡ None
unfolding day_of_date
day_of_date-none year month day few from to lacks =
    elim (cases_lt day 1) [
      | inl low ↦ rw (lt-leb _ _ low) refl
      | inr some ↦ elim (cases_lt (days_in_month year month) day) [
        | inl high ↦ rw (le-leb _ _ some, lt-leb _ _ high) refl
        | inr fits ↦ absurd (lacks (omega (arith, signed_arith), omega (arith, signed_arith), omega (arith, signed_arith)))
      ]
    ]
