-- The moments that times name.
use Rattle.std.specs.Prelude.{ℕ, ◌+◌, ◌-◌, ◌*◌, ◌/◌, ◌&&◌, ◌||◌, nat_le, nat_lt, if◌then◌else◌, List, Option, None, Some, Result, Ok, Err, option_and_then, option_map}
use Rattle.qm_time.specs.declared.fault.TimeFault.{TimeFault}
use Rattle.qm_time.specs.declared.fault.TimeFault.TheVariants.{Range}
use Rattle.qm_time.specs.declared.time.Base.{Base}
use Rattle.qm_time.specs.declared.time.Base.TheVariants.{Now, Today, Tomorrow, Date}
use Rattle.qm_time.specs.declared.time.Time.{Time}
use Rattle.qm_model.specs.Calendar.{days_in_month, day_count}
use Rattle.qm_time.specs.Numbers.{and_then}
use Rattle.qm_time.specs.Times.{time_at}

-- the days from the first of January of the year 0 to a date, if the calendar has it
unfoldable pub day_of_date : ℕ → ℕ → ℕ → Option ℕ
day_of_date year month day =
    if nat_le 1 day && nat_le day (days_in_month year month)
    then Some (day_count (record { year = year; month = month; day = day }))
    else None

-- the hundredths of a second from the first of January of the year 0 to the base of the system time
abbrev pub base_of_time : ℕ
base_of_time = 678941 * 8640000

-- where a time counts from, in hundredths of a second from the first of January of the year 0
unfoldable pub start_of : ℕ → Base → Option ℕ
start_of now Now = Some (now + base_of_time)
start_of now Today = Some (now / 8640000 * 8640000 + base_of_time)
start_of now Tomorrow = Some ((now / 8640000 + 1) * 8640000 + base_of_time)
start_of now (Date year month day) = option_map (λ days. days * 8640000) (day_of_date year month day)

-- a moment less a delta, if it lies from the base of the system time to the end of 31-DEC-9999
unfoldable pub within_limits : ℕ → ℕ → Option ℕ
within_limits from minus =
    if nat_lt from (minus + base_of_time) || nat_lt 25690901759999 (from - (minus + base_of_time))
    then None
    else Some (from - (minus + base_of_time))

-- the moment that a time names
unfoldable pub moment_of : ℕ → Time → Option ℕ
moment_of now time =
    option_and_then (λ start. within_limits (start + time.clock + time.plus) time.minus) (start_of now time.base)

-- a moment, where there is one
abbrev pub or_range : Option ℕ → Result ℕ TimeFault
or_range None = Err Range
or_range (Some moment) = Ok moment

-- the moment that a text names at a moment
unfoldable pub moment_at : List ℕ → ℕ → Result ℕ TimeFault
moment_at text now = and_then (time_at text) (λ time. or_range (moment_of now time))
