-- Clock times and deltas as they stand in a text, in hundredths of a second.
use Rattle.std.specs.Prelude.{ℕ, ◌+◌, ◌*◌, ◌&&◌, nat_le, if◌then◌else◌, List, Result, Ok, Err}
use Rattle.qm_time.specs.declared.fault.TimeFault.{TimeFault}
use Rattle.qm_time.specs.declared.fault.TimeFault.TheVariants.{Form}
use Rattle.qm_time.specs.declared.number.Number.{Number}
use Rattle.qm_time.specs.Numbers.{and_then, stands, number_at, long_number_at, two_digits_at}

-- behind hh:mm:ss, in seconds: .cc or nothing
unfoldable pub hundredths_at : List ℕ → Number → Result Number TimeFault
hundredths_at text seconds =
    if stands text seconds.end 46
    then and_then (two_digits_at text (seconds.end + 1)) (λ cc. Ok (record { value = seconds.value * 100 + cc.value; end = cc.end }))
    else Ok (record { value = seconds.value * 100; end = seconds.end })

-- behind hh:mm, in minutes: :ss and what follows it, or nothing
unfoldable pub seconds_at : List ℕ → Number → Result Number TimeFault
seconds_at text minutes =
    if stands text minutes.end 58
    then and_then (number_at 59 text (minutes.end + 1)) (λ ss. hundredths_at text (record { value = minutes.value * 60 + ss.value; end = ss.end }))
    else Ok (record { value = minutes.value * 6000; end = minutes.end })

-- behind hh: a colon, mm and what follows it
unfoldable pub minutes_at : List ℕ → Number → Result Number TimeFault
minutes_at text hours =
    if stands text hours.end 58
    then and_then (number_at 59 text (hours.end + 1)) (λ mm. seconds_at text (record { value = hours.value * 60 + mm.value; end = mm.end }))
    else Err (Form hours.end)

-- a clock time, as hh:mm, hh:mm:ss or hh:mm:ss.cc
unfoldable pub clock_at : List ℕ → ℕ → Result Number TimeFault
clock_at text place = and_then (number_at 23 text place) (minutes_at text)

-- the first number of a delta: days before a - and a clock time, or the hours of a clock time
unfoldable pub delta_behind : List ℕ → ℕ → Number → Result Number TimeFault
delta_behind text place n =
    if stands text n.end 45
    then and_then (clock_at text (n.end + 1)) (λ clock. Ok (record { value = n.value * 8640000 + clock.value; end = clock.end }))
    else if nat_le n.end (place + 2) && nat_le n.value 23 then minutes_at text n
    else Err (Form n.end)

-- a delta: a clock time, or one to four digits, a - and a clock time
unfoldable pub delta_at : List ℕ → ℕ → Result Number TimeFault
delta_at text place = and_then (long_number_at text place) (delta_behind text place)
