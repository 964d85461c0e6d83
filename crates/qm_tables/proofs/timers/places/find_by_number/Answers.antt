use Rattle.std.proofs.Common.{◌≡◌, ℕ, ◌<◌, length, get_or, arith}
use Rattle.std.proofs.lemmas.Grind.{common_steps}
use Rattle.qm_tables.proofs.TimerNumbers.{found_at, absent_at}
use Rattle.qm_tables.proofs.timers.places.find_by_number.Goals as goal
use Rattle.qm_tables.proofs.timers.places.find_by_number.Goals.{else-place-timers-via-then-place-timers+else-timers-place, else-place-timers-via-else-place-timers}

-- the timer at the place has the number
pub returns-then-timers-place : goal.returns-then-timers-place
returns-then-timers-place c =
    let within : c.place_by_number-place.result < length c.args.timers.now = omega arith in
    let number : (d : ℕ × ℕ) → (get_or c.args.timers.now c.place_by_number-place.result d).1 ≡ c.args.number = λ d. grind (arith, common_steps) in
    record { within = within; has = λ t. found_at c.args.timers.now c.place_by_number-place.result t c.args.number c.place_by_number-place.ensures within (number t) }

-- none stands there, or one of another number
pub returns-else-place-timers : goal.returns-else-place-timers
returns-else-place-timers c =
    absent_at c.args.timers.now c.place_by_number-place.result (0, 0) c.args.number c.requires c.place_by_number-place.ensures (λ within. elim c.else-place-timers.branch [
      | else-place-timers-via-then-place-timers+else-timers-place w ↦ grind (arith, common_steps)
      | else-place-timers-via-else-place-timers w ↦ absurd (omega arith)
    ])
