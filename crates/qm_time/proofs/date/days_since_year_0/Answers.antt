use Rattle.std.proofs.Common.{arith, ◌∙◌, ◌≡◌, ap, pos, refl, w64, to_z, of_z, int_div}
use Rattle.qm_model.specs.Calendar.{day_count}
use Rattle.qm_time.proofs.DateLemmas.{plain_date, few_days, hours_are, days_are}
use Rattle.qm_time.proofs.date.days_since_year_0.Goals as goal

-- the answer, as a signed number
answer : (c : goal.After-as_hours-hours) → to_z w64 (of_z w64 (int_div (to_z w64 (of_z w64 c.as_hours-hours.result)) (pos 24))) ≡ pos (day_count (plain_date c.args.of))
answer c =
    days_are c.as_hours-hours.result (day_count (plain_date c.args.of))
    (hours_are c.args.of c.date.result c.as_hours-hours.result c.requires c.date.ensures (c.as_hours-hours.ensures ∙ ap (λ z. int_div z (pos 3600000000000)) c.duration_since.ensures))
    (few_days c.args.of c.requires)

pub overflow_cast-result : goal.overflow_cast-result
overflow_cast-result c = rw (answer c) (tt, omega (arith, few_days c.args.of c.requires))

pub returns-clause-value : goal.returns-clause-value
returns-clause-value c = rw (answer c) refl

pub returns-clause-low : goal.returns-clause-low
returns-clause-low c = rw (answer c) (few_days c.args.of c.requires)
