use Rattle.std.proofs.Common.{arith, ◌∙◌, ap, sym, w8, Some}
use Rattle.std.proofs.lemmas.Int.{to_z_pos}
use Rattle.qm_time.proofs.DateLemmas.{day_of_date-some, day_of_date-none}
use Rattle.qm_time.proofs.date.day_of_date.Goals as goal
use mir.Syntax.{w16}

pub returns-in-Ok-clause-value : goal.returns-in-Ok-clause-value
returns-in-Ok-clause-value c =
    let year = to_z_pos w16 c.args.year (omega (arith, c.requires.year)) in
    let month = to_z_pos w8 c.args.month (omega (arith, c.requires.month_to)) in
    let day = to_z_pos w8 c.args.day (omega (arith, c.requires.day)) in
    let is = rw (year, month, day) at c.in-Ok.ensures.value in
    ap Some c.days_since_year_0.ensures.value ∙ sym (day_of_date-some c.args.year c.args.month c.args.day c.in-Ok.date is)

pub returns-in-Err-clause-value : goal.returns-in-Err-clause-value
returns-in-Err-clause-value c =
    let year = to_z_pos w16 c.args.year (omega (arith, c.requires.year)) in
    let month = to_z_pos w8 c.args.month (omega (arith, c.requires.month_to)) in
    let day = to_z_pos w8 c.args.day (omega (arith, c.requires.day)) in
    let lacks = rw (year, month, day) at c.in-Err.ensures.succeeds in
    sym (day_of_date-none c.args.year c.args.month c.args.day c.requires.year c.requires.month_from c.requires.month_to (λ h. let false_is_true = lacks.1 h in cc))
