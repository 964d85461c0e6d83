use Rattle.std.proofs.Common.{arith, ◌≡◌, ◌∙◌, ◌/◌, pos, ap, refl, w8}
use Rattle.qm_model.specs.Calendar.{date_of_day}
use Rattle.qm_model.specs.MomentText.{four_digits, right_in_two, month_letters}
use Rattle.qm_time.proofs.CalendarLemmas.{date_of_day-found, days_in_month-few}
use Rattle.qm_time.proofs.TextLemmas.{plain, spelled, spelled_is_ascii}
use Rattle.qm_time.proofs.text.text_of.Goals as goal
use mir.Syntax.{w16}

pub invariant_of-result : goal.invariant_of-result
invariant_of-result c =
    (refl, spelled_is_ascii c.right_in_two.result c.month_letters.result c.four_digits.result c.two_digits.result c.two_digits-2.result c.two_digits-3.result c.two_digits-4.result c.right_in_two.ensures.ascii c.month_letters.ensures.ascii c.four_digits.ensures.ascii c.two_digits.ensures.ascii c.two_digits-2.ensures.ascii c.two_digits-3.ensures.ascii c.two_digits-4.ensures.ascii)

pub returns : goal.returns
returns c =
    let moment = c.args.moment in
    let same : c.hundredths.result ≡ moment = c.hundredths.ensures.value in
    let again : c.hundredths-2.result ≡ moment = c.hundredths-2.ensures.value in
    let is = rw same at c.date_of_day-date.ensures in
    let found = date_of_day-found (moment / 8640000) (omega (arith, c.hundredths.ensures.within)) in
    let few = days_in_month-few (date_of_day (moment / 8640000)).year (date_of_day (moment / 8640000)).month in
    spelled moment _ _ _ _ _ _ _
    (c.right_in_two.ensures.text ∙ ap right_in_two (plain w8 _ _ (c.day.ensures ∙ ap pos is.day) (omega (arith, found.lawful.day_to))))
    (c.month_letters.ensures.text ∙ ap month_letters (plain w8 _ _ (c.month.ensures ∙ ap pos is.month) (omega (arith, found.lawful.month_to))))
    (c.four_digits.ensures.text ∙ ap four_digits (plain w16 _ _ (c.year.ensures ∙ is.year) (omega (arith, found.to_year))))
    (rw again at c.two_digits.ensures.text)
    (rw again at c.two_digits-2.ensures.text)
    (rw again at c.two_digits-3.ensures.text)
    (rw again at c.two_digits-4.ensures.text)
