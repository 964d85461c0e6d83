use Rattle.std.proofs.Common.{arith, ◌∙◌, ◌≡◌, ◌+◌, ◌-◌, ap, sym, Some, refl}
use Rattle.qm_model.specs.MomentText.{month_letters}
use Rattle.qm_time.specs.Months.{shared, found_month, month_in_front}
use Rattle.qm_time.proofs.MonthLemmas.{month_in_front-some, month_in_front-stays}
use Rattle.qm_time.proofs.month.month_in_front.Goals as goal

pub returns-then-same-eq3-clause-value : goal.returns-then-same-eq3-clause-value
unfolding found_month
returns-then-same-eq3-clause-value c =
    let same : shared (month_letters c.loop-month.month) c.args.text.now ≡ 3 = ap (λ m. shared m c.args.text.now) (sym c.month_letters.ensures.text) ∙ sym c.shared-same.ensures.value ∙ c.if-same-eq3.true in
    let here = month_in_front-some c.loop-month.month c.args.text.now c.loop-month.auto.month c.loop-month.invariant.none same in
    let all : 12 - c.loop-month.month + c.loop-month.month ≡ 12 = omega (arith, c.loop-month-test.true) in
    let found : month_in_front 12 c.args.text.now ≡ Some c.loop-month.month = rw all at (month_in_front-stays (12 - c.loop-month.month) c.loop-month.month c.loop-month.month c.args.text.now here) in
    rw found refl
