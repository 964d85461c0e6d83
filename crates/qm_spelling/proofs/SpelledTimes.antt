-- Times as quoted strings of a command.
use Rattle.std.proofs.Common.{◌≡◌, ◌≤◌, ◌+◌, ◌/◌, ◌%◌, ℕ, List, [], ◌∷◌, ◌++◌, codes, Some, Bool, true, false, not, ◌==◌, if◌then◌else◌, refl, sym, ◌∙◌, arith, append-nil, nat_lt}
use Rattle.std.proofs.lemmas.Bool.Decides.{nat_tests}
use Rattle.std.proofs.lemmas.List.Folds.{list_all-append}
use Rattle.qm_model.specs.Calendar.{CivilDate, date_of_day}
use Rattle.qm_model.specs.MomentText.{two_digits, four_digits, right_in_two, month_letters, date_text, clock_text, moment_text, without_blank}
use Rattle.qm_dcl.specs.Values.{moment_said}
use Rattle.qm_sayable.specs.Times.{time_text}
use Rattle.qm_spelling.proofs.SpelledPieces.{IsInside}
use Rattle.qm_spelling.proofs.SpelledTails.{in_quotes, value_text}
use Rattle.qm_spelling.proofs.SpelledTruth.{and_right}

-- what stands between the quotes
abbrev pub inside : ℕ → List ℕ
inside moment = without_blank (moment_text moment)

-- times are read as the moments that they are spelled of, whatever the present one is
abbrev pub TimesRead : Type 0
TimesRead = (moment now : ℕ) → moment ≤ 25690901759999 → moment_said now (inside moment) ≡ Some moment

pub time_is : (moment : ℕ) → time_text moment ≡ value_text (in_quotes (inside moment))
time_is moment = sym (append-nil (34 ∷ inside moment ++ 34 ∷ []))

-- ---- no quote stands in it

both : (xs ys : List ℕ) → IsInside xs → IsInside ys → IsInside (xs ++ ys)
both xs ys of_x of_y = list_all-append (λ b. not (b == 34)) xs ys ∙ rw (of_x, of_y) refl

if_either : (b : Bool) (xs ys : List ℕ) → IsInside xs → IsInside ys → IsInside (if b then xs else ys)
if_either true xs ys of_x of_y = of_x
if_either false xs ys of_x of_y = of_y

no_quote : (n : ℕ) → not (48 + n == 34) ≡ true
no_quote n = grind (arith, nat_tests)

two_inside : (n : ℕ) → IsInside (two_digits n)
two_inside n = rw (no_quote (n / 10), no_quote (n % 10)) refl

four_inside : (n : ℕ) → IsInside (four_digits n)
four_inside n = both (two_digits (n / 100)) (two_digits (n % 100)) (two_inside (n / 100)) (two_inside (n % 100))

first_right : (b : Bool) (n : ℕ) → not ((if b then 32 else 48 + n) == 34) ≡ true
first_right true n = refl
first_right false n = no_quote n

right_inside : (n : ℕ) → IsInside (right_in_two n)
right_inside n = rw (first_right (nat_lt n 10) (n / 10), no_quote (n % 10)) refl

month_inside : (m : ℕ) → IsInside (month_letters m)
unfolding month_letters
month_inside m =
    if_either (m == 1) _ _ refl (if_either (m == 2) _ _ refl (if_either (m == 3) _ _ refl (if_either (m == 4) _ _ refl (if_either (m == 5) _ _ refl (if_either (m == 6) _ _ refl
    (if_either (m == 7) _ _ refl (if_either (m == 8) _ _ refl (if_either (m == 9) _ _ refl (if_either (m == 10) _ _ refl (if_either (m == 11) _ _ refl refl))))))))))

date_inside : (date : CivilDate) → IsInside (date_text date)
date_inside date =
    both (right_in_two date.day ++ codes "-" ++ month_letters date.month ++ codes "-") (four_digits date.year)
    (both (right_in_two date.day ++ codes "-" ++ month_letters date.month) (codes "-")
    (both (right_in_two date.day ++ codes "-") (month_letters date.month) (both (right_in_two date.day) (codes "-") (right_inside date.day) refl) (month_inside date.month)) refl)
    (four_inside date.year)

clock_inside : (n : ℕ) → IsInside (clock_text n)
clock_inside n =
    let a = two_digits (n / 360000) in let b = two_digits (n / 6000 % 60) in let d = two_digits (n / 100 % 60) in let e = two_digits (n % 100) in
    both (a ++ codes ":" ++ b ++ codes ":" ++ d ++ codes ".") e
    (both (a ++ codes ":" ++ b ++ codes ":" ++ d) (codes ".")
    (both (a ++ codes ":" ++ b ++ codes ":") d
    (both (a ++ codes ":" ++ b) (codes ":") (both (a ++ codes ":") b (both a (codes ":") (two_inside (n / 360000)) refl) (two_inside (n / 6000 % 60))) refl)
    (two_inside (n / 100 % 60))) refl)
    (two_inside (n % 100))

moment_inside : (moment : ℕ) → IsInside (moment_text moment)
unfolding moment_text
moment_inside moment =
    both (date_text (date_of_day (moment / 8640000)) ++ codes " ") (clock_text (moment % 8640000))
    (both (date_text (date_of_day (moment / 8640000))) (codes " ") (date_inside (date_of_day (moment / 8640000))) refl)
    (clock_inside (moment % 8640000))

rest_inside : (text : List ℕ) → IsInside text → IsInside (without_blank text)
rest_inside [] h = refl
rest_inside (b ∷ bs) h = if_either (b == 32) bs (b ∷ bs) (and_right (not (b == 34)) _ h) h

pub time_inside : (moment : ℕ) → IsInside (inside moment)
time_inside moment = rest_inside (moment_text moment) (moment_inside moment)
