-- What is printed of a moment reads back.
use Rattle.std.proofs.Common.{◌≡◌, ℕ, zero, suc, ◌+◌, ◌-◌, ◌*◌, ◌/◌, ◌%◌, ◌<◌, ◌≤◌, inl, inr, true, false, List, [], ◌∷◌, ◌++◌, drop, Some, Ok, refl, ap, ◌∙◌, arith, is_none, slice_index}
use Rattle.std.proofs.lemmas.Bool.{le-leb, ne_eqb, lt-ltb, le-ltb, cases_lt}
use Rattle.qm_time.specs.declared.number.Number.{Number}
use Rattle.qm_time.specs.declared.time.Base.TheVariants.{Date}
use Rattle.qm_model.specs.Calendar.{date_of_day}
use Rattle.qm_time.specs.Numbers.{stands, ends, digit_at, number_at}
use Rattle.qm_time.specs.Clocks.{clock_at, minutes_at, seconds_at, hundredths_at}
use Rattle.qm_time.specs.Months.{shared, month_in_front, found_month, month_at, month_from}
use Rattle.qm_time.specs.Times.{clocked_at, year_at, numbered_at, absolute_at, changed_at, time_at}
use Rattle.qm_time.specs.Moments.{day_of_date, start_of, within_limits, moment_of, moment_at}
use Rattle.qm_model.specs.MomentText.{digit, two_digits, four_digits, month_letters, clock_text, moment_text, without_blank}
use Rattle.qm_time.proofs.CalendarLemmas.{date_of_day-found, days_in_month-few}
use Rattle.qm_time.proofs.TextLemmas.{month_letters-three}
use Rattle.qm_time.proofs.ReadingLemmas.{at_end, next, next2, digit-there, stands-there, stands-other, number-one, number-two, two_digits-there, four_digits-there}

abbrev number : ℕ → ℕ → Number
number value end = record { value = value; end = end }

abbrev record_of : ℕ → ℕ → ℕ → Number
record_of seconds hundredths end = number (seconds * 100 + hundredths) end

clock_end : (place c : ℕ) → c < 8640000 → record_of ((c / 360000 * 60 + c / 6000 % 60) * 60 + c / 100 % 60) (c % 100) (place + 2 + 1 + 2 + 1 + 2 + 1 + 2) ≡ number c (place + 11)
clock_end place c low =
    let value : ((c / 360000 * 60 + c / 6000 % 60) * 60 + c / 100 % 60) * 100 + c % 100 ≡ c = omega arith in
    let end : place + 2 + 1 + 2 + 1 + 2 + 1 + 2 ≡ place + 11 = omega arith in
    rw (value, end) refl

-- a printed clock time
clock-there : (text : List ℕ) (place c : ℕ) → c < 8640000 → drop place text ≡ clock_text c → clock_at text place ≡ Ok (number c (place + 11))
unfolding clock_at minutes_at seconds_at hundredths_at
clock-there text place c low e =
    let colon = next2 text place _ _ _ e in
    let minute = next text (place + 2) _ _ colon in
    let colon_2 = next2 text (place + 2 + 1) _ _ _ minute in
    let second = next text (place + 2 + 1 + 2) _ _ colon_2 in
    let point = next2 text (place + 2 + 1 + 2 + 1) _ _ _ second in
    let hundredth = next text (place + 2 + 1 + 2 + 1 + 2) _ _ point in
    rw (
      number-two 23 text place (c / 360000) _ (omega arith) (omega arith) e,
      stands-there text (place + 2) 58 _ colon,
      number-two 59 text (place + 2 + 1) (c / 6000 % 60) _ (omega arith) (omega arith) minute,
      stands-there text (place + 2 + 1 + 2) 58 _ colon_2,
      number-two 59 text (place + 2 + 1 + 2 + 1) (c / 100 % 60) _ (omega arith) (omega arith) second,
      stands-there text (place + 2 + 1 + 2 + 1 + 2) 46 _ point,
      two_digits-there text (place + 2 + 1 + 2 + 1 + 2 + 1) (c % 100) [] (omega arith) hundredth,
    )
    (ap (λ n. Ok n) (clock_end place c low))

-- the letters of a month stand in front
found-letters : (month : ℕ) (rest : List ℕ) → 1 ≤ month → month ≤ 12 → found_month (month_letters month ++ rest) ≡ Ok month
unfolding found_month month_in_front shared month_letters
found-letters zero rest from to = absurd (omega arith)
found-letters (suc zero) rest from to = refl
found-letters (suc (suc zero)) rest from to = refl
found-letters (suc (suc (suc zero))) rest from to = refl
found-letters (suc (suc (suc (suc zero)))) rest from to = refl
found-letters (suc (suc (suc (suc (suc zero))))) rest from to = refl
found-letters (suc (suc (suc (suc (suc (suc zero)))))) rest from to = refl
found-letters (suc (suc (suc (suc (suc (suc (suc zero))))))) rest from to = refl
found-letters (suc (suc (suc (suc (suc (suc (suc (suc zero)))))))) rest from to = refl
found-letters (suc (suc (suc (suc (suc (suc (suc (suc (suc zero))))))))) rest from to = refl
found-letters (suc (suc (suc (suc (suc (suc (suc (suc (suc (suc zero)))))))))) rest from to = refl
found-letters (suc (suc (suc (suc (suc (suc (suc (suc (suc (suc (suc zero))))))))))) rest from to = refl
found-letters (suc (suc (suc (suc (suc (suc (suc (suc (suc (suc (suc (suc zero)))))))))))) rest from to = refl
found-letters (suc (suc (suc (suc (suc (suc (suc (suc (suc (suc (suc (suc (suc month))))))))))))) rest from to = absurd (omega arith)

month-there : (text : List ℕ) (place month : ℕ) (rest : List ℕ) → 1 ≤ month → month ≤ 12 → drop place text ≡ month_letters month ++ rest → month_at text place ≡ Ok (number month (place + 3))
unfolding month_at
month-there text place month rest from to e =
    ap (λ front. month_from place (found_month front)) e ∙ ap (month_from place) (found-letters month rest from to)

-- and behind them what follows
month-next : (text : List ℕ) (place month : ℕ) (rest : List ℕ) → drop place text ≡ month_letters month ++ rest → drop (place + 3) text ≡ rest
month-next text place month rest e =
    let three : drop place text ≡ slice_index (month_letters month) 0 ∷ slice_index (month_letters month) 1 ∷ slice_index (month_letters month) 2 ∷ rest = e ∙ ap (λ letters. letters ++ rest) (month_letters-three month) in
    let end : place + 2 + 1 ≡ place + 3 = omega arith in
    rw end at (next text (place + 2) _ _ (next2 text place _ _ _ three))

-- what is printed behind the day of a date
abbrev behind_day : ℕ → ℕ → ℕ → List ℕ
behind_day month year c = 45 ∷ (month_letters month ++ (45 ∷ (four_digits year ++ (32 ∷ clock_text c))))

after_clock : (text : List ℕ) (place a b c d e f g h i j k : ℕ) → drop place text ≡ a ∷ b ∷ c ∷ d ∷ e ∷ f ∷ g ∷ h ∷ i ∷ j ∷ k ∷ [] → ends text (place + 11) ≡ true
unfolding ends
after_clock text place a b c d e f g h i j k is =
    let behind = next2 text (place + 2 + 2 + 2 + 2) _ _ _ (next2 text (place + 2 + 2 + 2) _ _ _ (next2 text (place + 2 + 2) _ _ _ (next2 text (place + 2) _ _ _ (next2 text place _ _ _ is)))) in
    let end : place + 2 + 2 + 2 + 2 + 2 + 1 ≡ place + 11 = omega arith in
    ap is_none (at_end text (place + 11) (rw end at (next text (place + 2 + 2 + 2 + 2 + 2) _ _ behind)))

-- a printed date and its clock time
dated-there : (text : List ℕ) (k first day month year c : ℕ)
    → 1 ≤ month → month ≤ 12 → year ≤ 9999 → c < 8640000
    → first ≤ 9 → digit_at text 0 ≡ Some first → stands text 0 43 ≡ false → stands text 0 45 ≡ false
    → number_at 99 text 0 ≡ Ok (number day k)
    → drop k text ≡ behind_day month year c
    → time_at text ≡ Ok (record { base = Date year month day; clock = c; plus = 0; minus = 0 })
unfolding time_at absolute_at numbered_at year_at clocked_at changed_at
dated-there text k first day month year c from to few low nine digit no_plus no_minus read e =
    let letters = next text k _ _ e in
    let minus = month-next text (k + 1) month _ letters in
    let years = next text (k + 1 + 3) _ _ minus in
    let blank = next2 text (k + 1 + 3 + 1 + 2) _ _ _ (next2 text (k + 1 + 3 + 1) _ _ _ years) in
    let four : k + 1 + 3 + 1 + 2 + 2 ≡ k + 1 + 3 + 1 + 4 = omega arith in
    let space = rw four at blank in
    let clock = next text (k + 1 + 3 + 1 + 4) _ _ space in
    let whole = after_clock text (k + 1 + 3 + 1 + 4 + 1) _ _ _ _ _ _ _ _ _ _ _ clock in
    rw (
      no_plus,
      no_minus,
      digit,
      read,
      stands-there text k 45 _ e,
      month-there text (k + 1) month _ from to letters,
      stands-there text (k + 1 + 3) 45 _ minus,
      four_digits-there text (k + 1 + 3 + 1) year _ few years,
      stands-there text (k + 1 + 3 + 1 + 4) 32 _ space,
      clock-there text (k + 1 + 3 + 1 + 4 + 1) c low clock,
      whole,
    )
    refl

-- the moment of a printed date and clock time
moment-there : (moment now : ℕ) → moment ≤ 25690901759999 → moment_of now (record { base = Date (date_of_day (moment / 8640000)).year (date_of_day (moment / 8640000)).month (date_of_day (moment / 8640000)).day; clock = moment % 8640000; plus = 0; minus = 0 }) ≡ Some moment
unfolding moment_of start_of day_of_date within_limits
moment-there moment now low =
    let found = date_of_day-found (moment / 8640000) (omega (arith, low)) in
    let from : (moment / 8640000 + 678941) * 8640000 + moment % 8640000 + 0 ≡ moment + 5866050240000 = omega arith in
    let back : moment + 5866050240000 - 5866050240000 ≡ moment = omega arith in
    rw (le-leb _ _ found.lawful.day_from, le-leb _ _ found.lawful.day_to, found.count_is, from, le-ltb (moment + 5866050240000) 5866050240000 (omega arith), back, le-ltb 25690901759999 moment low) refl

-- a printed text, with its day in one digit or in two
printed-one : (moment : ℕ) → (date_of_day (moment / 8640000)).day < 10 → without_blank (moment_text moment) ≡ digit (date_of_day (moment / 8640000)).day ∷ behind_day (date_of_day (moment / 8640000)).month (date_of_day (moment / 8640000)).year (moment % 8640000)
unfolding moment_text
printed-one moment low =
    let ones : (date_of_day (moment / 8640000)).day % 10 ≡ (date_of_day (moment / 8640000)).day = omega (arith, low) in
    rw (month_letters-three (date_of_day (moment / 8640000)).month, lt-ltb _ _ low, ones) refl

printed-two : (moment : ℕ) → 10 ≤ (date_of_day (moment / 8640000)).day → without_blank (moment_text moment) ≡ two_digits (date_of_day (moment / 8640000)).day ++ behind_day (date_of_day (moment / 8640000)).month (date_of_day (moment / 8640000)).year (moment % 8640000)
unfolding moment_text
printed-two moment high =
    rw (month_letters-three (date_of_day (moment / 8640000)).month, le-ltb _ _ high, ne_eqb (digit ((date_of_day (moment / 8640000)).day / 10)) 32 (λ e. absurd (omega (arith, e)))) refl

reads_as : (text : List ℕ) (moment now : ℕ) → moment ≤ 25690901759999 → time_at text ≡ Ok (record { base = Date (date_of_day (moment / 8640000)).year (date_of_day (moment / 8640000)).month (date_of_day (moment / 8640000)).day; clock = moment % 8640000; plus = 0; minus = 0 }) → moment_at text now ≡ Ok moment
unfolding moment_at
reads_as text moment now low e = rw (e, moment-there moment now low) refl

pub read-printed : (moment now : ℕ) → moment ≤ 25690901759999 → moment_at (without_blank (moment_text moment)) now ≡ Ok moment
read-printed moment now low =
    let date = date_of_day (moment / 8640000) in
    let found = date_of_day-found (moment / 8640000) (omega (arith, low)) in
    let few = days_in_month-few date.year date.month in
    elim (cases_lt date.day 10) [
      | inl one ↦
          let text = digit date.day ∷ behind_day date.month date.year (moment % 8640000) in
          rw (printed-one moment one) (reads_as text moment now low
          (dated-there text 1 date.day date.day date.month date.year (moment % 8640000) found.lawful.month_from found.lawful.month_to found.to_year (omega arith) (omega (arith, one))
          (digit-there text 0 date.day _ (omega (arith, one)) refl) (stands-other text 0 _ 43 _ (ne_eqb _ _ (λ e. absurd (omega (arith, e)))) refl) (stands-other text 0 _ 45 _ (ne_eqb _ _ (λ e. absurd (omega (arith, e)))) refl)
          (number-one 99 text 0 date.day 45 _ (omega (arith, one)) refl refl) refl))
      | inr two ↦
          let text = two_digits date.day ++ behind_day date.month date.year (moment % 8640000) in
          rw (printed-two moment two) (reads_as text moment now low
          (dated-there text 2 (date.day / 10) date.day date.month date.year (moment % 8640000) found.lawful.month_from found.lawful.month_to found.to_year (omega arith) (omega (arith, found.lawful.day_to, few))
          (digit-there text 0 (date.day / 10) _ (omega (arith, found.lawful.day_to, few)) refl) (stands-other text 0 _ 43 _ (ne_eqb _ _ (λ e. absurd (omega (arith, e)))) refl) (stands-other text 0 _ 45 _ (ne_eqb _ _ (λ e. absurd (omega (arith, e)))) refl)
          (number-two 99 text 0 date.day _ (omega (arith, found.lawful.day_to, few)) (omega (arith, found.lawful.day_to, few)) refl) refl))
    ]
