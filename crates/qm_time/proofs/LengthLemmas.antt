-- No time has more than 40 bytes: a date, a blank, a clock time, a sign and a delta.
use Rattle.std.proofs.Common.{◌≡◌, ℕ, zero, suc, ◌+◌, ◌*◌, ◌≤◌, ◌<◌, Bool, true, false, cond, List, [], ◌∷◌, length, drop, Option, None, Some, Ok, Err, IfOk, refl, arith, slice_get, is_none, is_some, Result, codes, ◌==◌, ◌||◌, ◌&&◌, nat_le}
use Rattle.std.specs.Result.{result_ok}
use Rattle.qm_time.specs.declared.number.Number.{Number}
use Rattle.qm_time.specs.declared.fault.TimeFault.{TimeFault}
use Rattle.qm_time.specs.declared.fault.TimeFault.TheVariants.{Form}
use Rattle.qm_time.specs.declared.time.Absolute.{Absolute}
use Rattle.qm_time.specs.declared.time.Base.TheVariants.{Now, Today, Tomorrow, Date}
use Rattle.qm_time.specs.Numbers.{and_then, stands, ends, digit_at, first_of, one_digit_at, longer, with_digit, number_at, long_number_at, next_digit, two_digits_at, four_digits_at}
use Rattle.qm_time.specs.Clocks.{hundredths_at, seconds_at, minutes_at, clock_at, delta_behind, delta_at}
use Rattle.qm_time.specs.Months.{shared, month_from, found_month, month_at}
use Rattle.qm_time.specs.Times.{day_word_at, clocked_at, year_at, numbered_at, absolute_at, last_delta_at, changed_at, time_at}
use Rattle.qm_time.specs.Moments.{moment_of, or_range, moment_at}

-- one reader behind another, and one of two
after : {A B : Type 0} (P : A → Type 0) (Q : B → Type 0) (r : Result A TimeFault) (next : A → Result B TimeFault) → IfOk r P → ((a : A) → P a → IfOk (next a) Q) → IfOk (and_then r next) Q
after P Q (Ok a) next p q = q a p
after P Q (Err f) next p q = tt

either : {A : Type 0} (P : A → Type 0) (b : Bool) (x y : Result A TimeFault) → IfOk x P → IfOk y P → IfOk (cond b x y) P
either P true x y p q = p
either P false x y p q = q

weaker : {A : Type 0} (P Q : A → Type 0) (r : Result A TimeFault) → ((a : A) → P a → Q a) → IfOk r P → IfOk r Q
weaker P Q (Ok a) less p = less a p
weaker P Q (Err f) less p = tt

-- a number that ends at a place or in front of it
abbrev By : ℕ → Number → Type 0
By most n = n.end ≤ most

abbrev AbsoluteBy : ℕ → Absolute → Type 0
AbsoluteBy most a = a.end ≤ most

sooner : (less more : ℕ) (r : Result Number TimeFault) → less ≤ more → IfOk r (By less) → IfOk r (By more)
sooner less more r low p = weaker (By less) (By more) r (λ n low_n. omega arith) p

sooner_absolute : (less more : ℕ) (r : Result Absolute TimeFault) → less ≤ more → IfOk r (AbsoluteBy less) → IfOk r (AbsoluteBy more)
sooner_absolute less more r low p = weaker (AbsoluteBy less) (AbsoluteBy more) r (λ n low_n. omega arith) p

-- ---- numbers

first : (o : Option ℕ) (place : ℕ) → IfOk (first_of o place) (By (place + 1))
first None place = tt
first (Some d) place = omega arith

one_digit : (text : List ℕ) (place : ℕ) → IfOk (one_digit_at text place) (By (place + 1))
unfolding one_digit_at
one_digit text place = first (digit_at text place) place

longer_by : (most : ℕ) (o : Option ℕ) (n : Number) → (longer most o n).end ≤ n.end + 1
longer_by most None n = omega arith
longer_by most (Some d) n = by_test (nat_le (10 * n.value + d) most) where
  by_test : (b : Bool) → (cond b (record { value = 10 * n.value + d; end = n.end + 1 }) n).end ≤ n.end + 1
  by_test true = omega arith
  by_test false = omega arith

digit_by : (most : ℕ) (text : List ℕ) (n : Number) → (with_digit most text n).end ≤ n.end + 1
unfolding with_digit
digit_by most text n = longer_by most (digit_at text n.end) n

number : (most : ℕ) (text : List ℕ) (place : ℕ) → IfOk (number_at most text place) (By (place + 2))
unfolding number_at
number most text place =
    after (By (place + 1)) (By (place + 2)) (one_digit_at text place) (λ n. Ok (with_digit most text n)) (one_digit text place)
    (λ n low. omega (arith, digit_by most text n))

long_number : (text : List ℕ) (place : ℕ) → IfOk (long_number_at text place) (By (place + 4))
unfolding long_number_at
long_number text place =
    after (By (place + 1)) (By (place + 4)) (one_digit_at text place) (λ n. Ok (with_digit 9999 text (with_digit 9999 text (with_digit 9999 text n)))) (one_digit text place)
    (λ n low. omega (arith, digit_by 9999 text n, digit_by 9999 text (with_digit 9999 text n), digit_by 9999 text (with_digit 9999 text (with_digit 9999 text n))))

one_more : (text : List ℕ) (n : Number) → IfOk (next_digit text n) (By (n.end + 1))
unfolding next_digit
one_more text n =
    after (By (n.end + 1)) (By (n.end + 1)) (one_digit_at text n.end) (λ d. Ok (record { value = 10 * n.value + d.value; end = d.end })) (one_digit text n.end)
    (λ d low. low)

two_digits : (text : List ℕ) (place : ℕ) → IfOk (two_digits_at text place) (By (place + 2))
unfolding two_digits_at
two_digits text place =
    after (By (place + 1)) (By (place + 2)) (one_digit_at text place) (next_digit text) (one_digit text place)
    (λ n low. sooner (n.end + 1) (place + 2) (next_digit text n) (omega arith) (one_more text n))

four_digits : (text : List ℕ) (place : ℕ) → IfOk (four_digits_at text place) (By (place + 4))
unfolding four_digits_at
four_digits text place =
    after (By (place + 2)) (By (place + 4)) (two_digits_at text place) (λ n. and_then (next_digit text n) (next_digit text)) (two_digits text place)
    (λ n low. after (By (n.end + 1)) (By (place + 4)) (next_digit text n) (next_digit text) (one_more text n)
    (λ m low_m. sooner (m.end + 1) (place + 4) (next_digit text m) (omega arith) (one_more text m)))

-- ---- clock times and deltas

hundredths : (text : List ℕ) (seconds : Number) → IfOk (hundredths_at text seconds) (By (seconds.end + 3))
unfolding hundredths_at
hundredths text seconds =
    either (By (seconds.end + 3)) (stands text seconds.end 46) _ _
    (after (By (seconds.end + 1 + 2)) (By (seconds.end + 3)) (two_digits_at text (seconds.end + 1)) _ (two_digits text (seconds.end + 1)) (λ n low. omega arith))
    (omega arith)

seconds : (text : List ℕ) (minutes : Number) → IfOk (seconds_at text minutes) (By (minutes.end + 6))
unfolding seconds_at
seconds text minutes =
    either (By (minutes.end + 6)) (stands text minutes.end 58) _ _
    (after (By (minutes.end + 1 + 2)) (By (minutes.end + 6)) (number_at 59 text (minutes.end + 1)) _ (number 59 text (minutes.end + 1))
    (λ n low. sooner (n.end + 3) (minutes.end + 6) (hundredths_at text (record { value = minutes.value * 60 + n.value; end = n.end })) (omega arith) (hundredths text (record { value = minutes.value * 60 + n.value; end = n.end }))))
    (omega arith)

minutes : (text : List ℕ) (hours : Number) → IfOk (minutes_at text hours) (By (hours.end + 9))
unfolding minutes_at
minutes text hours =
    either (By (hours.end + 9)) (stands text hours.end 58) _ _
    (after (By (hours.end + 1 + 2)) (By (hours.end + 9)) (number_at 59 text (hours.end + 1)) _ (number 59 text (hours.end + 1))
    (λ n low. sooner (n.end + 6) (hours.end + 9) (seconds_at text (record { value = hours.value * 60 + n.value; end = n.end })) (omega arith) (seconds text (record { value = hours.value * 60 + n.value; end = n.end }))))
    tt

clock : (text : List ℕ) (place : ℕ) → IfOk (clock_at text place) (By (place + 11))
unfolding clock_at
clock text place =
    after (By (place + 2)) (By (place + 11)) (number_at 23 text place) (minutes_at text) (number 23 text place)
    (λ n low. sooner (n.end + 9) (place + 11) (minutes_at text n) (omega arith) (minutes text n))

behind_number : (text : List ℕ) (place : ℕ) (n : Number) → n.end ≤ place + 4 → IfOk (delta_behind text place n) (By (place + 16))
unfolding delta_behind
behind_number text place n low =
    either (By (place + 16)) (stands text n.end 45) _ _
    (after (By (n.end + 1 + 11)) (By (place + 16)) (clock_at text (n.end + 1)) _ (clock text (n.end + 1)) (λ c low_c. omega arith))
    (either (By (place + 16)) (nat_le n.end (place + 2) && nat_le n.value 23) (minutes_at text n) (Err (Form n.end))
    (sooner (n.end + 9) (place + 16) (minutes_at text n) (omega arith) (minutes text n)) tt)

delta : (text : List ℕ) (place : ℕ) → IfOk (delta_at text place) (By (place + 16))
unfolding delta_at
delta text place =
    after (By (place + 4)) (By (place + 16)) (long_number_at text place) (delta_behind text place) (long_number text place) (behind_number text place)

-- ---- dates

month_named : (place : ℕ) (r : Result ℕ ℕ) → IfOk (month_from place r) (By (place + 3))
month_named place (Ok month) = omega arith
month_named place (Err most) = tt

month : (text : List ℕ) (place : ℕ) → IfOk (month_at text place) (By (place + 3))
unfolding month_at
month text place = month_named place (found_month (drop place text))

day_word : (text : List ℕ) → IfOk (day_word_at text) (AbsoluteBy 8)
unfolding day_word_at
day_word text =
    either (AbsoluteBy 8) (shared (codes "TODAY") text == 5) (Ok (record { base = Today; clock = 0; end = 5 })) _ (omega arith)
    (either (AbsoluteBy 8) (shared (codes "TOMORROW") text == 8) (Ok (record { base = Tomorrow; clock = 0; end = 8 })) _ (omega arith) tt)

clocked : (text : List ℕ) (date : Absolute) → IfOk (clocked_at text date) (AbsoluteBy (date.end + 12))
unfolding clocked_at
clocked text date =
    either (AbsoluteBy (date.end + 12)) (stands text date.end 32 || stands text date.end 9 || stands text date.end 58) _ _
    (after (By (date.end + 1 + 11)) (AbsoluteBy (date.end + 12)) (clock_at text (date.end + 1)) _ (clock text (date.end + 1)) (λ c low. omega arith))
    (omega arith)

year : (text : List ℕ) (day month : Number) → IfOk (year_at text day month) (AbsoluteBy (month.end + 17))
unfolding year_at
year text day month =
    either (AbsoluteBy (month.end + 17)) (stands text month.end 45) _ _
    (after (By (month.end + 1 + 4)) (AbsoluteBy (month.end + 17)) (four_digits_at text (month.end + 1)) _ (four_digits text (month.end + 1))
    (λ y low. sooner_absolute (y.end + 12) (month.end + 17) (clocked_at text (record { base = Date y.value month.value day.value; clock = 0; end = y.end })) (omega arith)
    (clocked text (record { base = Date y.value month.value day.value; clock = 0; end = y.end }))))
    tt

numbered : (text : List ℕ) (n : Number) → IfOk (numbered_at text n) (AbsoluteBy (n.end + 21))
unfolding numbered_at
numbered text n =
    either (AbsoluteBy (n.end + 21)) (stands text n.end 45) _ _
    (after (By (n.end + 1 + 3)) (AbsoluteBy (n.end + 21)) (month_at text (n.end + 1)) (year_at text n) (month text (n.end + 1))
    (λ m low. sooner_absolute (m.end + 17) (n.end + 21) (year_at text n m) (omega arith) (year text n m)))
    (either (AbsoluteBy (n.end + 21)) (nat_le n.value 23) _ _
    (after (By (n.end + 9)) (AbsoluteBy (n.end + 21)) (minutes_at text n) _ (minutes text n) (λ c low. omega arith))
    tt)

absolute : (text : List ℕ) → IfOk (absolute_at text) (AbsoluteBy 23)
unfolding absolute_at
absolute text =
    either (AbsoluteBy 23) (is_some (digit_at text 0)) _ _
    (after (By (0 + 2)) (AbsoluteBy 23) (number_at 99 text 0) (numbered_at text) (number 99 text 0)
    (λ n low. sooner_absolute (n.end + 21) 23 (numbered_at text n) (omega arith) (numbered text n)))
    (sooner_absolute 8 23 (day_word_at text) (omega arith) (day_word text))

-- ---- whole texts

none_behind : (text : List ℕ) (place : ℕ) → is_none (slice_get text place) ≡ true → length text ≤ place
none_behind [] place e = omega arith
none_behind (b ∷ text) zero e = absurd cc
none_behind (b ∷ text) (suc place) e = omega (arith, none_behind text place e)

ended : (text : List ℕ) (place : ℕ) → ends text place ≡ true → length text ≤ place
unfolding ends
ended text place e = none_behind text place e

-- what is read takes the whole text, which has no more bytes than this
abbrev IsWhole : {A : Type 0} → List ℕ → ℕ → A → Type 0
IsWhole text most a = length text ≤ most

if_ends : {A : Type 0} (text : List ℕ) (place most : ℕ) (a : A) (other : Result A TimeFault) (b : Bool) → ends text place ≡ b → place ≤ most
    → IfOk other (IsWhole text most) → IfOk (cond b (Ok a) other) (IsWhole text most)
if_ends text place most a other true e low p = let all = ended text place e in omega arith
if_ends text place most a other false e low p = p

last_delta : (text : List ℕ) (place : ℕ) → IfOk (last_delta_at text place) (IsWhole text (place + 16))
unfolding last_delta_at
last_delta text place =
    after (By (place + 16)) (IsWhole text (place + 16)) (delta_at text place) _ (delta text place)
    (λ d low. if_ends text d.end (place + 16) d.value (Err (Form d.end)) (ends text d.end) refl low tt)

changed : (text : List ℕ) (start : Absolute) → IfOk (changed_at text start) (IsWhole text (start.end + 17))
unfolding changed_at
changed text start =
    if_ends text start.end (start.end + 17) (record { base = start.base; clock = start.clock; plus = 0; minus = 0 }) _ (ends text start.end) refl (omega arith)
    (either (IsWhole text (start.end + 17)) (stands text start.end 43) _ _
    (after (IsWhole text (start.end + 1 + 16)) (IsWhole text (start.end + 17)) (last_delta_at text (start.end + 1)) _ (last_delta text (start.end + 1)) (λ d low. omega arith))
    (either (IsWhole text (start.end + 17)) (stands text start.end 45) _ _
    (after (IsWhole text (start.end + 1 + 16)) (IsWhole text (start.end + 17)) (last_delta_at text (start.end + 1)) _ (last_delta text (start.end + 1)) (λ d low. omega arith))
    tt))

time : (text : List ℕ) → IfOk (time_at text) (IsWhole text 40)
unfolding time_at
time text =
    either (IsWhole text 40) (stands text 0 43 || stands text 0 45) _ _
    (weaker (IsWhole text (0 + 17)) (IsWhole text 40) (changed_at text (record { base = Now; clock = 0; end = 0 })) (λ t low. omega arith) (changed text (record { base = Now; clock = 0; end = 0 })))
    (after (AbsoluteBy 23) (IsWhole text 40) (absolute_at text) (changed_at text) (absolute text)
    (λ a low. weaker (IsWhole text (a.end + 17)) (IsWhole text 40) (changed_at text a) (λ t low_t. omega arith) (changed text a)))

ranged : (text : List ℕ) (o : Option ℕ) → length text ≤ 40 → IfOk (or_range o) (IsWhole text 40)
ranged text None low = tt
ranged text (Some moment) low = low

pub times_are_short : (text : List ℕ) (now : ℕ) → IfOk (moment_at text now) (IsWhole text 40)
unfolding moment_at
times_are_short text now = after (IsWhole text 40) (IsWhole text 40) (time_at text) _ (time text) (λ t low. ranged text (moment_of now t) low)

no_moment : (text : List ℕ) (r : Result ℕ TimeFault) → 40 < length text → IfOk r (IsWhole text 40) → None ≡ result_ok r
no_moment text (Ok moment) long low = absurd (omega arith)
no_moment text (Err f) long low = refl

-- a longer text names none
pub long_names_none : (text : List ℕ) (now : ℕ) → 40 < length text → None ≡ result_ok (moment_at text now)
long_names_none text now long = no_moment text (moment_at text now) long (times_are_short text now)
