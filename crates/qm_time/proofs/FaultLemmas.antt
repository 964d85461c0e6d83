-- The readers of times look at no byte behind the place where they end or fail.
use Rattle.std.proofs.Common.{◌≡◌, ℕ, zero, suc, ◌+◌, ◌-◌, ◌*◌, ◌≤◌, Bool, true, false, cond, nat_eq, List, [], ◌∷◌, length, drop, max, Option, None, Some, Ok, Err, refl, sym, ap, ◌∙◌, arith, slice_get, is_some, Result, codes, ◌==◌, ◌||◌, ◌&&◌, nat_le}
use Rattle.qm_time.specs.declared.number.Number.{Number}
use Rattle.qm_time.specs.declared.fault.TimeFault.{TimeFault}
use Rattle.qm_time.specs.declared.fault.TimeFault.TheVariants.{Form}
use Rattle.qm_time.specs.Numbers.{and_then, stands, ends, digit_at, first_of, one_digit_at, longer, with_digit, number_at, long_number_at, next_digit, two_digits_at, four_digits_at}
use Rattle.qm_time.specs.Clocks.{hundredths_at, seconds_at, minutes_at, clock_at, delta_behind, delta_at}
use Rattle.qm_time.specs.Months.{shared, month_in_front, most_shared, month_or, found_month, month_from, month_at}
use Rattle.qm_model.specs.MomentText.{month_letters}
use Rattle.qm_time.specs.declared.time.Absolute.{Absolute}
use Rattle.qm_time.specs.declared.time.Base.{Base}
use Rattle.qm_time.specs.declared.time.Base.TheVariants.{Now, Today, Tomorrow, Date}
use Rattle.qm_time.specs.declared.time.Time.{Time}
use Rattle.qm_time.specs.Times.{day_word_at, clocked_at, year_at, numbered_at, absolute_at, last_delta_at, changed_at, time_at}
use Rattle.qm_time.specs.Moments.{moment_of, moment_at, or_range}
use Rattle.qm_time.specs.Laws.{SameUpTo}
use Rattle.qm_time.proofs.TextLemmas.{month_letters-three}
use Rattle.std.specs.List.{common_prefix_len}
use Rattle.std.proofs.lemmas.List.Sums.{common_prefix_len-le}
use Rattle.qm_time.proofs.SameLemmas.{same_less, stands-same, ends-same, digit-same, Reads, Fails, Looks, number_end, value, fault, later, after, either, fails_after, fails_either}

abbrev number : ℕ → ℕ → Number
number value end = record { value = value; end = end }

-- ---- numbers

first_ok : (o : Option ℕ) (place : ℕ) (n : Number) → first_of o place ≡ Ok n → place + 1 ≡ n.end
first_ok None place n e = absurd cc
first_ok (Some d) place n e = let is : number d (place + 1) ≡ n = cc in ap number_end is

first_err : (o : Option ℕ) (place p : ℕ) → first_of o place ≡ Err (Form p) → place ≡ p
first_err None place p e = cc
first_err (Some d) place p e = absurd cc

one_digit : (place : ℕ) → Reads place number_end (λ text. one_digit_at text place)
unfolding one_digit_at
one_digit place = record {
  ok = λ text other n e same. ap (λ o. first_of o place) (sym (digit-same text other place (same_less place n.end text other (omega (arith, first_ok (digit_at text place) place n e)) same))) ∙ e;
  err = λ text other p e same. ap (λ o. first_of o place) (sym (digit-same text other place (same_less place p text other (omega (arith, first_err (digit_at text place) place p e)) same))) ∙ e;
  ok_from = λ text n e. omega (arith, first_ok (digit_at text place) place n e);
  err_from = λ text p e. omega (arith, first_err (digit_at text place) place p e);
}

longer_end : (most : ℕ) (o : Option ℕ) (n : Number) → n.end ≤ (longer most o n).end
longer_end most None n = omega arith
longer_end most (Some d) n = by_test (nat_le (10 * n.value + d) most) where
  by_test : (b : Bool) → n.end ≤ (cond b (record { value = 10 * n.value + d; end = n.end + 1 }) n).end
  by_test true = omega arith
  by_test false = omega arith

with_digit_end : (most : ℕ) (text : List ℕ) (n : Number) → n.end ≤ (with_digit most text n).end
unfolding with_digit
with_digit_end most text n = longer_end most (digit_at text n.end) n

with_digit-same : (most : ℕ) (text other : List ℕ) (n : Number) → SameUpTo (with_digit most text n).end text other → with_digit most text n ≡ with_digit most other n
unfolding with_digit
with_digit-same most text other n same =
    ap (λ o. longer most o n) (digit-same text other n.end (same_less n.end (longer most (digit_at text n.end) n).end text other (longer_end most (digit_at text n.end) n) same))

-- a number that grows by what stands behind it
grown : (from : ℕ) (grow : List ℕ → Number) → ((text : List ℕ) → from ≤ (grow text).end) → ((text other : List ℕ) → SameUpTo (grow text).end text other → grow text ≡ grow other) → Reads from number_end (λ text. Ok (grow text))
grown from grow low agree = record {
  ok = λ text other n e same.
      let is : grow text ≡ n = cc in
      let here : SameUpTo (grow text).end text other = rw is same in
      rw (← agree text other here) e;
  err = λ text other p e same. absurd cc;
  ok_from = λ text n e. let is : grow text ≡ n = cc in rw (← is) (low text);
  err_from = λ text p e. absurd cc;
}

pub number_reads : (most place : ℕ) → Reads place number_end (λ text. number_at most text place)
unfolding number_at
number_reads most place =
    after place number_end number_end (λ text. one_digit_at text place) (λ n text. Ok (with_digit most text n)) (one_digit place)
    (λ n. grown n.end (λ text. with_digit most text n) (λ text. with_digit_end most text n) (λ text other same. with_digit-same most text other n same))

-- the same thrice
three_end : (text : List ℕ) (n : Number) → n.end ≤ (with_digit 9999 text (with_digit 9999 text (with_digit 9999 text n))).end
three_end text n =
    omega (arith, with_digit_end 9999 text n, with_digit_end 9999 text (with_digit 9999 text n), with_digit_end 9999 text (with_digit 9999 text (with_digit 9999 text n)))

three-same : (text other : List ℕ) (n : Number) → SameUpTo (with_digit 9999 text (with_digit 9999 text (with_digit 9999 text n))).end text other → with_digit 9999 text (with_digit 9999 text (with_digit 9999 text n)) ≡ with_digit 9999 other (with_digit 9999 other (with_digit 9999 other n))
three-same text other n same =
    let one = with_digit 9999 text n in
    let two = with_digit 9999 text one in
    let end_two = with_digit_end 9999 text two in
    let end_one = with_digit_end 9999 text one in
    let a = with_digit-same 9999 text other n (same_less one.end (with_digit 9999 text two).end text other (omega (arith, end_one, end_two)) same) in
    let b = with_digit-same 9999 text other one (same_less two.end (with_digit 9999 text two).end text other end_two same) in
    let c = with_digit-same 9999 text other two same in
    c ∙ ap (with_digit 9999 other) (b ∙ ap (with_digit 9999 other) a)

long_number : (place : ℕ) → Reads place number_end (λ text. long_number_at text place)
unfolding long_number_at
long_number place =
    after place number_end number_end (λ text. one_digit_at text place) (λ n text. Ok (with_digit 9999 text (with_digit 9999 text (with_digit 9999 text n)))) (one_digit place)
    (λ n. grown n.end (λ text. with_digit 9999 text (with_digit 9999 text (with_digit 9999 text n))) (λ text. three_end text n) (λ text other same. three-same text other n same))

one_more : (n : Number) → Reads n.end number_end (λ text. next_digit text n)
unfolding next_digit
one_more n =
    after n.end number_end number_end (λ text. one_digit_at text n.end) (λ d text. Ok (record { value = 10 * n.value + d.value; end = d.end })) (one_digit n.end)
    (λ d. value d.end number_end (record { value = 10 * n.value + d.value; end = d.end }) (omega arith))

pub two_digits_read : (place : ℕ) → Reads place number_end (λ text. two_digits_at text place)
unfolding two_digits_at
two_digits_read place =
    after place number_end number_end (λ text. one_digit_at text place) (λ n text. next_digit text n) (one_digit place) one_more

pub four_digits_read : (place : ℕ) → Reads place number_end (λ text. four_digits_at text place)
unfolding four_digits_at
four_digits_read place =
    after place number_end number_end (λ text. two_digits_at text place) (λ n text. and_then (next_digit text n) (next_digit text)) (two_digits_read place)
    (λ n. after n.end number_end number_end (λ text. next_digit text n) (λ m text. next_digit text m) (one_more n) one_more)

-- ---- clock times

pub stands_looks : (place b : ℕ) → Looks place (λ text. stands text place b)
stands_looks place b = record { same = λ text other same. stands-same text other place b same }

pub ends_looks : (place : ℕ) → Looks place (λ text. ends text place)
ends_looks place = record { same = λ text other same. ends-same text other place same }

hundredths_read : (seconds : Number) → Reads seconds.end number_end (λ text. hundredths_at text seconds)
unfolding hundredths_at
hundredths_read seconds =
    either seconds.end seconds.end number_end (λ text. stands text seconds.end 46)
    (λ text. and_then (two_digits_at text (seconds.end + 1)) (λ cc. Ok (record { value = seconds.value * 100 + cc.value; end = cc.end })))
    (λ text. Ok (record { value = seconds.value * 100; end = seconds.end }))
    (stands_looks seconds.end 46) (omega arith)
    (later seconds.end (seconds.end + 1) number_end _ (omega arith)
    (after (seconds.end + 1) number_end number_end (λ text. two_digits_at text (seconds.end + 1)) (λ c text. Ok (record { value = seconds.value * 100 + c.value; end = c.end })) (two_digits_read (seconds.end + 1))
    (λ c. value c.end number_end (record { value = seconds.value * 100 + c.value; end = c.end }) (omega arith))))
    (value seconds.end number_end (record { value = seconds.value * 100; end = seconds.end }) (omega arith))

seconds_read : (minutes : Number) → Reads minutes.end number_end (λ text. seconds_at text minutes)
unfolding seconds_at
seconds_read minutes =
    either minutes.end minutes.end number_end (λ text. stands text minutes.end 58)
    (λ text. and_then (number_at 59 text (minutes.end + 1)) (λ ss. hundredths_at text (record { value = minutes.value * 60 + ss.value; end = ss.end })))
    (λ text. Ok (record { value = minutes.value * 6000; end = minutes.end }))
    (stands_looks minutes.end 58) (omega arith)
    (later minutes.end (minutes.end + 1) number_end _ (omega arith)
    (after (minutes.end + 1) number_end number_end (λ text. number_at 59 text (minutes.end + 1)) (λ ss text. hundredths_at text (record { value = minutes.value * 60 + ss.value; end = ss.end })) (number_reads 59 (minutes.end + 1))
    (λ ss. hundredths_read (record { value = minutes.value * 60 + ss.value; end = ss.end }))))
    (value minutes.end number_end (record { value = minutes.value * 6000; end = minutes.end }) (omega arith))

pub minutes_read : (hours : Number) → Reads hours.end number_end (λ text. minutes_at text hours)
unfolding minutes_at
minutes_read hours =
    either hours.end hours.end number_end (λ text. stands text hours.end 58)
    (λ text. and_then (number_at 59 text (hours.end + 1)) (λ mm. seconds_at text (record { value = hours.value * 60 + mm.value; end = mm.end })))
    (λ text. Err (Form hours.end))
    (stands_looks hours.end 58) (omega arith)
    (later hours.end (hours.end + 1) number_end _ (omega arith)
    (after (hours.end + 1) number_end number_end (λ text. number_at 59 text (hours.end + 1)) (λ mm text. seconds_at text (record { value = hours.value * 60 + mm.value; end = mm.end })) (number_reads 59 (hours.end + 1))
    (λ mm. seconds_read (record { value = hours.value * 60 + mm.value; end = mm.end }))))
    (fault hours.end number_end hours.end (omega arith))

pub clock_reads : (place : ℕ) → Reads place number_end (λ text. clock_at text place)
unfolding clock_at
clock_reads place = after place number_end number_end (λ text. number_at 23 text place) (λ n text. minutes_at text n) (number_reads 23 place) minutes_read

delta_behind_reads : (place : ℕ) (n : Number) → Reads n.end number_end (λ text. delta_behind text place n)
unfolding delta_behind
delta_behind_reads place n =
    either n.end n.end number_end (λ text. stands text n.end 45)
    (λ text. and_then (clock_at text (n.end + 1)) (λ clock. Ok (record { value = n.value * 8640000 + clock.value; end = clock.end })))
    (λ text. cond (nat_le n.end (place + 2) && nat_le n.value 23) (minutes_at text n) (Err (Form n.end)))
    (stands_looks n.end 45) (omega arith)
    (later n.end (n.end + 1) number_end _ (omega arith)
    (after (n.end + 1) number_end number_end (λ text. clock_at text (n.end + 1)) (λ clock text. Ok (record { value = n.value * 8640000 + clock.value; end = clock.end })) (clock_reads (n.end + 1))
    (λ clock. value clock.end number_end (record { value = n.value * 8640000 + clock.value; end = clock.end }) (omega arith))))
    (either n.end n.end number_end (λ text. nat_le n.end (place + 2) && nat_le n.value 23) (λ text. minutes_at text n) (λ text. Err (Form n.end)) (record { same = λ text other same. refl }) (omega arith) (minutes_read n) (fault n.end number_end n.end (omega arith)))

pub delta_reads : (place : ℕ) → Reads place number_end (λ text. delta_at text place)
unfolding delta_at
delta_reads place = after place number_end number_end (λ text. long_number_at text place) (λ n text. delta_behind text place n) (long_number place) (delta_behind_reads place)

-- ---- words

slice_get-drop : (place j : ℕ) (text : List ℕ) → slice_get (drop place text) j ≡ slice_get text (place + j)
slice_get-drop zero j text = let same : zero + j ≡ j = omega arith in rw same refl
slice_get-drop (suc place) j [] = refl
slice_get-drop (suc place) j (t ∷ text) = let same : suc place + j ≡ suc (place + j) = omega arith in rw same (slice_get-drop place j text)

-- texts that are the same behind a place
pub same_behind : (place k : ℕ) (text other : List ℕ) → SameUpTo (place + k) text other → SameUpTo k (drop place text) (drop place other)
same_behind place k text other same = record { each = λ j few. slice_get-drop place j text ∙ same.each (place + j) (omega (arith, few)) ∙ sym (slice_get-drop place j other) }

first_same : (t o : ℕ) → Some t ≡ Some o → t ≡ o
first_same t o e = cc

further : (b : Bool) (m n k : ℕ) → (m ≤ k - 1 → 1 ≤ k → m ≡ n) → cond b (1 + m) 0 ≤ k → cond b (1 + m) 0 ≡ cond b (1 + n) 0
further true m n k rest low = ap (λ x. 1 + x) (rest (omega (arith, low)) (omega (arith, low)))
further false m n k rest low = refl

prefix-same : (word text other : List ℕ) (k : ℕ) → common_prefix_len nat_eq word text ≤ k → SameUpTo k text other → common_prefix_len nat_eq word text ≡ common_prefix_len nat_eq word other
prefix-same [] text other k low same = refl
prefix-same (w ∷ word) [] [] k low same = refl
prefix-same (w ∷ word) [] (o ∷ other) k low same = let e = same.each 0 (omega arith) in absurd cc
prefix-same (w ∷ word) (t ∷ text) [] k low same = let e = same.each 0 (omega arith) in absurd cc
prefix-same (w ∷ word) (t ∷ text) (o ∷ other) k low same =
    let first : t ≡ o = first_same t o (same.each 0 (omega arith)) in
    rw (← first) (further (nat_eq w t) (common_prefix_len nat_eq word text) (common_prefix_len nat_eq word other) k (λ few some. prefix-same word text other (k - 1) few (record { each = λ j less. same.each (suc j) (omega (arith, some, less)) })) low)

pub shared-same : (word text other : List ℕ) (k : ℕ) → shared word text ≤ k → SameUpTo k text other → shared word text ≡ shared word other
unfolding shared
shared-same = prefix-same

most_shared-same : (n : ℕ) (text other : List ℕ) (k : ℕ) → most_shared n text ≤ k → SameUpTo k text other → most_shared n text ≡ most_shared n other
unfolding most_shared
most_shared-same zero text other k low same = refl
most_shared-same (suc n) text other k low same =
    let before = most_shared-same n text other k (omega (arith, low)) same in
    let this = shared-same (month_letters (suc n)) text other k (omega (arith, low)) same in
    rw (before, this) refl

month_in_front-same : (n : ℕ) (text other : List ℕ) (k : ℕ) → most_shared n text ≤ k → SameUpTo k text other → month_in_front n text ≡ month_in_front n other
unfolding month_in_front most_shared
month_in_front-same zero text other k low same = refl
month_in_front-same (suc n) text other k low same =
    let before = month_in_front-same n text other k (omega (arith, low)) same in
    let this = shared-same (month_letters (suc n)) text other k (omega (arith, low)) same in
    rw (before, this) refl

-- a month has three letters, and so no text shares more
letters_few : (month : ℕ) (text : List ℕ) → shared (month_letters month) text ≤ 3
unfolding shared
letters_few month text =
    let long : length (month_letters month) ≡ 3 = ap length (month_letters-three month) in
    omega (arith, long, (common_prefix_len-le nat_eq (month_letters month) text).0)

most_shared_few : (n : ℕ) (text : List ℕ) → most_shared n text ≤ 3
unfolding most_shared
most_shared_few zero text = omega arith
most_shared_few (suc n) text = omega (arith, most_shared_few n text, letters_few (suc n) text)

found_ok : (o : Option ℕ) (most month : ℕ) (place : ℕ) (n : Number) → month_from place (month_or o most) ≡ Ok n → place + 3 ≡ n.end
found_ok None most month place n e = absurd cc
found_ok (Some m) most month place n e = let is : number m (place + 3) ≡ n = cc in ap number_end is

found_err : (o : Option ℕ) (most place p : ℕ) → month_from place (month_or o most) ≡ Err (Form p) → place + most ≡ p
found_err None most place p e = cc
found_err (Some m) most place p e = absurd cc

found-same : (text other : List ℕ) (k : ℕ) → most_shared 12 text ≤ k → SameUpTo k text other → found_month text ≡ found_month other
unfolding found_month
found-same text other k low same = rw (month_in_front-same 12 text other k low same, most_shared-same 12 text other k low same) refl

pub month_reads : (place : ℕ) → Reads place number_end (λ text. month_at text place)
unfolding month_at found_month
month_reads place = record {
  ok = λ text other n e same.
      let end = found_ok (month_in_front 12 (drop place text)) (most_shared 12 (drop place text)) 0 place n e in
      let here = same_behind place 3 text other (rw end same) in
      ap (month_from place) (sym (found-same (drop place text) (drop place other) 3 (most_shared_few 12 (drop place text)) here)) ∙ e;
  err = λ text other p e same.
      let end = found_err (month_in_front 12 (drop place text)) (most_shared 12 (drop place text)) place p e in
      let here = same_behind place (most_shared 12 (drop place text)) text other (rw end same) in
      ap (month_from place) (sym (found-same (drop place text) (drop place other) (most_shared 12 (drop place text)) (omega arith) here)) ∙ e;
  ok_from = λ text n e. omega (arith, found_ok (month_in_front 12 (drop place text)) (most_shared 12 (drop place text)) 0 place n e);
  err_from = λ text p e. omega (arith, found_err (month_in_front 12 (drop place text)) (most_shared 12 (drop place text)) place p e);
}

-- ---- absolute times

abbrev absolute_end : Absolute → ℕ
absolute_end start = start.end

abbrev dated : Base → ℕ → ℕ → Absolute
dated base clock end = record { base = base; clock = clock; end = end }

-- TODAY or TOMORROW, or the first byte with which neither goes on
abbrev day_word_by : Bool → Bool → ℕ → ℕ → Result Absolute TimeFault
day_word_by today tomorrow m n =
    cond today (Ok (dated Today 0 5)) (cond tomorrow (Ok (dated Tomorrow 0 8)) (Err (Form (max m n))))

shared_few : (word text : List ℕ) → shared word text ≤ length word
unfolding shared
shared_few word text = (common_prefix_len-le nat_eq word text).0

words_same : (text other : List ℕ) (k : ℕ) → shared (codes "TODAY") text ≤ k → shared (codes "TOMORROW") text ≤ k → SameUpTo k text other → day_word_at text ≡ day_word_at other
unfolding day_word_at
words_same text other k low low_too same =
    rw (shared-same (codes "TODAY") text other k low same, shared-same (codes "TOMORROW") text other k low_too same) refl

words_ok : (text other : List ℕ) (a : Absolute) (b c : Bool) → (shared (codes "TODAY") text == 5) ≡ b → (shared (codes "TOMORROW") text == 8) ≡ c → day_word_by b c (shared (codes "TODAY") text) (shared (codes "TOMORROW") text) ≡ Ok a → day_word_at text ≡ Ok a → SameUpTo a.end text other → day_word_at other ≡ Ok a
unfolding day_word_at
words_ok text other a true c today tomorrow e all same =
    let is : dated Today 0 5 ≡ a = cc in
    let end : 5 ≡ a.end = ap absolute_end is in
    let here : SameUpTo 5 text other = rw end same in
    rw (← shared-same (codes "TODAY") text other 5 (shared_few (codes "TODAY") text) here, today) e
words_ok text other a false true today tomorrow e all same =
    let is : dated Tomorrow 0 8 ≡ a = cc in
    let end : 8 ≡ a.end = ap absolute_end is in
    let here : SameUpTo 8 text other = rw end same in
    let few = shared_few (codes "TODAY") text in
    sym (words_same text other 8 (omega (arith, few)) (shared_few (codes "TOMORROW") text) here) ∙ all
words_ok text other a false false today tomorrow e all same = absurd cc

words_err : (text other : List ℕ) (p : ℕ) (b c : Bool) → day_word_by b c (shared (codes "TODAY") text) (shared (codes "TOMORROW") text) ≡ Err (Form p) → day_word_at text ≡ Err (Form p) → SameUpTo p text other → day_word_at other ≡ Err (Form p)
words_err text other p true c e all same = absurd cc
words_err text other p false true e all same = absurd cc
words_err text other p false false e all same =
    let is : max (shared (codes "TODAY") text) (shared (codes "TOMORROW") text) ≡ p = cc in
    sym (words_same text other p (omega (arith, is)) (omega (arith, is)) same) ∙ all

words_read : Reads 0 absolute_end day_word_at
unfolding day_word_at
words_read = record {
  ok = λ text other a e same. words_ok text other a (shared (codes "TODAY") text == 5) (shared (codes "TOMORROW") text == 8) refl refl e e same;
  err = λ text other p e same. words_err text other p (shared (codes "TODAY") text == 5) (shared (codes "TOMORROW") text == 8) e e same;
  ok_from = λ text a e. omega arith;
  err_from = λ text p e. omega arith;
}

break_looks : (place : ℕ) → Looks place (λ text. stands text place 32 || stands text place 9 || stands text place 58)
break_looks place = record { same = λ text other same. rw (stands-same text other place 32 same, stands-same text other place 9 same, stands-same text other place 58 same) refl }

clocked_reads : (date : Absolute) → Reads date.end absolute_end (λ text. clocked_at text date)
unfolding clocked_at
clocked_reads date =
    either date.end date.end absolute_end (λ text. stands text date.end 32 || stands text date.end 9 || stands text date.end 58)
    (λ text. and_then (clock_at text (date.end + 1)) (λ clock. Ok (dated date.base clock.value clock.end)))
    (λ text. Ok date)
    (break_looks date.end) (omega arith)
    (later date.end (date.end + 1) absolute_end _ (omega arith)
    (after (date.end + 1) number_end absolute_end (λ text. clock_at text (date.end + 1)) (λ clock text. Ok (dated date.base clock.value clock.end)) (clock_reads (date.end + 1))
    (λ clock. value clock.end absolute_end (dated date.base clock.value clock.end) (omega arith))))
    (value date.end absolute_end date (omega arith))

year_reads : (day month : Number) → Reads month.end absolute_end (λ text. year_at text day month)
unfolding year_at
year_reads day month =
    either month.end month.end absolute_end (λ text. stands text month.end 45)
    (λ text. and_then (four_digits_at text (month.end + 1)) (λ year. clocked_at text (dated (Date year.value month.value day.value) 0 year.end)))
    (λ text. Err (Form month.end))
    (stands_looks month.end 45) (omega arith)
    (later month.end (month.end + 1) absolute_end _ (omega arith)
    (after (month.end + 1) number_end absolute_end (λ text. four_digits_at text (month.end + 1)) (λ year text. clocked_at text (dated (Date year.value month.value day.value) 0 year.end)) (four_digits_read (month.end + 1))
    (λ year. clocked_reads (dated (Date year.value month.value day.value) 0 year.end))))
    (fault month.end absolute_end month.end (omega arith))

numbered_reads : (n : Number) → Reads n.end absolute_end (λ text. numbered_at text n)
unfolding numbered_at
numbered_reads n =
    either n.end n.end absolute_end (λ text. stands text n.end 45)
    (λ text. and_then (month_at text (n.end + 1)) (year_at text n))
    (λ text. cond (nat_le n.value 23) (and_then (minutes_at text n) (λ clock. Ok (dated Today clock.value clock.end))) (Err (Form n.end)))
    (stands_looks n.end 45) (omega arith)
    (later n.end (n.end + 1) absolute_end _ (omega arith)
    (after (n.end + 1) number_end absolute_end (λ text. month_at text (n.end + 1)) (λ month text. year_at text n month) (month_reads (n.end + 1)) (year_reads n)))
    (either n.end n.end absolute_end (λ text. nat_le n.value 23) (λ text. and_then (minutes_at text n) (λ clock. Ok (dated Today clock.value clock.end))) (λ text. Err (Form n.end)) (record { same = λ text other same. refl }) (omega arith)
    (after n.end number_end absolute_end (λ text. minutes_at text n) (λ clock text. Ok (dated Today clock.value clock.end)) (minutes_read n) (λ clock. value clock.end absolute_end (dated Today clock.value clock.end) (omega arith)))
    (fault n.end absolute_end n.end (omega arith)))

absolute_reads : Reads 0 absolute_end absolute_at
unfolding absolute_at
absolute_reads =
    either 0 0 absolute_end (λ text. is_some (digit_at text 0)) (λ text. and_then (number_at 99 text 0) (numbered_at text)) day_word_at
    (record { same = λ text other same. ap is_some (digit-same text other 0 same) }) (omega arith)
    (after 0 number_end absolute_end (λ text. number_at 99 text 0) (λ n text. numbered_at text n) (number_reads 99 0) numbered_reads)
    words_read

-- ---- times

done : {A : Type 0} (from : ℕ) (a : A) → Fails from (λ text. Ok a)
done from a = record { err = λ text other p e same. absurd cc; err_from = λ text p e. absurd cc }

stuck : {A : Type 0} (place : ℕ) → Fails {A = A} place (λ text. Err (Form place))
stuck place = record { err = λ text other p e same. e; err_from = λ text p e. let is : place ≡ p = cc in rw is (omega arith) }

fails_later : {A : Type 0} (from more : ℕ) (read : List ℕ → Result A TimeFault) → from ≤ more → Fails more read → Fails from read
fails_later from more read low f = record { err = f.err; err_from = λ text p e. omega (arith, low, f.err_from text p e) }

last_delta_fails : (place : ℕ) → Fails place (λ text. last_delta_at text place)
unfolding last_delta_at
last_delta_fails place =
    fails_after place number_end (λ text. delta_at text place) (λ delta text. cond (ends text delta.end) (Ok delta.value) (Err (Form delta.end))) (delta_reads place)
    (λ delta. fails_either delta.end delta.end (λ text. ends text delta.end) (λ text. Ok delta.value) (λ text. Err (Form delta.end)) (ends_looks delta.end) (omega arith) (done delta.end delta.value) (stuck delta.end))

changed : Absolute → ℕ → ℕ → Time
changed start plus minus = record { base = start.base; clock = start.clock; plus = plus; minus = minus }

made_by : (made : ℕ → Time) (read : List ℕ → Result ℕ TimeFault) (from : ℕ) → Fails from read → (text other : List ℕ) (p : ℕ) (r : Result ℕ TimeFault) → read text ≡ r → and_then r (λ delta. Ok (made delta)) ≡ Err (Form p) → SameUpTo p text other → and_then (read other) (λ delta. Ok (made delta)) ≡ Err (Form p)
made_by made read from f text other p (Ok n) e g same = absurd cc
made_by made read from f text other p (Err x) e g same =
    let is : x ≡ Form p = cc in
    rw (f.err text other p (e ∙ ap (λ y. Err y) is) same) refl

made_from : (made : ℕ → Time) (read : List ℕ → Result ℕ TimeFault) (from : ℕ) → Fails from read → (text : List ℕ) (p : ℕ) (r : Result ℕ TimeFault) → read text ≡ r → and_then r (λ delta. Ok (made delta)) ≡ Err (Form p) → from ≤ p
made_from made read from f text p (Ok n) e g = absurd cc
made_from made read from f text p (Err x) e g = let is : x ≡ Form p = cc in f.err_from text p (e ∙ ap (λ y. Err y) is)

-- what is made of what is read fails as that does
made_fails : (from : ℕ) (made : ℕ → Time) (read : List ℕ → Result ℕ TimeFault) → Fails from read → Fails from (λ text. and_then (read text) (λ delta. Ok (made delta)))
made_fails from made read f = record {
  err = λ text other p e same. made_by made read from f text other p (read text) refl e same;
  err_from = λ text p e. made_from made read from f text p (read text) refl e;
}

with_delta : (start : Absolute) (made : ℕ → Time) → Fails start.end (λ text. and_then (last_delta_at text (start.end + 1)) (λ delta. Ok (made delta)))
with_delta start made =
    fails_later start.end (start.end + 1) (λ text. and_then (last_delta_at text (start.end + 1)) (λ delta. Ok (made delta))) (omega arith)
    (made_fails (start.end + 1) made (λ text. last_delta_at text (start.end + 1)) (last_delta_fails (start.end + 1)))

changed_fails : (start : Absolute) → Fails start.end (λ text. changed_at text start)
unfolding changed_at changed
changed_fails start =
    fails_either start.end start.end (λ text. ends text start.end) (λ text. Ok (changed start 0 0))
    (λ text. cond (stands text start.end 43) (and_then (last_delta_at text (start.end + 1)) (λ delta. Ok (changed start delta 0))) (cond (stands text start.end 45) (and_then (last_delta_at text (start.end + 1)) (λ delta. Ok (changed start 0 delta))) (Err (Form start.end))))
    (ends_looks start.end) (omega arith) (done start.end (changed start 0 0))
    (fails_either start.end start.end (λ text. stands text start.end 43) (λ text. and_then (last_delta_at text (start.end + 1)) (λ delta. Ok (changed start delta 0)))
    (λ text. cond (stands text start.end 45) (and_then (last_delta_at text (start.end + 1)) (λ delta. Ok (changed start 0 delta))) (Err (Form start.end)))
    (stands_looks start.end 43) (omega arith) (with_delta start (λ delta. changed start delta 0))
    (fails_either start.end start.end (λ text. stands text start.end 45) (λ text. and_then (last_delta_at text (start.end + 1)) (λ delta. Ok (changed start 0 delta))) (λ text. Err (Form start.end))
    (stands_looks start.end 45) (omega arith) (with_delta start (λ delta. changed start 0 delta)) (stuck start.end)))

time_fails : Fails 0 time_at
unfolding time_at
time_fails =
    fails_either 0 0 (λ text. stands text 0 43 || stands text 0 45) (λ text. changed_at text (dated Now 0 0)) (λ text. and_then (absolute_at text) (changed_at text))
    (record { same = λ text other same. rw (stands-same text other 0 43 same, stands-same text other 0 45 same) refl }) (omega arith)
    (changed_fails (dated Now 0 0))
    (fails_after 0 absolute_end absolute_at (λ start text. changed_at text start) absolute_reads changed_fails)

ranged : (o : Option ℕ) (p : ℕ) → or_range o ≡ Err (Form p) → ⊥
ranged None p e = cc
ranged (Some m) p e = cc

moment_by : (text other : List ℕ) (now p : ℕ) (r : Result Time TimeFault) → time_at text ≡ r → and_then r (λ time. or_range (moment_of now time)) ≡ Err (Form p) → SameUpTo p text other → and_then (time_at other) (λ time. or_range (moment_of now time)) ≡ Err (Form p)
moment_by text other now p (Ok time) e f same = absurd (ranged (moment_of now time) p f)
moment_by text other now p (Err x) e f same =
    let is : x ≡ Form p = cc in
    rw (time_fails.err text other p (e ∙ ap (λ y. Err y) is) same) refl

pub same_fault : (text other : List ℕ) (now p : ℕ) → moment_at text now ≡ Err (Form p) → SameUpTo p text other → moment_at other now ≡ Err (Form p)
unfolding moment_at
same_fault text other now p e same = moment_by text other now p (time_at text) refl e same
