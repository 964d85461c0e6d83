-- What is read where known bytes stand.
use Rattle.std.proofs.Common.{◌≡◌, ℕ, zero, suc, ◌+◌, ◌*◌, ◌/◌, ◌%◌, ◌≤◌, true, false, nat_eq, List, [], ◌∷◌, ◌++◌, drop, None, Some, Ok, refl, ap, ◌∙◌, arith, slice_get, le-leb, eq-eqb}
use Rattle.std.specs.Char.{is_ascii_digit}
use Rattle.std.proofs.lemmas.Bool.Decides.{nat_tests}
use Rattle.qm_time.specs.declared.number.Number.{Number}
use Rattle.qm_time.specs.Numbers.{stands, digit_of, digit_at, one_digit_at, with_digit, number_at, next_digit, two_digits_at, four_digits_at}
use Rattle.qm_model.specs.MomentText.{digit, two_digits, four_digits}

-- the byte at a place, and what stands behind it
pub here : (text : List ℕ) (place b : ℕ) (rest : List ℕ) → drop place text ≡ b ∷ rest → slice_get text place ≡ Some b
here text zero b rest e = rw e refl
here [] (suc place) b rest e = absurd cc
here (t ∷ text) (suc place) b rest e = here text place b rest e

pub next : (text : List ℕ) (place b : ℕ) (rest : List ℕ) → drop place text ≡ b ∷ rest → drop (place + 1) text ≡ rest
next text zero b rest e = rw e refl
next [] (suc place) b rest e = absurd cc
next (t ∷ text) (suc place) b rest e = let same : suc place + 1 ≡ suc (place + 1) = omega arith in rw same (next text place b rest e)

-- nothing stands at the end
pub at_end : (text : List ℕ) (place : ℕ) → drop place text ≡ [] → slice_get text place ≡ None
at_end text zero e = rw e refl
at_end [] (suc place) e = refl
at_end (t ∷ text) (suc place) e = at_end text place e

digit_of-digit : (d : ℕ) → d ≤ 9 → digit_of (Some (digit d)) ≡ Some d
digit_of-digit d low = grind (arith, nat_tests)

pub digit-there : (text : List ℕ) (place d : ℕ) (rest : List ℕ) → d ≤ 9 → drop place text ≡ digit d ∷ rest → digit_at text place ≡ Some d
unfolding digit_at
digit-there text place d rest low e = ap digit_of (here text place (digit d) rest e) ∙ digit_of-digit d low

pub digit-other : (text : List ℕ) (place b : ℕ) (rest : List ℕ) → is_ascii_digit b ≡ false → drop place text ≡ b ∷ rest → digit_at text place ≡ None
unfolding digit_at
digit-other text place b rest other e = ap digit_of (here text place b rest e) ∙ rw other refl

pub one_digit-there : (text : List ℕ) (place d : ℕ) (rest : List ℕ) → d ≤ 9 → drop place text ≡ digit d ∷ rest → one_digit_at text place ≡ Ok (record { value = d; end = place + 1 })
unfolding one_digit_at
one_digit-there text place d rest low e = rw (digit-there text place d rest low e) refl

pub stands-there : (text : List ℕ) (place b : ℕ) (rest : List ℕ) → drop place text ≡ b ∷ rest → stands text place b ≡ true
unfolding stands
stands-there text place b rest e = rw (here text place b rest e) (eq-eqb b b refl)

pub stands-other : (text : List ℕ) (place b other : ℕ) (rest : List ℕ) → nat_eq b other ≡ false → drop place text ≡ b ∷ rest → stands text place other ≡ false
unfolding stands
stands-other text place b other rest differ e = rw (here text place b rest e) differ

pub number-one : (most : ℕ) (text : List ℕ) (place n b : ℕ) (rest : List ℕ) → n ≤ 9 → is_ascii_digit b ≡ false → drop place text ≡ digit n ∷ b ∷ rest → number_at most text place ≡ Ok (record { value = n; end = place + 1 })
unfolding number_at with_digit
number-one most text place n b rest low other e =
    rw (one_digit-there text place n (b ∷ rest) low e, digit-other text (place + 1) b rest other (next text place (digit n) (b ∷ rest) e)) refl

pub number-two : (most : ℕ) (text : List ℕ) (place n : ℕ) (rest : List ℕ) → n ≤ most → n ≤ 99 → drop place text ≡ two_digits n ++ rest → number_at most text place ≡ Ok (record { value = n; end = place + 2 })
unfolding number_at with_digit
number-two most text place n rest low few e =
    let value : 10 * (n / 10) + n % 10 ≡ n = omega arith in
    let end : place + 1 + 1 ≡ place + 2 = omega arith in
    rw (one_digit-there text place (n / 10) (digit (n % 10) ∷ rest) (omega arith) e, digit-there text (place + 1) (n % 10) rest (omega arith) (next text place (digit (n / 10)) (digit (n % 10) ∷ rest) e), value, le-leb n most low, end) refl

pub next2 : (text : List ℕ) (place a b : ℕ) (rest : List ℕ) → drop place text ≡ a ∷ b ∷ rest → drop (place + 2) text ≡ rest
next2 text place a b rest e =
    let end : place + 1 + 1 ≡ place + 2 = omega arith in
    rw end at (next text (place + 1) b rest (next text place a (b ∷ rest) e))

next_digit-there : (text : List ℕ) (n : Number) (d : ℕ) (rest : List ℕ) → d ≤ 9 → drop n.end text ≡ digit d ∷ rest → next_digit text n ≡ Ok (record { value = 10 * n.value + d; end = n.end + 1 })
unfolding next_digit
next_digit-there text n d rest low e = rw (one_digit-there text n.end d rest low e) refl

pub two_digits-there : (text : List ℕ) (place n : ℕ) (rest : List ℕ) → n ≤ 99 → drop place text ≡ two_digits n ++ rest → two_digits_at text place ≡ Ok (record { value = n; end = place + 2 })
unfolding two_digits_at
two_digits-there text place n rest few e =
    let value : 10 * (n / 10) + n % 10 ≡ n = omega arith in
    let end : place + 1 + 1 ≡ place + 2 = omega arith in
    rw (one_digit-there text place (n / 10) (digit (n % 10) ∷ rest) (omega arith) e) (next_digit-there text (record { value = n / 10; end = place + 1 }) (n % 10) rest (omega arith) (next text place (digit (n / 10)) (digit (n % 10) ∷ rest) e) ∙ rw (value, end) refl)

pub four_digits-there : (text : List ℕ) (place n : ℕ) (rest : List ℕ) → n ≤ 9999 → drop place text ≡ four_digits n ++ rest → four_digits_at text place ≡ Ok (record { value = n; end = place + 4 })
unfolding four_digits_at
four_digits-there text place n rest few e =
    let behind = next2 text place _ _ _ e in
    let value : 10 * (10 * (n / 100) + n % 100 / 10) + n % 100 % 10 ≡ n = omega arith in
    let end : place + 2 + 1 + 1 ≡ place + 4 = omega arith in
    rw (
      two_digits-there text place (n / 100) (two_digits (n % 100) ++ rest) (omega arith) e,
      next_digit-there text (record { value = n / 100; end = place + 2 }) (n % 100 / 10) (digit (n % 100 % 10) ∷ rest) (omega arith) behind,
    )
    (next_digit-there text (record { value = 10 * (n / 100) + n % 100 / 10; end = place + 2 + 1 }) (n % 100 % 10) rest (omega arith) (next text (place + 2) _ _ behind) ∙ rw (value, end) refl)
