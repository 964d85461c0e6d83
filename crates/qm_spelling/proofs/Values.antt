-- What values say is read back.
use Rattle.std.proofs.Common.{◌≡◌, ℕ, ◌+◌, ◌-◌, ◌*◌, ◌<◌, ◌≤◌, ◌^◌, Bool, true, false, not, cond, ◌&&◌, List, [], ◌∷◌, length, map, decimal, Option, None, Some, Ok, refl, ap, ◌∙◌, arith, fold, nat_le, nat_lt, leb-true, le-leb, le-ltb}
use Rattle.std.specs.Result.{result_ok}
use Rattle.std.specs.List.{list_all, position, position_or_len}
use Rattle.std.specs.Char.{is_ascii_digit, to_ascii_uppercase}
use Rattle.std.proofs.lemmas.Bool.Decides.{nat_tests}
use Rattle.std.proofs.lemmas.Fmt.{digits_decimal, digits_value-decimal, decimal_nonempty}
use Rattle.std.proofs.lemmas.Str.Parse.{IsDigitsTest, IsNumeralModel, numerals_by_fold}
use Rattle.qm_model.specs.Common.{name_of, value_of}
use Rattle.qm_kinds.specs.Text.{IsText, is_name_byte, is_pattern_byte, text_of, text_unless}
use Rattle.qm_dcl.specs.Values.{are_digits, number_to, pattern_said}

and_left : (a b : Bool) → a && b ≡ true → a ≡ true
and_left true b h = refl
and_left false b h = absurd cc

and_right : (a b : Bool) → a && b ≡ true → b ≡ true
and_right true b h = h
and_right false b h = absurd cc

-- ---- numbers

is_digits : IsDigitsTest (λ ds. list_all is_ascii_digit ds ≡ true)
is_digits = record {
  empty = refl;
  parts = λ c cs h. (
    (leb-true 48 c (and_left _ _ (and_left (is_ascii_digit c) _ h)), leb-true c 57 (and_right (nat_le 48 c) _ (and_left (is_ascii_digit c) _ h))),
    and_right (is_ascii_digit c) _ h,
  );
  more = λ c cs range h. let low = le-leb 48 c range.0 in let high = le-leb c 57 range.1 in rw (low, high, h) refl;
}

numerals : IsNumeralModel (λ ds. list_all is_ascii_digit ds ≡ true) value_of
numerals = numerals_by_fold (λ ds. list_all is_ascii_digit ds ≡ true) is_digits (λ n ds. fold (λ m digit. m * 10 + (digit - 48)) n ds) (record { empty = λ n. refl; more = λ n c cs range. refl })

-- a number in decimal is digits
pub decimal_is_digits : (n : ℕ) → n < 2 ^ 64 → are_digits (decimal n) ≡ true
decimal_is_digits n small =
    let digits : list_all is_ascii_digit (decimal n) ≡ true = digits_decimal numerals n small in
    let some : nat_lt 0 (length (decimal n)) ≡ true = le-leb 1 (length (decimal n)) (omega (arith, decimal_nonempty n small)) in
    rw (digits, some) refl

number_where : (digits : Bool) (value most n : ℕ) → digits ≡ true → value ≡ n → nat_le n most ≡ true → cond (digits && nat_le value most) (Some value) None ≡ Some n
number_where digits value most n is said within = rw (is, said, within) refl

-- and they say the number
pub number_reads_back : (most n : ℕ) → n ≤ most → n < 2 ^ 64 → number_to most (decimal n) ≡ Some n
number_reads_back most n within small =
    number_where (are_digits (decimal n)) (value_of (decimal n)) most n (decimal_is_digits n small) (digits_value-decimal numerals n small) (le-leb n most within)

-- ---- names and patterns

small_enough : (b : ℕ) → is_pattern_byte b ≡ true → b < 97
small_enough b h = grind (arith, nat_tests)

stays : (b : ℕ) → is_pattern_byte b ≡ true → to_ascii_uppercase b ≡ b
stays b h = let small = small_enough b h in grind (arith, nat_tests)

-- bytes that a test lets pass, all of which may stand in a pattern, are not raised
module _ (allowed : ℕ → Bool) (low : (b : ℕ) → allowed b ≡ true → is_pattern_byte b ≡ true) where
  all_stay : (xs : List ℕ) → list_all allowed xs ≡ true → map to_ascii_uppercase xs ≡ xs
  all_stay [] h = refl
  all_stay (x ∷ xs) h =
      let first = stays x (low x (and_left _ _ h)) in
      let others : map to_ascii_uppercase xs ≡ xs = all_stay xs (and_right (allowed x) (list_all allowed xs) h) in
      cc

  none_bad : (xs : List ℕ) → list_all allowed xs ≡ true → position_or_len (λ b. not (allowed (to_ascii_uppercase b))) xs ≡ length xs
  none_bad [] h = refl
  none_bad (x ∷ xs) h =
      let first = stays x (low x (and_left _ _ h)) in
      let passes : allowed (to_ascii_uppercase x) ≡ true = ap allowed first ∙ and_left _ _ h in
      let others : position_or_len (λ b. not (allowed (to_ascii_uppercase b))) xs ≡ length xs = none_bad xs (and_right _ _ h) in
      rw passes (ap (λ n. 1 + n) others ∙ omega arith)

  unless_none : (bad : Option ℕ) (text : List ℕ) → bad ≡ None → 0 < length text → length text ≤ 39
      → map to_ascii_uppercase text ≡ text → text_unless bad text ≡ Ok text
  unless_none bad text none some few same = first_of (grind (arith, nat_tests), grind arith)

  text_reads_back : (text : List ℕ) → IsText allowed text → text_of allowed text ≡ Ok text
  text_reads_back text h =
      let late = none_bad text h.lawful in
      let none : position (λ b. not (allowed (to_ascii_uppercase b))) text ≡ None =
      rw late (rw (le-ltb (length text) (length text) (omega arith)) refl) in
      unless_none (position (λ b. not (allowed (to_ascii_uppercase b))) text) text none h.some h.few (all_stay text h.lawful)

name_bytes_stand : (b : ℕ) → is_name_byte b ≡ true → is_pattern_byte b ≡ true
name_bytes_stand b h = rw h refl

-- a name says itself
pub name_reads_back : (name : List ℕ) → IsText is_name_byte name → name_of name ≡ Some name
name_reads_back name lawful = ap result_ok (text_reads_back is_name_byte name_bytes_stand name lawful)

-- and so does a pattern
pub pattern_reads_back : (pattern : List ℕ) → IsText is_pattern_byte pattern → pattern_said pattern ≡ Some pattern
pattern_reads_back pattern lawful = ap result_ok (text_reads_back is_pattern_byte (λ b h. h) pattern lawful)
