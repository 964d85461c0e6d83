-- Hexadecimal text.
use Rattle.std.proofs.Common.{◌≡◌, ◌≢◌, ◌⊎◌, inl, inr, ℕ, ◌+◌, ◌*◌, ◌/◌, ◌%◌, ◌==◌, nat_le, Bool, true, false, ◌&&◌, List, [], ◌∷◌, length, Option, None, Some, Result, Ok, Err, refl, sym, ◌∙◌, ap, subst, arith, is_some, option_map, option_and_then, eqb-true}
use Rattle.std.specs.List.{list_all}
use Rattle.std.proofs.lemmas.Bool.Decides.{nat_tests}
use Rattle.hex.specs.Hex.{decode_of, decode_pairs, digit_or_error, hex_digit_value, pair_value, ◌>>=◌}
use Rattle.hex.specs.declared.error.FromHexError.{FromHexError}
use Rattle.hex.specs.declared.error.FromHexError.TheVariants.{OutOfMemory}
use Rattle.qm_kinds.specs.declared.file.FileName.{FileName}
use Rattle.qm_history.specs.Acts.{bytes_by, hex_byte, hex_bytes, hex_digit, malformed}
use Rattle.qm_script.specs.Asked.{can_be_added, is_count}
use Rattle.qm_script.specs.Wanting.{TakesMemory}

-- ---- what is read of a text

digit_is : (b : ℕ) → hex_digit_value b ≡ hex_digit b
digit_is b = grind (arith, nat_tests)

-- what is read, where something is
abbrev read_of : {X : Type 0} → Result X FromHexError → Option X
read_of (Ok x) = Some x
read_of (Err e) = None

abbrev byte_of : Option ℕ → Option ℕ → Option ℕ
byte_of high low = option_and_then (λ (h : ℕ). option_map (λ (l : ℕ). h * 16 + l) low) high

abbrev pair_of : ℕ → ℕ → ℕ → Option ℕ → Option ℕ → Result ℕ FromHexError
pair_of high low i h l = do
  a ← digit_or_error high i h
  b ← digit_or_error low (i + 1) l
  Ok (a * 16 + b)

by_digits : (high low i : ℕ) (h l : Option ℕ) → read_of (pair_of high low i h l) ≡ byte_of h l
by_digits high low i (Some h) (Some l) = refl
by_digits high low i (Some h) None = refl
by_digits high low i None l = refl

byte_is : (high low i : ℕ) → read_of (pair_value high low i) ≡ hex_byte high low
byte_is high low i =
    by_digits high low i (hex_digit_value high) (hex_digit_value low)
    ∙ ap (λ (h : Option ℕ). byte_of h (hex_digit_value low)) (digit_is high) ∙ ap (byte_of (hex_digit high)) (digit_is low)

abbrev bytes_of : Option ℕ → Option (List ℕ) → Option (List ℕ)
bytes_of byte others = option_and_then (λ (b : ℕ). option_map (λ (bytes : List ℕ). b ∷ bytes) others) byte

abbrev both_of : Result ℕ FromHexError → Result (List ℕ) FromHexError → Result (List ℕ) FromHexError
both_of pair others = do
  byte ← pair
  bytes ← others
  Ok (byte ∷ bytes)

both_read : (pair : Result ℕ FromHexError) (others : Result (List ℕ) FromHexError) → read_of (both_of pair others) ≡ bytes_of (read_of pair) (read_of others)
both_read (Ok byte) (Ok bytes) = refl
both_read (Ok byte) (Err e) = refl
both_read (Err e) others = refl

pairs_read : (i : ℕ) (text : List ℕ) → read_of (decode_pairs i text) ≡ hex_bytes text
unfolding decode_pairs
pairs_read i [] = refl
pairs_read i (digit ∷ []) = refl
pairs_read i (high ∷ low ∷ rest) =
    both_read (pair_value high low i) (decode_pairs (i + 2) rest)
    ∙ ap (λ (b : Option ℕ). bytes_of b (read_of (decode_pairs (i + 2) rest))) (byte_is high low i)
    ∙ ap (bytes_of (hex_byte high low)) (pairs_read (i + 2) rest)

-- an odd digit has no partner
no_bytes : (byte : Option ℕ) → bytes_of byte None ≡ None
no_bytes None = refl
no_bytes (Some b) = refl

odd_none : (text : List ℕ) → length text % 2 ≡ 1 → hex_bytes text ≡ None
odd_none [] odd = absurd (omega (arith, odd))
odd_none (digit ∷ []) odd = refl
odd_none (high ∷ low ∷ rest) odd =
    let less : length rest % 2 ≡ 1 = omega (arith, odd) in
    ap (bytes_of (hex_byte high low)) (odd_none rest less) ∙ no_bytes (hex_byte high low)

text_read : (text : List ℕ) → read_of (decode_of text) ≡ hex_bytes text
text_read text = by_test (length text % 2 == 1) refl
  where
    by_test : (odd : Bool) → (length text % 2 == 1) ≡ odd → read_of (decode_of text) ≡ hex_bytes text
    by_test true is = rw is (sym (odd_none text (eqb-true (length text % 2) 1 is)))
    by_test false is = rw is (pairs_read 0 text)

pub decoded_ok : (text bytes : List ℕ) → decode_of text ≡ Ok bytes → Some bytes ≡ hex_bytes text
decoded_ok text bytes is = sym (ap read_of is) ∙ text_read text

pub decoded_err : (text : List ℕ) (e : FromHexError) → (e ≡ OutOfMemory) ⊎ (decode_of text ≡ Err e) → e ≢ OutOfMemory → None ≡ hex_bytes text
decoded_err text e (inl out) other = absurd (other out)
decoded_err text e (inr is) other = sym (ap read_of is) ∙ text_read text

-- ---- which texts spell bytes

abbrev is_hex : ℕ → Bool
is_hex b = is_some (hex_digit b)

abbrev are_pairs : List ℕ → Bool
are_pairs text = (length text % 2 == 0) && list_all is_hex text

abbrev Spelled : List ℕ → Option (List ℕ) → Type 0
Spelled text None = are_pairs text ≡ false
Spelled text (Some bytes) = (list_all is_hex text ≡ true) × (length text ≡ 2 * length bytes)

and_false : (b : Bool) → (b && false) ≡ false
and_false true = refl
and_false false = refl

two_more : (rest : List ℕ) (high low : ℕ) → (length (high ∷ low ∷ rest) % 2 == 0) ≡ (length rest % 2 == 0)
two_more rest high low =
    let same : length (high ∷ low ∷ rest) % 2 ≡ length rest % 2 = omega arith in
    ap (λ (n : ℕ). n == 0) same

pair_spelled : (high low : ℕ) (rest : List ℕ) (h l : Option ℕ) (others : Option (List ℕ)) → hex_digit high ≡ h → hex_digit low ≡ l → Spelled rest others
    → Spelled (high ∷ low ∷ rest) (bytes_of (byte_of h l) others)
pair_spelled high low rest (Some h) (Some l) (Some bytes) first second is = (rw (first, second) is.0, omega (arith, is.1))
pair_spelled high low rest (Some h) (Some l) None first second is = rw (first, second, two_more rest high low) is
pair_spelled high low rest (Some h) None others first second is = rw (first, second) (and_false (length (high ∷ low ∷ rest) % 2 == 0))
pair_spelled high low rest None l others first second is = rw first (and_false (length (high ∷ low ∷ rest) % 2 == 0))

spelled : (text : List ℕ) → Spelled text (hex_bytes text)
spelled [] = (refl, refl)
spelled (digit ∷ []) = refl
spelled (high ∷ low ∷ rest) = pair_spelled high low rest (hex_digit high) (hex_digit low) (hex_bytes rest) refl refl (spelled rest)

pub odd_adds_nothing : (text : List ℕ) → length text % 2 ≡ 1 → false ≡ can_be_added (hex_bytes text)
odd_adds_nothing text odd = rw (odd_none text odd) refl

even_is : (n : ℕ) → n % 2 ≢ 1 → n % 2 ≡ 0
even_is n h = omega (arith, h)

digits_with : (text : List ℕ) (o : Option (List ℕ)) → length text % 2 ≡ 0 → Spelled text o → is_count (length text / 2) ≡ true → list_all is_hex text ≡ can_be_added o
digits_with text None even is fits =
    let none : (true && list_all is_hex text) ≡ false = subst (λ (b : Bool). (b && list_all is_hex text) ≡ false) (ap (λ (n : ℕ). n == 0) even) is in none
digits_with text (Some bytes) even is fits =
    let half : length text / 2 ≡ length bytes = omega (arith, is.1) in
    is.0 ∙ sym (sym (ap is_count half) ∙ fits)

-- where so many bytes can be added, the text spells some just where all are digits
pub digits_add : (text : List ℕ) → length text % 2 ≢ 1 → is_count (length text / 2) ≡ true → list_all is_hex text ≡ can_be_added (hex_bytes text)
digits_add text even fits = digits_with text (hex_bytes text) (even_is (length text) even) (spelled text) fits

others_with : (text : List ℕ) (o : Option (List ℕ)) → Spelled text o → is_count (length text / 2) ≡ false → false ≡ can_be_added o
others_with text None is few = refl
others_with text (Some bytes) is few =
    let half : length text / 2 ≡ length bytes = omega (arith, is.1) in
    sym (sym (ap is_count half) ∙ few)

pub others_add_nothing : (text : List ℕ) → is_count (length text / 2) ≡ false → false ≡ can_be_added (hex_bytes text)
others_add_nothing text few = others_with text (hex_bytes text) (spelled text) few

-- ---- acts

pub adding_takes : (file : FileName) (o : Option (List ℕ)) → can_be_added o ≡ true → TakesMemory (bytes_by (Some file) o)
adding_takes file None can = absurd (cc)
adding_takes file (Some bytes) can = rw can tt

pub not_added : (file : FileName) (o : Option (List ℕ)) → can_be_added o ≡ false → malformed ≡ bytes_by (Some file) o
not_added file None can = refl
not_added file (Some bytes) can = rw can refl
