-- Names, numbers and times as words of a command, and what they say.
use Rattle.std.proofs.Common.{◌≡◌, ◌<◌, ◌^◌, ℕ, List, [], ◌∷◌, decimal, Some, Bool, true, refl, ap, ◌∙◌, arith, option_and_then}
use Rattle.std.specs.List.{list_all}
use Rattle.std.specs.Char.{is_ascii_digit}
use Rattle.std.proofs.lemmas.Bool.Decides.{nat_tests}
use Rattle.std.proofs.lemmas.Fmt.{decimal_nonempty}
use Rattle.qm_model.specs.Common.{IsText, is_name_byte, is_pattern_byte, is_short, is_definable}
use Rattle.qm_dcl.specs.Values.{if_passes, short_name_said, definable_name_said, is_node_name, node_said}
use Rattle.qm_spelling.proofs.Values.{name_reads_back, decimal_is_digits}
use Rattle.qm_spelling.proofs.SpelledLexemes.{is_word_byte}
use Rattle.qm_spelling.proofs.SpelledPieces.{IsWord}
use Rattle.qm_spelling.proofs.SpelledTruth.{and_left, and_right}

-- ---- words

-- where a test lets no other bytes pass, what passes it is made of bytes of words
all_word : (p : ℕ → Bool) → ((b : ℕ) → p b ≡ true → is_word_byte b ≡ true) → (bytes : List ℕ) → list_all p bytes ≡ true → list_all is_word_byte bytes ≡ true
all_word p word [] h = refl
all_word p word (b ∷ bytes) h = rw (word b (and_left (p b) _ h)) (all_word p word bytes (and_right (p b) _ h))

pattern_byte : (b : ℕ) → is_pattern_byte b ≡ true → is_word_byte b ≡ true
pattern_byte b h = grind (arith, nat_tests)

name_byte : (b : ℕ) → is_name_byte b ≡ true → is_word_byte b ≡ true
name_byte b h = pattern_byte b (rw h refl)

digit_byte : (b : ℕ) → is_ascii_digit b ≡ true → is_word_byte b ≡ true
digit_byte b h = grind (arith, nat_tests)

pub name_word : (name : List ℕ) → IsText is_name_byte name → IsWord name
name_word name lawful = (lawful.some, all_word is_name_byte name_byte name lawful.lawful)

pub pattern_word : (pattern : List ℕ) → IsText is_pattern_byte pattern → IsWord pattern
pattern_word pattern lawful = (lawful.some, all_word is_pattern_byte pattern_byte pattern lawful.lawful)

pub number_word : (n : ℕ) → n < 2 ^ 64 → IsWord (decimal n)
number_word n small =
    (decimal_nonempty n small, all_word is_ascii_digit digit_byte (decimal n) (and_left (list_all is_ascii_digit (decimal n)) _ (decimal_is_digits n small)))

-- ---- names

passing : (p : List ℕ → Bool) (name : List ℕ) → p name ≡ true → if_passes p name ≡ Some name
passing p name h = rw h refl

pub short_said : (name : List ℕ) → IsText is_name_byte name → is_short name ≡ true → short_name_said name ≡ Some name
short_said name lawful short = ap (option_and_then (if_passes is_short)) (name_reads_back name lawful) ∙ passing is_short name short

pub definable_said : (name : List ℕ) → IsText is_name_byte name → is_definable name ≡ true → definable_name_said name ≡ Some name
definable_said name lawful definable = ap (option_and_then (if_passes is_definable)) (name_reads_back name lawful) ∙ passing is_definable name definable

pub node_name_said : (name : List ℕ) → IsText is_name_byte name → is_node_name name ≡ true → node_said name ≡ Some name
node_name_said name lawful short = ap (option_and_then (if_passes is_node_name)) (name_reads_back name lawful) ∙ passing is_node_name name short
