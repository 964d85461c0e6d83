-- Names and patterns are ASCII, and so they are text.
use Rattle.std.proofs.Common.{◌≡◌, ◌<◌, ◌&&◌, ℕ, Bool, true, List, [], ◌∷◌, arith, suc, zero, lit<, IsAscii, IsUtf8}
use Rattle.std.specs.List.{list_all}
use Rattle.std.proofs.lemmas.Str.{IsUtf8-from_ascii}
use Rattle.std.proofs.lemmas.Bool.Decides.{nat_tests}
use Rattle.qm_kinds.specs.Text.{IsText, is_name_byte, is_pattern_byte}

pattern_byte_is_ascii : (b : ℕ) → is_pattern_byte b ≡ true → b < 128
pattern_byte_is_ascii b h = grind (arith, nat_tests)

name_byte_is_ascii : (b : ℕ) → is_name_byte b ≡ true → b < 128
name_byte_is_ascii b h = grind (arith, nat_tests)

both : (x y : Bool) → (x && y) ≡ true → (x ≡ true) × (y ≡ true)
both x y h = grind arith

ascii_where : (allowed : ℕ → Bool) → ((b : ℕ) → allowed b ≡ true → b < 128) → (text : List ℕ) → list_all allowed text ≡ true → IsAscii text
ascii_where allowed low [] h i = lit< tt
ascii_where allowed low (b ∷ bs) h zero = low b (both (allowed b) (list_all allowed bs) h).0
ascii_where allowed low (b ∷ bs) h (suc i) = ascii_where allowed low bs (both (allowed b) (list_all allowed bs) h).1 i

pub name_is_text : (name : List ℕ) → IsText is_name_byte name → IsUtf8 name
name_is_text name lawful = IsUtf8-from_ascii name (ascii_where is_name_byte name_byte_is_ascii name lawful.lawful)

pub pattern_is_text : (pattern : List ℕ) → IsText is_pattern_byte pattern → IsUtf8 pattern
pattern_is_text pattern lawful = IsUtf8-from_ascii pattern (ascii_where is_pattern_byte pattern_byte_is_ascii pattern lawful.lawful)
