-- What the bytes of a command's text are, and how far words and quoted strings reach.
-- OpenVMS User's Manual, on entering commands.
use Rattle.std.specs.Prelude.{ℕ, ◌+◌, ◌==◌, nat_lt, Bool, true, false, ◌&&◌, ◌||◌, if◌then◌else◌, List, [], ◌∷◌, Option, None, Some, option_map}
use Rattle.qm_commands.specs.declared.tokens.byte.Sort.{Sort}
use Rattle.qm_commands.specs.declared.tokens.byte.Sort.TheVariants.{Blank, Comment, Quote, Mark, Word, Other}
use Rattle.qm_commands.specs.declared.tokens.token.TokenKind.TheVariants.{Slash, Equals, Open, Close, Comma}

-- what a byte is outside quotes: each mark is a token of its own, and words are of the other bytes that print
abbrev pub sort_of : ℕ → Sort
sort_of b =
    if b == 32 || b == 9 then Blank
    else if b == 33 then Comment
    else if b == 34 then Quote
    else if b == 47 then Mark Slash
    else if b == 61 then Mark Equals
    else if b == 40 then Mark Open
    else if b == 41 then Mark Close
    else if b == 44 then Mark Comma
    else if nat_lt 32 b && nat_lt b 127 then Word
    else Other

abbrev pub is_word : Sort → Bool
is_word Word = true
is_word Blank = false
is_word Comment = false
is_word Quote = false
is_word (Mark kind) = false
is_word Other = false

-- how many bytes the word takes with which a text begins: as far as its bytes go
abbrev pub word_length : List ℕ → ℕ
word_length [] = 0
word_length (b ∷ rest) = if is_word (sort_of b) then 1 + word_length rest else 0

-- How many bytes a quoted string takes behind its first quote, its last one included. It ends behind a quote that no other
-- follows; two quotes one behind the other stand for one. The truth value says whether a single quote stands just before.
abbrev pub quoted_length : Bool → List ℕ → Option ℕ
quoted_length false [] = None
quoted_length true [] = Some 0
quoted_length false (b ∷ rest) = option_map (λ n. 1 + n) (quoted_length (b == 34) rest)
quoted_length true (b ∷ rest) = if b == 34 then option_map (λ n. 1 + n) (quoted_length false rest) else Some 0
