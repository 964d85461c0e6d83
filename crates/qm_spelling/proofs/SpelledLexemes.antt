-- The tokens of a text that is put together of words, quoted strings and signs, with blanks between them.
use Rattle.std.proofs.Common.{◌≡◌, ◌<◌, ◌+◌, ◌-◌, ℕ, zero, suc, List, [], ◌∷◌, ◌++◌, drop, take, length, Some, Bool, true, false, ◌||◌, not, ◌==◌, if◌then◌else◌, nat_le, slice_range, Result, Ok, refl, sym, ◌∙◌, ap, arith, append_assoc, length-append, option_map, le-leb, take_at, drop_at}
use Rattle.std.specs.List.{list_all}
use Rattle.qm_commands.specs.TokenBytes.{sort_of, is_word, word_length, quoted_length}
use Rattle.qm_commands.specs.Tokens.{piece_of, tokens_from, with_piece, one_more}
use Rattle.qm_commands.specs.declared.tokens.byte.Sort.{Sort}
use Rattle.qm_commands.specs.declared.tokens.byte.Sort.TheVariants as sorts
use Rattle.qm_commands.specs.declared.tokens.token.TokenKind.{TokenKind}
use Rattle.qm_commands.specs.declared.tokens.token.TokenKind.TheVariants as kinds
use Rattle.qm_commands.specs.declared.tokens.token.Piece.{Piece}
use Rattle.qm_commands.specs.declared.tokens.token.Piece.TheVariants.{Takes}
use Rattle.qm_commands.specs.declared.tokens.token.Token.{Token}
use Rattle.qm_commands.specs.Spelled.{bytes_of}
use Rattle.qm_spelling.proofs.SpelledTruth.{and_left, and_right}

-- ---- what is spelled

-- a token to be: with a blank in front or without one, its kind, and its bytes
pub record Lexeme : Type 0 where
  pub blank : Bool
  pub kind : TokenKind
  pub bytes : List ℕ

-- the text of such tokens
abbrev pub text_of : List Lexeme → List ℕ
text_of [] = []
text_of (l ∷ ls) = (if l.blank then 32 ∷ l.bytes else l.bytes) ++ text_of ls

-- where a token begins, of which the blank in front of it stands at this place
abbrev pub start_at : Bool → ℕ → ℕ
start_at true at = at + 1
start_at false at = at

abbrev pub token_at : ℕ → Lexeme → Token
token_at at l = record { kind = l.kind; start = start_at l.blank at; end = start_at l.blank at + length l.bytes }

-- the tokens that stand there from a place on
abbrev pub placed : ℕ → List Lexeme → List Token
placed at [] = []
placed at (l ∷ ls) = token_at at l ∷ placed (start_at l.blank at + length l.bytes) ls

-- ---- what can be told apart

-- a byte of a word
abbrev pub is_word_byte : ℕ → Bool
is_word_byte b = is_word (sort_of b)

-- what the bytes of a token of a kind are; within quotes stands no other quote
abbrev pub Are : TokenKind → List ℕ → Type 0
Are kinds.Word bytes = (0 < length bytes) × (list_all is_word_byte bytes ≡ true)
Are kinds.Quoted bytes = (inside : List ℕ) × (list_all (λ b. not (b == 34)) inside ≡ true) × (bytes ≡ 34 ∷ inside ++ 34 ∷ [])
Are kinds.Slash bytes = bytes ≡ 47 ∷ []
Are kinds.Equals bytes = bytes ≡ 61 ∷ []
Are kinds.Open bytes = bytes ≡ 40 ∷ []
Are kinds.Close bytes = bytes ≡ 41 ∷ []
Are kinds.Comma bytes = bytes ≡ 44 ∷ []

-- a token that ends the one before
abbrev pub is_sign : TokenKind → Bool
is_sign kinds.Word = false
is_sign kinds.Quoted = false
is_sign kinds.Slash = true
is_sign kinds.Equals = true
is_sign kinds.Open = true
is_sign kinds.Close = true
is_sign kinds.Comma = true

abbrev pub ends : List Lexeme → Bool
ends [] = true
ends (l ∷ ls) = l.blank || is_sign l.kind

-- a word and a quoted string end where a blank or a sign comes, and nothing else may stand behind them
abbrev pub Fits : List Lexeme → Type 0
Fits [] = Unit {0}
Fits (l ∷ ls) = Are l.kind l.bytes × ((is_sign l.kind || ends ls) ≡ true) × Fits ls

-- ---- a text's first byte

-- neither a byte of a word nor a quote
abbrev pub Apart : List ℕ → Type 0
Apart [] = Unit {0}
Apart (b ∷ rest) = (is_word_byte b ≡ false) × ((b == 34) ≡ false)

sign_apart : (kind : TokenKind) (bytes rest : List ℕ) → is_sign kind ≡ true → Are kind bytes → Apart (bytes ++ rest)
sign_apart kinds.Word bytes rest sign are = absurd cc
sign_apart kinds.Quoted bytes rest sign are = absurd cc
sign_apart kinds.Slash bytes rest sign are = rw are (refl, refl)
sign_apart kinds.Equals bytes rest sign are = rw are (refl, refl)
sign_apart kinds.Open bytes rest sign are = rw are (refl, refl)
sign_apart kinds.Close bytes rest sign are = rw are (refl, refl)
sign_apart kinds.Comma bytes rest sign are = rw are (refl, refl)

apart_by : (blank : Bool) (kind : TokenKind) (bytes rest : List ℕ) → (blank || is_sign kind) ≡ true → Are kind bytes → Apart ((if blank then 32 ∷ bytes else bytes) ++ rest)
apart_by true kind bytes rest h are = (refl, refl)
apart_by false kind bytes rest h are = sign_apart kind bytes rest h are

apart : (ls : List Lexeme) → ends ls ≡ true → Fits ls → Apart (text_of ls)
apart [] h fit = tt
apart (l ∷ ls) h fit = apart_by l.blank l.kind l.bytes (text_of ls) h fit.0

-- ---- tokens of a text

-- what is left of a token is passed over
passed : (left at : ℕ) (text : List ℕ) → tokens_from left at text ≡ tokens_from 0 (at + left) (drop left text)
passed zero at text = ap (λ (n : ℕ). tokens_from 0 n text) (omega arith)
passed (suc left) at [] = refl
passed (suc left) at (b ∷ rest) = passed left (at + 1) rest ∙ ap (λ (n : ℕ). tokens_from 0 n (drop left rest)) (omega arith)

-- a token takes these bytes of a text
taken : (b : ℕ) (bytes rest : List ℕ) (at : ℕ) (kind : TokenKind) → piece_of (sort_of b) (bytes ++ rest) ≡ Takes kind (1 + length bytes)
    → tokens_from 0 at (b ∷ bytes ++ rest) ≡ one_more (record { kind = kind; start = at; end = at + suc (length bytes) }) (tokens_from 0 (at + suc (length bytes)) rest)
taken b bytes rest at kind is =
    ap (λ (p : Piece). with_piece p at (λ left. tokens_from left (at + 1) (bytes ++ rest))) is
    ∙ ap (λ (more : Result (List Token) ℕ). one_more (record { kind = kind; start = at; end = at + (1 + length bytes) }) more) (
    passed (1 + length bytes - 1) (at + 1) (bytes ++ rest)
    ∙ ap (λ (n : ℕ). tokens_from 0 (at + 1 + n) (drop n (bytes ++ rest))) (omega arith)
    ∙ ap (λ (text : List ℕ). tokens_from 0 (at + 1 + length bytes) text) (drop_at bytes rest (length bytes) refl)
    )
    ∙ ap (λ (n : ℕ). one_more (record { kind = kind; start = at; end = at + (1 + length bytes) }) (tokens_from 0 n rest)) (omega arith)
    ∙ ap (λ (n : ℕ). one_more (record { kind = kind; start = at; end = at + n }) (tokens_from 0 (at + suc (length bytes)) rest)) (omega arith)

word_stops : (text : List ℕ) → Apart text → word_length text ≡ 0
word_stops [] apart = refl
word_stops (b ∷ rest) apart = rw apart.0 refl

word_goes : (bytes rest : List ℕ) → list_all is_word_byte bytes ≡ true → Apart rest → word_length (bytes ++ rest) ≡ length bytes
word_goes [] rest all apart = word_stops rest apart
word_goes (b ∷ bytes) rest all apart =
    rw (and_left (is_word_byte b) _ all) (omega (arith, word_goes bytes rest (and_right (is_word_byte b) _ all) apart))

is_word_sort : (sort : Sort) → is_word sort ≡ true → sort ≡ sorts.Word
is_word_sort sorts.Word h = refl
is_word_sort sorts.Blank h = absurd cc
is_word_sort sorts.Comment h = absurd cc
is_word_sort sorts.Quote h = absurd cc
is_word_sort (sorts.Mark kind) h = absurd cc
is_word_sort sorts.Other h = absurd cc

-- a word
word_taken : (bytes rest : List ℕ) (at : ℕ) → Are kinds.Word bytes → Apart rest
    → tokens_from 0 at (bytes ++ rest) ≡ one_more (record { kind = kinds.Word; start = at; end = at + length bytes }) (tokens_from 0 (at + length bytes) rest)
word_taken [] rest at are apart = absurd (omega (arith, are.0))
word_taken (b ∷ bytes) rest at are apart =
    let sort : sort_of b ≡ sorts.Word = is_word_sort (sort_of b) (and_left (is_word_byte b) _ are.1) in
    taken b bytes rest at kinds.Word
    (ap (λ (s : Sort). piece_of s (bytes ++ rest)) sort
    ∙ ap (λ (n : ℕ). Takes kinds.Word (1 + n)) (word_goes bytes rest (and_right (is_word_byte b) _ are.1) apart))

quote_stops : (text : List ℕ) → Apart text → quoted_length true text ≡ Some 0
quote_stops [] apart = refl
quote_stops (b ∷ rest) apart = rw apart.1 refl

not_quote : (b : Bool) → not b ≡ true → b ≡ false
not_quote true h = absurd cc
not_quote false h = refl

quote_goes : (inside rest : List ℕ) → list_all (λ b. not (b == 34)) inside ≡ true → Apart rest → quoted_length false ((inside ++ 34 ∷ []) ++ rest) ≡ Some (length (inside ++ 34 ∷ []))
quote_goes [] rest all apart = ap (option_map (λ n. 1 + n)) (quote_stops rest apart)
quote_goes (b ∷ inside) rest all apart =
    rw (not_quote (b == 34) (and_left (not (b == 34)) _ all))
    (ap (option_map (λ n. 1 + n)) (quote_goes inside rest (and_right (not (b == 34)) _ all) apart) ∙ ap (λ (n : ℕ). Some n) (omega arith))

quoted_taken : (inside rest : List ℕ) (at : ℕ) → list_all (λ b. not (b == 34)) inside ≡ true → Apart rest
    → tokens_from 0 at ((34 ∷ inside ++ 34 ∷ []) ++ rest)
    ≡ one_more (record { kind = kinds.Quoted; start = at; end = at + length (34 ∷ inside ++ 34 ∷ []) }) (tokens_from 0 (at + length (34 ∷ inside ++ 34 ∷ [])) rest)
quoted_taken inside rest at all apart = taken 34 (inside ++ 34 ∷ []) rest at kinds.Quoted (rw (quote_goes inside rest all apart) refl)

sign_taken : (b : ℕ) (kind : TokenKind) (bytes rest : List ℕ) (at : ℕ) → bytes ≡ b ∷ [] → sort_of b ≡ sorts.Mark kind
    → tokens_from 0 at (bytes ++ rest) ≡ one_more (record { kind = kind; start = at; end = at + length bytes }) (tokens_from 0 (at + length bytes) rest)
sign_taken b kind bytes rest at are sort = rw are (taken b [] rest at kind (ap (λ (s : Sort). piece_of s rest) sort))

token_taken : (kind : TokenKind) (bytes rest : List ℕ) (at : ℕ) → Are kind bytes → (is_sign kind ≡ false → Apart rest)
    → tokens_from 0 at (bytes ++ rest) ≡ one_more (record { kind = kind; start = at; end = at + length bytes }) (tokens_from 0 (at + length bytes) rest)
token_taken kinds.Word bytes rest at are apart = word_taken bytes rest at are (apart refl)
token_taken kinds.Quoted bytes rest at are apart = rw are.2 (quoted_taken are.0 rest at are.1 (apart refl))
token_taken kinds.Slash bytes rest at are apart = sign_taken 47 kinds.Slash bytes rest at are refl
token_taken kinds.Equals bytes rest at are apart = sign_taken 61 kinds.Equals bytes rest at are refl
token_taken kinds.Open bytes rest at are apart = sign_taken 40 kinds.Open bytes rest at are refl
token_taken kinds.Close bytes rest at are apart = sign_taken 41 kinds.Close bytes rest at are refl
token_taken kinds.Comma bytes rest at are apart = sign_taken 44 kinds.Comma bytes rest at are refl

blank_passed : (blank : Bool) (bytes rest : List ℕ) (at : ℕ) → tokens_from 0 at ((if blank then 32 ∷ bytes else bytes) ++ rest) ≡ tokens_from 0 (start_at blank at) (bytes ++ rest)
blank_passed true bytes rest at = refl
blank_passed false bytes rest at = refl

other : (a b : Bool) → (a || b) ≡ true → a ≡ false → b ≡ true
other true b h first = absurd cc
other false b h first = h

-- the tokens of such a text are those
pub lexed : (ls : List Lexeme) (at : ℕ) → Fits ls → tokens_from 0 at (text_of ls) ≡ Ok (placed at ls)
lexed [] at fit = refl
lexed (l ∷ ls) at fit =
    blank_passed l.blank l.bytes (text_of ls) at
    ∙ token_taken l.kind l.bytes (text_of ls) (start_at l.blank at) fit.0 (λ word. apart ls (other (is_sign l.kind) (ends ls) fit.1 word) fit.2)
    ∙ ap (one_more (token_at at l)) (lexed ls (start_at l.blank at + length l.bytes) fit.2)

-- ---- what they say

-- these tokens are of these kinds, and have these bytes
abbrev pub Say : List ℕ → List Token → List Lexeme → Type 0
Say text [] [] = Unit {0}
Say text [] (l ∷ ls) = ⊥
Say text (t ∷ ts) [] = ⊥
Say text (t ∷ ts) (l ∷ ls) = (bytes_of text t ≡ l.bytes) × Say text ts ls

cut : (front bytes rest : List ℕ) → slice_range (front ++ (bytes ++ rest)) (length front) (length front + length bytes) ≡ bytes
cut front bytes rest =
    ap (λ (text : List ℕ). take (length front + length bytes - length front) text) (drop_at front (bytes ++ rest) (length front) refl)
    ∙ take_at bytes rest (length front + length bytes - length front) (omega arith)

bytes_are : (front bytes rest : List ℕ) (kind : TokenKind) (start end : ℕ) → start ≡ length front → end ≡ start + length bytes
    → bytes_of (front ++ (bytes ++ rest)) (record { kind = kind; start = start; end = end }) ≡ bytes
bytes_are front bytes rest kind start end s e =
    let order : nat_le start end ≡ true = le-leb start end (omega arith) in
    let within : nat_le end (length (front ++ (bytes ++ rest))) ≡ true = le-leb end _ (omega (arith, length-append front (bytes ++ rest), length-append bytes rest)) in
    rw (order, within) (rw (e, s) (cut front bytes rest))

-- the blank in front of a token, if there is one
abbrev lead : Bool → List ℕ
lead true = 32 ∷ []
lead false = []

lead_is : (blank : Bool) (bytes rest : List ℕ) → (if blank then 32 ∷ bytes else bytes) ++ rest ≡ lead blank ++ (bytes ++ rest)
lead_is true bytes rest = refl
lead_is false bytes rest = refl

lead_takes : (blank : Bool) (at : ℕ) (front : List ℕ) → at ≡ length front → start_at blank at ≡ length (front ++ lead blank)
lead_takes true at front here = omega (arith, length-append front (32 ∷ []))
lead_takes false at front here = omega (arith, length-append {A = ℕ} front [])

-- the tokens of a text from a place on say what was spelled, whatever stands in front
said_from : (front : List ℕ) (ls : List Lexeme) (at : ℕ) (text : List ℕ) → at ≡ length front → text ≡ front ++ text_of ls → Say text (placed at ls) ls
said_from front [] at text here is = tt
said_from front (l ∷ ls) at text here is =
    let start : start_at l.blank at ≡ length (front ++ lead l.blank) = lead_takes l.blank at front here in
    let whole : text ≡ (front ++ lead l.blank) ++ (l.bytes ++ text_of ls) =
    is ∙ ap (λ (more : List ℕ). front ++ more) (lead_is l.blank l.bytes (text_of ls)) ∙ sym (append_assoc front (lead l.blank) (l.bytes ++ text_of ls)) in
    let behind : text ≡ ((front ++ lead l.blank) ++ l.bytes) ++ text_of ls = whole ∙ sym (append_assoc (front ++ lead l.blank) l.bytes (text_of ls)) in (
      ap (λ (all : List ℕ). bytes_of all (token_at at l)) whole
          ∙ bytes_are (front ++ lead l.blank) l.bytes (text_of ls) l.kind (start_at l.blank at) (start_at l.blank at + length l.bytes) start refl,
      said_from ((front ++ lead l.blank) ++ l.bytes) ls (start_at l.blank at + length l.bytes) text
          (omega (arith, start, length-append (front ++ lead l.blank) l.bytes)) behind,
    )

pub said : (ls : List Lexeme) → Say (text_of ls) (placed 0 ls) ls
said ls = said_from [] ls 0 (text_of ls) refl refl
