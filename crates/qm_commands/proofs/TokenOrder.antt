-- The tokens of a text are in order.
use Rattle.std.proofs.Common.{◌≡◌, ◌≤◌, ◌+◌, ◌-◌, ℕ, zero, suc, List, [], ◌∷◌, length, Option, None, Some, IfSome, Bool, true, false, ◌==◌, if◌then◌else◌, Result, Ok, Err, refl, ◌∙◌, subst, arith, option_map}
use Rattle.qm_commands.specs.TokenBytes.{sort_of, is_word, word_length, quoted_length}
use Rattle.qm_commands.specs.Tokens.{quoted, piece_of, FitsIn, tokens_from, with_piece, one_more, AreInOrder}
use Rattle.qm_commands.specs.declared.tokens.byte.Sort.{Sort}
use Rattle.qm_commands.specs.declared.tokens.byte.Sort.TheVariants as sorts
use Rattle.qm_commands.specs.declared.tokens.token.Token.{Token}
use Rattle.qm_commands.specs.declared.tokens.token.Piece.{Piece}
use Rattle.qm_commands.specs.declared.tokens.token.Piece.TheVariants.{Takes, Blank, Comment, Unreadable}

one_within : (word : Bool) (n bytes : ℕ) → n ≤ bytes → (if word then 1 + n else 0) ≤ suc bytes
one_within true n bytes within = omega (arith, within)
one_within false n bytes within = omega arith

word_within : (text : List ℕ) → word_length text ≤ length text
word_within [] = omega arith
word_within (b ∷ rest) = one_within (is_word (sort_of b)) (word_length rest) (length rest) (word_within rest)

more_within : (o : Option ℕ) (bytes : ℕ) → IfSome o (λ n. n ≤ bytes) → IfSome (option_map (λ n. 1 + n) o) (λ n. n ≤ suc bytes)
more_within None bytes within = tt
more_within (Some n) bytes within = omega (arith, within)

closed_within : (quote : Bool) (o : Option ℕ) (bytes : ℕ) → IfSome o (λ n. n ≤ bytes) → IfSome (if quote then option_map (λ n. 1 + n) o else Some 0) (λ n. n ≤ suc bytes)
closed_within true o bytes within = more_within o bytes within
closed_within false o bytes within = omega arith

quoted_within : (state : Bool) (text : List ℕ) → IfSome (quoted_length state text) (λ n. n ≤ length text)
quoted_within false [] = tt
quoted_within true [] = omega arith
quoted_within false (b ∷ rest) = more_within (quoted_length (b == 34) rest) (length rest) (quoted_within (b == 34) rest)
quoted_within true (b ∷ rest) = closed_within (b == 34) (quoted_length false rest) (length rest) (quoted_within false rest)

quoted_fits : (o : Option ℕ) (bytes : ℕ) → IfSome o (λ n. n ≤ bytes) → FitsIn (bytes + 1) (quoted o)
quoted_fits None bytes within = tt
quoted_fits (Some n) bytes within = (omega arith, omega (arith, within))

piece_within : (sort : Sort) (rest : List ℕ) → FitsIn (length rest + 1) (piece_of sort rest)
piece_within sorts.Blank rest = tt
piece_within sorts.Comment rest = tt
piece_within sorts.Other rest = tt
piece_within (sorts.Mark kind) rest = (omega arith, omega arith)
piece_within sorts.Word rest = (omega arith, omega (arith, word_within rest))
piece_within sorts.Quote rest = quoted_fits (quoted_length false rest) (length rest) (quoted_within false rest)

-- what was read, and what wasn't
abbrev read : List Token → Result (List Token) ℕ
read tokens = Ok tokens

abbrev unread : ℕ → Result (List Token) ℕ
unread place = Err place

not_ok : (place : ℕ) (tokens : List Token) → unread place ≡ read tokens → ⊥
not_ok place tokens h = cc

same_tokens : (a b : List Token) → read a ≡ read b → a ≡ b
same_tokens a b h = cc

nothing_from : (left at : ℕ) → read [] ≡ tokens_from left at []
nothing_from zero at = refl
nothing_from (suc left) at = refl

ok_of : (token : Token) (more : Result (List Token) ℕ) (tokens : List Token) → one_more token more ≡ Ok tokens → (rest : List Token) × (more ≡ Ok rest) × (token ∷ rest ≡ tokens)
ok_of token (Ok rest) tokens h = (rest, refl, same_tokens (token ∷ rest) tokens h)
ok_of token (Err place) tokens h = absurd (not_ok place tokens h)

widened : (low from to : ℕ) (tokens : List Token) → low ≤ from → AreInOrder from to tokens → AreInOrder low to tokens
widened low from to [] le order = omega (arith, le, order)
widened low from to (token ∷ tokens) le order = (omega (arith, le, order.0), order.1, order.2)

pub moved : (from to a b : ℕ) (tokens : List Token) → from ≡ a → to ≡ b → AreInOrder from to tokens → AreInOrder a b tokens
moved from to a b tokens f t order = subst (λ (n : ℕ). AreInOrder n b tokens) f (subst (λ (n : ℕ). AreInOrder from n tokens) t order)

none_in_order : (at to : ℕ) (tokens : List Token) → at ≤ to → read [] ≡ Ok tokens → AreInOrder at to tokens
none_in_order at to tokens le h = subst (AreInOrder at to) (same_tokens [] tokens h) le

with_piece_in_order : (piece : Piece) (at bytes : ℕ) (go_on : ℕ → Result (List Token) ℕ) → FitsIn (bytes + 1) piece
    → ((left : ℕ) (more : List Token) → left ≤ bytes → go_on left ≡ Ok more → AreInOrder (at + 1 + left) (at + 1 + bytes) more)
    → (tokens : List Token) → with_piece piece at go_on ≡ Ok tokens → AreInOrder at (at + suc bytes) tokens
with_piece_in_order Blank at bytes go_on fits behind tokens h =
    widened at (at + 1 + 0) (at + suc bytes) tokens (omega arith) (moved (at + 1 + 0) (at + 1 + bytes) (at + 1 + 0) (at + suc bytes) tokens refl (omega arith) (behind 0 tokens (omega arith) h))
with_piece_in_order Comment at bytes go_on fits behind tokens h = none_in_order at (at + suc bytes) tokens (omega arith) h
with_piece_in_order Unreadable at bytes go_on fits behind tokens h = absurd (not_ok at tokens h)
with_piece_in_order (Takes kind n) at bytes go_on fits behind tokens h =
    let token : Token = record { kind = kind; start = at; end = at + n } in
    let found = ok_of token (go_on (n - 1)) tokens h in
    let order = moved (at + 1 + (n - 1)) (at + 1 + bytes) (at + n) (at + suc bytes) found.0 (omega (arith, fits.0)) (omega arith) (behind (n - 1) found.0 (omega (arith, fits.1)) found.1) in
    subst (AreInOrder at (at + suc bytes)) found.2 (omega arith, omega (arith, fits.0), order)

pub in_order : (left at : ℕ) (text : List ℕ) (tokens : List Token) → left ≤ length text → tokens_from left at text ≡ Ok tokens → AreInOrder (at + left) (at + length text) tokens
in_order left at [] tokens within h = none_in_order (at + left) (at + 0) tokens (omega (arith, within)) (nothing_from left at ∙ h)
in_order (suc left) at (b ∷ rest) tokens within h =
    moved (at + 1 + left) (at + 1 + length rest) (at + suc left) (at + suc (length rest)) tokens (omega arith) (omega arith) (in_order left (at + 1) rest tokens (omega (arith, within)) h)
in_order zero at (b ∷ rest) tokens within h =
    moved at (at + suc (length rest)) (at + 0) (at + suc (length rest)) tokens (omega arith) refl
    (with_piece_in_order (piece_of (sort_of b) rest) at (length rest) (λ left. tokens_from left (at + 1) rest) (piece_within (sort_of b) rest) (λ left more le h. in_order left (at + 1) rest more le h) tokens h)
