-- Tokens behind others.
use Rattle.std.proofs.Common.{◌≡◌, ◌<◌, ◌+◌, ◌-◌, ℕ, zero, suc, List, [], ◌∷◌, ◌++◌, drop, Option, None, Some, Bool, true, false, ◌==◌, if◌then◌else◌, drop-drop, Result, Ok, Err, refl, sym, ◌∙◌, ap, arith, IsOk, option_map}
use Rattle.qm_commands.specs.TokenBytes.{sort_of, quoted_length}
use Rattle.qm_commands.specs.Tokens.{piece_of, tokens_from, with_piece, one_more}
use Rattle.qm_commands.specs.declared.tokens.token.TokenKind.{TokenKind}
use Rattle.qm_commands.specs.declared.tokens.token.Piece.{Piece}
use Rattle.qm_commands.specs.declared.tokens.token.Piece.TheVariants.{Takes}
use Rattle.qm_commands.specs.declared.tokens.token.Token.{Token}

-- the one list is read where the other is, and a fault of the one is the other's
pub record Follows (all rest : Result (List Token) ℕ) : Type 0 where
  pub read : IsOk rest → IsOk all
  pub fault : (place : ℕ) → rest ≡ Err place → all ≡ Err place

-- what stands behind these tokens, with them
abbrev pub behind : List Token → Result (List Token) ℕ → Result (List Token) ℕ
behind tokens (Ok more) = Ok (tokens ++ more)
behind tokens (Err place) = Err place

-- what is left of a token is passed over
pub passed : (left at : ℕ) (text : List ℕ) → tokens_from left at text ≡ tokens_from 0 (at + left) (drop left text)
passed zero at text = ap (λ (n : ℕ). tokens_from 0 n text) (omega arith)
passed (suc left) at [] = refl
passed (suc left) at (b ∷ rest) = passed left (at + 1) rest ∙ ap (λ (n : ℕ). tokens_from 0 n (drop left rest)) (omega arith)

-- ---- the next token

pub one_byte_more : (n : ℕ) (o : Option ℕ) → option_map (λ k. n + k) (option_map (λ k. 1 + k) o) ≡ option_map (λ k. n + 1 + k) o
one_byte_more n None = refl
one_byte_more n (Some k) = ap (λ (i : ℕ). Some i) (omega arith)

pub taken : (text : List ℕ) (at b : ℕ) (kind : TokenKind) (n : ℕ) → drop at text ≡ b ∷ drop (at + 1) text → piece_of (sort_of b) (drop (at + 1) text) ≡ Takes kind n → 0 < n
    → tokens_from 0 at (drop at text) ≡ one_more (record { kind = kind; start = at; end = at + n }) (tokens_from 0 (at + n) (drop (at + n) text))
taken text at b kind n split is some =
    let rest : List ℕ = drop (at + 1) text in
    ap (tokens_from 0 at) split
    ∙ ap (λ (p : Piece). with_piece p at (λ left. tokens_from left (at + 1) rest)) is
    ∙ ap (one_more (record { kind = kind; start = at; end = at + n })) (
    passed (n - 1) (at + 1) rest
    ∙ ap (λ (l : List ℕ). tokens_from 0 (at + 1 + (n - 1)) l) (drop-drop (n - 1) (at + 1) text)
    ∙ ap (λ (i : ℕ). tokens_from 0 i (drop i text)) (omega (arith, some))
    )

-- ---- quoted strings

module _ (text : List ℕ) (n b : ℕ) (state next : Bool) (split : drop n text ≡ b ∷ drop (n + 1) text) where
  abbrev rest : List ℕ
  rest = drop (n + 1) text

  begun : option_map (λ k. n + k) (quoted_length state (drop n text)) ≡ option_map (λ k. n + k) (quoted_length state (b ∷ rest))
  begun = ap (λ (l : List ℕ). option_map (λ k. n + k) (quoted_length state l)) split

  -- a byte with no single quote before it
  pub within_quotes : state ≡ false → next ≡ (b == 34) → option_map (λ k. n + k) (quoted_length state (drop n text)) ≡ option_map (λ k. n + 1 + k) (quoted_length next rest)
  within_quotes single so =
      begun
      ∙ ap (λ (s : Bool). option_map (λ k. n + k) (quoted_length s (b ∷ rest))) single
      ∙ one_byte_more n (quoted_length (b == 34) rest)
      ∙ ap (λ (s : Bool). option_map (λ k. n + 1 + k) (quoted_length s rest)) (sym so)

  -- the second of two quotes
  pub second_quote : state ≡ true → (b == 34) ≡ true → next ≡ false → option_map (λ k. n + k) (quoted_length state (drop n text)) ≡ option_map (λ k. n + 1 + k) (quoted_length next rest)
  second_quote single quote so =
      begun
      ∙ ap (λ (s : Bool). option_map (λ k. n + k) (quoted_length s (b ∷ rest))) single
      ∙ ap (λ (q : Bool). option_map (λ k. n + k) (if q then option_map (λ k. 1 + k) (quoted_length false rest) else Some 0)) quote
      ∙ one_byte_more n (quoted_length false rest)
      ∙ ap (λ (s : Bool). option_map (λ k. n + 1 + k) (quoted_length s rest)) (sym so)
