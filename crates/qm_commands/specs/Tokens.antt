-- How the text of a command falls into tokens.
-- OpenVMS User's Manual, on entering commands: words and quoted strings, qualifiers, values, lists, comments.
use Rattle.std.specs.Prelude.{◌≡◌, ℕ, zero, suc, ◌+◌, ◌-◌, ◌<◌, ◌≤◌, false, List, [], ◌∷◌, length, drop, Option, None, Some, Result, Ok, Err}
use Rattle.qm_commands.specs.TokenBytes.{sort_of, word_length, quoted_length}
use Rattle.qm_commands.specs.declared.tokens.byte.Sort.{Sort}
use Rattle.qm_commands.specs.declared.tokens.byte.Sort.TheVariants as sorts
use Rattle.qm_commands.specs.declared.tokens.token.Token.{Token}
use Rattle.qm_commands.specs.declared.tokens.token.Piece.{Piece}
use Rattle.qm_commands.specs.declared.tokens.token.Piece.TheVariants.{Takes, Blank, Comment, Unreadable}
use Rattle.qm_commands.specs.declared.tokens.token.TokenKind.TheVariants as kinds
use Rattle.qm_commands.specs.declared.tokens.fault.LexFault.{LexFault}
use Rattle.qm_commands.specs.declared.tokens.fault.LexFault.TheVariants as faults

abbrev pub quoted : Option ℕ → Piece
quoted None = Unreadable
quoted (Some n) = Takes kinds.Quoted (1 + n)

-- the piece with which a text begins, by the sort of its first byte, and what stands behind that
abbrev pub piece_of : Sort → List ℕ → Piece
piece_of sorts.Blank rest = Blank
piece_of sorts.Comment rest = Comment
piece_of sorts.Quote rest = quoted (quoted_length false rest)
piece_of (sorts.Mark kind) rest = Takes kind 1
piece_of sorts.Word rest = Takes kinds.Word (1 + word_length rest)
piece_of sorts.Other rest = Unreadable

-- a token takes a byte at least, and no more than there are
abbrev pub FitsIn : ℕ → Piece → Type 0
FitsIn bytes (Takes kind n) = (0 < n) × (n ≤ bytes)
FitsIn bytes Blank = Unit {0}
FitsIn bytes Comment = Unit {0}
FitsIn bytes Unreadable = Unit {0}

abbrev pub one_more : Token → Result (List Token) ℕ → Result (List Token) ℕ
one_more token (Ok tokens) = Ok (token ∷ tokens)
one_more token (Err place) = Err place

-- the tokens from a piece on that stands at this place; what is behind its first byte goes on by how many bytes are left of it
abbrev pub with_piece : Piece → ℕ → (ℕ → Result (List Token) ℕ) → Result (List Token) ℕ
with_piece (Takes kind n) at go_on = one_more (record { kind = kind; start = at; end = at + n }) (go_on (n - 1))
with_piece Blank at go_on = go_on 0
with_piece Comment at go_on = Ok []
with_piece Unreadable at go_on = Err at

-- The tokens of what stands from a place on, of which so many bytes are left of the last token; or the place of the first
-- one that can't be read.
abbrev pub tokens_from : ℕ → ℕ → List ℕ → Result (List Token) ℕ
tokens_from left at [] = Ok []
tokens_from (suc left) at (b ∷ rest) = tokens_from left (at + 1) rest
tokens_from zero at (b ∷ rest) = with_piece (piece_of (sort_of b) rest) at (λ left. tokens_from left (at + 1) rest)

-- the tokens of a text, in their order; or the place of the first one that can't be read
abbrev pub tokens_of : List ℕ → Result (List Token) ℕ
tokens_of text = tokens_from 0 0 text

-- tokens within these bounds, none of them empty, each behind the one before
abbrev pub AreInOrder : ℕ → ℕ → List Token → Type 0
AreInOrder from to [] = from ≤ to
AreInOrder from to (token ∷ tokens) = (from ≤ token.start) × (token.start < token.end) × AreInOrder token.end to tokens

-- The next token from a place of a text on, behind which the others follow; or that there is none; or the place of one that
-- can't be read.
abbrev pub IsNext : List ℕ → ℕ → Result (Option Token) LexFault → Type 0
IsNext text at (Ok None) = tokens_from 0 at (drop at text) ≡ Ok []
IsNext text at (Ok (Some token)) =
    (at < token.end) × (token.end ≤ length text) × (tokens_from 0 at (drop at text) ≡ one_more token (tokens_from 0 token.end (drop token.end text)))
IsNext text at (Err (faults.Unreadable place)) = tokens_from 0 at (drop at text) ≡ Err place
IsNext text at (Err faults.NoMemory) = ⊥

-- why a text has no tokens: one can't be read; or memory ran out, and all can
abbrev pub Explains : Result (List Token) ℕ → LexFault → Type 0
Explains tokens (faults.Unreadable place) = tokens ≡ Err place
Explains (Ok tokens) faults.NoMemory = Unit {0}
Explains (Err place) faults.NoMemory = ⊥
