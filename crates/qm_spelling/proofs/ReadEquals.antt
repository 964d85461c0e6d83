-- Where an = follows a token within the text, it is the next token.
use Rattle.std.proofs.Common.{◌≡◌, ◌<◌, ◌+◌, ◌-◌, ◌==◌, ◌||◌, ℕ, zero, suc, Bool, true, false, cond, List, [], ◌∷◌, drop, drop-drop, Option, None, Some, Result, Ok, Err, IfOk, refl, ap, ◌∙◌, subst, arith}
use Rattle.std.proofs.lemmas.Bool.Decides.{nat_tests}
use Rattle.qm_commands.specs.TokenBytes.{word_length, quoted_length}
use Rattle.qm_commands.specs.Tokens.{quoted, piece_of, tokens_from, tokens_of, with_piece, one_more}
use Rattle.qm_commands.specs.declared.tokens.byte.Sort.{Sort}
use Rattle.qm_commands.specs.declared.tokens.byte.Sort.TheVariants as sorts
use Rattle.qm_commands.specs.declared.tokens.token.Piece.TheVariants.{Takes, Blank, Comment}
use Rattle.qm_commands.specs.declared.tokens.token.Token.{Token}
use Rattle.qm_commands.specs.declared.tokens.token.TokenKind.{TokenKind}
use Rattle.qm_commands.specs.declared.tokens.token.TokenKind.TheVariants as kinds
use Rattle.qm_dcl.specs.Values.{leads_to_equals, has_equals}
use Rattle.qm_spelling.proofs.ReadTokens.{is_equals, begins_with_equals, HaveEquals}

equals_byte : (b : ℕ) → (b == 61) ≡ true → b ≡ 61
equals_byte b h = grind (arith, nat_tests)

same_kind : (kind : TokenKind) → sorts.Mark kind ≡ sorts.Mark kinds.Equals → is_equals kind ≡ true
same_kind kind h = let same : kind ≡ kinds.Equals = cc in ap is_equals same

module _ (text : List ℕ) where
  -- the tokens that are read have an = behind them where the text has, and begin with one where this holds
  abbrev HaveThem : Bool → Result (List Token) ℕ → Type 0
  HaveThem equals read = IfOk read (λ (tokens : List Token). HaveEquals text tokens × (equals ≡ true → begins_with_equals tokens ≡ true))

  after : (equals : Bool) (token : Token) (more : Result (List Token) ℕ) → (equals ≡ true → is_equals token.kind ≡ true) → HaveThem (has_equals text token) more → HaveThem equals (one_more token more)
  after equals token (Ok tokens) is have = ((have.1, have.0), is)
  after equals token (Err place) is have = tt

  module _ (at : ℕ) (rest : List ℕ) (is : rest ≡ drop (at + 1) text) (have : (left : ℕ) → HaveThem (leads_to_equals (drop left rest)) (tokens_from left (at + 1) rest)) where
    abbrev go_on : ℕ → Result (List Token) ℕ
    go_on left = tokens_from left (at + 1) rest

    behind : (n : ℕ) → 0 < n → drop (n - 1) rest ≡ drop (at + n) text
    behind n some = ap (drop (n - 1)) is ∙ drop-drop (n - 1) (at + 1) text ∙ ap (λ (i : ℕ). drop i text) (omega (arith, some))

    takes : (equals : Bool) (kind : TokenKind) (n : ℕ) → 0 < n → (equals ≡ true → is_equals kind ≡ true) → HaveThem equals (with_piece (Takes kind n) at go_on)
    takes equals kind n some is_kind =
        after equals (record { kind = kind; start = at; end = at + n }) (go_on (n - 1)) is_kind
        (subst (λ (l : List ℕ). HaveThem (leads_to_equals l) (go_on (n - 1))) (behind n some) (have (n - 1)))

    quoted_string : (equals : Bool) → (equals ≡ true → sorts.Quote ≡ sorts.Mark kinds.Equals) → (o : Option ℕ) → HaveThem equals (with_piece (quoted o) at go_on)
    quoted_string equals mark None = tt
    quoted_string equals mark (Some n) = takes equals kinds.Quoted (1 + n) (omega arith) (λ h. let no = mark h in absurd cc)

    -- a byte that is no blank
    of_sort : (equals : Bool) (sort : Sort) → (equals ≡ true → sort ≡ sorts.Mark kinds.Equals) → HaveThem equals (with_piece (piece_of sort rest) at go_on)
    of_sort equals sorts.Blank mark = elim_blank equals mark (go_on 0) (have 0)
      where
        elim_blank : (equals : Bool) → (equals ≡ true → sorts.Blank ≡ sorts.Mark kinds.Equals) → (r : Result (List Token) ℕ) → HaveThem (leads_to_equals rest) r → HaveThem equals r
        elim_blank equals mark (Ok tokens) h = (h.0, (λ e. let no = mark e in absurd cc))
        elim_blank equals mark (Err place) h = tt
    of_sort equals sorts.Comment mark = (tt, (λ h. let no = mark h in absurd cc))
    of_sort equals sorts.Quote mark = quoted_string equals mark (quoted_length false rest)
    of_sort equals (sorts.Mark kind) mark = takes equals kind 1 (omega arith) (λ h. same_kind kind (mark h))
    of_sort equals sorts.Word mark = takes equals kinds.Word (1 + word_length rest) (omega arith) (λ h. let no = mark h in absurd cc)
    of_sort equals sorts.Other mark = tt

    -- a byte, which is a blank or none
    of_byte : (b : ℕ) (blank : Bool) (sort : Sort) → ((b == 61) ≡ true → sort ≡ sorts.Mark kinds.Equals)
        → HaveThem (cond blank (leads_to_equals rest) (b == 61)) (with_piece (piece_of (cond blank sorts.Blank sort) rest) at go_on)
    of_byte b true sort mark = have 0
    of_byte b false sort mark = of_sort (b == 61) sort mark

  none_have : (left at : ℕ) → HaveThem (leads_to_equals (drop left [])) (tokens_from left at [])
  none_have zero at = (tt, (λ h. absurd cc))
  none_have (suc left) at = (tt, (λ h. absurd cc))

  one_further : (at b : ℕ) (rest : List ℕ) → b ∷ rest ≡ drop at text → rest ≡ drop (at + 1) text
  one_further at b rest is = ap (drop 1) is ∙ drop-drop 1 at text

  have_from : (rest : List ℕ) (left at : ℕ) → rest ≡ drop at text → HaveThem (leads_to_equals (drop left rest)) (tokens_from left at rest)
  have_from [] left at is = none_have left at
  have_from (b ∷ rest) (suc left) at is = have_from rest left (at + 1) (one_further at b rest is)
  have_from (b ∷ rest) zero at is =
      let further = one_further at b rest is in
      of_byte at rest further (λ left. have_from rest left (at + 1) further) b (b == 32 || b == 9) _ (λ h. rw (equals_byte b h))

  pub tokens_have : (tokens : List Token) → tokens_of text ≡ Ok tokens → HaveEquals text tokens
  tokens_have tokens h = (subst (λ (r : Result (List Token) ℕ). HaveThem (leads_to_equals text) r) h (have_from text 0 0 refl)).0
