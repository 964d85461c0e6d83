-- Pieces are read by the grammar as the command and the parts that they are meant as.
use Rattle.std.proofs.Common.{◌≡◌, ◌<◌, ◌≤◌, ◌+◌, ℕ, suc, List, [], ◌∷◌, ◌++◌, length, take, find, map, Option, None, Some, Bool, true, false, not, ◌==◌, ◌&&◌, ◌||◌, nat_le, nat_lt, Result, Ok, refl, ap, ◌∙◌, arith, option_to_list, bytes_eq, le-leb}
use Rattle.std.specs.List.{list_all}
use Rattle.std.specs.Char.{to_ascii_uppercase}
use Rattle.std.proofs.lemmas.Bool.Decides.{nat_tests}
use Rattle.qm_commands.specs.declared.tokens.token.Token.{Token}
use Rattle.qm_commands.specs.declared.tokens.token.TokenKind.TheVariants as kinds
use Rattle.qm_commands.specs.declared.fault.Fault.{Fault}
use Rattle.qm_grammar.specs.declared.part.Part.{Part}
use Rattle.qm_grammar.specs.declared.part.Part.TheVariants as parts
use Rattle.qm_grammar.specs.declared.place.Place.{Place}
use Rattle.qm_grammar.specs.declared.place.Place.TheVariants as place
use Rattle.qm_grammar.specs.declared.place.State.{State}
use Rattle.qm_commands.specs.declared.rules.Takes.{Takes}
use Rattle.qm_commands.specs.declared.table.Row.{Row}
use Rattle.qm_commands.specs.declared.table.Verb.{Verb}
use Rattle.qm_commands.specs.declared.word.Word.{Word}
use Rattle.qm_commands.specs.Names.{rules_for, rule_for}
use Rattle.qm_grammar.specs.Parts.{part_of, parts_from, on_next, qualifier_part}
use Rattle.qm_grammar.specs.Reading.{read_from, on_state, ended}
use Rattle.qm_commands.specs.Rules.{most_values, may_have_key, needs_value}
use Rattle.qm_commands.specs.Spelled.{bytes_of}
use Rattle.qm_grammar.specs.Steps.{with_token, named_by}
use Rattle.qm_commands.specs.Words.{spelling}
use Rattle.qm_spelling.proofs.SpelledLexemes.{Lexeme, Say, placed, token_at}
use Rattle.qm_spelling.proofs.SpelledPieces.{Said, Item, Value, Piece, slash, equals, opening, closing, comma, word_lexeme, parameter_lexeme, kind_of, said_bytes, said_lexeme, inner_lexemes, item_lexemes, others_lexemes, value_lexemes, lexemes}

-- ---- names by the bytes that say them

abbrev pub begins_by : List ℕ → List ℕ → Bool
begins_by bytes name = nat_le (length bytes) (length name) && bytes_eq (map to_ascii_uppercase bytes) (take (length bytes) name)

abbrev pub no_rival_by : List ℕ → List ℕ → List ℕ → Bool
no_rival_by bytes name other = not (begins_by bytes other) || bytes_eq other name

abbrev pub means_by : List ℕ → List ℕ → Bool → Bool
means_by bytes name alone = bytes_eq (map to_ascii_uppercase bytes) name || (begins_by bytes name && alone)

-- bytes are the option or the qualifier
abbrev pub name_by : List ℕ → Verb → Option Row → Word → Bool
name_by bytes verb row word = means_by bytes (spelling word) (list_all (λ rule. no_rival_by bytes (spelling word) (spelling rule.0)) (rules_for verb row))

-- the option or the qualifier that bytes are
abbrev pub rule_by : List ℕ → Verb → Option Row → Option (Word × Takes)
rule_by bytes verb row = find (λ rule. name_by bytes verb row rule.0) (rules_for verb row)

pub rule_is : (text : List ℕ) (verb : Verb) (row : Option Row) (start end : ℕ) (bytes : List ℕ)
    → bytes_of text (record { kind = kinds.Word; start = start; end = end }) ≡ bytes
    → rule_for text verb row (record { kind = kinds.Word; start = start; end = end }) ≡ rule_by bytes verb row
rule_is text verb row start end bytes is = ap (λ (b : List ℕ). rule_by b verb row) is

-- ---- what the parts are to say

pub data Spoken : Type 0 where
  SaysParameter : List ℕ → Spoken
  SaysQualifier : Word → Spoken
  SaysValue : Said → Spoken
  SaysKeyValue : Said → Spoken

abbrev pub inner_spoken : Option Said → List Spoken → List Spoken
inner_spoken None rest = rest
inner_spoken (Some inner) rest = SaysKeyValue inner ∷ rest

abbrev pub item_spoken : Item → List Spoken → List Spoken
item_spoken item rest = SaysValue item.said ∷ inner_spoken item.inner rest

abbrev pub items_spoken : List Item → List Spoken → List Spoken
items_spoken [] rest = rest
items_spoken (item ∷ items) rest = item_spoken item (items_spoken items rest)

abbrev pub value_spoken : Value → List Spoken → List Spoken
value_spoken (Value.One item) rest = item_spoken item rest
value_spoken (Value.Many first others) rest = item_spoken first (items_spoken others rest)

abbrev pub piece_spoken : Piece → List Spoken → List Spoken
piece_spoken (Piece.Parameter text) rest = SaysParameter text ∷ rest
piece_spoken (Piece.Marked word) rest = SaysQualifier word ∷ rest
piece_spoken (Piece.Valued word value) rest = SaysQualifier word ∷ value_spoken value rest

abbrev pub spoken : List Piece → List Spoken
spoken [] = []
spoken (piece ∷ pieces) = piece_spoken piece (spoken pieces)

-- a token is of this kind, and has these bytes
abbrev pub Says : List ℕ → Token → Said → Type 0
Says text token said = (token.kind ≡ kind_of said.quoted) × (bytes_of text token ≡ said_bytes said.quoted said.text)

abbrev pub plain : List ℕ → Said
plain text = record { quoted = false; text = text }

abbrev pub TellsOne : List ℕ → Part → Spoken → Type 0
TellsOne text (parts.Parameter token) (SaysParameter bytes) = Says text token (plain bytes)
TellsOne text (parts.Qualifier word at) (SaysQualifier meant) = word ≡ meant
TellsOne text (parts.Value token) (SaysValue said) = Says text token said
TellsOne text (parts.KeyValue token) (SaysKeyValue said) = Says text token said
TellsOne text _ _ = ⊥

-- the parts of a text say this
abbrev pub Tells : List ℕ → List Part → List Spoken → Type 0
Tells text [] [] = Unit {0}
Tells text [] (p ∷ ps) = ⊥
Tells text (part ∷ more) [] = ⊥
Tells text (part ∷ more) (p ∷ ps) = TellsOne text part p × Tells text more ps

-- ---- what a command takes

abbrev pub TakesInner : Takes → Option Said → Type 0
TakesInner t None = Unit {0}
TakesInner t (Some inner) = may_have_key t ≡ true

abbrev pub TakesOthers : Takes → List Item → Type 0
TakesOthers t [] = Unit {0}
TakesOthers t (item ∷ items) = TakesInner t item.inner × TakesOthers t items

abbrev pub TakesValue : Takes → Value → Type 0
TakesValue t (Value.One item) = (1 ≤ most_values t) × TakesInner t item.inner
TakesValue t (Value.Many first others) = (1 + length others ≤ most_values t) × TakesInner t first.inner × TakesOthers t others

-- the pieces from one on, with so many parameters in front, and with a qualifier or an option in front or without one
abbrev pub Allows : Verb → Row → ℕ → Bool → List Piece → Type 0
Allows verb row n q [] = (nat_lt n row.least ≡ false) × ((row.must_set && not q) ≡ false)
Allows verb row n q (Piece.Parameter text ∷ pieces) = (nat_lt n row.most ≡ true) × Allows verb row (n + 1) q pieces
Allows verb row n q (Piece.Marked word ∷ pieces) =
    (t : Takes) × (rule_by (spelling word) verb (Some row) ≡ Some (word, t)) × (needs_value t ≡ false) × Allows verb row n true pieces
Allows verb row n q (Piece.Valued word value ∷ pieces) =
    (t : Takes) × (rule_by (spelling word) verb (Some row) ≡ Some (word, t)) × TakesValue t value × Allows verb row n true pieces

-- ---- where one stands

-- one stands there, and nothing is owed
abbrev pub at_place : Place → Takes → Bool → ℕ → ℕ → Bool → ℕ → ℕ → State
at_place p t in_list values n q start end =
    record { place = p; takes = t; in_list = in_list; values = values; parameters = n; qualified = q; owed = false; start = start; end = end }

-- there a piece has ended
abbrev pub CanRest : Place → Takes → Type 0
CanRest place.Verb t = Unit {0}
CanRest place.Parameter t = Unit {0}
CanRest place.Name t = needs_value t ≡ false
CanRest place.Value t = Unit {0}
CanRest place.KeyValue t = Unit {0}
CanRest place.Close t = Unit {0}
CanRest place.VerbSlash t = ⊥
CanRest place.Slash t = ⊥
CanRest place.Equals t = ⊥
CanRest place.Open t = ⊥
CanRest place.Comma t = ⊥
CanRest place.Key t = ⊥
CanRest place.KeyOpen t = ⊥

-- behind a /
abbrev pub IsSlash : Place → Type 0
IsSlash place.VerbSlash = Unit {0}
IsSlash place.Slash = Unit {0}
IsSlash _ = ⊥

-- a value comes next
abbrev pub AwaitsValue : Place → Type 0
AwaitsValue place.Equals = Unit {0}
AwaitsValue place.Open = Unit {0}
AwaitsValue place.Comma = Unit {0}
AwaitsValue _ = ⊥

-- behind a value, with a value of its own or without one
abbrev pub behind_value : Option Said → Place
behind_value None = place.Value
behind_value (Some inner) = place.KeyValue

less : (a b : ℕ) → a < b → nat_lt a b ≡ true
less a b h = le-leb (suc a) b h

no_blank_less : (n : ℕ) → (n == n + 1) ≡ false
no_blank_less n = grind (arith, nat_tests)

module _ (text : List ℕ) (verb : Verb) (row : Row) where
  -- the tokens from there on are a command, and their parts say this
  abbrev pub Done : State → List Token → List Spoken → Type 0
  Done s tokens said =
      (more : List Part) × Tells text more said × (read_from text verb (Some row) s tokens ≡ Ok row.command) × (parts_from text verb (Some row) s tokens ≡ more)

  -- so it is wherever they stand
  abbrev pub Goes : Place → Takes → Bool → ℕ → ℕ → Bool → List Lexeme → List Spoken → Type 0
  Goes p t in_list values n q ls said =
      (start at : ℕ) → Say text (placed at ls) ls → Done (at_place p t in_list values n q start at) (placed at ls) said

  sign_step : (s next : State) (token : Token) (tokens : List Token) (said : List Spoken)
      → with_token text verb (Some row) s token token.kind ≡ Ok next → part_of text verb (Some row) s token ≡ None → Done next tokens said → Done s (token ∷ tokens) said
  sign_step s next token tokens said step none done = (
    done.0,
    done.1,
    ap (λ (r : Result State Fault). on_state r (λ t. read_from text verb (Some row) t tokens)) step ∙ done.2,
    ap (λ (r : Result State Fault). on_next r (λ t. option_to_list (part_of text verb (Some row) s token) ++ parts_from text verb (Some row) t tokens)) step
        ∙ ap (λ (o : Option Part). option_to_list o ++ parts_from text verb (Some row) next tokens) none ∙ done.3,
  )

  text_step : (s next : State) (token : Token) (tokens : List Token) (part : Part) (one : Spoken) (said : List Spoken)
      → with_token text verb (Some row) s token token.kind ≡ Ok next → part_of text verb (Some row) s token ≡ Some part → TellsOne text part one
      → Done next tokens said → Done s (token ∷ tokens) (one ∷ said)
  text_step s next token tokens part one said step is tells done = (
    part ∷ done.0,
    (tells, done.1),
    ap (λ (r : Result State Fault). on_state r (λ t. read_from text verb (Some row) t tokens)) step ∙ done.2,
    ap (λ (r : Result State Fault). on_next r (λ t. option_to_list (part_of text verb (Some row) s token) ++ parts_from text verb (Some row) t tokens)) step
        ∙ ap (λ (o : Option Part). option_to_list o ++ parts_from text verb (Some row) next tokens) is ∙ ap (λ (l : List Part). part ∷ l) done.3,
  )

  -- ---- qualifiers and options

  -- a /
  slash_goes : (p : Place) (t : Takes) (values n : ℕ) (q : Bool) (ls : List Lexeme) (said : List Spoken)
      → CanRest p t → ((next : Place) → IsSlash next → Goes next t false values n q ls said) → Goes p t false values n q (slash ∷ ls) said
  slash_goes place.Verb t values n q ls said rests goes start at say =
      sign_step (at_place place.Verb t false values n q start at) (at_place place.VerbSlash t false values n q at (at + 1)) (token_at at slash) (placed (at + 1) ls) said
      refl refl (goes place.VerbSlash tt at (at + 1) say.1)
  slash_goes place.Name t values n q ls said rests goes start at say =
      sign_step (at_place place.Name t false values n q start at) (at_place place.Slash t false values n q at (at + 1)) (token_at at slash) (placed (at + 1) ls) said
      (ap (λ (o : Bool). Ok (record (at_place place.Slash t false values n q at (at + 1)) { owed = o })) rests) refl (goes place.Slash tt at (at + 1) say.1)
  slash_goes place.VerbSlash t values n q ls said rests goes start at say = absurd rests
  slash_goes place.Slash t values n q ls said rests goes start at say = absurd rests
  slash_goes place.Equals t values n q ls said rests goes start at say = absurd rests
  slash_goes place.Open t values n q ls said rests goes start at say = absurd rests
  slash_goes place.Comma t values n q ls said rests goes start at say = absurd rests
  slash_goes place.Key t values n q ls said rests goes start at say = absurd rests
  slash_goes place.KeyOpen t values n q ls said rests goes start at say = absurd rests
  slash_goes p t values n q ls said rests goes start at say =
      sign_step (at_place p t false values n q start at) (at_place place.Slash t false values n q at (at + 1)) (token_at at slash) (placed (at + 1) ls) said
      refl refl (goes place.Slash tt at (at + 1) say.1)

  -- its name
  name_goes : (p : Place) (t u : Takes) (values n : ℕ) (q : Bool) (word : Word) (ls : List Lexeme) (said : List Spoken)
      → IsSlash p → rule_by (spelling word) verb (Some row) ≡ Some (word, u) → Goes place.Name u false 0 n true ls said
      → Goes p t false values n q (word_lexeme (spelling word) ∷ ls) (SaysQualifier word ∷ said)
  name_goes place.VerbSlash t u values n q word ls said at_slash is goes start at say =
      let s : State = at_place place.VerbSlash t false values n q start at in
      let token : Token = token_at at (word_lexeme (spelling word)) in
      let rule : rule_for text verb (Some row) token ≡ Some (word, u) = rule_is text verb (Some row) at (at + length (spelling word)) (spelling word) say.0 ∙ is in
      text_step s (at_place place.Name u false 0 n true at (at + length (spelling word))) token (placed (at + length (spelling word)) ls) (parts.Qualifier word start) (SaysQualifier word) said
      (ap (named_by text verb (Some row) s token) rule) (ap (qualifier_part start) rule) refl (goes at (at + length (spelling word)) say.1)
  name_goes place.Slash t u values n q word ls said at_slash is goes start at say =
      let s : State = at_place place.Slash t false values n q start at in
      let token : Token = token_at at (word_lexeme (spelling word)) in
      let rule : rule_for text verb (Some row) token ≡ Some (word, u) = rule_is text verb (Some row) at (at + length (spelling word)) (spelling word) say.0 ∙ is in
      text_step s (at_place place.Name u false 0 n true at (at + length (spelling word))) token (placed (at + length (spelling word)) ls) (parts.Qualifier word start) (SaysQualifier word) said
      (ap (named_by text verb (Some row) s token) rule) (ap (qualifier_part start) rule) refl (goes at (at + length (spelling word)) say.1)
  name_goes p t u values n q word ls said at_slash is goes start at say = absurd at_slash

  -- = behind a name
  equals_goes : (t : Takes) (values n : ℕ) (q : Bool) (ls : List Lexeme) (said : List Spoken) → Goes place.Equals t false values n q ls said → Goes place.Name t false values n q (equals ∷ ls) said
  equals_goes t values n q ls said goes start at say =
      sign_step (at_place place.Name t false values n q start at) (at_place place.Equals t false values n q at (at + 1)) (token_at at equals) (placed (at + 1) ls) said
      refl refl (goes at (at + 1) say.1)

  -- ---- values

  -- (
  opening_goes : (t : Takes) (values n : ℕ) (q : Bool) (ls : List Lexeme) (said : List Spoken) → Goes place.Open t true values n q ls said → Goes place.Equals t false values n q (opening ∷ ls) said
  opening_goes t values n q ls said goes start at say =
      sign_step (at_place place.Equals t false values n q start at) (at_place place.Open t true values n q at (at + 1)) (token_at at opening) (placed (at + 1) ls) said
      refl refl (goes at (at + 1) say.1)

  -- )
  closing_goes : (inner : Option Said) (t : Takes) (values n : ℕ) (q : Bool) (ls : List Lexeme) (said : List Spoken)
      → Goes place.Close t false values n q ls said → Goes (behind_value inner) t true values n q (closing ∷ ls) said
  closing_goes None t values n q ls said goes start at say =
      sign_step (at_place place.Value t true values n q start at) (at_place place.Close t false values n q at (at + 1)) (token_at at closing) (placed (at + 1) ls) said
      refl refl (goes at (at + 1) say.1)
  closing_goes (Some inner) t values n q ls said goes start at say =
      sign_step (at_place place.KeyValue t true values n q start at) (at_place place.Close t false values n q at (at + 1)) (token_at at closing) (placed (at + 1) ls) said
      refl refl (goes at (at + 1) say.1)

  -- ,
  comma_goes : (inner : Option Said) (t : Takes) (values n : ℕ) (q : Bool) (ls : List Lexeme) (said : List Spoken)
      → Goes place.Comma t true values n q ls said → Goes (behind_value inner) t true values n q (comma ∷ ls) said
  comma_goes None t values n q ls said goes start at say =
      sign_step (at_place place.Value t true values n q start at) (at_place place.Comma t true values n q at (at + 1)) (token_at at comma) (placed (at + 1) ls) said
      refl refl (goes at (at + 1) say.1)
  comma_goes (Some inner) t values n q ls said goes start at say =
      sign_step (at_place place.KeyValue t true values n q start at) (at_place place.Comma t true values n q at (at + 1)) (token_at at comma) (placed (at + 1) ls) said
      refl refl (goes at (at + 1) say.1)

  -- a token that is taken as a value
  taken : (p : Place) (t : Takes) (in_list : Bool) (values n : ℕ) (q quoted : Bool) (bytes : List ℕ) (ls : List Lexeme) (said : List Spoken)
      → ((start at : ℕ) → with_token text verb (Some row) (at_place p t in_list values n q start at) (token_at at (said_lexeme (record { quoted = quoted; text = bytes }))) (kind_of quoted)
      ≡ Ok (at_place place.Value t in_list (values + 1) n q at (at + length (said_bytes quoted bytes))))
      → ((start at : ℕ) → part_of text verb (Some row) (at_place p t in_list values n q start at) (token_at at (said_lexeme (record { quoted = quoted; text = bytes })))
      ≡ Some (parts.Value (token_at at (said_lexeme (record { quoted = quoted; text = bytes })))))
      → Goes place.Value t in_list (values + 1) n q ls said
      → Goes p t in_list values n q (said_lexeme (record { quoted = quoted; text = bytes }) ∷ ls) (SaysValue (record { quoted = quoted; text = bytes }) ∷ said)
  taken p t in_list values n q quoted bytes ls said step is goes start at say =
      let token : Token = token_at at (said_lexeme (record { quoted = quoted; text = bytes })) in
      let end : ℕ = at + length (said_bytes quoted bytes) in
      text_step (at_place p t in_list values n q start at) (at_place place.Value t in_list (values + 1) n q at end) token (placed end ls) (parts.Value token)
      (SaysValue (record { quoted = quoted; text = bytes })) said (step start at) (is start at) (refl, say.0) (goes at end say.1)

  -- a value
  value_goes : (p : Place) (t : Takes) (in_list : Bool) (values n : ℕ) (q quoted : Bool) (bytes : List ℕ) (ls : List Lexeme) (said : List Spoken)
      → AwaitsValue p → nat_lt values (most_values t) ≡ true → Goes place.Value t in_list (values + 1) n q ls said
      → Goes p t in_list values n q (said_lexeme (record { quoted = quoted; text = bytes }) ∷ ls) (SaysValue (record { quoted = quoted; text = bytes }) ∷ said)
  value_goes place.Equals t in_list values n q true bytes ls said awaits fits goes = taken place.Equals t in_list values n q true bytes ls said (λ start at. rw fits refl) (λ start at. refl) goes
  value_goes place.Equals t in_list values n q false bytes ls said awaits fits goes = taken place.Equals t in_list values n q false bytes ls said (λ start at. rw fits refl) (λ start at. refl) goes
  value_goes place.Open t in_list values n q true bytes ls said awaits fits goes = taken place.Open t in_list values n q true bytes ls said (λ start at. rw fits refl) (λ start at. refl) goes
  value_goes place.Open t in_list values n q false bytes ls said awaits fits goes = taken place.Open t in_list values n q false bytes ls said (λ start at. rw fits refl) (λ start at. refl) goes
  value_goes place.Comma t in_list values n q true bytes ls said awaits fits goes = taken place.Comma t in_list values n q true bytes ls said (λ start at. rw fits refl) (λ start at. refl) goes
  value_goes place.Comma t in_list values n q false bytes ls said awaits fits goes = taken place.Comma t in_list values n q false bytes ls said (λ start at. rw fits refl) (λ start at. refl) goes
  value_goes p t in_list values n q quoted bytes ls said awaits fits goes = absurd awaits

  -- the = behind a value
  key_goes : (t : Takes) (in_list : Bool) (values n : ℕ) (q : Bool) (ls : List Lexeme) (said : List Spoken)
      → may_have_key t ≡ true → Goes place.Key t in_list values n q ls said → Goes place.Value t in_list values n q (equals ∷ ls) said
  key_goes t in_list values n q ls said may goes start at say =
      sign_step (at_place place.Value t in_list values n q start at) (at_place place.Key t in_list values n q at (at + 1)) (token_at at equals) (placed (at + 1) ls) said
      (rw may refl) refl (goes at (at + 1) say.1)

  -- the value behind that
  inner_goes : (t : Takes) (in_list : Bool) (values n : ℕ) (q quoted : Bool) (bytes : List ℕ) (ls : List Lexeme) (said : List Spoken)
      → Goes place.KeyValue t in_list values n q ls said
      → Goes place.Key t in_list values n q (said_lexeme (record { quoted = quoted; text = bytes }) ∷ ls) (SaysKeyValue (record { quoted = quoted; text = bytes }) ∷ said)
  inner_goes t in_list values n q true bytes ls said goes start at say =
      let token : Token = token_at at (said_lexeme (record { quoted = true; text = bytes })) in
      let end : ℕ = at + length (said_bytes true bytes) in
      text_step (at_place place.Key t in_list values n q start at) (at_place place.KeyValue t in_list values n q at end) token (placed end ls) (parts.KeyValue token)
      (SaysKeyValue (record { quoted = true; text = bytes })) said refl refl (refl, say.0) (goes at end say.1)
  inner_goes t in_list values n q false bytes ls said goes start at say =
      let token : Token = token_at at (said_lexeme (record { quoted = false; text = bytes })) in
      let end : ℕ = at + length bytes in
      text_step (at_place place.Key t in_list values n q start at) (at_place place.KeyValue t in_list values n q at end) token (placed end ls) (parts.KeyValue token)
      (SaysKeyValue (record { quoted = false; text = bytes })) said refl refl (refl, say.0) (goes at end say.1)

  -- a value, and the value of its own that it may have
  item_goes : (p : Place) (t : Takes) (in_list : Bool) (values n : ℕ) (q : Bool) (said : Said) (inner : Option Said) (ls : List Lexeme) (more : List Spoken)
      → AwaitsValue p → nat_lt values (most_values t) ≡ true → TakesInner t inner → Goes (behind_value inner) t in_list (values + 1) n q ls more
      → Goes p t in_list values n q (said_lexeme said ∷ inner_lexemes inner ls) (SaysValue said ∷ inner_spoken inner more)
  item_goes p t in_list values n q said None ls more awaits fits may goes = value_goes p t in_list values n q said.quoted said.text ls more awaits fits goes
  item_goes p t in_list values n q said (Some inner) ls more awaits fits may goes =
      value_goes p t in_list values n q said.quoted said.text (equals ∷ said_lexeme inner ∷ ls) (SaysKeyValue inner ∷ more) awaits fits
      (key_goes t in_list (values + 1) n q (said_lexeme inner ∷ ls) (SaysKeyValue inner ∷ more) may (inner_goes t in_list (values + 1) n q inner.quoted inner.text ls more goes))

  -- more values of a list, and its end
  others_go : (inner : Option Said) (t : Takes) (values n : ℕ) (q : Bool) (others : List Item) (ls : List Lexeme) (more : List Spoken)
      → values + length others ≤ most_values t → TakesOthers t others → ((last : ℕ) → Goes place.Close t false last n q ls more)
      → Goes (behind_value inner) t true values n q (others_lexemes others ls) (items_spoken others more)
  others_go inner t values n q [] ls more fit may goes = closing_goes inner t values n q ls more (goes values)
  others_go inner t values n q (item ∷ others) ls more fit may goes =
      comma_goes inner t values n q (item_lexemes item (others_lexemes others ls)) (item_spoken item (items_spoken others more))
      (item_goes place.Comma t true values n q item.said item.inner (others_lexemes others ls) (items_spoken others more) tt
      (less values (most_values t) (omega (arith, fit))) may.0
      (others_go item.inner t (values + 1) n q others ls more (omega (arith, fit)) may.1 goes))

  rests_behind : (inner : Option Said) (t : Takes) → CanRest (behind_value inner) t
  rests_behind None t = tt
  rests_behind (Some inner) t = tt

  -- what stands behind the = of a qualifier
  values_go : (t : Takes) (n : ℕ) (q : Bool) (value : Value) (ls : List Lexeme) (more : List Spoken)
      → TakesValue t value → ((p : Place) (last : ℕ) → CanRest p t → Goes p t false last n q ls more) → Goes place.Equals t false 0 n q (value_lexemes value ls) (value_spoken value more)
  values_go t n q (Value.One item) ls more may goes =
      item_goes place.Equals t false 0 n q item.said item.inner ls more tt (less 0 (most_values t) may.0) may.1
      (goes (behind_value item.inner) (0 + 1) (rests_behind item.inner t))
  values_go t n q (Value.Many first others) ls more may goes =
      opening_goes t 0 n q (item_lexemes first (others_lexemes others ls)) (item_spoken first (items_spoken others more))
      (item_goes place.Open t true 0 n q first.said first.inner (others_lexemes others ls) (items_spoken others more) tt
      (less 0 (most_values t) (omega (arith, may.0))) may.1
      (others_go first.inner t (0 + 1) n q others ls more (omega (arith, may.0)) may.2 (λ last. goes place.Close last tt)))

  -- ---- parameters

  -- a token that is taken as a parameter
  counts : (p : Place) (t : Takes) (values n : ℕ) (q : Bool) (bytes : List ℕ) (ls : List Lexeme) (said : List Spoken)
      → ((start at : ℕ) → with_token text verb (Some row) (at_place p t false values n q start at) (token_at at (parameter_lexeme bytes)) kinds.Word
      ≡ Ok (at_place place.Parameter t false values (n + 1) q (at + 1) (at + 1 + length bytes)))
      → ((start at : ℕ) → part_of text verb (Some row) (at_place p t false values n q start at) (token_at at (parameter_lexeme bytes)) ≡ Some (parts.Parameter (token_at at (parameter_lexeme bytes))))
      → Goes place.Parameter t false values (n + 1) q ls said
      → Goes p t false values n q (parameter_lexeme bytes ∷ ls) (SaysParameter bytes ∷ said)
  counts p t values n q bytes ls said step is goes start at say =
      let token : Token = token_at at (parameter_lexeme bytes) in
      let end : ℕ = at + 1 + length bytes in
      text_step (at_place p t false values n q start at) (at_place place.Parameter t false values (n + 1) q (at + 1) end) token (placed end ls) (parts.Parameter token)
      (SaysParameter bytes) said (step start at) (is start at) (refl, say.0) (goes (at + 1) end say.1)

  parameter_goes : (p : Place) (t : Takes) (values n : ℕ) (q : Bool) (bytes : List ℕ) (ls : List Lexeme) (said : List Spoken)
      → CanRest p t → nat_lt n row.most ≡ true → Goes place.Parameter t false values (n + 1) q ls said
      → Goes p t false values n q (parameter_lexeme bytes ∷ ls) (SaysParameter bytes ∷ said)
  parameter_goes place.Verb t values n q bytes ls said rests fits goes = counts place.Verb t values n q bytes ls said (λ start at. rw (no_blank_less at, fits) refl) (λ start at. refl) goes
  parameter_goes place.Parameter t values n q bytes ls said rests fits goes = counts place.Parameter t values n q bytes ls said (λ start at. rw (no_blank_less at, fits) refl) (λ start at. refl) goes
  parameter_goes place.Name t values n q bytes ls said rests fits goes = counts place.Name t values n q bytes ls said (λ start at. rw (no_blank_less at, fits, rests) refl) (λ start at. refl) goes
  parameter_goes place.Value t values n q bytes ls said rests fits goes = counts place.Value t values n q bytes ls said (λ start at. rw (no_blank_less at, fits) refl) (λ start at. refl) goes
  parameter_goes place.KeyValue t values n q bytes ls said rests fits goes = counts place.KeyValue t values n q bytes ls said (λ start at. rw (no_blank_less at, fits) refl) (λ start at. refl) goes
  parameter_goes place.Close t values n q bytes ls said rests fits goes = counts place.Close t values n q bytes ls said (λ start at. rw fits refl) (λ start at. refl) goes
  parameter_goes p t values n q bytes ls said rests fits goes = absurd rests

  -- ---- all pieces

  ended_whole : (p : Place) (t : Takes) (values n : ℕ) (q : Bool) (start at : ℕ)
      → CanRest p t → nat_lt n row.least ≡ false → (row.must_set && not q) ≡ false → ended text (Some row) (at_place p t false values n q start at) p ≡ Ok row.command
  ended_whole place.Verb t values n q start at rests enough set = rw (enough, set) refl
  ended_whole place.Parameter t values n q start at rests enough set = rw (enough, set) refl
  ended_whole place.Name t values n q start at rests enough set = rw (rests, enough, set) refl
  ended_whole place.Value t values n q start at rests enough set = rw (enough, set) refl
  ended_whole place.KeyValue t values n q start at rests enough set = rw (enough, set) refl
  ended_whole place.Close t values n q start at rests enough set = rw (enough, set) refl
  ended_whole p t values n q start at rests enough set = absurd rests

  pub pieces_go : (pieces : List Piece) (p : Place) (t : Takes) (values n : ℕ) (q : Bool) → CanRest p t → Allows verb row n q pieces
      → Goes p t false values n q (lexemes pieces) (spoken pieces)
  pieces_go [] p t values n q rests may = λ start at say. ([], tt, ended_whole p t values n q start at rests may.0 may.1, refl)
  pieces_go (Piece.Parameter bytes ∷ pieces) p t values n q rests may =
      parameter_goes p t values n q bytes (lexemes pieces) (spoken pieces) rests may.0 (pieces_go pieces place.Parameter t values (n + 1) q tt may.1)
  pieces_go (Piece.Marked word ∷ pieces) p t values n q rests may =
      slash_goes p t values n q (word_lexeme (spelling word) ∷ lexemes pieces) (SaysQualifier word ∷ spoken pieces) rests
      (λ next at_slash. name_goes next t may.0 values n q word (lexemes pieces) (spoken pieces) at_slash may.1
      (pieces_go pieces place.Name may.0 0 n true may.2 may.3))
  pieces_go (Piece.Valued word value ∷ pieces) p t values n q rests may =
      slash_goes p t values n q (word_lexeme (spelling word) ∷ equals ∷ value_lexemes value (lexemes pieces)) (SaysQualifier word ∷ value_spoken value (spoken pieces)) rests
      (λ next at_slash. name_goes next t may.0 values n q word (equals ∷ value_lexemes value (lexemes pieces)) (value_spoken value (spoken pieces)) at_slash may.1
      (equals_goes may.0 0 n true (value_lexemes value (lexemes pieces)) (value_spoken value (spoken pieces))
      (values_go may.0 n true value (lexemes pieces) (spoken pieces) may.2 (λ place last r. pieces_go pieces place may.0 last n true r may.3))))
