-- Which command pieces name, and that nothing in them excludes anything else.
use Rattle.std.proofs.Common.{◌≡◌, ◌+◌, ℕ, List, [], ◌∷◌, length, find, Option, None, Some, is_some, Bool, true, false, cond, ◌&&◌, ◌||◌, if◌then◌else◌, Result, Ok, refl, ap, ◌∙◌, option_map}
use Rattle.std.specs.List.{list_all}
use Rattle.qm_commands.specs.declared.tokens.token.Token.{Token}
use Rattle.qm_commands.specs.declared.tokens.token.TokenKind.TheVariants as kinds
use Rattle.qm_commands.specs.Tokens.{tokens_of}
use Rattle.qm_grammar.specs.declared.part.Part.{Part}
use Rattle.qm_grammar.specs.declared.place.Place.TheVariants as place
use Rattle.qm_commands.specs.declared.rules.Takes.TheVariants as takes
use Rattle.qm_commands.specs.declared.table.Row.{Row}
use Rattle.qm_commands.specs.declared.table.Verb.{Verb}
use Rattle.qm_commands.specs.declared.table.Verb.TheVariants as verb
use Rattle.qm_commands.specs.declared.word.Word.{Word}
use Rattle.qm_names.specs.Conflicts.{is_word_given, place_with, place_from, counting_place, later_of_both, earlier, conflict_of, first_conflict, or_conflict}
use Rattle.qm_grammar.specs.Finding.{verb_of, first_parameter, has_object, has_option, is_named, row_of, named_behind, named_command}
use Rattle.qm_commands.specs.Names.{is_name}
use Rattle.qm_grammar.specs.Parsed.{tokens_in, tokens_by, parts_in, command_in, or_unreadable}
use Rattle.qm_grammar.specs.Parts.{parts_of, parts_behind, parts_from}
use Rattle.qm_grammar.specs.Places.{begun}
use Rattle.qm_grammar.specs.Reading.{command_of, command_behind, command_by, read_from}
use Rattle.qm_commands.specs.Rules.{exclusions_of}
use Rattle.qm_commands.specs.Spelled.{bytes_of}
use Rattle.qm_commands.specs.Table.{rows_of, verbs}
use Rattle.qm_commands.specs.Words.{undone_by, spelling, verb_spelling}
use Rattle.qm_spelling.proofs.SpelledLexemes.{Lexeme, Say, text_of, placed, token_at, lexed, said}
use Rattle.qm_spelling.proofs.SpelledPieces.{Said, Item, Value, Piece, ArePieces, slash, equals, word_lexeme, said_lexeme, inner_lexemes, item_lexemes, others_lexemes, value_lexemes, lexemes, command_lexemes, command_fits}
use Rattle.qm_spelling.proofs.SpelledReading.{no_rival_by, means_by, name_by, spoken, Tells, Allows, Done, at_place, pieces_go}

-- ---- which qualifiers and options count

-- bytes are this word, if there is one
abbrev pub other_by : List ℕ → Verb → Option Row → Option Word → Bool
other_by bytes verb row None = false
other_by bytes verb row (Some word) = name_by bytes verb row word

-- a word counts once this one is given
abbrev pub counted : Verb → Option Row → Word → Word → Bool → Bool
counted verb row word given so_far = if name_by (spelling given) verb row word then true else if other_by (spelling given) verb row (undone_by word) then false else so_far

-- a word counts once these pieces are given
abbrev pub counts_in : Verb → Option Row → Word → Bool → List Piece → Bool
counts_in verb row word so_far [] = so_far
counts_in verb row word so_far (Piece.Parameter text ∷ pieces) = counts_in verb row word so_far pieces
counts_in verb row word so_far (Piece.Marked given ∷ pieces) = counts_in verb row word (counted verb row word given so_far) pieces
counts_in verb row word so_far (Piece.Valued given value ∷ pieces) = counts_in verb row word (counted verb row word given so_far) pieces

either_way : (a b : Bool) (s : ℕ) (so : Option ℕ) → is_some (if a then Some s else if b then None else so) ≡ (if a then true else if b then false else is_some so)
either_way true b s so = refl
either_way false true s so = refl
either_way false false s so = refl

module _ (text : List ℕ) (v : Verb) (row : Option Row) (word : Word) where
  -- behind these tokens the word counts by what was given in front of them
  abbrev Counts : List Lexeme → (Bool → Bool) → Type 0
  Counts ls f = (at : ℕ) (so_far : Option ℕ) → Say text (placed at ls) ls → is_some (place_from text v row word None so_far (placed at ls)) ≡ f (is_some so_far)

  said_counts : (quoted : Bool) (bytes : List ℕ) (ls : List Lexeme) (f : Bool → Bool) → Counts ls f → Counts (said_lexeme (record { quoted = quoted; text = bytes }) ∷ ls) f
  said_counts true bytes ls f counts at so_far say = counts (at + length (said_lexeme (record { quoted = true; text = bytes })).bytes) so_far say.1
  said_counts false bytes ls f counts at so_far say = counts (at + length bytes) so_far say.1

  inner_counts : (inner : Option Said) (ls : List Lexeme) (f : Bool → Bool) → Counts ls f → Counts (inner_lexemes inner ls) f
  inner_counts None ls f counts at so_far say = counts at so_far say
  inner_counts (Some inner) ls f counts at so_far say = said_counts inner.quoted inner.text ls f counts (at + 1) so_far say.1

  item_counts : (item : Item) (ls : List Lexeme) (f : Bool → Bool) → Counts ls f → Counts (item_lexemes item ls) f
  item_counts item ls f counts = said_counts item.said.quoted item.said.text (inner_lexemes item.inner ls) f (inner_counts item.inner ls f counts)

  others_count : (others : List Item) (ls : List Lexeme) (f : Bool → Bool) → Counts ls f → Counts (others_lexemes others ls) f
  others_count [] ls f counts = λ at so_far say. counts (at + 1) so_far say.1
  others_count (item ∷ others) ls f counts = λ at so_far say. item_counts item (others_lexemes others ls) f (others_count others ls f counts) (at + 1) so_far say.1

  value_counts : (value : Value) (ls : List Lexeme) (f : Bool → Bool) → Counts ls f → Counts (value_lexemes value ls) f
  value_counts (Value.One item) ls f counts = item_counts item ls f counts
  value_counts (Value.Many first others) ls f counts = λ at so_far say. item_counts first (others_lexemes others ls) f (others_count others ls f counts) (at + 1) so_far say.1

  name_is : (start end : ℕ) (bytes : List ℕ) (w : Word) → bytes_of text (record { kind = kinds.Word; start = start; end = end }) ≡ bytes
      → is_name text v row (record { kind = kinds.Word; start = start; end = end }) w ≡ name_by bytes v row w
  name_is start end bytes w is = ap (λ (b : List ℕ). name_by b v row w) is

  given_is : (start end : ℕ) (bytes : List ℕ) (w : Option Word) → bytes_of text (record { kind = kinds.Word; start = start; end = end }) ≡ bytes
      → is_word_given text v row w (record { kind = kinds.Word; start = start; end = end }) ≡ other_by bytes v row w
  given_is start end bytes None is = refl
  given_is start end bytes (Some w) is = name_is start end bytes w is

  name_counts : (given : Word) (ls : List Lexeme) (f : Bool → Bool) → Counts ls f → Counts (slash ∷ word_lexeme (spelling given) ∷ ls) (λ b. f (counted v row word given b))
  name_counts given ls f counts at so_far say =
      let token : Token = token_at (at + 1) (word_lexeme (spelling given)) in
      let end : ℕ = at + 1 + length (spelling given) in
      let is : is_name text v row token word ≡ name_by (spelling given) v row word = name_is (at + 1) end (spelling given) word say.1.0 in
      let other : is_word_given text v row (undone_by word) token ≡ other_by (spelling given) v row (undone_by word) = given_is (at + 1) end (spelling given) (undone_by word) say.1.0 in
      counts end (place_with text v row word (Some at) so_far token) say.1.1
      ∙ ap f (either_way (is_name text v row token word) (is_word_given text v row (undone_by word) token) at so_far
      ∙ ap (λ (a : Bool). if a then true else if is_word_given text v row (undone_by word) token then false else is_some so_far) is
      ∙ ap (λ (b : Bool). if name_by (spelling given) v row word then true else if b then false else is_some so_far) other)

  pieces_count : (pieces : List Piece) → Counts (lexemes pieces) (λ b. counts_in v row word b pieces)
  pieces_count [] = λ at so_far say. refl
  pieces_count (Piece.Parameter bytes ∷ pieces) = λ at so_far say. pieces_count pieces (at + 1 + length bytes) so_far say.1
  pieces_count (Piece.Marked given ∷ pieces) = name_counts given (lexemes pieces) (λ b. counts_in v row word b pieces) (pieces_count pieces)
  pieces_count (Piece.Valued given value ∷ pieces) =
      name_counts given (equals ∷ value_lexemes value (lexemes pieces)) (λ b. counts_in v row word b pieces)
      (λ at so_far say. value_counts value (lexemes pieces) (λ b. counts_in v row word b pieces) (pieces_count pieces) (at + 1) so_far say.1)

  pub counting_is : (pieces : List Piece) (at : ℕ) → Say text (placed at (lexemes pieces)) (lexemes pieces)
      → is_some (counting_place text v row (placed at (lexemes pieces)) word) ≡ counts_in v row word false pieces
  counting_is pieces at say = pieces_count pieces at None say

-- ---- no conflict

-- no two of these pairs count
abbrev pub clashes : Verb → Row → List Piece → List (Word × Word) → Bool
clashes v row pieces [] = false
clashes v row pieces (pair ∷ pairs) = (counts_in v (Some row) pair.0 false pieces && counts_in v (Some row) pair.1 false pieces) || clashes v row pieces pairs

or_left : (a b : Bool) → (a || b) ≡ false → a ≡ false
or_left true b h = absurd cc
or_left false b h = refl

or_right : (a b : Bool) → (a || b) ≡ false → b ≡ false
or_right true b h = absurd cc
or_right false b h = h

not_both : (a b : Option ℕ) → (is_some a && is_some b) ≡ false → later_of_both a b ≡ None
not_both None b h = refl
not_both (Some a) None h = refl
not_both (Some a) (Some b) h = absurd cc

none_earlier : (a b : Option ℕ) → a ≡ None → b ≡ None → earlier a b ≡ None
none_earlier None b ha hb = hb
none_earlier (Some a) b ha hb = absurd cc

no_clash : (text : List ℕ) (v : Verb) (row : Row) (pieces : List Piece) (at : ℕ) → Say text (placed at (lexemes pieces)) (lexemes pieces)
    → (pairs : List (Word × Word)) → clashes v row pieces pairs ≡ false → first_conflict text v (Some row) (placed at (lexemes pieces)) pairs ≡ None
no_clash text v row pieces at say [] h = refl
no_clash text v row pieces at say (pair ∷ pairs) h =
    let tokens : List Token = placed at (lexemes pieces) in
    none_earlier (conflict_of text v (Some row) tokens pair) (first_conflict text v (Some row) tokens pairs)
    (not_both (counting_place text v (Some row) tokens pair.0) (counting_place text v (Some row) tokens pair.1)
    (rw (counting_is text v (Some row) pair.0 pieces at say, counting_is text v (Some row) pair.1 pieces at say) (or_left _ _ h)))
    (no_clash text v row pieces at say pairs (or_right _ _ h))

-- ---- the row of the table

abbrev pub object_alone_by : List ℕ → List ℕ → Option Word → Bool
object_alone_by bytes name None = true
object_alone_by bytes name (Some other) = no_rival_by bytes name (spelling other)

abbrev pub object_by : Verb → List Piece → Option Word → Bool
object_by v pieces None = true
object_by v [] (Some word) = false
object_by v (Piece.Parameter bytes ∷ pieces) (Some word) = means_by bytes (spelling word) (list_all (λ (row : Row). object_alone_by bytes (spelling word) row.object) (rows_of v))
object_by v (_ ∷ pieces) (Some word) = false

abbrev pub option_by : Verb → List Piece → Option Word → Bool
option_by v pieces None = true
option_by v pieces (Some word) = counts_in v None word false pieces

abbrev pub named_by_pieces : Verb → List Piece → Row → Bool
named_by_pieces v pieces row = object_by v pieces row.object && option_by v pieces row.option && option_by v pieces row.further

abbrev pub row_by : Verb → List Piece → Option Row
row_by v pieces = find (named_by_pieces v pieces) (rows_of v)

abbrev pub HaveNoObject : List Row → Type 0
HaveNoObject [] = Unit {0}
HaveNoObject (row ∷ rows) = (row.object ≡ None) × HaveNoObject rows

-- a parameter comes first, or no first parameter names a command
abbrev pub Leads : Verb → List Piece → Type 0
Leads v [] = HaveNoObject (rows_of v)
Leads v (Piece.Parameter bytes ∷ pieces) = Unit {0}
Leads v (_ ∷ pieces) = HaveNoObject (rows_of v)

-- two tests answer the same of each row
abbrev Agree : (Row → Bool) → (Row → Bool) → List Row → Type 0
Agree p q [] = Unit {0}
Agree p q (row ∷ rows) = (p row ≡ q row) × Agree p q rows

same_found : (p q : Row → Bool) (rows : List Row) → Agree p q rows → find p rows ≡ find q rows
same_found p q [] same = refl
same_found p q (row ∷ rows) same =
    ap (λ (b : Bool). cond b (Some row) (find p rows)) same.0
    ∙ ap (λ (o : Option Row). cond (q row) (Some row) o) (same_found p q rows same.1)

option_is : (text : List ℕ) (v : Verb) (pieces : List Piece) (at : ℕ) → Say text (placed at (lexemes pieces)) (lexemes pieces) → (word : Option Word)
    → has_option text v (placed at (lexemes pieces)) word ≡ option_by v pieces word
option_is text v pieces at say None = refl
option_is text v pieces at say (Some word) = counting_is text v None word pieces at say

object_is : (text : List ℕ) (v : Verb) (bytes : List ℕ) (pieces : List Piece) (start end : ℕ) → bytes_of text (record { kind = kinds.Word; start = start; end = end }) ≡ bytes
    → (word : Option Word) → has_object text v word (Some (record { kind = kinds.Word; start = start; end = end })) ≡ object_by v (Piece.Parameter bytes ∷ pieces) word
object_is text v bytes pieces start end is None = refl
object_is text v bytes pieces start end is (Some word) = ap (λ (b : List ℕ). means_by b (spelling word) (list_all (λ (row : Row). object_alone_by b (spelling word) row.object) (rows_of v))) is

module _ (text : List ℕ) (v : Verb) (at : ℕ) where
  abbrev named_there : List Piece → Row → Bool
  named_there pieces = is_named text v (placed at (lexemes pieces))

  with_objects : (bytes : List ℕ) (pieces : List Piece) → Say text (placed at (lexemes (Piece.Parameter bytes ∷ pieces))) (lexemes (Piece.Parameter bytes ∷ pieces))
      → (rows : List Row) → Agree (named_there (Piece.Parameter bytes ∷ pieces)) (named_by_pieces v (Piece.Parameter bytes ∷ pieces)) rows
  with_objects bytes pieces say [] = tt
  with_objects bytes pieces say (row ∷ rows) =
      let all : List Piece = Piece.Parameter bytes ∷ pieces in (
        rw (object_is text v bytes pieces (at + 1) (at + 1 + length bytes) say.0 row.object, option_is text v all at say row.option, option_is text v all at say row.further) refl,
        with_objects bytes pieces say rows,
      )

  no_object : (pieces : List Piece) (parameter : Option Token) (word : Option Word) → word ≡ None → has_object text v word parameter ≡ object_by v pieces word
  no_object pieces parameter None h = refl
  no_object pieces parameter (Some word) h = absurd cc

  without_objects : (pieces : List Piece) → Say text (placed at (lexemes pieces)) (lexemes pieces)
      → (rows : List Row) → HaveNoObject rows → Agree (named_there pieces) (named_by_pieces v pieces) rows
  without_objects pieces say [] none = tt
  without_objects pieces say (row ∷ rows) none = (
    rw (no_object pieces (first_parameter (placed at (lexemes pieces))) row.object none.0, option_is text v pieces at say row.option, option_is text v pieces at say row.further) refl,
    without_objects pieces say rows none.1,
  )

  row_is : (pieces : List Piece) → Leads v pieces → Say text (placed at (lexemes pieces)) (lexemes pieces) → row_of text (placed at (lexemes pieces)) v ≡ row_by v pieces
  row_is [] leads say = same_found (named_there []) (named_by_pieces v []) (rows_of v) (without_objects [] say (rows_of v) leads)
  row_is (Piece.Parameter bytes ∷ pieces) leads say =
      same_found (named_there (Piece.Parameter bytes ∷ pieces)) (named_by_pieces v (Piece.Parameter bytes ∷ pieces)) (rows_of v) (with_objects bytes pieces say (rows_of v))
  row_is (Piece.Marked word ∷ pieces) leads say =
      same_found (named_there (Piece.Marked word ∷ pieces)) (named_by_pieces v (Piece.Marked word ∷ pieces)) (rows_of v) (without_objects (Piece.Marked word ∷ pieces) say (rows_of v) leads)
  row_is (Piece.Valued word value ∷ pieces) leads say =
      same_found (named_there (Piece.Valued word value ∷ pieces)) (named_by_pieces v (Piece.Valued word value ∷ pieces)) (rows_of v) (without_objects (Piece.Valued word value ∷ pieces) say (rows_of v) leads)

-- ---- the verb

abbrev verb_by : List ℕ → Option Verb
verb_by bytes = find (λ v. means_by bytes (verb_spelling v) (list_all (λ other. no_rival_by bytes (verb_spelling v) (verb_spelling other)) verbs)) verbs

verb_itself : (v : Verb) → verb_by (verb_spelling v) ≡ Some v
verb_itself verb.Initialize = refl
verb_itself _ = refl

verb_is : (text : List ℕ) (v : Verb) (start end : ℕ) → bytes_of text (record { kind = kinds.Word; start = start; end = end }) ≡ verb_spelling v
    → verb_of text (record { kind = kinds.Word; start = start; end = end }) ≡ Some v
verb_is text v start end is = ap verb_by is ∙ verb_itself v

-- ---- the whole command

-- what the grammar makes of a text whose parts say this
pub record IsRead (text : List ℕ) (row : Row) (pieces : List Piece) : Type 0 where
  pub parts : List Part
  pub tells : Tells text parts (spoken pieces)
  pub command : command_in text ≡ Ok row.command
  pub are_parts : parts_in text ≡ parts
  pub named : named_command text (tokens_in text) ≡ Some row.command

-- these pieces are a command of this row
pub record Makes (v : Verb) (row : Row) (pieces : List Piece) : Type 0 where
  pub lexed : ArePieces pieces
  pub leads : Leads v pieces
  pub found : row_by v pieces ≡ Some row
  pub allowed : Allows v row 0 false pieces
  pub agrees : clashes v row pieces (exclusions_of v) ≡ false

module _ (v : Verb) (row : Row) (pieces : List Piece) (makes : Makes v row pieces) where
  abbrev text : List ℕ
  text = text_of (command_lexemes v pieces)

  abbrev at : ℕ
  at = 0 + length (verb_spelling v)

  abbrev first : Token
  first = record { kind = kinds.Word; start = 0; end = at }

  abbrev tokens : List Token
  tokens = placed at (lexemes pieces)

  say : Say text (placed 0 (command_lexemes v pieces)) (command_lexemes v pieces)
  say = said (command_lexemes v pieces)

  all_lexed : tokens_of text ≡ Ok (placed 0 (command_lexemes v pieces))
  all_lexed = lexed (command_lexemes v pieces) 0 (command_fits v pieces makes.lexed)

  first_is : verb_of text first ≡ Some v
  first_is = verb_is text v 0 at say.0

  tokens_are : tokens_in text ≡ first ∷ tokens
  tokens_are = ap (tokens_by text) all_lexed

  row_found : row_of text tokens v ≡ Some row
  row_found = row_is text v at pieces makes.leads say.1 ∙ makes.found

  no_conflict : first_conflict text v (Some row) tokens (exclusions_of v) ≡ None
  no_conflict = no_clash text v row pieces at say.1 (exclusions_of v) makes.agrees

  done : Done text v row (at_place place.Verb takes.Nothing false 0 0 false 0 at) tokens (spoken pieces)
  done = pieces_go text v row pieces place.Verb takes.Nothing 0 0 false tt makes.allowed 0 at say.1

  -- so the grammar reads them
  pub is_read : IsRead text row pieces
  is_read = record {
    parts = done.0;
    tells = done.1;
    command =
        ap (λ (r : Result (List Token) ℕ). or_unreadable r (command_of text (tokens_in text))) all_lexed
        ∙ ap (command_of text) tokens_are
        ∙ ap (command_behind text first tokens) first_is
        ∙ ap (command_by text first tokens v) row_found
        ∙ ap (λ (c : Option ℕ). or_conflict c (read_from text v (Some row) (begun first) tokens)) no_conflict
        ∙ done.2;
    are_parts =
        ap (parts_of text) tokens_are
        ∙ ap (parts_behind text first tokens) first_is
        ∙ ap (λ (r : Option Row). parts_from text v r (begun first) tokens) row_found
        ∙ done.3;
    named =
        ap (named_command text) tokens_are
        ∙ ap (named_behind text tokens) first_is
        ∙ ap (option_map (λ (r : Row). r.command)) row_found;
  }
