-- What counts of the qualifiers of a command by its parts counts by its tokens, so that no two count that exclude each other.
use Rattle.std.proofs.Common.{◌≡◌, ℕ, Bool, true, false, cond, nat_lt, List, [], ◌∷◌, ◌++◌, Option, None, Some, Result, Ok, Err, IfOk, is_some, refl, sym, ◌∙◌, option_to_list}
use Rattle.qm_commands.specs.declared.tokens.token.Token.{Token}
use Rattle.qm_commands.specs.declared.tokens.token.TokenKind.{TokenKind}
use Rattle.qm_commands.specs.declared.tokens.token.TokenKind.TheVariants as kinds
use Rattle.qm_commands.specs.declared.fault.Fault.{Fault}
use Rattle.qm_grammar.specs.declared.part.Part.{Part}
use Rattle.qm_grammar.specs.declared.part.Part.TheVariants as part
use Rattle.qm_grammar.specs.declared.place.Place.{Place}
use Rattle.qm_grammar.specs.declared.place.Place.TheVariants as place
use Rattle.qm_grammar.specs.declared.place.State.{State}
use Rattle.qm_commands.specs.declared.rules.Takes.{Takes}
use Rattle.qm_commands.specs.declared.table.Command.{Command}
use Rattle.qm_commands.specs.declared.table.Row.{Row}
use Rattle.qm_commands.specs.declared.table.Verb.{Verb}
use Rattle.qm_commands.specs.declared.word.Word.{Word}
use Rattle.qm_names.specs.Conflicts.{slash_place, place_with, place_from, counting_place, later_of_both, earlier, conflict_of, first_conflict}
use Rattle.qm_commands.specs.Names.{rule_for}
use Rattle.qm_grammar.specs.Parts.{qualifier_part, text_part, part_of, on_next, parts_from}
use Rattle.qm_grammar.specs.Places.{begun, is_joined, one_more}
use Rattle.qm_grammar.specs.Reading.{ended, on_state, read_from}
use Rattle.qm_commands.specs.Rules.{needs_value, may_have_key, most_values}
use Rattle.qm_commands.specs.Spelled.{is_text, is_word}
use Rattle.qm_grammar.specs.Steps.{named_by, is_no_object, counted, with_parameter, with_text, with_word, with_slash, with_equals, with_open, with_close, with_comma, with_token}
use Rattle.qm_spelling.proofs.ReadSettings.{folded}
use Rattle.qm_spelling.proofs.ReadTokens.{is_slash, mapped}

-- ---- what counts by the parts

-- what one part leaves, where a token is one
abbrev after : (Word → Bool → Bool) → Option Part → Bool → Bool
after effect None b = b
after effect (Some (part.Parameter token)) b = b
after effect (Some (part.Qualifier word place)) b = effect word b
after effect (Some (part.Value token)) b = b
after effect (Some (part.KeyValue token)) b = b

first_folded : (effect : Word → Bool → Bool) (given : Option Part) (b : Bool) (parts : List Part)
    → folded effect (λ x. x) b (option_to_list given ++ parts) ≡ folded effect (λ x. x) (after effect given b) parts
first_folded effect None b parts = refl
first_folded effect (Some (part.Parameter token)) b parts = refl
first_folded effect (Some (part.Qualifier word place)) b parts = refl
first_folded effect (Some (part.Value token)) b parts = refl
first_folded effect (Some (part.KeyValue token)) b parts = refl

-- ---- one stands behind a / where the last token is one

abbrev Goes : Bool → Result State Fault → Type 0
Goes slash next = IfOk next (λ (t : State). is_slash t.place ≡ slash)

module _ (s : State) (slash : Bool) where
  where_goes : (b : Bool) (t : State) (e : Fault) → is_slash t.place ≡ slash → Goes slash (cond b (Ok t) (Err e))
  where_goes true t e is = is
  where_goes false t e is = tt

  unless_goes : (b : Bool) (next : Result State Fault) (e : Fault) → Goes slash next → Goes slash (cond b (Err e) next)
  unless_goes true next e is = tt
  unless_goes false next e is = is

module _ (s : State) (token : Token) where
  slash_goes : (at : Place) → Goes true (with_slash s token at)
  slash_goes place.VerbSlash = tt
  slash_goes place.Slash = tt
  slash_goes place.Equals = where_goes s true (needs_value s.takes) _ _ refl
  slash_goes place.Verb = refl
  slash_goes _ = refl

  equals_goes : (at : Place) → Goes false (with_equals s token at)
  equals_goes place.Name = refl
  equals_goes place.Value = where_goes s false (may_have_key s.takes) _ _ refl
  equals_goes _ = tt

  open_goes : (at : Place) → Goes false (with_open s token at)
  open_goes place.Equals = refl
  open_goes place.Open = tt
  open_goes place.Comma = tt
  open_goes place.Key = unless_goes s false s.in_list (Ok _) _ refl
  open_goes place.KeyOpen = tt
  open_goes _ = tt

  close_goes : (at : Place) → Goes false (with_close s token at)
  close_goes place.Value = where_goes s false s.in_list _ _ refl
  close_goes place.KeyValue = where_goes s false s.in_list _ _ refl
  close_goes place.Open = tt
  close_goes place.KeyOpen = tt
  close_goes _ = tt

  comma_goes : (at : Place) → Goes false (with_comma s token at)
  comma_goes place.Value = where_goes s false s.in_list _ _ refl
  comma_goes place.KeyValue = where_goes s false s.in_list _ _ refl
  comma_goes _ = tt

  counted_goes : (parameters : Option ℕ) → Goes false (counted s token parameters)
  counted_goes None = tt
  counted_goes (Some n) = refl

  module _ (verb : Verb) (row : Option Row) where
    parameter_goes : Goes false (with_parameter verb row s token)
    parameter_goes =
        unless_goes s false (is_joined s.place s.end token.start) _ _
        (unless_goes s false (is_no_object verb row s.parameters) _ _ (counted_goes (one_more row s.parameters)))

    text_goes : (at : Place) → Goes false (with_text verb row s token at)
    text_goes place.Equals = where_goes s false (nat_lt s.values (most_values s.takes)) _ _ refl
    text_goes place.Open = where_goes s false (nat_lt s.values (most_values s.takes)) _ _ refl
    text_goes place.Comma = where_goes s false (nat_lt s.values (most_values s.takes)) _ _ refl
    text_goes place.Key = refl
    text_goes place.KeyOpen = refl
    text_goes place.Value = unless_goes s false s.in_list _ _ parameter_goes
    text_goes place.KeyValue = unless_goes s false s.in_list _ _ parameter_goes
    text_goes _ = parameter_goes

    module _ (text : List ℕ) where
      name_goes : (b : Bool) (rule : Option (Word × Takes)) (e : Fault) → Goes false (cond b (named_by text verb row s token rule) (Err e))
      name_goes true None e = tt
      name_goes true (Some rule) e = refl
      name_goes false rule e = tt

      word_goes : (at : Place) → Goes false (with_word text verb row s token at)
      word_goes place.VerbSlash = name_goes (is_word token.kind) (rule_for text verb row token) _
      word_goes place.Slash = name_goes (is_word token.kind) (rule_for text verb row token) _
      word_goes _ = text_goes s.place

      token_goes : (kind : TokenKind) → Goes (is_some (slash_place kind token.start)) (with_token text verb row s token kind)
      token_goes kinds.Word = word_goes s.place
      token_goes kinds.Quoted = word_goes s.place
      token_goes kinds.Slash = slash_goes s.place
      token_goes kinds.Equals = equals_goes s.place
      token_goes kinds.Open = open_goes s.place
      token_goes kinds.Close = close_goes s.place
      token_goes kinds.Comma = comma_goes s.place

anyway : (A : Type 0) (next : Result State Fault) → A → IfOk next (λ _. A)
anyway A (Ok t) a = a
anyway A (Err e) a = tt

-- ---- what counts by the tokens

-- a name behind a / leaves by the tokens what it leaves by the parts
abbrev pub Tracks : List ℕ → Verb → Option Row → Word → (Word → Bool → Bool) → Type 0
Tracks text verb row word effect =
    (token : Token) (rule : Word × Takes) (slash : ℕ) (so_far : Option ℕ) (b : Bool) → rule_for text verb row token ≡ Some rule → (b ≡ true → is_some so_far ≡ true)
    → effect rule.0 b ≡ true → is_some (place_with text verb row word (Some slash) so_far token) ≡ true

module _ (text : List ℕ) (verb : Verb) (row : Option Row) (word : Word) (effect : Word → Bool → Bool) (tracks : Tracks text verb row word effect) where
  abbrev StepOk : Place → Token → Option Part → Type 0
  StepOk at token given =
      (slash so_far : Option ℕ) (b : Bool) → is_slash at ≡ is_some slash → (b ≡ true → is_some so_far ≡ true) → after effect given b ≡ true
      → is_some (place_with text verb row word slash so_far token) ≡ true

  plain : (at : Place) (token : Token) (given : Option Part) → is_slash at ≡ false → ((b : Bool) → after effect given b ≡ b) → StepOk at token given
  plain at token given other same None so_far b is had h = had (sym (same b) ∙ h)
  plain at token given other same (Some slash) so_far b is had h = absurd cc

  text_plain : (slash : ℕ) (rule : Option (Word × Takes)) (token : Token) (at : Place) → is_slash at ≡ false → (b : Bool) → after effect (text_part slash rule token at) b ≡ b
  text_plain slash rule token place.VerbSlash other b = absurd cc
  text_plain slash rule token place.Slash other b = absurd cc
  text_plain slash rule token _ other b = refl

  named : (at : Place) (token : Token) (start : ℕ) (rule : Word × Takes) → is_slash at ≡ true → rule_for text verb row token ≡ Some rule → StepOk at token (Some (part.Qualifier rule.0 start))
  named at token start rule behind found None so_far b is had h = absurd cc
  named at token start rule behind found (Some slash) so_far b is had h = tracks token rule slash so_far b found had h

  module _ (s : State) (token : Token) where
    abbrev Takes_step : Place → Option Part → Result State Fault → Type 0
    Takes_step at given next = IfOk next (λ _. StepOk at token given)

    sign : (at : Place) → is_slash at ≡ false → (next : Result State Fault) → Takes_step at None next
    sign at other next = anyway (StepOk at token None) next (plain at token None other (λ b. refl))

    slash_step : (at : Place) → Takes_step at None (with_slash s token at)
    slash_step place.VerbSlash = tt
    slash_step place.Slash = tt
    slash_step at = sign at refl (with_slash s token at)

    equals_step : (at : Place) → Takes_step at None (with_equals s token at)
    equals_step place.VerbSlash = tt
    equals_step place.Slash = tt
    equals_step at = sign at refl (with_equals s token at)

    open_step : (at : Place) → Takes_step at None (with_open s token at)
    open_step place.VerbSlash = tt
    open_step place.Slash = tt
    open_step at = sign at refl (with_open s token at)

    close_step : (at : Place) → Takes_step at None (with_close s token at)
    close_step place.VerbSlash = tt
    close_step place.Slash = tt
    close_step at = sign at refl (with_close s token at)

    comma_step : (at : Place) → Takes_step at None (with_comma s token at)
    comma_step place.VerbSlash = tt
    comma_step place.Slash = tt
    comma_step at = sign at refl (with_comma s token at)

    abbrev rule : Option (Word × Takes)
    rule = rule_for text verb row token

    name_step : (at : Place) → is_slash at ≡ true → (b : Bool) (found : Option (Word × Takes)) (e : Fault) → rule ≡ found
        → Takes_step at (qualifier_part s.start found) (cond b (named_by text verb row s token found) (Err e))
    name_step at behind true None e is = tt
    name_step at behind true (Some r) e is = named at token s.start r behind is
    name_step at behind false found e is = tt

    word_step : (at : Place) → at ≡ s.place → Takes_step at (text_part s.start rule token at) (with_word text verb row s token at)
    word_step place.VerbSlash is = name_step place.VerbSlash refl (is_word token.kind) rule _ refl
    word_step place.Slash is = name_step place.Slash refl (is_word token.kind) rule _ refl
    word_step at is =
        anyway (StepOk at token (text_part s.start rule token at)) (with_text verb row s token s.place)
        (plain at token (text_part s.start rule token at) refl (text_plain s.start rule token at refl))

    token_step : (kind : TokenKind) → Takes_step s.place (cond (is_text kind) (text_part s.start rule token s.place) None) (with_token text verb row s token kind)
    token_step kinds.Word = word_step s.place refl
    token_step kinds.Quoted = word_step s.place refl
    token_step kinds.Slash = slash_step s.place
    token_step kinds.Equals = equals_step s.place
    token_step kinds.Open = open_step s.place
    token_step kinds.Close = close_step s.place
    token_step kinds.Comma = comma_step s.place

  abbrev Counts : State → List Token → List Part → Type 0
  Counts s tokens parts =
      (slash so_far : Option ℕ) (b : Bool) → is_slash s.place ≡ is_some slash → (b ≡ true → is_some so_far ≡ true) → folded effect (λ x. x) b parts ≡ true
      → is_some (place_from text verb row word slash so_far tokens) ≡ true

  then_counts : (s : State) (token : Token) (tokens : List Token) (given : Option Part) (next : Result State Fault)
      → Goes (is_some (slash_place token.kind token.start)) next → Takes_step s token s.place given next
      → ((t : State) → IfOk (read_from text verb row t tokens) (λ _. Counts t tokens (parts_from text verb row t tokens)))
      → IfOk (on_state next (λ t. read_from text verb row t tokens)) (λ _. Counts s (token ∷ tokens) (on_next next (λ t. option_to_list given ++ parts_from text verb row t tokens)))
  then_counts s token tokens given (Ok t) goes step rest =
      mapped (Counts t tokens (parts_from text verb row t tokens)) (Counts s (token ∷ tokens) (option_to_list given ++ parts_from text verb row t tokens)) (read_from text verb row t tokens)
      (λ counts slash so_far b is had h. counts (slash_place token.kind token.start) (place_with text verb row word slash so_far token) (after effect given b) goes (step slash so_far b is had) (sym (first_folded effect given b (parts_from text verb row t tokens)) ∙ h))
      (rest t)
  then_counts s token tokens given (Err e) goes step rest = tt

  counts_nothing : (r : Result Command Fault) (s : State) → IfOk r (λ _. Counts s [] [])
  counts_nothing (Ok c) s = λ slash so_far b is had h. had h
  counts_nothing (Err e) s = tt

  counts_from : (tokens : List Token) (s : State) → IfOk (read_from text verb row s tokens) (λ _. Counts s tokens (parts_from text verb row s tokens))
  counts_from [] s = counts_nothing (ended text row s s.place) s
  counts_from (token ∷ tokens) s =
      then_counts s token tokens (part_of text verb row s token) (with_token text verb row s token token.kind) (token_goes s token verb row text token.kind) (token_step s token token.kind)
      (λ t. counts_from tokens t)

  -- what counts by the parts has a place
  pub has_place : (first : Token) (tokens : List Token)
      → IfOk (read_from text verb row (begun first) tokens)
      (λ _. folded effect (λ x. x) false (parts_from text verb row (begun first) tokens) ≡ true → is_some (counting_place text verb row tokens word) ≡ true)
  has_place first tokens =
      mapped _ _ (read_from text verb row (begun first) tokens) (λ counts h. counts None None false refl (λ no. absurd cc) h) (counts_from tokens (begun first))

-- ---- conflicts

no_earlier : (a b : Option ℕ) → earlier a b ≡ None → (a ≡ None) × (b ≡ None)
no_earlier None b h = (refl, h)
no_earlier (Some a) None h = absurd cc
no_earlier (Some a) (Some b) h = absurd cc

not_both : (a b : Option ℕ) → later_of_both a b ≡ None → is_some a ≡ true → is_some b ≡ true → ⊥
not_both None b h first second = cc
not_both (Some a) None h first second = cc
not_both (Some a) (Some b) h first second = cc

module _ (text : List ℕ) (verb : Verb) (row : Option Row) (tokens : List Token) where
  -- where nothing conflicts, the first two don't
  pub no_conflict : (pair : Word × Word) (pairs : List (Word × Word)) → first_conflict text verb row tokens (pair ∷ pairs) ≡ None
      → (is_some (counting_place text verb row tokens pair.0) ≡ true → is_some (counting_place text verb row tokens pair.1) ≡ true → ⊥)
  no_conflict pair pairs h =
      not_both (counting_place text verb row tokens pair.0) (counting_place text verb row tokens pair.1)
      (no_earlier (conflict_of text verb row tokens pair) (first_conflict text verb row tokens pairs) h).0

  -- and none of the others
  pub no_further_conflict : (pair : Word × Word) (pairs : List (Word × Word)) → first_conflict text verb row tokens (pair ∷ pairs) ≡ None
      → first_conflict text verb row tokens pairs ≡ None
  no_further_conflict pair pairs h = (no_earlier (conflict_of text verb row tokens pair) (first_conflict text verb row tokens pairs) h).1
