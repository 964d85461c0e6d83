-- No qualifier has more values than 65,535.
use Rattle.std.proofs.Common.{◌≡◌, ℕ, ◌+◌, ◌≤◌, Bool, true, false, cond, nat_lt, List, [], ◌∷◌, ◌++◌, Option, None, Some, Result, Ok, Err, IfOk, refl, sym, subst, arith, option_to_list}
use Rattle.std.proofs.lemmas.Bool.Decides.{nat_tests}
use Rattle.qm_kinds.specs.declared.refusal.ParseKind.TheVariants as fault
use Rattle.qm_commands.specs.declared.tokens.token.Token.{Token}
use Rattle.qm_commands.specs.declared.tokens.token.TokenKind.{TokenKind}
use Rattle.qm_commands.specs.declared.tokens.token.TokenKind.TheVariants as kinds
use Rattle.qm_commands.specs.declared.fault.Fault.{Fault}
use Rattle.qm_grammar.specs.declared.part.Part.{Part}
use Rattle.qm_grammar.specs.declared.part.Part.TheVariants as part
use Rattle.qm_grammar.specs.declared.place.Place.{Place}
use Rattle.qm_grammar.specs.declared.place.Place.TheVariants as place
use Rattle.qm_grammar.specs.declared.place.State.{State}
use Rattle.qm_commands.specs.declared.rules.Takes.{Takes}
use Rattle.qm_commands.specs.declared.rules.Takes.TheVariants as takes
use Rattle.qm_commands.specs.declared.table.Row.{Row}
use Rattle.qm_commands.specs.declared.table.Verb.{Verb}
use Rattle.qm_commands.specs.declared.word.Word.{Word}
use Rattle.qm_commands.specs.Names.{rule_for}
use Rattle.qm_grammar.specs.Finding.{verb_of, row_of}
use Rattle.qm_grammar.specs.Parsed.{tokens_in, parts_in}
use Rattle.qm_grammar.specs.Parts.{qualifier_part, text_part, part_of, on_next, parts_from, parts_behind, parts_of}
use Rattle.qm_grammar.specs.Places.{begun, misplaced, is_joined, one_more, moved}
use Rattle.qm_commands.specs.Rules.{most_values, may_have_key, needs_value}
use Rattle.qm_commands.specs.Spelled.{is_text, is_word}
use Rattle.qm_commands.specs.Faults.{fault_at}
use Rattle.qm_grammar.specs.Steps.{named_by, is_no_object, counted, with_parameter, with_text, with_word, with_next, with_slash, with_equals, with_open, with_close, with_comma, with_token}

-- ---- one token counts a value, where it is one

abbrev Counts : State → Option Part → State → Type 0
Counts s None t = t.values ≡ s.values
Counts s (Some (part.Value token)) t = t.values ≡ s.values + 1
Counts s (Some (part.Parameter token)) t = Unit {0}
Counts s (Some (part.Qualifier word place)) t = Unit {0}
Counts s (Some (part.KeyValue token)) t = Unit {0}

abbrev Steps : State → Option Part → Result State Fault → Type 0
Steps s given next = IfOk next (λ (t : State). (t.values ≤ 65535) × Counts s given t)

most_few : (t : Takes) → most_values t ≤ 65535
most_few takes.Nothing = omega arith
most_few takes.One = omega arith
most_few takes.Pair = omega arith
most_few takes.List = omega arith
most_few takes.Keyed = omega arith
most_few takes.KeyedList = omega arith

module _ (s : State) (few : s.values ≤ 65535) where
  -- ---- signs count none

  next_or_fault : (b : Bool) (t : State) (f : Fault) → t.values ≡ s.values → Steps s None (cond b (Ok t) (Err f))
  next_or_fault true t f same = (omega (arith, few, same), same)
  next_or_fault false t f same = tt

  fault_or_next : (b : Bool) (t : State) (f : Fault) → t.values ≡ s.values → Steps s None (cond b (Err f) (Ok t))
  fault_or_next true t f same = tt
  fault_or_next false t f same = (omega (arith, few, same), same)

  slash_counts : (token : Token) (at : Place) → Steps s None (with_slash s token at)
  slash_counts token place.VerbSlash = tt
  slash_counts token place.Slash = tt
  slash_counts token place.Equals = next_or_fault (needs_value s.takes) (with_next s token) (misplaced s.place s token.start) refl
  slash_counts token place.Verb = (few, refl)
  slash_counts token _ = (few, refl)

  equals_counts : (token : Token) (at : Place) → Steps s None (with_equals s token at)
  equals_counts token place.Name = (few, refl)
  equals_counts token place.Value = next_or_fault (may_have_key s.takes) (moved s place.Key token) (misplaced s.place s token.start) refl
  equals_counts token _ = tt

  open_counts : (token : Token) (at : Place) → Steps s None (with_open s token at)
  open_counts token place.Equals = (few, refl)
  open_counts token place.Open = tt
  open_counts token place.Comma = tt
  open_counts token place.Key = fault_or_next s.in_list _ _ refl
  open_counts token place.KeyOpen = tt
  open_counts token _ = tt

  close_counts : (token : Token) (at : Place) → Steps s None (with_close s token at)
  close_counts token place.Value = next_or_fault s.in_list _ _ refl
  close_counts token place.KeyValue = next_or_fault s.in_list _ _ refl
  close_counts token place.Open = tt
  close_counts token place.KeyOpen = tt
  close_counts token _ = tt

  comma_counts : (token : Token) (at : Place) → Steps s None (with_comma s token at)
  comma_counts token place.Value = next_or_fault s.in_list _ _ refl
  comma_counts token place.KeyValue = next_or_fault s.in_list _ _ refl
  comma_counts token _ = tt

  -- ---- words and quoted strings

  value_counts : (token : Token) (f : Fault) (b : Bool) → nat_lt s.values (most_values s.takes) ≡ b
      → Steps s (Some (part.Value token)) (cond b (Ok (record s { place = place.Value; values = s.values + 1; start = token.start; end = token.end })) (Err f))
  value_counts token f true is = let most = most_few s.takes in (grind (arith, nat_tests), refl)
  value_counts token f false is = tt

  abbrev Any : Option Part → Type 0
  Any given = (t : State) → t.values ≡ s.values → Counts s given t

  -- a part that is no value counts none
  with_any : (given : Option Part) (b : Bool) (t : State) (f : Fault) → Any given → t.values ≡ s.values → Steps s given (cond b (Err f) (Ok t))
  with_any given true t f any same = tt
  with_any given false t f any same = (omega (arith, few, same), any t same)

  any_qualifier : (slash : ℕ) (rule : Option (Word × Takes)) → Any (qualifier_part slash rule)
  any_qualifier slash None t same = same
  any_qualifier slash (Some rule) t same = tt

  counted_counts : (given : Option Part) (token : Token) (parameters : Option ℕ) → Any given → Steps s given (counted s token parameters)
  counted_counts given token None any = tt
  counted_counts given token (Some parameters) any = (few, any (record s { place = place.Parameter; owed = _; parameters = parameters; in_list = false; start = token.start; end = token.end }) refl)

  fault_or : (given : Option Part) (b : Bool) (f : Fault) (r : Result State Fault) → Steps s given r → Steps s given (cond b (Err f) r)
  fault_or given true f r steps = tt
  fault_or given false f r steps = steps

  module _ (verb : Verb) (row : Option Row) (token : Token) where
    parameter_counts : (given : Option Part) → Any given → Steps s given (with_parameter verb row s token)
    parameter_counts given any =
        fault_or given (is_joined s.place s.end token.start) _ _
        (fault_or given (is_no_object verb row s.parameters) _ _ (counted_counts given token (one_more row s.parameters) any))

    plain_counts : Steps s (Some (part.Parameter token)) (with_parameter verb row s token)
    plain_counts = parameter_counts (Some (part.Parameter token)) (λ t same. tt)

    outside_counts : Steps s (Some (part.Parameter token)) (cond s.in_list (Err (fault_at token.start fault.Form)) (with_parameter verb row s token))
    outside_counts = fault_or (Some (part.Parameter token)) s.in_list (fault_at token.start fault.Form) (with_parameter verb row s token) plain_counts

    text_counts : (slash : ℕ) (rule : Option (Word × Takes)) (at : Place) → Steps s (text_part slash rule token at) (with_text verb row s token at)
    text_counts slash rule place.Equals = value_counts token (fault_at token.start fault.Value) (nat_lt s.values (most_values s.takes)) refl
    text_counts slash rule place.Open = value_counts token (fault_at token.start fault.Value) (nat_lt s.values (most_values s.takes)) refl
    text_counts slash rule place.Comma = value_counts token (fault_at token.start fault.Value) (nat_lt s.values (most_values s.takes)) refl
    text_counts slash rule place.Key = (few, tt)
    text_counts slash rule place.KeyOpen = (few, tt)
    text_counts slash rule place.Value = outside_counts
    text_counts slash rule place.KeyValue = outside_counts
    text_counts slash rule place.VerbSlash = parameter_counts (qualifier_part slash rule) (any_qualifier slash rule)
    text_counts slash rule place.Slash = parameter_counts (qualifier_part slash rule) (any_qualifier slash rule)
    text_counts slash rule _ = plain_counts

    named_counts : (text : List ℕ) (slash : ℕ) (b : Bool) (rule : Option (Word × Takes)) (f : Fault)
        → Steps s (qualifier_part slash rule) (cond b (named_by text verb row s token rule) (Err f))
    named_counts text slash false rule f = tt
    named_counts text slash true None f = tt
    named_counts text slash true (Some rule) f = (omega arith, tt)

    module _ (text : List ℕ) where
      abbrev rule : Option (Word × Takes)
      rule = rule_for text verb row token

      word_counts : (at : Place) → at ≡ s.place → Steps s (text_part s.start rule token at) (with_word text verb row s token at)
      word_counts place.VerbSlash is = named_counts text s.start (is_word token.kind) rule _
      word_counts place.Slash is = named_counts text s.start (is_word token.kind) rule _
      word_counts _ is =
          let P : Place → Type 0 = λ at. Steps s (text_part s.start rule token at) (with_text verb row s token s.place) in
          subst P (sym is) (text_counts s.start rule s.place)

      -- one more token
      token_counts : (kind : TokenKind) → Steps s (cond (is_text kind) (text_part s.start rule token s.place) None) (with_token text verb row s token kind)
      token_counts kinds.Word = word_counts s.place refl
      token_counts kinds.Quoted = word_counts s.place refl
      token_counts kinds.Slash = slash_counts token s.place
      token_counts kinds.Equals = equals_counts token s.place
      token_counts kinds.Open = open_counts token s.place
      token_counts kinds.Close = close_counts token s.place
      token_counts kinds.Comma = comma_counts token s.place

-- ---- few values stand behind each part

-- how many values parts begin with
abbrev pub values_ahead : List Part → ℕ
values_ahead [] = 0
values_ahead (part.Parameter token ∷ parts) = 0
values_ahead (part.Qualifier word place ∷ parts) = 0
values_ahead (part.Value token ∷ parts) = 1 + values_ahead parts
values_ahead (part.KeyValue token ∷ parts) = 0

abbrev pub AreFew : List Part → Type 0
AreFew [] = Unit {0}
AreFew (first ∷ parts) = (values_ahead parts ≤ 65535) × AreFew parts

abbrev FewFrom : State → List Part → Type 0
FewFrom s parts = (values_ahead parts + s.values ≤ 65535) × AreFew parts

module _ (text : List ℕ) (verb : Verb) (row : Option Row) where
  few_behind : (s : State) (given : Option Part) (tokens : List Token) (next : Result State Fault) → s.values ≤ 65535 → Steps s given next
      → ((t : State) → t.values ≤ 65535 → FewFrom t (parts_from text verb row t tokens))
      → FewFrom s (on_next next (λ t. option_to_list given ++ parts_from text verb row t tokens))
  few_behind s given tokens (Err f) few steps rest = (omega (arith, few), tt)
  few_behind s None tokens (Ok t) few steps rest = let all = rest t steps.0 in (omega (arith, all.0, steps.1), all.1)
  few_behind s (Some (part.Value token)) tokens (Ok t) few steps rest =
      let all = rest t steps.0 in (omega (arith, all.0, steps.1), (omega (arith, all.0), all.1))
  few_behind s (Some (part.Parameter token)) tokens (Ok t) few steps rest = let all = rest t steps.0 in (omega (arith, few), (omega (arith, all.0), all.1))
  few_behind s (Some (part.Qualifier word place)) tokens (Ok t) few steps rest = let all = rest t steps.0 in (omega (arith, few), (omega (arith, all.0), all.1))
  few_behind s (Some (part.KeyValue token)) tokens (Ok t) few steps rest = let all = rest t steps.0 in (omega (arith, few), (omega (arith, all.0), all.1))

  few_from : (tokens : List Token) (s : State) → s.values ≤ 65535 → FewFrom s (parts_from text verb row s tokens)
  few_from [] s few = (omega (arith, few), tt)
  few_from (token ∷ tokens) s few =
      few_behind s (part_of text verb row s token) tokens (with_token text verb row s token token.kind) few
      (token_counts s few verb row token text token.kind) (λ t few_t. few_from tokens t few_t)

few_named : (text : List ℕ) (first : Token) (tokens : List Token) (verb : Option Verb) → AreFew (parts_behind text first tokens verb)
few_named text first tokens None = tt
few_named text first tokens (Some verb) = (few_from text verb (row_of text tokens verb) tokens (begun first) (omega arith)).1

few_parts : (text : List ℕ) (tokens : List Token) → AreFew (parts_of text tokens)
few_parts text [] = tt
few_parts text (first ∷ tokens) = few_named text first tokens (verb_of text first)

-- behind each part of a command stand at most 65,535 values
pub values_are_few : (text : List ℕ) → AreFew (parts_in text)
values_are_few text = few_parts text (tokens_in text)
