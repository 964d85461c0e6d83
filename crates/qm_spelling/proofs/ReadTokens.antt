-- What the parts of a text are that is a command: each is of the command, and has the values that it needs.
use Rattle.std.proofs.Common.{◌≡◌, ◌⊎◌, inl, inr, ℕ, ◌+◌, Bool, true, false, cond, ◌&&◌, ◌||◌, not, nat_lt, List, [], ◌∷◌, ◌++◌, Option, None, Some, Result, Ok, Err, IfOk, IfSome, is_some, find, refl, sym, ap, ◌∙◌, subst, option_to_list}
use Rattle.std.specs.List.{list_all}
use Rattle.qm_kinds.specs.declared.refusal.ParseKind.TheVariants as fault
use Rattle.qm_commands.specs.declared.tokens.token.Token.{Token}
use Rattle.qm_commands.specs.declared.tokens.token.TokenKind.{TokenKind}
use Rattle.qm_commands.specs.declared.tokens.token.TokenKind.TheVariants as kinds
use Rattle.qm_commands.specs.declared.fault.Fault.{Fault}
use Rattle.qm_grammar.specs.declared.part.Part.{Part}
use Rattle.qm_grammar.specs.declared.part.Part.TheVariants as part
use Rattle.qm_grammar.specs.declared.place.Place.{Place}
use Rattle.qm_grammar.specs.declared.place.Place.TheVariants as place
use Rattle.qm_grammar.specs.declared.place.State.{State}
use Rattle.qm_commands.specs.declared.rules.Takes.{Takes}
use Rattle.qm_commands.specs.declared.rules.Takes.TheVariants.{One}
use Rattle.qm_commands.specs.declared.table.Command.{Command}
use Rattle.qm_commands.specs.declared.table.Row.{Row}
use Rattle.qm_commands.specs.declared.table.Verb.{Verb}
use Rattle.qm_commands.specs.declared.word.Word.{Word}
use Rattle.qm_commands.specs.Names.{is_name, rule_for}
use Rattle.qm_grammar.specs.Parts.{qualifier_part, text_part, part_of, on_next, parts_from}
use Rattle.qm_grammar.specs.Places.{is_awaited, is_owing, is_joined, moved, one_more}
use Rattle.qm_grammar.specs.Reading.{is_short, whole, ended, on_state, read_from}
use Rattle.qm_commands.specs.Rules.{rules_of, needs_value, may_have_key, most_values}
use Rattle.qm_commands.specs.Spelled.{is_text, is_word}
use Rattle.qm_commands.specs.Faults.{fault_at}
use Rattle.qm_grammar.specs.Steps.{named_by, is_no_object, counted, with_parameter, with_text, with_word, with_next, with_slash, with_equals, with_open, with_close, with_comma, with_token}
use Rattle.qm_dcl.specs.Settings.{inner_value, has_value_ahead}
use Rattle.qm_dcl.specs.Values.{has_equals}

-- ---- truth values

pub no_first : (a b : Bool) → (a || b) ≡ false → a ≡ false
no_first false b h = refl
no_first true b h = absurd cc

pub no_second : (a b : Bool) → (a || b) ≡ false → b ≡ false
no_second false b h = h
no_second true b h = absurd cc

pub both_first : (a b : Bool) → (a && b) ≡ true → a ≡ true
both_first true b h = refl
both_first false b h = h

pub both_second : (a b : Bool) → (a && b) ≡ true → b ≡ true
both_second true b h = h
both_second false b h = absurd cc

-- where something holds, what stands beside its negation does
pub beside : (a b : Bool) → (not a || b) ≡ true → a ≡ true → b ≡ true
beside true b h is = h
beside false b h is = absurd cc

pub or_left : (a b : Bool) → a ≡ true → (a || b) ≡ true
or_left true b h = refl
or_left false b h = absurd cc

pub or_right : (a b : Bool) → b ≡ true → (a || b) ≡ true
or_right true b h = refl
or_right false b h = h

pub either : (a b : Bool) → (a || b) ≡ true → (a ≡ true) ⊎ (b ≡ true)
either true b h = inl refl
either false b h = inr h

-- ---- what parts of a command are like

-- the next token is an =
abbrev pub is_equals : TokenKind → Bool
is_equals kinds.Equals = true
is_equals kinds.Word = false
is_equals kinds.Quoted = false
is_equals kinds.Slash = false
is_equals kinds.Open = false
is_equals kinds.Close = false
is_equals kinds.Comma = false

abbrev pub begins_with_equals : List Token → Bool
begins_with_equals [] = false
begins_with_equals (token ∷ tokens) = is_equals token.kind

-- behind each token that an = follows within the text, an = is the next token
abbrev pub HaveEquals : List ℕ → List Token → Type 0
HaveEquals text [] = Unit {0}
HaveEquals text (token ∷ tokens) = (has_equals text token ≡ true → begins_with_equals tokens ≡ true) × HaveEquals text tokens

abbrev pub has_qualifier : List Part → Bool
has_qualifier [] = false
has_qualifier (part.Parameter token ∷ parts) = has_qualifier parts
has_qualifier (part.Qualifier word place ∷ parts) = true
has_qualifier (part.Value token ∷ parts) = has_qualifier parts
has_qualifier (part.KeyValue token ∷ parts) = has_qualifier parts

-- each qualifier is one of these, and has a value where it needs one; and a value behind which an = stands has one of its own
abbrev pub AreLawful : List ℕ → (Word → Bool) → (Word → Bool) → List Part → Type 0
AreLawful text allowed needs [] = Unit {0}
AreLawful text allowed needs (part.Parameter token ∷ parts) = AreLawful text allowed needs parts
AreLawful text allowed needs (part.Qualifier word place ∷ parts) =
    (allowed word ≡ true) × (needs word ≡ true → has_value_ahead parts ≡ true) × AreLawful text allowed needs parts
AreLawful text allowed needs (part.Value token ∷ parts) = (has_equals text token ≡ true → is_some (inner_value parts) ≡ true) × AreLawful text allowed needs parts
AreLawful text allowed needs (part.KeyValue token ∷ parts) = AreLawful text allowed needs parts

-- a rule is one of these, and takes a value where it needs one
abbrev pub suits : (Word → Bool) → (Word → Bool) → Word × Takes → Bool
suits allowed needs rule = allowed rule.0 && (not (needs rule.0) || needs_value rule.1)

-- ---- what must come

-- with what the parts begin behind a place
abbrev Starts : Place → Takes → List Part → Type 0
Starts place.Name takes parts = needs_value takes ≡ true → has_value_ahead parts ≡ true
Starts place.Equals takes parts = has_value_ahead parts ≡ true
Starts place.Open takes parts = has_value_ahead parts ≡ true
Starts place.Key takes parts = is_some (inner_value parts) ≡ true
Starts place.KeyOpen takes parts = is_some (inner_value parts) ≡ true
Starts _ takes parts = Unit {0}

-- behind a value and an = comes the value behind that
abbrev HasKey : Place → Bool → List Part → Type 0
HasKey place.Value equals parts = equals ≡ true → is_some (inner_value parts) ≡ true
HasKey _ equals parts = Unit {0}

abbrev is_valued : Place → Bool
is_valued place.Value = true
is_valued place.KeyValue = true
is_valued _ = false

abbrev is_before_value : Place → Bool
is_before_value place.Equals = true
is_before_value place.Open = true
is_before_value place.Comma = true
is_before_value _ = false

abbrev pub is_slash : Place → Bool
is_slash place.VerbSlash = true
is_slash place.Slash = true
is_slash _ = false

-- where nothing is awaited, nothing must come
none_awaited : (at : Place) (takes : Takes) (in_list : Bool) (parts : List Part) → is_awaited at takes in_list ≡ false → Starts at takes parts
none_awaited place.Name takes in_list parts h = λ needs. absurd cc
none_awaited place.Equals takes in_list parts h = absurd cc
none_awaited place.Open takes in_list parts h = absurd cc
none_awaited place.Key takes in_list parts h = absurd cc
none_awaited place.KeyOpen takes in_list parts h = absurd cc
none_awaited _ takes in_list parts h = tt

none_to_start : (at : Place) (takes : Takes) (parts : List Part) → is_valued at ≡ true → Starts at takes parts
none_to_start place.Value takes parts h = tt
none_to_start place.KeyValue takes parts h = tt
none_to_start _ takes parts h = absurd cc

value_starts : (at : Place) (takes : Takes) (token : Token) (parts : List Part) → is_before_value at ≡ true → Starts at takes (part.Value token ∷ parts)
value_starts place.Equals takes token parts h = refl
value_starts place.Open takes token parts h = refl
value_starts place.Comma takes token parts h = tt
value_starts _ takes token parts h = absurd cc

slash_starts : (at : Place) (takes : Takes) (parts : List Part) → is_slash at ≡ true → Starts at takes parts
slash_starts place.VerbSlash takes parts h = tt
slash_starts place.Slash takes parts h = tt
slash_starts _ takes parts h = absurd cc

no_equals : (at : Place) (parts : List Part) → HasKey at false parts
no_equals place.Value parts = λ h. absurd cc
no_equals _ parts = tt

found_suits : (p q : Word × Takes → Bool) (rules : List (Word × Takes)) → list_all q rules ≡ true → IfSome (find p rules) (λ rule. q rule ≡ true)
found_suits p q [] all = tt
found_suits p q (rule ∷ rules) all = first (p rule) (found_suits p q rules (both_second (q rule) (list_all q rules) all))
  where
    first : (b : Bool) → IfSome (find p rules) (λ r. q r ≡ true) → IfSome (cond b (Some rule) (find p rules)) (λ r. q r ≡ true)
    first true later = both_first (q rule) (list_all q rules) all
    first false later = later

module _ (text : List ℕ) (allowed needs : Word → Bool) (must : Bool) where
  abbrev Facts : Place → State → Bool → List Part → Type 0
  Facts at s equals parts =
      (s.owed ≡ false) × Starts at s.takes parts × HasKey at equals parts × AreLawful text allowed needs parts × (must ≡ true → (has_qualifier parts || s.qualified) ≡ true)

  -- what holds behind a token holds in front of it, with the part that it is
  abbrev Keeps : Place → State → Bool → Option Part → Bool → Result State Fault → Type 0
  Keeps at s equals given ahead next = IfOk next (λ (t : State). (parts : List Part) → Facts t.place t ahead parts → Facts at s equals (option_to_list given ++ parts))

  module _ (s : State) (ahead : Bool) where
    settled : (at : Place) → at ≡ s.place → (equals : Bool) (parts : List Part) → is_owing s ≡ false → Starts at s.takes parts
    settled at is equals parts h =
        none_awaited at s.takes s.in_list parts
        (ap (λ (p : Place). is_awaited p s.takes s.in_list) is ∙ no_second s.owed (is_awaited s.place s.takes s.in_list) h)

    -- ---- signs

    next_keeps : (at : Place) → at ≡ s.place → (token : Token) → Keeps at s false None ahead (Ok (with_next s token))
    next_keeps at is token = λ parts f. (
      no_first s.owed (is_awaited s.place s.takes s.in_list) f.0,
      settled at is false parts f.0,
      no_equals at parts,
      f.3,
      f.4,
    )

    next_where : (at : Place) → at ≡ s.place → (token : Token) (b : Bool) (e : Fault) → Keeps at s false None ahead (cond b (Ok (with_next s token)) (Err e))
    next_where at is token true e = next_keeps at is token
    next_where at is token false e = tt

    slash_keeps : (token : Token) (at : Place) → at ≡ s.place → Keeps at s false None ahead (with_slash s token at)
    slash_keeps token place.VerbSlash is = tt
    slash_keeps token place.Slash is = tt
    slash_keeps token place.Equals is = next_where place.Equals is token (needs_value s.takes) _
    slash_keeps token place.Verb is = λ parts f. (f.0, tt, tt, f.3, f.4)
    slash_keeps token at is = next_keeps at is token

    key_where : (token : Token) (b : Bool) (e : Fault) → Keeps place.Value s true None ahead (cond b (Ok (moved s place.Key token)) (Err e))
    key_where token true e = λ parts f. (f.0, tt, (λ h. f.1), f.3, f.4)
    key_where token false e = tt

    equals_keeps : (token : Token) (at : Place) → Keeps at s true None ahead (with_equals s token at)
    equals_keeps token place.Name = λ parts f. (f.0, (λ h. f.1), tt, f.3, f.4)
    equals_keeps token place.Value = key_where token (may_have_key s.takes) _
    equals_keeps token _ = tt

    key_open_keeps : (token : Token) (b : Bool) → Keeps place.Key s false None ahead
        (cond b (Err (fault_at token.start fault.Value)) (Ok (record s { place = place.KeyOpen; takes = One; in_list = true; start = token.start; end = token.end })))
    key_open_keeps token true = tt
    key_open_keeps token false = λ parts f. (f.0, f.1, tt, f.3, f.4)

    open_keeps : (token : Token) (at : Place) → Keeps at s false None ahead (with_open s token at)
    open_keeps token place.Equals = λ parts f. (f.0, f.1, tt, f.3, f.4)
    open_keeps token place.Open = tt
    open_keeps token place.Comma = tt
    open_keeps token place.Key = key_open_keeps token s.in_list
    open_keeps token place.KeyOpen = tt
    open_keeps token _ = tt

    -- behind a value of a list
    end_where : (at : Place) → is_valued at ≡ true → (t : State) → t.owed ≡ s.owed → t.qualified ≡ s.qualified → (b : Bool) (e : Fault) → Keeps at s false None ahead (cond b (Ok t) (Err e))
    end_where at valued t owed qualified true e = λ parts f. (
      sym owed ∙ f.0,
      none_to_start at s.takes parts valued,
      no_equals at parts,
      f.3,
      (λ m. subst (λ (q : Bool). (has_qualifier parts || q) ≡ true) qualified (f.4 m)),
    )
    end_where at valued t owed qualified false e = tt

    close_keeps : (token : Token) (at : Place) → Keeps at s false None ahead (with_close s token at)
    close_keeps token place.Value = end_where place.Value refl (record s { place = place.Close; in_list = false; start = token.start; end = token.end }) refl refl s.in_list _
    close_keeps token place.KeyValue = end_where place.KeyValue refl (record s { place = place.Close; in_list = false; start = token.start; end = token.end }) refl refl s.in_list _
    close_keeps token place.Open = tt
    close_keeps token place.KeyOpen = tt
    close_keeps token _ = tt

    comma_keeps : (token : Token) (at : Place) → Keeps at s false None ahead (with_comma s token at)
    comma_keeps token place.Value = end_where place.Value refl (moved s place.Comma token) refl refl s.in_list _
    comma_keeps token place.KeyValue = end_where place.KeyValue refl (moved s place.Comma token) refl refl s.in_list _
    comma_keeps token _ = tt

    -- ---- words and quoted strings

    value_keeps : (at : Place) → is_before_value at ≡ true → (token : Token) → (has_equals text token ≡ true → ahead ≡ true) → (b : Bool) (e : Fault)
        → Keeps at s false (Some (part.Value token)) ahead
        (cond b (Ok (record s { place = place.Value; values = s.values + 1; start = token.start; end = token.end })) (Err e))
    value_keeps at before token follows true e = λ parts f. (
      f.0,
      value_starts at s.takes token parts before,
      no_equals at (part.Value token ∷ parts),
      ((λ h. f.2 (follows h)), f.3),
      f.4,
    )
    value_keeps at before token follows false e = tt

    parameter_keeps : (at : Place) → at ≡ s.place → (token : Token) (parameters : Option ℕ) → Keeps at s false (Some (part.Parameter token)) ahead (counted s token parameters)
    parameter_keeps at is token None = tt
    parameter_keeps at is token (Some n) = λ parts f. (
      no_first s.owed (is_awaited s.place s.takes s.in_list) f.0,
      settled at is false (part.Parameter token ∷ parts) f.0,
      no_equals at (part.Parameter token ∷ parts),
      f.3,
      f.4,
    )

    unless_fault : (at : Place) (given : Option Part) (b : Bool) (e : Fault) (next : Result State Fault) → Keeps at s false given ahead next → Keeps at s false given ahead (cond b (Err e) next)
    unless_fault at given true e next keeps = tt
    unless_fault at given false e next keeps = keeps

    module _ (verb : Verb) (row : Option Row) (token : Token) (follows : has_equals text token ≡ true → ahead ≡ true) where
      plain_keeps : (at : Place) → at ≡ s.place → Keeps at s false (Some (part.Parameter token)) ahead (with_parameter verb row s token)
      plain_keeps at is =
          unless_fault at (Some (part.Parameter token)) (is_joined s.place s.end token.start) _ _
          (unless_fault at (Some (part.Parameter token)) (is_no_object verb row s.parameters) _ _ (parameter_keeps at is token (one_more row s.parameters)))

      outside_keeps : (at : Place) → at ≡ s.place → Keeps at s false (Some (part.Parameter token)) ahead (cond s.in_list (Err (fault_at token.start fault.Form)) (with_parameter verb row s token))
      outside_keeps at is = unless_fault at (Some (part.Parameter token)) s.in_list _ _ (plain_keeps at is)

      text_keeps : (slash : ℕ) (rule : Option (Word × Takes)) (at : Place) → at ≡ s.place → is_slash at ≡ false → Keeps at s false (text_part slash rule token at) ahead (with_text verb row s token at)
      text_keeps slash rule place.Equals is other = value_keeps place.Equals refl token follows (nat_lt s.values (most_values s.takes)) _
      text_keeps slash rule place.Open is other = value_keeps place.Open refl token follows (nat_lt s.values (most_values s.takes)) _
      text_keeps slash rule place.Comma is other = value_keeps place.Comma refl token follows (nat_lt s.values (most_values s.takes)) _
      text_keeps slash rule place.Key is other = λ parts f. (f.0, refl, tt, f.3, f.4)
      text_keeps slash rule place.KeyOpen is other = λ parts f. (f.0, refl, tt, f.3, f.4)
      text_keeps slash rule place.Value is other = outside_keeps place.Value is
      text_keeps slash rule place.KeyValue is other = outside_keeps place.KeyValue is
      text_keeps slash rule place.VerbSlash is other = absurd cc
      text_keeps slash rule place.Slash is other = absurd cc
      text_keeps slash rule at is other = plain_keeps at is

      named_keeps : (at : Place) → is_slash at ≡ true → (slash : ℕ) (b : Bool) (rule : Option (Word × Takes)) (e : Fault) → IfSome rule (λ r. suits allowed needs r ≡ true)
          → Keeps at s false (qualifier_part slash rule) ahead (cond b (named_by text verb row s token rule) (Err e))
      named_keeps at is slash false rule e suited = tt
      named_keeps at is slash true None e suited = tt
      named_keeps at is slash true (Some rule) e suited = λ parts f. (
        f.0,
        slash_starts at s.takes (part.Qualifier rule.0 slash ∷ parts) is,
        no_equals at (part.Qualifier rule.0 slash ∷ parts),
        (
          both_first (allowed rule.0) _ suited,
          (λ need. f.1 (beside (needs rule.0) (needs_value rule.1) (both_second (allowed rule.0) _ suited) need)),
          f.3,
        ),
        (λ m. refl),
      )

      module _ (suited : IfSome (rule_for text verb row token) (λ r. suits allowed needs r ≡ true)) where
        abbrev rule : Option (Word × Takes)
        rule = rule_for text verb row token

        word_keeps : (at : Place) → at ≡ s.place → Keeps at s false (text_part s.start rule token at) ahead (with_word text verb row s token at)
        word_keeps place.VerbSlash is = named_keeps place.VerbSlash refl s.start (is_word token.kind) rule _ suited
        word_keeps place.Slash is = named_keeps place.Slash refl s.start (is_word token.kind) rule _ suited
        word_keeps at is =
            let P : Place → Type 0 = λ p. Keeps p s false (text_part s.start rule token p) ahead (with_text verb row s token s.place) in
            subst P (sym is) (text_keeps s.start rule s.place refl (ap is_slash (sym is)))

        -- one more token
        token_keeps : (kind : TokenKind) → Keeps s.place s (is_equals kind) (cond (is_text kind) (text_part s.start rule token s.place) None) ahead (with_token text verb row s token kind)
        token_keeps kinds.Word = word_keeps s.place refl
        token_keeps kinds.Quoted = word_keeps s.place refl
        token_keeps kinds.Slash = slash_keeps token s.place refl
        token_keeps kinds.Equals = equals_keeps token s.place
        token_keeps kinds.Open = open_keeps token s.place
        token_keeps kinds.Close = close_keeps token s.place
        token_keeps kinds.Comma = comma_keeps token s.place

pub mapped : (A B : Type 0) (r : Result Command Fault) → (A → B) → IfOk r (λ _. A) → IfOk r (λ _. B)
mapped A B (Ok c) f a = f a
mapped A B (Err e) f a = tt

module _ (text : List ℕ) (allowed needs : Word → Bool) (verb : Verb) (row : Row) (suited : list_all (suits allowed needs) (rules_of row.command) ≡ true) where
  abbrev FactsOf : State → Bool → List Part → Type 0
  FactsOf s equals parts = Facts text allowed needs row.must_set s.place s equals parts

  -- ---- behind the last token

  qualified_at_end : (s : State) → (row.must_set && not s.qualified) ≡ false → row.must_set ≡ true → s.qualified ≡ true
  qualified_at_end s h must = by row.must_set s.qualified h must
    where
      by : (m q : Bool) → (m && not q) ≡ false → m ≡ true → q ≡ true
      by true true h must = refl
      by true false h must = absurd cc
      by false q h must = absurd cc

  whole_facts : (s : State) (b : Bool) (f : Fault) → is_short row s ≡ b → IfOk (cond b (Err f) (Ok row.command)) (λ _. FactsOf s false [])
  whole_facts s true f h = tt
  whole_facts s false f h =
      let present = no_first (is_owing s || nat_lt s.parameters row.least) (row.must_set && not s.qualified) h in
      let owing = no_first (is_owing s) (nat_lt s.parameters row.least) present in (
        no_first s.owed (is_awaited s.place s.takes s.in_list) owing,
        none_awaited s.place s.takes s.in_list [] (no_second s.owed (is_awaited s.place s.takes s.in_list) owing),
        no_equals s.place [],
        tt,
        qualified_at_end s (no_second (is_owing s || nat_lt s.parameters row.least) (row.must_set && not s.qualified) h),
      )

  whole_where : (s : State) (b : Bool) (f : Fault) → IfOk (cond b (whole text (Some row) s) (Err f)) (λ _. FactsOf s false [])
  whole_where s true f = whole_facts s (is_short row s) _ refl
  whole_where s false f = tt

  ended_facts : (s : State) (at : Place) → IfOk (ended text (Some row) s at) (λ _. FactsOf s false [])
  ended_facts s place.VerbSlash = tt
  ended_facts s place.Slash = tt
  ended_facts s place.Equals = whole_where s (needs_value s.takes) _
  ended_facts s _ = whole_facts s (is_short row s) _ refl

  -- ---- token by token

  then_facts : (s : State) (equals : Bool) (given : Option Part) (tokens : List Token) (next : Result State Fault)
      → Keeps text allowed needs row.must_set s.place s equals given (begins_with_equals tokens) next
      → ((t : State) → IfOk (read_from text verb (Some row) t tokens) (λ _. FactsOf t (begins_with_equals tokens) (parts_from text verb (Some row) t tokens)))
      → IfOk (on_state next (λ t. read_from text verb (Some row) t tokens)) (λ _. FactsOf s equals (on_next next (λ t. option_to_list given ++ parts_from text verb (Some row) t tokens)))
  then_facts s equals given tokens (Ok t) keeps rest = mapped _ _ (read_from text verb (Some row) t tokens) (keeps (parts_from text verb (Some row) t tokens)) (rest t)
  then_facts s equals given tokens (Err f) keeps rest = tt

  facts_from : (tokens : List Token) (s : State) → HaveEquals text tokens
      → IfOk (read_from text verb (Some row) s tokens) (λ _. FactsOf s (begins_with_equals tokens) (parts_from text verb (Some row) s tokens))
  facts_from [] s have = ended_facts s s.place
  facts_from (token ∷ tokens) s have =
      then_facts s (is_equals token.kind) (part_of text verb (Some row) s token) tokens (with_token text verb (Some row) s token token.kind)
      (token_keeps text allowed needs row.must_set s (begins_with_equals tokens) verb (Some row) token have.0
      (found_suits (λ rule. is_name text verb (Some row) token rule.0) (suits allowed needs) (rules_of row.command) suited) token.kind)
      (λ t. facts_from tokens t have.1)

  -- The parts of a command are lawful, and among them is a qualifier where it needs one.
  pub parts_are_lawful : (tokens : List Token) (s : State) → HaveEquals text tokens
      → IfOk (read_from text verb (Some row) s tokens) (λ _. AreLawful text allowed needs (parts_from text verb (Some row) s tokens)
      × (row.must_set ≡ true → (has_qualifier (parts_from text verb (Some row) s tokens) || s.qualified) ≡ true))
  parts_are_lawful tokens s have = mapped _ _ (read_from text verb (Some row) s tokens) (λ f. (f.3, f.4)) (facts_from tokens s have)
