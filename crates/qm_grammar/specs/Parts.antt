-- The parts of a command: its parameters, and its qualifiers and options, each with its values behind it.
use Rattle.std.specs.Prelude.{ℕ, if◌then◌else◌, List, [], ◌∷◌, ◌++◌, Option, None, Some, Result, Ok, Err, option_to_list}
use Rattle.qm_commands.specs.declared.tokens.token.Token.{Token}
use Rattle.qm_commands.specs.declared.fault.Fault.{Fault}
use Rattle.qm_grammar.specs.declared.part.Part.{Part}
use Rattle.qm_grammar.specs.declared.part.Part.TheVariants.{Parameter, Qualifier, Value, KeyValue}
use Rattle.qm_commands.specs.declared.table.Verb.{Verb}
use Rattle.qm_commands.specs.declared.table.Row.{Row}
use Rattle.qm_commands.specs.declared.rules.Takes.{Takes}
use Rattle.qm_commands.specs.declared.word.Word.{Word}
use Rattle.qm_grammar.specs.declared.place.Place.{Place}
use Rattle.qm_grammar.specs.declared.place.Place.TheVariants as place
use Rattle.qm_grammar.specs.declared.place.State.{State}
use Rattle.qm_commands.specs.Spelled.{is_text}
use Rattle.qm_commands.specs.Names.{rule_for}
use Rattle.qm_grammar.specs.Finding.{verb_of, row_of}
use Rattle.qm_grammar.specs.Places.{begun}
use Rattle.qm_grammar.specs.Steps.{with_token}

-- a qualifier or an option, at its /
abbrev pub qualifier_part : ℕ → Option (Word × Takes) → Option Part
qualifier_part slash None = None
qualifier_part slash (Some rule) = Some (Qualifier rule.0 slash)

-- which part a word or a quoted string is, by where it stands, and by what it says as a name
abbrev pub text_part : ℕ → Option (Word × Takes) → Token → Place → Option Part
text_part slash rule token place.VerbSlash = qualifier_part slash rule
text_part slash rule token place.Slash = qualifier_part slash rule
text_part slash rule token place.Equals = Some (Value token)
text_part slash rule token place.Open = Some (Value token)
text_part slash rule token place.Comma = Some (Value token)
text_part slash rule token place.Key = Some (KeyValue token)
text_part slash rule token place.KeyOpen = Some (KeyValue token)
text_part slash rule token _ = Some (Parameter token)

-- which part a token is; a sign is none
abbrev pub part_of : List ℕ → Verb → Option Row → State → Token → Option Part
part_of text verb row s token = if is_text token.kind then text_part s.start (rule_for text verb row token) token s.place else None

abbrev pub on_next : Result State Fault → (State → List Part) → List Part
on_next (Ok s) go_on = go_on s
on_next (Err f) go_on = []

-- the parts from a place on, as far as the tokens are in place
abbrev pub parts_from : List ℕ → Verb → Option Row → State → List Token → List Part
parts_from text verb row s [] = []
parts_from text verb row s (token ∷ tokens) =
    on_next (with_token text verb row s token token.kind) (λ t. option_to_list (part_of text verb row s token) ++ parts_from text verb row t tokens)

abbrev pub parts_behind : List ℕ → Token → List Token → Option Verb → List Part
parts_behind text token tokens None = []
parts_behind text token tokens (Some verb) = parts_from text verb (row_of text tokens verb) (begun token) tokens

-- the parts of a command, in their order
abbrev pub parts_of : List ℕ → List Token → List Part
parts_of text [] = []
parts_of text (token ∷ tokens) = parts_behind text token tokens (verb_of text token)
