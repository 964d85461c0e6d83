-- Which command the tokens behind a verb make of it.
use Rattle.std.specs.Prelude.{ℕ, Bool, true, false, ◌&&◌, not, if◌then◌else◌, is_some, find, List, [], ◌∷◌, Option, None, Some, option_map}
use Rattle.qm_commands.specs.declared.tokens.token.Token.{Token}
use Rattle.qm_commands.specs.declared.tokens.token.TokenKind.{TokenKind}
use Rattle.qm_commands.specs.declared.tokens.token.TokenKind.TheVariants as kinds
use Rattle.qm_commands.specs.declared.table.Verb.{Verb}
use Rattle.qm_commands.specs.declared.table.Command.{Command}
use Rattle.qm_commands.specs.declared.table.Row.{Row}
use Rattle.qm_commands.specs.declared.word.Word.{Word}
use Rattle.qm_commands.specs.Spelled.{is_text}
use Rattle.qm_commands.specs.Table.{rows_of, verbs}
use Rattle.qm_commands.specs.Names.{is_verb, is_object}
use Rattle.qm_names.specs.Conflicts.{counting_place}

-- the verb that a token is
abbrev pub verb_of : List ℕ → Token → Option Verb
verb_of text token = find (is_verb text token) verbs

-- behind these tokens a word or a quoted string is a parameter: it is no name behind a / and no value
abbrev pub lets_follow : TokenKind → Bool
lets_follow kinds.Word = true
lets_follow kinds.Quoted = true
lets_follow kinds.Close = true
lets_follow kinds.Slash = false
lets_follow kinds.Equals = false
lets_follow kinds.Open = false
lets_follow kinds.Comma = false

-- whether a list is open behind a token: ) ends it, and so does a / where that lacks
abbrev pub stays_open : Bool → TokenKind → Bool
stays_open in_list kinds.Open = true
stays_open in_list kinds.Close = false
stays_open in_list kinds.Slash = false
stays_open in_list kinds.Word = in_list
stays_open in_list kinds.Quoted = in_list
stays_open in_list kinds.Equals = in_list
stays_open in_list kinds.Comma = in_list

-- the first parameter, within a list or not, and behind a token that lets one follow or doesn't
abbrev pub parameter_behind : Bool → Bool → List Token → Option Token
parameter_behind in_list follows [] = None
parameter_behind in_list follows (token ∷ tokens) =
    if not in_list && follows && is_text token.kind then Some token
    else parameter_behind (stays_open in_list token.kind) (lets_follow token.kind) tokens

-- the first parameter of a verb
abbrev pub first_parameter : List Token → Option Token
first_parameter tokens = parameter_behind false true tokens

-- the option that is the first parameter is this one, if there is to be one
abbrev pub has_object : List ℕ → Verb → Option Word → Option Token → Bool
has_object text verb None parameter = true
has_object text verb (Some word) None = false
has_object text verb (Some word) (Some token) = is_object text verb token word

-- the option behind a / is given, if there is to be one; while no command is named it is a name among all of the verb
abbrev pub has_option : List ℕ → Verb → List Token → Option Word → Bool
has_option text verb tokens None = true
has_option text verb tokens (Some word) = is_some (counting_place text verb None tokens word)

-- the tokens behind the verb name this command
abbrev pub is_named : List ℕ → Verb → List Token → Row → Bool
is_named text verb tokens row =
    has_object text verb row.object (first_parameter tokens) && has_option text verb tokens row.option && has_option text verb tokens row.further

-- the command that the tokens behind a verb name
abbrev pub row_of : List ℕ → List Token → Verb → Option Row
row_of text tokens verb = find (is_named text verb tokens) (rows_of verb)

abbrev pub named_behind : List ℕ → List Token → Option Verb → Option Command
named_behind text tokens None = None
named_behind text tokens (Some verb) = option_map (λ (row : Row). row.command) (row_of text tokens verb)

-- the command that the tokens of a text name, whatever else is wrong with them
abbrev pub named_command : List ℕ → List Token → Option Command
named_command text [] = None
named_command text (token ∷ tokens) = named_behind text tokens (verb_of text token)
