-- Which command the tokens of a text are, or what is wrong and where.
-- OpenVMS User's Manual, on entering commands. This site's own: which fault is told, and where it stands.
use Rattle.std.specs.Prelude.{ℕ, Bool, ◌&&◌, ◌||◌, not, if◌then◌else◌, nat_lt, length, List, [], ◌∷◌, Option, None, Some, Result, Ok, Err}
use Rattle.qm_kinds.specs.declared.refusal.ParseKind.{ParseKind}
use Rattle.qm_kinds.specs.declared.refusal.ParseKind.TheVariants as fault
use Rattle.qm_commands.specs.declared.tokens.token.Token.{Token}
use Rattle.qm_commands.specs.declared.tokens.token.TokenKind.{TokenKind}
use Rattle.qm_commands.specs.declared.tokens.token.TokenKind.TheVariants as kinds
use Rattle.qm_commands.specs.declared.fault.Fault.{Fault}
use Rattle.qm_commands.specs.declared.table.Verb.{Verb}
use Rattle.qm_commands.specs.declared.table.Command.{Command}
use Rattle.qm_commands.specs.declared.table.Row.{Row}
use Rattle.qm_grammar.specs.declared.place.Place.{Place}
use Rattle.qm_grammar.specs.declared.place.Place.TheVariants as place
use Rattle.qm_grammar.specs.declared.place.State.{State}
use Rattle.qm_commands.specs.Rules.{exclusions_of, needs_value}
use Rattle.qm_commands.specs.Names.{begins_verb}
use Rattle.qm_names.specs.Conflicts.{first_conflict, or_conflict}
use Rattle.qm_grammar.specs.Finding.{verb_of, row_of}
use Rattle.qm_grammar.specs.Places.{begun, is_owing}
use Rattle.qm_commands.specs.Faults.{fault_at}
use Rattle.qm_grammar.specs.Steps.{with_token}

-- something that the command needs isn't given
abbrev pub is_short : Row → State → Bool
is_short row s = is_owing s || nat_lt s.parameters row.least || (row.must_set && not s.qualified)

-- the command, unless something is missing, which stands at the text's end
abbrev pub whole : List ℕ → Option Row → State → Result Command Fault
whole text None s = Err (fault_at (length text) fault.Missing)
whole text (Some row) s = if is_short row s then Err (fault_at (length text) fault.Missing) else Ok row.command

-- behind the last token
abbrev pub ended : List ℕ → Option Row → State → Place → Result Command Fault
ended text row s place.VerbSlash = Err (fault_at s.start fault.Qualifier)
ended text row s place.Slash = Err (fault_at s.start fault.Qualifier)
ended text row s place.Equals = if needs_value s.takes then whole text row s else Err (fault_at s.start fault.Form)
ended text row s _ = whole text row s

abbrev pub on_state : Result State Fault → (State → Result Command Fault) → Result Command Fault
on_state (Ok s) go_on = go_on s
on_state (Err f) go_on = Err f

-- the tokens from a place on: the first one that is wrong tells what is wrong
abbrev pub read_from : List ℕ → Verb → Option Row → State → List Token → Result Command Fault
read_from text verb row s [] = ended text row s s.place
read_from text verb row s (token ∷ tokens) = on_state (with_token text verb row s token token.kind) (λ t. read_from text verb row t tokens)

-- what a text that begins with no verb has wrong: several verbs begin with its first word, or none does
abbrev pub no_verb : List ℕ → Token → TokenKind → ParseKind
no_verb text token kinds.Word = if begins_verb text token then fault.Ambiguous else fault.Word
no_verb text token kinds.Quoted = fault.Word
no_verb text token kinds.Slash = fault.Qualifier
no_verb text token kinds.Equals = fault.Form
no_verb text token kinds.Open = fault.Form
no_verb text token kinds.Close = fault.Form
no_verb text token kinds.Comma = fault.Form

-- the command of a verb, by its row of the table
abbrev pub command_by : List ℕ → Token → List Token → Verb → Option Row → Result Command Fault
command_by text token tokens verb row =
    or_conflict (first_conflict text verb row tokens (exclusions_of verb)) (read_from text verb row (begun token) tokens)

abbrev pub command_behind : List ℕ → Token → List Token → Option Verb → Result Command Fault
command_behind text token tokens None = Err (fault_at token.start (no_verb text token token.kind))
command_behind text token tokens (Some verb) = command_by text token tokens verb (row_of text tokens verb)

-- The command that the tokens of a text are, or the fault with the least place. What is missing stands at the text's end.
abbrev pub command_of : List ℕ → List Token → Result Command Fault
command_of text [] = Err (fault_at (length text) fault.Missing)
command_of text (token ∷ tokens) = command_behind text token tokens (verb_of text token)
