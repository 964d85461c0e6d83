-- Which tokens a text has, which command it is, with its parts; or what is wrong and where.
use Rattle.std.specs.Prelude.{ℕ, if◌then◌else◌, nat_lt, List, [], ◌∷◌, ◌++◌, take, Result, Ok, Err}
use Rattle.qm_kinds.specs.declared.refusal.ParseKind.TheVariants.{Form}
use Rattle.qm_commands.specs.declared.tokens.token.Token.{Token}
use Rattle.qm_commands.specs.declared.tokens.token.TokenKind.TheVariants.{Quoted}
use Rattle.qm_commands.specs.Tokens.{tokens_of}
use Rattle.qm_commands.specs.declared.fault.Fault.{Fault}
use Rattle.qm_grammar.specs.declared.part.Part.{Part}
use Rattle.qm_commands.specs.declared.table.Command.{Command}
use Rattle.qm_commands.specs.Faults.{fault_at}
use Rattle.qm_grammar.specs.Reading.{command_of}
use Rattle.qm_grammar.specs.Parts.{parts_of}

-- a quote without its end, which stands where a quoted string would
abbrev pub unreadable : ℕ → Token
unreadable place = record { kind = Quoted; start = place; end = place }

-- the tokens that can be read
abbrev pub readable : Result (List Token) ℕ → List Token
readable (Ok tokens) = tokens
readable (Err place) = []

abbrev pub tokens_by : List ℕ → Result (List Token) ℕ → List Token
tokens_by text (Ok tokens) = tokens
tokens_by text (Err place) = readable (tokens_of (take place text)) ++ unreadable place ∷ []

-- the tokens of a text; behind one that can't be read there are none, and it stands as a quoted string
abbrev pub tokens_in : List ℕ → List Token
tokens_in text = tokens_by text (tokens_of text)

-- what is wrong in front of a token that can't be read, else that token
abbrev pub or_unreadable : Result (List Token) ℕ → Result Command Fault → Result Command Fault
or_unreadable (Ok tokens) read = read
or_unreadable (Err place) (Ok command) = Err (fault_at place Form)
or_unreadable (Err place) (Err f) = if nat_lt f.place place then Err f else Err (fault_at place Form)

-- the command that a text is, or the fault with the least place
abbrev pub command_in : List ℕ → Result Command Fault
command_in text = or_unreadable (tokens_of text) (command_of text (tokens_in text))

-- the parts of the command that a text is, in their order, as far as its tokens are in place
abbrev pub parts_in : List ℕ → List Part
parts_in text = parts_of text (tokens_in text)
