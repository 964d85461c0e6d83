-- Where one stands behind one more token of a command, or what is wrong with that token.
-- OpenVMS User's Manual, on entering commands. This site's own: which fault is told, and where it stands.
use Rattle.std.specs.Prelude.{ℕ, ◌+◌, ◌==◌, true, false, ◌&&◌, not, Bool, if◌then◌else◌, nat_lt, List, Option, None, Some, Result, Ok, Err}
use Rattle.qm_kinds.specs.declared.refusal.ParseKind.{ParseKind}
use Rattle.qm_kinds.specs.declared.refusal.ParseKind.TheVariants as fault
use Rattle.qm_commands.specs.declared.tokens.token.Token.{Token}
use Rattle.qm_commands.specs.declared.tokens.token.TokenKind.{TokenKind}
use Rattle.qm_commands.specs.declared.tokens.token.TokenKind.TheVariants as kinds
use Rattle.qm_commands.specs.declared.fault.Fault.{Fault}
use Rattle.qm_commands.specs.declared.table.Verb.{Verb}
use Rattle.qm_commands.specs.declared.table.Row.{Row}
use Rattle.qm_commands.specs.declared.rules.Takes.{Takes}
use Rattle.qm_commands.specs.declared.rules.Takes.TheVariants.{One}
use Rattle.qm_commands.specs.declared.word.Word.{Word}
use Rattle.qm_grammar.specs.declared.place.Place.{Place}
use Rattle.qm_grammar.specs.declared.place.Place.TheVariants as place
use Rattle.qm_grammar.specs.declared.place.State.{State}
use Rattle.qm_commands.specs.Spelled.{is_word}
use Rattle.qm_commands.specs.Table.{takes_option, takes_object}
use Rattle.qm_commands.specs.Rules.{most_values, may_have_key, needs_value}
use Rattle.qm_commands.specs.Names.{begins_name, rule_for}
use Rattle.qm_commands.specs.Faults.{fault_at}
use Rattle.qm_grammar.specs.Places.{moved, is_owing, misplaced, is_joined, one_more}

-- a name behind a / with which none of the command begins: where none of the verb does, right behind a verb that needs an option, it is no option
abbrev pub unknown_kind : List ℕ → Verb → Token → Place → ParseKind
unknown_kind text verb token place.VerbSlash = if takes_option verb && not (begins_name text verb None token) then fault.Word else fault.Qualifier
unknown_kind text verb token _ = fault.Qualifier

-- a name behind a / that is none of the command: several begin with it, or none does
abbrev pub no_name_kind : List ℕ → Verb → Option Row → Token → Place → ParseKind
no_name_kind text verb row token place = if begins_name text verb row token then fault.Ambiguous else unknown_kind text verb token place

-- a qualifier or an option: its name
abbrev pub named_by : List ℕ → Verb → Option Row → State → Token → Option (Word × Takes) → Result State Fault
named_by text verb row s token None = Err (fault_at s.start (no_name_kind text verb row token s.place))
named_by text verb row s token (Some rule) = Ok (record s { place = place.Name; takes = rule.1; in_list = false; values = 0; qualified = true; start = token.start; end = token.end })

-- a value of a qualifier, unless it has them all
abbrev pub with_value : State → Token → Result State Fault
with_value s token =
    if nat_lt s.values (most_values s.takes) then Ok (record s { place = place.Value; values = s.values + 1; start = token.start; end = token.end })
    else Err (fault_at token.start fault.Value)

-- the first parameter of a verb whose option this is names no command
abbrev pub is_no_object : Verb → Option Row → ℕ → Bool
is_no_object verb None parameters = takes_object verb && parameters == 0
is_no_object verb (Some row) parameters = false

abbrev pub counted : State → Token → Option ℕ → Result State Fault
counted s token None = Err (fault_at token.start fault.Extra)
counted s token (Some parameters) = Ok (record s { place = place.Parameter; owed = is_owing s; parameters = parameters; in_list = false; start = token.start; end = token.end })

-- a parameter
abbrev pub with_parameter : Verb → Option Row → State → Token → Result State Fault
with_parameter verb row s token =
    if is_joined s.place s.end token.start then Err (fault_at token.start fault.Form)
    else if is_no_object verb row s.parameters then Err (fault_at token.start fault.Word)
    else counted s token (one_more row s.parameters)

-- a name behind a /; a quoted string is none
abbrev pub with_name : List ℕ → Verb → Option Row → State → Token → Result State Fault
with_name text verb row s token =
    if is_word token.kind then named_by text verb row s token (rule_for text verb row token) else Err (misplaced s.place s token.start)

-- a word or a quoted string that is no name: a value, or a parameter
abbrev pub with_text : Verb → Option Row → State → Token → Place → Result State Fault
with_text verb row s token place.Equals = with_value s token
with_text verb row s token place.Open = with_value s token
with_text verb row s token place.Comma = with_value s token
with_text verb row s token place.Key = Ok (moved s place.KeyValue token)
with_text verb row s token place.KeyOpen = Ok (moved s place.KeyValue token)
with_text verb row s token place.Value = if s.in_list then Err (fault_at token.start fault.Form) else with_parameter verb row s token
with_text verb row s token place.KeyValue = if s.in_list then Err (fault_at token.start fault.Form) else with_parameter verb row s token
with_text verb row s token _ = with_parameter verb row s token

-- a word or a quoted string
abbrev pub with_word : List ℕ → Verb → Option Row → State → Token → Place → Result State Fault
with_word text verb row s token place.VerbSlash = with_name text verb row s token
with_word text verb row s token place.Slash = with_name text verb row s token
with_word text verb row s token _ = with_text verb row s token s.place

-- a qualifier or an option begins
abbrev pub with_next : State → Token → State
with_next s token = record s { place = place.Slash; owed = is_owing s; in_list = false; start = token.start; end = token.end }

-- /, which begins a qualifier or an option
abbrev pub with_slash : State → Token → Place → Result State Fault
with_slash s token place.VerbSlash = Err (misplaced s.place s token.start)
with_slash s token place.Slash = Err (misplaced s.place s token.start)
with_slash s token place.Equals = if needs_value s.takes then Ok (with_next s token) else Err (misplaced s.place s token.start)
with_slash s token place.Verb = Ok (moved s place.VerbSlash token)
with_slash s token _ = Ok (with_next s token)

-- =, which follows a name, or a value that may have one of its own
abbrev pub with_equals : State → Token → Place → Result State Fault
with_equals s token place.Name = Ok (moved s place.Equals token)
with_equals s token place.Value = if may_have_key s.takes then Ok (moved s place.Key token) else Err (misplaced s.place s token.start)
with_equals s token _ = Err (misplaced s.place s token.start)

-- ( behind the = of a value, which may enclose this one value where no list is open
abbrev pub with_key_open : State → Token → Result State Fault
with_key_open s token =
    if s.in_list then Err (fault_at token.start fault.Value)
    else Ok (record s { place = place.KeyOpen; takes = One; in_list = true; start = token.start; end = token.end })

-- (, which begins a list; no value of a list is one
abbrev pub with_open : State → Token → Place → Result State Fault
with_open s token place.Equals = Ok (record s { place = place.Open; in_list = true; start = token.start; end = token.end })
with_open s token place.Open = Err (fault_at token.start fault.Value)
with_open s token place.Comma = Err (fault_at token.start fault.Value)
with_open s token place.Key = with_key_open s token
with_open s token place.KeyOpen = Err (fault_at token.start fault.Value)
with_open s token _ = Err (misplaced s.place s token.start)

-- a list ends
abbrev pub with_end : State → Token → Result State Fault
with_end s token =
    if s.in_list then Ok (record s { place = place.Close; in_list = false; start = token.start; end = token.end }) else Err (misplaced s.place s token.start)

-- ), which ends a list that isn't empty
abbrev pub with_close : State → Token → Place → Result State Fault
with_close s token place.Value = with_end s token
with_close s token place.KeyValue = with_end s token
with_close s token place.Open = Err (fault_at s.start fault.Value)
with_close s token place.KeyOpen = Err (fault_at s.start fault.Value)
with_close s token _ = Err (misplaced s.place s token.start)

-- a comma, which stands between the values of a list
abbrev pub with_comma : State → Token → Place → Result State Fault
with_comma s token place.Value = if s.in_list then Ok (moved s place.Comma token) else Err (misplaced s.place s token.start)
with_comma s token place.KeyValue = if s.in_list then Ok (moved s place.Comma token) else Err (misplaced s.place s token.start)
with_comma s token _ = Err (misplaced s.place s token.start)

-- where one stands behind one more token, or what is wrong with it
abbrev pub with_token : List ℕ → Verb → Option Row → State → Token → TokenKind → Result State Fault
with_token text verb row s token kinds.Word = with_word text verb row s token s.place
with_token text verb row s token kinds.Quoted = with_word text verb row s token s.place
with_token text verb row s token kinds.Slash = with_slash s token s.place
with_token text verb row s token kinds.Equals = with_equals s token s.place
with_token text verb row s token kinds.Open = with_open s token s.place
with_token text verb row s token kinds.Close = with_close s token s.place
with_token text verb row s token kinds.Comma = with_comma s token s.place
