-- Where one stands within a command, behind each of its tokens.
use Rattle.std.specs.Prelude.{ℕ, ◌+◌, ◌==◌, Bool, true, false, ◌||◌, if◌then◌else◌, nat_lt, Option, None, Some}
use Rattle.qm_kinds.specs.declared.refusal.ParseKind.TheVariants as fault
use Rattle.qm_commands.specs.declared.tokens.token.Token.{Token}
use Rattle.qm_commands.specs.declared.fault.Fault.{Fault}
use Rattle.qm_commands.specs.declared.table.Row.{Row}
use Rattle.qm_commands.specs.declared.rules.Takes.{Takes}
use Rattle.qm_commands.specs.declared.rules.Takes.TheVariants as takes
use Rattle.qm_grammar.specs.declared.place.Place.{Place}
use Rattle.qm_grammar.specs.declared.place.Place.TheVariants.{Verb, Parameter, VerbSlash, Slash, Name, Equals, Open, Comma, Value, Key, KeyOpen, KeyValue, Close}
use Rattle.qm_grammar.specs.declared.place.State.{State}
use Rattle.qm_commands.specs.Rules.{needs_value}

-- behind the verb
abbrev pub begun : Token → State
begun token = record {
  place = Verb;
  takes = takes.Nothing;
  in_list = false;
  values = 0;
  parameters = 0;
  qualified = false;
  owed = false;
  start = token.start;
  end = token.end;
}

-- one token further
abbrev pub moved : State → Place → Token → State
moved s place token = record s { place = place; start = token.start; end = token.end }

-- a value, or the end of a list, is still to come
abbrev pub is_awaited : Place → Takes → Bool → Bool
is_awaited Verb takes in_list = false
is_awaited Parameter takes in_list = false
is_awaited VerbSlash takes in_list = false
is_awaited Slash takes in_list = false
is_awaited Name takes in_list = needs_value takes
is_awaited Equals takes in_list = true
is_awaited Open takes in_list = true
is_awaited Comma takes in_list = true
is_awaited Value takes in_list = in_list
is_awaited Key takes in_list = true
is_awaited KeyOpen takes in_list = true
is_awaited KeyValue takes in_list = in_list
is_awaited Close takes in_list = false

-- a value, or the end of a list, is missing, if nothing more of this qualifier comes
abbrev pub is_owing : State → Bool
is_owing s = s.owed || is_awaited s.place s.takes s.in_list

-- Where a token isn't in place, the fault stands at it; but a / without a name, and = where no value is taken, are at fault
-- themselves.
abbrev pub misplaced : Place → State → ℕ → Fault
misplaced VerbSlash s at = record { place = s.start; kind = fault.Qualifier }
misplaced Slash s at = record { place = s.start; kind = fault.Qualifier }
misplaced Equals s at = record { place = if needs_value s.takes then at else s.start; kind = fault.Form }
misplaced _ s at = record { place = at; kind = fault.Form }

-- the token stands directly behind a word or a quoted string: parameters are parted by blanks
abbrev pub is_joined : Place → ℕ → ℕ → Bool
is_joined Close end start = false
is_joined _ end start = end == start

-- One more parameter, where the command takes it. Where no command is named, it only counts that there is one.
abbrev pub one_more : Option Row → ℕ → Option ℕ
one_more None parameters = Some 1
one_more (Some row) parameters = if nat_lt parameters row.most then Some (parameters + 1) else None
