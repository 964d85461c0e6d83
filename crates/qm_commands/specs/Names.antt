-- Names of verbs, options and qualifiers, whole or cut short.
-- OpenVMS User's Manual, on entering commands: a name may be cut to a beginning that no other one has, and one that is spelled
-- whole is that name.
use Rattle.std.specs.Prelude.{ℕ, Bool, true, ◌&&◌, ◌||◌, not, find, List, [], ◌∷◌, ◌++◌, Option, None, Some, bytes_eq}
use Rattle.std.specs.List.{list_all, list_any}
use Rattle.qm_commands.specs.declared.tokens.token.Token.{Token}
use Rattle.qm_commands.specs.declared.table.Verb.{Verb}
use Rattle.qm_commands.specs.declared.table.Row.{Row}
use Rattle.qm_commands.specs.declared.rules.Takes.{Takes}
use Rattle.qm_commands.specs.declared.word.Word.{Word}
use Rattle.qm_commands.specs.Words.{verb_spelling, spelling}
use Rattle.qm_commands.specs.Spelled.{is_spelled, begins}
use Rattle.qm_commands.specs.Table.{rows_of, verbs}
use Rattle.qm_commands.specs.Rules.{rules_of}

-- a name that stands beside this one leaves it to a token: the token doesn't begin that name, or the two are one
abbrev pub is_no_rival : List ℕ → Token → List ℕ → List ℕ → Bool
is_no_rival text token name other = not (begins text other token) || bytes_eq other name

-- no other name of these leaves a name in doubt
abbrev pub are_no_rivals : List ℕ → Token → List ℕ → List (Word × Takes) → Bool
are_no_rivals text token name rules = list_all (λ rule. is_no_rival text token name (spelling rule.0)) rules

-- one of these names begins with a token
abbrev pub begins_one : List ℕ → Token → List (Word × Takes) → Bool
begins_one text token rules = list_any (λ rule. begins text (spelling rule.0) token) rules

-- a token means the name that it spells whole, and the name that it begins where no other leaves it in doubt
abbrev pub means : List ℕ → Token → List ℕ → Bool → Bool
means text token name alone = is_spelled text name token || (begins text name token && alone)

-- ---- verbs

abbrev pub is_verb_alone : List ℕ → Token → List ℕ → Bool
is_verb_alone text token name = list_all (λ verb. is_no_rival text token name (verb_spelling verb)) verbs

-- a token is the verb, among all verbs
abbrev pub is_verb : List ℕ → Token → Verb → Bool
is_verb text token verb = means text token (verb_spelling verb) (is_verb_alone text token (verb_spelling verb))

-- some verb begins with a token
abbrev pub begins_verb : List ℕ → Token → Bool
begins_verb text token = list_any (λ verb. begins text (verb_spelling verb) token) verbs

-- ---- options that are the first parameter

abbrev pub is_no_rival_object : List ℕ → Token → List ℕ → Option Word → Bool
is_no_rival_object text token name None = true
is_no_rival_object text token name (Some other) = is_no_rival text token name (spelling other)

abbrev pub is_object_alone : List ℕ → Verb → Token → List ℕ → Bool
is_object_alone text verb token name = list_all (λ (row : Row). is_no_rival_object text token name row.object) (rows_of verb)

-- a token is the option, among those of the verb
abbrev pub is_object : List ℕ → Verb → Token → Word → Bool
is_object text verb token word = means text token (spelling word) (is_object_alone text verb token (spelling word))

-- ---- options and qualifiers behind a /

abbrev pub rules_among : List Row → List (Word × Takes)
rules_among [] = []
rules_among (row ∷ rows) = rules_of row.command ++ rules_among rows

-- what stands behind a / of the command, or of any command of the verb where none is named
abbrev pub rules_for : Verb → Option Row → List (Word × Takes)
rules_for verb None = rules_among (rows_of verb)
rules_for verb (Some row) = rules_of row.command

abbrev pub is_alone : List ℕ → Verb → Option Row → Token → List ℕ → Bool
is_alone text verb row token name = are_no_rivals text token name (rules_for verb row)

-- a token is the option or the qualifier, among those names
abbrev pub is_name : List ℕ → Verb → Option Row → Token → Word → Bool
is_name text verb row token word = means text token (spelling word) (is_alone text verb row token (spelling word))

-- some of those names begins with a token
abbrev pub begins_name : List ℕ → Verb → Option Row → Token → Bool
begins_name text verb row token = begins_one text token (rules_for verb row)

-- the option or the qualifier that a token is; the first row of the verb says what value it takes, where no command is named
abbrev pub rule_for : List ℕ → Verb → Option Row → Token → Option (Word × Takes)
rule_for text verb row token = find (λ rule. is_name text verb row token rule.0) (rules_for verb row)
