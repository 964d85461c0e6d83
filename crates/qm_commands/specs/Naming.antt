-- What a name may be cut to.
-- OpenVMS User's Manual, on entering commands: as few letters as no other name begins with.
use Rattle.std.specs.Prelude.{◌≡◌, ◌⊎◌, ℕ, true, List, map, Contains, Option, option_map}
use Rattle.qm_commands.specs.declared.tokens.token.Token.{Token}
use Rattle.qm_commands.specs.declared.table.Row.{Row}
use Rattle.qm_commands.specs.declared.table.Verb.{Verb}
use Rattle.qm_commands.specs.Names.{rules_for, rule_for}
use Rattle.qm_commands.specs.Spelled.{is_spelled, begins}
use Rattle.qm_commands.specs.Words.{spelling}

-- the names that may stand behind a / of the command, or of any command of the verb where none is named
abbrev pub names_for : Verb → Option Row → List (List ℕ)
names_for verb row = map (λ rule. spelling rule.0) (rules_for verb row)

-- the name for which a token is taken there
abbrev pub name_for : List ℕ → Verb → Option Row → Token → Option (List ℕ)
name_for text verb row token = option_map (λ rule. spelling rule.0) (rule_for text verb row token)

-- a token begins this name and no other one
abbrev pub BeginsAlone : List ℕ → List (List ℕ) → Token → List ℕ → Type 0
BeginsAlone text names token name = (begins text name token ≡ true) × ((other : List ℕ) → Contains names other → begins text other token ≡ true → other ≡ name)

-- a token stands for one of these names: it spells it whole, or is what it alone may be cut to
abbrev pub StandsFor : List ℕ → List (List ℕ) → Token → List ℕ → Type 0
StandsFor text names token name = Contains names name × ((is_spelled text name token ≡ true) ⊎ BeginsAlone text names token name)
