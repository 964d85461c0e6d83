-- The lists that qualifiers give. Of a list that is given twice the last one counts, whole.
-- DCL Dictionary, on /CHARACTERISTICS and /GENERIC, and START/QUEUE/MANAGER, on /ON.
use Rattle.std.specs.Prelude.{ℕ, Bool, true, false, if◌then◌else◌, List, [], ◌∷◌, filter_map, Option, None, Some, option_map}
use Rattle.std.specs.Option.{option_or}
use Rattle.qm_kinds.specs.declared.request.NameOrNumber.{NameOrNumber}
use Rattle.qm_commands.specs.declared.tokens.token.Token.{Token}
use Rattle.qm_commands.specs.declared.word.Word.{Word}
use Rattle.qm_commands.specs.declared.word.Word.TheVariants as words
use Rattle.qm_grammar.specs.declared.part.Part.{Part}
use Rattle.qm_grammar.specs.declared.part.Part.TheVariants.{Parameter, Qualifier, Value, KeyValue}
use Rattle.qm_dcl.specs.declared.lists.ListOf.{ListOf}
use Rattle.qm_dcl.specs.declared.lists.ListOf.TheVariants.{Characteristics, Targets, Nodes}
use Rattle.qm_dcl.specs.declared.lists.Lists.{Lists}
use Rattle.qm_dcl.specs.Values.{said_by, characteristic_said, short_name_said, node_said}

-- the qualifiers that give a list; /NOCHARACTERISTICS takes no value, and gives the empty one
abbrev pub gives : ListOf → Word → Bool
gives Characteristics words.Characteristics = true
gives Characteristics words.NoCharacteristics = true
gives Characteristics _ = false
gives Targets words.Generic = true
gives Targets _ = false
gives Nodes words.On = true
gives Nodes _ = false

abbrev pub begins_list : ListOf → Part → Bool
begins_list list (Parameter token) = false
begins_list list (Qualifier word place) = gives list word
begins_list list (Value token) = false
begins_list list (KeyValue token) = false

-- the parts behind the last qualifier that gives the list, if one does
abbrev pub behind_last : ListOf → List Part → Option (List Part)
behind_last list [] = None
behind_last list (part ∷ parts) = option_or (behind_last list parts) (if begins_list list part then Some parts else None)

-- the values with which parts begin
abbrev pub values_ahead : List Part → List Token
values_ahead [] = []
values_ahead (Parameter token ∷ parts) = []
values_ahead (Qualifier word place ∷ parts) = []
values_ahead (Value token ∷ parts) = token ∷ values_ahead parts
values_ahead (KeyValue token ∷ parts) = []

-- the values of the list that counts, if one is given
abbrev pub listed : ListOf → List Part → Option (List Token)
listed list parts = option_map values_ahead (behind_last list parts)

-- what values say; one that can't be read is a fault, so that nothing is asked for
abbrev pub characteristics_said : List ℕ → List Token → List NameOrNumber
characteristics_said text tokens = filter_map (λ token. characteristic_said (said_by text token)) tokens

abbrev pub queues_said : List ℕ → List Token → List (List ℕ)
queues_said text tokens = filter_map (λ token. short_name_said (said_by text token)) tokens

-- the nodes that values name; * names none, and the empty list stands for all
abbrev pub nodes_said : List ℕ → List Token → List (List ℕ)
nodes_said text tokens = filter_map (λ token. node_said (said_by text token)) tokens

-- the lists of a command that asks for a request
abbrev pub lists_of : List ℕ → List Part → Lists
lists_of text parts = record {
  characteristics = option_map (characteristics_said text) (listed Characteristics parts);
  targets = option_map (queues_said text) (listed Targets parts);
}

-- the nodes on which the queue manager may run, if they are given
abbrev pub nodes_of : List ℕ → List Part → Option (List (List ℕ))
nodes_of text parts = option_map (nodes_said text) (listed Nodes parts)
