-- The lists that qualifiers give, by what their values say.
use Rattle.std.proofs.Common.{◌≡◌, ℕ, List, [], ◌∷◌, map, Option, None, Some, Bool, true, false, if◌then◌else◌, refl, ap, ◌∙◌, option_map, filter_map}
use Rattle.std.specs.List.{cons_option}
use Rattle.std.specs.Option.{option_or}
use Rattle.qm_commands.specs.declared.tokens.token.Token.{Token}
use Rattle.qm_grammar.specs.declared.part.Part.{Part}
use Rattle.qm_grammar.specs.declared.part.Part.TheVariants as parts
use Rattle.qm_dcl.specs.declared.lists.ListOf.{ListOf}
use Rattle.qm_dcl.specs.declared.lists.ListOf.TheVariants.{Characteristics, Targets, Nodes}
use Rattle.qm_dcl.specs.declared.lists.Lists.{Lists}
use Rattle.qm_dcl.specs.Lists.{gives, begins_list, behind_last, values_ahead, lists_of, nodes_of}
use Rattle.qm_dcl.specs.Values.{said_by, characteristic_said, short_name_said, node_said}
use Rattle.qm_spelling.proofs.SpelledReading.{Spoken, TellsOne, Tells}
use Rattle.qm_spelling.proofs.SpelledSettings.{says}

-- what the values with which this begins say
abbrev pub texts_ahead : List Spoken → List (List ℕ)
texts_ahead [] = []
texts_ahead (Spoken.SaysParameter text ∷ ps) = []
texts_ahead (Spoken.SaysQualifier word ∷ ps) = []
texts_ahead (Spoken.SaysValue said ∷ ps) = said.text ∷ texts_ahead ps
texts_ahead (Spoken.SaysKeyValue said ∷ ps) = []

abbrev pub begins_by : ListOf → Spoken → Bool
begins_by list (Spoken.SaysParameter text) = false
begins_by list (Spoken.SaysQualifier word) = gives list word
begins_by list (Spoken.SaysValue said) = false
begins_by list (Spoken.SaysKeyValue said) = false

-- what the values of the list that counts say, if one is given
abbrev pub texts_of : ListOf → List Spoken → Option (List (List ℕ))
texts_of list [] = None
texts_of list (p ∷ ps) = option_or (texts_of list ps) (if begins_by list p then Some (texts_ahead ps) else None)

abbrev pub lists_by : List Spoken → Lists
lists_by ps = record {
  characteristics = option_map (filter_map characteristic_said) (texts_of Characteristics ps);
  targets = option_map (filter_map short_name_said) (texts_of Targets ps);
}

abbrev pub nodes_by : List Spoken → Option (List (List ℕ))
nodes_by ps = option_map (filter_map node_said) (texts_of Nodes ps)

-- values of tokens are the values of what they say
mapped : {X : Type 0} (f : List ℕ → Option X) (g : Token → List ℕ) (tokens : List Token) → filter_map (λ token. f (g token)) tokens ≡ filter_map f (map g tokens)
mapped f g [] = refl
mapped f g (token ∷ tokens) = ap (cons_option (f (g token))) (mapped f g tokens)

module _ (text : List ℕ) where
  ahead_are : (more : List Part) (ps : List Spoken) → Tells text more ps → map (said_by text) (values_ahead more) ≡ texts_ahead ps
  ahead_are [] [] tells = refl
  ahead_are [] (p ∷ ps) tells = absurd tells
  ahead_are (part ∷ more) [] tells = absurd tells
  ahead_are (parts.Parameter token ∷ more) (Spoken.SaysParameter bytes ∷ ps) tells = refl
  ahead_are (parts.Qualifier word at ∷ more) (Spoken.SaysQualifier meant ∷ ps) tells = refl
  ahead_are (parts.Value token ∷ more) (Spoken.SaysValue said ∷ ps) tells = rw (says text said token tells.0, ahead_are more ps tells.1) refl
  ahead_are (parts.KeyValue token ∷ more) (Spoken.SaysKeyValue said ∷ ps) tells = refl
  ahead_are (part ∷ more) (p ∷ ps) tells = absurd tells.0

  begins_is : (list : ListOf) (part : Part) (p : Spoken) → TellsOne text part p → begins_list list part ≡ begins_by list p
  begins_is list (parts.Parameter token) (Spoken.SaysParameter bytes) h = refl
  begins_is list (parts.Qualifier word at) (Spoken.SaysQualifier meant) h = ap (gives list) h
  begins_is list (parts.Value token) (Spoken.SaysValue said) h = refl
  begins_is list (parts.KeyValue token) (Spoken.SaysKeyValue said) h = refl
  begins_is list part p h = absurd h

  abbrev texts : Option (List Part) → Option (List (List ℕ))
  texts o = option_map (λ (more : List Part). map (said_by text) (values_ahead more)) o

  either : (a b : Option (List Part)) → texts (option_or a b) ≡ option_or (texts a) (texts b)
  either None b = refl
  either (Some a) b = refl

  chosen : (b : Bool) (more : List Part) (ahead : List (List ℕ)) → map (said_by text) (values_ahead more) ≡ ahead → texts (if b then Some more else None) ≡ (if b then Some ahead else None)
  chosen true more ahead is = ap (λ (l : List (List ℕ)). Some l) is
  chosen false more ahead is = refl

  texts_are : (list : ListOf) (more : List Part) (ps : List Spoken) → Tells text more ps → texts (behind_last list more) ≡ texts_of list ps
  texts_are list [] [] tells = refl
  texts_are list [] (p ∷ ps) tells = absurd tells
  texts_are list (part ∷ more) [] tells = absurd tells
  texts_are list (part ∷ more) (p ∷ ps) tells =
      either (behind_last list more) (if begins_list list part then Some more else None)
      ∙ ap (λ (o : Option (List (List ℕ))). option_or o (texts (if begins_list list part then Some more else None))) (texts_are list more ps tells.1)
      ∙ ap (option_or (texts_of list ps))
      (chosen (begins_list list part) more (texts_ahead ps) (ahead_are more ps tells.1) ∙ ap (λ (b : Bool). if b then Some (texts_ahead ps) else None) (begins_is list part p tells.0))

  values_are : {X : Type 0} (f : List ℕ → Option X) (o : Option (List Part)) (said : Option (List (List ℕ))) → texts o ≡ said
      → option_map (λ (tokens : List Token). filter_map (λ token. f (said_by text token)) tokens) (option_map values_ahead o) ≡ option_map (filter_map f) said
  values_are f None said is = ap (option_map (filter_map f)) is
  values_are f (Some more) said is = ap (λ (l : List _). Some l) (mapped f (said_by text) (values_ahead more)) ∙ ap (option_map (filter_map f)) is

  pub lists_are : (more : List Part) (ps : List Spoken) → Tells text more ps → lists_of text more ≡ lists_by ps
  lists_are more ps tells =
      let characteristics : (lists_of text more).characteristics ≡ (lists_by ps).characteristics =
      values_are characteristic_said (behind_last Characteristics more) (texts_of Characteristics ps) (texts_are Characteristics more ps tells) in
      let targets : (lists_of text more).targets ≡ (lists_by ps).targets = values_are short_name_said (behind_last Targets more) (texts_of Targets ps) (texts_are Targets more ps tells) in
      λ i. record { characteristics = characteristics i; targets = targets i }

  pub nodes_are : (more : List Part) (ps : List Spoken) → Tells text more ps → nodes_of text more ≡ nodes_by ps
  nodes_are more ps tells = values_are node_said (behind_last Nodes more) (texts_of Nodes ps) (texts_are Nodes more ps tells)
