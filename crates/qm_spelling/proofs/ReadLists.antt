-- The lists that are given can be said: no more than 65,535 values, and each of them.
use Rattle.std.proofs.Common.{◌≡◌, ℕ, ◌+◌, ◌≤◌, Bool, true, false, cond, ◌&&◌, List, [], ◌∷◌, length, Option, None, Some, IfSome, refl, arith, option_map, filter_map, le-leb}
use Rattle.std.specs.List.{list_all, cons_option}
use Rattle.std.specs.Option.{option_or}
use Rattle.qm_commands.specs.declared.tokens.token.Token.{Token}
use Rattle.qm_grammar.specs.declared.part.Part.{Part}
use Rattle.qm_grammar.specs.declared.part.Part.TheVariants.{Parameter, Qualifier, Value, KeyValue}
use Rattle.qm_grammar.specs.Parsed.{parts_in}
use Rattle.qm_grammar.proofs.FewValues.{values_ahead as count_ahead, AreFew, values_are_few}
use Rattle.qm_model.specs.Built.{is_short}
use Rattle.qm_dcl.specs.declared.lists.ListOf.{ListOf}
use Rattle.qm_dcl.specs.declared.lists.ListOf.TheVariants.{Characteristics, Targets, Nodes}
use Rattle.qm_dcl.specs.declared.lists.Lists.{Lists}
use Rattle.qm_dcl.specs.Lists.{begins_list, behind_last, values_ahead, lists_of, nodes_of}
use Rattle.qm_dcl.specs.Values.{said_by, is_node_name, characteristic_said, short_name_said, node_said}
use Rattle.qm_sayable.specs.Values.{fits_list, is_reference, are_characteristics}
use Rattle.qm_sayable.specs.Commands.{are_nodes}
use Rattle.qm_spelling.proofs.ReadValues.{both, short_name, node_name, reference}

-- ---- how many

counted : (parts : List Part) → length (values_ahead parts) ≡ count_ahead parts
counted [] = omega arith
counted (Parameter token ∷ parts) = omega arith
counted (Qualifier word place ∷ parts) = omega arith
counted (Value token ∷ parts) = omega (arith, counted parts)
counted (KeyValue token ∷ parts) = omega arith

abbrev FewAhead : List Part → Type 0
FewAhead parts = length (values_ahead parts) ≤ 65535

or_here : (b : Bool) (parts : List Part) (later : Option (List Part)) → FewAhead parts → IfSome later FewAhead → IfSome (option_or later (cond b (Some parts) None)) FewAhead
or_here b parts (Some behind) here later = later
or_here true parts None here later = here
or_here false parts None here later = tt

few_ahead : (list : ListOf) (parts : List Part) → AreFew parts → IfSome (behind_last list parts) FewAhead
few_ahead list [] few = tt
few_ahead list (first ∷ parts) few = or_here (begins_list list first) parts (behind_last list parts) (omega (arith, counted parts, few.0)) (few_ahead list parts few.1)

one_or_none : {X : Type 0} (o : Option X) (xs : List X) (n : ℕ) → length xs ≤ n → length (cons_option o xs) ≤ n + 1
one_or_none None xs n few = omega (arith, few)
one_or_none (Some x) xs n few = omega (arith, few)

no_more : {X Y : Type 0} (read : X → Option Y) (xs : List X) → length (filter_map read xs) ≤ length xs
no_more read [] = omega arith
no_more read (x ∷ xs) = let n = one_or_none (read x) (filter_map read xs) (length xs) (no_more read xs) in omega (arith, n)

-- ---- which

module _ {Y : Type 0} (read : Token → Option Y) (q : Y → Bool) (reads : (token : Token) → IfSome (read token) (λ y. q y ≡ true)) where
  one_more : (o : Option Y) (ys : List Y) → IfSome o (λ y. q y ≡ true) → list_all q ys ≡ true → list_all q (cons_option o ys) ≡ true
  one_more None ys is all = all
  one_more (Some y) ys is all = both (q y) (list_all q ys) is all

  all_read : (tokens : List Token) → list_all q (filter_map read tokens) ≡ true
  all_read [] = refl
  all_read (token ∷ tokens) = one_more (read token) (filter_map read tokens) (reads token) (all_read tokens)

  list_read : (behind : Option (List Part)) → IfSome behind FewAhead
      → IfSome (option_map (filter_map read) (option_map values_ahead behind)) (λ ys. (fits_list (length ys) && list_all q ys) ≡ true)
  list_read None few = tt
  list_read (Some parts) few =
      let less = no_more read (values_ahead parts) in
      let n : length (filter_map read (values_ahead parts)) ≤ 65535 = omega (arith, few, less) in
      both (fits_list (length (filter_map read (values_ahead parts)))) (list_all q (filter_map read (values_ahead parts)))
      (le-leb (length (filter_map read (values_ahead parts))) 65535 n) (all_read (values_ahead parts))

-- targets of a queue
abbrev pub are_targets : List (List ℕ) → Bool
are_targets targets = fits_list (length targets) && list_all is_short targets

-- the lists that are given can be said
pub record AreLists (lists : Lists) (nodes : Option (List (List ℕ))) : Type 0 where
  pub characteristics : IfSome lists.characteristics (λ cs. are_characteristics cs ≡ true)
  pub targets : IfSome lists.targets (λ names. are_targets names ≡ true)
  pub all_nodes : IfSome nodes (λ names. are_nodes names ≡ true)

pub lists_are_sayable : (text : List ℕ) → AreLists (lists_of text (parts_in text)) (nodes_of text (parts_in text))
lists_are_sayable text =
    let few = values_are_few text in record {
      characteristics =
          list_read (λ token. characteristic_said (said_by text token)) (is_reference 255) (λ token. reference 255 (said_by text token))
          (behind_last Characteristics (parts_in text)) (few_ahead Characteristics (parts_in text) few);
      targets =
          list_read (λ token. short_name_said (said_by text token)) is_short (λ token. short_name (said_by text token))
          (behind_last Targets (parts_in text)) (few_ahead Targets (parts_in text) few);
      all_nodes =
          list_read (λ token. node_said (said_by text token)) is_node_name (λ token. node_name (said_by text token))
          (behind_last Nodes (parts_in text)) (few_ahead Nodes (parts_in text) few);
    }
