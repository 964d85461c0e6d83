-- No list has more values than its count can say.
use Rattle.std.proofs.Common.{◌≡◌, ℕ, ◌+◌, ◌≤◌, ◌<◌, ◌^◌, Bool, true, false, cond, List, [], ◌∷◌, length, Option, None, Some, IfSome, arith, option_map, filter_map}
use Rattle.std.specs.List.{cons_option}
use Rattle.std.specs.Option.{option_or}
use Rattle.qm_commands.specs.declared.tokens.token.Token.{Token}
use Rattle.qm_grammar.specs.declared.part.Part.{Part}
use Rattle.qm_grammar.specs.declared.part.Part.TheVariants.{Parameter, Qualifier, Value, KeyValue}
use Rattle.qm_grammar.specs.Parsed.{parts_in}
use Rattle.qm_grammar.proofs.FewValues.{values_ahead as count_ahead, AreFew, values_are_few}
use Rattle.qm_dcl.specs.declared.lists.ListOf.{ListOf}
use Rattle.qm_dcl.specs.declared.lists.ListOf.TheVariants.{Characteristics, Targets}
use Rattle.qm_dcl.specs.declared.lists.Lists.{Lists}
use Rattle.qm_dcl.specs.Lists.{begins_list, behind_last, values_ahead, lists_of}

-- ---- the lists that are given

counted : (parts : List Part) → length (values_ahead parts) ≡ count_ahead parts
counted [] = omega arith
counted (Parameter token ∷ parts) = omega arith
counted (Qualifier word place ∷ parts) = omega arith
counted (Value token ∷ parts) = omega (arith, counted parts)
counted (KeyValue token ∷ parts) = omega arith

abbrev FewAhead : List Part → Type 0
FewAhead parts = length (values_ahead parts) ≤ 65535

or_here : (list : ListOf) (b : Bool) (parts : List Part) (later : Option (List Part)) → FewAhead parts
    → IfSome later FewAhead
    → IfSome (option_or later (cond b (Some parts) None)) FewAhead
or_here list b parts (Some behind) here later = later
or_here list true parts None here later = here
or_here list false parts None here later = tt

few_ahead : (list : ListOf) (parts : List Part) → AreFew parts → IfSome (behind_last list parts) FewAhead
few_ahead list [] few = tt
few_ahead list (first ∷ parts) few = or_here list (begins_list list first) parts (behind_last list parts) (omega (arith, counted parts, few.0)) (few_ahead list parts few.1)

one_or_none : {X : Type 0} (o : Option X) (xs : List X) (n : ℕ) → length xs ≤ n → length (cons_option o xs) ≤ n + 1
one_or_none None xs n few = omega (arith, few)
one_or_none (Some x) xs n few = omega (arith, few)

no_more : {X Y : Type 0} (read : X → Option Y) (xs : List X) → length (filter_map read xs) ≤ length xs
no_more read [] = omega arith
no_more read (x ∷ xs) = let n = one_or_none (read x) (filter_map read xs) (length xs) (no_more read xs) in omega (arith, n)

-- a list whose count has 16 bits
abbrev pub HasFew : {X : Type 0} → List X → Type 0
HasFew xs = length xs < 2 ^ 16

few_read : {Y : Type 0} (read : Token → Option Y) (behind : Option (List Part)) → IfSome behind FewAhead
    → IfSome (option_map (filter_map read) (option_map values_ahead behind)) HasFew
few_read read None few = tt
few_read read (Some parts) few = let less = no_more read (values_ahead parts) in omega (arith, few, less)

-- the lists of a command
abbrev pub AreShort : Lists → Type 0
AreShort lists = IfSome lists.characteristics HasFew × IfSome lists.targets HasFew

pub lists_are_short : (text : List ℕ) → AreShort (lists_of text (parts_in text))
lists_are_short text =
    let few = values_are_few text in (
      few_read _ (behind_last Characteristics (parts_in text)) (few_ahead Characteristics (parts_in text) few),
      few_read _ (behind_last Targets (parts_in text)) (few_ahead Targets (parts_in text) few),
    )
