-- What is read from a value can be said.
use Rattle.std.proofs.Common.{◌≡◌, ℕ, ◌+◌, ◌<◌, ◌==◌, Bool, true, false, cond, not, ◌&&◌, nat_lt, nat_le, List, [], ◌∷◌, length, map, take, drop, position, Option, None, Some, IfSome, Err, refl, ap, ◌∙◌, arith, option_map, option_and_then}
use Rattle.std.specs.List.{list_all}
use Rattle.std.specs.Result.{result_ok}
use Rattle.std.specs.Char.{is_ascii_digit, to_ascii_uppercase}
use Rattle.std.proofs.lemmas.Bool.Decides.{nat_tests}
use Rattle.std.proofs.lemmas.List.{length-map}
use Rattle.qm_model.specs.Common.{name_of, Name, Number, is_short, is_definable, value_of}
use Rattle.qm_kinds.specs.Text.{is_name_byte, is_pattern_byte, text_of, raised_unless}
use Rattle.qm_kinds.specs.declared.fault.NameFault.{NameFault}
use Rattle.qm_dcl.specs.declared.value.Location.{Location}
use Rattle.qm_dcl.specs.Values.{are_digits, number_to, if_passes, short_name_said, definable_name_said, is_node_name, node_said, reference_said, pattern_said, behind_colon, before_colon, device_said, located, location_cut_at, location_said}
use Rattle.qm_sayable.specs.Values.{is_reference}

-- ---- truth values

pub both : (a b : Bool) → a ≡ true → b ≡ true → (a && b) ≡ true
both true b left right = right
both false b left right = left

pub not_false : (b : Bool) → b ≡ false → not b ≡ true
not_false false h = refl
not_false true h = absurd cc

-- ---- digits

digit_stays : (b : ℕ) → is_ascii_digit (to_ascii_uppercase b) ≡ is_ascii_digit b
digit_stays b = grind (arith, nat_tests)

-- raised letters are no digits
digits_stay : (said : List ℕ) → list_all is_ascii_digit (map to_ascii_uppercase said) ≡ list_all is_ascii_digit said
digits_stay [] = refl
digits_stay (b ∷ said) = let first = digit_stays b in let others = digits_stay said in rw (first, others) refl

pub raised_digits : (said : List ℕ) → are_digits (map to_ascii_uppercase said) ≡ are_digits said
raised_digits said = rw (digits_stay said, length-map said to_ascii_uppercase) refl

-- ---- names

-- a name that a text gives: its letters raised, of which there are some
abbrev IsRaised : List ℕ → List ℕ → Type 0
IsRaised said name = (name ≡ map to_ascii_uppercase said) × (0 < length said)

raised_where : (said : List ℕ) (empty long : Bool) (bad : Option ℕ) (e f : NameFault) → (length said == 0) ≡ empty
    → IfSome (result_ok (cond empty (Err e) (cond long (Err f) (raised_unless bad said)))) (IsRaised said)
raised_where said true long bad e f h = tt
raised_where said false true bad e f h = tt
raised_where said false false (Some place) e f h = tt
raised_where said false false None e f h = (refl, grind (arith, nat_tests))

text_raised : (allowed : ℕ → Bool) (said : List ℕ) → IfSome (result_ok (text_of allowed said)) (IsRaised said)
text_raised allowed said =
    raised_where said (length said == 0) (nat_lt 39 (length said)) (position (λ b. not (allowed (to_ascii_uppercase b))) said) _ _ refl

passing : (passes : List ℕ → Bool) (name : List ℕ) (b : Bool) → passes name ≡ b → IfSome (cond b (Some name) None) (λ n. passes n ≡ true)
passing passes name true is = is
passing passes name false is = tt

if_passing : (passes : List ℕ → Bool) (name : Option (List ℕ)) → IfSome (option_and_then (if_passes passes) name) (λ n. passes n ≡ true)
if_passing passes None = tt
if_passing passes (Some name) = passing passes name (passes name) refl

pub short_name : (said : List ℕ) → IfSome (short_name_said said) (λ name. is_short name ≡ true)
short_name said = if_passing is_short (name_of said)

pub definable_name : (said : List ℕ) → IfSome (definable_name_said said) (λ name. is_definable name ≡ true)
definable_name said = if_passing is_definable (name_of said)

pub node_name : (said : List ℕ) → IfSome (node_said said) (λ name. is_node_name name ≡ true)
node_name said = if_passing is_node_name (name_of said)

-- ---- forms and characteristics

number_where : (most n : ℕ) (digits within : Bool) → nat_le n most ≡ within → IfSome (cond (digits && within) (Some n) None) (λ m. nat_le m most ≡ true)
number_where most n false within h = tt
number_where most n true false h = tt
number_where most n true true h = h

number : (most : ℕ) (said : List ℕ) → IfSome (number_to most said) (λ n. nat_le n most ≡ true)
number most said = number_where most (value_of said) (are_digits said) (nat_le (value_of said) most) refl

no_digits : (said : List ℕ) → are_digits said ≡ false → 0 < length said → list_all is_ascii_digit said ≡ false
no_digits said h some = by (list_all is_ascii_digit said) (nat_lt 0 (length said)) h (grind (arith, nat_tests))
  where
    by : (all some : Bool) → (all && some) ≡ false → some ≡ true → all ≡ false
    by false some h is = refl
    by true some h is = absurd cc

-- a short name that isn't digits alone can be defined
named : (most : ℕ) (said : List ℕ) (name : Option (List ℕ)) → are_digits said ≡ false → IfSome name (IsRaised said)
    → IfSome (option_map Name (option_and_then (if_passes is_short) name)) (λ r. is_reference most r ≡ true)
named most said None digits raised = tt
named most said (Some name) digits raised = by (is_short name) refl
  where
    by : (b : Bool) → is_short name ≡ b → IfSome (option_map Name (cond b (Some name) None)) (λ r. is_reference most r ≡ true)
    by false short = tt
    by true short =
        both (is_short name) (not (list_all is_ascii_digit name)) short
        (not_false (list_all is_ascii_digit name) (ap (list_all is_ascii_digit) raised.0 ∙ digits_stay said ∙ no_digits said digits raised.1))

numbered : (most : ℕ) (n : Option ℕ) → IfSome n (λ m. nat_le m most ≡ true) → IfSome (option_map Number n) (λ r. is_reference most r ≡ true)
numbered most None within = tt
numbered most (Some n) within = within

reference_where : (most : ℕ) (said : List ℕ) (digits : Bool) → are_digits said ≡ digits
    → IfSome (cond digits (option_map Number (number_to most said)) (option_map Name (short_name_said said))) (λ r. is_reference most r ≡ true)
reference_where most said true is = numbered most (number_to most said) (number most said)
reference_where most said false is = named most said (name_of said) is (text_raised is_name_byte said)

pub reference : (most : ℕ) (said : List ℕ) → IfSome (reference_said most said) (λ r. is_reference most r ≡ true)
reference most said = reference_where most said (are_digits said) refl

-- ---- patterns

pattern_where : (said : List ℕ) (pattern : Option (List ℕ)) → are_digits said ≡ false → IfSome pattern (IsRaised said) → IfSome pattern (λ p. are_digits p ≡ false)
pattern_where said None digits raised = tt
pattern_where said (Some p) digits raised = ap are_digits raised.0 ∙ raised_digits said ∙ digits

-- what isn't digits alone gives no pattern of digits alone
pub pattern : (said : List ℕ) → are_digits said ≡ false → IfSome (pattern_said said) (λ p. are_digits p ≡ false)
pattern said digits = pattern_where said (pattern_said said) digits (text_raised is_pattern_byte said)

-- ---- where a queue stands

abbrev pub IsPlace : Location → Type 0
IsPlace location = (is_node_name location.node ≡ true) × IfSome location.device (λ d. is_short d ≡ true)

abbrev AreShort : Option (List ℕ) → Type 0
AreShort name = IfSome name (λ n. is_short n ≡ true)

some_short : (name : Option (List ℕ)) → AreShort name → IfSome (option_map Some name) AreShort
some_short None short = tt
some_short (Some name) short = short

named_device : (said : Option (List ℕ)) → IfSome (option_map Some (option_and_then short_name_said said)) AreShort
named_device None = tt
named_device (Some said) = some_short (short_name_said said) (short_name said)

device : (said : List ℕ) → IfSome (device_said said) AreShort
device [] = tt
device (b ∷ rest) = named_device (before_colon (b ∷ rest))

node_located : (node : Option (List ℕ)) (device : Option (List ℕ)) → IfSome node (λ n. is_node_name n ≡ true) → AreShort device
    → IfSome (option_map (λ n. record { node = n; device = device }) node) IsPlace
node_located None device is short = tt
node_located (Some n) device is short = (is, short)

device_located : (node : List ℕ) (device : Option (Option (List ℕ))) → IfSome device AreShort → IfSome (option_and_then (located node) device) IsPlace
device_located node None short = tt
device_located node (Some device) short = node_located (node_said node) device (node_name node) short

behind_located : (node : List ℕ) (behind : Option (List ℕ)) → IfSome (option_and_then (located node) (option_and_then device_said behind)) IsPlace
behind_located node None = tt
behind_located node (Some said) = device_located node (device_said said) (device said)

cut_located : (place : Option ℕ) (said : List ℕ) → IfSome (location_cut_at place said) IsPlace
cut_located None said = tt
cut_located (Some place) said = behind_located (take place said) (behind_colon (drop (place + 1) said))

pub location : (said : List ℕ) → IfSome (location_said said) IsPlace
location said = cut_located (position (λ b. b == 58) said) said
