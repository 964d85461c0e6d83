-- No list that must have a value is empty.
use Rattle.std.proofs.Common.{◌≡◌, ◌⊎◌, inl, inr, ℕ, Bool, true, false, cond, ◌||◌, nat_lt, List, [], ◌∷◌, length, Option, None, Some, Result, Ok, Err, IfOk, IfSome, is_some, refl, arith, option_map, filter_map, ok_or, le-leb}
use Rattle.std.specs.List.{cons_option}
use Rattle.std.specs.Option.{option_or}
use Rattle.qm_commands.specs.declared.tokens.token.Token.{Token}
use Rattle.qm_commands.specs.declared.fault.Fault.{Fault}
use Rattle.qm_grammar.specs.declared.part.Part.{Part}
use Rattle.qm_grammar.specs.declared.part.Part.TheVariants.{Parameter, Qualifier, Value, KeyValue}
use Rattle.qm_commands.specs.declared.table.Command.{Command}
use Rattle.qm_commands.specs.declared.word.Word.{Word}
use Rattle.qm_dcl.specs.declared.lists.ListOf.{ListOf}
use Rattle.qm_dcl.specs.declared.settings.Settings.{Settings}
use Rattle.qm_dcl.specs.Given.{with_word}
use Rattle.qm_dcl.specs.Lists.{gives, behind_last, values_ahead}
use Rattle.qm_dcl.specs.Settings.{has_value_ahead, with_parameter, with_value_of, on_settings, settings_from}
use Rattle.qm_spelling.proofs.ReadSettings.{folded}
use Rattle.qm_spelling.proofs.ReadTokens.{AreLawful}

pub anyway : (A : Type 0) (r : Result Settings Fault) → A → IfOk r (λ _. A)
anyway A (Ok s) a = a
anyway A (Err f) a = tt

pub mapped : (A B : Type 0) (r : Result Settings Fault) → (A → B) → IfOk r (λ _. A) → IfOk r (λ _. B)
mapped A B (Ok s) f a = f a
mapped A B (Err e) f a = tt

-- of what a value that is read says, something is said
pub value_is_read : {X : Type 0} (o : Option X) (give : X → Settings) (f : Fault) (go_on : Settings → Result Settings Fault)
    → IfOk (on_settings (ok_or (option_map give o) f) go_on) (λ _. is_some o ≡ true)
value_is_read None give f go_on = tt
value_is_read (Some x) give f go_on = anyway (true ≡ true) (go_on (give x)) refl

-- where a list is given, a qualifier gives it
pub list_is_given : (list : ListOf) (parts : List Part) (b : Bool) → (b ≡ true) ⊎ (is_some (behind_last list parts) ≡ true)
    → folded (λ word b. gives list word || b) (λ b. b) b parts ≡ true
list_is_given list [] b (inl h) = h
list_is_given list [] b (inr h) = absurd cc
list_is_given list (Parameter token ∷ parts) b h = list_is_given list parts b (or_later (behind_last list parts) h)
  where
    or_later : (later : Option (List Part)) → (b ≡ true) ⊎ (is_some (option_or later None) ≡ true) → (b ≡ true) ⊎ (is_some later ≡ true)
    or_later None (inl h) = inl h
    or_later None (inr h) = absurd cc
    or_later (Some behind) h = inr refl
list_is_given list (Qualifier word place ∷ parts) b h = list_is_given list parts (gives list word || b) (or_here (gives list word) (behind_last list parts) h)
  where
    or_here : (here : Bool) (later : Option (List Part)) → (b ≡ true) ⊎ (is_some (option_or later (cond here (Some parts) None)) ≡ true) → ((here || b) ≡ true) ⊎ (is_some later ≡ true)
    or_here here (Some behind) h = inr refl
    or_here true None h = inl refl
    or_here false None (inl h) = inl h
    or_here false None (inr h) = absurd cc
list_is_given list (Value token ∷ parts) b h = list_is_given list parts b (or_later (behind_last list parts) h)
  where
    or_later : (later : Option (List Part)) → (b ≡ true) ⊎ (is_some (option_or later None) ≡ true) → (b ≡ true) ⊎ (is_some later ≡ true)
    or_later None (inl h) = inl h
    or_later None (inr h) = absurd cc
    or_later (Some behind) h = inr refl
list_is_given list (KeyValue token ∷ parts) b h = list_is_given list parts b (or_later (behind_last list parts) h)
  where
    or_later : (later : Option (List Part)) → (b ≡ true) ⊎ (is_some (option_or later None) ≡ true) → (b ≡ true) ⊎ (is_some later ≡ true)
    or_later None (inl h) = inl h
    or_later None (inr h) = absurd cc
    or_later (Some behind) h = inr refl

module _ {Y : Type 0} (now : ℕ) (text : List ℕ) (c : Command) (list : ListOf) (allowed needs : Word → Bool) (read : Token → Option Y)
    (wants : (word : Word) → allowed word ≡ true → gives list word ≡ true → needs word ≡ true)
    (reads : (s : Settings) (word : Word) (token : Token) (rest : List Part) → allowed word ≡ true → gives list word ≡ true
    → IfOk (settings_from now text c (with_word s word) (Value token ∷ rest)) (λ _. is_some (read token) ≡ true)) where
  -- of the values behind the qualifier that counts the first is read
  abbrev IsSome : Option (List Part) → Type 0
  IsSome behind = IfSome behind (λ parts. nat_lt 0 (length (filter_map read (values_ahead parts))) ≡ true)

  one_read : (o : Option Y) (ys : List Y) → is_some o ≡ true → nat_lt 0 (length (cons_option o ys)) ≡ true
  one_read None ys h = absurd cc
  one_read (Some y) ys h = le-leb 1 (length (y ∷ ys)) (omega arith)

  here : (parts : List Part) (s : Settings) (word : Word) → allowed word ≡ true → gives list word ≡ true → has_value_ahead parts ≡ true
      → IfOk (settings_from now text c (with_word s word) parts) (λ _. IsSome (Some parts))
  here [] s word may gives ahead = absurd cc
  here (Parameter token ∷ parts) s word may gives ahead = absurd cc
  here (Qualifier w place ∷ parts) s word may gives ahead = absurd cc
  here (Value token ∷ parts) s word may gives ahead =
      mapped (is_some (read token) ≡ true) (IsSome (Some (Value token ∷ parts))) (settings_from now text c (with_word s word) (Value token ∷ parts))
      (one_read (read token) (filter_map read (values_ahead parts))) (reads s word token parts may gives)
  here (KeyValue token ∷ parts) s word may gives ahead = absurd cc

  or_here : (is : Bool) (parts : List Part) (later : Option (List Part)) (r : Result Settings Fault) → IfOk r (λ _. IsSome later) → (is ≡ true → IfOk r (λ _. IsSome (Some parts)))
      → IfOk r (λ _. IsSome (option_or later (cond is (Some parts) None)))
  or_here is parts later (Err f) after first = tt
  or_here is parts (Some behind) (Ok s) after first = after
  or_here true parts None (Ok s) after first = first refl
  or_here false parts None (Ok s) after first = tt

  or_none : (later : Option (List Part)) (given : Result Settings Fault) (go_on : Settings → Result Settings Fault) → ((t : Settings) → IfOk (go_on t) (λ _. IsSome later))
      → IfOk (on_settings given go_on) (λ _. IsSome (option_or later None))
  or_none None given go_on after = anyway (Unit {0}) (on_settings given go_on) tt
  or_none (Some behind) (Ok t) go_on after = after t
  or_none (Some behind) (Err f) go_on after = tt

  first_from : (parts : List Part) (s : Settings) → AreLawful text allowed needs parts → IfOk (settings_from now text c s parts) (λ _. IsSome (behind_last list parts))
  first_from [] s all = tt
  first_from (Parameter token ∷ parts) s all =
      or_none (behind_last list parts) (with_parameter text c s token) (λ t. settings_from now text c t parts) (λ t. first_from parts t all)
  first_from (Qualifier word place ∷ parts) s all =
      or_here (gives list word) parts (behind_last list parts) (settings_from now text c (with_word s word) parts) (first_from parts (with_word s word) all.2)
      (λ is. here parts s word all.0 is (all.1 (wants word all.0 is)))
  first_from (Value token ∷ parts) s all =
      or_none (behind_last list parts) (with_value_of now text c s token parts) (λ t. settings_from now text c t parts) (λ t. first_from parts t all.1)
  first_from (KeyValue token ∷ parts) s all =
      or_none (behind_last list parts) (Ok s) (λ t. settings_from now text c t parts) (λ t. first_from parts t all)

  in_list : (behind : Option (List Part)) → IsSome behind → IfSome (option_map (filter_map read) (option_map values_ahead behind)) (λ ys. nat_lt 0 (length ys) ≡ true)
  in_list None some = tt
  in_list (Some parts) some = some

  -- the list that is given has a value
  pub list_has_some : (parts : List Part) (s : Settings) → AreLawful text allowed needs parts
      → IfOk (settings_from now text c s parts) (λ _. IfSome (option_map (filter_map read) (option_map values_ahead (behind_last list parts))) (λ ys. nat_lt 0 (length ys) ≡ true))
  list_has_some parts s all = mapped _ _ (settings_from now text c s parts) (in_list (behind_last list parts)) (first_from parts s all)
