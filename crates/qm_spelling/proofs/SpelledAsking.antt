-- What values give, one behind the other, and which lists they are.
use Rattle.std.proofs.Common.{◌≡◌, ℕ, List, [], ◌∷◌, ◌++◌, length, map, decimal, Option, None, Some, Bool, true, false, not, ◌&&◌, if◌then◌else◌, nat_lt, refl, ap, ◌∙◌, arith, option_map, filter_map, leb-true}
use Rattle.std.specs.List.{list_all, cons_option}
use Rattle.std.specs.Option.{option_or}
use Rattle.std.specs.Char.{is_ascii_digit}
use Rattle.std.proofs.lemmas.List.{length-map}
use Rattle.qm_model.specs.Common.{Input, NameOrNumber, Name, Number, is_short}
use Rattle.qm_commands.specs.declared.rules.Takes.{Takes}
use Rattle.qm_commands.specs.declared.rules.Takes.TheVariants as takes
use Rattle.qm_commands.specs.declared.table.Command.{Command}
use Rattle.qm_commands.specs.declared.word.Word.{Word}
use Rattle.qm_dcl.specs.declared.lists.ListOf.{ListOf}
use Rattle.qm_dcl.specs.declared.lists.Lists.{Lists}
use Rattle.qm_dcl.specs.declared.settings.Settings.{Settings}
use Rattle.qm_dcl.specs.Given.{with_word, node_given}
use Rattle.qm_dcl.specs.Lists.{gives}
use Rattle.qm_dcl.specs.Settings.{lists_nodes}
use Rattle.qm_dcl.specs.Values.{number_to, short_name_said, reference_said}
use Rattle.qm_spelling.specs.Lawful.{IsReference, AreReferences, AreNames}
use Rattle.qm_sayable.specs.Values.{is_reference, fits_list}
use Rattle.qm_spelling.specs.Pieces.{reference_text}
use Rattle.qm_spelling.proofs.Values.{decimal_is_digits, number_reads_back}
use Rattle.qm_spelling.proofs.SpelledPieces.{Said, Item, Value, Piece, IsWord, AreItems}
use Rattle.qm_spelling.proofs.SpelledReading.{Spoken, spoken, inner_spoken, items_spoken, value_spoken, plain, TakesOthers, TakesValue}
use Rattle.qm_spelling.proofs.SpelledSettings.{inner_of, is_ahead, value_by}
use Rattle.qm_spelling.proofs.SpelledLists.{texts_ahead, texts_of}
use Rattle.qm_spelling.proofs.SpelledCommand.{Asks, one_asks}
use Rattle.qm_spelling.proofs.SpelledTails.{item, words_list}
use Rattle.qm_spelling.proofs.SpelledWords.{name_word, number_word, short_said}
use Rattle.qm_spelling.proofs.SpelledTruth.{and_left, and_right}

-- ---- forms and characteristics as words

pub reference_word : (r : NameOrNumber) → IsReference r → IsWord (reference_text r)
reference_word (Name name) lawful = name_word name lawful
reference_word (Number n) lawful = number_word n (omega (arith, lawful))

not_digits : (digits some : Bool) → not digits ≡ true → (digits && some) ≡ false
not_digits true some h = absurd cc
not_digits false some h = refl

pub reference_is : (most : ℕ) (r : NameOrNumber) → IsReference r → is_reference most r ≡ true → reference_said most (reference_text r) ≡ Some r
reference_is most (Name name) lawful is =
    ap (λ (d : Bool). if d then option_map Number (number_to most name) else option_map Name (short_name_said name))
    (not_digits (list_all is_ascii_digit name) (nat_lt 0 (length name)) (and_right (is_short name) _ is))
    ∙ ap (option_map Name) (short_said name lawful (and_left (is_short name) _ is))
reference_is most (Number n) lawful is =
    ap (λ (d : Bool). if d then option_map Number (number_to most (decimal n)) else option_map Name (short_name_said (decimal n))) (decimal_is_digits n (omega (arith, lawful)))
    ∙ ap (option_map Number) (number_reads_back most n (leb-true n most is) (omega (arith, lawful)))

-- ---- lists of words

abbrev pub AreWords : List (List ℕ) → Type 0
AreWords [] = Unit {0}
AreWords (text ∷ texts) = IsWord text × AreWords texts

pub references_words : (rs : List NameOrNumber) → AreReferences rs → AreWords (map reference_text rs)
references_words [] lawful = tt
references_words (r ∷ rs) lawful = (reference_word r lawful.0, references_words rs lawful.1)

pub names_words : (names : List (List ℕ)) → AreNames names → AreWords names
names_words [] lawful = tt
names_words (name ∷ names) lawful = (name_word name lawful.0, names_words names lawful.1)

pub items_are : (texts : List (List ℕ)) → AreWords texts → AreItems (map item texts)
items_are [] are = tt
items_are (text ∷ texts) are = ((are.0, tt), items_are texts are.1)

others_take : (t : Takes) (texts : List (List ℕ)) → TakesOthers t (map item texts)
others_take t [] = tt
others_take t (text ∷ texts) = (tt, others_take t texts)

pub list_taken : (first : List ℕ) (others : List (List ℕ)) → fits_list (length (first ∷ others)) ≡ true → TakesValue takes.List (words_list first others)
list_taken first others fits = (omega (arith, leb-true (length (first ∷ others)) 65535 fits, length-map others item), tt, others_take takes.List others)

-- ---- values that are given

module _ (user : List ℕ) (now : ℕ) (c : Command) (lists : Lists) (nodes : Option (List (List ℕ))) (input : Input) (no_nodes : (word : Option Word) → lists_nodes c word ≡ false) where
  -- one more value
  pub value_asks : (s t : Settings) (said : Said) (ps : List Spoken) → value_by now c s s.word said (inner_of ps) ≡ Some t
      → Asks user now c lists nodes input t ps → Asks user now c lists nodes input s (Spoken.SaysValue said ∷ ps)
  value_asks s t said ps is asks =
      one_asks s t (Spoken.SaysValue said) ps
      (ap (λ (b : Bool). if b then node_given s (not (is_ahead ps)) said.text else value_by now c s s.word said (inner_of ps)) (no_nodes s.word) ∙ is) asks

  -- a qualifier and its value
  pub valued_asks : (s t : Settings) (word : Word) (said : Said) (ps : List Spoken) → value_by now c (with_word s word) (Some word) said (inner_of ps) ≡ Some t
      → Asks user now c lists nodes input t ps → Asks user now c lists nodes input s (Spoken.SaysQualifier word ∷ Spoken.SaysValue said ∷ ps)
  valued_asks s t word said ps is asks =
      one_asks s (with_word s word) (Spoken.SaysQualifier word) (Spoken.SaysValue said ∷ ps) refl (value_asks (with_word s word) t said ps is asks)

  -- each of these values can be read, and changes nothing
  abbrev pub AreRead : Settings → List (List ℕ) → Type 0
  AreRead s [] = Unit {0}
  AreRead s (text ∷ texts) = ((inner : Option Said) → value_by now c s s.word (plain text) inner ≡ Some s) × AreRead s texts

  pub values_ask : (s : Settings) (texts : List (List ℕ)) (ps : List Spoken) → AreRead s texts
      → Asks user now c lists nodes input s ps → Asks user now c lists nodes input s (items_spoken (map item texts) ps)
  values_ask s [] ps are asks = asks
  values_ask s (text ∷ texts) ps are asks =
      value_asks s s (plain text) (items_spoken (map item texts) ps) (are.0 (inner_of (items_spoken (map item texts) ps))) (values_ask s texts ps are.1 asks)

-- ---- lists that are given

pub none_ahead : (pieces : List Piece) → texts_ahead (spoken pieces) ≡ []
none_ahead [] = refl
none_ahead (Piece.Parameter text ∷ pieces) = refl
none_ahead (Piece.Marked word ∷ pieces) = refl
none_ahead (Piece.Valued word value ∷ pieces) = refl

all_ahead : (texts : List (List ℕ)) (pieces : List Piece) → texts_ahead (items_spoken (map item texts) (spoken pieces)) ≡ texts
all_ahead [] pieces = none_ahead pieces
all_ahead (text ∷ texts) pieces = ap (λ (l : List (List ℕ)). text ∷ l) (all_ahead texts pieces)

or_none : (o : Option (List (List ℕ))) → option_or o None ≡ o
or_none None = refl
or_none (Some texts) = refl

inner_quiet : (list : ListOf) (inner : Option Said) (ps : List Spoken) → texts_of list (inner_spoken inner ps) ≡ texts_of list ps
inner_quiet list None ps = refl
inner_quiet list (Some inner) ps = or_none (texts_of list ps)

item_quiet : (list : ListOf) (i : Item) (ps : List Spoken) → texts_of list (Spoken.SaysValue i.said ∷ inner_spoken i.inner ps) ≡ texts_of list ps
item_quiet list i ps = or_none (texts_of list (inner_spoken i.inner ps)) ∙ inner_quiet list i.inner ps

items_quiet : (list : ListOf) (items : List Item) (ps : List Spoken) → texts_of list (items_spoken items ps) ≡ texts_of list ps
items_quiet list [] ps = refl
items_quiet list (i ∷ items) ps = item_quiet list i (items_spoken items ps) ∙ items_quiet list items ps

value_quiet : (list : ListOf) (value : Value) (ps : List Spoken) → texts_of list (value_spoken value ps) ≡ texts_of list ps
value_quiet list (Value.One i) ps = item_quiet list i ps
value_quiet list (Value.Many first others) ps = item_quiet list first (items_spoken others ps) ∙ items_quiet list others ps

-- none of these begins the list
abbrev pub IsQuiet : ListOf → Piece → Type 0
IsQuiet list (Piece.Parameter text) = Unit {0}
IsQuiet list (Piece.Marked word) = gives list word ≡ false
IsQuiet list (Piece.Valued word value) = gives list word ≡ false

abbrev pub AreQuiet : ListOf → List Piece → Type 0
AreQuiet list [] = Unit {0}
AreQuiet list (piece ∷ pieces) = IsQuiet list piece × AreQuiet list pieces

quiet_name : (list : ListOf) (word : Word) (ps qs : List Spoken) → gives list word ≡ false → texts_of list ps ≡ texts_of list qs → texts_of list (Spoken.SaysQualifier word ∷ ps) ≡ texts_of list qs
quiet_name list word ps qs quiet same =
    ap (λ (b : Bool). option_or (texts_of list ps) (if b then Some (texts_ahead ps) else None)) quiet ∙ or_none (texts_of list ps) ∙ same

-- they leave it to what stands behind them
pub quiet : (list : ListOf) (g h : List Piece) → AreQuiet list g → texts_of list (spoken (g ++ h)) ≡ texts_of list (spoken h)
quiet list [] h are = refl
quiet list (Piece.Parameter text ∷ g) h are = or_none (texts_of list (spoken (g ++ h))) ∙ quiet list g h are.1
quiet list (Piece.Marked word ∷ g) h are = quiet_name list word (spoken (g ++ h)) (spoken h) are.0 (quiet list g h are.1)
quiet list (Piece.Valued word value ∷ g) h are =
    quiet_name list word (value_spoken value (spoken (g ++ h))) (spoken h) are.0 (value_quiet list value (spoken (g ++ h)) ∙ quiet list g h are.1)

-- the list that counts, where no other stands behind it
pub list_is : (list : ListOf) (word : Word) (first : List ℕ) (others : List (List ℕ)) (h : List Piece) → gives list word ≡ true → texts_of list (spoken h) ≡ None
    → texts_of list (spoken (Piece.Valued word (words_list first others) ∷ h)) ≡ Some (first ∷ others)
list_is list word first others h begins none =
    ap (λ (b : Bool). option_or (texts_of list (value_spoken (words_list first others) (spoken h))) (if b then Some (texts_ahead (value_spoken (words_list first others) (spoken h))) else None)) begins
    ∙ ap (λ (o : Option (List (List ℕ))). option_or o (Some (first ∷ texts_ahead (items_spoken (map item others) (spoken h)))))
    (value_quiet list (words_list first others) (spoken h) ∙ none)
    ∙ ap (λ (l : List (List ℕ)). Some (first ∷ l)) (all_ahead others h)

abbrev pub AllAre : {X : Type 0} → (X → Type 0) → List X → Type 0
AllAre P [] = Unit {0}
AllAre P (x ∷ xs) = P x × AllAre P xs

-- values that can all be read are the list of what they say
pub all_read : {X : Type 0} (f : List ℕ → Option X) (g : X → List ℕ) (P : X → Type 0) → ((x : X) → P x → f (g x) ≡ Some x) → (xs : List X) → AllAre P xs → filter_map f (map g xs) ≡ xs
all_read f g P read [] all = refl
all_read f g P read (x ∷ xs) all = ap (λ o. cons_option o (filter_map f (map g xs))) (read x all.0) ∙ ap (λ l. x ∷ l) (all_read f g P read xs all.1)
