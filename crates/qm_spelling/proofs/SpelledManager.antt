-- START/QUEUE/MANAGER.
use Rattle.std.proofs.Common.{◌≡◌, ℕ, List, [], ◌∷◌, ◌++◌, length, map, codes, IfSome, Option, None, Some, Bool, true, false, not, if◌then◌else◌, refl, ap, subst, ◌∙◌, lit<, option_map, filter_map}
use Rattle.std.specs.List.{list_all, cons_option}
use Rattle.std.specs.Option.{option_map_or, option_or}
use Rattle.std.proofs.lemmas.Slice.Eq.{bytes_eq-Decides}
use Rattle.qm_model.specs.Common.{is_name_byte, Input, TakeManager}
use Rattle.qm_commands.specs.declared.rules.Takes.TheVariants as takes
use Rattle.qm_commands.specs.declared.table.Command.TheVariants as command
use Rattle.qm_commands.specs.declared.table.Row.{Row}
use Rattle.qm_commands.specs.declared.table.Verb.TheVariants as verb
use Rattle.qm_commands.specs.declared.word.Word.TheVariants as words
use Rattle.qm_commands.specs.Table.{row}
use Rattle.qm_dcl.specs.declared.lists.ListOf.TheVariants.{Nodes}
use Rattle.qm_dcl.specs.declared.lists.Lists.{Lists}
use Rattle.qm_dcl.specs.declared.settings.Settings.{Settings}
use Rattle.qm_dcl.specs.Given.{with_word, nodes_begun, node_given}
use Rattle.qm_dcl.specs.Settings.{nothing_given, lists_nodes}
use Rattle.qm_dcl.specs.Values.{says_all, is_node_name, node_said}
use Rattle.qm_sayable.specs.Commands.{are_nodes}
use Rattle.qm_spelling.specs.Commands.{nodes_text}
use Rattle.qm_spelling.specs.Lawful.{IsName, AreNames}
use Rattle.qm_sayable.specs.Values.{fits_list}
use Rattle.qm_spelling.specs.ReadBack.{ReadsBack}
use Rattle.qm_spelling.proofs.SpelledPieces.{Piece}
use Rattle.qm_spelling.proofs.SpelledReading.{Spoken, spoken, items_spoken, plain}
use Rattle.qm_spelling.proofs.SpelledFinding.{Makes}
use Rattle.qm_spelling.proofs.SpelledSettings.{inner_of, is_ahead, value_by}
use Rattle.qm_spelling.proofs.SpelledLists.{texts_of, lists_by, nodes_by}
use Rattle.qm_spelling.proofs.SpelledCommand.{Asks, AskFor, one_asks, reads_back}
use Rattle.qm_spelling.proofs.SpelledTails.{one, item, words_list, pieces_text, valued_text, list_text_is}
use Rattle.qm_spelling.proofs.SpelledWords.{name_word, node_name_said}
use Rattle.qm_spelling.proofs.SpelledAsking.{names_words, items_are, list_taken, list_is}
use Rattle.qm_spelling.proofs.SpelledTruth.{and_left, and_right}

abbrev manager_row : Row
manager_row = row command.StartManager (Some words.Queue) (Some words.Manager) 0 0

abbrev node_pieces : Option (List (List ℕ)) → List Piece
node_pieces None = []
node_pieces (Some []) = Piece.Valued words.On (one (codes "*")) ∷ []
node_pieces (Some (first ∷ others)) = Piece.Valued words.On (words_list first others) ∷ []

abbrev manager_pieces : Option (List (List ℕ)) → List Piece
manager_pieces on = Piece.Marked words.Queue ∷ Piece.Marked words.Manager ∷ node_pieces on

nodes_are : (on : Option (List (List ℕ))) → nodes_text on ≡ pieces_text (node_pieces on)
nodes_are None = refl
nodes_are (Some []) = refl
nodes_are (Some (first ∷ others)) = valued_text words.On (words_list first others) _ (list_text_is first others)

manager_makes : (on : Option (List (List ℕ))) → IfSome on AreNames → (is : (names : List (List ℕ)) → on ≡ Some names → fits_list (length names) ≡ true) → Makes verb.Start manager_row (manager_pieces on)
manager_makes None lawful fits = record {
  lexed = (tt, (tt, tt));
  leads = (refl, (refl, tt));
  found = refl;
  allowed = (takes.Nothing, refl, refl, (takes.Nothing, refl, refl, (refl, refl)));
  agrees = refl;
}
manager_makes (Some []) lawful fits = record {
  lexed = (tt, (tt, (((lit< tt, refl), tt), tt)));
  leads = (refl, (refl, tt));
  found = refl;
  allowed = (takes.Nothing, refl, refl, (takes.Nothing, refl, refl, (takes.List, refl, (lit< tt, tt), (refl, refl))));
  agrees = refl;
}
manager_makes (Some (first ∷ others)) lawful fits = record {
  lexed = (tt, (tt, (((name_word first lawful.0, tt), items_are others (names_words others lawful.1)), tt)));
  leads = (refl, (refl, tt));
  found = refl;
  allowed = (takes.Nothing, refl, refl, (takes.Nothing, refl, refl, (takes.List, refl, list_taken first others (fits (first ∷ others) refl), (refl, refl))));
  agrees = refl;
}

-- a name isn't *
not_all : (name : List ℕ) → IsName name → (b : Bool) → says_all name ≡ b → b ≡ false
not_all name lawful false h = refl
not_all name lawful true h =
    let star : name ≡ codes "*" = (bytes_eq-Decides name (codes "*")).0 h in
    let lawless : list_all is_name_byte (codes "*") ≡ true = subst (λ (l : List ℕ). list_all is_name_byte l ≡ true) star lawful.lawful in
    absurd cc

module _ (user : List ℕ) (now : ℕ) (lists : Lists) (nodes : Option (List (List ℕ))) (input : Input) where
  abbrev All_ask : List Piece → Type 0
  All_ask h = (s : Settings) → s.word ≡ Some words.On → Asks user now command.StartManager lists nodes input s (spoken h)

  node_asks : (name : List ℕ) (s : Settings) (ps : List Spoken) → IsName name → is_node_name name ≡ true → s.word ≡ Some words.On
      → Asks user now command.StartManager lists nodes input (record s { has_node = true }) ps → Asks user now command.StartManager lists nodes input s (Spoken.SaysValue (plain name) ∷ ps)
  node_asks name s ps lawful short word asks =
      one_asks s (record s { has_node = true }) (Spoken.SaysValue (plain name)) ps
      (ap (λ w. if lists_nodes command.StartManager w then node_given s (not (is_ahead ps)) name else value_by now command.StartManager s w (plain name) (inner_of ps)) word
      ∙ ap (λ (b : Bool). if b then nodes_begun s (not (is_ahead ps)) else option_map (λ node. record s { has_node = true }) (node_said name)) (not_all name lawful (says_all name) refl)
      ∙ ap (option_map (λ node. record s { has_node = true })) (node_name_said name lawful short))
      asks

  names_ask : (names : List (List ℕ)) (s : Settings) (h : List Piece) → AreNames names → list_all is_node_name names ≡ true → s.word ≡ Some words.On
      → All_ask h → Asks user now command.StartManager lists nodes input s (items_spoken (map item names) (spoken h))
  names_ask [] s h lawful short word asks = asks s word
  names_ask (name ∷ names) s h lawful short word asks =
      node_asks name s (items_spoken (map item names) (spoken h)) lawful.0 (and_left (is_node_name name) _ short) word
      (names_ask names (record s { has_node = true }) h lawful.1 (and_right (is_node_name name) _ short) word asks)

-- two names in front begin no list
none_in_front : (o : Option (List (List ℕ))) → option_or (option_or o None) None ≡ o
none_in_front None = refl
none_in_front (Some texts) = refl

-- names are the nodes that they name
all_nodes : (names : List (List ℕ)) → AreNames names → list_all is_node_name names ≡ true → filter_map node_said names ≡ names
all_nodes [] lawful short = refl
all_nodes (name ∷ names) lawful short =
    ap (λ (o : Option (List ℕ)). cons_option o (filter_map node_said names)) (node_name_said name lawful.0 (and_left (is_node_name name) _ short))
    ∙ ap (λ (l : List (List ℕ)). name ∷ l) (all_nodes names lawful.1 (and_right (is_node_name name) _ short))

manager_asks : (user : List ℕ) (on : Option (List (List ℕ))) (now : ℕ) → IfSome on AreNames → ((names : List (List ℕ)) → on ≡ Some names → list_all is_node_name names ≡ true)
    → AskFor user now command.StartManager (TakeManager on) (manager_pieces on)
manager_asks user None now lawful short =
    let s : Settings = with_word (nothing_given command.StartManager) words.Queue in
    one_asks (nothing_given command.StartManager) s (Spoken.SaysQualifier words.Queue) (Spoken.SaysQualifier words.Manager ∷ []) refl
    (one_asks s (with_word s words.Manager) (Spoken.SaysQualifier words.Manager) [] refl (record { is = refl }))
manager_asks user (Some []) now lawful short =
    let s : Settings = with_word (nothing_given command.StartManager) words.Queue in
    let t : Settings = with_word s words.Manager in
    let u : Settings = with_word t words.On in
    one_asks (nothing_given command.StartManager) s (Spoken.SaysQualifier words.Queue) (Spoken.SaysQualifier words.Manager ∷ Spoken.SaysQualifier words.On ∷ Spoken.SaysValue (plain (codes "*")) ∷ []) refl
    (one_asks s t (Spoken.SaysQualifier words.Manager) (Spoken.SaysQualifier words.On ∷ Spoken.SaysValue (plain (codes "*")) ∷ []) refl
    (one_asks t u (Spoken.SaysQualifier words.On) (Spoken.SaysValue (plain (codes "*")) ∷ []) refl
    (one_asks u (record u { has_node = true }) (Spoken.SaysValue (plain (codes "*"))) [] refl (record { is = refl }))))
manager_asks user (Some (first ∷ others)) now lawful short =
    let s : Settings = with_word (nothing_given command.StartManager) words.Queue in
    let t : Settings = with_word s words.Manager in
    let u : Settings = with_word t words.On in
    let names : List (List ℕ) = first ∷ others in
    let values : List Spoken = items_spoken (map item names) [] in
    let lists : Lists = lists_by (spoken (manager_pieces (Some names))) in
    let nodes : Option (List (List ℕ)) = nodes_by (spoken (manager_pieces (Some names))) in
    let given : nodes ≡ Some names =
    ap (option_map (filter_map node_said)) (none_in_front (texts_of Nodes (spoken (node_pieces (Some names)))) ∙ list_is Nodes words.On first others [] refl refl)
    ∙ ap (λ (l : List (List ℕ)). Some l) (all_nodes names lawful (short names refl)) in
    one_asks (nothing_given command.StartManager) s (Spoken.SaysQualifier words.Queue) (Spoken.SaysQualifier words.Manager ∷ Spoken.SaysQualifier words.On ∷ values) refl
    (one_asks s t (Spoken.SaysQualifier words.Manager) (Spoken.SaysQualifier words.On ∷ values) refl
    (one_asks t u (Spoken.SaysQualifier words.On) values refl
    (names_ask user now lists nodes (TakeManager (Some names)) names u [] lawful (short names refl) refl
    (λ v word. record { is = ap (λ (o : Option (List (List ℕ))). Some (TakeManager o)) given }))))

some_of : (a : List (List ℕ)) (b : List (List ℕ)) (P : List (List ℕ) → Bool) → P a ≡ true → Some a ≡ Some b → P b ≡ true
some_of a b P is same = let e : a ≡ b = cc in subst (λ l. P l ≡ true) e is

pub manager_start_back : (user : List ℕ) (on : Option (List (List ℕ))) → IfSome on AreNames → ReadsBack user (TakeManager on)
manager_start_back user on lawful =
    reads_back verb.Start manager_row (manager_pieces on) user (TakeManager on)
    (ap (λ (l : List ℕ). codes "START/QUEUE/MANAGER" ++ l) (nodes_are on))
    (λ is. (manager_makes on lawful (λ names same. fits on is names same), λ now. manager_asks user on now lawful (λ names same. short on is names same)))
  where
    fits : (on : Option (List (List ℕ))) → option_map_or are_nodes on true ≡ true → (names : List (List ℕ)) → on ≡ Some names → fits_list (length names) ≡ true
    fits None is names same = absurd cc
    fits (Some nodes) is names same = some_of nodes names (λ l. fits_list (length l)) (and_left (fits_list (length nodes)) _ is) same

    short : (on : Option (List (List ℕ))) → option_map_or are_nodes on true ≡ true → (names : List (List ℕ)) → on ≡ Some names → list_all is_node_name names ≡ true
    short None is names same = absurd cc
    short (Some nodes) is names same = some_of nodes names (list_all is_node_name) (and_right (fits_list (length nodes)) _ is) same
