-- INITIALIZE/QUEUE.
use Rattle.std.proofs.Common.{◌≡◌, ◌⊎◌, inl, inr, ◌<◌, ◌+◌, ◌-◌, ℕ, List, [], ◌∷◌, ◌++◌, length, map, take, drop, codes, IfSome, Option, None, Some, is_some, Bool, true, false, cond, not, ◌&&◌, ◌||◌, ◌==◌, if◌then◌else◌, nat_lt, refl, sym, ap, subst, ◌∙◌, arith, append_assoc, length-append, option_map, option_and_then, filter_map, unwrap_or, take_at, drop_at}
use Rattle.std.specs.List.{list_all, cons_option}
use Rattle.std.specs.Option.{option_map_or, option_or}
use Rattle.std.proofs.lemmas.Bool.Decides.{nat_tests}
use Rattle.std.proofs.lemmas.List.Folds.{list_all-append}
use Rattle.qm_model.specs.Common.{is_name_byte, Input, Ask, NewQueue, QueueKind, NameOrNumber, InitializeQueue, is_short}
use Rattle.qm_kinds.specs.declared.queue.QueueKind.TheVariants.{Batch, Print, GenericBatch, GenericPrint}
use Rattle.qm_commands.specs.declared.rules.Takes.{Takes}
use Rattle.qm_commands.specs.declared.rules.Takes.TheVariants as takes
use Rattle.qm_commands.specs.declared.table.Command.TheVariants as command
use Rattle.qm_commands.specs.declared.table.Row.{Row}
use Rattle.qm_commands.specs.declared.table.Verb.TheVariants as verb
use Rattle.qm_commands.specs.declared.word.Word.{Word}
use Rattle.qm_commands.specs.declared.word.Word.TheVariants as words
use Rattle.qm_commands.specs.Rules.{queue_settings}
use Rattle.qm_commands.specs.Table.{row}
use Rattle.qm_dcl.specs.declared.lists.ListOf.{ListOf}
use Rattle.qm_dcl.specs.declared.lists.ListOf.TheVariants.{Characteristics, Targets}
use Rattle.qm_dcl.specs.declared.lists.Lists.{Lists}
use Rattle.qm_dcl.specs.declared.settings.QueueSettings.{QueueSettings}
use Rattle.qm_dcl.specs.declared.settings.Settings.{Settings}
use Rattle.qm_dcl.specs.declared.value.Location.{Location}
use Rattle.qm_dcl.specs.Given.{with_word, with_queue_settings}
use Rattle.qm_dcl.specs.Lists.{gives}
use Rattle.qm_dcl.specs.Queues.{kind_of, new_queue_of, queue_request}
use Rattle.qm_dcl.specs.Settings.{nothing_given}
use Rattle.qm_dcl.specs.Values.{is_node_name, short_name_said, characteristic_said, behind_colon, before_colon, device_said, located, location_cut_at, location_said}
use Rattle.qm_spelling.specs.Lawful.{IsName, AreNames, IsNewQueue}
use Rattle.qm_sayable.specs.Values.{fits_list}
use Rattle.qm_spelling.specs.Pieces.{marked}
use Rattle.qm_sayable.specs.Queues.{are_queue_settings, is_generic, is_placed, is_passing_on, is_new_queue}
use Rattle.qm_spelling.specs.Queues.{is_for_batch, targets_text, device_text, location_text, queue_settings_text, new_queue_text}
use Rattle.qm_spelling.specs.ReadBack.{ReadsBack}
use Rattle.qm_spelling.proofs.SpelledLexemes.{is_word_byte, text_of}
use Rattle.qm_spelling.proofs.SpelledPieces.{Piece, IsWord, ArePieces, command_lexemes}
use Rattle.qm_spelling.proofs.SpelledReading.{Spoken, spoken, items_spoken, plain}
use Rattle.qm_spelling.proofs.SpelledFinding.{counts_in, Makes}
use Rattle.qm_spelling.proofs.SpelledSettings.{value_by}
use Rattle.qm_spelling.proofs.SpelledLists.{texts_of, lists_by, nodes_by}
use Rattle.qm_spelling.proofs.SpelledCommand.{Asks, AskFor, one_asks, reads_back}
use Rattle.qm_spelling.proofs.SpelledTails.{mark, one, item, words_list, pieces_text, both_texts, mark_text, valued_text, one_text, list_text_is, In, AreGiven, AreItself, leave, given_append, given_behind, pieces_append, given_allows, given_leaves}
use Rattle.qm_spelling.proofs.SpelledWords.{name_word, short_said, node_name_said}
use Rattle.qm_spelling.proofs.SpelledAsking.{names_words, items_are, list_taken, valued_asks, AreRead, values_ask, AreQuiet, quiet, list_is}
use Rattle.qm_spelling.proofs.SpelledFiles.{found_behind}
use Rattle.qm_spelling.proofs.SpelledQueueSettings.{settings_pieces, settings_text, settings_given, settings_words}
use Rattle.qm_spelling.proofs.SpelledQueueAsking.{IsOfQueue, Stands, queue_with, in_order, settings_ask, set_characteristics, no_targets, same_order}
use Rattle.qm_spelling.proofs.SpelledTruth.{and_left, and_right}

-- ---- where a queue stands

not_colon : (b : ℕ) → is_name_byte b ≡ true → (b == 58) ≡ false
not_colon b h = grind (arith, nat_tests)

-- NODE::, or NODE::DEVICE:
abbrev location_word : List ℕ → Option (List ℕ) → List ℕ
location_word node device = node ++ 58 ∷ 58 ∷ device_text device

behind_place : (node rest : List ℕ) → drop (length node + 1) (node ++ 58 ∷ rest) ≡ rest
behind_place node rest =
    ap (drop (length node + 1)) (sym (append_assoc node (58 ∷ []) rest)) ∙ drop_at (node ++ 58 ∷ []) rest (length node + 1) (length-append node (58 ∷ []) ∙ omega arith)

before : (name : List ℕ) → before_colon (name ++ 58 ∷ []) ≡ Some name
before name =
    let size : length (name ++ 58 ∷ []) - 1 ≡ length name = omega (arith, length-append name (58 ∷ [])) in
    ap (λ (n : ℕ). option_map (λ rest. take n (name ++ 58 ∷ [])) (behind_colon (drop n (name ++ 58 ∷ [])))) size
    ∙ ap (λ (l : List ℕ). option_map (λ rest. take (length name) (name ++ 58 ∷ [])) (behind_colon l)) (drop_at name (58 ∷ []) (length name) refl)
    ∙ ap (λ (l : List ℕ). Some l) (take_at name (58 ∷ []) (length name) refl)

of_some : (text : List ℕ) → 0 < length text → device_said text ≡ option_map Some (option_and_then short_name_said (before_colon text))
of_some [] some = absurd (omega (arith, some))
of_some (b ∷ rest) some = refl

device_is : (device : Option (List ℕ)) → IfSome device IsName → option_map_or is_short device true ≡ true → device_said (device_text device) ≡ Some device
device_is None lawful short = refl
device_is (Some name) lawful short =
    of_some (name ++ 58 ∷ []) (omega (arith, length-append name (58 ∷ [])))
    ∙ ap (λ (o : Option (List ℕ)). option_map Some (option_and_then short_name_said o)) (before name)
    ∙ ap (option_map Some) (short_said name lawful short)

location_is : (node : List ℕ) (device : Option (List ℕ)) → IsName node → is_node_name node ≡ true → IfSome device IsName → option_map_or is_short device true ≡ true
    → location_said (location_word node device) ≡ Some (record { node = node; device = device })
location_is node device lawful short of_device short_device =
    ap (λ (o : Option ℕ). location_cut_at o (location_word node device)) (found_behind 58 not_colon refl node (58 ∷ device_text device) lawful.lawful)
    ∙ ap (λ (n : List ℕ). option_and_then (located n) (option_and_then device_said (behind_colon (drop (length node + 1) (location_word node device))))) (take_at node (58 ∷ 58 ∷ device_text device) (length node) refl)
    ∙ ap (λ (l : List ℕ). option_and_then (located node) (option_and_then device_said (behind_colon l))) (behind_place node (58 ∷ device_text device))
    ∙ ap (option_and_then (located node)) (device_is device of_device short_device)
    ∙ ap (option_map (λ n. record { node = n; device = device })) (node_name_said node lawful short)

device_bytes : (device : Option (List ℕ)) → IfSome device IsName → list_all is_word_byte (device_text device) ≡ true
device_bytes None lawful = refl
device_bytes (Some name) lawful = list_all-append is_word_byte name (58 ∷ []) ∙ rw (name_word name lawful).1 refl

location_is_word : (node : List ℕ) (device : Option (List ℕ)) → IsName node → IfSome device IsName → IsWord (location_word node device)
location_is_word node device lawful of_device =
    (omega (arith, length-append node (58 ∷ 58 ∷ device_text device)), list_all-append is_word_byte node (58 ∷ 58 ∷ device_text device) ∙ rw ((name_word node lawful).1, device_bytes device of_device) refl)

-- ---- the pieces in front of what is set

abbrev location_pieces : Option (List ℕ) → Option (List ℕ) → List Piece
location_pieces None device = []
location_pieces (Some node) device = Piece.Valued words.On (one (location_word node device)) ∷ []

abbrev targets_pieces : List (List ℕ) → List Piece
targets_pieces [] = []
targets_pieces (first ∷ others) = Piece.Valued words.Generic (words_list first others) ∷ []

pub targets_are : (targets : List (List ℕ)) → targets_text targets ≡ pieces_text (targets_pieces targets)
targets_are [] = refl
targets_are (first ∷ others) = valued_text words.Generic (words_list first others) _ (list_text_is first others)

location_text_is : (node device : Option (List ℕ)) → location_text node device ≡ pieces_text (location_pieces node device)
location_text_is None device = refl
location_text_is (Some node) device =
    valued_text words.On (one (location_word node device)) (node ++ codes "::" ++ device_text device) (append_assoc node (codes "::") (device_text device) ∙ one_text (location_word node device))

-- the front, and what is set behind it
abbrev front_pieces : NewQueue → List Piece
front_pieces new = mark words.Batch (is_for_batch new.kind) ++ targets_pieces new.targets ++ location_pieces new.node new.device ++ mark words.Start new.start

abbrev tail_pieces : NewQueue → List Piece
tail_pieces new = front_pieces new ++ settings_pieces new.change

abbrev all_pieces : NewQueue → List Piece
all_pieces new = Piece.Marked words.Queue ∷ Piece.Parameter new.name ∷ tail_pieces new

regroup : (name m t l s g : List ℕ) → name ++ m ++ t ++ l ++ s ++ g ≡ name ++ ((m ++ t ++ l ++ s) ++ g)
regroup name m t l s g = simp append_assoc

new_is : (new : NewQueue) → new_queue_text new ≡ text_of (command_lexemes verb.Initialize (all_pieces new))
new_is new =
    let batch = mark words.Batch (is_for_batch new.kind) in let targets = targets_pieces new.targets in let location = location_pieces new.node new.device in let start = mark words.Start new.start in
    ap (λ (l : List ℕ). codes "INITIALIZE/QUEUE " ++ l)
    (regroup new.name (marked words.Batch (is_for_batch new.kind)) (targets_text new.targets) (location_text new.node new.device) (marked words.Start new.start) (queue_settings_text new.change)
    ∙ ap (λ (l : List ℕ). new.name ++ l)
    (both_texts (front_pieces new) (settings_pieces new.change) _ _
    (both_texts (batch ++ targets ++ location) start _ _
    (both_texts (batch ++ targets) location _ _
    (both_texts batch targets _ _ (mark_text words.Batch (is_for_batch new.kind)) (targets_are new.targets)) (location_text_is new.node new.device)) (mark_text words.Start new.start))
    (settings_text new.change)))

-- ---- the tables

-- of an execution queue: without /GENERIC
abbrev placed_front : List (Word × Takes)
placed_front = (words.Batch, takes.Nothing) ∷ (words.On, takes.One) ∷ (words.Start, takes.Nothing) ∷ []

-- of a generic queue: without /ON
abbrev generic_front : List (Word × Takes)
generic_front = (words.Batch, takes.Nothing) ∷ (words.Generic, takes.List) ∷ (words.Start, takes.Nothing) ∷ []

abbrev new_row : Row
new_row = row command.InitializeQueue (Some words.Queue) None 1 1

placed_itself : AreItself verb.Initialize new_row (placed_front ++ queue_settings)
placed_itself = (refl, (refl, (refl, (refl, (refl, (refl, (refl, (refl, (refl, (refl, (refl, (refl, tt))))))))))))

generic_itself : AreItself verb.Initialize new_row (generic_front ++ queue_settings)
generic_itself = (refl, (refl, (refl, (refl, (refl, (refl, (refl, (refl, (refl, (refl, (refl, (refl, tt))))))))))))

mark_given_in : (table : List (Word × Takes)) (word : Word) (b : Bool) → In (word, takes.Nothing) table → AreGiven table (mark word b)
mark_given_in table word true here = ((takes.Nothing, here, refl), tt)
mark_given_in table word false here = tt

mark_has_words : (word : Word) (b : Bool) → ArePieces (mark word b)
mark_has_words word true = (tt, tt)
mark_has_words word false = tt

location_given : (node device : Option (List ℕ)) → AreGiven (placed_front ++ queue_settings) (location_pieces node device)
location_given None device = tt
location_given (Some node) device = ((takes.One, inr (inl refl), (omega arith, tt)), tt)

targets_given : (targets : List (List ℕ)) → fits_list (length targets) ≡ true → AreGiven (generic_front ++ queue_settings) (targets_pieces targets)
targets_given [] fits = tt
targets_given (first ∷ others) fits = ((takes.List, inr (inl refl), list_taken first others fits), tt)

targets_words : (targets : List (List ℕ)) → AreNames targets → ArePieces (targets_pieces targets)
targets_words [] lawful = tt
targets_words (first ∷ others) lawful = (((name_word first lawful.0, tt), items_are others (names_words others lawful.1)), tt)

location_words : (node device : Option (List ℕ)) → IfSome node IsName → IfSome device IsName → ArePieces (location_pieces node device)
location_words None device of_node of_device = tt
location_words (Some node) device of_node of_device = ((location_is_word node device of_node of_device, tt), tt)

front_given : (table : List (Word × Takes)) (new : NewQueue) → In (words.Batch, takes.Nothing) table → In (words.Start, takes.Nothing) table
    → AreGiven table (targets_pieces new.targets) → AreGiven table (location_pieces new.node new.device) → AreGiven table (settings_pieces new.change) → AreGiven table (tail_pieces new)
front_given table new batch start targets location settings =
    given_append table (front_pieces new) (settings_pieces new.change)
    (given_append table (mark words.Batch (is_for_batch new.kind) ++ targets_pieces new.targets ++ location_pieces new.node new.device) (mark words.Start new.start)
    (given_append table (mark words.Batch (is_for_batch new.kind) ++ targets_pieces new.targets) (location_pieces new.node new.device)
    (given_append table (mark words.Batch (is_for_batch new.kind)) (targets_pieces new.targets) (mark_given_in table words.Batch (is_for_batch new.kind) batch) targets) location)
    (mark_given_in table words.Start new.start start)) settings

tail_words : (new : NewQueue) → IsNewQueue new → ArePieces (tail_pieces new)
tail_words new lawful =
    pieces_append (front_pieces new) (settings_pieces new.change)
    (pieces_append (mark words.Batch (is_for_batch new.kind) ++ targets_pieces new.targets ++ location_pieces new.node new.device) (mark words.Start new.start)
    (pieces_append (mark words.Batch (is_for_batch new.kind) ++ targets_pieces new.targets) (location_pieces new.node new.device)
    (pieces_append (mark words.Batch (is_for_batch new.kind)) (targets_pieces new.targets) (mark_has_words words.Batch (is_for_batch new.kind)) (targets_words new.targets lawful.targets))
    (location_words new.node new.device lawful.node lawful.device)) (mark_has_words words.Start new.start)) (settings_words new.change lawful.change)

-- ---- the row, and that nothing excludes anything else

alone_found : (a : Bool) (r : Row) → a ≡ true → cond (a && true) (Some r) None ≡ Some r
alone_found true r h = refl
alone_found false r h = absurd cc

one_off : (a b : Bool) → (a ≡ false) ⊎ (b ≡ false) → ((a && b) || false) ≡ false
one_off true b (inl h) = absurd cc
one_off false b (inl h) = refl
one_off true true (inr h) = absurd cc
one_off true false (inr h) = refl
one_off false b (inr h) = refl

new_makes : (new : NewQueue) (table : List (Word × Takes)) → IsNewQueue new → AreItself verb.Initialize new_row table → AreGiven table (tail_pieces new)
    → leave verb.Initialize None words.Queue table ≡ true → (leave verb.Initialize (Some new_row) words.Generic table ≡ true) ⊎ (leave verb.Initialize (Some new_row) words.On table ≡ true)
    → Makes verb.Initialize new_row (all_pieces new)
new_makes new table lawful itself given unnamed excludes = record {
  lexed = (tt, (name_word new.name lawful.name, tail_words new lawful));
  leads = (refl, tt);
  found = alone_found (counts_in verb.Initialize None words.Queue true (tail_pieces new)) new_row (given_leaves verb.Initialize None words.Queue table (tail_pieces new) true unnamed given);
  allowed = (takes.Nothing, refl, refl, (refl, given_allows verb.Initialize new_row table (tail_pieces new) 1 true itself given refl refl));
  agrees = one_off (counts_in verb.Initialize (Some new_row) words.Generic false (tail_pieces new)) (counts_in verb.Initialize (Some new_row) words.On false (tail_pieces new)) (by excludes);
}
  where
    by : (leave verb.Initialize (Some new_row) words.Generic table ≡ true) ⊎ (leave verb.Initialize (Some new_row) words.On table ≡ true)
        → (counts_in verb.Initialize (Some new_row) words.Generic false (tail_pieces new) ≡ false) ⊎ (counts_in verb.Initialize (Some new_row) words.On false (tail_pieces new) ≡ false)
    by (inl h) = inl (given_leaves verb.Initialize (Some new_row) words.Generic table (tail_pieces new) false h given)
    by (inr h) = inr (given_leaves verb.Initialize (Some new_row) words.On table (tail_pieces new) false h given)

-- ---- what is given

of_new : IsOfQueue command.InitializeQueue
of_new = record { no_nodes = λ word. refl; of_queue = refl }

abbrev location_of : Option (List ℕ) → Option (List ℕ) → Option Location
location_of None device = None
location_of (Some node) device = Some (record { node = node; device = device })

module _ (user : List ℕ) (now : ℕ) (lists : Lists) (nodes : Option (List (List ℕ))) (input : Input) (queue : Option (List ℕ)) where
  abbrev New_ask : QueueSettings → List Piece → Type 0
  New_ask qs h = (s : Settings) → Stands queue s qs → Asks user now command.InitializeQueue lists nodes input s (spoken h)

  abbrev made : Bool → Option Location → Bool → QueueSettings
  made batch location start = queue_with None None None None None batch location start

  batch_asks : (b : Bool) (location : Option Location) (start : Bool) (h : List Piece) → New_ask (made b location start) h → New_ask (made false location start) (mark words.Batch b ++ h)
  batch_asks true location start h asks = λ s stands.
      one_asks s (with_word s words.Batch) (Spoken.SaysQualifier words.Batch) (spoken h) refl
      (asks (with_word s words.Batch) (record { settings = ap (λ (q : QueueSettings). record q { batch = true }) stands.settings; named = stands.named }))
  batch_asks false location start h asks = asks

  start_asks : (batch : Bool) (location : Option Location) (b : Bool) (h : List Piece) → New_ask (made batch location b) h → New_ask (made batch location false) (mark words.Start b ++ h)
  start_asks batch location true h asks = λ s stands.
      one_asks s (with_word s words.Start) (Spoken.SaysQualifier words.Start) (spoken h) refl
      (asks (with_word s words.Start) (record { settings = ap (λ (q : QueueSettings). record q { start = true }) stands.settings; named = stands.named }))
  start_asks batch location false h asks = asks

  location_asks : (batch : Bool) (node device : Option (List ℕ)) (start : Bool) (h : List Piece) → IfSome node IsName → option_map_or is_node_name node true ≡ true → IfSome device IsName
      → option_map_or is_short device true ≡ true → New_ask (made batch (location_of node device) start) h → New_ask (made batch None start) (location_pieces node device ++ h)
  location_asks batch None device start h of_node short of_device short_device asks = asks
  location_asks batch (Some node) device start h of_node short of_device short_device asks = λ s stands.
      let t : Settings = with_word s words.On in
      let at : Location = record { node = node; device = device } in
      let u : Settings = with_queue_settings t (record t.queue_settings { location = Some at }) in
      valued_asks user now command.InitializeQueue lists nodes input of_new.no_nodes s u words.On (plain (location_word node device)) (spoken h)
      (ap (option_map (λ (l : Location). with_queue_settings t (record t.queue_settings { location = Some l }))) (location_is node device of_node short of_device short_device))
      (asks u (record { settings = ap (λ (q : QueueSettings). record q { location = Some at }) stands.settings; named = stands.named }))

  -- each target is read, and changes nothing
  targets_read : (s : Settings) (names : List (List ℕ)) → s.word ≡ Some words.Generic → AreNames names → list_all is_short names ≡ true
      → AreRead user now command.InitializeQueue lists nodes input of_new.no_nodes s names
  targets_read s [] word lawful short = tt
  targets_read s (name ∷ names) word lawful short = (
    λ inner. ap (λ (w : Option Word). value_by now command.InitializeQueue s w (plain name) inner) word ∙ ap (option_map (λ _. s)) (short_said name lawful.0 (and_left (is_short name) _ short)),
    targets_read s names word lawful.1 (and_right (is_short name) _ short),
  )

  targets_ask : (targets : List (List ℕ)) (qs : QueueSettings) (h : List Piece) → AreNames targets → list_all is_short targets ≡ true → New_ask qs h → New_ask qs (targets_pieces targets ++ h)
  targets_ask [] qs h lawful short asks = asks
  targets_ask (first ∷ others) qs h lawful short asks = λ s stands.
      let t : Settings = with_word s words.Generic in
      one_asks s t (Spoken.SaysQualifier words.Generic) (items_spoken (map item (first ∷ others)) (spoken h)) refl
      (values_ask user now command.InitializeQueue lists nodes input of_new.no_nodes t (first ∷ others) (spoken h) (targets_read t (first ∷ others) refl lawful short)
      (asks t (record { settings = stands.settings; named = stands.named })))

-- ---- the queue that is made

abbrev targets_or_none : List (List ℕ) → Option (List (List ℕ))
targets_or_none [] = None
targets_or_none (first ∷ others) = Some (first ∷ others)

kind_same : (kind : QueueKind) → kind_of (is_for_batch kind) (is_generic kind) ≡ kind
kind_same Batch = refl
kind_same Print = refl
kind_same GenericBatch = refl
kind_same GenericPrint = refl

node_same : (node device : Option (List ℕ)) → option_map (λ (l : Location). l.node) (location_of node device) ≡ node
node_same None device = refl
node_same (Some node) device = refl

device_same : (node device : Option (List ℕ)) → (is_some node || not (is_some device)) ≡ true → option_and_then (λ (l : Location). l.device) (location_of node device) ≡ device
device_same None None h = refl
device_same None (Some device) h = absurd cc
device_same (Some node) device h = refl

targets_same : (targets : List (List ℕ)) → unwrap_or (targets_or_none targets) [] ≡ targets
targets_same [] = refl
targets_same (first ∷ others) = refl

-- each name is a target
all_targets : (names : List (List ℕ)) → AreNames names → list_all is_short names ≡ true → filter_map short_name_said names ≡ names
all_targets [] lawful short = refl
all_targets (name ∷ names) lawful short =
    ap (λ (o : Option (List ℕ)). cons_option o (filter_map short_name_said names)) (short_said name lawful.0 (and_left (is_short name) _ short))
    ∙ ap (λ (l : List (List ℕ)). name ∷ l) (all_targets names lawful.1 (and_right (is_short name) _ short))

targets_quiet : (list : ListOf) (targets : List (List ℕ)) → gives list words.Generic ≡ false → AreQuiet list (targets_pieces targets)
targets_quiet list [] h = tt
targets_quiet list (first ∷ others) h = (h, tt)

location_quiet : (list : ListOf) (node device : Option (List ℕ)) → gives list words.On ≡ false → AreQuiet list (location_pieces node device)
location_quiet list None device h = tt
location_quiet list (Some node) device h = (h, tt)

mark_quiet_in : (list : ListOf) (word : Word) (b : Bool) → gives list word ≡ false → AreQuiet list (mark word b)
mark_quiet_in list word true h = (h, tt)
mark_quiet_in list word false h = tt

targets_there : (targets : List (List ℕ)) (h : List Piece) → AreNames targets → list_all is_short targets ≡ true → texts_of Targets (spoken h) ≡ None
    → option_map (filter_map short_name_said) (texts_of Targets (spoken (targets_pieces targets ++ h))) ≡ targets_or_none targets
targets_there [] h lawful short none = ap (option_map (filter_map short_name_said)) none
targets_there (first ∷ others) h lawful short none =
    ap (option_map (filter_map short_name_said)) (list_is Targets words.Generic first others h refl none)
    ∙ ap (λ (l : List (List ℕ)). Some l) (all_targets (first ∷ others) lawful short)

two_front : (o : Option (List (List ℕ))) → option_or (option_or o None) None ≡ o
two_front None = refl
two_front (Some texts) = refl

-- what stands in front, in order, and what is set behind it
abbrev new_order : NewQueue → List Piece
new_order new =
    mark words.Batch (is_for_batch new.kind) ++ (targets_pieces new.targets ++ (location_pieces new.node new.device ++ (mark words.Start new.start ++ in_order new.change)))

tail_order : (new : NewQueue) → tail_pieces new ≡ new_order new
tail_order new = ap (λ (g : List Piece). front_pieces new ++ g) (same_order new.change) ∙ simp append_assoc

-- what a new queue is, whatever its kind
record CanBeMade (new : NewQueue) : Type 0 where
  table : List (Word × Takes)
  itself : AreItself verb.Initialize new_row table
  given : AreGiven table (tail_pieces new)
  unnamed : leave verb.Initialize None words.Queue table ≡ true
  excludes : (leave verb.Initialize (Some new_row) words.Generic table ≡ true) ⊎ (leave verb.Initialize (Some new_row) words.On table ≡ true)
  short : is_short new.name ≡ true
  set : are_queue_settings new.change ≡ true
  short_targets : list_all is_short new.targets ≡ true
  short_node : option_map_or is_node_name new.node true ≡ true
  short_device : option_map_or is_short new.device true ≡ true
  on_node : (is_some new.node || not (is_some new.device)) ≡ true
  generic : is_generic new.kind ≡ is_some (targets_or_none new.targets)

module _ (user : List ℕ) (new : NewQueue) (lawful : IsNewQueue new) (can : CanBeMade new) where
  made_makes : Makes verb.Initialize new_row (all_pieces new)
  made_makes = new_makes new can.table lawful can.itself can.given can.unnamed can.excludes

  given_characteristics : (lists_by (spoken (all_pieces new))).characteristics ≡ new.change.characteristics
  given_characteristics =
      let h3 : List Piece = mark words.Start new.start ++ in_order new.change in
      let h2 : List Piece = location_pieces new.node new.device ++ h3 in
      let h1 : List Piece = targets_pieces new.targets ++ h2 in
      ap (option_map (filter_map characteristic_said)) (
      two_front (texts_of Characteristics (spoken (tail_pieces new))) ∙ ap (λ (g : List Piece). texts_of Characteristics (spoken g)) (tail_order new)
      ∙ quiet Characteristics (mark words.Batch (is_for_batch new.kind)) h1 (mark_quiet_in Characteristics words.Batch (is_for_batch new.kind) refl)
      ∙ quiet Characteristics (targets_pieces new.targets) h2 (targets_quiet Characteristics new.targets refl)
      ∙ quiet Characteristics (location_pieces new.node new.device) h3 (location_quiet Characteristics new.node new.device refl)
      ∙ quiet Characteristics (mark words.Start new.start) (in_order new.change) (mark_quiet_in Characteristics words.Start new.start refl))
      ∙ set_characteristics new.change lawful.change can.set

  given_targets : (lists_by (spoken (all_pieces new))).targets ≡ targets_or_none new.targets
  given_targets =
      let h3 : List Piece = mark words.Start new.start ++ in_order new.change in
      let h2 : List Piece = location_pieces new.node new.device ++ h3 in
      let h1 : List Piece = targets_pieces new.targets ++ h2 in
      let none : texts_of Targets (spoken h2) ≡ None =
      quiet Targets (location_pieces new.node new.device) h3 (location_quiet Targets new.node new.device refl)
      ∙ quiet Targets (mark words.Start new.start) (in_order new.change) (mark_quiet_in Targets words.Start new.start refl) ∙ no_targets new.change in
      ap (option_map (filter_map short_name_said)) (
      two_front (texts_of Targets (spoken (tail_pieces new))) ∙ ap (λ (g : List Piece). texts_of Targets (spoken g)) (tail_order new)
      ∙ quiet Targets (mark words.Batch (is_for_batch new.kind)) h1 (mark_quiet_in Targets words.Batch (is_for_batch new.kind) refl))
      ∙ targets_there new.targets h2 lawful.targets can.short_targets none

  -- the queue of what is given
  abbrev made_from : QueueSettings → Option (List NameOrNumber) → Option (List (List ℕ)) → NewQueue
  made_from qs characteristics targets = new_queue_of new.name qs (record { characteristics = characteristics; targets = targets })

  abbrev all_set : QueueSettings
  all_set =
      queue_with new.change.limit new.change.form new.change.blocks new.change.by_size new.change.retain (is_for_batch new.kind) (location_of new.node new.device) new.start

  same_queue : made_from all_set new.change.characteristics (targets_or_none new.targets) ≡ new
  same_queue =
      let kind : kind_of (is_for_batch new.kind) (is_some (targets_or_none new.targets)) ≡ new.kind = ap (kind_of (is_for_batch new.kind)) (sym can.generic) ∙ kind_same new.kind in
      let node = node_same new.node new.device in let device = device_same new.node new.device can.on_node in let targets = targets_same new.targets in
      λ i. record { name = new.name; kind = kind i; node = node i; device = device i; targets = targets i; change = new.change; start = new.start }

  made_asks : (now : ℕ) → AskFor user now command.InitializeQueue (Ask (InitializeQueue new)) (all_pieces new)
  made_asks now =
      let s : Settings = nothing_given command.InitializeQueue in
      let t : Settings = with_word s words.Queue in
      let u : Settings = record t { queue = Some new.name } in
      let lists : Lists = lists_by (spoken (all_pieces new)) in
      let nodes : Option (List (List ℕ)) = nodes_by (spoken (all_pieces new)) in
      let input : Input = Ask (InitializeQueue new) in
      let batch : Bool = is_for_batch new.kind in let at : Option Location = location_of new.node new.device in
      let h3 : List Piece = mark words.Start new.start ++ in_order new.change in
      let h2 : List Piece = location_pieces new.node new.device ++ h3 in
      let h1 : List Piece = targets_pieces new.targets ++ h2 in
      let end : New_ask user now lists nodes input (Some new.name) all_set [] = λ v stands. record {
        is = ap (λ (q : Option (List ℕ)). option_map Ask (option_and_then (λ n. queue_request n command.InitializeQueue v lists) q)) stands.named
            ∙ ap (λ (qs : QueueSettings). Some (Ask (InitializeQueue (made_from qs lists.characteristics lists.targets)))) stands.settings
            ∙ ap (λ (o : Option (List NameOrNumber)). Some (Ask (InitializeQueue (made_from all_set o lists.targets)))) given_characteristics
            ∙ ap (λ (o : Option (List (List ℕ))). Some (Ask (InitializeQueue (made_from all_set new.change.characteristics o)))) given_targets
            ∙ ap (λ (q : NewQueue). Some (Ask (InitializeQueue q))) same_queue;
      } in
      let sets = settings_ask user now command.InitializeQueue lists nodes input of_new (Some new.name) batch at new.start new.change lawful.change can.set end in
      let starts = start_asks user now lists nodes input (Some new.name) batch at new.start (in_order new.change) sets in
      let locations = location_asks user now lists nodes input (Some new.name) batch new.node new.device false h3 lawful.node can.short_node lawful.device can.short_device starts in
      let targets = targets_ask user now lists nodes input (Some new.name) new.targets (made user now lists nodes input (Some new.name) batch None false) h2 lawful.targets can.short_targets locations in
      let batches = batch_asks user now lists nodes input (Some new.name) batch None false h1 targets in
      one_asks s t (Spoken.SaysQualifier words.Queue) (Spoken.SaysParameter new.name ∷ spoken (tail_pieces new)) refl
      (one_asks t u (Spoken.SaysParameter new.name) (spoken (tail_pieces new)) (ap (option_map (λ n. record t { queue = Some n })) (short_said new.name lawful.name can.short))
      (subst (λ (g : List Piece). Asks user now command.InitializeQueue lists nodes input u (spoken g)) (sym (tail_order new)) (batches u (record { settings = refl; named = refl }))))

-- ---- by its kind

empty : (targets : List (List ℕ)) → (length targets == 0) ≡ true → targets ≡ []
empty [] h = refl
empty (first ∷ others) h = absurd (let same : length (first ∷ others) ≡ 0 = grind (arith, nat_tests) in omega (arith, same))

none_there : {X : Type 0} (o : Option X) → not (is_some o) ≡ true → o ≡ None
none_there None h = refl
none_there (Some x) h = absurd cc

or_true : (a b : Bool) → b ≡ true → (a || b) ≡ true
or_true true b h = refl
or_true false b h = h

some_targets : (targets : List (List ℕ)) → nat_lt 0 (length targets) ≡ true → true ≡ is_some (targets_or_none targets)
some_targets [] h = absurd cc
some_targets (first ∷ others) h = refl

placed_can : (new : NewQueue) → is_generic new.kind ≡ false → is_short new.name ≡ true → is_placed new ≡ true → are_queue_settings new.change ≡ true → CanBeMade new
placed_can new kind short placed set =
    let three = and_left (length new.targets == 0 && option_map_or is_node_name new.node true && option_map_or is_short new.device true) (is_some new.node || not (is_some new.device)) placed in
    let two = and_left (length new.targets == 0 && option_map_or is_node_name new.node true) (option_map_or is_short new.device true) three in
    let none : new.targets ≡ [] = empty new.targets (and_left (length new.targets == 0) (option_map_or is_node_name new.node true) two) in
    record {
      table = placed_front ++ queue_settings;
      itself = placed_itself;
      given = front_given (placed_front ++ queue_settings) new (inl refl) (inr (inr (inl refl)))
          (subst (λ (l : List (List ℕ)). AreGiven (placed_front ++ queue_settings) (targets_pieces l)) (sym none) tt) (location_given new.node new.device)
          (given_behind placed_front queue_settings (settings_pieces new.change) (settings_given new.change set));
      unnamed = refl;
      excludes = inl refl;
      short = short;
      set = set;
      short_targets = subst (λ (l : List (List ℕ)). list_all is_short l ≡ true) (sym none) refl;
      short_node = and_right (length new.targets == 0) (option_map_or is_node_name new.node true) two;
      short_device = and_right (length new.targets == 0 && option_map_or is_node_name new.node true) (option_map_or is_short new.device true) three;
      on_node = and_right (length new.targets == 0 && option_map_or is_node_name new.node true && option_map_or is_short new.device true) (is_some new.node || not (is_some new.device)) placed;
      generic = kind ∙ ap (λ (l : List (List ℕ)). is_some (targets_or_none l)) (sym none);
    }

generic_can : (new : NewQueue) → is_generic new.kind ≡ true → is_short new.name ≡ true → is_passing_on new ≡ true → are_queue_settings new.change ≡ true → CanBeMade new
generic_can new kind short passing set =
    let four = and_left (nat_lt 0 (length new.targets) && fits_list (length new.targets) && list_all is_short new.targets && not (is_some new.node)) (not (is_some new.device)) passing in
    let three = and_left (nat_lt 0 (length new.targets) && fits_list (length new.targets) && list_all is_short new.targets) (not (is_some new.node)) four in
    let two = and_left (nat_lt 0 (length new.targets) && fits_list (length new.targets)) (list_all is_short new.targets) three in
    let no_node : new.node ≡ None = none_there new.node (and_right (nat_lt 0 (length new.targets) && fits_list (length new.targets) && list_all is_short new.targets) (not (is_some new.node)) four) in
    let no_device : new.device ≡ None =
    none_there new.device (and_right (nat_lt 0 (length new.targets) && fits_list (length new.targets) && list_all is_short new.targets && not (is_some new.node)) (not (is_some new.device)) passing) in
    record {
      table = generic_front ++ queue_settings;
      itself = generic_itself;
      given = front_given (generic_front ++ queue_settings) new (inl refl) (inr (inr (inl refl)))
          (targets_given new.targets (and_right (nat_lt 0 (length new.targets)) (fits_list (length new.targets)) two))
          (subst (λ (o : Option (List ℕ)). AreGiven (generic_front ++ queue_settings) (location_pieces o new.device)) (sym no_node) tt)
          (given_behind generic_front queue_settings (settings_pieces new.change) (settings_given new.change set));
      unnamed = refl;
      excludes = inr refl;
      short = short;
      set = set;
      short_targets = and_right (nat_lt 0 (length new.targets) && fits_list (length new.targets)) (list_all is_short new.targets) three;
      short_node = subst (λ (o : Option (List ℕ)). option_map_or is_node_name o true ≡ true) (sym no_node) refl;
      short_device = subst (λ (o : Option (List ℕ)). option_map_or is_short o true ≡ true) (sym no_device) refl;
      on_node = or_true (is_some new.node) (not (is_some new.device)) (subst (λ (o : Option (List ℕ)). not (is_some o) ≡ true) (sym no_device) refl);
      generic = kind ∙ some_targets new.targets (and_left (nat_lt 0 (length new.targets)) (fits_list (length new.targets)) two);
    }

can_be : (new : NewQueue) → is_new_queue new ≡ true → CanBeMade new
can_be new is =
    let two = and_left (is_short new.name && (if is_generic new.kind then is_passing_on new else is_placed new)) (are_queue_settings new.change) is in
    by (is_generic new.kind) refl (and_left (is_short new.name) (if is_generic new.kind then is_passing_on new else is_placed new) two)
    (and_right (is_short new.name) (if is_generic new.kind then is_passing_on new else is_placed new) two)
    (and_right (is_short new.name && (if is_generic new.kind then is_passing_on new else is_placed new)) (are_queue_settings new.change) is)
  where
    by : (g : Bool) → is_generic new.kind ≡ g → is_short new.name ≡ true → (if g then is_passing_on new else is_placed new) ≡ true → are_queue_settings new.change ≡ true → CanBeMade new
    by true kind short is set = generic_can new kind short is set
    by false kind short is set = placed_can new kind short is set

pub new_back : (user : List ℕ) (new : NewQueue) → IsNewQueue new → ReadsBack user (Ask (InitializeQueue new))
new_back user new lawful =
    reads_back verb.Initialize new_row (all_pieces new) user (Ask (InitializeQueue new)) (new_is new)
    (λ is. (made_makes user new lawful (can_be new is), λ now. made_asks user new lawful (can_be new is) now))
