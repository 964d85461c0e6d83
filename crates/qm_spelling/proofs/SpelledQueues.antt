-- SET QUEUE and START/QUEUE.
use Rattle.std.proofs.Common.{◌≡◌, ℕ, List, [], ◌∷◌, ◌++◌, codes, Option, None, Some, is_some, Bool, true, false, cond, ◌&&◌, ◌||◌, refl, sym, ap, subst, ◌∙◌, lit<, option_map, option_and_then, filter_map}
use Rattle.qm_model.specs.Common.{Ask, QueueChange, QueueRetain, NameOrNumber, Request, SetQueue, StartQueue, is_short}
use Rattle.qm_kinds.specs.declared.queue.QueueRetain.TheVariants.{Nothing, Failed, All}
use Rattle.qm_commands.specs.declared.rules.Takes.TheVariants as takes
use Rattle.qm_commands.specs.declared.table.Command.{Command}
use Rattle.qm_commands.specs.declared.table.Command.TheVariants as command
use Rattle.qm_commands.specs.declared.table.Row.{Row}
use Rattle.qm_commands.specs.declared.table.Verb.TheVariants as verb
use Rattle.qm_commands.specs.declared.word.Word.TheVariants as words
use Rattle.qm_commands.specs.Rules.{queue_settings}
use Rattle.qm_commands.specs.Table.{row, object_row}
use Rattle.qm_dcl.specs.declared.lists.ListOf.TheVariants.{Characteristics}
use Rattle.qm_dcl.specs.declared.lists.Lists.{Lists}
use Rattle.qm_dcl.specs.declared.settings.QueueSettings.{QueueSettings}
use Rattle.qm_dcl.specs.declared.settings.Settings.{Settings}
use Rattle.qm_dcl.specs.Command.{asked}
use Rattle.qm_dcl.specs.Given.{with_word}
use Rattle.qm_dcl.specs.Queues.{change_of, queue_request}
use Rattle.qm_dcl.specs.Settings.{nothing_given}
use Rattle.qm_dcl.specs.Values.{characteristic_said}
use Rattle.qm_spelling.specs.Lawful.{IsName, IsQueueChange}
use Rattle.qm_sayable.specs.Queues.{are_queue_settings, sets_queue}
use Rattle.qm_spelling.specs.Queues.{are_no_limits}
use Rattle.qm_spelling.specs.ReadBack.{ReadsBack}
use Rattle.qm_spelling.proofs.SpelledPieces.{Piece}
use Rattle.qm_spelling.proofs.SpelledReading.{Spoken, spoken}
use Rattle.qm_spelling.proofs.SpelledFinding.{counts_in, Makes}
use Rattle.qm_spelling.proofs.SpelledLists.{texts_of, lists_by, nodes_by}
use Rattle.qm_spelling.proofs.SpelledCommand.{Asks, AskFor, one_asks, reads_back}
use Rattle.qm_spelling.proofs.SpelledTails.{AreItself, has_some, given_allows, given_leaves}
use Rattle.qm_spelling.proofs.SpelledWords.{name_word, short_said}
use Rattle.qm_spelling.proofs.SpelledAsking.{quiet}
use Rattle.qm_spelling.proofs.SpelledQueueSettings.{limit_pieces, characteristics_pieces, form_pieces, limits_pieces, blocks_pieces, schedule_pieces, retain_pieces, settings_pieces, settings_text, settings_given, settings_words}
use Rattle.qm_spelling.proofs.SpelledQueueAsking.{IsOfQueue, Stands, queue_with, settings_ask, set_characteristics, same_order}
use Rattle.qm_spelling.proofs.SpelledTruth.{and_left, and_right, negated}

-- ---- something is set

pub has_both : (g h : List Piece) (a b : Bool) → a ≡ has_some g → b ≡ has_some h → (a || b) ≡ has_some (g ++ h)
has_both [] h false b of_g of_h = of_h
has_both [] h true b of_g of_h = absurd cc
has_both (piece ∷ g) h true b of_g of_h = refl
has_both (piece ∷ g) h false b of_g of_h = absurd cc

has_limit : (limit : Option ℕ) → is_some limit ≡ has_some (limit_pieces limit)
has_limit None = refl
has_limit (Some limit) = refl

has_characteristics : (characteristics : Option (List NameOrNumber)) → is_some characteristics ≡ has_some (characteristics_pieces characteristics)
has_characteristics None = refl
has_characteristics (Some []) = refl
has_characteristics (Some (first ∷ others)) = refl

has_form : (form : Option NameOrNumber) → is_some form ≡ has_some (form_pieces form)
has_form None = refl
has_form (Some form) = refl

has_limits : (none : Bool) (limits : ℕ × ℕ) → true ≡ has_some (limits_pieces none limits)
has_limits true limits = refl
has_limits false limits = refl

has_blocks : (blocks : Option (ℕ × ℕ)) → is_some blocks ≡ has_some (blocks_pieces blocks)
has_blocks None = refl
has_blocks (Some limits) = has_limits (are_no_limits limits) limits

has_schedule : (by_size : Option Bool) → is_some by_size ≡ has_some (schedule_pieces by_size)
has_schedule None = refl
has_schedule (Some true) = refl
has_schedule (Some false) = refl

has_retain : (retain : Option QueueRetain) → is_some retain ≡ has_some (retain_pieces retain)
has_retain None = refl
has_retain (Some Nothing) = refl
has_retain (Some Failed) = refl
has_retain (Some All) = refl

has_settings : (change : QueueChange) → sets_queue change ≡ has_some (settings_pieces change)
has_settings change =
    let a = limit_pieces change.limit in let b = characteristics_pieces change.characteristics in let d = form_pieces change.form in
    let e = blocks_pieces change.blocks in let f = schedule_pieces change.by_size in let g = retain_pieces change.retain in
    has_both (a ++ b ++ d ++ e ++ f) g _ _
    (has_both (a ++ b ++ d ++ e) f _ _
    (has_both (a ++ b ++ d) e _ _
    (has_both (a ++ b) d _ _ (has_both a b _ _ (has_limit change.limit) (has_characteristics change.characteristics)) (has_form change.form))
    (has_blocks change.blocks)) (has_schedule change.by_size)) (has_retain change.retain)

-- ---- what is asked for, behind the name

-- a request that names a queue and says what is set of it
abbrev Names : Command → (List ℕ → QueueChange → Request) → Type 0
Names c request = (user name : List ℕ) (s : Settings) (lists : Lists) (nodes : Option (List (List ℕ))) → s.queue ≡ Some name
    → asked user c s lists nodes ≡ Some (Ask (request name (change_of s.queue_settings lists.characteristics)))

module _ (user : List ℕ) (now : ℕ) (name : List ℕ) (change : QueueChange) (lawful : IsQueueChange change) (can : are_queue_settings change ≡ true) (c : Command) (of : IsOfQueue c)
    (request : List ℕ → QueueChange → Request) (names : Names c request) (lists : Lists) (nodes : Option (List (List ℕ))) (given : lists.characteristics ≡ change.characteristics) where
  asks_at_end : (s : Settings) → Stands (Some name) s (queue_with change.limit change.form change.blocks change.by_size change.retain false None false)
      → Asks user now c lists nodes (Ask (request name change)) s []
  asks_at_end s stands = record {
    is = names user name s lists nodes stands.named
        ∙ ap (λ (qs : QueueSettings). Some (Ask (request name (change_of qs lists.characteristics)))) stands.settings
        ∙ ap (λ (o : Option (List NameOrNumber)). Some (Ask (request name (change_of (queue_with change.limit change.form change.blocks change.by_size change.retain false None false) o)))) given;
  }

  asks_behind : (s : Settings) → Stands (Some name) s (queue_with None None None None None false None false)
      → Asks user now c lists nodes (Ask (request name change)) s (spoken (settings_pieces change))
  asks_behind s stands =
      subst (λ (g : List Piece). Asks user now c lists nodes (Ask (request name change)) s (spoken g)) (sym (same_order change))
      (settings_ask user now c lists nodes (Ask (request name change)) of (Some name) false None false change lawful can asks_at_end s stands)

-- the characteristics, whatever quiet pieces stand in front
given_behind : (front : List Piece) (change : QueueChange) → IsQueueChange change → are_queue_settings change ≡ true
    → texts_of Characteristics (spoken (front ++ settings_pieces change)) ≡ texts_of Characteristics (spoken (settings_pieces change))
    → (lists_by (spoken (front ++ settings_pieces change))).characteristics ≡ change.characteristics
given_behind front change lawful can same =
    ap (option_map (filter_map characteristic_said)) (same ∙ ap (λ (g : List Piece). texts_of Characteristics (spoken g)) (same_order change)) ∙ set_characteristics change lawful can

-- ---- SET QUEUE

first_off : (a b c : Bool) → a ≡ false → ((a && b) || ((a && c) || false)) ≡ false
first_off true b c h = absurd cc
first_off false b c h = refl

of_set : IsOfQueue command.SetQueue
of_set = record { no_nodes = λ word. refl; of_queue = refl }

names_set : Names command.SetQueue (λ name change. SetQueue name change)
names_set user name s lists nodes named = ap (λ (q : Option (List ℕ)). option_map Ask (option_and_then (λ n. queue_request n command.SetQueue s lists) q)) named

abbrev set_row : Row
set_row = object_row command.SetQueue words.Queue None 2 2 true

set_itself : AreItself verb.Set set_row queue_settings
set_itself = (refl, (refl, (refl, (refl, (refl, (refl, (refl, (refl, (refl, tt)))))))))

module _ (user name : List ℕ) (named : IsName name) (change : QueueChange) (lawful : IsQueueChange change) where
  abbrev set_pieces : List Piece
  set_pieces = Piece.Parameter (codes "QUEUE") ∷ Piece.Parameter name ∷ settings_pieces change

  set_makes : sets_queue change ≡ true → are_queue_settings change ≡ true → Makes verb.Set set_row set_pieces
  set_makes some can =
      let given = settings_given change can in
      record {
        lexed = ((lit< tt, refl), (name_word name named, settings_words change lawful));
        leads = tt;
        found = refl;
        allowed = (refl, (refl, given_allows verb.Set set_row queue_settings (settings_pieces change) 2 false set_itself given refl (negated (has_some (settings_pieces change)) (sym (has_settings change) ∙ some))));
        agrees =
            first_off (counts_in verb.Set (Some set_row) words.Release false set_pieces) (counts_in verb.Set (Some set_row) words.Hold false set_pieces)
            (counts_in verb.Set (Some set_row) words.After false set_pieces) (given_leaves verb.Set (Some set_row) words.Release queue_settings (settings_pieces change) false refl given);
      }

  set_asks : (now : ℕ) → is_short name ≡ true → are_queue_settings change ≡ true → AskFor user now command.SetQueue (Ask (SetQueue name change)) set_pieces
  set_asks now short can =
      let s : Settings = nothing_given command.SetQueue in
      let t : Settings = record s { awaits_object = false } in
      let u : Settings = record t { queue = Some name } in
      let front : List Piece = Piece.Parameter (codes "QUEUE") ∷ Piece.Parameter name ∷ [] in
      let lists : Lists = lists_by (spoken set_pieces) in
      one_asks s t (Spoken.SaysParameter (codes "QUEUE")) (Spoken.SaysParameter name ∷ spoken (settings_pieces change)) refl
      (one_asks t u (Spoken.SaysParameter name) (spoken (settings_pieces change)) (ap (option_map (λ n. record t { queue = Some n })) (short_said name named short))
      (asks_behind user now name change lawful can command.SetQueue of_set (λ n ch. SetQueue n ch) names_set lists (nodes_by (spoken set_pieces))
      (given_behind front change lawful can (quiet Characteristics front (settings_pieces change) (tt, (tt, tt)))) u (record { settings = refl; named = refl })))

  pub set_back : ReadsBack user (Ask (SetQueue name change))
  set_back = reads_back verb.Set set_row set_pieces user (Ask (SetQueue name change))
      (ap (λ (l : List ℕ). codes "SET QUEUE " ++ (name ++ l)) (settings_text change))
      (λ is. let can = and_right (is_short name && sets_queue change) (are_queue_settings change) is in
      let both = and_left (is_short name && sets_queue change) (are_queue_settings change) is in
      (set_makes (and_right (is_short name) (sets_queue change) both) can, λ now. set_asks now (and_left (is_short name) (sets_queue change) both) can))

-- ---- START/QUEUE

of_start : IsOfQueue command.StartQueue
of_start = record { no_nodes = λ word. refl; of_queue = refl }

names_start : Names command.StartQueue (λ name change. StartQueue name change)
names_start user name s lists nodes named = ap (λ (q : Option (List ℕ)). option_map Ask (option_and_then (λ n. queue_request n command.StartQueue s lists) q)) named

abbrev start_row : Row
start_row = row command.StartQueue (Some words.Queue) None 1 1

start_itself : AreItself verb.Start start_row queue_settings
start_itself = (refl, (refl, (refl, (refl, (refl, (refl, (refl, (refl, (refl, tt)))))))))

second_found : (a b : Bool) (r q : Row) → a ≡ true → b ≡ false → cond (a && b) (Some r) (cond (a && true) (Some q) None) ≡ Some q
second_found true true r q ha hb = absurd cc
second_found true false r q ha hb = refl
second_found false b r q ha hb = absurd cc

module _ (user name : List ℕ) (named : IsName name) (change : QueueChange) (lawful : IsQueueChange change) where
  abbrev start_pieces : List Piece
  start_pieces = Piece.Marked words.Queue ∷ Piece.Parameter name ∷ settings_pieces change

  start_makes : are_queue_settings change ≡ true → Makes verb.Start start_row start_pieces
  start_makes can =
      let given = settings_given change can in
      record {
        lexed = (tt, (name_word name named, settings_words change lawful));
        leads = (refl, (refl, tt));
        found =
            second_found (counts_in verb.Start None words.Queue true (settings_pieces change)) (counts_in verb.Start None words.Manager false (settings_pieces change))
            (row command.StartManager (Some words.Queue) (Some words.Manager) 0 0) start_row
            (given_leaves verb.Start None words.Queue queue_settings (settings_pieces change) true refl given)
            (given_leaves verb.Start None words.Manager queue_settings (settings_pieces change) false refl given);
        allowed = (takes.Nothing, refl, refl, (refl, given_allows verb.Start start_row queue_settings (settings_pieces change) 1 true start_itself given refl refl));
        agrees = refl;
      }

  start_asks : (now : ℕ) → is_short name ≡ true → are_queue_settings change ≡ true → AskFor user now command.StartQueue (Ask (StartQueue name change)) start_pieces
  start_asks now short can =
      let s : Settings = nothing_given command.StartQueue in
      let t : Settings = with_word s words.Queue in
      let u : Settings = record t { queue = Some name } in
      let front : List Piece = Piece.Marked words.Queue ∷ Piece.Parameter name ∷ [] in
      let lists : Lists = lists_by (spoken start_pieces) in
      one_asks s t (Spoken.SaysQualifier words.Queue) (Spoken.SaysParameter name ∷ spoken (settings_pieces change)) refl
      (one_asks t u (Spoken.SaysParameter name) (spoken (settings_pieces change)) (ap (option_map (λ n. record t { queue = Some n })) (short_said name named short))
      (asks_behind user now name change lawful can command.StartQueue of_start (λ n ch. StartQueue n ch) names_start lists (nodes_by (spoken start_pieces))
      (given_behind front change lawful can (quiet Characteristics front (settings_pieces change) (refl, (tt, tt)))) u (record { settings = refl; named = refl })))

  pub start_back : ReadsBack user (Ask (StartQueue name change))
  start_back = reads_back verb.Start start_row start_pieces user (Ask (StartQueue name change))
      (ap (λ (l : List ℕ). codes "START/QUEUE " ++ (name ++ l)) (settings_text change))
      (λ is. let can = and_right (is_short name) (are_queue_settings change) is in (start_makes can, λ now. start_asks now (and_left (is_short name) (are_queue_settings change) is) can))
