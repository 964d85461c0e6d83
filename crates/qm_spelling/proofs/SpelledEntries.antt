-- SET ENTRY.
use Rattle.std.proofs.Common.{◌≡◌, inl, inr, ◌<◌, ◌^◌, ℕ, List, [], ◌∷◌, ◌++◌, length, codes, decimal, IfSome, Option, None, Some, is_some, Bool, true, false, not, ◌&&◌, ◌||◌, if◌then◌else◌, nat_lt, refl, sym, ap, subst, ◌∙◌, arith, lit<, append_assoc, append-nil, option_map, filter_map}
use Rattle.std.specs.List.{list_all}
use Rattle.std.specs.Option.{option_map_or, option_or}
use Rattle.qm_model.specs.Common.{JobRetain, Input, Ask, EntryChange, NameOrNumber, SetEntry, is_short}
use Rattle.qm_commands.specs.declared.rules.Takes.{Takes}
use Rattle.qm_commands.specs.declared.rules.Takes.TheVariants as takes
use Rattle.qm_commands.specs.declared.table.Command.TheVariants as command
use Rattle.qm_commands.specs.declared.table.Row.{Row}
use Rattle.qm_commands.specs.declared.table.Verb.{Verb}
use Rattle.qm_commands.specs.declared.table.Verb.TheVariants as verb
use Rattle.qm_commands.specs.declared.word.Word.{Word}
use Rattle.qm_commands.specs.declared.word.Word.TheVariants as words
use Rattle.qm_commands.specs.Table.{object_row}
use Rattle.qm_commands.specs.Words.{undone_by, spelling}
use Rattle.qm_dcl.specs.declared.lists.ListOf.TheVariants.{Characteristics}
use Rattle.qm_dcl.specs.declared.lists.Lists.{Lists}
use Rattle.qm_dcl.specs.declared.settings.JobSettings.{JobSettings}
use Rattle.qm_dcl.specs.declared.settings.Settings.{Settings}
use Rattle.qm_dcl.specs.Entries.{entry_change_of}
use Rattle.qm_dcl.specs.Settings.{nothing_given}
use Rattle.qm_dcl.specs.Values.{characteristic_said}
use Rattle.qm_sayable.specs.Jobs.{is_timed, are_entry_characteristics, sets_entry, is_entry_change}
use Rattle.qm_spelling.specs.Jobs.{entry_after_text, entry_settings_text, set_entry_text}
use Rattle.qm_spelling.specs.Lawful.{IsReference, AreReferences, IsMoment, IsEntryChange}
use Rattle.qm_sayable.specs.Values.{is_form_reference, are_characteristics, fits_list}
use Rattle.qm_spelling.specs.Pieces.{valued, references_text}
use Rattle.qm_spelling.specs.ReadBack.{ReadsBack}
use Rattle.qm_spelling.proofs.Values.{number_reads_back}
use Rattle.qm_spelling.proofs.SpelledPieces.{Piece, ArePieces}
use Rattle.qm_spelling.proofs.SpelledReading.{Spoken, spoken, name_by}
use Rattle.qm_spelling.proofs.SpelledFinding.{other_by, counts_in, Makes}
use Rattle.qm_spelling.proofs.SpelledLists.{texts_of, lists_by, nodes_by}
use Rattle.qm_spelling.proofs.SpelledCommand.{Asks, AskFor, one_asks, text_where, reads_back}
use Rattle.qm_spelling.proofs.SpelledTails.{mark, pieces_text, both_texts, mark_text, In, AreGiven, AreItself, has_some, given_append, given_behind, pieces_append, given_allows}
use Rattle.qm_spelling.proofs.SpelledWords.{number_word}
use Rattle.qm_spelling.proofs.SpelledAsking.{AllAre, AreQuiet, quiet}
use Rattle.qm_spelling.proofs.SpelledQueueAsking.{CanBeSaid, can_all}
use Rattle.qm_spelling.proofs.SpelledQueues.{has_both}
use Rattle.qm_spelling.proofs.SpelledTimes.{TimesRead}
use Rattle.qm_spelling.proofs.SpelledJobPieces.{text_piece, number_piece, reference_piece, time_piece, retain_piece, restart_piece, characteristics_piece, text_is, number_is, reference_piece_is, time_piece_is, retain_is, restart_is, characteristics_is, text_given, number_given, reference_given, time_given, retain_given, restart_given, characteristics_given, mark_given, text_words, number_words, reference_words, time_words, retain_words, restart_words, characteristics_words, mark_words}
use Rattle.qm_spelling.proofs.SpelledJobAsking.{IsOfJob, job_with, All_ask, marked_asks, queue_asks, name_asks, priority_asks, after_asks, hold_asks, release_asks, retain_asks, restart_asks, characteristics_ask, form_asks, text_quiet, number_quiet, reference_quiet, retain_quiet, restart_quiet, mark_quiet, listed_or_none, characteristics_there}
use Rattle.qm_spelling.proofs.SpelledTruth.{and_left, and_right, negated}

-- ---- what isn't given doesn't count

-- none of these names is the word
abbrev differs : Verb → Option Row → Word → Word × Takes → Bool
differs v row word given = not (name_by (spelling given.0) v row word)

differing : (v : Verb) (row : Option Row) (word : Word) (table : List (Word × Takes)) (rule : Word × Takes) → list_all (differs v row word) table ≡ true → In rule table → differs v row word rule ≡ true
differing v row word [] rule all here = absurd here
differing v row word (other ∷ rules) rule all (inl is) = ap (differs v row word) (sym is) ∙ and_left (differs v row word other) _ all
differing v row word (other ∷ rules) rule all (inr there) = differing v row word rules rule (and_right (differs v row word other) _ all) there

stays_off : (a b : Bool) → not a ≡ true → (if a then true else if b then false else false) ≡ false
stays_off true b h = absurd cc
stays_off false true h = refl
stays_off false false h = refl

never_counts : (v : Verb) (row : Option Row) (word : Word) (table : List (Word × Takes)) (g : List Piece) → list_all (differs v row word) table ≡ true → AreGiven table g
    → counts_in v row word false g ≡ false
never_counts v row word table [] all of_g = refl
never_counts v row word table (Piece.Parameter text ∷ g) all of_g = absurd of_g.0
never_counts v row word table (Piece.Marked given ∷ g) all of_g =
    ap (λ (b : Bool). counts_in v row word b g)
    (stays_off (name_by (spelling given) v row word) (other_by (spelling given) v row (undone_by word)) (differing v row word table (given, of_g.0.0) all of_g.0.1))
    ∙ never_counts v row word table g all of_g.1
never_counts v row word table (Piece.Valued given value ∷ g) all of_g =
    ap (λ (b : Bool). counts_in v row word b g)
    (stays_off (name_by (spelling given) v row word) (other_by (spelling given) v row (undone_by word)) (differing v row word table (given, of_g.0.0) all of_g.0.1))
    ∙ never_counts v row word table g all of_g.1

-- ---- the pieces

abbrev after_pieces : Option (Option ℕ) → List Piece
after_pieces None = []
after_pieces (Some None) = Piece.Marked words.NoAfter ∷ []
after_pieces (Some (Some moment)) = time_piece (Some moment)

abbrev those : Option (List NameOrNumber) → List NameOrNumber
those None = []
those (Some rs) = rs

module _ (change : EntryChange) where
  abbrev waiting : List Piece
  waiting = mark words.Release change.release ++ mark words.Hold change.hold ++ after_pieces change.after

  abbrev needs : List Piece
  needs =
      number_piece words.Priority change.priority ++ text_piece words.Name change.name ++ characteristics_piece (those change.characteristics)
      ++ reference_piece words.Form change.form

  abbrev terms : List Piece
  terms = text_piece words.Requeue change.queue ++ restart_piece change.restart ++ retain_piece change.retain

  abbrev tail : List Piece
  tail = waiting ++ needs ++ terms

  abbrev in_order : List Piece
  in_order =
      mark words.Release change.release ++ (mark words.Hold change.hold ++ (after_pieces change.after ++ (number_piece words.Priority change.priority ++ (text_piece words.Name change.name
      ++ (characteristics_piece (those change.characteristics) ++ (reference_piece words.Form change.form ++ (text_piece words.Requeue change.queue ++ (restart_piece change.restart
      ++ (retain_piece change.retain ++ [])))))))))

  same_order : tail ≡ in_order
  same_order = simp (append_assoc, append-nil)

-- ---- their text

after_is : (after : Option (Option ℕ)) → entry_after_text after ≡ pieces_text (after_pieces after)
after_is None = refl
after_is (Some None) = refl
after_is (Some (Some moment)) = time_piece_is (Some moment)

those_are : (o : Option (List NameOrNumber)) → option_map_or are_entry_characteristics o true ≡ true → valued words.Characteristics (option_map references_text o) ≡ pieces_text (characteristics_piece (those o))
those_are None can = refl
those_are (Some []) can = absurd cc
those_are (Some (first ∷ others)) can = characteristics_is (first ∷ others)

tail_text : (change : EntryChange) → option_map_or are_entry_characteristics change.characteristics true ≡ true → entry_settings_text change ≡ pieces_text (tail change)
tail_text change can =
    let release = mark words.Release change.release in let hold = mark words.Hold change.hold in let after = after_pieces change.after in
    let priority = number_piece words.Priority change.priority in let name = text_piece words.Name change.name in let listed = characteristics_piece (those change.characteristics) in
    let form = reference_piece words.Form change.form in let queue = text_piece words.Requeue change.queue in let restart = restart_piece change.restart in let retain = retain_piece change.retain in
    both_texts (waiting change ++ needs change) (terms change) _ _
    (both_texts (waiting change) (needs change) _ _
    (both_texts (release ++ hold) after _ _ (both_texts release hold _ _ (mark_text words.Release change.release) (mark_text words.Hold change.hold)) (after_is change.after))
    (both_texts (priority ++ name ++ listed) form _ _
    (both_texts (priority ++ name) listed _ _ (both_texts priority name _ _ (number_is words.Priority change.priority) (text_is words.Name change.name)) (those_are change.characteristics can))
    (reference_piece_is words.Form change.form)))
    (both_texts (queue ++ restart) retain _ _ (both_texts queue restart _ _ (text_is words.Requeue change.queue) (restart_is change.restart)) (retain_is change.retain))

-- ---- the table

abbrev behind_hold : List (Word × Takes)
behind_hold =
    (words.NoAfter, takes.Nothing) ∷ (words.Priority, takes.One) ∷ (words.Name, takes.One) ∷ (words.Characteristics, takes.List) ∷ (words.Form, takes.One) ∷ (words.Requeue, takes.One)
    ∷ (words.Restart, takes.Nothing) ∷ (words.NoRestart, takes.Nothing) ∷ (words.Retain, takes.Keyed) ∷ []

-- without what waits: neither /HOLD nor /AFTER
abbrev released_table : List (Word × Takes)
released_table = (words.Release, takes.Nothing) ∷ behind_hold

-- without /RELEASE
abbrev held_table : List (Word × Takes)
held_table = (words.Hold, takes.Nothing) ∷ (words.After, takes.One) ∷ behind_hold

abbrev entry_table : List (Word × Takes)
entry_table = (words.Release, takes.Nothing) ∷ held_table

abbrev entry_row : Row
entry_row = object_row command.SetEntry words.Entry None 2 2 true

entry_itself : AreItself verb.Set entry_row entry_table
entry_itself = (refl, (refl, (refl, (refl, (refl, (refl, (refl, (refl, (refl, (refl, (refl, (refl, tt))))))))))))

those_fit : (o : Option (List NameOrNumber)) → option_map_or are_entry_characteristics o true ≡ true → fits_list (length (those o)) ≡ true
those_fit None can = refl
those_fit (Some rs) can = and_left (fits_list (length rs)) _ (and_right (nat_lt 0 (length rs)) (are_characteristics rs) can)

-- what stands behind what an entry waits for, in each table
behind_given : (change : EntryChange) → option_map_or are_entry_characteristics change.characteristics true ≡ true → AreGiven behind_hold (needs change ++ terms change)
behind_given change can =
    let priority = number_piece words.Priority change.priority in let name = text_piece words.Name change.name in let listed = characteristics_piece (those change.characteristics) in
    let form = reference_piece words.Form change.form in let queue = text_piece words.Requeue change.queue in let restart = restart_piece change.restart in let retain = retain_piece change.retain in
    given_append behind_hold (needs change) (terms change)
    (given_append behind_hold (priority ++ name ++ listed) form
    (given_append behind_hold (priority ++ name) listed
    (given_append behind_hold priority name (number_given behind_hold words.Priority change.priority (inr (inl refl))) (text_given behind_hold words.Name change.name (inr (inr (inl refl)))))
    (characteristics_given behind_hold (those change.characteristics) (inr (inr (inr (inl refl)))) (those_fit change.characteristics can)))
    (reference_given behind_hold words.Form change.form (inr (inr (inr (inr (inl refl)))))))
    (given_append behind_hold (queue ++ restart) retain
    (given_append behind_hold queue restart (text_given behind_hold words.Requeue change.queue (inr (inr (inr (inr (inr (inl refl)))))))
    (restart_given behind_hold change.restart (inr (inr (inr (inr (inr (inr (inl refl))))))) (inr (inr (inr (inr (inr (inr (inr (inl refl))))))))))
    (retain_given behind_hold change.retain (inr (inr (inr (inr (inr (inr (inr (inr (inl refl)))))))))))

regroup : (w n t : List Piece) → w ++ n ++ t ≡ w ++ (n ++ t)
regroup w n t = append_assoc w n t

after_given_in : (table : List (Word × Takes)) (after : Option (Option ℕ)) → In (words.After, takes.One) table → In (words.NoAfter, takes.Nothing) table → AreGiven table (after_pieces after)
after_given_in table None here none = tt
after_given_in table (Some None) here none = ((takes.Nothing, none, refl), tt)
after_given_in table (Some (Some moment)) here none = time_given table (Some moment) here

untimed_given : (table : List (Word × Takes)) (after : Option (Option ℕ)) → is_timed after ≡ false → In (words.NoAfter, takes.Nothing) table → AreGiven table (after_pieces after)
untimed_given table None untimed none = tt
untimed_given table (Some None) untimed none = ((takes.Nothing, none, refl), tt)
untimed_given table (Some (Some moment)) untimed none = absurd cc

-- ---- their tokens

after_words : (after : Option (Option ℕ)) → ArePieces (after_pieces after)
after_words None = tt
after_words (Some None) = (tt, tt)
after_words (Some (Some moment)) = time_words (Some moment)

those_words : (o : Option (List NameOrNumber)) → IfSome o AreReferences → ArePieces (characteristics_piece (those o))
those_words None lawful = tt
those_words (Some rs) lawful = characteristics_words rs lawful

tail_words : (change : EntryChange) → IsEntryChange change → ArePieces (tail change)
tail_words change lawful =
    let release = mark words.Release change.release in let hold = mark words.Hold change.hold in let after = after_pieces change.after in
    let priority = number_piece words.Priority change.priority in let name = text_piece words.Name change.name in let listed = characteristics_piece (those change.characteristics) in
    let form = reference_piece words.Form change.form in let queue = text_piece words.Requeue change.queue in let restart = restart_piece change.restart in let retain = retain_piece change.retain in
    pieces_append (waiting change ++ needs change) (terms change)
    (pieces_append (waiting change) (needs change)
    (pieces_append (release ++ hold) after (pieces_append release hold (mark_words words.Release change.release) (mark_words words.Hold change.hold)) (after_words change.after))
    (pieces_append (priority ++ name ++ listed) form
    (pieces_append (priority ++ name) listed
    (pieces_append priority name (number_words words.Priority change.priority lawful.priority) (text_words words.Name change.name lawful.name)) (those_words change.characteristics lawful.characteristics))
    (reference_words words.Form change.form lawful.form)))
    (pieces_append (queue ++ restart) retain (pieces_append queue restart (text_words words.Requeue change.queue lawful.queue) (restart_words change.restart)) (retain_words change.retain))

-- ---- something is changed

has_mark : (word : Word) (b : Bool) → b ≡ has_some (mark word b)
has_mark word true = refl
has_mark word false = refl

has_after : (after : Option (Option ℕ)) → is_some after ≡ has_some (after_pieces after)
has_after None = refl
has_after (Some None) = refl
has_after (Some (Some moment)) = refl

has_text : (word : Word) (o : Option (List ℕ)) → is_some o ≡ has_some (text_piece word o)
has_text word None = refl
has_text word (Some text) = refl

has_number : (word : Word) (o : Option ℕ) → is_some o ≡ has_some (number_piece word o)
has_number word None = refl
has_number word (Some n) = refl

has_reference : (word : Word) (o : Option NameOrNumber) → is_some o ≡ has_some (reference_piece word o)
has_reference word None = refl
has_reference word (Some r) = refl

has_restart : (o : Option Bool) → is_some o ≡ has_some (restart_piece o)
has_restart None = refl
has_restart (Some true) = refl
has_restart (Some false) = refl

has_retain : (o : Option JobRetain) → is_some o ≡ has_some (retain_piece o)
has_retain None = refl
has_retain (Some retain) = refl

has_those : (o : Option (List NameOrNumber)) → option_map_or are_entry_characteristics o true ≡ true → is_some o ≡ has_some (characteristics_piece (those o))
has_those None can = refl
has_those (Some []) can = absurd cc
has_those (Some (first ∷ others)) can = refl

any_order : (r h a p n c f q s e : Bool) → (r || h || a || p || n || c || f || q || s || e) ≡ ((r || h || a) || (p || n || c || f) || (q || s || e))
any_order true h a p n c f q s e = refl
any_order false true a p n c f q s e = refl
any_order false false true p n c f q s e = refl
any_order false false false true n c f q s e = refl
any_order false false false false true c f q s e = refl
any_order false false false false false true f q s e = refl
any_order false false false false false false true q s e = refl
any_order false false false false false false false q s e = refl

pub has_tail : (change : EntryChange) → option_map_or are_entry_characteristics change.characteristics true ≡ true → sets_entry change ≡ has_some (tail change)
has_tail change can =
    let release = mark words.Release change.release in let hold = mark words.Hold change.hold in let after = after_pieces change.after in
    let priority = number_piece words.Priority change.priority in let name = text_piece words.Name change.name in let listed = characteristics_piece (those change.characteristics) in
    let form = reference_piece words.Form change.form in let queue = text_piece words.Requeue change.queue in let restart = restart_piece change.restart in let retain = retain_piece change.retain in
    any_order change.release change.hold (is_some change.after) (is_some change.priority) (is_some change.name) (is_some change.characteristics) (is_some change.form) (is_some change.queue)
    (is_some change.restart) (is_some change.retain)
    ∙ has_both (waiting change ++ needs change) (terms change) _ _
    (has_both (waiting change) (needs change) _ _
    (has_both (release ++ hold) after _ _ (has_both release hold _ _ (has_mark words.Release change.release) (has_mark words.Hold change.hold)) (has_after change.after))
    (has_both (priority ++ name ++ listed) form _ _
    (has_both (priority ++ name) listed _ _ (has_both priority name _ _ (has_number words.Priority change.priority) (has_text words.Name change.name)) (has_those change.characteristics can))
    (has_reference words.Form change.form)))
    (has_both (queue ++ restart) retain _ _ (has_both queue restart _ _ (has_text words.Requeue change.queue) (has_restart change.restart)) (has_retain change.retain))

-- ---- nothing excludes anything else

off_left : (a b c : Bool) → a ≡ false → ((a && b) || ((a && c) || false)) ≡ false
off_left true b c h = absurd cc
off_left false b c h = refl

neither_first : (a b : Bool) → not (a || b) ≡ true → a ≡ false
neither_first true b h = absurd cc
neither_first false b h = refl

neither_second : (a b : Bool) → not (a || b) ≡ true → b ≡ false
neither_second true b h = absurd cc
neither_second false true h = absurd cc
neither_second false false h = refl

after_quiet : (after : Option (Option ℕ)) → AreQuiet Characteristics (after_pieces after)
after_quiet None = tt
after_quiet (Some None) = (refl, tt)
after_quiet (Some (Some moment)) = (refl, tt)

off_right : (a b c : Bool) → b ≡ false → c ≡ false → ((a && b) || ((a && c) || false)) ≡ false
off_right true true c hb hc = absurd cc
off_right true false true hb hc = absurd cc
off_right true false false hb hc = refl
off_right false b c hb hc = refl

module _ (number : ℕ) (change : EntryChange) where
  abbrev entry_pieces : List Piece
  entry_pieces = Piece.Parameter (codes "ENTRY") ∷ Piece.Parameter (decimal number) ∷ tail change

  -- what waits, in front of the rest
  all_given : (table : List (Word × Takes)) → AreGiven table (mark words.Release change.release) → AreGiven table (mark words.Hold change.hold) → AreGiven table (after_pieces change.after)
      → AreGiven table (needs change ++ terms change) → AreGiven table (tail change)
  all_given table release hold after rest =
      subst (λ (g : List Piece). AreGiven table g) (sym (regroup (waiting change) (needs change) (terms change)))
      (given_append table (waiting change) (needs change ++ terms change)
      (given_append table (mark words.Release change.release ++ mark words.Hold change.hold) (after_pieces change.after)
      (given_append table (mark words.Release change.release) (mark words.Hold change.hold) release hold) after) rest)

  entry_given_all : option_map_or are_entry_characteristics change.characteristics true ≡ true → AreGiven entry_table (tail change)
  entry_given_all can =
      all_given entry_table (mark_given entry_table words.Release change.release (inl refl)) (mark_given entry_table words.Hold change.hold (inr (inl refl)))
      (after_given_in entry_table change.after (inr (inr (inl refl))) (inr (inr (inr (inl refl)))))
      (given_behind ((words.Release, takes.Nothing) ∷ (words.Hold, takes.Nothing) ∷ (words.After, takes.One) ∷ []) behind_hold (needs change ++ terms change) (behind_given change can))

  agrees : option_map_or are_entry_characteristics change.characteristics true ≡ true → (release : Bool) → change.release ≡ release → not (release && (change.hold || is_timed change.after)) ≡ true
      → ((counts_in verb.Set (Some entry_row) words.Release false (tail change) && counts_in verb.Set (Some entry_row) words.Hold false (tail change))
      || ((counts_in verb.Set (Some entry_row) words.Release false (tail change) && counts_in verb.Set (Some entry_row) words.After false (tail change)) || false)) ≡ false
  agrees can true is excludes =
      let held : change.hold ≡ false = neither_first change.hold (is_timed change.after) excludes in
      let timed : is_timed change.after ≡ false = neither_second change.hold (is_timed change.after) excludes in
      let given : AreGiven released_table (tail change) =
      all_given released_table (mark_given released_table words.Release change.release (inl refl))
      (subst (λ (b : Bool). AreGiven released_table (mark words.Hold b)) (sym held) tt) (untimed_given released_table change.after timed (inr (inl refl)))
      (given_behind ((words.Release, takes.Nothing) ∷ []) behind_hold (needs change ++ terms change) (behind_given change can)) in
      off_right (counts_in verb.Set (Some entry_row) words.Release false (tail change)) (counts_in verb.Set (Some entry_row) words.Hold false (tail change)) (counts_in verb.Set (Some entry_row) words.After false (tail change))
      (never_counts verb.Set (Some entry_row) words.Hold released_table (tail change) refl given) (never_counts verb.Set (Some entry_row) words.After released_table (tail change) refl given)
  agrees can false is excludes =
      let given : AreGiven held_table (tail change) =
      all_given held_table (subst (λ (b : Bool). AreGiven held_table (mark words.Release b)) (sym is) tt) (mark_given held_table words.Hold change.hold (inl refl))
      (after_given_in held_table change.after (inr (inl refl)) (inr (inr (inl refl))))
      (given_behind ((words.Hold, takes.Nothing) ∷ (words.After, takes.One) ∷ []) behind_hold (needs change ++ terms change) (behind_given change can)) in
      off_left (counts_in verb.Set (Some entry_row) words.Release false (tail change)) (counts_in verb.Set (Some entry_row) words.Hold false (tail change)) (counts_in verb.Set (Some entry_row) words.After false (tail change))
      (never_counts verb.Set (Some entry_row) words.Release held_table (tail change) refl given)

-- ---- what is given

of_entry : IsOfJob command.SetEntry
of_entry = record { no_nodes = λ word. refl; of_job = refl }

changed_after : (times : TimesRead) (user : List ℕ) (now : ℕ) (lists : Lists) (nodes : Option (List (List ℕ))) (input : Input) (number : Option ℕ) (o : Option (Option ℕ))
    (m : Option (List ℕ)) (p : Option ℕ) (ho re : Bool) (r : Option JobRetain) (rs : Option Bool) (f : Option NameOrNumber) (n : ℕ) (fl : Bool) (h : List Piece)
    → IfSome o (λ moment. IfSome moment IsMoment)
    → All_ask times user now command.SetEntry lists nodes input of_entry None number None (job_with m p o ho re r rs f n fl) h
    → All_ask times user now command.SetEntry lists nodes input of_entry None number None (job_with m p None ho re r rs f n fl) (after_pieces o ++ h)
changed_after times user now lists nodes input number None m p ho re r rs f n fl h lawful asks = asks
changed_after times user now lists nodes input number (Some None) m p ho re r rs f n fl h lawful asks =
    marked_asks times user now command.SetEntry lists nodes input of_entry None number words.NoAfter None (job_with m p None ho re r rs f n fl) h asks
changed_after times user now lists nodes input number (Some (Some moment)) m p ho re r rs f n fl h lawful asks =
    after_asks times user now command.SetEntry lists nodes input of_entry None number None (Some moment) m p ho re r rs f n fl h lawful asks

those_there : (o : Option (List NameOrNumber)) → option_map_or are_entry_characteristics o true ≡ true → listed_or_none (those o) ≡ o
those_there None can = refl
those_there (Some []) can = absurd cc
those_there (Some (first ∷ others)) can = refl

those_can : (o : Option (List NameOrNumber)) → IfSome o AreReferences → option_map_or are_entry_characteristics o true ≡ true → AllAre (CanBeSaid 255) (those o)
those_can None lawful can = tt
those_can (Some rs) lawful can = can_all 255 rs lawful (and_right (fits_list (length rs)) _ (and_right (nat_lt 0 (length rs)) (are_characteristics rs) can))

form_can_be : (o : Option NameOrNumber) → IfSome o IsReference → option_map_or is_form_reference o true ≡ true → IfSome o (CanBeSaid 65535)
form_can_be None lawful can = tt
form_can_be (Some form) lawful can = (lawful, can)

short_queue : (o : Option (List ℕ)) → option_map_or is_short o true ≡ true → IfSome o (λ name. is_short name ≡ true)
short_queue None short = tt
short_queue (Some name) short = short

two_front : (o : Option (List (List ℕ))) → option_or (option_or o None) None ≡ o
two_front None = refl
two_front (Some texts) = refl

module _ (times : TimesRead) (user : List ℕ) (number : ℕ) (within : number < 2 ^ 32) (change : EntryChange) (lawful : IsEntryChange change) (is : is_entry_change change ≡ true) where
  four : (sets_entry change && not (change.release && (change.hold || is_timed change.after)) && option_map_or are_entry_characteristics change.characteristics true
      && option_map_or is_form_reference change.form true) ≡ true
  four = and_left (sets_entry change && not (change.release && (change.hold || is_timed change.after)) && option_map_or are_entry_characteristics change.characteristics true
      && option_map_or is_form_reference change.form true) (option_map_or is_short change.queue true) is

  three : (sets_entry change && not (change.release && (change.hold || is_timed change.after)) && option_map_or are_entry_characteristics change.characteristics true) ≡ true
  three = and_left (sets_entry change && not (change.release && (change.hold || is_timed change.after)) && option_map_or are_entry_characteristics change.characteristics true)
      (option_map_or is_form_reference change.form true) four

  two : (sets_entry change && not (change.release && (change.hold || is_timed change.after))) ≡ true
  two = and_left (sets_entry change && not (change.release && (change.hold || is_timed change.after))) (option_map_or are_entry_characteristics change.characteristics true) three

  listed_can : option_map_or are_entry_characteristics change.characteristics true ≡ true
  listed_can = and_right (sets_entry change && not (change.release && (change.hold || is_timed change.after))) (option_map_or are_entry_characteristics change.characteristics true) three

  entry_makes : Makes verb.Set entry_row (entry_pieces number change)
  entry_makes = record {
    lexed = ((lit< tt, refl), (number_word number (omega (arith, within)), tail_words change lawful));
    leads = tt;
    found = refl;
    allowed = (
      refl,
      (
        refl,
        given_allows verb.Set entry_row entry_table (tail change) 2 false entry_itself (entry_given_all number change listed_can) refl
            (negated (has_some (tail change)) (sym (has_tail change listed_can) ∙ and_left (sets_entry change) _ two)),
      ),
    );
    agrees = agrees number change listed_can change.release refl (and_right (sets_entry change) _ two);
  }

  entry_asks : (now : ℕ) → AskFor user now command.SetEntry (Ask (SetEntry number change)) (entry_pieces number change)
  entry_asks now =
      let s : Settings = nothing_given command.SetEntry in
      let t : Settings = record s { awaits_object = false } in
      let u : Settings = record t { entry = Some number } in
      let lists : Lists = lists_by (spoken (entry_pieces number change)) in
      let nodes : Option (List (List ℕ)) = nodes_by (spoken (entry_pieces number change)) in
      let input : Input = Ask (SetEntry number change) in
      let can : AllAre (CanBeSaid 255) (those change.characteristics) = those_can change.characteristics lawful.characteristics listed_can in
      let h1 : List Piece = retain_piece change.retain ++ [] in
      let h2 : List Piece = restart_piece change.restart ++ h1 in
      let h3 : List Piece = text_piece words.Requeue change.queue ++ h2 in
      let h4 : List Piece = reference_piece words.Form change.form ++ h3 in
      let h5 : List Piece = characteristics_piece (those change.characteristics) ++ h4 in
      let h6 : List Piece = text_piece words.Name change.name ++ h5 in
      let h7 : List Piece = number_piece words.Priority change.priority ++ h6 in
      let h8 : List Piece = after_pieces change.after ++ h7 in
      let h9 : List Piece = mark words.Hold change.hold ++ h8 in
      let none : texts_of Characteristics (spoken h4) ≡ None =
      quiet Characteristics (reference_piece words.Form change.form) h3 (reference_quiet Characteristics words.Form change.form refl)
      ∙ quiet Characteristics (text_piece words.Requeue change.queue) h2 (text_quiet Characteristics words.Requeue change.queue refl)
      ∙ quiet Characteristics (restart_piece change.restart) h1 (restart_quiet Characteristics change.restart refl refl)
      ∙ quiet Characteristics (retain_piece change.retain) [] (retain_quiet Characteristics change.retain refl) in
      let given : lists.characteristics ≡ change.characteristics =
      ap (option_map (filter_map characteristic_said)) (
      two_front (texts_of Characteristics (spoken (tail change))) ∙ ap (λ (g : List Piece). texts_of Characteristics (spoken g)) (same_order change)
      ∙ quiet Characteristics (mark words.Release change.release) h9 (mark_quiet Characteristics words.Release change.release refl)
      ∙ quiet Characteristics (mark words.Hold change.hold) h8 (mark_quiet Characteristics words.Hold change.hold refl)
      ∙ quiet Characteristics (after_pieces change.after) h7 (after_quiet change.after)
      ∙ quiet Characteristics (number_piece words.Priority change.priority) h6 (number_quiet Characteristics words.Priority change.priority refl)
      ∙ quiet Characteristics (text_piece words.Name change.name) h5 (text_quiet Characteristics words.Name change.name refl))
      ∙ characteristics_there (those change.characteristics) h4 can none ∙ those_there change.characteristics listed_can in
      let m : Option (List ℕ) = change.name in let p : Option ℕ = change.priority in let a : Option (Option ℕ) = change.after in
      let end : All_ask times user now command.SetEntry lists nodes input of_entry None (Some number) change.queue
      (job_with m p a change.hold change.release change.retain change.restart change.form 1 false) [] = λ v holds. record {
        is = ap (λ (o : Option ℕ). option_map Ask (option_map (λ n. SetEntry n (entry_change_of v.job v.queue lists.characteristics)) o)) holds.entry_is
            ∙ ap (λ (j : JobSettings). Some (Ask (SetEntry number (entry_change_of j v.queue lists.characteristics)))) holds.job_is
            ∙ ap (λ (q : Option (List ℕ)). Some (Ask (SetEntry number (entry_change_of (job_with m p a change.hold change.release change.retain change.restart change.form 1 false) q lists.characteristics)))) holds.queue_is
            ∙ ap (λ (o : Option (List NameOrNumber)). Some (Ask (SetEntry number (entry_change_of (job_with m p a change.hold change.release change.retain change.restart change.form 1 false) change.queue o)))) given;
      } in
      let retains = retain_asks times user now command.SetEntry lists nodes input of_entry None (Some number) change.queue change.retain m p a change.hold change.release change.restart change.form 1 false [] lawful.retain end in
      let restarts = restart_asks times user now command.SetEntry lists nodes input of_entry None (Some number) change.queue change.restart m p a change.hold change.release None change.form 1 false h1 retains in
      let queues = queue_asks times user now command.SetEntry lists nodes input of_entry None (Some number) words.Requeue (λ x. refl) (λ v text inner. refl) change.queue
      (job_with m p a change.hold change.release None None change.form 1 false) h2 lawful.queue
      (short_queue change.queue (and_right (sets_entry change && not (change.release && (change.hold || is_timed change.after)) && option_map_or are_entry_characteristics change.characteristics true
      && option_map_or is_form_reference change.form true) (option_map_or is_short change.queue true) is)) restarts in
      let forms = form_asks times user now command.SetEntry lists nodes input of_entry None (Some number) None change.form m p a change.hold change.release None None 1 false h3
      (form_can_be change.form lawful.form (and_right (sets_entry change && not (change.release && (change.hold || is_timed change.after))
      && option_map_or are_entry_characteristics change.characteristics true) (option_map_or is_form_reference change.form true) four)) queues in
      let listed = characteristics_ask times user now command.SetEntry lists nodes input of_entry None (Some number) None (those change.characteristics)
      (job_with m p a change.hold change.release None None None 1 false) h4 can forms in
      let names = name_asks times user now command.SetEntry lists nodes input of_entry None (Some number) None m p a change.hold change.release None None None 1 false h5 lawful.name listed in
      let priorities = priority_asks times user now command.SetEntry lists nodes input of_entry None (Some number) None p None a change.hold change.release None None None 1 false h6 lawful.priority names in
      let afters = changed_after times user now lists nodes input (Some number) a None None change.hold change.release None None None 1 false h7 lawful.after priorities in
      let holds = hold_asks times user now command.SetEntry lists nodes input of_entry None (Some number) None change.hold None None None change.release None None None 1 false h8 afters in
      let releases = release_asks times user now command.SetEntry lists nodes input of_entry None (Some number) None change.release None None None false None None None 1 false h9 holds in
      one_asks s t (Spoken.SaysParameter (codes "ENTRY")) (Spoken.SaysParameter (decimal number) ∷ spoken (tail change)) refl
      (one_asks t u (Spoken.SaysParameter (decimal number)) (spoken (tail change))
      (ap (option_map (λ n. record t { entry = Some n })) (number_reads_back 4294967295 number (omega (arith, within)) (omega (arith, within))))
      (subst (λ (g : List Piece). Asks user now command.SetEntry lists nodes input u (spoken g)) (sym (same_order change))
      (releases u (record { file_is = refl; entry_is = refl; queue_is = refl; job_is = refl }))))

pub entry_back : TimesRead → (user : List ℕ) (number : ℕ) → number < 2 ^ 32 → (change : EntryChange) → IsEntryChange change → ReadsBack user (Ask (SetEntry number change))
entry_back times user number within change lawful = λ now text h.
    let is = (text_where (is_entry_change change) (set_entry_text number change) text h).0 in
    reads_back verb.Set entry_row (entry_pieces number change) user (Ask (SetEntry number change))
    (ap (λ (l : List ℕ). codes "SET ENTRY " ++ (decimal number ++ l)) (tail_text change (listed_can times user number within change lawful is)))
    (λ _. (entry_makes times user number within change lawful is, λ n. entry_asks times user number within change lawful is n)) now text h
