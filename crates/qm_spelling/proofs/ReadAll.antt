-- What a text asks for has a spelling.
use Rattle.std.proofs.Common.{◌≡◌, inr, ℕ, Bool, true, false, cond, ◌&&◌, ◌||◌, nat_lt, List, [], ◌∷◌, length, map, find, Option, None, Some, Result, Ok, Err, IfOk, IfSome, is_some, refl, sym, ap, ◌∙◌, subst, arith, Contains, option_map, filter_map, ok_or}
use Rattle.std.specs.List.{list_all}
use Rattle.qm_kinds.specs.declared.input.Input.{Input}
use Rattle.qm_commands.specs.declared.tokens.token.Token.{Token}
use Rattle.qm_commands.specs.Tokens.{tokens_of}
use Rattle.qm_commands.specs.declared.fault.Fault.{Fault}
use Rattle.qm_grammar.specs.declared.part.Part.{Part}
use Rattle.qm_grammar.specs.declared.part.Part.TheVariants.{Value}
use Rattle.qm_commands.specs.declared.rules.Takes.{Takes}
use Rattle.qm_commands.specs.declared.table.Command.{Command}
use Rattle.qm_commands.specs.declared.table.Command.TheVariants as command
use Rattle.qm_commands.specs.declared.table.Row.{Row}
use Rattle.qm_commands.specs.declared.table.Verb.{Verb}
use Rattle.qm_commands.specs.declared.table.Verb.TheVariants as verbs
use Rattle.qm_commands.specs.declared.word.Word.{Word}
use Rattle.qm_commands.specs.declared.word.Word.TheVariants as words
use Rattle.qm_names.specs.Conflicts.{counting_place, first_conflict, or_conflict}
use Rattle.qm_grammar.specs.Finding.{verb_of, is_named, row_of, named_behind, named_command}
use Rattle.qm_commands.specs.Naming.{names_for}
use Rattle.qm_grammar.specs.Parsed.{tokens_in, tokens_by, parts_in, or_unreadable, command_in}
use Rattle.qm_grammar.specs.Parts.{parts_from, parts_behind, parts_of}
use Rattle.qm_grammar.specs.Places.{begun}
use Rattle.qm_grammar.specs.Reading.{read_from, command_by, command_behind, command_of as read_command}
use Rattle.qm_commands.specs.Rules.{rules_of, exclusions_of}
use Rattle.qm_commands.specs.Table.{rows_of}
use Rattle.qm_commands.specs.Words.{spelling}
use Rattle.qm_dcl.specs.declared.lists.Lists.{Lists}
use Rattle.qm_dcl.specs.declared.lists.ListOf.TheVariants.{Characteristics, Targets}
use Rattle.qm_dcl.specs.declared.settings.Settings.{Settings}
use Rattle.qm_dcl.specs.Command.{asked, not_built, judged, asked_with, meant, unnamed, command_named, command_of}
use Rattle.qm_dcl.specs.Entries.{entry_change_of}
use Rattle.qm_dcl.specs.Given.{with_word}
use Rattle.qm_dcl.specs.Lists.{gives, values_ahead, behind_last, lists_of, nodes_of}
use Rattle.qm_dcl.specs.Settings.{nothing_given, settings_from, settings_of}
use Rattle.qm_dcl.specs.Values.{said_by, characteristic_said, short_name_said}
use Rattle.qm_sayable.specs.Commands.{is_command}
use Rattle.qm_spelling.specs.Commands.{command_text, spelling_of}
use Rattle.qm_sayable.specs.Jobs.{is_timed, sets_entry}
use Rattle.qm_spelling.proofs.ReadCommands.{HasSpelling, IsWhole, of_command}
use Rattle.qm_spelling.proofs.ReadConflicts.{has_place, no_conflict, no_further_conflict}
use Rattle.qm_spelling.proofs.ReadEntry.{is_of_entry, entry_needs, entry_is_set}
use Rattle.qm_spelling.proofs.ReadEquals.{tokens_have}
use Rattle.qm_spelling.proofs.ReadFirst.{value_is_read, list_is_given, list_has_some}
use Rattle.qm_spelling.proofs.ReadGiven.{is_release, is_hold, is_on, after_given, is_of_batch, Of, Times, Located, IsBatch, release_is_given, hold_is_given, after_is_given, location_is_given, job_is_of_batch}
use Rattle.qm_spelling.proofs.ReadLists.{AreLists, lists_are_sayable}
use Rattle.qm_spelling.proofs.ReadNames.{tracks_alone, tracks_after}
use Rattle.qm_spelling.proofs.ReadSayable.{AreSayable, settings_are_sayable}
use Rattle.qm_spelling.proofs.ReadSet.{HasInner, all_lawful, is_of_queue_settings, queue_needs, queue_is_set}
use Rattle.qm_spelling.proofs.ReadSettings.{folded}
use Rattle.qm_spelling.proofs.ReadTokens.{HaveEquals, AreLawful, has_qualifier, suits, mapped, parts_are_lawful}

-- ---- the table of commands

abbrev verb_for : Command → Verb
verb_for command.InitializeQueue = verbs.Initialize
verb_for command.SetEntry = verbs.Set
verb_for command.SetQueue = verbs.Set
verb_for command.StartManager = verbs.Start
verb_for command.StartQueue = verbs.Start
verb_for command.StopQueue = verbs.Stop
verb_for command.DeleteQueue = verbs.Delete
verb_for command.DeleteForm = verbs.Delete
verb_for command.DeleteCharacteristic = verbs.Delete
verb_for command.DeleteEntry = verbs.Delete
verb_for command.AssignMerge = verbs.Assign
verb_for command.DefineForm = verbs.Define
verb_for command.DefineCharacteristic = verbs.Define
verb_for command.Submit = verbs.Submit
verb_for command.Print = verbs.Print
verb_for command.ShowForms = verbs.Show
verb_for command.ShowCharacteristics = verbs.Show
verb_for command.ShowManagers = verbs.Show
verb_for command.ShowQueue = verbs.Show
verb_for command.ShowEntry = verbs.Show

abbrev needs_qualifier : Command → Bool
needs_qualifier command.SetEntry = true
needs_qualifier command.SetQueue = true
needs_qualifier _ = false

-- a row of this verb
abbrev IsRow : Verb → Row → Type 0
IsRow verb row = (verb_for row.command ≡ verb) × (needs_qualifier row.command ≡ row.must_set)

abbrev AreRows : Verb → List Row → Type 0
AreRows verb [] = Unit {0}
AreRows verb (row ∷ rows) = IsRow verb row × AreRows verb rows

rows_are : (verb : Verb) → AreRows verb (rows_of verb)
rows_are verbs.Initialize = ((refl, refl), tt)
rows_are verbs.Set = ((refl, refl), ((refl, refl), tt))
rows_are verbs.Start = ((refl, refl), ((refl, refl), tt))
rows_are verbs.Stop = ((refl, refl), tt)
rows_are verbs.Delete = ((refl, refl), ((refl, refl), ((refl, refl), ((refl, refl), tt))))
rows_are verbs.Assign = ((refl, refl), tt)
rows_are verbs.Define = ((refl, refl), ((refl, refl), tt))
rows_are verbs.Submit = ((refl, refl), tt)
rows_are verbs.Print = ((refl, refl), tt)
rows_are verbs.Show = ((refl, refl), ((refl, refl), ((refl, refl), ((refl, refl), ((refl, refl), tt)))))

found_row : (verb : Verb) (p : Row → Bool) (rows : List Row) → AreRows verb rows → IfSome (find p rows) (IsRow verb)
found_row verb p [] are = tt
found_row verb p (row ∷ rows) are = first (p row) (found_row verb p rows are.1)
  where
    first : (b : Bool) → IfSome (find p rows) (IsRow verb) → IfSome (cond b (Some row) (find p rows)) (IsRow verb)
    first true later = are.0
    first false later = later

row_is : (text : List ℕ) (tokens : List Token) (verb : Verb) (row : Row) → row_of text tokens verb ≡ Some row → IsRow verb row
row_is text tokens verb row found =
    subst (λ (o : Option Row). IfSome o (IsRow verb)) found (found_row verb (is_named text verb tokens) (rows_of verb) (rows_are verb))

-- ---- what holds of what is read

joined : (A B C : Type 0) (r : Result Command Fault) → (A → B → C) → IfOk r (λ _. A) → IfOk r (λ _. B) → IfOk r (λ _. C)
joined A B C (Ok c) f a b = f a b
joined A B C (Err e) f a b = tt

always : (A : Type 0) (r : Result Command Fault) → A → IfOk r (λ _. A)
always A (Ok c) a = a
always A (Err e) a = tt

module _ (P Q R : Settings → Type 0) where
  given_then : (r : Result Settings Fault) → ((s : Settings) → P s → R s) → IfOk r P → IfOk r R
  given_then (Ok s) f p = f s p
  given_then (Err e) f p = tt

  given_both : (r : Result Settings Fault) → ((s : Settings) → P s → Q s → R s) → IfOk r P → IfOk r Q → IfOk r R
  given_both (Ok s) f p q = f s p q
  given_both (Err e) f p q = tt

nothing_more : (r : Result Settings Fault) → IfOk r (λ _. Unit {0})
nothing_more (Ok s) = tt
nothing_more (Err e) = tt

or_nothing : (b : Bool) → (b || false) ≡ true → b ≡ true
or_nothing true h = refl
or_nothing false h = h

not_given : {X : Type 0} (o : Option X) → (is_some o ≡ true → ⊥) → o ≡ None
not_given None never = refl
not_given (Some x) never = absurd (never refl)

unless_both : (release hold timed : Bool) → (release ≡ true → hold ≡ true → ⊥) → (release ≡ true → timed ≡ true → ⊥) → (release && (hold || timed)) ≡ false
unless_both false hold timed a b = refl
unless_both true true timed a b = absurd (a refl refl)
unless_both true false true a b = absurd (b refl refl)
unless_both true false false a b = refl

-- the list is given where a qualifier gives it
list_given : {X : Type 0} (read : Token → Option X) (behind : Option (List Part)) → is_some behind ≡ true → is_some (option_map (filter_map read) (option_map values_ahead behind)) ≡ true
list_given read None h = h
list_given read (Some parts) h = refl

abbrev none : Word → Bool
none word = false

-- ---- the values of a list are read

only_release : (w : Word) → is_release w ≡ true → w ≡ words.Release
only_release words.Release h = refl
only_release _ h = absurd cc

only_hold : (w : Word) → is_hold w ≡ true → w ≡ words.Hold
only_hold words.Hold h = refl
only_hold _ h = absurd cc

only_on : (w : Word) → is_on w ≡ true → w ≡ words.On
only_on words.On h = refl
only_on _ h = absurd cc

only_generic : (w : Word) → gives Targets w ≡ true → w ≡ words.Generic
only_generic words.Generic h = refl
only_generic _ h = absurd cc

target_read : (now : ℕ) (text : List ℕ) (s : Settings) (word : Word) (token : Token) (rest : List Part) → gives Targets word ≡ true
    → IfOk (settings_from now text command.InitializeQueue (with_word s word) (Value token ∷ rest)) (λ _. is_some (short_name_said (said_by text token)) ≡ true)
target_read now text s words.Generic token rest h = value_is_read (short_name_said (said_by text token)) _ _ _
target_read now text s _ token rest h = absurd cc

characteristic_read : (now : ℕ) (text : List ℕ) (s : Settings) (word : Word) (token : Token) (rest : List Part) → is_of_entry word ≡ true → gives Characteristics word ≡ true
    → IfOk (settings_from now text command.SetEntry (with_word s word) (Value token ∷ rest)) (λ _. is_some (characteristic_said (said_by text token)) ≡ true)
characteristic_read now text s words.Characteristics token rest may h = value_is_read (characteristic_said (said_by text token)) _ _ _
characteristic_read now text s words.NoCharacteristics token rest may h = absurd cc
characteristic_read now text s _ token rest may h = absurd cc

wants_characteristic : (word : Word) → is_of_entry word ≡ true → gives Characteristics word ≡ true → entry_needs word ≡ true
wants_characteristic words.Characteristics may h = refl
wants_characteristic words.NoCharacteristics may h = absurd cc
wants_characteristic _ may h = absurd cc

-- ---- a command that is read

module _ (now : ℕ) (text : List ℕ) (first : Token) (tokens : List Token) (verb : Verb) (row : Row) (have : HaveEquals text tokens) (is_row : IsRow verb row)
    (free : first_conflict text verb (Some row) tokens (exclusions_of verb) ≡ None) where
  abbrev parts : List Part
  parts = parts_from text verb (Some row) (begun first) tokens

  abbrev read : Result Command Fault
  read = read_from text verb (Some row) (begun first) tokens

  abbrev lists : Lists
  lists = lists_of text parts

  abbrev Whole : Command → Type 0
  Whole c = IfOk (settings_of now text c parts) (λ s. IsWhole c s lists)

  abbrev Lawful : (Word → Bool) → (Word → Bool) → Type 0
  Lawful allowed needs = AreLawful text allowed needs parts × (row.must_set ≡ true → has_qualifier parts ≡ true)

  abbrev place_of : Word → Option ℕ
  place_of word = counting_place text verb (Some row) tokens word

  lawful : (allowed needs : Word → Bool) (c : Command) → row.command ≡ c → list_all (suits allowed needs) (rules_of c) ≡ true → IfOk read (λ _. Lawful allowed needs)
  lawful allowed needs c is suited =
      mapped _ (Lawful allowed needs) read (λ f. (f.0, (λ m. or_nothing (has_qualifier parts) (f.1 m))))
      (parts_are_lawful text allowed needs verb row (subst (λ (d : Command). list_all (suits allowed needs) (rules_of d) ≡ true) (sym is) suited) tokens (begun first) have)

  submit : row.command ≡ command.Submit → IfOk read (λ _. Whole command.Submit)
  submit is =
      mapped (Lawful is_of_batch none) (Whole command.Submit) read
      (λ l. given_then IsBatch IsBatch (λ s. IsWhole command.Submit s lists) (settings_of now text command.Submit parts) (λ s p. record { form = p.0; copies = p.1; flag = p.2 })
      (job_is_of_batch now text (HasInner text) parts (all_lawful text is_of_batch none parts l.0)))
      (lawful is_of_batch none command.Submit is refl)

  -- ---- INITIALIZE/QUEUE

  passing_on : (behind : Option (List Part)) (s : Settings) → (is_some behind ≡ true → s.queue_settings.location ≡ None)
      → IfSome (option_map (filter_map (λ token. short_name_said (said_by text token))) (option_map values_ahead behind)) (λ names. nat_lt 0 (length names) ≡ true)
      → IfSome (option_map (filter_map (λ token. short_name_said (said_by text token))) (option_map values_ahead behind)) (λ names. (nat_lt 0 (length names) ≡ true) × (s.queue_settings.location ≡ None))
  passing_on None s nowhere some = tt
  passing_on (Some behind) s nowhere some = (some, nowhere refl)

  abbrev IsGiven : (Word → Bool) → Bool
  IsGiven is_it = folded (λ word b. is_it word || b) (λ b. b) false parts

  initialized : AreLawful text (λ word. true) (gives Targets) parts → (IsGiven (gives Targets) ≡ true → IsGiven is_on ≡ true → ⊥) → Whole command.InitializeQueue
  initialized all apart =
      given_both (λ s. IfSome lists.targets (λ names. nat_lt 0 (length names) ≡ true)) (Located (IsGiven is_on)) (λ s. IsWhole command.InitializeQueue s lists)
      (settings_of now text command.InitializeQueue parts)
      (λ s some located. passing_on (behind_last Targets parts) s
      (λ given. not_given s.queue_settings.location (λ stands. apart (list_is_given Targets parts false (inr given)) (located.0 stands))) some)
      (list_has_some now text command.InitializeQueue Targets (λ word. true) (gives Targets) (λ token. short_name_said (said_by text token)) (λ word may h. h)
      (λ s word token rest may h. target_read now text s word token rest h) parts (nothing_given command.InitializeQueue) all)
      (location_is_given text (λ word. true ≡ true) (HasInner text) now parts (all_lawful text (λ word. true) (gives Targets) parts all))

  initialize : row.command ≡ command.InitializeQueue → IfOk read (λ _. Whole command.InitializeQueue)
  initialize is =
      let verb_is : verb ≡ verbs.Initialize = sym is_row.0 ∙ ap verb_for is in
      let free_of : first_conflict text verb (Some row) tokens ((words.Generic, words.On) ∷ []) ≡ None =
      subst (λ (l : List (Word × Word)). first_conflict text verb (Some row) tokens l ≡ None) (ap exclusions_of verb_is) free in
      joined (Lawful (λ word. true) (gives Targets)) (IsGiven (gives Targets) ≡ true → IsGiven is_on ≡ true → ⊥) (Whole command.InitializeQueue) read (λ l apart. initialized l.0 apart)
      (lawful (λ word. true) (gives Targets) command.InitializeQueue is refl)
      (joined (IsGiven (gives Targets) ≡ true → is_some (place_of words.Generic) ≡ true) (IsGiven is_on ≡ true → is_some (place_of words.On) ≡ true)
      (IsGiven (gives Targets) ≡ true → IsGiven is_on ≡ true → ⊥) read
      (λ generic on g o. no_conflict text verb (Some row) tokens (words.Generic, words.On) [] free_of (generic g) (on o))
      (has_place text verb (Some row) words.Generic (λ word b. gives Targets word || b) (tracks_alone text verb (Some row) words.Generic (gives Targets) only_generic refl) first tokens)
      (has_place text verb (Some row) words.On (λ word b. is_on word || b) (tracks_alone text verb (Some row) words.On is_on only_on refl) first tokens))

  -- ---- SET QUEUE

  characteristics_given : is_some (behind_last Characteristics parts) ≡ true → is_some lists.characteristics ≡ true
  characteristics_given h = list_given (λ token. characteristic_said (said_by text token)) (behind_last Characteristics parts) h

  must : (c : Command) → row.command ≡ c → needs_qualifier c ≡ true → row.must_set ≡ true
  must c is needs = sym is_row.1 ∙ ap needs_qualifier is ∙ needs

  set_queue : row.command ≡ command.SetQueue → IfOk read (λ _. Whole command.SetQueue)
  set_queue is =
      mapped (Lawful is_of_queue_settings queue_needs) (Whole command.SetQueue) read
      (λ l. queue_is_set now text parts lists.characteristics characteristics_given (l.1 (must command.SetQueue is refl)) l.0)
      (lawful is_of_queue_settings queue_needs command.SetQueue is refl)

  -- ---- SET ENTRY

  abbrev IsTimed : Bool
  IsTimed = folded after_given (λ b. b) false parts

  abbrev AreApart : Type 0
  AreApart = (IsGiven is_release ≡ true → IsGiven is_hold ≡ true → ⊥) × (IsGiven is_release ≡ true → IsTimed ≡ true → ⊥)

  released : AreLawful text is_of_entry entry_needs parts → AreApart
      → IfOk (settings_of now text command.SetEntry parts) (λ s. (s.job.release && (s.job.hold || is_timed s.job.after)) ≡ false)
  released all apart =
      let lawful_parts = all_lawful text is_of_entry entry_needs parts all in
      let given : Result Settings Fault = settings_of now text command.SetEntry parts in
      given_both (λ s. (s.job.release ≡ true → IsGiven is_release ≡ true) × (s.job.hold ≡ true → IsGiven is_hold ≡ true)) (Of (Times IsTimed))
      (λ s. (s.job.release && (s.job.hold || is_timed s.job.after)) ≡ false) given
      (λ s a t. unless_both s.job.release s.job.hold (is_timed s.job.after) (λ r h. apart.0 (a.0 r) (a.1 h)) (λ r h. apart.1 (a.0 r) (t.0 h)))
      (given_both (λ s. s.job.release ≡ true → IsGiven is_release ≡ true) (λ s. s.job.hold ≡ true → IsGiven is_hold ≡ true)
      (λ s. (s.job.release ≡ true → IsGiven is_release ≡ true) × (s.job.hold ≡ true → IsGiven is_hold ≡ true)) given (λ s a b. (a, b))
      (release_is_given text (λ word. is_of_entry word ≡ true) (HasInner text) now parts lawful_parts)
      (hold_is_given text (λ word. is_of_entry word ≡ true) (HasInner text) now parts lawful_parts))
      (after_is_given text (λ word. is_of_entry word ≡ true) (HasInner text) now parts lawful_parts)

  changed : Lawful is_of_entry entry_needs → row.must_set ≡ true → AreApart → Whole command.SetEntry
  changed l needs apart =
      let given : Result Settings Fault = settings_of now text command.SetEntry parts in
      given_both (λ s. (s.job.release && (s.job.hold || is_timed s.job.after)) ≡ false)
      (λ s. IfSome lists.characteristics (λ cs. nat_lt 0 (length cs) ≡ true) × (sets_entry (entry_change_of s.job s.queue lists.characteristics) ≡ true))
      (λ s. IsWhole command.SetEntry s lists) given
      (λ s a b. record { sets = b.1; released = a; some = b.0 })
      (released l.0 apart)
      (given_both (λ s. IfSome lists.characteristics (λ cs. nat_lt 0 (length cs) ≡ true)) (λ s. sets_entry (entry_change_of s.job s.queue lists.characteristics) ≡ true)
      (λ s. IfSome lists.characteristics (λ cs. nat_lt 0 (length cs) ≡ true) × (sets_entry (entry_change_of s.job s.queue lists.characteristics) ≡ true)) given (λ s a b. (a, b))
      (list_has_some now text command.SetEntry Characteristics is_of_entry entry_needs (λ token. characteristic_said (said_by text token)) wants_characteristic
      (characteristic_read now text) parts (nothing_given command.SetEntry) l.0)
      (entry_is_set now text parts lists.characteristics characteristics_given (l.1 needs) l.0))

  names_no_after : row.command ≡ command.SetEntry → Contains (names_for verb (Some row)) (spelling words.NoAfter)
  names_no_after is =
      subst (λ (c : Command). Contains (map (λ (rule : Word × Takes). spelling rule.0) (rules_of c)) (spelling words.NoAfter)) (sym is) (3, omega arith, refl)

  apart_by_tokens : row.command ≡ command.SetEntry → IfOk read (λ _. AreApart)
  apart_by_tokens is =
      let verb_is : verb ≡ verbs.Set = sym is_row.0 ∙ ap verb_for is in
      let pairs : List (Word × Word) = (words.Release, words.After) ∷ [] in
      let free_of : first_conflict text verb (Some row) tokens ((words.Release, words.Hold) ∷ pairs) ≡ None =
      subst (λ (l : List (Word × Word)). first_conflict text verb (Some row) tokens l ≡ None) (ap exclusions_of verb_is) free in
      joined ((IsGiven is_release ≡ true → is_some (place_of words.Release) ≡ true) × (IsGiven is_hold ≡ true → is_some (place_of words.Hold) ≡ true))
      (IsTimed ≡ true → is_some (place_of words.After) ≡ true) AreApart read
      (λ a timed. (
        (λ r h. no_conflict text verb (Some row) tokens (words.Release, words.Hold) pairs free_of (a.0 r) (a.1 h)),
        (λ r t. no_conflict text verb (Some row) tokens (words.Release, words.After) [] (no_further_conflict text verb (Some row) tokens (words.Release, words.Hold) pairs free_of) (a.0 r) (timed t)),
      ))
      (joined (IsGiven is_release ≡ true → is_some (place_of words.Release) ≡ true) (IsGiven is_hold ≡ true → is_some (place_of words.Hold) ≡ true)
      ((IsGiven is_release ≡ true → is_some (place_of words.Release) ≡ true) × (IsGiven is_hold ≡ true → is_some (place_of words.Hold) ≡ true)) read (λ a b. (a, b))
      (has_place text verb (Some row) words.Release (λ word b. is_release word || b) (tracks_alone text verb (Some row) words.Release is_release only_release refl) first tokens)
      (has_place text verb (Some row) words.Hold (λ word b. is_hold word || b) (tracks_alone text verb (Some row) words.Hold is_hold only_hold refl) first tokens))
      (has_place text verb (Some row) words.After after_given (tracks_after text verb (Some row) (names_no_after is)) first tokens)

  set_entry : row.command ≡ command.SetEntry → IfOk read (λ _. Whole command.SetEntry)
  set_entry is =
      joined (Lawful is_of_entry entry_needs) AreApart (Whole command.SetEntry) read (λ l apart. changed l (must command.SetEntry is refl) apart)
      (lawful is_of_entry entry_needs command.SetEntry is refl) (apart_by_tokens is)

  whole : (c : Command) → row.command ≡ c → IfOk read (λ _. Whole c)
  whole command.Submit is = submit is
  whole command.InitializeQueue is = initialize is
  whole command.SetQueue is = set_queue is
  whole command.SetEntry is = set_entry is
  whole c is = always (Whole c) read (nothing_more (settings_of now text c parts))

-- ---- a text

abbrev failed : Fault → Result Command Fault
failed f = Err f

one_err : (A : Type 0) (b : Bool) (e f : Fault) → IfOk (cond b (failed e) (failed f)) (λ _. A)
one_err A true e f = tt
one_err A false e f = tt

unreadable_err : (A : Type 0) (place : ℕ) (r : Result Command Fault) → IfOk (or_unreadable (Err place) r) (λ _. A)
unreadable_err A place (Ok c) = tt
unreadable_err A place (Err f) = one_err A (nat_lt f.place place) f _

conflict_ok : (A : Type 0) (o : Option ℕ) (r : Result Command Fault) → (o ≡ None → IfOk r (λ _. A)) → IfOk (or_conflict o r) (λ _. A)
conflict_ok A None r h = h refl
conflict_ok A (Some at) (Ok c) h = tt
conflict_ok A (Some at) (Err f) h = one_err A (nat_lt at f.place) _ f

or_not_built : (o : Option Input) → IfSome o HasSpelling → IfOk (ok_or o not_built) HasSpelling
or_not_built None h = tt
or_not_built (Some input) h = h

module _ (user : List ℕ) (c : Command) (lists : Lists) (nodes : Option (List (List ℕ))) (are : AreLists lists nodes) where
  one_fault : (b : Bool) (f g : Fault) → IfOk (asked_with user c lists nodes (cond b (Err f) (Err g))) HasSpelling
  one_fault true f g = tt
  one_fault false f g = tt

  judged_spelled : (read : Result Command Fault) (given : Result Settings Fault) → IfOk given (AreSayable c) → IfOk read (λ _. IfOk given (λ s. IsWhole c s lists))
      → IfOk (asked_with user c lists nodes (judged read given)) HasSpelling
  judged_spelled (Ok d) (Ok s) says whole = or_not_built (asked user c s lists nodes) (of_command user s lists nodes are c says whole)
  judged_spelled (Ok d) (Err f) says whole = tt
  judged_spelled (Err f) (Ok s) says whole = tt
  judged_spelled (Err f) (Err value) says whole = one_fault (nat_lt value.place f.place) value f

module _ (user : List ℕ) (now : ℕ) (text : List ℕ) where
  unnamed_spelled : (read : Result Command Fault) → IfOk (unnamed read) HasSpelling
  unnamed_spelled (Ok c) = tt
  unnamed_spelled (Err f) = tt

  module _ (first : Token) (tokens : List Token) (are : tokens_in text ≡ first ∷ tokens) (verb : Verb) (verb_is : verb_of text first ≡ Some verb) (row : Row) (row_found : row_of text tokens verb ≡ Some row) where
    abbrev all_parts : List Part
    all_parts = parts_from text verb (Some row) (begun first) tokens

    parts_are : parts_in text ≡ all_parts
    parts_are =
        ap (parts_of text) are ∙ ap (parts_behind text first tokens) verb_is
        ∙ ap (λ (r : Option Row). parts_from text verb r (begun first) tokens) row_found

    abbrev Fact : Type 0
    Fact = IfOk (settings_of now text row.command all_parts) (λ s. IsWhole row.command s (lists_of text all_parts))

    by_row : HaveEquals text tokens → IfOk (command_by text first tokens verb (Some row)) (λ _. Fact)
    by_row have =
        conflict_ok Fact (first_conflict text verb (Some row) tokens (exclusions_of verb)) (read_from text verb (Some row) (begun first) tokens)
        (λ free. whole now text first tokens verb row have (row_is text tokens verb row row_found) free row.command refl)

    by_tokens : HaveEquals text tokens → IfOk (read_command text (tokens_in text)) (λ _. Fact)
    by_tokens have =
        subst (λ (l : List Token). IfOk (read_command text l) (λ _. Fact)) (sym are)
        (subst (λ (v : Option Verb). IfOk (command_behind text first tokens v) (λ _. Fact)) (sym verb_is)
        (subst (λ (r : Option Row). IfOk (command_by text first tokens verb r) (λ _. Fact)) (sym row_found) (by_row have)))

    by_text : (found : Result (List Token) ℕ) → tokens_of text ≡ found → IfOk (or_unreadable found (read_command text (tokens_in text))) (λ _. Fact)
    by_text (Err place) is = unreadable_err Fact place (read_command text (tokens_in text))
    by_text (Ok found) is =
        let same : found ≡ first ∷ tokens = sym (ap (tokens_by text) is) ∙ are in
        by_tokens (tokens_have text (first ∷ tokens) (is ∙ ap (λ (l : List Token). Ok l) same)).1

    meant_spelled : IfOk (meant user now text row.command) HasSpelling
    meant_spelled =
        judged_spelled user row.command (lists_of text (parts_in text)) (nodes_of text (parts_in text)) (lists_are_sayable text) (command_in text)
        (settings_of now text row.command (parts_in text)) (settings_are_sayable now text row.command (parts_in text))
        (subst (λ (ps : List Part). IfOk (command_in text) (λ _. IfOk (settings_of now text row.command ps) (λ s. IsWhole row.command s (lists_of text ps)))) (sym parts_are)
        (by_text (tokens_of text) refl))

  row_spelled : (first : Token) (tokens : List Token) (verb : Verb) (row : Option Row) → tokens_in text ≡ first ∷ tokens → verb_of text first ≡ Some verb → row_of text tokens verb ≡ row
      → IfOk (command_named user now text (option_map (λ (r : Row). r.command) row)) HasSpelling
  row_spelled first tokens verb None are verb_is row_found = unnamed_spelled (command_in text)
  row_spelled first tokens verb (Some row) are verb_is row_found = meant_spelled first tokens are verb verb_is row row_found

  verb_spelled : (first : Token) (tokens : List Token) (verb : Option Verb) → tokens_in text ≡ first ∷ tokens → verb_of text first ≡ verb
      → IfOk (command_named user now text (named_behind text tokens verb)) HasSpelling
  verb_spelled first tokens None are verb_is = unnamed_spelled (command_in text)
  verb_spelled first tokens (Some verb) are verb_is = row_spelled first tokens verb (row_of text tokens verb) are verb_is refl

  tokens_spelled : (tokens : List Token) → tokens_in text ≡ tokens → IfOk (command_named user now text (named_command text tokens)) HasSpelling
  tokens_spelled [] are = unnamed_spelled (command_in text)
  tokens_spelled (first ∷ tokens) are = verb_spelled first tokens (verb_of text first) are refl

  -- what a text asks for has a spelling
  pub has_spelling : (input : Input) → command_of user now text ≡ Ok input → is_some (spelling_of input) ≡ true
  has_spelling input h =
      let is : is_command input ≡ true = subst (λ (r : Result Input Fault). IfOk r HasSpelling) h (tokens_spelled (tokens_in text) refl) in
      ap (λ (b : Bool). is_some (cond b (Some (command_text input)) None)) is
