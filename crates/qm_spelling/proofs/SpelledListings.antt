-- SHOW QUEUE and SHOW ENTRY.
use Rattle.std.proofs.Common.{◌≡◌, inl, inr, ◌<◌, ◌^◌, ℕ, List, [], ◌∷◌, ◌++◌, codes, decimal, IfSome, Option, None, Some, is_some, Bool, true, false, cond, not, ◌&&◌, ◌||◌, if◌then◌else◌, refl, sym, ap, subst, ◌∙◌, arith, lit<, append_assoc, append-nil, option_map, unwrap_or}
use Rattle.std.proofs.lemmas.Slice.Eq.{bytes_eq-Decides}
use Rattle.qm_model.specs.Common.{IsText, is_pattern_byte, Input, Show, After, Listing, Queues, Jobs, Entries, Forms, Characteristics, Manager, Cancel, Query}
use Rattle.qm_commands.specs.declared.rules.Takes.{Takes}
use Rattle.qm_commands.specs.declared.rules.Takes.TheVariants as takes
use Rattle.qm_commands.specs.declared.table.Command.{Command}
use Rattle.qm_commands.specs.declared.table.Command.TheVariants as command
use Rattle.qm_commands.specs.declared.table.Row.{Row}
use Rattle.qm_commands.specs.declared.table.Verb.TheVariants as verb
use Rattle.qm_commands.specs.declared.word.Word.{Word}
use Rattle.qm_commands.specs.declared.word.Word.TheVariants as words
use Rattle.qm_commands.specs.Table.{object_row}
use Rattle.qm_dcl.specs.declared.lists.Lists.{Lists}
use Rattle.qm_dcl.specs.declared.settings.ListingSettings.{ListingSettings}
use Rattle.qm_dcl.specs.declared.settings.Settings.{Settings}
use Rattle.qm_dcl.specs.Given.{with_word, entry_given, pattern_given, parametered}
use Rattle.qm_dcl.specs.Settings.{nothing_given}
use Rattle.qm_dcl.specs.Showing.{all_kinds, forms_query, characteristics_query, queues_query}
use Rattle.qm_dcl.specs.Values.{are_digits, says_all}
use Rattle.qm_spelling.specs.Lawful.{IsQueryOf}
use Rattle.qm_sayable.specs.Listings.{are_all, is_for_all, is_query}
use Rattle.qm_spelling.specs.Listings.{pattern_text, kinds_text, query_text}
use Rattle.qm_spelling.specs.Pieces.{marked}
use Rattle.qm_spelling.specs.ReadBack.{ReadsBack}
use Rattle.qm_spelling.proofs.Values.{decimal_is_digits, number_reads_back, pattern_reads_back}
use Rattle.qm_spelling.proofs.SpelledLexemes.{text_of}
use Rattle.qm_spelling.proofs.SpelledPieces.{Piece, ArePieces, command_lexemes}
use Rattle.qm_spelling.proofs.SpelledReading.{Spoken, spoken}
use Rattle.qm_spelling.proofs.SpelledFinding.{counts_in, Makes}
use Rattle.qm_spelling.proofs.SpelledLists.{lists_by, nodes_by}
use Rattle.qm_spelling.proofs.SpelledCommand.{Asks, AskFor, one_asks, text_where, reads_back}
use Rattle.qm_spelling.proofs.SpelledTails.{mark, pieces_text, both_texts, mark_text, In, AreGiven, AreItself, given_append, pieces_append, given_allows, given_leaves}
use Rattle.qm_spelling.proofs.SpelledWords.{pattern_word, number_word}
use Rattle.qm_spelling.proofs.SpelledTruth.{and_left, and_right}

-- ---- a pattern

-- a pattern, unless it is * alone
abbrev pattern_piece : Bool → List ℕ → List Piece
pattern_piece true pattern = []
pattern_piece false pattern = Piece.Parameter pattern ∷ []

abbrev pattern_option : Bool → List ℕ → Option (List ℕ)
pattern_option true pattern = None
pattern_option false pattern = Some pattern

pattern_is : (b : Bool) (pattern : List ℕ) → says_all pattern ≡ b → unwrap_or (pattern_option b pattern) (42 ∷ []) ≡ pattern
pattern_is true pattern h = sym ((bytes_eq-Decides pattern (codes "*")).0 h)
pattern_is false pattern h = refl

pattern_piece_text : (pattern : List ℕ) → pattern_text pattern ≡ pieces_text (pattern_piece (says_all pattern) pattern)
pattern_piece_text pattern = by (says_all pattern)
  where
    by : (b : Bool) → (if b then [] else codes " " ++ pattern) ≡ pieces_text (pattern_piece b pattern)
    by true = refl
    by false = ap (λ (l : List ℕ). 32 ∷ l) (sym (append-nil pattern))

-- a query with these parts
abbrev query_with : Listing → List ℕ → Option ℕ → Option (List ℕ) → Bool → Bool → Bool → Bool → Query
query_with listing pattern number user batch print generic_batch generic_print = record {
  listing = listing;
  pattern = pattern;
  number = number;
  user = user;
  kinds = record { batch = batch; print = print; generic_batch = generic_batch; generic_print = generic_print };
  queue = None;
  after = None;
  single = false;
}

module _ (user pattern : List ℕ) (lawful : IsText is_pattern_byte pattern) where
  -- ---- forms and characteristics, by the option that asks for them

  module _ (word : Word) (c : Command) where
    abbrev listed : Bool → List Piece
    listed b = Piece.Parameter (codes "QUEUE") ∷ Piece.Marked word ∷ pattern_piece b pattern

    listed_asks : (b : Bool) (now : ℕ) (lists : Lists) (nodes : Option (List (List ℕ))) (input : Input) (s : Settings) → s.listing.pattern ≡ None → s.awaits_object ≡ false
        → ((text : List ℕ) (t : Settings) → parametered t c text ≡ pattern_given t text)
        → ((t : Settings) → t.listing.pattern ≡ pattern_option b pattern → Asks user now c lists nodes input t [])
        → Asks user now c lists nodes input s (spoken (pattern_piece b pattern))
    listed_asks true now lists nodes input s none object by asks = asks s none
    listed_asks false now lists nodes input s none object by asks =
        let t : Settings = record s { listing = record s.listing { pattern = Some pattern } } in
        one_asks s t (Spoken.SaysParameter pattern) []
        (ap (λ (o : Bool). if o then Some (record s { awaits_object = false }) else parametered s c pattern) object ∙ by pattern s
        ∙ ap (option_map (λ p. record s { listing = record s.listing { pattern = Some p } })) (pattern_reads_back pattern lawful))
        (asks t refl)

  form_makes : (b : Bool) → Makes verb.Show (object_row command.ShowForms words.Queue (Some words.Form) 1 2 false) (listed words.Form command.ShowForms b)
  form_makes true = record { lexed = ((lit< tt, refl), (tt, tt)); leads = tt; found = refl; allowed = (refl, (takes.Nothing, refl, refl, (refl, refl))); agrees = refl }
  form_makes false = record {
    lexed = ((lit< tt, refl), (tt, (pattern_word pattern lawful, tt)));
    leads = tt;
    found = refl;
    allowed = (refl, (takes.Nothing, refl, refl, (refl, (refl, refl))));
    agrees = refl;
  }

  form_asks : (b : Bool) (now : ℕ) → says_all pattern ≡ b
      → AskFor user now command.ShowForms (Show (query_with Forms pattern None None true true true true)) (listed words.Form command.ShowForms b)
  form_asks b now is =
      let s : Settings = nothing_given command.ShowForms in
      let t : Settings = record s { awaits_object = false } in
      let ps : List Spoken = spoken (listed words.Form command.ShowForms b) in
      one_asks s t (Spoken.SaysParameter (codes "QUEUE")) (Spoken.SaysQualifier words.Form ∷ spoken (pattern_piece b pattern)) refl
      (one_asks t (with_word t words.Form) (Spoken.SaysQualifier words.Form) (spoken (pattern_piece b pattern)) refl
      (listed_asks words.Form command.ShowForms b now (lists_by ps) (nodes_by ps) (Show (query_with Forms pattern None None true true true true)) (with_word t words.Form) refl refl (λ text u. refl)
      (λ u given. record {
        is = ap (λ (p : Option (List ℕ)). Some (Show (forms_query p))) given
            ∙ ap (λ (p : List ℕ). Some (Show (query_with Forms p None None true true true true))) (pattern_is b pattern is);
      })))

  pub forms_back : ReadsBack user (Show (query_with Forms pattern None None true true true true))
  forms_back = reads_back verb.Show (object_row command.ShowForms words.Queue (Some words.Form) 1 2 false) (listed words.Form command.ShowForms (says_all pattern)) user
      (Show (query_with Forms pattern None None true true true true))
      (ap (λ (l : List ℕ). codes "SHOW QUEUE/FORM" ++ l) (pattern_piece_text pattern))
      (λ is. (form_makes (says_all pattern), λ now. form_asks (says_all pattern) now refl))

  characteristic_makes : (b : Bool)
      → Makes verb.Show (object_row command.ShowCharacteristics words.Queue (Some words.ShownCharacteristics) 1 2 false) (listed words.ShownCharacteristics command.ShowCharacteristics b)
  characteristic_makes true = record { lexed = ((lit< tt, refl), (tt, tt)); leads = tt; found = refl; allowed = (refl, (takes.Nothing, refl, refl, (refl, refl))); agrees = refl }
  characteristic_makes false = record {
    lexed = ((lit< tt, refl), (tt, (pattern_word pattern lawful, tt)));
    leads = tt;
    found = refl;
    allowed = (refl, (takes.Nothing, refl, refl, (refl, (refl, refl))));
    agrees = refl;
  }

  characteristic_asks : (b : Bool) (now : ℕ) → says_all pattern ≡ b
      → AskFor user now command.ShowCharacteristics (Show (query_with Characteristics pattern None None true true true true)) (listed words.ShownCharacteristics command.ShowCharacteristics b)
  characteristic_asks b now is =
      let s : Settings = nothing_given command.ShowCharacteristics in
      let t : Settings = record s { awaits_object = false } in
      let ps : List Spoken = spoken (listed words.ShownCharacteristics command.ShowCharacteristics b) in
      one_asks s t (Spoken.SaysParameter (codes "QUEUE")) (Spoken.SaysQualifier words.ShownCharacteristics ∷ spoken (pattern_piece b pattern)) refl
      (one_asks t (with_word t words.ShownCharacteristics) (Spoken.SaysQualifier words.ShownCharacteristics) (spoken (pattern_piece b pattern)) refl
      (listed_asks words.ShownCharacteristics command.ShowCharacteristics b now (lists_by ps) (nodes_by ps) (Show (query_with Characteristics pattern None None true true true true))
      (with_word t words.ShownCharacteristics) refl refl (λ text u. refl)
      (λ u given. record {
        is = ap (λ (p : Option (List ℕ)). Some (Show (characteristics_query p))) given
            ∙ ap (λ (p : List ℕ). Some (Show (query_with Characteristics p None None true true true true))) (pattern_is b pattern is);
      })))

  pub characteristics_back : ReadsBack user (Show (query_with Characteristics pattern None None true true true true))
  characteristics_back = reads_back verb.Show (object_row command.ShowCharacteristics words.Queue (Some words.ShownCharacteristics) 1 2 false)
      (listed words.ShownCharacteristics command.ShowCharacteristics (says_all pattern)) user (Show (query_with Characteristics pattern None None true true true true))
      (ap (λ (l : List ℕ). codes "SHOW QUEUE/CHARACTERISTICS" ++ l) (pattern_piece_text pattern))
      (λ is. (characteristic_makes (says_all pattern), λ now. characteristic_asks (says_all pattern) now refl))

  -- ---- entries by the names of their jobs

  abbrev entry_row : Row
  entry_row = object_row command.ShowEntry words.Entry None 1 2 false

  abbrev entries_pieces : Bool → List Piece
  entries_pieces b = Piece.Parameter (codes "ENTRY") ∷ pattern_piece b pattern

  entries_make : (b : Bool) → Makes verb.Show entry_row (entries_pieces b)
  entries_make true = record { lexed = ((lit< tt, refl), tt); leads = tt; found = refl; allowed = (refl, (refl, refl)); agrees = refl }
  entries_make false = record { lexed = ((lit< tt, refl), (pattern_word pattern lawful, tt)); leads = tt; found = refl; allowed = (refl, (refl, (refl, refl))); agrees = refl }

  not_digits : (b : Bool) → not b ≡ true → b ≡ false
  not_digits true h = absurd cc
  not_digits false h = refl

  entries_ask : (b : Bool) (now : ℕ) → says_all pattern ≡ b → not (are_digits pattern) ≡ true
      → AskFor user now command.ShowEntry (Show (query_with Entries pattern None (Some user) true true true true)) (entries_pieces b)
  entries_ask true now is digits =
      let s : Settings = nothing_given command.ShowEntry in
      let t : Settings = record s { awaits_object = false } in
      one_asks s t (Spoken.SaysParameter (codes "ENTRY")) [] refl
      (record { is = ap (λ (p : List ℕ). Some (Show (query_with Entries p None (Some user) true true true true))) (pattern_is true pattern is) })
  entries_ask false now is digits =
      let s : Settings = nothing_given command.ShowEntry in
      let t : Settings = record s { awaits_object = false } in
      let u : Settings = record t { listing = record t.listing { pattern = Some pattern } } in
      one_asks s t (Spoken.SaysParameter (codes "ENTRY")) (Spoken.SaysParameter pattern ∷ []) refl
      (one_asks t u (Spoken.SaysParameter pattern) []
      (ap (λ (d : Bool). if d then entry_given t pattern else pattern_given t pattern) (not_digits (are_digits pattern) digits)
      ∙ ap (option_map (λ p. record t { listing = record t.listing { pattern = Some p } })) (pattern_reads_back pattern lawful))
      (record { is = refl }))

  pub entries_back : ReadsBack user (Show (query_with Entries pattern None (Some user) true true true true))
  entries_back = reads_back verb.Show entry_row (entries_pieces (says_all pattern)) user (Show (query_with Entries pattern None (Some user) true true true true))
      (ap (λ (l : List ℕ). codes "SHOW ENTRY" ++ l) (pattern_piece_text pattern))
      (λ is. (entries_make (says_all pattern), λ now. entries_ask (says_all pattern) now refl is))

-- ---- one entry

module _ (user : List ℕ) (number : ℕ) (within : number < 2 ^ 32) where
  abbrev entry_pieces : List Piece
  entry_pieces = Piece.Parameter (codes "ENTRY") ∷ Piece.Parameter (decimal number) ∷ []

  entry_makes : Makes verb.Show (object_row command.ShowEntry words.Entry None 1 2 false) entry_pieces
  entry_makes =
      let word = number_word number (omega (arith, within)) in
      record { lexed = ((lit< tt, refl), (word, tt)); leads = tt; found = refl; allowed = (refl, (refl, (refl, refl))); agrees = refl }

  entry_asks : (now : ℕ) → AskFor user now command.ShowEntry (Show (query_with Entries (42 ∷ []) (Some number) None true true true true)) entry_pieces
  entry_asks now =
      let s : Settings = nothing_given command.ShowEntry in
      let t : Settings = record s { awaits_object = false } in
      one_asks s t (Spoken.SaysParameter (codes "ENTRY")) (Spoken.SaysParameter (decimal number) ∷ []) refl
      (one_asks t (record t { entry = Some number }) (Spoken.SaysParameter (decimal number)) []
      (ap (λ (d : Bool). if d then entry_given t (decimal number) else pattern_given t (decimal number)) (decimal_is_digits number (omega (arith, within)))
      ∙ ap (option_map (λ n. record t { entry = Some n })) (number_reads_back 4294967295 number (omega (arith, within)) (omega (arith, within))))
      (record { is = refl }))

  pub entry_back : ReadsBack user (Show (query_with Entries (42 ∷ []) (Some number) None true true true true))
  entry_back = reads_back verb.Show (object_row command.ShowEntry words.Entry None 1 2 false) entry_pieces user (Show (query_with Entries (42 ∷ []) (Some number) None true true true true))
      (ap (λ (l : List ℕ). codes "SHOW ENTRY " ++ l) (sym (append-nil (decimal number))))
      (λ is. (entry_makes, λ now. entry_asks now))

-- ---- the queue manager

module _ (user : List ℕ) where
  abbrev manager_pieces : List Piece
  manager_pieces = Piece.Parameter (codes "QUEUE") ∷ Piece.Marked words.Managers ∷ []

  manager_makes : Makes verb.Show (object_row command.ShowManagers words.Queue (Some words.Managers) 1 1 false) manager_pieces
  manager_makes = record { lexed = ((lit< tt, refl), (tt, tt)); leads = tt; found = refl; allowed = (refl, (takes.Nothing, refl, refl, (refl, refl))); agrees = refl }

  manager_asks : (now : ℕ) → AskFor user now command.ShowManagers (Show (query_with Manager (42 ∷ []) None None true true true true)) manager_pieces
  manager_asks now =
      let s : Settings = nothing_given command.ShowManagers in
      let t : Settings = record s { awaits_object = false } in
      one_asks s t (Spoken.SaysParameter (codes "QUEUE")) (Spoken.SaysQualifier words.Managers ∷ []) refl
      (one_asks t (with_word t words.Managers) (Spoken.SaysQualifier words.Managers) [] refl (record { is = refl }))

  pub manager_back : ReadsBack user (Show (query_with Manager (42 ∷ []) None None true true true true))
  manager_back = reads_back verb.Show (object_row command.ShowManagers words.Queue (Some words.Managers) 1 1 false) manager_pieces user
      (Show (query_with Manager (42 ∷ []) None None true true true true)) refl (λ is. (manager_makes, λ now. manager_asks now))

-- ---- queues

abbrev show_table : List (Word × Takes)
show_table = (words.AllJobs, takes.Nothing) ∷ (words.Batch, takes.Nothing) ∷ (words.Device, takes.Nothing) ∷ (words.Generic, takes.Nothing) ∷ []

mark_given : (word : Word) (b : Bool) → In (word, takes.Nothing) show_table → AreGiven show_table (mark word b)
mark_given word true here = ((takes.Nothing, here, refl), tt)
mark_given word false here = tt

mark_words : (word : Word) (b : Bool) → ArePieces (mark word b)
mark_words word true = (tt, tt)
mark_words word false = tt

abbrev queue_row : Row
queue_row = object_row command.ShowQueue words.Queue None 1 2 false

queue_itself : AreItself verb.Show queue_row show_table
queue_itself = (refl, (refl, (refl, (refl, tt))))

-- what is marked of the kinds
abbrev marks : Bool → Bool → Bool → Bool → List Piece
marks all_jobs batch device generic = mark words.AllJobs all_jobs ++ (mark words.Batch batch ++ (mark words.Device device ++ mark words.Generic generic))

marks_given : (a b d g : Bool) → AreGiven show_table (marks a b d g)
marks_given a b d g =
    given_append show_table (mark words.AllJobs a) _ (mark_given words.AllJobs a (inl refl))
    (given_append show_table (mark words.Batch b) _ (mark_given words.Batch b (inr (inl refl)))
    (given_append show_table (mark words.Device d) (mark words.Generic g) (mark_given words.Device d (inr (inr (inl refl)))) (mark_given words.Generic g (inr (inr (inr (inl refl)))))))

marks_words : (a b d g : Bool) → ArePieces (marks a b d g)
marks_words a b d g =
    pieces_append (mark words.AllJobs a) _ (mark_words words.AllJobs a)
    (pieces_append (mark words.Batch b) _ (mark_words words.Batch b) (pieces_append (mark words.Device d) (mark words.Generic g) (mark_words words.Device d) (mark_words words.Generic g)))

fourth_found : (a b c : Bool) (r1 r2 r3 : Row) (rest : Option Row) → a ≡ false → b ≡ false → c ≡ false
    → cond (a && true) (Some r1) (cond (b && true) (Some r2) (cond (c && true) (Some r3) rest)) ≡ rest
fourth_found true b c r1 r2 r3 rest ha hb hc = absurd cc
fourth_found false true c r1 r2 r3 rest ha hb hc = absurd cc
fourth_found false false true r1 r2 r3 rest ha hb hc = absurd cc
fourth_found false false false r1 r2 r3 rest ha hb hc = refl

all_off : (a b c : Bool) → a ≡ false → b ≡ false → c ≡ false → ((a && b) || ((a && c) || ((b && c) || false))) ≡ false
all_off true b c ha hb hc = absurd cc
all_off false true c ha hb hc = absurd cc
all_off false false c ha hb hc = refl

module _ (user pattern : List ℕ) (lawful : IsText is_pattern_byte pattern) where
  abbrev queue_pieces : Bool → List Piece → List Piece
  queue_pieces all tail = Piece.Parameter (codes "QUEUE") ∷ (pattern_piece all pattern ++ tail)

  queues_make : (all a b d g : Bool) → Makes verb.Show queue_row (queue_pieces all (marks a b d g))
  queues_make true a b d g =
      let tail : List Piece = marks a b d g in let given = marks_given a b d g in
      record {
        lexed = ((lit< tt, refl), marks_words a b d g);
        leads = tt;
        found =
            fourth_found (counts_in verb.Show None words.Form false tail) (counts_in verb.Show None words.ShownCharacteristics false tail) (counts_in verb.Show None words.Managers false tail) _ _ _ _
            (given_leaves verb.Show None words.Form show_table tail false refl given)
            (given_leaves verb.Show None words.ShownCharacteristics show_table tail false refl given)
            (given_leaves verb.Show None words.Managers show_table tail false refl given);
        allowed = (refl, given_allows verb.Show queue_row show_table tail 1 false queue_itself given refl refl);
        agrees =
            all_off (counts_in verb.Show (Some queue_row) words.Form false tail) (counts_in verb.Show (Some queue_row) words.ShownCharacteristics false tail)
            (counts_in verb.Show (Some queue_row) words.Managers false tail)
            (given_leaves verb.Show (Some queue_row) words.Form show_table tail false refl given)
            (given_leaves verb.Show (Some queue_row) words.ShownCharacteristics show_table tail false refl given)
            (given_leaves verb.Show (Some queue_row) words.Managers show_table tail false refl given);
      }
  queues_make false a b d g =
      let tail : List Piece = marks a b d g in let given = marks_given a b d g in
      record {
        lexed = ((lit< tt, refl), (pattern_word pattern lawful, marks_words a b d g));
        leads = tt;
        found =
            fourth_found (counts_in verb.Show None words.Form false tail) (counts_in verb.Show None words.ShownCharacteristics false tail) (counts_in verb.Show None words.Managers false tail) _ _ _ _
            (given_leaves verb.Show None words.Form show_table tail false refl given)
            (given_leaves verb.Show None words.ShownCharacteristics show_table tail false refl given)
            (given_leaves verb.Show None words.Managers show_table tail false refl given);
        allowed = (refl, (refl, given_allows verb.Show queue_row show_table tail 2 false queue_itself given refl refl));
        agrees =
            all_off (counts_in verb.Show (Some queue_row) words.Form false tail) (counts_in verb.Show (Some queue_row) words.ShownCharacteristics false tail)
            (counts_in verb.Show (Some queue_row) words.Managers false tail)
            (given_leaves verb.Show (Some queue_row) words.Form show_table tail false refl given)
            (given_leaves verb.Show (Some queue_row) words.ShownCharacteristics show_table tail false refl given)
            (given_leaves verb.Show (Some queue_row) words.Managers show_table tail false refl given);
      }

  abbrev listing_with : Option (List ℕ) → Bool → Bool → Bool → Bool → ListingSettings
  listing_with p a b d g = record { pattern = p; all_jobs = a; batch = b; device = d; generic = g }

  module _ (now : ℕ) (lists : Lists) (nodes : Option (List (List ℕ))) (input : Input) where
    abbrev All_ask : ListingSettings → List Piece → Type 0
    All_ask l h = (s : Settings) → s.listing ≡ l → Asks user now command.ShowQueue lists nodes input s (spoken h)

    all_jobs_ask : (p : Option (List ℕ)) (a b d g : Bool) (h : List Piece) → All_ask (listing_with p a b d g) h → All_ask (listing_with p false b d g) (mark words.AllJobs a ++ h)
    all_jobs_ask p true b d g h asks = λ s is.
        one_asks s (with_word s words.AllJobs) (Spoken.SaysQualifier words.AllJobs) (spoken h) refl (asks (with_word s words.AllJobs) (ap (λ (l : ListingSettings). record l { all_jobs = true }) is))
    all_jobs_ask p false b d g h asks = asks

    batch_asks : (p : Option (List ℕ)) (a b d g : Bool) (h : List Piece) → All_ask (listing_with p a b d g) h → All_ask (listing_with p a false d g) (mark words.Batch b ++ h)
    batch_asks p a true d g h asks = λ s is.
        one_asks s (with_word s words.Batch) (Spoken.SaysQualifier words.Batch) (spoken h) refl (asks (with_word s words.Batch) (ap (λ (l : ListingSettings). record l { batch = true }) is))
    batch_asks p a false d g h asks = asks

    device_asks : (p : Option (List ℕ)) (a b d g : Bool) (h : List Piece) → All_ask (listing_with p a b d g) h → All_ask (listing_with p a b false g) (mark words.Device d ++ h)
    device_asks p a b true g h asks = λ s is.
        one_asks s (with_word s words.Device) (Spoken.SaysQualifier words.Device) (spoken h) refl (asks (with_word s words.Device) (ap (λ (l : ListingSettings). record l { device = true }) is))
    device_asks p a b false g h asks = asks

    generic_asks : (p : Option (List ℕ)) (a b d g : Bool) → All_ask (listing_with p a b d g) [] → All_ask (listing_with p a b d false) (mark words.Generic g)
    generic_asks p a b d true asks = λ s is.
        one_asks s (with_word s words.Generic) (Spoken.SaysQualifier words.Generic) [] refl (asks (with_word s words.Generic) (ap (λ (l : ListingSettings). record l { generic = true }) is))
    generic_asks p a b d false asks = asks

    marks_ask : (p : Option (List ℕ)) (a b d g : Bool) → All_ask (listing_with p a b d g) [] → All_ask (listing_with p false false false false) (marks a b d g)
    marks_ask p a b d g asks =
        all_jobs_ask p a false false false (mark words.Batch b ++ (mark words.Device d ++ mark words.Generic g))
        (batch_asks p a b false false (mark words.Device d ++ mark words.Generic g) (device_asks p a b d false (mark words.Generic g) (generic_asks p a b d g asks)))

  queues_ask : (all : Bool) (now : ℕ) (a b d g : Bool) (query : Query)
      → ((p : Option (List ℕ)) → unwrap_or p (42 ∷ []) ≡ pattern → queues_query user (listing_with p a b d g) ≡ query) → says_all pattern ≡ all
      → AskFor user now command.ShowQueue (Show query) (queue_pieces all (marks a b d g))
  queues_ask true now a b d g query is all =
      let s : Settings = nothing_given command.ShowQueue in
      let t : Settings = record s { awaits_object = false } in
      let ps : List Spoken = spoken (queue_pieces true (marks a b d g)) in
      one_asks s t (Spoken.SaysParameter (codes "QUEUE")) (spoken (marks a b d g)) refl
      (marks_ask now (lists_by ps) (nodes_by ps) (Show query) None a b d g
      (λ u given. record { is = ap (λ (l : ListingSettings). Some (Show (queues_query user l))) given ∙ ap (λ (q : Query). Some (Show q)) (is None (pattern_is true pattern all)) }) t refl)
  queues_ask false now a b d g query is all =
      let s : Settings = nothing_given command.ShowQueue in
      let t : Settings = record s { awaits_object = false } in
      let u : Settings = record t { listing = record t.listing { pattern = Some pattern } } in
      let ps : List Spoken = spoken (queue_pieces false (marks a b d g)) in
      one_asks s t (Spoken.SaysParameter (codes "QUEUE")) (Spoken.SaysParameter pattern ∷ spoken (marks a b d g)) refl
      (one_asks t u (Spoken.SaysParameter pattern) (spoken (marks a b d g))
      (ap (option_map (λ p. record t { listing = record t.listing { pattern = Some p } })) (pattern_reads_back pattern lawful))
      (marks_ask now (lists_by ps) (nodes_by ps) (Show query) (Some pattern) a b d g
      (λ v given. record { is = ap (λ (l : ListingSettings). Some (Show (queues_query user l))) given ∙ ap (λ (q : Query). Some (Show q)) (is (Some pattern) refl) }) u refl))

  queues_text : (a b d g : Bool) (kinds : List ℕ) → kinds ≡ pieces_text (mark words.Batch b ++ (mark words.Device d ++ mark words.Generic g))
      → codes "SHOW QUEUE" ++ pattern_text pattern ++ marked words.AllJobs a ++ kinds ≡ text_of (command_lexemes verb.Show (queue_pieces (says_all pattern) (marks a b d g)))
  queues_text a b d g kinds is =
      ap (λ (l : List ℕ). codes "SHOW QUEUE" ++ l)
      (append_assoc (pattern_text pattern) (marked words.AllJobs a) kinds
      ∙ both_texts (pattern_piece (says_all pattern) pattern) (marks a b d g) _ _ (pattern_piece_text pattern)
      (both_texts (mark words.AllJobs a) (mark words.Batch b ++ (mark words.Device d ++ mark words.Generic g)) _ _ (mark_text words.AllJobs a) is))

  -- queues, where these are marked
  queues_by : (a b d g : Bool) (query : Query) → ((p : Option (List ℕ)) → unwrap_or p (42 ∷ []) ≡ pattern → queues_query user (listing_with p a b d g) ≡ query)
      → query_text query.listing query ≡ text_of (command_lexemes verb.Show (queue_pieces (says_all pattern) (marks a b d g))) → ReadsBack user (Show query)
  queues_by a b d g query is spelled =
      reads_back verb.Show queue_row (queue_pieces (says_all pattern) (marks a b d g)) user (Show query) spelled
      (λ can. (queues_make (says_all pattern) a b d g, λ now. queues_ask (says_all pattern) now a b d g query is refl))

  -- queues of some kinds
  some_kinds : (asker : Option (List ℕ)) (b d g : Bool) → are_all (record { batch = b; print = d; generic_batch = g; generic_print = g }) ≡ false → (b || d || g) ≡ true
      → IfSome asker (λ name. name ≡ user) → ReadsBack user (Show (query_with Queues pattern None asker b d g g))
  some_kinds asker b d g part some own = queues_by (not (is_some asker)) b d g (query_with Queues pattern None asker b d g g) (is asker own) (queues_text (not (is_some asker)) b d g _ text)
    where
      is : (asker : Option (List ℕ)) → IfSome asker (λ name. name ≡ user) → (p : Option (List ℕ)) → unwrap_or p (42 ∷ []) ≡ pattern
          → queues_query user (listing_with p (not (is_some asker)) b d g) ≡ query_with Queues pattern None asker b d g g
      is None own p h =
          ap (λ (x : Bool). record (query_with Queues (unwrap_or p (42 ∷ [])) None None b d g g) { kinds = if x then record { batch = b; print = d; generic_batch = g; generic_print = g } else all_kinds }) some
          ∙ ap (λ (l : List ℕ). query_with Queues l None None b d g g) h
      is (Some name) own p h =
          ap (λ (x : Bool). record (query_with Queues (unwrap_or p (42 ∷ [])) None (Some user) b d g g) { kinds = if x then record { batch = b; print = d; generic_batch = g; generic_print = g } else all_kinds }) some
          ∙ ap (λ (l : List ℕ). query_with Queues l None (Some user) b d g g) h ∙ ap (λ (n : List ℕ). query_with Queues pattern None (Some n) b d g g) (sym own)

      text : kinds_text (record { batch = b; print = d; generic_batch = g; generic_print = g }) ≡ pieces_text (mark words.Batch b ++ (mark words.Device d ++ mark words.Generic g))
      text =
          ap (λ (x : Bool). if x then [] else marked words.Batch b ++ marked words.Device d ++ marked words.Generic g) part
          ∙ append_assoc (marked words.Batch b) (marked words.Device d) (marked words.Generic g)
          ∙ both_texts (mark words.Batch b) (mark words.Device d ++ mark words.Generic g) _ _ (mark_text words.Batch b)
          (both_texts (mark words.Device d) (mark words.Generic g) _ _ (mark_text words.Device d) (mark_text words.Generic g))

  -- queues of all kinds
  all_kinds_back : (asker : Option (List ℕ)) → IfSome asker (λ name. name ≡ user) → ReadsBack user (Show (query_with Queues pattern None asker true true true true))
  all_kinds_back asker own = queues_by (not (is_some asker)) false false false (query_with Queues pattern None asker true true true true) (is asker own) (queues_text (not (is_some asker)) false false false [] refl)
    where
      is : (asker : Option (List ℕ)) → IfSome asker (λ name. name ≡ user) → (p : Option (List ℕ)) → unwrap_or p (42 ∷ []) ≡ pattern
          → queues_query user (listing_with p (not (is_some asker)) false false false) ≡ query_with Queues pattern None asker true true true true
      is None own p h = ap (λ (l : List ℕ). query_with Queues l None None true true true true) h
      is (Some name) own p h =
          ap (λ (l : List ℕ). query_with Queues l None (Some user) true true true true) h ∙ ap (λ (n : List ℕ). query_with Queues pattern None (Some n) true true true true) (sym own)

-- ---- any listing

module _ (user pattern : List ℕ) (lawful : IsText is_pattern_byte pattern) where
  -- ---- by the kinds of queues

  queues_of : (asker : Option (List ℕ)) (b d g p : Bool) → IfSome asker (λ name. name ≡ user) → is_query (query_with Queues pattern None asker b d g p) ≡ true
      → ReadsBack user (Show (query_with Queues pattern None asker b d g p))
  queues_of asker true true true true own is = all_kinds_back user pattern lawful asker own
  queues_of asker true false true true own is = some_kinds user pattern lawful asker true false true refl refl own
  queues_of asker false true true true own is = some_kinds user pattern lawful asker false true true refl refl own
  queues_of asker false false true true own is = some_kinds user pattern lawful asker false false true refl refl own
  queues_of asker true true false false own is = some_kinds user pattern lawful asker true true false refl refl own
  queues_of asker true false false false own is = some_kinds user pattern lawful asker true false false refl refl own
  queues_of asker false true false false own is = some_kinds user pattern lawful asker false true false refl refl own
  queues_of asker false false false false own is = absurd cc
  queues_of asker b d true false own is = absurd cc
  queues_of asker true d false true own is = absurd cc
  queues_of asker false true false true own is = absurd cc
  queues_of asker false false false true own is = absurd cc

  is_star : says_all pattern ≡ true → 42 ∷ [] ≡ pattern
  is_star h = sym ((bytes_eq-Decides pattern (codes "*")).0 h)

  -- ---- entries

  entries_of : (number : Option ℕ) (asker : Option (List ℕ)) (b d g p : Bool) → IfSome number (λ n. n < 2 ^ 32) → IfSome asker (λ name. name ≡ user)
      → is_query (query_with Entries pattern number asker b d g p) ≡ true → ReadsBack user (Show (query_with Entries pattern number asker b d g p))
  entries_of None None b d g p within own is = absurd cc
  entries_of None (Some name) true true true true within own is =
      subst (λ (n : List ℕ). ReadsBack user (Show (query_with Entries pattern None (Some n) true true true true))) (sym own) (entries_back user pattern lawful)
  entries_of None (Some name) false d g p within own is = absurd cc
  entries_of None (Some name) true false g p within own is = absurd cc
  entries_of None (Some name) true true false p within own is = absurd cc
  entries_of None (Some name) true true true false within own is = absurd cc
  entries_of (Some n) (Some name) b d g p within own is = absurd cc
  entries_of (Some n) None true true true true within own is =
      subst (λ (l : List ℕ). ReadsBack user (Show (query_with Entries l (Some n) None true true true true))) (is_star is) (entry_back user n within)
  entries_of (Some n) None false d g p within own is = absurd cc
  entries_of (Some n) None true false g p within own is = absurd cc
  entries_of (Some n) None true true false p within own is = absurd cc
  entries_of (Some n) None true true true false within own is = absurd cc

  -- ---- what is listed of all users

  for_all : (listing : Listing) (number : Option ℕ) (asker : Option (List ℕ)) (b d g p : Bool)
      → is_for_all (query_with listing pattern number asker b d g p) ≡ true
      → ReadsBack user (Show (query_with listing pattern None None true true true true)) → ReadsBack user (Show (query_with listing pattern number asker b d g p))
  for_all listing None None true true true true is back = back
  for_all listing (Some n) asker b d g p is back = absurd cc
  for_all listing None (Some name) b d g p is back = absurd cc
  for_all listing None None false d g p is back = absurd cc
  for_all listing None None true false g p is back = absurd cc
  for_all listing None None true true false p is back = absurd cc
  for_all listing None None true true true false is back = absurd cc

  listing_of : (listing : Listing) (number : Option ℕ) (asker : Option (List ℕ)) (b d g p : Bool) → IfSome number (λ n. n < 2 ^ 32) → IfSome asker (λ name. name ≡ user)
      → is_query (query_with listing pattern number asker b d g p) ≡ true → ReadsBack user (Show (query_with listing pattern number asker b d g p))
  listing_of Queues None asker b d g p within own is = queues_of asker b d g p own is
  listing_of Queues (Some n) asker b d g p within own is = absurd cc
  listing_of Entries number asker b d g p within own is = entries_of number asker b d g p within own is
  listing_of Forms number asker b d g p within own is = for_all Forms number asker b d g p is (forms_back user pattern lawful)
  listing_of Characteristics number asker b d g p within own is = for_all Characteristics number asker b d g p is (characteristics_back user pattern lawful)
  listing_of Manager number asker b d g p within own is =
      for_all Manager number asker b d g p (and_left (is_for_all (query_with Manager pattern number asker b d g p)) (says_all pattern) is)
      (subst (λ (l : List ℕ). ReadsBack user (Show (query_with Manager l None None true true true true))) (is_star (and_right (is_for_all (query_with Manager pattern number asker b d g p)) (says_all pattern) is)) (manager_back user))
  listing_of Jobs number asker b d g p within own is = absurd cc
  listing_of Cancel number asker b d g p within own is = absurd cc

-- ---- all rows of it

whole_of : (user : List ℕ) (query : Query) (queue : Option (List ℕ)) (after : Option After) (single : Bool) → IsQueryOf user query
    → is_query (record query { queue = queue; after = after; single = single }) ≡ true → ReadsBack user (Show (record query { queue = queue; after = after; single = single }))
whole_of user query None None false lawful is =
    listing_of user query.pattern lawful.pattern query.listing query.number query.user query.kinds.batch query.kinds.print query.kinds.generic_batch query.kinds.generic_print lawful.number lawful.asker is
whole_of user query (Some queue) after single lawful is = absurd cc
whole_of user query None (Some row) single lawful is = absurd cc
whole_of user query None None true lawful is = absurd cc

pub query_back : (user : List ℕ) (query : Query) → IsQueryOf user query → ReadsBack user (Show query)
query_back user query lawful now text h =
    whole_of user query query.queue query.after query.single lawful ((text_where (is_query query) (query_text query.listing query) text h).0) now text h
