-- SUBMIT and PRINT.
use Rattle.std.proofs.Common.{◌≡◌, inl, inr, ◌<◌, ◌^◌, ℕ, List, [], ◌∷◌, ◌++◌, length, codes, IfSome, Option, None, Some, is_some, Bool, true, false, not, ◌&&◌, ◌==◌, if◌then◌else◌, refl, sym, ap, subst, ◌∙◌, append_assoc, append-nil, option_map, filter_map, unwrap_or, bytes_eq}
use Rattle.std.specs.Option.{option_map_or, option_or}
use Rattle.std.proofs.lemmas.Slice.Eq.{bytes_eq-Decides}
use Rattle.qm_kinds.specs.Files.{file_name_text}
use Rattle.qm_model.specs.Common.{JobKind, JobRetain, FileName, Input, Ask, Job, NameOrNumber, Submit, is_short}
use Rattle.qm_kinds.specs.declared.entry.JobKind.TheVariants.{Batch, Print}
use Rattle.qm_kinds.specs.declared.entry.JobRetain.TheVariants.{Default, Always, Failed, Until}
use Rattle.qm_commands.specs.declared.rules.Takes.{Takes}
use Rattle.qm_commands.specs.declared.rules.Takes.TheVariants as takes
use Rattle.qm_commands.specs.declared.table.Command.{Command}
use Rattle.qm_commands.specs.declared.table.Command.TheVariants as command
use Rattle.qm_commands.specs.declared.table.Row.{Row}
use Rattle.qm_commands.specs.declared.table.Verb.TheVariants as verb
use Rattle.qm_commands.specs.declared.word.Word.{Word}
use Rattle.qm_commands.specs.declared.word.Word.TheVariants as words
use Rattle.qm_commands.specs.Rules.{job_settings}
use Rattle.qm_commands.specs.Table.{row}
use Rattle.qm_dcl.specs.declared.lists.ListOf.TheVariants.{Characteristics}
use Rattle.qm_dcl.specs.declared.lists.Lists.{Lists}
use Rattle.qm_dcl.specs.declared.settings.JobSettings.{JobSettings}
use Rattle.qm_dcl.specs.declared.settings.Settings.{Settings}
use Rattle.qm_dcl.specs.Command.{asked}
use Rattle.qm_dcl.specs.Settings.{nothing_given}
use Rattle.qm_dcl.specs.Submitting.{default_queue, default_type, default_restart, with_type, job_of}
use Rattle.qm_dcl.specs.Values.{characteristic_said, short_name_said}
use Rattle.qm_sayable.specs.Jobs.{are_print_settings, is_job}
use Rattle.qm_spelling.specs.Jobs.{unless_default, number_unless_default, retain_unless_default, restart_unless_default, restart_text, job_settings_text, print_settings_text, job_text}
use Rattle.qm_spelling.specs.Lawful.{IsName, IsReference, IsRetain, IsJobOf}
use Rattle.qm_sayable.specs.Values.{is_form_reference, are_characteristics, fits_list}
use Rattle.qm_spelling.specs.Pieces.{valued}
use Rattle.qm_spelling.specs.ReadBack.{ReadsBack}
use Rattle.qm_spelling.proofs.SpelledLexemes.{text_of}
use Rattle.qm_spelling.proofs.SpelledPieces.{Said, Piece, ArePieces, command_lexemes}
use Rattle.qm_spelling.proofs.SpelledReading.{Spoken, spoken, plain}
use Rattle.qm_spelling.proofs.SpelledFinding.{Makes}
use Rattle.qm_spelling.proofs.SpelledSettings.{value_by}
use Rattle.qm_spelling.proofs.SpelledLists.{texts_of, lists_by, nodes_by}
use Rattle.qm_spelling.proofs.SpelledCommand.{Asks, AskFor, one_asks, text_where, reads_back}
use Rattle.qm_spelling.proofs.SpelledTails.{mark, pieces_text, both_texts, mark_text, AreGiven, AreItself, given_append, given_behind, pieces_append, given_allows}
use Rattle.qm_spelling.proofs.SpelledAsking.{AllAre, quiet}
use Rattle.qm_spelling.proofs.SpelledQueueAsking.{CanBeSaid, can_all}
use Rattle.qm_spelling.proofs.SpelledTimes.{TimesRead}
use Rattle.qm_spelling.proofs.SpelledFiles.{file_is, file_word}
use Rattle.qm_spelling.proofs.SpelledJobPieces.{text_piece, number_piece, reference_piece, time_piece, retain_piece, restart_piece, characteristics_piece, text_is, number_is, reference_piece_is, time_piece_is, retain_is, restart_is, characteristics_is, text_given, number_given, reference_given, time_given, retain_given, restart_given, characteristics_given, mark_given, text_words, number_words, reference_words, time_words, retain_words, restart_words, characteristics_words, mark_words}
use Rattle.qm_spelling.proofs.SpelledJobAsking.{IsOfJob, job_with, Holds, queue_asks, name_asks, priority_asks, after_asks, hold_asks, retain_asks, restart_asks, characteristics_ask, form_asks, copies_ask, copies_or, flag_asks, text_quiet, number_quiet, reference_quiet, time_quiet, retain_quiet, restart_quiet, mark_quiet, listed_or_none, characteristics_there}
use Rattle.qm_spelling.proofs.SpelledTruth.{and_left, and_right, same_number}

-- ---- what stands where nothing is given

unless_all : (P : List ℕ → Type 0) (default name : List ℕ) → P name → IfSome (unless_default default name) P
unless_all P default name is = by (bytes_eq name default)
  where
    by : (b : Bool) → IfSome (if b then None else Some name) P
    by true = tt
    by false = is

unless_is : (default name : List ℕ) → unwrap_or (unless_default default name) default ≡ name
unless_is default name = by (bytes_eq name default) refl
  where
    by : (b : Bool) → bytes_eq name default ≡ b → unwrap_or (if b then None else Some name) default ≡ name
    by true h = sym ((bytes_eq-Decides name default).0 h)
    by false h = refl

number_unless_all : (P : ℕ → Type 0) (default n : ℕ) → P n → IfSome (number_unless_default default n) P
number_unless_all P default n is = by (n == default)
  where
    by : (b : Bool) → IfSome (if b then None else Some n) P
    by true = tt
    by false = is

number_unless_is : (default n : ℕ) → unwrap_or (number_unless_default default n) default ≡ n
number_unless_is default n = by (n == default) refl
  where
    by : (b : Bool) → (n == default) ≡ b → unwrap_or (if b then None else Some n) default ≡ n
    by true h = same_number n default h
    by false h = refl

copies_are : (n : ℕ) → copies_or (number_unless_default 1 n) ≡ n
copies_are n = by (n == 1) refl
  where
    by : (b : Bool) → (n == 1) ≡ b → copies_or (if b then None else Some n) ≡ n
    by true h = same_number n 1 h
    by false h = refl

after_is : (after : Option ℕ) → unwrap_or (option_map Some after) None ≡ after
after_is None = refl
after_is (Some moment) = refl

retain_all : (retain : JobRetain) → IsRetain retain → IfSome (retain_unless_default retain) IsRetain
retain_all Default is = tt
retain_all Always is = tt
retain_all Failed is = tt
retain_all (Until moment) is = is

retain_same : (retain : JobRetain) → unwrap_or (retain_unless_default retain) Default ≡ retain
retain_same Default = refl
retain_same Always = refl
retain_same Failed = refl
retain_same (Until moment) = refl

restart_same : (kind : JobKind) (restart : Bool) → unwrap_or (restart_unless_default kind restart) (default_restart kind) ≡ restart
restart_same Batch true = refl
restart_same Batch false = refl
restart_same Print true = refl
restart_same Print false = refl

pub listed_same : (rs : List NameOrNumber) → unwrap_or (listed_or_none rs) [] ≡ rs
listed_same [] = refl
listed_same (first ∷ others) = refl

type_same : (file : FileName) (type : List ℕ) → is_some file.extension ≡ true → with_type file type file.extension ≡ file
type_same file type some = by file.extension some
  where
    by : (extension : Option (List ℕ)) → is_some extension ≡ true → with_type file type extension ≡ file
    by None some = absurd cc
    by (Some extension) some = refl

-- ---- the qualifiers of jobs of both kinds

module _ (kind : JobKind) (job : Job) where
  abbrev queue_of : Option (List ℕ)
  queue_of = unless_default (default_queue kind) job.queue

  abbrev name_of_job : Option (List ℕ)
  name_of_job = unless_default job.file.name job.name

  abbrev priority_of : Option ℕ
  priority_of = number_unless_default 100 job.priority

  abbrev retain_of : Option JobRetain
  retain_of = retain_unless_default job.retain

  abbrev restart_of : Option Bool
  restart_of = restart_unless_default kind job.restart

  abbrev place_pieces : List Piece
  place_pieces = text_piece words.Queue queue_of ++ text_piece words.Name name_of_job ++ number_piece words.Priority priority_of

  abbrev waiting_pieces : List Piece
  waiting_pieces = time_piece job.after ++ mark words.Hold job.hold

  abbrev terms_pieces : List Piece
  terms_pieces = retain_piece retain_of ++ restart_piece restart_of ++ characteristics_piece job.characteristics

  abbrev both_pieces : List Piece
  both_pieces = place_pieces ++ waiting_pieces ++ terms_pieces

  both_given : fits_list (length job.characteristics) ≡ true → AreGiven job_settings both_pieces
  both_given fits =
      given_append job_settings (place_pieces ++ waiting_pieces) terms_pieces
      (given_append job_settings place_pieces waiting_pieces
      (given_append job_settings (text_piece words.Queue queue_of ++ text_piece words.Name name_of_job) (number_piece words.Priority priority_of)
      (given_append job_settings (text_piece words.Queue queue_of) (text_piece words.Name name_of_job)
      (text_given job_settings words.Queue queue_of (inl refl)) (text_given job_settings words.Name name_of_job (inr (inl refl))))
      (number_given job_settings words.Priority priority_of (inr (inr (inl refl)))))
      (given_append job_settings (time_piece job.after) (mark words.Hold job.hold) (time_given job_settings job.after (inr (inr (inr (inl refl)))))
      (mark_given job_settings words.Hold job.hold (inr (inr (inr (inr (inl refl))))))))
      (given_append job_settings (retain_piece retain_of ++ restart_piece restart_of) (characteristics_piece job.characteristics)
      (given_append job_settings (retain_piece retain_of) (restart_piece restart_of) (retain_given job_settings retain_of (inr (inr (inr (inr (inr (inl refl)))))))
      (restart_given job_settings restart_of (inr (inr (inr (inr (inr (inr (inl refl))))))) (inr (inr (inr (inr (inr (inr (inr (inl refl))))))))))
      (characteristics_given job_settings job.characteristics (inr (inr (inr (inr (inr (inr (inr (inr (inl refl))))))))) fits))

  both_words : (user : List ℕ) → IsJobOf user job → ArePieces both_pieces
  both_words user lawful =
      pieces_append (place_pieces ++ waiting_pieces) terms_pieces
      (pieces_append place_pieces waiting_pieces
      (pieces_append (text_piece words.Queue queue_of ++ text_piece words.Name name_of_job) (number_piece words.Priority priority_of)
      (pieces_append (text_piece words.Queue queue_of) (text_piece words.Name name_of_job)
      (text_words words.Queue queue_of (unless_all IsName (default_queue kind) job.queue lawful.queue)) (text_words words.Name name_of_job (unless_all IsName job.file.name job.name lawful.name)))
      (number_words words.Priority priority_of (number_unless_all (λ n. n < 2 ^ 8) 100 job.priority lawful.priority)))
      (pieces_append (time_piece job.after) (mark words.Hold job.hold) (time_words job.after) (mark_words words.Hold job.hold)))
      (pieces_append (retain_piece retain_of ++ restart_piece restart_of) (characteristics_piece job.characteristics)
      (pieces_append (retain_piece retain_of) (restart_piece restart_of) (retain_words retain_of) (restart_words restart_of))
      (characteristics_words job.characteristics lawful.characteristics))

  both_text : kind ≡ job.kind → job_settings_text job ≡ pieces_text both_pieces
  both_text same =
      both_texts (place_pieces ++ waiting_pieces) terms_pieces _ _
      (both_texts place_pieces waiting_pieces _ _
      (both_texts (text_piece words.Queue queue_of ++ text_piece words.Name name_of_job) (number_piece words.Priority priority_of) _ _
      (both_texts (text_piece words.Queue queue_of) (text_piece words.Name name_of_job) _ _
      (subst (λ (k : JobKind). valued words.Queue (unless_default (default_queue k) job.queue) ≡ pieces_text (text_piece words.Queue queue_of)) same (text_is words.Queue queue_of))
      (text_is words.Name name_of_job)) (number_is words.Priority priority_of))
      (both_texts (time_piece job.after) (mark words.Hold job.hold) _ _ (time_piece_is job.after) (mark_text words.Hold job.hold)))
      (both_texts (retain_piece retain_of ++ restart_piece restart_of) (characteristics_piece job.characteristics) _ _
      (both_texts (retain_piece retain_of) (restart_piece restart_of) _ _ (retain_is retain_of)
      (subst (λ (k : JobKind). restart_text (restart_unless_default k job.restart) ≡ pieces_text (restart_piece restart_of)) same (restart_is restart_of)))
      (characteristics_is job.characteristics))

  -- the groups, one behind the other, with others behind them
  abbrev in_order : List Piece → List Piece
  in_order h =
      text_piece words.Queue queue_of ++ (text_piece words.Name name_of_job ++ (number_piece words.Priority priority_of ++ (time_piece job.after ++ (mark words.Hold job.hold
      ++ (retain_piece retain_of ++ (restart_piece restart_of ++ (characteristics_piece job.characteristics ++ h)))))))

  same_order : (h : List Piece) → both_pieces ++ h ≡ in_order h
  same_order h = simp append_assoc

  -- what these qualifiers give, where more of them follow
  abbrev then_with : Option NameOrNumber → ℕ → Bool → JobSettings
  then_with form copies flag = job_with name_of_job priority_of (option_map Some job.after) job.hold false retain_of restart_of form copies flag

  module _ (times : TimesRead) (user : List ℕ) (now : ℕ) (c : Command) (lists : Lists) (nodes : Option (List (List ℕ))) (input : Input) (of : IsOfJob c) (file : Option FileName)
      (lawful : IsJobOf user job) (short : is_short job.queue ≡ true) (can : AllAre (CanBeSaid 255) job.characteristics)
      (queue_read : (t : Settings) (text : List ℕ) (inner : Option Said) → value_by now c t (Some words.Queue) (plain text) inner ≡ option_map (λ n. record t { queue = Some n }) (short_name_said text)) where
    both_ask : (h : List Piece) → ((s : Settings) → Holds file None s queue_of (then_with None 1 false) → Asks user now c lists nodes input s (spoken h))
        → (s : Settings) → Holds file None s None (job_with None None None false false None None None 1 false) → Asks user now c lists nodes input s (spoken (in_order h))
    both_ask h asks =
        let q : Option (List ℕ) = queue_of in
        let m : Option (List ℕ) = name_of_job in let p : Option ℕ = priority_of in let a : Option (Option ℕ) = option_map Some job.after in
        let r : Option JobRetain = retain_of in let rs : Option Bool = restart_of in
        let h1 : List Piece = characteristics_piece job.characteristics ++ h in
        let h2 : List Piece = restart_piece rs ++ h1 in
        let h3 : List Piece = retain_piece r ++ h2 in
        let h4 : List Piece = mark words.Hold job.hold ++ h3 in
        let h5 : List Piece = time_piece job.after ++ h4 in
        let h6 : List Piece = number_piece words.Priority p ++ h5 in
        let h7 : List Piece = text_piece words.Name m ++ h6 in
        queue_asks times user now c lists nodes input of file None words.Queue (λ x. refl) queue_read q (job_with None None None false false None None None 1 false) h7
        (unless_all IsName (default_queue kind) job.queue lawful.queue) (unless_all (λ n. is_short n ≡ true) (default_queue kind) job.queue short)
        (name_asks times user now c lists nodes input of file None q m None None false false None None None 1 false h6 (unless_all IsName job.file.name job.name lawful.name)
        (priority_asks times user now c lists nodes input of file None q p m None false false None None None 1 false h5 (number_unless_all (λ n. n < 2 ^ 8) 100 job.priority lawful.priority)
        (after_asks times user now c lists nodes input of file None q job.after m p false false None None None 1 false h4 lawful.after
        (hold_asks times user now c lists nodes input of file None q job.hold m p a false None None None 1 false h3
        (retain_asks times user now c lists nodes input of file None q r m p a job.hold false None None 1 false h2 (retain_all job.retain lawful.retain)
        (restart_asks times user now c lists nodes input of file None q rs m p a job.hold false r None 1 false h1
        (characteristics_ask times user now c lists nodes input of file None q job.characteristics (job_with m p a job.hold false r rs None 1 false) h can asks)))))))

  -- the characteristics that are given
  listed_is : (h : List Piece) → AllAre (CanBeSaid 255) job.characteristics → texts_of Characteristics (spoken h) ≡ None
      → option_map (filter_map characteristic_said) (texts_of Characteristics (spoken (in_order h))) ≡ listed_or_none job.characteristics
  listed_is h can none =
      let h1 : List Piece = characteristics_piece job.characteristics ++ h in
      let h2 : List Piece = restart_piece restart_of ++ h1 in
      let h3 : List Piece = retain_piece retain_of ++ h2 in
      let h4 : List Piece = mark words.Hold job.hold ++ h3 in
      let h5 : List Piece = time_piece job.after ++ h4 in
      let h6 : List Piece = number_piece words.Priority priority_of ++ h5 in
      let h7 : List Piece = text_piece words.Name name_of_job ++ h6 in
      ap (option_map (filter_map characteristic_said))
      (quiet Characteristics (text_piece words.Queue queue_of) h7 (text_quiet Characteristics words.Queue queue_of refl)
      ∙ quiet Characteristics (text_piece words.Name name_of_job) h6 (text_quiet Characteristics words.Name name_of_job refl)
      ∙ quiet Characteristics (number_piece words.Priority priority_of) h5 (number_quiet Characteristics words.Priority priority_of refl)
      ∙ quiet Characteristics (time_piece job.after) h4 (time_quiet Characteristics job.after refl)
      ∙ quiet Characteristics (mark words.Hold job.hold) h3 (mark_quiet Characteristics words.Hold job.hold refl)
      ∙ quiet Characteristics (retain_piece retain_of) h2 (retain_quiet Characteristics retain_of refl)
      ∙ quiet Characteristics (restart_piece restart_of) h1 (restart_quiet Characteristics restart_of refl refl))
      ∙ characteristics_there job.characteristics h can none

-- ---- the job that is submitted

-- the job of what is given
abbrev job_from : List ℕ → JobKind → FileName → Option (List ℕ) → JobSettings → Option (List NameOrNumber) → Job
job_from user kind file q j characteristics = record {
  user = user;
  kind = kind;
  queue = unwrap_or q (default_queue kind);
  file = with_type file (default_type kind) file.extension;
  name = unwrap_or j.name file.name;
  priority = unwrap_or j.priority 100;
  after = unwrap_or j.after None;
  hold = j.hold;
  retain = unwrap_or j.retain Default;
  restart = unwrap_or j.restart (default_restart kind);
  characteristics = unwrap_or characteristics [];
  form = j.form;
  copies = j.copies;
  flag = j.flag;
}

job_is : (user : List ℕ) (kind : JobKind) (job : Job) (form : Option NameOrNumber) (copies : ℕ) (flag : Bool) → user ≡ job.user → kind ≡ job.kind → is_some job.file.extension ≡ true
    → form ≡ job.form → copies ≡ job.copies → flag ≡ job.flag
    → job_from user kind job.file (queue_of kind job) (then_with kind job form copies flag) (listed_or_none job.characteristics) ≡ job
job_is user kind job form copies flag of_user of_kind of_file of_form of_copies of_flag =
    let of_queue = unless_is (default_queue kind) job.queue in
    let of_type = type_same job.file (default_type kind) of_file in
    let of_name = unless_is job.file.name job.name in
    let of_priority = number_unless_is 100 job.priority in
    let of_after = after_is job.after in
    let of_retain = retain_same job.retain in
    let of_restart = restart_same kind job.restart in
    let of_characteristics = listed_same job.characteristics in
    λ i. record {
      user = of_user i;
      kind = of_kind i;
      queue = of_queue i;
      file = of_type i;
      name = of_name i;
      priority = of_priority i;
      after = of_after i;
      hold = job.hold;
      retain = of_retain i;
      restart = of_restart i;
      characteristics = of_characteristics i;
      form = of_form i;
      copies = of_copies i;
      flag = of_flag i;
    }

-- a command that submits a job of a kind
abbrev Submits : Command → JobKind → Type 0
Submits c kind = (user : List ℕ) (s : Settings) (lists : Lists) (nodes : Option (List (List ℕ))) (file : FileName) → s.file ≡ Some file
    → asked user c s lists nodes ≡ Some (Ask (Submit (job_from user kind file s.queue s.job lists.characteristics)))

module _ (user : List ℕ) (kind : JobKind) (job : Job) (c : Command) (submits : Submits c kind) (now : ℕ) (lists : Lists) (nodes : Option (List (List ℕ)))
    (given : lists.characteristics ≡ listed_or_none job.characteristics) where
  submitted : (form : Option NameOrNumber) (copies : ℕ) (flag : Bool) → job_from user kind job.file (queue_of kind job) (then_with kind job form copies flag) (listed_or_none job.characteristics) ≡ job
      → (s : Settings) → Holds (Some job.file) None s (queue_of kind job) (then_with kind job form copies flag) → Asks user now c lists nodes (Ask (Submit job)) s []
  submitted form copies flag same s holds = record {
    is = submits user s lists nodes job.file holds.file_is
        ∙ ap (λ (q : Option (List ℕ)). Some (Ask (Submit (job_from user kind job.file q s.job lists.characteristics)))) holds.queue_is
        ∙ ap (λ (j : JobSettings). Some (Ask (Submit (job_from user kind job.file (queue_of kind job) j lists.characteristics)))) holds.job_is
        ∙ ap (λ (o : Option (List NameOrNumber)). Some (Ask (Submit (job_from user kind job.file (queue_of kind job) (then_with kind job form copies flag) o)))) given
        ∙ ap (λ (x : Job). Some (Ask (Submit x))) same;
  }

one_front : (o : Option (List (List ℕ))) → option_or o None ≡ o
one_front None = refl
one_front (Some texts) = refl

-- ---- SUBMIT

abbrev submit_row : Row
submit_row = row command.Submit None None 1 1

submit_itself : AreItself verb.Submit submit_row job_settings
submit_itself = (refl, (refl, (refl, (refl, (refl, (refl, (refl, (refl, (refl, (refl, (refl, (refl, (refl, (refl, (refl, (refl, tt))))))))))))))))

of_submit : IsOfJob command.Submit
of_submit = record { no_nodes = λ word. refl; of_job = refl }

submits : Submits command.Submit Batch
submits user s lists nodes file is = ap (λ (o : Option FileName). option_map Ask (option_map (λ f. Submit (job_of user Batch f s lists)) o)) is

module _ (times : TimesRead) (user : List ℕ) (job : Job) (lawful : IsJobOf user job) (of_kind : Batch ≡ job.kind) (is : is_job job ≡ true) where
  three : (is_short job.queue && is_some job.file.extension && are_characteristics job.characteristics) ≡ true
  three = and_left (is_short job.queue && is_some job.file.extension && are_characteristics job.characteristics) _ is

  two : (is_short job.queue && is_some job.file.extension) ≡ true
  two = and_left (is_short job.queue && is_some job.file.extension) (are_characteristics job.characteristics) three

  characteristics_can : are_characteristics job.characteristics ≡ true
  characteristics_can = and_right (is_short job.queue && is_some job.file.extension) (are_characteristics job.characteristics) three

  can : AllAre (CanBeSaid 255) job.characteristics
  can = can_all 255 job.characteristics lawful.characteristics (and_right (fits_list (length job.characteristics)) _ characteristics_can)

  plain_job : are_print_settings Batch job ≡ true
  plain_job = subst (λ (k : JobKind). are_print_settings k job ≡ true) (sym of_kind)
      (and_right (is_short job.queue && is_some job.file.extension && are_characteristics job.characteristics) _ is)

  no_form : None ≡ job.form
  no_form = by job.form (and_left (not (is_some job.form)) (job.copies == 1) (and_left (not (is_some job.form) && job.copies == 1) (not job.flag) plain_job))
    where
      by : (form : Option NameOrNumber) → not (is_some form) ≡ true → None ≡ form
      by None h = refl
      by (Some form) h = absurd cc

  one_copy : 1 ≡ job.copies
  one_copy = same_number job.copies 1 (and_right (not (is_some job.form)) (job.copies == 1) (and_left (not (is_some job.form) && job.copies == 1) (not job.flag) plain_job))

  no_flag : false ≡ job.flag
  no_flag = by job.flag (and_right (not (is_some job.form) && job.copies == 1) (not job.flag) plain_job)
    where
      by : (flag : Bool) → not flag ≡ true → false ≡ flag
      by false h = refl
      by true h = absurd cc

  abbrev submit_pieces : List Piece
  submit_pieces = Piece.Parameter (file_name_text job.file) ∷ both_pieces Batch job

  submit_makes : Makes verb.Submit submit_row submit_pieces
  submit_makes = record {
    lexed = (file_word job.file lawful.file, both_words Batch job user lawful);
    leads = tt;
    found = refl;
    allowed = (refl, given_allows verb.Submit submit_row job_settings (both_pieces Batch job) 1 false submit_itself (both_given Batch job (and_left (fits_list (length job.characteristics)) _ characteristics_can)) refl refl);
    agrees = refl;
  }

  order : both_pieces Batch job ≡ in_order Batch job []
  order = sym (append-nil (both_pieces Batch job)) ∙ same_order Batch job []

  submit_asks : (now : ℕ) → AskFor user now command.Submit (Ask (Submit job)) submit_pieces
  submit_asks now =
      let s : Settings = nothing_given command.Submit in
      let t : Settings = record s { file = Some job.file } in
      let lists : Lists = lists_by (spoken submit_pieces) in
      let nodes : Option (List (List ℕ)) = nodes_by (spoken submit_pieces) in
      let some : is_some job.file.extension ≡ true = and_right (is_short job.queue) (is_some job.file.extension) two in
      let given : lists.characteristics ≡ listed_or_none job.characteristics =
      ap (option_map (filter_map characteristic_said)) (one_front (texts_of Characteristics (spoken (both_pieces Batch job))) ∙ ap (λ (g : List Piece). texts_of Characteristics (spoken g)) order)
      ∙ listed_is Batch job [] can refl in
      let end = submitted user Batch job command.Submit submits now lists nodes given None 1 false
      (job_is user Batch job None 1 false (sym lawful.submitter) of_kind some no_form one_copy no_flag) in
      one_asks s t (Spoken.SaysParameter (file_name_text job.file)) (spoken (both_pieces Batch job)) (ap (option_map (λ f. record s { file = Some f })) (file_is job.file lawful.file some))
      (subst (λ (g : List Piece). Asks user now command.Submit lists nodes (Ask (Submit job)) t (spoken g)) (sym order)
      (both_ask Batch job times user now command.Submit lists nodes (Ask (Submit job)) of_submit (Some job.file) lawful (and_left (is_short job.queue) (is_some job.file.extension) two) can
      (λ u text inner. refl) [] end t (record { file_is = refl; entry_is = refl; queue_is = refl; job_is = refl })))

  submit_text : job_text job.kind job ≡ text_of (command_lexemes verb.Submit submit_pieces)
  submit_text =
      ap (λ (k : JobKind). job_text k job) (sym of_kind)
      ∙ ap (λ (l : List ℕ). codes "SUBMIT " ++ (file_name_text job.file ++ l)) (both_text Batch job of_kind)

-- ---- PRINT

abbrev print_row : Row
print_row = row command.Print None None 1 1

abbrev print_front : List (Word × Takes)
print_front = (words.Form, takes.One) ∷ (words.Copies, takes.One) ∷ (words.Flag, takes.Nothing) ∷ (words.NoFlag, takes.Nothing) ∷ []

print_itself : AreItself verb.Print print_row (print_front ++ job_settings)
print_itself =
    (refl, (refl, (refl, (refl, (refl, (refl, (refl, (refl, (refl, (refl, (refl, (refl, (refl, (refl, (refl, (refl, (refl, (refl, (refl, (refl, tt))))))))))))))))))))

of_print : IsOfJob command.Print
of_print = record { no_nodes = λ word. refl; of_job = refl }

prints : Submits command.Print Print
prints user s lists nodes file is = ap (λ (o : Option FileName). option_map Ask (option_map (λ f. Submit (job_of user Print f s lists)) o)) is

module _ (times : TimesRead) (user : List ℕ) (job : Job) (lawful : IsJobOf user job) (of_kind : Print ≡ job.kind) (is : is_job job ≡ true) where
  short_too : (is_short job.queue && is_some job.file.extension && are_characteristics job.characteristics) ≡ true
  short_too = and_left (is_short job.queue && is_some job.file.extension && are_characteristics job.characteristics) _ is

  short_typed : (is_short job.queue && is_some job.file.extension) ≡ true
  short_typed = and_left (is_short job.queue && is_some job.file.extension) (are_characteristics job.characteristics) short_too

  all_can : are_characteristics job.characteristics ≡ true
  all_can = and_right (is_short job.queue && is_some job.file.extension) (are_characteristics job.characteristics) short_too

  can_be_said : AllAre (CanBeSaid 255) job.characteristics
  can_be_said = can_all 255 job.characteristics lawful.characteristics (and_right (fits_list (length job.characteristics)) _ all_can)

  form_can : IfSome job.form (CanBeSaid 65535)
  form_can = by job.form lawful.form
      (subst (λ (k : JobKind). are_print_settings k job ≡ true) (sym of_kind) (and_right (is_short job.queue && is_some job.file.extension && are_characteristics job.characteristics) _ is))
    where
      by : (form : Option NameOrNumber) → IfSome form IsReference → option_map_or is_form_reference form true ≡ true → IfSome form (CanBeSaid 65535)
      by None of_form h = tt
      by (Some form) of_form h = (of_form, h)

  abbrev copies_of : Option ℕ
  copies_of = number_unless_default 1 job.copies

  abbrev own_pieces : List Piece
  own_pieces = reference_piece words.Form job.form ++ number_piece words.Copies copies_of ++ mark words.Flag job.flag

  abbrev own_in_order : List Piece
  own_in_order = reference_piece words.Form job.form ++ (number_piece words.Copies copies_of ++ (mark words.Flag job.flag ++ []))

  abbrev print_tail : List Piece
  print_tail = both_pieces Print job ++ own_pieces

  print_order : print_tail ≡ in_order Print job own_in_order
  print_order = ap (λ (g : List Piece). both_pieces Print job ++ g) own_order ∙ same_order Print job own_in_order
    where
      own_order : own_pieces ≡ own_in_order
      own_order = simp (append_assoc, append-nil)

  abbrev print_pieces : List Piece
  print_pieces = Piece.Parameter (file_name_text job.file) ∷ print_tail

  own_given : AreGiven (print_front ++ job_settings) own_pieces
  own_given =
      let table : List (Word × Takes) = print_front ++ job_settings in
      given_append table (reference_piece words.Form job.form ++ number_piece words.Copies copies_of) (mark words.Flag job.flag)
      (given_append table (reference_piece words.Form job.form) (number_piece words.Copies copies_of)
      (reference_given table words.Form job.form (inl refl)) (number_given table words.Copies copies_of (inr (inl refl))))
      (mark_given table words.Flag job.flag (inr (inr (inl refl))))

  own_words : ArePieces own_pieces
  own_words =
      pieces_append (reference_piece words.Form job.form ++ number_piece words.Copies copies_of) (mark words.Flag job.flag)
      (pieces_append (reference_piece words.Form job.form) (number_piece words.Copies copies_of)
      (reference_words words.Form job.form lawful.form) (number_words words.Copies copies_of (number_unless_all (λ n. n < 2 ^ 8) 1 job.copies lawful.copies)))
      (mark_words words.Flag job.flag)

  own_text : print_settings_text job ≡ pieces_text own_pieces
  own_text =
      both_texts (reference_piece words.Form job.form ++ number_piece words.Copies copies_of) (mark words.Flag job.flag) _ _
      (both_texts (reference_piece words.Form job.form) (number_piece words.Copies copies_of) _ _ (reference_piece_is words.Form job.form) (number_is words.Copies copies_of))
      (mark_text words.Flag job.flag)

  print_makes : Makes verb.Print print_row print_pieces
  print_makes = record {
    lexed = (file_word job.file lawful.file, pieces_append (both_pieces Print job) own_pieces (both_words Print job user lawful) own_words);
    leads = tt;
    found = refl;
    allowed = (
      refl,
      given_allows verb.Print print_row (print_front ++ job_settings) print_tail 1 false print_itself
          (given_append (print_front ++ job_settings) (both_pieces Print job) own_pieces
          (given_behind print_front job_settings (both_pieces Print job) (both_given Print job (and_left (fits_list (length job.characteristics)) _ all_can))) own_given) refl refl,
    );
    agrees = refl;
  }

  none_own : texts_of Characteristics (spoken own_in_order) ≡ None
  none_own =
      quiet Characteristics (reference_piece words.Form job.form) (number_piece words.Copies copies_of ++ (mark words.Flag job.flag ++ [])) (reference_quiet Characteristics words.Form job.form refl)
      ∙ quiet Characteristics (number_piece words.Copies copies_of) (mark words.Flag job.flag ++ []) (number_quiet Characteristics words.Copies copies_of refl)
      ∙ quiet Characteristics (mark words.Flag job.flag) [] (mark_quiet Characteristics words.Flag job.flag refl)

  print_asks : (now : ℕ) → AskFor user now command.Print (Ask (Submit job)) print_pieces
  print_asks now =
      let s : Settings = nothing_given command.Print in
      let t : Settings = record s { file = Some job.file } in
      let lists : Lists = lists_by (spoken print_pieces) in
      let nodes : Option (List (List ℕ)) = nodes_by (spoken print_pieces) in
      let input : Input = Ask (Submit job) in
      let some : is_some job.file.extension ≡ true = and_right (is_short job.queue) (is_some job.file.extension) short_typed in
      let given : lists.characteristics ≡ listed_or_none job.characteristics =
      ap (option_map (filter_map characteristic_said)) (one_front (texts_of Characteristics (spoken print_tail)) ∙ ap (λ (g : List Piece). texts_of Characteristics (spoken g)) print_order)
      ∙ listed_is Print job own_in_order can_be_said none_own in
      let q : Option (List ℕ) = queue_of Print job in let m : Option (List ℕ) = name_of_job Print job in let p : Option ℕ = priority_of Print job in
      let a : Option (Option ℕ) = option_map Some job.after in let r : Option JobRetain = retain_of Print job in let rs : Option Bool = restart_of Print job in
      let end = submitted user Print job command.Print prints now lists nodes given job.form (copies_or copies_of) job.flag
      (job_is user Print job job.form (copies_or copies_of) job.flag (sym lawful.submitter) of_kind some refl (copies_are job.copies) refl) in
      let flags = flag_asks times user now command.Print lists nodes input of_print (Some job.file) None q job.flag m p a job.hold false r rs job.form (copies_or copies_of) [] end in
      let copies = copies_ask times user now command.Print lists nodes input of_print (Some job.file) None q copies_of m p a job.hold false r rs job.form false (mark words.Flag job.flag ++ [])
      (number_unless_all (λ n. n < 2 ^ 8) 1 job.copies lawful.copies) flags in
      let forms = form_asks times user now command.Print lists nodes input of_print (Some job.file) None q job.form m p a job.hold false r rs 1 false
      (number_piece words.Copies copies_of ++ (mark words.Flag job.flag ++ [])) form_can copies in
      one_asks s t (Spoken.SaysParameter (file_name_text job.file)) (spoken print_tail) (ap (option_map (λ f. record s { file = Some f })) (file_is job.file lawful.file some))
      (subst (λ (g : List Piece). Asks user now command.Print lists nodes input t (spoken g)) (sym print_order)
      (both_ask Print job times user now command.Print lists nodes input of_print (Some job.file) lawful (and_left (is_short job.queue) (is_some job.file.extension) short_typed) can_be_said
      (λ u text inner. refl) own_in_order forms t (record { file_is = refl; entry_is = refl; queue_is = refl; job_is = refl })))

  print_text : job_text job.kind job ≡ text_of (command_lexemes verb.Print print_pieces)
  print_text =
      ap (λ (k : JobKind). job_text k job) (sym of_kind)
      ∙ ap (λ (l : List ℕ). codes "PRINT " ++ l) (append_assoc (file_name_text job.file) (job_settings_text job) (print_settings_text job))
      ∙ ap (λ (l : List ℕ). codes "PRINT " ++ (file_name_text job.file ++ l)) (both_texts (both_pieces Print job) own_pieces _ _ (both_text Print job of_kind) own_text)

-- ---- either

pub submit_back : TimesRead → (user : List ℕ) (job : Job) → IsJobOf user job → ReadsBack user (Ask (Submit job))
submit_back times user job lawful = by job.kind refl
  where
    by : (kind : JobKind) → kind ≡ job.kind → ReadsBack user (Ask (Submit job))
    by Batch same = λ now text h.
        reads_back verb.Submit submit_row (Piece.Parameter (file_name_text job.file) ∷ both_pieces Batch job) user (Ask (Submit job))
        (submit_text times user job lawful same (text_where (is_job job) (job_text job.kind job) text h).0)
        (λ is. (submit_makes times user job lawful same is, λ n. submit_asks times user job lawful same is n)) now text h
    by Print same = λ now text h.
        let is = (text_where (is_job job) (job_text job.kind job) text h).0 in
        reads_back verb.Print print_row (print_pieces times user job lawful same is) user (Ask (Submit job)) (print_text times user job lawful same is)
        (λ _. (print_makes times user job lawful same is, λ n. print_asks times user job lawful same is n)) now text h
