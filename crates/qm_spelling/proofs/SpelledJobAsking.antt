-- What the qualifiers of jobs give.
use Rattle.std.proofs.Common.{◌≡◌, ◌<◌, ◌^◌, ℕ, List, [], ◌∷◌, ◌++◌, map, codes, decimal, IfSome, Option, None, Some, Bool, true, false, if◌then◌else◌, refl, ap, ◌∙◌, arith, option_map, filter_map}
use Rattle.qm_model.specs.Common.{JobRetain, FileName, Input, NameOrNumber, is_short}
use Rattle.qm_kinds.specs.declared.entry.JobRetain.TheVariants.{Default, Always, Failed, Until}
use Rattle.qm_commands.specs.declared.table.Command.{Command}
use Rattle.qm_commands.specs.declared.word.Word.{Word}
use Rattle.qm_commands.specs.declared.word.Word.TheVariants as words
use Rattle.qm_dcl.specs.declared.lists.ListOf.{ListOf}
use Rattle.qm_dcl.specs.declared.lists.ListOf.TheVariants.{Characteristics}
use Rattle.qm_dcl.specs.declared.lists.Lists.{Lists}
use Rattle.qm_dcl.specs.declared.settings.Settings.{Settings}
use Rattle.qm_dcl.specs.declared.settings.JobSettings.{JobSettings}
use Rattle.qm_dcl.specs.Given.{with_word, with_job, with_retain, until_given, after_given, queue_retain_given, job_marked}
use Rattle.qm_dcl.specs.Lists.{gives}
use Rattle.qm_dcl.specs.Settings.{lists_nodes, is_of_queue}
use Rattle.qm_dcl.specs.Values.{characteristic_said, short_name_said}
use Rattle.qm_spelling.specs.Lawful.{IsName, IsRetain, IsMoment}
use Rattle.qm_spelling.specs.Pieces.{reference_text}
use Rattle.qm_spelling.proofs.Values.{name_reads_back, number_reads_back}
use Rattle.qm_spelling.proofs.SpelledPieces.{Said, Piece}
use Rattle.qm_spelling.proofs.SpelledReading.{Spoken, spoken, items_spoken, plain}
use Rattle.qm_spelling.proofs.SpelledSettings.{inner_of, value_by, job_retain_by}
use Rattle.qm_spelling.proofs.SpelledLists.{texts_of}
use Rattle.qm_spelling.proofs.SpelledCommand.{Asks, one_asks}
use Rattle.qm_spelling.proofs.SpelledTails.{mark, item, none_inner}
use Rattle.qm_spelling.proofs.SpelledWords.{short_said}
use Rattle.qm_spelling.proofs.SpelledAsking.{reference_is, valued_asks, AreRead, values_ask, AreQuiet, list_is, AllAre, all_read}
use Rattle.qm_spelling.proofs.SpelledQueueAsking.{CanBeSaid}
use Rattle.qm_spelling.proofs.SpelledTimes.{inside, TimesRead}
use Rattle.qm_spelling.proofs.SpelledJobPieces.{text_piece, number_piece, reference_piece, time_piece, retain_piece, restart_piece, characteristics_piece}

-- a command that is about a job
pub record IsOfJob (c : Command) : Type 0 where
  pub no_nodes : (word : Option Word) → lists_nodes c word ≡ false
  pub of_job : is_of_queue c ≡ false

abbrev pub job_with : Option (List ℕ) → Option ℕ → Option (Option ℕ) → Bool → Bool → Option JobRetain → Option Bool → Option NameOrNumber → ℕ → Bool → JobSettings
job_with name priority after hold release retain restart form copies flag = record {
  name = name;
  priority = priority;
  after = after;
  hold = hold;
  release = release;
  retain = retain;
  restart = restart;
  form = form;
  copies = copies;
  flag = flag;
}

-- how many copies, where 1 is as many as where none are given
abbrev pub copies_or : Option ℕ → ℕ
copies_or None = 1
copies_or (Some n) = n

-- this is given of a job for this file, or of the entry of this number
pub record Holds (the_file : Option FileName) (the_entry : Option ℕ) (s : Settings) (q : Option (List ℕ)) (j : JobSettings) : Type 0 where
  pub file_is : s.file ≡ the_file
  pub entry_is : s.entry ≡ the_entry
  pub queue_is : s.queue ≡ q
  pub job_is : s.job ≡ j

module _ (times : TimesRead) (user : List ℕ) (now : ℕ) (c : Command) (lists : Lists) (nodes : Option (List (List ℕ))) (input : Input) (of : IsOfJob c) (file : Option FileName) (entry : Option ℕ) where
  -- whoever was given this asks for the input
  abbrev pub All_ask : Option (List ℕ) → JobSettings → List Piece → Type 0
  All_ask q j h = (s : Settings) → Holds file entry s q j → Asks user now c lists nodes input s (spoken h)

  -- a qualifier whose value is set for the job
  pub set_asks : (word : Word) (said : Said) (q : Option (List ℕ)) (j : JobSettings) (set : JobSettings → JobSettings) (h : List Piece) (ps : List Spoken)
      → ((x : JobSettings) → job_marked x word ≡ x)
      → ((t : Settings) → value_by now c t (Some word) said (inner_of ps) ≡ Some (with_job t (set t.job)))
      → ((t : Settings) → Holds file entry t q (set j) → Asks user now c lists nodes input t ps)
      → (s : Settings) → Holds file entry s q j → Asks user now c lists nodes input s (Spoken.SaysQualifier word ∷ Spoken.SaysValue said ∷ ps)
  set_asks word said q j set h ps unmarked read asks s holds =
      let t : Settings = with_word s word in
      valued_asks user now c lists nodes input of.no_nodes s (with_job t (set t.job)) word said ps (read t)
      (asks (with_job t (set t.job)) (record {
        file_is = holds.file_is;
        entry_is = holds.entry_is;
        queue_is = holds.queue_is;
        job_is = ap set (unmarked s.job ∙ holds.job_is);
      }))

  -- a qualifier without a value
  pub marked_asks : (word : Word) (q : Option (List ℕ)) (j : JobSettings) (h : List Piece) → All_ask q (job_marked j word) h → All_ask q j (Piece.Marked word ∷ h)
  marked_asks word q j h asks s holds =
      one_asks s (with_word s word) (Spoken.SaysQualifier word) (spoken h) refl
      (asks (with_word s word) (record {
        file_is = holds.file_is;
        entry_is = holds.entry_is;
        queue_is = holds.queue_is;
        job_is = ap (λ (x : JobSettings). job_marked x word) holds.job_is;
      }))

  -- the queue, by the qualifier that names it
  pub queue_asks : (word : Word) → ((x : JobSettings) → job_marked x word ≡ x)
      → ((t : Settings) (text : List ℕ) (inner : Option Said) → value_by now c t (Some word) (plain text) inner ≡ option_map (λ n. record t { queue = Some n }) (short_name_said text))
      → (o : Option (List ℕ)) (j : JobSettings) (h : List Piece) → IfSome o IsName → IfSome o (λ name. is_short name ≡ true) → All_ask o j h → All_ask None j (text_piece word o ++ h)
  queue_asks word unmarked read None j h lawful short asks = asks
  queue_asks word unmarked read (Some name) j h lawful short asks = λ s holds.
      let t : Settings = with_word s word in
      valued_asks user now c lists nodes input of.no_nodes s (record t { queue = Some name }) word (plain name) (spoken h)
      (read t name (inner_of (spoken h)) ∙ ap (option_map (λ n. record t { queue = Some n })) (short_said name lawful short))
      (asks (record t { queue = Some name }) (record { file_is = holds.file_is; entry_is = holds.entry_is; queue_is = refl; job_is = unmarked s.job ∙ holds.job_is }))

  module _ (q : Option (List ℕ)) where
    pub name_asks : (o : Option (List ℕ)) (p : Option ℕ) (a : Option (Option ℕ)) (ho re : Bool) (r : Option JobRetain) (rs : Option Bool) (f : Option NameOrNumber) (n : ℕ) (fl : Bool) (h : List Piece)
        → IfSome o IsName → All_ask q (job_with o p a ho re r rs f n fl) h → All_ask q (job_with None p a ho re r rs f n fl) (text_piece words.Name o ++ h)
    name_asks None p a ho re r rs f n fl h lawful asks = asks
    name_asks (Some name) p a ho re r rs f n fl h lawful asks =
        set_asks words.Name (plain name) q (job_with None p a ho re r rs f n fl) (λ x. record x { name = Some name }) h (spoken h) (λ x. refl)
        (λ t. ap (option_map (λ m. with_job t (record t.job { name = Some m }))) (name_reads_back name lawful)) asks

    pub priority_asks : (o : Option ℕ) (m : Option (List ℕ)) (a : Option (Option ℕ)) (ho re : Bool) (r : Option JobRetain) (rs : Option Bool) (f : Option NameOrNumber) (n : ℕ) (fl : Bool) (h : List Piece)
        → IfSome o (λ p. p < 2 ^ 8) → All_ask q (job_with m o a ho re r rs f n fl) h → All_ask q (job_with m None a ho re r rs f n fl) (number_piece words.Priority o ++ h)
    priority_asks None m a ho re r rs f n fl h lawful asks = asks
    priority_asks (Some p) m a ho re r rs f n fl h lawful asks =
        set_asks words.Priority (plain (decimal p)) q (job_with m None a ho re r rs f n fl) (λ x. record x { priority = Some p }) h (spoken h) (λ x. refl)
        (λ t. ap (option_map (λ k. with_job t (record t.job { priority = Some k }))) (number_reads_back 255 p (omega (arith, lawful)) (omega (arith, lawful)))) asks

    pub after_asks : (o : Option ℕ) (m : Option (List ℕ)) (p : Option ℕ) (ho re : Bool) (r : Option JobRetain) (rs : Option Bool) (f : Option NameOrNumber) (n : ℕ) (fl : Bool) (h : List Piece)
        → IfSome o IsMoment → All_ask q (job_with m p (option_map Some o) ho re r rs f n fl) h → All_ask q (job_with m p None ho re r rs f n fl) (time_piece o ++ h)
    after_asks None m p ho re r rs f n fl h lawful asks = asks
    after_asks (Some moment) m p ho re r rs f n fl h lawful asks =
        set_asks words.After (record { quoted = true; text = inside moment }) q (job_with m p None ho re r rs f n fl) (λ x. record x { after = Some (Some moment) }) h (spoken h) (λ x. refl)
        (λ t. ap (after_given t) (times moment now lawful)) asks

    pub hold_asks : (b : Bool) (m : Option (List ℕ)) (p : Option ℕ) (a : Option (Option ℕ)) (re : Bool) (r : Option JobRetain) (rs : Option Bool) (f : Option NameOrNumber) (n : ℕ) (fl : Bool) (h : List Piece)
        → All_ask q (job_with m p a b re r rs f n fl) h → All_ask q (job_with m p a false re r rs f n fl) (mark words.Hold b ++ h)
    hold_asks true m p a re r rs f n fl h asks = marked_asks words.Hold q (job_with m p a false re r rs f n fl) h asks
    hold_asks false m p a re r rs f n fl h asks = asks

    pub release_asks : (b : Bool) (m : Option (List ℕ)) (p : Option ℕ) (a : Option (Option ℕ)) (ho : Bool) (r : Option JobRetain) (rs : Option Bool) (f : Option NameOrNumber) (n : ℕ) (fl : Bool) (h : List Piece)
        → All_ask q (job_with m p a ho b r rs f n fl) h → All_ask q (job_with m p a ho false r rs f n fl) (mark words.Release b ++ h)
    release_asks true m p a ho r rs f n fl h asks = marked_asks words.Release q (job_with m p a ho false r rs f n fl) h asks
    release_asks false m p a ho r rs f n fl h asks = asks

    pub flag_asks : (b : Bool) (m : Option (List ℕ)) (p : Option ℕ) (a : Option (Option ℕ)) (ho re : Bool) (r : Option JobRetain) (rs : Option Bool) (f : Option NameOrNumber) (n : ℕ) (h : List Piece)
        → All_ask q (job_with m p a ho re r rs f n b) h → All_ask q (job_with m p a ho re r rs f n false) (mark words.Flag b ++ h)
    flag_asks true m p a ho re r rs f n h asks = marked_asks words.Flag q (job_with m p a ho re r rs f n false) h asks
    flag_asks false m p a ho re r rs f n h asks = asks

    -- /RETAIN with one word
    kept : (t : Settings) (text : List ℕ) (inner : Option Said) (u : Settings) → job_retain_by now t text inner ≡ Some u
        → (if is_of_queue c then queue_retain_given t text else job_retain_by now t text inner) ≡ Some u
    kept t text inner u is = ap (λ (b : Bool). if b then queue_retain_given t text else job_retain_by now t text inner) of.of_job ∙ is

    pub retain_asks : (o : Option JobRetain) (m : Option (List ℕ)) (p : Option ℕ) (a : Option (Option ℕ)) (ho re : Bool) (rs : Option Bool) (f : Option NameOrNumber) (n : ℕ) (fl : Bool) (h : List Piece)
        → IfSome o IsRetain → All_ask q (job_with m p a ho re o rs f n fl) h → All_ask q (job_with m p a ho re None rs f n fl) (retain_piece o ++ h)
    retain_asks None m p a ho re rs f n fl h lawful asks = asks
    retain_asks (Some Default) m p a ho re rs f n fl h lawful asks =
        set_asks words.Retain (plain (codes "DEFAULT")) q (job_with m p a ho re None rs f n fl) (λ x. record x { retain = Some Default }) h (spoken h) (λ x. refl)
        (λ t. kept t (codes "DEFAULT") (inner_of (spoken h)) (with_retain t Default) (ap (job_retain_by now t (codes "DEFAULT")) (none_inner h))) asks
    retain_asks (Some Always) m p a ho re rs f n fl h lawful asks =
        set_asks words.Retain (plain (codes "ALWAYS")) q (job_with m p a ho re None rs f n fl) (λ x. record x { retain = Some Always }) h (spoken h) (λ x. refl)
        (λ t. kept t (codes "ALWAYS") (inner_of (spoken h)) (with_retain t Always) (ap (job_retain_by now t (codes "ALWAYS")) (none_inner h))) asks
    retain_asks (Some Failed) m p a ho re rs f n fl h lawful asks =
        set_asks words.Retain (plain (codes "ERROR")) q (job_with m p a ho re None rs f n fl) (λ x. record x { retain = Some Failed }) h (spoken h) (λ x. refl)
        (λ t. kept t (codes "ERROR") (inner_of (spoken h)) (with_retain t Failed) (ap (job_retain_by now t (codes "ERROR")) (none_inner h))) asks
    retain_asks (Some (Until moment)) m p a ho re rs f n fl h lawful asks =
        let time : Said = record { quoted = true; text = inside moment } in
        set_asks words.Retain (plain (codes "UNTIL")) q (job_with m p a ho re None rs f n fl) (λ x. record x { retain = Some (Until moment) }) h (Spoken.SaysKeyValue time ∷ spoken h) (λ x. refl)
        (λ t. kept t (codes "UNTIL") (Some time) (with_retain t (Until moment)) (ap (until_given t) (times moment now lawful)))
        (λ t holds. one_asks t t (Spoken.SaysKeyValue time) (spoken h) refl (asks t holds))

    pub restart_asks : (o : Option Bool) (m : Option (List ℕ)) (p : Option ℕ) (a : Option (Option ℕ)) (ho re : Bool) (r : Option JobRetain) (f : Option NameOrNumber) (n : ℕ) (fl : Bool) (h : List Piece)
        → All_ask q (job_with m p a ho re r o f n fl) h → All_ask q (job_with m p a ho re r None f n fl) (restart_piece o ++ h)
    restart_asks None m p a ho re r f n fl h asks = asks
    restart_asks (Some true) m p a ho re r f n fl h asks = marked_asks words.Restart q (job_with m p a ho re r None f n fl) h asks
    restart_asks (Some false) m p a ho re r f n fl h asks = marked_asks words.NoRestart q (job_with m p a ho re r None f n fl) h asks

    pub form_asks : (o : Option NameOrNumber) (m : Option (List ℕ)) (p : Option ℕ) (a : Option (Option ℕ)) (ho re : Bool) (r : Option JobRetain) (rs : Option Bool) (n : ℕ) (fl : Bool) (h : List Piece)
        → IfSome o (CanBeSaid 65535) → All_ask q (job_with m p a ho re r rs o n fl) h → All_ask q (job_with m p a ho re r rs None n fl) (reference_piece words.Form o ++ h)
    form_asks None m p a ho re r rs n fl h lawful asks = asks
    form_asks (Some form) m p a ho re r rs n fl h lawful asks =
        set_asks words.Form (plain (reference_text form)) q (job_with m p a ho re r rs None n fl) (λ x. record x { form = Some form }) h (spoken h) (λ x. refl)
        (λ t. ap (option_map (λ k. with_job t (record t.job { form = Some k }))) (reference_is 65535 form lawful.0 lawful.1)) asks

    pub copies_ask : (o : Option ℕ) (m : Option (List ℕ)) (p : Option ℕ) (a : Option (Option ℕ)) (ho re : Bool) (r : Option JobRetain) (rs : Option Bool) (f : Option NameOrNumber) (fl : Bool) (h : List Piece)
        → IfSome o (λ n. n < 2 ^ 8) → All_ask q (job_with m p a ho re r rs f (copies_or o) fl) h → All_ask q (job_with m p a ho re r rs f 1 fl) (number_piece words.Copies o ++ h)
    copies_ask None m p a ho re r rs f fl h lawful asks = asks
    copies_ask (Some n) m p a ho re r rs f fl h lawful asks =
        set_asks words.Copies (plain (decimal n)) q (job_with m p a ho re r rs f 1 fl) (λ x. record x { copies = n }) h (spoken h) (λ x. refl)
        (λ t. ap (option_map (λ k. with_job t (record t.job { copies = k }))) (number_reads_back 255 n (omega (arith, lawful)) (omega (arith, lawful)))) asks

    -- each characteristic is read, and changes nothing
    characteristics_read : (s : Settings) (rs : List NameOrNumber) → s.word ≡ Some words.Characteristics → AllAre (CanBeSaid 255) rs
        → AreRead user now c lists nodes input of.no_nodes s (map reference_text rs)
    characteristics_read s [] word can = tt
    characteristics_read s (r ∷ rs) word can = (
      λ inner. ap (λ (w : Option Word). value_by now c s w (plain (reference_text r)) inner) word ∙ ap (option_map (λ _. s)) (reference_is 255 r can.0.0 can.0.1),
      characteristics_read s rs word can.1,
    )

    pub characteristics_ask : (rs : List NameOrNumber) (j : JobSettings) (h : List Piece) → AllAre (CanBeSaid 255) rs → All_ask q j h → All_ask q j (characteristics_piece rs ++ h)
    characteristics_ask [] j h can asks = asks
    characteristics_ask (first ∷ others) j h can asks = λ s holds.
        let t : Settings = with_word s words.Characteristics in
        one_asks s t (Spoken.SaysQualifier words.Characteristics) (items_spoken (map item (map reference_text (first ∷ others))) (spoken h)) refl
        (values_ask user now c lists nodes input of.no_nodes t (map reference_text (first ∷ others)) (spoken h) (characteristics_read t (first ∷ others) refl can)
        (asks t (record { file_is = holds.file_is; entry_is = holds.entry_is; queue_is = holds.queue_is; job_is = holds.job_is })))

-- ---- the characteristics that are given

pub text_quiet : (list : ListOf) (word : Word) (o : Option (List ℕ)) → gives list word ≡ false → AreQuiet list (text_piece word o)
text_quiet list word None h = tt
text_quiet list word (Some text) h = (h, tt)

pub number_quiet : (list : ListOf) (word : Word) (o : Option ℕ) → gives list word ≡ false → AreQuiet list (number_piece word o)
number_quiet list word None h = tt
number_quiet list word (Some n) h = (h, tt)

pub reference_quiet : (list : ListOf) (word : Word) (o : Option NameOrNumber) → gives list word ≡ false → AreQuiet list (reference_piece word o)
reference_quiet list word None h = tt
reference_quiet list word (Some r) h = (h, tt)

pub time_quiet : (list : ListOf) (o : Option ℕ) → gives list words.After ≡ false → AreQuiet list (time_piece o)
time_quiet list None h = tt
time_quiet list (Some moment) h = (h, tt)

pub retain_quiet : (list : ListOf) (o : Option JobRetain) → gives list words.Retain ≡ false → AreQuiet list (retain_piece o)
retain_quiet list None h = tt
retain_quiet list (Some retain) h = (h, tt)

pub restart_quiet : (list : ListOf) (o : Option Bool) → gives list words.Restart ≡ false → gives list words.NoRestart ≡ false → AreQuiet list (restart_piece o)
restart_quiet list None h other = tt
restart_quiet list (Some true) h other = (h, tt)
restart_quiet list (Some false) h other = (other, tt)

pub mark_quiet : (list : ListOf) (word : Word) (b : Bool) → gives list word ≡ false → AreQuiet list (mark word b)
mark_quiet list word true h = (h, tt)
mark_quiet list word false h = tt

-- what is listed where only other pieces stand behind it
abbrev pub listed_or_none : List NameOrNumber → Option (List NameOrNumber)
listed_or_none [] = None
listed_or_none (first ∷ others) = Some (first ∷ others)

pub characteristics_there : (rs : List NameOrNumber) (h : List Piece) → AllAre (CanBeSaid 255) rs → texts_of Characteristics (spoken h) ≡ None
    → option_map (filter_map characteristic_said) (texts_of Characteristics (spoken (characteristics_piece rs ++ h))) ≡ listed_or_none rs
characteristics_there [] h can none = ap (option_map (filter_map characteristic_said)) none
characteristics_there (first ∷ others) h can none =
    ap (option_map (filter_map characteristic_said)) (list_is Characteristics words.Characteristics (reference_text first) (map reference_text others) h refl none)
    ∙ ap (λ (l : List NameOrNumber). Some l) (all_read characteristic_said reference_text (CanBeSaid 255) (λ r is. reference_is 255 r is.0 is.1) (first ∷ others) can)
