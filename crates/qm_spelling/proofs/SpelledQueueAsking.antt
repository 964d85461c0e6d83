-- What the qualifiers of a queue give.
use Rattle.std.proofs.Common.{◌≡◌, ◌<◌, ◌^◌, ℕ, List, [], ◌∷◌, ◌++◌, length, map, codes, decimal, IfSome, Option, None, Some, Bool, true, false, ◌==◌, if◌then◌else◌, refl, ap, ◌∙◌, arith, append-nil, append_assoc, option_map, filter_map}
use Rattle.std.specs.List.{list_all}
use Rattle.std.specs.Option.{option_map_or, option_or}
use Rattle.qm_model.specs.Common.{Input, QueueChange, QueueRetain, NameOrNumber}
use Rattle.qm_kinds.specs.declared.queue.QueueRetain.TheVariants.{Nothing, Failed, All}
use Rattle.qm_commands.specs.declared.table.Command.{Command}
use Rattle.qm_commands.specs.declared.word.Word.{Word}
use Rattle.qm_commands.specs.declared.word.Word.TheVariants as words
use Rattle.qm_dcl.specs.declared.lists.ListOf.{ListOf}
use Rattle.qm_dcl.specs.declared.lists.ListOf.TheVariants.{Characteristics, Targets}
use Rattle.qm_dcl.specs.declared.lists.Lists.{Lists}
use Rattle.qm_dcl.specs.declared.settings.Settings.{Settings}
use Rattle.qm_dcl.specs.declared.settings.QueueSettings.{QueueSettings}
use Rattle.qm_dcl.specs.declared.value.Location.{Location}
use Rattle.qm_dcl.specs.Given.{with_word, with_queue_settings, queue_retain_given}
use Rattle.qm_dcl.specs.Lists.{gives}
use Rattle.qm_dcl.specs.Settings.{lists_nodes, is_of_queue}
use Rattle.qm_dcl.specs.Values.{characteristic_said}
use Rattle.qm_spelling.specs.Lawful.{IsReference, AreReferences, IsQueueChange}
use Rattle.qm_sayable.specs.Values.{is_form_reference, is_reference, are_characteristics, fits_list}
use Rattle.qm_spelling.specs.Pieces.{reference_text}
use Rattle.qm_sayable.specs.Queues.{are_queue_settings}
use Rattle.qm_spelling.specs.Queues.{are_no_limits}
use Rattle.qm_spelling.proofs.Values.{number_reads_back}
use Rattle.qm_spelling.proofs.SpelledPieces.{Said, Piece}
use Rattle.qm_spelling.proofs.SpelledReading.{Spoken, spoken, items_spoken, plain}
use Rattle.qm_spelling.proofs.SpelledSettings.{inner_of, value_by, job_retain_by}
use Rattle.qm_spelling.proofs.SpelledLists.{texts_ahead, texts_of}
use Rattle.qm_spelling.proofs.SpelledCommand.{Asks, one_asks}
use Rattle.qm_spelling.proofs.SpelledTails.{item}
use Rattle.qm_spelling.proofs.SpelledAsking.{reference_is, value_asks, valued_asks, AreRead, values_ask, AreQuiet, quiet, list_is, AllAre, all_read, none_ahead}
use Rattle.qm_spelling.proofs.SpelledQueueSettings.{limit_pieces, characteristics_pieces, form_pieces, limits_pieces, blocks_pieces, schedule_pieces, retain_pieces, settings_pieces}
use Rattle.qm_spelling.proofs.SpelledTruth.{and_left, and_right, same_number}

-- a command that sets what a queue does with its jobs
pub record IsOfQueue (c : Command) : Type 0 where
  pub no_nodes : (word : Option Word) → lists_nodes c word ≡ false
  pub of_queue : is_of_queue c ≡ true

abbrev pub queue_with : Option ℕ → Option NameOrNumber → Option (ℕ × ℕ) → Option Bool → Option QueueRetain → Bool → Option Location → Bool → QueueSettings
queue_with limit form blocks by_size retain batch location start =
    record { limit = limit; form = form; blocks = blocks; by_size = by_size; retain = retain; batch = batch; location = location; start = start }

-- this is given of a queue of this name
pub record Stands (queue : Option (List ℕ)) (s : Settings) (qs : QueueSettings) : Type 0 where
  pub settings : s.queue_settings ≡ qs
  pub named : s.queue ≡ queue

-- a reference that can be said
abbrev pub CanBeSaid : ℕ → NameOrNumber → Type 0
CanBeSaid most r = IsReference r × (is_reference most r ≡ true)

pub can_all : (most : ℕ) (rs : List NameOrNumber) → AreReferences rs → list_all (is_reference most) rs ≡ true → AllAre (CanBeSaid most) rs
can_all most [] lawful all = tt
can_all most (r ∷ rs) lawful all = ((lawful.0, and_left (is_reference most r) _ all), can_all most rs lawful.1 (and_right (is_reference most r) _ all))

-- the six groups, one behind the other
abbrev pub in_order : QueueChange → List Piece
in_order change =
    limit_pieces change.limit ++ (characteristics_pieces change.characteristics ++ (form_pieces change.form ++ (blocks_pieces change.blocks
    ++ (schedule_pieces change.by_size ++ (retain_pieces change.retain ++ [])))))

module _ (user : List ℕ) (now : ℕ) (c : Command) (lists : Lists) (nodes : Option (List (List ℕ))) (input : Input) (of : IsOfQueue c) (queue : Option (List ℕ)) where
  -- whoever stands there asks for the input
  abbrev pub All_ask : QueueSettings → List Piece → Type 0
  All_ask qs h = (s : Settings) → Stands queue s qs → Asks user now c lists nodes input s (spoken h)

  -- each characteristic is read, and changes nothing
  pub characteristics_read : (s : Settings) (rs : List NameOrNumber) → s.word ≡ Some words.Characteristics → AllAre (CanBeSaid 255) rs
      → AreRead user now c lists nodes input of.no_nodes s (map reference_text rs)
  characteristics_read s [] word can = tt
  characteristics_read s (r ∷ rs) word can = (
    λ inner. ap (λ (w : Option Word). value_by now c s w (plain (reference_text r)) inner) word ∙ ap (option_map (λ _. s)) (reference_is 255 r can.0.0 can.0.1),
    characteristics_read s rs word can.1,
  )

  module _ (batch : Bool) (location : Option Location) (start : Bool) where
    limit_asks : (limit : Option ℕ) (f : Option NameOrNumber) (b : Option (ℕ × ℕ)) (z : Option Bool) (r : Option QueueRetain) (h : List Piece) → IfSome limit (λ n. n < 2 ^ 8)
        → All_ask (queue_with limit f b z r batch location start) h → All_ask (queue_with None f b z r batch location start) (limit_pieces limit ++ h)
    limit_asks None f b z r h lawful asks = asks
    limit_asks (Some n) f b z r h lawful asks = λ s stands.
        let t : Settings = with_word s words.JobLimit in
        let u : Settings = with_queue_settings t (record t.queue_settings { limit = Some n }) in
        valued_asks user now c lists nodes input of.no_nodes s u words.JobLimit (plain (decimal n)) (spoken h)
        (ap (option_map (λ m. with_queue_settings t (record t.queue_settings { limit = Some m }))) (number_reads_back 255 n (omega (arith, lawful)) (omega (arith, lawful))))
        (asks u (record { settings = ap (λ (q : QueueSettings). record q { limit = Some n }) stands.settings; named = stands.named }))

    characteristics_ask : (characteristics : Option (List NameOrNumber)) (qs : QueueSettings) (h : List Piece) → IfSome characteristics AreReferences
        → option_map_or are_characteristics characteristics true ≡ true → All_ask qs h → All_ask qs (characteristics_pieces characteristics ++ h)
    characteristics_ask None qs h lawful can asks = asks
    characteristics_ask (Some []) qs h lawful can asks = λ s stands.
        one_asks s (with_word s words.NoCharacteristics) (Spoken.SaysQualifier words.NoCharacteristics) (spoken h) refl
        (asks (with_word s words.NoCharacteristics) (record { settings = stands.settings; named = stands.named }))
    characteristics_ask (Some (first ∷ others)) qs h lawful can asks = λ s stands.
        let t : Settings = with_word s words.Characteristics in
        one_asks s t (Spoken.SaysQualifier words.Characteristics) (items_spoken (map item (map reference_text (first ∷ others))) (spoken h)) refl
        (values_ask user now c lists nodes input of.no_nodes t (map reference_text (first ∷ others)) (spoken h)
        (characteristics_read t (first ∷ others) refl (can_all 255 (first ∷ others) lawful (and_right (fits_list (length (first ∷ others))) _ can)))
        (asks t (record { settings = stands.settings; named = stands.named })))

    form_asks : (l : Option ℕ) (form : Option NameOrNumber) (b : Option (ℕ × ℕ)) (z : Option Bool) (r : Option QueueRetain) (h : List Piece) → IfSome form IsReference
        → option_map_or is_form_reference form true ≡ true
        → All_ask (queue_with l form b z r batch location start) h → All_ask (queue_with l None b z r batch location start) (form_pieces form ++ h)
    form_asks l None b z r h lawful can asks = asks
    form_asks l (Some form) b z r h lawful can asks = λ s stands.
        let t : Settings = with_word s words.FormMounted in
        let u : Settings = with_queue_settings t (record t.queue_settings { form = Some form }) in
        valued_asks user now c lists nodes input of.no_nodes s u words.FormMounted (plain (reference_text form)) (spoken h)
        (ap (option_map (λ m. with_queue_settings t (record t.queue_settings { form = Some m }))) (reference_is 65535 form lawful can))
        (asks u (record { settings = ap (λ (q : QueueSettings). record q { form = Some form }) stands.settings; named = stands.named }))

    no_limits : (limits : ℕ × ℕ) → are_no_limits limits ≡ true → (1, 4294967295) ≡ limits
    no_limits limits is =
        let low : 1 ≡ limits.0 = same_number limits.0 1 (and_left (limits.0 == 1) _ is) in
        let high : 4294967295 ≡ limits.1 = same_number limits.1 4294967295 (and_right (limits.0 == 1) _ is) in
        λ i. (low i, high i)

    limits_ask : (none : Bool) (l : Option ℕ) (f : Option NameOrNumber) (limits : ℕ × ℕ) (z : Option Bool) (r : Option QueueRetain) (h : List Piece) → are_no_limits limits ≡ none
        → limits.0 < 2 ^ 32 → limits.1 < 2 ^ 32
        → All_ask (queue_with l f (Some limits) z r batch location start) h → All_ask (queue_with l f None z r batch location start) (limits_pieces none limits ++ h)
    limits_ask true l f limits z r h is low high asks = λ s stands.
        let t : Settings = with_word s words.NoBlockLimit in
        one_asks s t (Spoken.SaysQualifier words.NoBlockLimit) (spoken h) refl
        (asks t (record {
          settings = ap (λ (q : QueueSettings). record q { blocks = Some (1, 4294967295) }) stands.settings
              ∙ ap (λ (b : ℕ × ℕ). queue_with l f (Some b) z r batch location start) (no_limits limits is);
          named = stands.named;
        }))
    limits_ask false l f limits z r h is low high asks = λ s stands.
        let t : Settings = with_word s words.BlockLimit in
        let u : Settings = with_queue_settings t (record t.queue_settings { blocks = Some (1, limits.0) }) in
        let v : Settings = with_queue_settings u (record u.queue_settings { blocks = Some (limits.0, limits.1) }) in
        valued_asks user now c lists nodes input of.no_nodes s u words.BlockLimit (plain (decimal limits.0)) (Spoken.SaysValue (plain (decimal limits.1)) ∷ spoken h)
        (ap (option_map (λ m. with_queue_settings t (record t.queue_settings { blocks = Some (1, m) }))) (number_reads_back 4294967295 limits.0 (omega (arith, low)) (omega (arith, low))))
        (value_asks user now c lists nodes input of.no_nodes u v (plain (decimal limits.1)) (spoken h)
        (ap (option_map (λ m. with_queue_settings u (record u.queue_settings { blocks = Some (limits.0, m) }))) (number_reads_back 4294967295 limits.1 (omega (arith, high)) (omega (arith, high))))
        (asks v (record { settings = ap (λ (q : QueueSettings). record q { blocks = Some (limits.0, limits.1) }) stands.settings; named = stands.named })))

    blocks_ask : (l : Option ℕ) (f : Option NameOrNumber) (blocks : Option (ℕ × ℕ)) (z : Option Bool) (r : Option QueueRetain) (h : List Piece)
        → IfSome blocks (λ limits. (limits.0 < 2 ^ 32) × (limits.1 < 2 ^ 32))
        → All_ask (queue_with l f blocks z r batch location start) h → All_ask (queue_with l f None z r batch location start) (blocks_pieces blocks ++ h)
    blocks_ask l f None z r h lawful asks = asks
    blocks_ask l f (Some limits) z r h lawful asks = limits_ask (are_no_limits limits) l f limits z r h refl lawful.0 lawful.1 asks

    schedule_asks : (l : Option ℕ) (f : Option NameOrNumber) (b : Option (ℕ × ℕ)) (by_size : Option Bool) (r : Option QueueRetain) (h : List Piece)
        → All_ask (queue_with l f b by_size r batch location start) h → All_ask (queue_with l f b None r batch location start) (schedule_pieces by_size ++ h)
    schedule_asks l f b None r h asks = asks
    schedule_asks l f b (Some true) r h asks = λ s stands.
        let t : Settings = with_word s words.Schedule in
        let u : Settings = with_queue_settings t (record t.queue_settings { by_size = Some true }) in
        valued_asks user now c lists nodes input of.no_nodes s u words.Schedule (plain (codes "SIZE")) (spoken h) refl
        (asks u (record { settings = ap (λ (q : QueueSettings). record q { by_size = Some true }) stands.settings; named = stands.named }))
    schedule_asks l f b (Some false) r h asks = λ s stands.
        let t : Settings = with_word s words.Schedule in
        let u : Settings = with_queue_settings t (record t.queue_settings { by_size = Some false }) in
        valued_asks user now c lists nodes input of.no_nodes s u words.Schedule (plain (codes "NOSIZE")) (spoken h) refl
        (asks u (record { settings = ap (λ (q : QueueSettings). record q { by_size = Some false }) stands.settings; named = stands.named }))

    retained : (s : Settings) (text : List ℕ) (inner : Option Said) (t : Settings) → queue_retain_given s text ≡ Some t
        → (if is_of_queue c then queue_retain_given s text else job_retain_by now s text inner) ≡ Some t
    retained s text inner t is = ap (λ (b : Bool). if b then queue_retain_given s text else job_retain_by now s text inner) of.of_queue ∙ is

    retain_asks : (l : Option ℕ) (f : Option NameOrNumber) (b : Option (ℕ × ℕ)) (z : Option Bool) (retain : Option QueueRetain) (h : List Piece)
        → All_ask (queue_with l f b z retain batch location start) h → All_ask (queue_with l f b z None batch location start) (retain_pieces retain ++ h)
    retain_asks l f b z None h asks = asks
    retain_asks l f b z (Some Nothing) h asks = λ s stands.
        let t : Settings = with_word s words.NoRetain in
        one_asks s t (Spoken.SaysQualifier words.NoRetain) (spoken h) refl
        (asks t (record { settings = ap (λ (q : QueueSettings). record q { retain = Some Nothing }) stands.settings; named = stands.named }))
    retain_asks l f b z (Some Failed) h asks = λ s stands.
        let t : Settings = with_word s words.Retain in
        let u : Settings = with_queue_settings t (record t.queue_settings { retain = Some Failed }) in
        valued_asks user now c lists nodes input of.no_nodes s u words.Retain (plain (codes "ERROR")) (spoken h) (retained t (codes "ERROR") (inner_of (spoken h)) u refl)
        (asks u (record { settings = ap (λ (q : QueueSettings). record q { retain = Some Failed }) stands.settings; named = stands.named }))
    retain_asks l f b z (Some All) h asks = λ s stands.
        let t : Settings = with_word s words.Retain in
        let u : Settings = with_queue_settings t (record t.queue_settings { retain = Some All }) in
        valued_asks user now c lists nodes input of.no_nodes s u words.Retain (plain (codes "ALL")) (spoken h) (retained t (codes "ALL") (inner_of (spoken h)) u refl)
        (asks u (record { settings = ap (λ (q : QueueSettings). record q { retain = Some All }) stands.settings; named = stands.named }))

    -- what is set is asked for
    pub settings_ask : (change : QueueChange) → IsQueueChange change → are_queue_settings change ≡ true
        → All_ask (queue_with change.limit change.form change.blocks change.by_size change.retain batch location start) []
        → All_ask (queue_with None None None None None batch location start) (in_order change)
    settings_ask change lawful can asks =
        let h5 = retain_pieces change.retain ++ [] in let h4 = schedule_pieces change.by_size ++ h5 in let h3 = blocks_pieces change.blocks ++ h4 in
        let h2 = form_pieces change.form ++ h3 in let h1 = characteristics_pieces change.characteristics ++ h2 in
        limit_asks change.limit None None None None h1 lawful.limit
        (characteristics_ask change.characteristics (queue_with change.limit None None None None batch location start) h2 lawful.characteristics
        (and_left (option_map_or are_characteristics change.characteristics true) _ can)
        (form_asks change.limit change.form None None None h3 lawful.form (and_right (option_map_or are_characteristics change.characteristics true) _ can)
        (blocks_ask change.limit change.form change.blocks None None h4 lawful.blocks
        (schedule_asks change.limit change.form change.blocks change.by_size None h5
        (retain_asks change.limit change.form change.blocks change.by_size change.retain [] asks)))))

-- ---- the lists that are given

limit_quiet : (list : ListOf) (limit : Option ℕ) → gives list words.JobLimit ≡ false → AreQuiet list (limit_pieces limit)
limit_quiet list None h = tt
limit_quiet list (Some n) h = (h, tt)

form_quiet : (list : ListOf) (form : Option NameOrNumber) → gives list words.FormMounted ≡ false → AreQuiet list (form_pieces form)
form_quiet list None h = tt
form_quiet list (Some form) h = (h, tt)

limits_quiet : (list : ListOf) (none : Bool) (limits : ℕ × ℕ) → gives list words.BlockLimit ≡ false → gives list words.NoBlockLimit ≡ false → AreQuiet list (limits_pieces none limits)
limits_quiet list true limits h other = (other, tt)
limits_quiet list false limits h other = (h, tt)

blocks_quiet : (list : ListOf) (blocks : Option (ℕ × ℕ)) → gives list words.BlockLimit ≡ false → gives list words.NoBlockLimit ≡ false → AreQuiet list (blocks_pieces blocks)
blocks_quiet list None h other = tt
blocks_quiet list (Some limits) h other = limits_quiet list (are_no_limits limits) limits h other

schedule_quiet : (list : ListOf) (by_size : Option Bool) → gives list words.Schedule ≡ false → AreQuiet list (schedule_pieces by_size)
schedule_quiet list None h = tt
schedule_quiet list (Some true) h = (h, tt)
schedule_quiet list (Some false) h = (h, tt)

retain_quiet : (list : ListOf) (retain : Option QueueRetain) → gives list words.Retain ≡ false → gives list words.NoRetain ≡ false → AreQuiet list (retain_pieces retain)
retain_quiet list None h other = tt
retain_quiet list (Some Nothing) h other = (other, tt)
retain_quiet list (Some Failed) h other = (h, tt)
retain_quiet list (Some All) h other = (h, tt)

-- behind the characteristics none of both lists is given
none_behind : (list : ListOf) (change : QueueChange) → gives list words.FormMounted ≡ false → gives list words.BlockLimit ≡ false → gives list words.NoBlockLimit ≡ false
    → gives list words.Schedule ≡ false → gives list words.Retain ≡ false → gives list words.NoRetain ≡ false
    → texts_of list (spoken (form_pieces change.form ++ (blocks_pieces change.blocks ++ (schedule_pieces change.by_size ++ (retain_pieces change.retain ++ []))))) ≡ None
none_behind list change f b nb z r nr =
    quiet list (form_pieces change.form) (blocks_pieces change.blocks ++ (schedule_pieces change.by_size ++ (retain_pieces change.retain ++ []))) (form_quiet list change.form f)
    ∙ quiet list (blocks_pieces change.blocks) (schedule_pieces change.by_size ++ (retain_pieces change.retain ++ [])) (blocks_quiet list change.blocks b nb)
    ∙ quiet list (schedule_pieces change.by_size) (retain_pieces change.retain ++ []) (schedule_quiet list change.by_size z)
    ∙ quiet list (retain_pieces change.retain) [] (retain_quiet list change.retain r nr)

characteristics_there : (characteristics : Option (List NameOrNumber)) (h : List Piece) → IfSome characteristics AreReferences → option_map_or are_characteristics characteristics true ≡ true
    → texts_of Characteristics (spoken h) ≡ None
    → option_map (filter_map characteristic_said) (texts_of Characteristics (spoken (characteristics_pieces characteristics ++ h))) ≡ characteristics
characteristics_there None h lawful can none = ap (option_map (filter_map characteristic_said)) none
characteristics_there (Some []) h lawful can none =
    ap (option_map (filter_map characteristic_said))
    (ap (λ (o : Option (List (List ℕ))). option_or o (Some (texts_ahead (spoken h)))) none ∙ ap (λ (l : List (List ℕ)). Some l) (none_ahead h))
characteristics_there (Some (first ∷ others)) h lawful can none =
    ap (option_map (filter_map characteristic_said)) (list_is Characteristics words.Characteristics (reference_text first) (map reference_text others) h refl none)
    ∙ ap (λ (l : List NameOrNumber). Some l)
    (all_read characteristic_said reference_text (CanBeSaid 255) (λ r is. reference_is 255 r is.0 is.1) (first ∷ others)
    (can_all 255 (first ∷ others) lawful (and_right (fits_list (length (first ∷ others))) _ can)))

targets_quiet : (characteristics : Option (List NameOrNumber)) → AreQuiet Targets (characteristics_pieces characteristics)
targets_quiet None = tt
targets_quiet (Some []) = (refl, tt)
targets_quiet (Some (first ∷ others)) = (refl, tt)

pub set_characteristics : (change : QueueChange) → IsQueueChange change → are_queue_settings change ≡ true
    → option_map (filter_map characteristic_said) (texts_of Characteristics (spoken (in_order change))) ≡ change.characteristics
set_characteristics change lawful can =
    let behind = form_pieces change.form ++ (blocks_pieces change.blocks ++ (schedule_pieces change.by_size ++ (retain_pieces change.retain ++ []))) in
    ap (option_map (filter_map characteristic_said))
    (quiet Characteristics (limit_pieces change.limit) (characteristics_pieces change.characteristics ++ behind) (limit_quiet Characteristics change.limit refl))
    ∙ characteristics_there change.characteristics behind lawful.characteristics (and_left (option_map_or are_characteristics change.characteristics true) _ can)
    (none_behind Characteristics change refl refl refl refl refl refl)

pub no_targets : (change : QueueChange) → texts_of Targets (spoken (in_order change)) ≡ None
no_targets change =
    let behind = form_pieces change.form ++ (blocks_pieces change.blocks ++ (schedule_pieces change.by_size ++ (retain_pieces change.retain ++ []))) in
    quiet Targets (limit_pieces change.limit) (characteristics_pieces change.characteristics ++ behind) (limit_quiet Targets change.limit refl)
    ∙ quiet Targets (characteristics_pieces change.characteristics) behind (targets_quiet change.characteristics)
    ∙ none_behind Targets change refl refl refl refl refl refl

-- the groups are the pieces of what is set
pub same_order : (change : QueueChange) → settings_pieces change ≡ in_order change
same_order change = simp (append_assoc, append-nil)
