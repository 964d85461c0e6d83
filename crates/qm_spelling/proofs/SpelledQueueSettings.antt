-- The qualifiers of what is set for a queue.
use Rattle.std.proofs.Common.{◌≡◌, inl, inr, ◌<◌, ◌≤◌, ◌^◌, ℕ, suc, List, [], ◌∷◌, ◌++◌, length, map, codes, decimal, IfSome, Option, None, Some, Bool, true, false, if◌then◌else◌, refl, sym, ap, subst, arith, lit<, option_map}
use Rattle.std.specs.Option.{option_map_or}
use Rattle.std.proofs.lemmas.List.{length-map}
use Rattle.qm_model.specs.Common.{QueueChange, QueueRetain, NameOrNumber}
use Rattle.qm_kinds.specs.declared.queue.QueueRetain.TheVariants.{Nothing, Failed, All}
use Rattle.qm_commands.specs.declared.rules.Takes.TheVariants as takes
use Rattle.qm_commands.specs.declared.word.Word.TheVariants as words
use Rattle.qm_commands.specs.Rules.{queue_settings}
use Rattle.qm_spelling.specs.Lawful.{IsReference, AreReferences, IsQueueChange}
use Rattle.qm_sayable.specs.Values.{are_characteristics, fits_list}
use Rattle.qm_spelling.specs.Pieces.{marked, valued, list_text, reference_text}
use Rattle.qm_sayable.specs.Queues.{are_queue_settings}
use Rattle.qm_spelling.specs.Queues.{queue_characteristics_text, are_no_limits, blocks_text, schedule_text, queue_retain_text, queue_settings_text}
use Rattle.qm_spelling.proofs.SpelledPieces.{Piece, ArePieces}
use Rattle.qm_spelling.proofs.SpelledTails.{one, words_list, pieces_text, both_texts, mark_text, valued_text, one_text, list_text_is, AreGiven, given_append, pieces_append}
use Rattle.qm_spelling.proofs.SpelledWords.{number_word}
use Rattle.qm_spelling.proofs.SpelledAsking.{reference_word, references_words, items_are, list_taken}
use Rattle.qm_spelling.proofs.SpelledTruth.{and_left}

-- ---- their pieces

abbrev pub limit_pieces : Option ℕ → List Piece
limit_pieces None = []
limit_pieces (Some limit) = Piece.Valued words.JobLimit (one (decimal limit)) ∷ []

abbrev pub characteristics_pieces : Option (List NameOrNumber) → List Piece
characteristics_pieces None = []
characteristics_pieces (Some []) = Piece.Marked words.NoCharacteristics ∷ []
characteristics_pieces (Some (first ∷ others)) = Piece.Valued words.Characteristics (words_list (reference_text first) (map reference_text others)) ∷ []

abbrev pub form_pieces : Option NameOrNumber → List Piece
form_pieces None = []
form_pieces (Some form) = Piece.Valued words.FormMounted (one (reference_text form)) ∷ []

abbrev pub limits_pieces : Bool → ℕ × ℕ → List Piece
limits_pieces true limits = Piece.Marked words.NoBlockLimit ∷ []
limits_pieces false limits = Piece.Valued words.BlockLimit (words_list (decimal limits.0) (decimal limits.1 ∷ [])) ∷ []

abbrev pub blocks_pieces : Option (ℕ × ℕ) → List Piece
blocks_pieces None = []
blocks_pieces (Some limits) = limits_pieces (are_no_limits limits) limits

abbrev pub schedule_pieces : Option Bool → List Piece
schedule_pieces None = []
schedule_pieces (Some true) = Piece.Valued words.Schedule (one (codes "SIZE")) ∷ []
schedule_pieces (Some false) = Piece.Valued words.Schedule (one (codes "NOSIZE")) ∷ []

abbrev pub retain_pieces : Option QueueRetain → List Piece
retain_pieces None = []
retain_pieces (Some Nothing) = Piece.Marked words.NoRetain ∷ []
retain_pieces (Some Failed) = Piece.Valued words.Retain (one (codes "ERROR")) ∷ []
retain_pieces (Some All) = Piece.Valued words.Retain (one (codes "ALL")) ∷ []

abbrev pub settings_pieces : QueueChange → List Piece
settings_pieces change =
    limit_pieces change.limit ++ characteristics_pieces change.characteristics ++ form_pieces change.form ++ blocks_pieces change.blocks
    ++ schedule_pieces change.by_size ++ retain_pieces change.retain

-- ---- their text

limit_text : (limit : Option ℕ) → valued words.JobLimit (option_map decimal limit) ≡ pieces_text (limit_pieces limit)
limit_text None = refl
limit_text (Some limit) = valued_text words.JobLimit (one (decimal limit)) (decimal limit) (one_text (decimal limit))

characteristics_text : (characteristics : Option (List NameOrNumber)) → queue_characteristics_text characteristics ≡ pieces_text (characteristics_pieces characteristics)
characteristics_text None = refl
characteristics_text (Some []) = mark_text words.NoCharacteristics true
characteristics_text (Some (first ∷ others)) =
    valued_text words.Characteristics (words_list (reference_text first) (map reference_text others)) _ (list_text_is (reference_text first) (map reference_text others))

form_text : (form : Option NameOrNumber) → valued words.FormMounted (option_map reference_text form) ≡ pieces_text (form_pieces form)
form_text None = refl
form_text (Some form) = valued_text words.FormMounted (one (reference_text form)) (reference_text form) (one_text (reference_text form))

limits_text : (none : Bool) (limits : ℕ × ℕ)
    → (if none then marked words.NoBlockLimit true else valued words.BlockLimit (Some (list_text (decimal limits.0 ∷ decimal limits.1 ∷ [])))) ≡ pieces_text (limits_pieces none limits)
limits_text true limits = mark_text words.NoBlockLimit true
limits_text false limits = valued_text words.BlockLimit (words_list (decimal limits.0) (decimal limits.1 ∷ [])) _ (list_text_is (decimal limits.0) (decimal limits.1 ∷ []))

blocks_are : (blocks : Option (ℕ × ℕ)) → blocks_text blocks ≡ pieces_text (blocks_pieces blocks)
blocks_are None = refl
blocks_are (Some limits) = limits_text (are_no_limits limits) limits

schedule_are : (by_size : Option Bool) → schedule_text by_size ≡ pieces_text (schedule_pieces by_size)
schedule_are None = refl
schedule_are (Some true) = refl
schedule_are (Some false) = refl

retain_are : (retain : Option QueueRetain) → queue_retain_text retain ≡ pieces_text (retain_pieces retain)
retain_are None = refl
retain_are (Some Nothing) = refl
retain_are (Some Failed) = refl
retain_are (Some All) = refl

pub settings_text : (change : QueueChange) → queue_settings_text change ≡ pieces_text (settings_pieces change)
settings_text change =
    let a = limit_pieces change.limit in let b = characteristics_pieces change.characteristics in let d = form_pieces change.form in
    let e = blocks_pieces change.blocks in let f = schedule_pieces change.by_size in let g = retain_pieces change.retain in
    both_texts (a ++ b ++ d ++ e ++ f) g _ _
    (both_texts (a ++ b ++ d ++ e) f _ _
    (both_texts (a ++ b ++ d) e _ _
    (both_texts (a ++ b) d _ _ (both_texts a b _ _ (limit_text change.limit) (characteristics_text change.characteristics)) (form_text change.form))
    (blocks_are change.blocks)) (schedule_are change.by_size)) (retain_are change.retain)

-- ---- they are in the table

some_taken : 1 ≤ 1
some_taken = omega arith

limit_given : (limit : Option ℕ) → AreGiven queue_settings (limit_pieces limit)
limit_given None = tt
limit_given (Some limit) = ((takes.One, inl refl, (some_taken, tt)), tt)

characteristics_given : (characteristics : Option (List NameOrNumber)) → option_map_or are_characteristics characteristics true ≡ true → AreGiven queue_settings (characteristics_pieces characteristics)
characteristics_given None is = tt
characteristics_given (Some []) is = ((takes.Nothing, inr (inr (inl refl)), refl), tt)
characteristics_given (Some (first ∷ others)) is = (
  (
    takes.List,
    inr (inl refl),
    list_taken (reference_text first) (map reference_text others)
        (subst (λ (n : ℕ). fits_list n ≡ true) (ap suc (sym (length-map others reference_text))) (and_left (fits_list (length (first ∷ others))) _ is)),
  ),
  tt,
)

form_given : (form : Option NameOrNumber) → AreGiven queue_settings (form_pieces form)
form_given None = tt
form_given (Some form) = ((takes.One, inr (inr (inr (inl refl))), (some_taken, tt)), tt)

limits_given : (none : Bool) (limits : ℕ × ℕ) → AreGiven queue_settings (limits_pieces none limits)
limits_given true limits = ((takes.Nothing, inr (inr (inr (inr (inr (inl refl))))), refl), tt)
limits_given false limits = ((takes.Pair, inr (inr (inr (inr (inl refl)))), (omega arith, tt, (tt, tt))), tt)

blocks_given : (blocks : Option (ℕ × ℕ)) → AreGiven queue_settings (blocks_pieces blocks)
blocks_given None = tt
blocks_given (Some limits) = limits_given (are_no_limits limits) limits

schedule_given_all : (by_size : Option Bool) → AreGiven queue_settings (schedule_pieces by_size)
schedule_given_all None = tt
schedule_given_all (Some true) = ((takes.One, inr (inr (inr (inr (inr (inr (inl refl)))))), (some_taken, tt)), tt)
schedule_given_all (Some false) = ((takes.One, inr (inr (inr (inr (inr (inr (inl refl)))))), (some_taken, tt)), tt)

retain_given_all : (retain : Option QueueRetain) → AreGiven queue_settings (retain_pieces retain)
retain_given_all None = tt
retain_given_all (Some Nothing) = ((takes.Nothing, inr (inr (inr (inr (inr (inr (inr (inr (inl refl)))))))), refl), tt)
retain_given_all (Some Failed) = ((takes.One, inr (inr (inr (inr (inr (inr (inr (inl refl))))))), (some_taken, tt)), tt)
retain_given_all (Some All) = ((takes.One, inr (inr (inr (inr (inr (inr (inr (inl refl))))))), (some_taken, tt)), tt)

pub settings_given : (change : QueueChange) → are_queue_settings change ≡ true → AreGiven queue_settings (settings_pieces change)
settings_given change is =
    let a = limit_pieces change.limit in let b = characteristics_pieces change.characteristics in let d = form_pieces change.form in
    let e = blocks_pieces change.blocks in let f = schedule_pieces change.by_size in let g = retain_pieces change.retain in
    given_append queue_settings (a ++ b ++ d ++ e ++ f) g
    (given_append queue_settings (a ++ b ++ d ++ e) f
    (given_append queue_settings (a ++ b ++ d) e
    (given_append queue_settings (a ++ b) d
    (given_append queue_settings a b (limit_given change.limit) (characteristics_given change.characteristics (and_left (option_map_or are_characteristics change.characteristics true) _ is)))
    (form_given change.form)) (blocks_given change.blocks)) (schedule_given_all change.by_size)) (retain_given_all change.retain)

-- ---- their tokens can be told apart

limit_words : (limit : Option ℕ) → IfSome limit (λ n. n < 2 ^ 8) → ArePieces (limit_pieces limit)
limit_words None lawful = tt
limit_words (Some limit) lawful = ((number_word limit (omega (arith, lawful)), tt), tt)

characteristics_words : (characteristics : Option (List NameOrNumber)) → IfSome characteristics AreReferences → ArePieces (characteristics_pieces characteristics)
characteristics_words None lawful = tt
characteristics_words (Some []) lawful = (tt, tt)
characteristics_words (Some (first ∷ others)) lawful =
    (((reference_word first lawful.0, tt), items_are (map reference_text others) (references_words others lawful.1)), tt)

form_words : (form : Option NameOrNumber) → IfSome form IsReference → ArePieces (form_pieces form)
form_words None lawful = tt
form_words (Some form) lawful = ((reference_word form lawful, tt), tt)

limits_words : (none : Bool) (limits : ℕ × ℕ) → limits.0 < 2 ^ 32 → limits.1 < 2 ^ 32 → ArePieces (limits_pieces none limits)
limits_words true limits low high = (tt, tt)
limits_words false limits low high = (((number_word limits.0 (omega (arith, low)), tt), ((number_word limits.1 (omega (arith, high)), tt), tt)), tt)

blocks_words : (blocks : Option (ℕ × ℕ)) → IfSome blocks (λ limits. (limits.0 < 2 ^ 32) × (limits.1 < 2 ^ 32)) → ArePieces (blocks_pieces blocks)
blocks_words None lawful = tt
blocks_words (Some limits) lawful = limits_words (are_no_limits limits) limits lawful.0 lawful.1

schedule_words : (by_size : Option Bool) → ArePieces (schedule_pieces by_size)
schedule_words None = tt
schedule_words (Some true) = (((lit< tt, refl), tt), tt)
schedule_words (Some false) = (((lit< tt, refl), tt), tt)

retain_words : (retain : Option QueueRetain) → ArePieces (retain_pieces retain)
retain_words None = tt
retain_words (Some Nothing) = (tt, tt)
retain_words (Some Failed) = (((lit< tt, refl), tt), tt)
retain_words (Some All) = (((lit< tt, refl), tt), tt)

pub settings_words : (change : QueueChange) → IsQueueChange change → ArePieces (settings_pieces change)
settings_words change lawful =
    let a = limit_pieces change.limit in let b = characteristics_pieces change.characteristics in let d = form_pieces change.form in
    let e = blocks_pieces change.blocks in let f = schedule_pieces change.by_size in let g = retain_pieces change.retain in
    pieces_append (a ++ b ++ d ++ e ++ f) g
    (pieces_append (a ++ b ++ d ++ e) f
    (pieces_append (a ++ b ++ d) e
    (pieces_append (a ++ b) d (pieces_append a b (limit_words change.limit lawful.limit) (characteristics_words change.characteristics lawful.characteristics)) (form_words change.form lawful.form))
    (blocks_words change.blocks lawful.blocks)) (schedule_words change.by_size)) (retain_words change.retain)
