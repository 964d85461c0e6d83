-- The qualifiers of jobs: their pieces, the text of these, and that they are in the table.
use Rattle.std.proofs.Common.{◌≡◌, ◌<◌, ◌≤◌, ◌^◌, ℕ, suc, List, [], ◌∷◌, ◌++◌, length, map, codes, decimal, IfSome, Option, None, Some, Bool, true, false, refl, sym, ap, subst, arith, lit<, option_map}
use Rattle.std.proofs.lemmas.List.{length-map}
use Rattle.qm_model.specs.Common.{JobRetain, NameOrNumber}
use Rattle.qm_kinds.specs.declared.entry.JobRetain.TheVariants.{Default, Always, Failed, Until}
use Rattle.qm_commands.specs.declared.rules.Takes.{Takes}
use Rattle.qm_commands.specs.declared.rules.Takes.TheVariants as takes
use Rattle.qm_commands.specs.declared.word.Word.{Word}
use Rattle.qm_commands.specs.declared.word.Word.TheVariants as words
use Rattle.qm_spelling.specs.Jobs.{job_retain_text, restart_text, job_characteristics_text}
use Rattle.qm_spelling.specs.Lawful.{IsName, IsReference, AreReferences}
use Rattle.qm_sayable.specs.Values.{fits_list}
use Rattle.qm_sayable.specs.Times.{time_text}
use Rattle.qm_spelling.specs.Pieces.{valued, reference_text}
use Rattle.qm_spelling.proofs.SpelledPieces.{Item, Value, Piece, ArePieces}
use Rattle.qm_spelling.proofs.SpelledReading.{plain, TakesValue}
use Rattle.qm_spelling.proofs.SpelledTails.{mark, one, in_quotes, words_list, pieces_text, value_text, valued_text, one_text, list_text_is, In, AreGiven}
use Rattle.qm_spelling.proofs.SpelledWords.{name_word, number_word}
use Rattle.qm_spelling.proofs.SpelledAsking.{reference_word, references_words, items_are, list_taken}
use Rattle.qm_spelling.proofs.SpelledTimes.{inside, time_is, time_inside}

-- a qualifier with a word, where it is given
abbrev pub text_piece : Word → Option (List ℕ) → List Piece
text_piece word None = []
text_piece word (Some text) = Piece.Valued word (one text) ∷ []

abbrev pub number_piece : Word → Option ℕ → List Piece
number_piece word None = []
number_piece word (Some n) = Piece.Valued word (one (decimal n)) ∷ []

abbrev pub reference_piece : Word → Option NameOrNumber → List Piece
reference_piece word None = []
reference_piece word (Some r) = Piece.Valued word (one (reference_text r)) ∷ []

abbrev pub time_piece : Option ℕ → List Piece
time_piece None = []
time_piece (Some moment) = Piece.Valued words.After (in_quotes (inside moment)) ∷ []

abbrev pub until_item : ℕ → Item
until_item moment = record { said = plain (codes "UNTIL"); inner = Some (record { quoted = true; text = inside moment }) }

abbrev pub retain_value : JobRetain → Value
retain_value Default = one (codes "DEFAULT")
retain_value Always = one (codes "ALWAYS")
retain_value Failed = one (codes "ERROR")
retain_value (Until moment) = Value.One (until_item moment)

abbrev pub retain_piece : Option JobRetain → List Piece
retain_piece None = []
retain_piece (Some retain) = Piece.Valued words.Retain (retain_value retain) ∷ []

abbrev pub restart_piece : Option Bool → List Piece
restart_piece None = []
restart_piece (Some true) = Piece.Marked words.Restart ∷ []
restart_piece (Some false) = Piece.Marked words.NoRestart ∷ []

abbrev pub characteristics_piece : List NameOrNumber → List Piece
characteristics_piece [] = []
characteristics_piece (first ∷ others) = Piece.Valued words.Characteristics (words_list (reference_text first) (map reference_text others)) ∷ []

-- ---- texts

pub text_is : (word : Word) (o : Option (List ℕ)) → valued word o ≡ pieces_text (text_piece word o)
text_is word None = refl
text_is word (Some text) = valued_text word (one text) text (one_text text)

pub number_is : (word : Word) (o : Option ℕ) → valued word (option_map decimal o) ≡ pieces_text (number_piece word o)
number_is word None = refl
number_is word (Some n) = valued_text word (one (decimal n)) (decimal n) (one_text (decimal n))

pub reference_piece_is : (word : Word) (o : Option NameOrNumber) → valued word (option_map reference_text o) ≡ pieces_text (reference_piece word o)
reference_piece_is word None = refl
reference_piece_is word (Some r) = valued_text word (one (reference_text r)) (reference_text r) (one_text (reference_text r))

pub time_piece_is : (o : Option ℕ) → valued words.After (option_map time_text o) ≡ pieces_text (time_piece o)
time_piece_is None = refl
time_piece_is (Some moment) = valued_text words.After (in_quotes (inside moment)) (time_text moment) (time_is moment)

retain_value_is : (retain : JobRetain) → job_retain_text retain ≡ value_text (retain_value retain)
retain_value_is Default = refl
retain_value_is Always = refl
retain_value_is Failed = refl
retain_value_is (Until moment) = ap (λ (l : List ℕ). codes "UNTIL=" ++ l) (time_is moment)

pub retain_is : (o : Option JobRetain) → valued words.Retain (option_map job_retain_text o) ≡ pieces_text (retain_piece o)
retain_is None = refl
retain_is (Some retain) = valued_text words.Retain (retain_value retain) (job_retain_text retain) (retain_value_is retain)

pub restart_is : (o : Option Bool) → restart_text o ≡ pieces_text (restart_piece o)
restart_is None = refl
restart_is (Some true) = refl
restart_is (Some false) = refl

pub characteristics_is : (rs : List NameOrNumber) → job_characteristics_text rs ≡ pieces_text (characteristics_piece rs)
characteristics_is [] = refl
characteristics_is (first ∷ others) =
    valued_text words.Characteristics (words_list (reference_text first) (map reference_text others)) _ (list_text_is (reference_text first) (map reference_text others))

-- ---- in a table

module _ (table : List (Word × Takes)) where
  some_taken : 1 ≤ 1
  some_taken = omega arith

  pub text_given : (word : Word) (o : Option (List ℕ)) → In (word, takes.One) table → AreGiven table (text_piece word o)
  text_given word None here = tt
  text_given word (Some text) here = ((takes.One, here, (some_taken, tt)), tt)

  pub number_given : (word : Word) (o : Option ℕ) → In (word, takes.One) table → AreGiven table (number_piece word o)
  number_given word None here = tt
  number_given word (Some n) here = ((takes.One, here, (some_taken, tt)), tt)

  pub reference_given : (word : Word) (o : Option NameOrNumber) → In (word, takes.One) table → AreGiven table (reference_piece word o)
  reference_given word None here = tt
  reference_given word (Some r) here = ((takes.One, here, (some_taken, tt)), tt)

  pub time_given : (o : Option ℕ) → In (words.After, takes.One) table → AreGiven table (time_piece o)
  time_given None here = tt
  time_given (Some moment) here = ((takes.One, here, (some_taken, tt)), tt)

  retain_taken : (retain : JobRetain) → TakesValue takes.Keyed (retain_value retain)
  retain_taken Default = (some_taken, tt)
  retain_taken Always = (some_taken, tt)
  retain_taken Failed = (some_taken, tt)
  retain_taken (Until moment) = (some_taken, refl)

  pub retain_given : (o : Option JobRetain) → In (words.Retain, takes.Keyed) table → AreGiven table (retain_piece o)
  retain_given None here = tt
  retain_given (Some retain) here = ((takes.Keyed, here, retain_taken retain), tt)

  pub restart_given : (o : Option Bool) → In (words.Restart, takes.Nothing) table → In (words.NoRestart, takes.Nothing) table → AreGiven table (restart_piece o)
  restart_given None here other = tt
  restart_given (Some true) here other = ((takes.Nothing, here, refl), tt)
  restart_given (Some false) here other = ((takes.Nothing, other, refl), tt)

  pub characteristics_given : (rs : List NameOrNumber) → In (words.Characteristics, takes.List) table → fits_list (length rs) ≡ true → AreGiven table (characteristics_piece rs)
  characteristics_given [] here fits = tt
  characteristics_given (first ∷ others) here fits = (
    (
      takes.List,
      here,
      list_taken (reference_text first) (map reference_text others)
          (subst (λ (n : ℕ). fits_list n ≡ true) (ap suc (sym (length-map others reference_text))) fits),
    ),
    tt,
  )

  pub mark_given : (word : Word) (b : Bool) → In (word, takes.Nothing) table → AreGiven table (mark word b)
  mark_given word true here = ((takes.Nothing, here, refl), tt)
  mark_given word false here = tt

-- ---- their tokens

pub text_words : (word : Word) (o : Option (List ℕ)) → IfSome o IsName → ArePieces (text_piece word o)
text_words word None lawful = tt
text_words word (Some text) lawful = ((name_word text lawful, tt), tt)

pub number_words : (word : Word) (o : Option ℕ) → IfSome o (λ n. n < 2 ^ 8) → ArePieces (number_piece word o)
number_words word None lawful = tt
number_words word (Some n) lawful = ((number_word n (omega (arith, lawful)), tt), tt)

pub reference_words : (word : Word) (o : Option NameOrNumber) → IfSome o IsReference → ArePieces (reference_piece word o)
reference_words word None lawful = tt
reference_words word (Some r) lawful = ((reference_word r lawful, tt), tt)

pub time_words : (o : Option ℕ) → ArePieces (time_piece o)
time_words None = tt
time_words (Some moment) = ((time_inside moment, tt), tt)

pub retain_words : (o : Option JobRetain) → ArePieces (retain_piece o)
retain_words None = tt
retain_words (Some Default) = (((lit< tt, refl), tt), tt)
retain_words (Some Always) = (((lit< tt, refl), tt), tt)
retain_words (Some Failed) = (((lit< tt, refl), tt), tt)
retain_words (Some (Until moment)) = (((lit< tt, refl), time_inside moment), tt)

pub restart_words : (o : Option Bool) → ArePieces (restart_piece o)
restart_words None = tt
restart_words (Some true) = (tt, tt)
restart_words (Some false) = (tt, tt)

pub characteristics_words : (rs : List NameOrNumber) → AreReferences rs → ArePieces (characteristics_piece rs)
characteristics_words [] lawful = tt
characteristics_words (first ∷ others) lawful = (((reference_word first lawful.0, tt), items_are (map reference_text others) (references_words others lawful.1)), tt)

pub mark_words : (word : Word) (b : Bool) → ArePieces (mark word b)
mark_words word true = (tt, tt)
mark_words word false = tt
