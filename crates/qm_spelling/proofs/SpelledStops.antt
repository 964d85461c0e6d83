-- STOP/QUEUE of a queue, and of one of its jobs.
use Rattle.std.proofs.Common.{◌≡◌, ◌<◌, ◌≤◌, ◌^◌, ℕ, List, [], ◌∷◌, ◌++◌, codes, decimal, IfSome, Option, None, Some, Bool, true, false, refl, sym, ap, ◌∙◌, arith, append_assoc, append-nil, option_map}
use Rattle.qm_model.specs.Common.{Ask, StopQueue, AbortJob, StopMode, Pause, Next, Reset, is_short}
use Rattle.qm_commands.specs.declared.rules.Takes.TheVariants as takes
use Rattle.qm_commands.specs.declared.table.Command.TheVariants as command
use Rattle.qm_commands.specs.declared.table.Row.{Row}
use Rattle.qm_commands.specs.declared.table.Verb.TheVariants as verb
use Rattle.qm_commands.specs.declared.word.Word.{Word}
use Rattle.qm_commands.specs.declared.word.Word.TheVariants as words
use Rattle.qm_commands.specs.Table.{row}
use Rattle.qm_dcl.specs.declared.settings.Settings.{Settings}
use Rattle.qm_dcl.specs.Given.{with_word}
use Rattle.qm_dcl.specs.Settings.{nothing_given}
use Rattle.qm_dcl.specs.Values.{short_name_said}
use Rattle.qm_spelling.specs.Lawful.{IsName}
use Rattle.qm_spelling.specs.Queues.{stop_text, abort_text}
use Rattle.qm_spelling.specs.ReadBack.{ReadsBack}
use Rattle.qm_spelling.proofs.Values.{number_reads_back}
use Rattle.qm_spelling.proofs.SpelledLexemes.{text_of}
use Rattle.qm_spelling.proofs.SpelledPieces.{Piece, command_lexemes}
use Rattle.qm_spelling.proofs.SpelledReading.{Spoken, spoken, plain}
use Rattle.qm_spelling.proofs.SpelledFinding.{Makes}
use Rattle.qm_spelling.proofs.SpelledLists.{lists_by, nodes_by}
use Rattle.qm_spelling.proofs.SpelledCommand.{Asks, AskFor, one_asks, reads_back}
use Rattle.qm_spelling.proofs.SpelledTails.{one}
use Rattle.qm_spelling.proofs.SpelledWords.{name_word, number_word, short_said}

abbrev stop_row : Row
stop_row = row command.StopQueue (Some words.Queue) None 1 1

module _ (user name : List ℕ) (named : IsName name) where
  -- ---- the queue

  abbrev stop_pieces : StopMode → List Piece
  stop_pieces Pause = Piece.Marked words.Queue ∷ Piece.Parameter name ∷ []
  stop_pieces Next = Piece.Marked words.Queue ∷ Piece.Parameter name ∷ Piece.Marked words.Next ∷ []
  stop_pieces Reset = Piece.Marked words.Queue ∷ Piece.Parameter name ∷ Piece.Marked words.Reset ∷ []

  stop_makes : (how : StopMode) → Makes verb.Stop stop_row (stop_pieces how)
  stop_makes Pause = record { lexed = (tt, (name_word name named, tt)); leads = (refl, tt); found = refl; allowed = (takes.Nothing, refl, refl, (refl, (refl, refl))); agrees = refl }
  stop_makes Next = record {
    lexed = (tt, (name_word name named, (tt, tt)));
    leads = (refl, tt);
    found = refl;
    allowed = (takes.Nothing, refl, refl, (refl, (takes.Nothing, refl, refl, (refl, refl))));
    agrees = refl;
  }
  stop_makes Reset = record {
    lexed = (tt, (name_word name named, (tt, tt)));
    leads = (refl, tt);
    found = refl;
    allowed = (takes.Nothing, refl, refl, (refl, (takes.Nothing, refl, refl, (refl, refl))));
    agrees = refl;
  }

  abbrev behind_queue : Settings
  behind_queue = with_word (nothing_given command.StopQueue) words.Queue

  abbrev behind_name : Settings
  behind_name = record behind_queue { queue = Some name }

  name_given : is_short name ≡ true → option_map (λ n. record behind_queue { queue = Some n }) (short_name_said name) ≡ Some behind_name
  name_given short = ap (option_map (λ n. record behind_queue { queue = Some n })) (short_said name named short)

  stop_asks : (how : StopMode) (now : ℕ) → is_short name ≡ true → AskFor user now command.StopQueue (Ask (StopQueue name how)) (stop_pieces how)
  stop_asks Pause now short =
      one_asks (nothing_given command.StopQueue) behind_queue (Spoken.SaysQualifier words.Queue) (Spoken.SaysParameter name ∷ []) refl
      (one_asks behind_queue behind_name (Spoken.SaysParameter name) [] (name_given short) (record { is = refl }))
  stop_asks Next now short =
      one_asks (nothing_given command.StopQueue) behind_queue (Spoken.SaysQualifier words.Queue) (Spoken.SaysParameter name ∷ Spoken.SaysQualifier words.Next ∷ []) refl
      (one_asks behind_queue behind_name (Spoken.SaysParameter name) (Spoken.SaysQualifier words.Next ∷ []) (name_given short)
      (one_asks behind_name (with_word behind_name words.Next) (Spoken.SaysQualifier words.Next) [] refl (record { is = refl })))
  stop_asks Reset now short =
      one_asks (nothing_given command.StopQueue) behind_queue (Spoken.SaysQualifier words.Queue) (Spoken.SaysParameter name ∷ Spoken.SaysQualifier words.Reset ∷ []) refl
      (one_asks behind_queue behind_name (Spoken.SaysParameter name) (Spoken.SaysQualifier words.Reset ∷ []) (name_given short)
      (one_asks behind_name (with_word behind_name words.Reset) (Spoken.SaysQualifier words.Reset) [] refl (record { is = refl })))

  stop_is : (how : StopMode) → stop_text name how ≡ text_of (command_lexemes verb.Stop (stop_pieces how))
  stop_is Pause = ap (λ (l : List ℕ). codes "STOP/QUEUE " ++ l) (sym (append-nil name))
  stop_is Next = refl
  stop_is Reset = refl

  pub stop_back : (how : StopMode) → ReadsBack user (Ask (StopQueue name how))
  stop_back how = reads_back verb.Stop stop_row (stop_pieces how) user (Ask (StopQueue name how)) (stop_is how) (λ is. (stop_makes how, λ now. stop_asks how now is))

  -- ---- one of its jobs

  abbrev cut_short : Bool → Word
  cut_short true = words.Requeue
  cut_short false = words.Abort

  abbrev entry_pieces : Option ℕ → List Piece
  entry_pieces None = []
  entry_pieces (Some entry) = Piece.Valued words.Entry (one (decimal entry)) ∷ []

  abbrev abort_pieces : Option ℕ → Bool → List Piece
  abort_pieces entry requeue = Piece.Marked words.Queue ∷ Piece.Parameter name ∷ Piece.Marked (cut_short requeue) ∷ entry_pieces entry

  some_taken : 1 ≤ 1
  some_taken = omega arith

  abort_makes : (entry : Option ℕ) (requeue : Bool) → IfSome entry (λ n. n < 2 ^ 32) → Makes verb.Stop stop_row (abort_pieces entry requeue)
  abort_makes None true lawful = record {
    lexed = (tt, (name_word name named, (tt, tt)));
    leads = (refl, tt);
    found = refl;
    allowed = (takes.Nothing, refl, refl, (refl, (takes.Nothing, refl, refl, (refl, refl))));
    agrees = refl;
  }
  abort_makes None false lawful = record {
    lexed = (tt, (name_word name named, (tt, tt)));
    leads = (refl, tt);
    found = refl;
    allowed = (takes.Nothing, refl, refl, (refl, (takes.Nothing, refl, refl, (refl, refl))));
    agrees = refl;
  }
  abort_makes (Some entry) true lawful = record {
    lexed = (tt, (name_word name named, (tt, ((number_word entry (omega (arith, lawful)), tt), tt))));
    leads = (refl, tt);
    found = refl;
    allowed = (takes.Nothing, refl, refl, (refl, (takes.Nothing, refl, refl, (takes.One, refl, (some_taken, tt), (refl, refl)))));
    agrees = refl;
  }
  abort_makes (Some entry) false lawful = record {
    lexed = (tt, (name_word name named, (tt, ((number_word entry (omega (arith, lawful)), tt), tt))));
    leads = (refl, tt);
    found = refl;
    allowed = (takes.Nothing, refl, refl, (refl, (takes.Nothing, refl, refl, (takes.One, refl, (some_taken, tt), (refl, refl)))));
    agrees = refl;
  }

  abort_asks : (entry : Option ℕ) (requeue : Bool) (now : ℕ) → IfSome entry (λ n. n < 2 ^ 32) → is_short name ≡ true
      → AskFor user now command.StopQueue (Ask (AbortJob name entry requeue)) (abort_pieces entry requeue)
  abort_asks entry requeue now lawful short =
      one_asks (nothing_given command.StopQueue) behind_queue (Spoken.SaysQualifier words.Queue) (Spoken.SaysParameter name ∷ Spoken.SaysQualifier (cut_short requeue) ∷ spoken (entry_pieces entry)) refl
      (one_asks behind_queue behind_name (Spoken.SaysParameter name) (Spoken.SaysQualifier (cut_short requeue) ∷ spoken (entry_pieces entry)) (name_given short)
      (one_asks behind_name (with_word behind_name (cut_short requeue)) (Spoken.SaysQualifier (cut_short requeue)) (spoken (entry_pieces entry)) refl (by entry requeue lawful)))
    where
      by : (entry : Option ℕ) (requeue : Bool) → IfSome entry (λ n. n < 2 ^ 32)
          → Asks user now command.StopQueue (lists_by (spoken (abort_pieces entry requeue))) (nodes_by (spoken (abort_pieces entry requeue))) (Ask (AbortJob name entry requeue))
          (with_word behind_name (cut_short requeue)) (spoken (entry_pieces entry))
      by None true lawful = record { is = refl }
      by None false lawful = record { is = refl }
      by (Some n) true lawful =
          let s : Settings = with_word (with_word behind_name words.Requeue) words.Entry in
          one_asks (with_word behind_name words.Requeue) s (Spoken.SaysQualifier words.Entry) (Spoken.SaysValue (plain (decimal n)) ∷ []) refl
          (one_asks s (record s { entry = Some n }) (Spoken.SaysValue (plain (decimal n))) []
          (ap (option_map (λ m. record s { entry = Some m })) (number_reads_back 4294967295 n (omega (arith, lawful)) (omega (arith, lawful)))) (record { is = refl }))
      by (Some n) false lawful =
          let s : Settings = with_word (with_word behind_name words.Abort) words.Entry in
          one_asks (with_word behind_name words.Abort) s (Spoken.SaysQualifier words.Entry) (Spoken.SaysValue (plain (decimal n)) ∷ []) refl
          (one_asks s (record s { entry = Some n }) (Spoken.SaysValue (plain (decimal n))) []
          (ap (option_map (λ m. record s { entry = Some m })) (number_reads_back 4294967295 n (omega (arith, lawful)) (omega (arith, lawful)))) (record { is = refl }))

  abort_is : (entry : Option ℕ) (requeue : Bool) → abort_text name entry requeue ≡ text_of (command_lexemes verb.Stop (abort_pieces entry requeue))
  abort_is None true = ap (λ (l : List ℕ). codes "STOP/QUEUE " ++ l) (append-nil ((name ++ []) ++ codes "/REQUEUE") ∙ ap (λ (l : List ℕ). l ++ codes "/REQUEUE") (append-nil name))
  abort_is None false = ap (λ (l : List ℕ). codes "STOP/QUEUE " ++ l) (append-nil ((name ++ codes "/ABORT") ++ []) ∙ append-nil (name ++ codes "/ABORT"))
  abort_is (Some entry) true =
      let last : List ℕ = codes "/ENTRY=" ++ decimal entry in
      ap (λ (l : List ℕ). codes "STOP/QUEUE " ++ l)
      (ap (λ (l : List ℕ). (l ++ codes "/REQUEUE") ++ last) (append-nil name) ∙ append_assoc name (codes "/REQUEUE") last
      ∙ ap (λ (l : List ℕ). name ++ (codes "/REQUEUE/ENTRY=" ++ l)) (sym (append-nil (decimal entry))))
  abort_is (Some entry) false =
      let last : List ℕ = codes "/ENTRY=" ++ decimal entry in
      ap (λ (l : List ℕ). codes "STOP/QUEUE " ++ l)
      (ap (λ (l : List ℕ). l ++ last) (append-nil (name ++ codes "/ABORT")) ∙ append_assoc name (codes "/ABORT") last
      ∙ ap (λ (l : List ℕ). name ++ (codes "/ABORT/ENTRY=" ++ l)) (sym (append-nil (decimal entry))))

  pub abort_back : (entry : Option ℕ) (requeue : Bool) → IfSome entry (λ n. n < 2 ^ 32) → ReadsBack user (Ask (AbortJob name entry requeue))
  abort_back entry requeue lawful =
      reads_back verb.Stop stop_row (abort_pieces entry requeue) user (Ask (AbortJob name entry requeue)) (abort_is entry requeue)
      (λ is. (abort_makes entry requeue lawful, λ now. abort_asks entry requeue now lawful is))
