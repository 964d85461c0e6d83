-- DELETE/FORM and its like, and ASSIGN/MERGE.
use Rattle.std.proofs.Common.{◌≡◌, ◌<◌, ◌≤◌, ◌^◌, ℕ, List, [], ◌∷◌, ◌++◌, codes, decimal, None, Some, true, refl, ap, ◌∙◌, sym, append-nil, append_assoc, arith, option_map}
use Rattle.qm_model.specs.Common.{IsText, is_name_byte, Ask, DeleteForm, DeleteCharacteristic, DeleteQueue, DeleteEntry, Merge, is_short, is_definable}
use Rattle.qm_commands.specs.declared.rules.Takes.TheVariants as takes
use Rattle.qm_commands.specs.declared.table.Command.TheVariants as command
use Rattle.qm_commands.specs.declared.table.Verb.TheVariants as verb
use Rattle.qm_commands.specs.declared.word.Word.TheVariants as words
use Rattle.qm_commands.specs.Table.{row}
use Rattle.qm_dcl.specs.Settings.{nothing_given}
use Rattle.qm_dcl.specs.Given.{with_word, with_definition}
use Rattle.qm_dcl.specs.declared.settings.Settings.{Settings}
use Rattle.qm_spelling.specs.ReadBack.{ReadsBack}
use Rattle.qm_spelling.proofs.Values.{number_reads_back}
use Rattle.qm_spelling.proofs.SpelledPieces.{Piece}
use Rattle.qm_spelling.proofs.SpelledReading.{Spoken, plain}
use Rattle.qm_spelling.proofs.SpelledFinding.{Makes}
use Rattle.qm_spelling.proofs.SpelledCommand.{AskFor, one_asks, reads_back}
use Rattle.qm_spelling.proofs.SpelledTails.{one}
use Rattle.qm_spelling.proofs.SpelledWords.{name_word, number_word, short_said, definable_said}
use Rattle.qm_spelling.proofs.SpelledTruth.{and_left, and_right}

module _ (user name : List ℕ) (lawful : IsText is_name_byte name) where
  -- ---- forms

  abbrev form : List Piece
  form = Piece.Marked words.Form ∷ Piece.Parameter name ∷ []

  form_makes : Makes verb.Delete (row command.DeleteForm (Some words.Form) None 1 1) form
  form_makes = record {
    lexed = (tt, (name_word name lawful, tt));
    leads = (refl, (refl, (refl, (refl, tt))));
    found = refl;
    allowed = (takes.Nothing, refl, refl, (refl, (refl, refl)));
    agrees = refl;
  }

  form_asks : (now : ℕ) → is_definable name ≡ true → AskFor user now command.DeleteForm (Ask (DeleteForm name)) form
  form_asks now definable =
      let s : Settings = with_word (nothing_given command.DeleteForm) words.Form in
      let t : Settings = with_definition s (record s.definition { name = Some name }) in
      one_asks (nothing_given command.DeleteForm) s (Spoken.SaysQualifier words.Form) (Spoken.SaysParameter name ∷ []) refl
      (one_asks s t (Spoken.SaysParameter name) [] (ap (option_map (λ n. with_definition s (record s.definition { name = Some n }))) (definable_said name lawful definable))
      (record { is = refl }))

  pub form_deletion : ReadsBack user (Ask (DeleteForm name))
  form_deletion = reads_back verb.Delete (row command.DeleteForm (Some words.Form) None 1 1) form user (Ask (DeleteForm name))
      (ap (λ (l : List ℕ). codes "DELETE/FORM " ++ l) (sym (append-nil name)))
      (λ is. (form_makes, λ now. form_asks now is))

  -- ---- characteristics

  abbrev characteristic : List Piece
  characteristic = Piece.Marked words.Characteristic ∷ Piece.Parameter name ∷ []

  characteristic_makes : Makes verb.Delete (row command.DeleteCharacteristic (Some words.Characteristic) None 1 1) characteristic
  characteristic_makes = record {
    lexed = (tt, (name_word name lawful, tt));
    leads = (refl, (refl, (refl, (refl, tt))));
    found = refl;
    allowed = (takes.Nothing, refl, refl, (refl, (refl, refl)));
    agrees = refl;
  }

  characteristic_asks : (now : ℕ) → is_definable name ≡ true → AskFor user now command.DeleteCharacteristic (Ask (DeleteCharacteristic name)) characteristic
  characteristic_asks now definable =
      let s : Settings = with_word (nothing_given command.DeleteCharacteristic) words.Characteristic in
      let t : Settings = with_definition s (record s.definition { name = Some name }) in
      one_asks (nothing_given command.DeleteCharacteristic) s (Spoken.SaysQualifier words.Characteristic) (Spoken.SaysParameter name ∷ []) refl
      (one_asks s t (Spoken.SaysParameter name) [] (ap (option_map (λ n. with_definition s (record s.definition { name = Some n }))) (definable_said name lawful definable))
      (record { is = refl }))

  pub characteristic_deletion : ReadsBack user (Ask (DeleteCharacteristic name))
  characteristic_deletion = reads_back verb.Delete (row command.DeleteCharacteristic (Some words.Characteristic) None 1 1) characteristic user (Ask (DeleteCharacteristic name))
      (ap (λ (l : List ℕ). codes "DELETE/CHARACTERISTIC " ++ l) (sym (append-nil name)))
      (λ is. (characteristic_makes, λ now. characteristic_asks now is))

  -- ---- queues

  abbrev queue : List Piece
  queue = Piece.Marked words.Queue ∷ Piece.Parameter name ∷ []

  queue_makes : Makes verb.Delete (row command.DeleteQueue (Some words.Queue) None 1 1) queue
  queue_makes = record {
    lexed = (tt, (name_word name lawful, tt));
    leads = (refl, (refl, (refl, (refl, tt))));
    found = refl;
    allowed = (takes.Nothing, refl, refl, (refl, (refl, refl)));
    agrees = refl;
  }

  queue_asks : (now : ℕ) → is_short name ≡ true → AskFor user now command.DeleteQueue (Ask (DeleteQueue name)) queue
  queue_asks now short =
      let s : Settings = with_word (nothing_given command.DeleteQueue) words.Queue in
      let t : Settings = record s { queue = Some name } in
      one_asks (nothing_given command.DeleteQueue) s (Spoken.SaysQualifier words.Queue) (Spoken.SaysParameter name ∷ []) refl
      (one_asks s t (Spoken.SaysParameter name) [] (ap (option_map (λ n. record s { queue = Some n })) (short_said name lawful short))
      (record { is = refl }))

  pub queue_deletion : ReadsBack user (Ask (DeleteQueue name))
  queue_deletion = reads_back verb.Delete (row command.DeleteQueue (Some words.Queue) None 1 1) queue user (Ask (DeleteQueue name))
      (ap (λ (l : List ℕ). codes "DELETE/QUEUE " ++ l) (sym (append-nil name)))
      (λ is. (queue_makes, λ now. queue_asks now is))

-- ---- entries

module _ (user : List ℕ) (number : ℕ) (within : number < 2 ^ 32) where
  abbrev entry : List Piece
  entry = Piece.Valued words.Entry (one (decimal number)) ∷ []

  entry_makes : Makes verb.Delete (row command.DeleteEntry (Some words.Entry) None 0 0) entry
  entry_makes =
      let word = number_word number (omega (arith, within)) in
      let some : 1 ≤ 1 = omega arith in
      record {
        lexed = ((word, tt), tt);
        leads = (refl, (refl, (refl, (refl, tt))));
        found = refl;
        allowed = (takes.One, refl, (some, tt), (refl, refl));
        agrees = refl;
      }

  entry_asks : (now : ℕ) → AskFor user now command.DeleteEntry (Ask (DeleteEntry number)) entry
  entry_asks now =
      let s : Settings = with_word (nothing_given command.DeleteEntry) words.Entry in
      let t : Settings = record s { entry = Some number } in
      one_asks (nothing_given command.DeleteEntry) s (Spoken.SaysQualifier words.Entry) (Spoken.SaysValue (plain (decimal number)) ∷ []) refl
      (one_asks s t (Spoken.SaysValue (plain (decimal number))) []
      (ap (option_map (λ n. record s { entry = Some n })) (number_reads_back 4294967295 number (omega (arith, within)) (omega (arith, within))))
      (record { is = refl }))

  pub entry_deletion : ReadsBack user (Ask (DeleteEntry number))
  entry_deletion = reads_back verb.Delete (row command.DeleteEntry (Some words.Entry) None 0 0) entry user (Ask (DeleteEntry number))
      (ap (λ (l : List ℕ). codes "DELETE/ENTRY=" ++ l) (sym (append-nil (decimal number))))
      (λ is. (entry_makes, λ now. entry_asks now))

-- ---- queues that are merged

module _ (user to from : List ℕ) (lawful_to : IsText is_name_byte to) (lawful_from : IsText is_name_byte from) where
  abbrev merged : List Piece
  merged = Piece.Marked words.Merge ∷ Piece.Parameter to ∷ Piece.Parameter from ∷ []

  merge_makes : Makes verb.Assign (row command.AssignMerge (Some words.Merge) None 2 2) merged
  merge_makes = record {
    lexed = (tt, (name_word to lawful_to, (name_word from lawful_from, tt)));
    leads = (refl, tt);
    found = refl;
    allowed = (takes.Nothing, refl, refl, (refl, (refl, (refl, refl))));
    agrees = refl;
  }

  merge_asks : (now : ℕ) → is_short to ≡ true → is_short from ≡ true → AskFor user now command.AssignMerge (Ask (Merge to from)) merged
  merge_asks now short_to short_from =
      let s : Settings = with_word (nothing_given command.AssignMerge) words.Merge in
      let t : Settings = record s { queue = Some to } in
      let u : Settings = record t { source = Some from } in
      one_asks (nothing_given command.AssignMerge) s (Spoken.SaysQualifier words.Merge) (Spoken.SaysParameter to ∷ Spoken.SaysParameter from ∷ []) refl
      (one_asks s t (Spoken.SaysParameter to) (Spoken.SaysParameter from ∷ []) (ap (option_map (λ n. record s { queue = Some n })) (short_said to lawful_to short_to))
      (one_asks t u (Spoken.SaysParameter from) [] (ap (option_map (λ n. record t { source = Some n })) (short_said from lawful_from short_from))
      (record { is = refl })))

  pub merge : ReadsBack user (Ask (Merge to from))
  merge = reads_back verb.Assign (row command.AssignMerge (Some words.Merge) None 2 2) merged user (Ask (Merge to from))
      (ap (λ (l : List ℕ). codes "ASSIGN/MERGE " ++ l) (append_assoc to (codes " ") from ∙ ap (λ (l : List ℕ). to ++ (32 ∷ l)) (sym (append-nil from))))
      (λ is. (merge_makes, λ now. merge_asks now (and_left (is_short to) (is_short from) is) (and_right (is_short to) (is_short from) is)))
