-- Names of files as words of a command.
use Rattle.std.proofs.Common.{◌≡◌, ◌+◌, ℕ, suc, List, [], ◌∷◌, ◌++◌, length, drop, position, IfSome, Option, None, Some, is_some, true, false, ◌==◌, refl, sym, ap, ◌∙◌, arith, length-append, option_map, option_and_then, nat_lt, le-leb, take_at, drop_at, append_assoc}
use Rattle.std.specs.List.{list_all, position_or_len}
use Rattle.std.proofs.lemmas.Bool.Decides.{nat_tests}
use Rattle.std.proofs.lemmas.List.Folds.{list_all-append}
use Rattle.qm_kinds.specs.Files.{name_of, file_name_from, file_name_cut_at, file_name_of, file_name_text}
use Rattle.qm_model.specs.Common.{is_name_byte, FileName}
use Rattle.qm_spelling.specs.Lawful.{IsName, IsFileName}
use Rattle.qm_spelling.proofs.Values.{name_reads_back}
use Rattle.qm_spelling.proofs.SpelledLexemes.{is_word_byte}
use Rattle.qm_spelling.proofs.SpelledPieces.{IsWord}
use Rattle.qm_spelling.proofs.SpelledWords.{name_word}
use Rattle.qm_spelling.proofs.SpelledTruth.{and_left, and_right}

-- ---- where a byte stands behind a name

module _ (mark : ℕ) (unnamed : (b : ℕ) → is_name_byte b ≡ true → (b == mark) ≡ false) (itself : (mark == mark) ≡ true) where
  first_place : (name rest : List ℕ) → list_all is_name_byte name ≡ true → position_or_len (λ b. b == mark) (name ++ mark ∷ rest) ≡ length name
  first_place [] rest all = rw itself refl
  first_place (b ∷ name) rest all =
      rw (unnamed b (and_left (is_name_byte b) _ all)) (ap (λ (n : ℕ). 1 + n) (first_place name rest (and_right (is_name_byte b) _ all)) ∙ omega arith)

  pub found_behind : (name rest : List ℕ) → list_all is_name_byte name ≡ true → position (λ b. b == mark) (name ++ mark ∷ rest) ≡ Some (length name)
  found_behind name rest all =
      let place : position_or_len (λ b. b == mark) (name ++ mark ∷ rest) ≡ length name = first_place name rest all in
      let within : nat_lt (length name) (length (name ++ mark ∷ rest)) ≡ true = le-leb (suc (length name)) _ (omega (arith, length-append name (mark ∷ rest))) in
      rw place (rw within refl)

  pub behind_is : (name rest : List ℕ) → drop (length name + 1) (name ++ mark ∷ rest) ≡ rest
  behind_is name rest =
      ap (drop (length name + 1)) (sym (append_assoc name (mark ∷ []) rest))
      ∙ drop_at (name ++ mark ∷ []) rest (length name + 1) (length-append name (mark ∷ []) ∙ omega arith)

-- ---- names of files

not_stop : (b : ℕ) → is_name_byte b ≡ true → (b == 46) ≡ false
not_stop b h = grind (arith, nat_tests)

with_extension : (name extension : List ℕ) → IsName name → IsName extension → file_name_of (name ++ 46 ∷ extension) ≡ Some (record { name = name; extension = Some extension })
with_extension name extension lawful of_extension =
    ap (λ (o : Option ℕ). file_name_cut_at o (name ++ 46 ∷ extension)) (found_behind 46 not_stop refl name extension lawful.lawful)
    ∙ ap (λ (n : List ℕ). file_name_from n (Some (drop (length name + 1) (name ++ 46 ∷ extension)))) (take_at name (46 ∷ extension) (length name) refl)
    ∙ ap (λ (e : List ℕ). file_name_from name (Some e)) (behind_is 46 not_stop refl name extension)
    ∙ ap (option_and_then (λ n. option_map (λ e. record { name = n; extension = Some e }) (name_of extension))) (name_reads_back name lawful)
    ∙ ap (option_map (λ e. record { name = name; extension = Some e })) (name_reads_back extension of_extension)

pub file_is : (file : FileName) → IsFileName file → is_some file.extension ≡ true → file_name_of (file_name_text file) ≡ Some file
file_is file lawful some = by file.extension lawful.extension some
  where
    by : (extension : Option (List ℕ)) → IfSome extension IsName → is_some extension ≡ true
        → file_name_of (file_name_text (record { name = file.name; extension = extension })) ≡ Some (record { name = file.name; extension = extension })
    by None of_extension some = absurd cc
    by (Some extension) of_extension some = with_extension file.name extension lawful.name of_extension

pub file_word : (file : FileName) → IsFileName file → IsWord (file_name_text file)
file_word file lawful = by file.extension lawful.extension
  where
    by : (extension : Option (List ℕ)) → IfSome extension IsName → IsWord (file_name_text (record { name = file.name; extension = extension }))
    by None of_extension =
        let name = name_word file.name lawful.name in
        (omega (arith, name.0, length-append {A = ℕ} file.name []), list_all-append is_word_byte file.name [] ∙ rw name.1 refl)
    by (Some extension) of_extension =
        let name = name_word file.name lawful.name in (
          omega (arith, name.0, length-append file.name (46 ∷ extension)),
          list_all-append is_word_byte file.name (46 ∷ extension) ∙ rw (name.1, (name_word extension of_extension).1) refl,
        )
