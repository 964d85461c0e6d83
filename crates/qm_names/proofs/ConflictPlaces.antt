-- Places of conflicts.
use Rattle.std.proofs.Common.{◌≡◌, ℕ, Bool, false, ◌||◌, is_some, ◌-◌, ◌≤◌, ◌<◌, List, [], ◌∷◌, length, get_or, take, drop, take_all, Option, None, Some, refl, sym, ap, ◌∙◌, arith}
use Rattle.std.specs.List.{list_any}
use Rattle.std.proofs.lemmas.Bool.Decides.{nat_tests}
use Rattle.qm_commands.specs.declared.tokens.token.Token.{Token}
use Rattle.qm_commands.specs.declared.table.Row.{Row}
use Rattle.qm_commands.specs.declared.table.Verb.{Verb}
use Rattle.qm_commands.specs.declared.word.Word.{Word}
use Rattle.qm_names.specs.Conflicts.{slash_place, place_from, counting_place, later_of_both, earlier, conflict_of, first_conflict}

-- the first of three places
pub first_of_three : (a b c : Option ℕ) → earlier (earlier a b) c ≡ earlier a (earlier b c)
first_of_three None b c = refl
first_of_three (Some a) None c = refl
first_of_three (Some a) (Some b) None = refl
first_of_three (Some a) (Some b) (Some c) = grind (arith, nat_tests)

pub no_further : (a : Option ℕ) → earlier a None ≡ a
no_further None = refl
no_further (Some a) = refl

-- one pair more
pub with_pair : (text : List ℕ) (verb : Verb) (row : Option Row) (tokens : List Token) (rest : List (Word × Word)) (d : Word × Word) (place here next all : Option ℕ) → 1 ≤ length rest
    → here ≡ conflict_of text verb row tokens (get_or rest 0 d) → next ≡ earlier place here → earlier place (first_conflict text verb row tokens rest) ≡ all
    → earlier next (first_conflict text verb row tokens (take (length rest - 1) (drop 1 rest))) ≡ all
with_pair text verb row tokens [] d place here next all some is then before = absurd (omega (arith, some))
with_pair text verb row tokens (pair ∷ pairs) d place here next all some is then before =
    ap (λ (l : List (Word × Word)). earlier next (first_conflict text verb row tokens l)) (take_all (length (pair ∷ pairs) - 1) pairs (omega arith))
    ∙ ap (λ (o : Option ℕ). earlier o (first_conflict text verb row tokens pairs)) (then ∙ ap (earlier place) is)
    ∙ first_of_three place (conflict_of text verb row tokens pair) (first_conflict text verb row tokens pairs)
    ∙ before

-- no pair more
pub behind_all : (text : List ℕ) (verb : Verb) (row : Option Row) (tokens : List Token) (rest : List (Word × Word)) (place all : Option ℕ) → length rest < 1
    → earlier place (first_conflict text verb row tokens rest) ≡ all → place ≡ all
behind_all text verb row tokens [] place all none before = sym (no_further place) ∙ before
behind_all text verb row tokens (pair ∷ pairs) place all none before = absurd (omega (arith, none))

-- ---- where no / stands

abbrev pub is_slash : Token → Bool
is_slash token = is_some (slash_place token.kind token.start)

module _ (text : List ℕ) (verb : Verb) (row : Option Row) where
  -- no qualifier counts
  pub no_place : (word : Word) (slash : Option ℕ) (tokens : List Token) → (is_some slash || list_any is_slash tokens) ≡ false → place_from text verb row word slash None tokens ≡ None
  no_place word (Some at) tokens none = absurd cc
  no_place word None [] none = refl
  no_place word None (token ∷ tokens) none = no_place word (slash_place token.kind token.start) tokens none

  -- nothing excludes another
  pub no_conflict : (tokens : List Token) (pairs : List (Word × Word)) → list_any is_slash tokens ≡ false → None ≡ first_conflict text verb row tokens pairs
  no_conflict tokens [] none = refl
  no_conflict tokens (pair ∷ pairs) none =
      no_conflict tokens pairs none
      ∙ sym (ap (λ (o : Option ℕ). earlier (later_of_both o (counting_place text verb row tokens pair.1)) (first_conflict text verb row tokens pairs)) (no_place pair.0 None tokens none))
