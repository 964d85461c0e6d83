-- A word is parted by its commas.
use Rattle.std.proofs.Common.{◌≡◌, ◌<◌, ◌+◌, ◌==◌, ℕ, Bool, true, false, if◌then◌else◌, List, [], ◌∷◌, length, take, drop, position, Option, None, Some, arith, refl, sym, ◌∙◌, ap, option_and_then}
use Rattle.std.specs.List.{slice_split, position_or_len}
use Rattle.std.proofs.lemmas.List.Splits.{slice_split_none, slice_split_first}
use Rattle.std.proofs.lemmas.List.Sums.{fails_before_first}
use Rattle.qm_model.specs.Script.{node_name_of}
use Rattle.qm_script.specs.Sites.{nodes_from, with_node}
use Rattle.qm_script.proofs.Parts.{found_at, found_none}

abbrev pub is_comma : ℕ → Bool
is_comma b = b == 44

pub first_name : (word : List ℕ) (place : ℕ) → Some place ≡ position is_comma word → slice_split is_comma word ≡ take place word ∷ slice_split is_comma (drop (place + 1) word)
first_name word place e =
    let at = found_at (position_or_len is_comma word) (length word) place e in
    slice_split_first is_comma word 0 at.1 ∙ ap (λ (i : ℕ). take i word ∷ slice_split is_comma (drop (i + 1) word)) (sym at.0)

pub last_name : (word : List ℕ) → None ≡ position is_comma word → slice_split is_comma word ≡ word ∷ []
last_name word e = slice_split_none is_comma word
    (λ i d within. fails_before_first is_comma word i d (omega (arith, within, found_none (position_or_len is_comma word) (length word) e)))

-- ---- one name behind another

module _ (names : List (List ℕ)) (word : List ℕ) (all : Option (List (List ℕ))) (so_far : nodes_from names (slice_split is_comma word) ≡ all) where
  pub node_taken : (more : List (List ℕ)) (place : ℕ) → Some place ≡ position is_comma word
      → option_and_then (with_node names) (node_name_of (take place word)) ≡ Some more → nodes_from more (slice_split is_comma (drop (place + 1) word)) ≡ all
  node_taken more place e is =
      let step : nodes_from names (slice_split is_comma word) ≡ nodes_from more (slice_split is_comma (drop (place + 1) word)) = rw (first_name word place e, is) refl in
      sym step ∙ so_far

  pub node_refused : (place : ℕ) → Some place ≡ position is_comma word → option_and_then (with_node names) (node_name_of (take place word)) ≡ None → None ≡ all
  node_refused place e is =
      let step : nodes_from names (slice_split is_comma word) ≡ None = rw (first_name word place e, is) refl in
      sym step ∙ so_far

  pub last_taken : (more : List (List ℕ)) → None ≡ position is_comma word → option_and_then (with_node names) (node_name_of word) ≡ Some more → Some more ≡ all
  last_taken more e is =
      let step : nodes_from names (slice_split is_comma word) ≡ Some more = rw (last_name word e, is) refl in
      sym step ∙ so_far

  pub last_refused : None ≡ position is_comma word → option_and_then (with_node names) (node_name_of word) ≡ None → None ≡ all
  last_refused e is =
      let step : nodes_from names (slice_split is_comma word) ≡ None = rw (last_name word e, is) refl in
      sym step ∙ so_far

-- a truth value that holds picks the first of two
pub picked : (names : List (List ℕ)) (is_added : Bool) → is_added ≡ true → (if is_added then Some names else None) ≡ Some names
picked names true is = refl
picked names false is = cc
