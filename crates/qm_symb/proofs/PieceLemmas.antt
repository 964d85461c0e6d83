-- Lists, cut into pieces one by one.
use Rattle.std.proofs.Common.{◌≡◌, ⊎_elim, ℕ, zero, suc, ◌+◌, ◌-◌, ◌*◌, ◌/◌, ◌≤◌, ◌<◌, List, [], ◌∷◌, length, map, take, drop, length-drop, refl, sym, ◌∙◌, ap, arith, drop-drop}
use Rattle.std.specs.List.{range_with_len}
use Rattle.std.proofs.Math.Nat.{div-eq_of_lt, add-div_right}
use Rattle.std.proofs.lemmas.Bool.{cases_lt}
use Rattle.qm_model.specs.Pages.{piece, pieces}

-- how many pieces there are
abbrev count_of : ℕ → ℕ → ℕ
count_of size n = (n + size - 1) / size

none_of_none : (size : ℕ) → 0 < size → count_of size 0 ≡ 0
none_of_none size some = div-eq_of_lt (omega (arith, some))

past : (size n : ℕ) → 0 < size → size ≤ n → n + size - 1 ≡ n - size + size - 1 + size
past size n some h = omega (arith, some, h)

within : (size n : ℕ) → 0 < size → 0 < n → n < size → n + size - 1 ≡ n - 1 + size
within size n some nonempty h = omega (arith, some, nonempty)

short : (size n : ℕ) → 0 < size → n < size → n - size ≡ 0
short size n some h = omega (arith, h)

less : (size n : ℕ) → 0 < n → n < size → n - 1 < size
less size n nonempty h = omega (arith, h, nonempty)

one_more : (n : ℕ) → n + 1 ≡ suc n
one_more n = omega arith

pub one_piece_less : (size n : ℕ) → 0 < size → 0 < n → count_of size n ≡ suc (count_of size (n - size))
one_piece_less size n some nonempty =
    ⊎_elim (λ h. ap (λ m. m / size) (within size n some nonempty h) ∙ add-div_right (n - 1) some ∙ ap (λ m. m + 1) (div-eq_of_lt (less size n nonempty h)) ∙ ap suc (sym (ap (count_of size) (short size n some h) ∙ none_of_none size some)))
    (λ h. ap (λ m. m / size) (past size n some h) ∙ add-div_right (n - size + size - 1) some ∙ one_more (count_of size (n - size)))
    (cases_lt n size)

next_place : (i size : ℕ) → (i + 1) * size ≡ size + i * size
next_place i size = omega arith

first_place : (size : ℕ) → 0 * size ≡ 0
first_place size = omega arith

shifted : {X : Type 0} (f g : ℕ → X) → ((i : ℕ) → f (i + 1) ≡ g i) → (n a : ℕ) → map f (range_with_len (a + 1) n) ≡ map g (range_with_len a n)
shifted f g same zero a = refl
shifted f g same (suc n) a = ap (λ x. x ∷ map f (range_with_len (a + 1 + 1) n)) (same a) ∙ ap (λ l. g a ∷ l) (shifted f g same n (a + 1))

module _ {X : Type 0} where
  next_piece : (size : ℕ) (xs : List X) (i : ℕ) → piece size xs (i + 1) ≡ piece size (drop size xs) i
  next_piece size xs i = ap (take size) (ap (λ n. drop n xs) (next_place i size) ∙ sym (drop-drop (i * size) size xs))

  first_piece : (size : ℕ) (xs : List X) → piece size xs 0 ≡ take size xs
  first_piece size xs = ap (λ n. take size (drop n xs)) (first_place size)

  pub no_pieces : (size : ℕ) → 0 < size → pieces {X = X} size [] ≡ []
  no_pieces size some = ap (λ n. map (piece size []) (range_with_len 0 n)) (none_of_none size some)

  pub pieces_are : (size : ℕ) (xs : List X) → 0 < size → 0 < length xs → pieces size xs ≡ take size xs ∷ pieces size (drop size xs)
  pieces_are size xs some nonempty =
      ap (λ n. map (piece size xs) (range_with_len 0 n)) (one_piece_less size (length xs) some nonempty)
      ∙ ap (λ p. p ∷ map (piece size xs) (range_with_len 1 (count_of size (length xs - size)))) (first_piece size xs)
      ∙ ap (λ l. take size xs ∷ l)
      (
      shifted (piece size xs) (piece size (drop size xs)) (next_piece size xs) (count_of size (length xs - size)) 0
      ∙ ap (λ n. map (piece size (drop size xs)) (range_with_len 0 (count_of size n))) (sym (length-drop size xs))
      )
