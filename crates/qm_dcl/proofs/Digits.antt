-- Numbers that are read.
use Rattle.std.proofs.Common.{◌≡◌, ℕ, ◌+◌, ◌-◌, ◌*◌, ◌≤◌, ◌<◌, List, [], ◌∷◌, length, take, drop, get_or, arith, ap, sym, ◌∙◌, subst, take-append-drop, fold}
use Rattle.std.proofs.lemmas.List.Sums.{fold-append, fold_more}
use Rattle.qm_model.specs.Texts.{value_of}

-- more digits never make a number less
fold_grows : (digits : List ℕ) (n : ℕ) → n ≤ fold (λ n digit. n * 10 + (digit - 48)) n digits
fold_grows [] n = omega arith
fold_grows (d ∷ ds) n = omega (arith, fold_grows ds (n * 10 + (d - 48)))

-- the digits so far say no more than all of them
value_so_far : (digits : List ℕ) (i : ℕ) → value_of (take i digits) ≤ value_of digits
value_so_far digits i =
    let P : ℕ → Type 0 = λ n. value_of (take i digits) ≤ n in
    subst P
    (sym (fold-append (λ n digit. n * 10 + (digit - 48)) 0 (take i digits) (drop i digits)) ∙ ap value_of (take-append-drop i digits))
    (fold_grows (drop i digits) (value_of (take i digits)))

-- one more digit
pub value_more : (digits : List ℕ) (i v : ℕ) → i < length digits → v ≡ value_of (take i digits) → v * 10 + (get_or digits i 0 - 48) ≡ value_of (take (i + 1) digits)
value_more digits i v within so_far =
    ap (λ n. n * 10 + (get_or digits i 0 - 48)) so_far ∙ sym (fold_more (λ n digit. n * 10 + (digit - 48)) 0 digits i 0 within)

-- one more digit says no more than all of them
pub value_grows : (digits : List ℕ) (i v : ℕ) → i < length digits → v ≡ value_of (take i digits) → v * 10 + (get_or digits i 0 - 48) ≤ value_of digits
value_grows digits i v within so_far = omega (arith, value_so_far digits (i + 1), value_more digits i v within so_far)
