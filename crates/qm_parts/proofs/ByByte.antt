-- Texts that are compared byte by byte.
use Rattle.std.proofs.Common.{◌≡◌, ◌∙◌, ℕ, zero, suc, ◌+◌, ◌<◌, ◌≤◌, ◌==◌, false, List, [], ◌∷◌, length, get_or, drop, refl, sym, ap, arith, Ordering, Less, Equal, Greater}
use Rattle.std.specs.Ordering.{nat_cmp, ordering_then, is_eq}
use Rattle.std.specs.Cmp.{nat_cmp_total, tied_itself, unsigned_ties}
use Rattle.std.proofs.lemmas.Bool.Decides.{nat_tests}
use Rattle.qm_model.specs.Find.{name_cmp}

tie : (x y : ℕ) → x ≡ y → nat_cmp x y ≡ Equal
tie x y same = ap (nat_cmp x) (sym same) ∙ tied_itself nat_cmp_total x

first_tells : (o r : Ordering) → is_eq o ≡ false → ordering_then o r ≡ o
first_tells Less r uneven = refl
first_tells Equal r uneven = absurd (cc)
first_tells Greater r uneven = refl

shorter : (n : ℕ) → nat_cmp 0 (suc n) ≡ Less
shorter n = grind (arith, nat_tests)

longer : (n : ℕ) → nat_cmp (suc n) 0 ≡ Greater
longer n = grind (arith, nat_tests)

both_longer : (m n : ℕ) → nat_cmp m n ≡ nat_cmp (suc m) (suc n)
both_longer m n = grind (arith, nat_tests)

-- a byte that both have is passed,
pub level : (i k : ℕ) (xs ys : List ℕ) (d e : ℕ) → k ≡ i + 1 → i < length xs → i < length ys → get_or xs i d ≡ get_or ys i e → name_cmp (drop i xs) (drop i ys) ≡ name_cmp (drop k xs) (drop k ys)
level i k [] ys d e is within inside same = absurd (omega (arith, within))
level i k (x ∷ xs) [] d e is within inside same = absurd (omega (arith, inside))
level i zero (x ∷ xs) (y ∷ ys) d e is within inside same = absurd (omega (arith, is))
level zero (suc k) (x ∷ xs) (y ∷ ys) d e is within inside same =
    let none : k ≡ 0 = omega (arith, is) in
    ap (λ (o : Ordering). ordering_then o (name_cmp xs ys)) (tie x y same) ∙ ap (λ (j : ℕ). name_cmp (drop j xs) (drop j ys)) (sym none)
level (suc i) (suc k) (x ∷ xs) (y ∷ ys) d e is within inside same = level i k xs ys d e (omega (arith, is)) (omega (arith, within)) (omega (arith, inside)) same

-- the first that they haven't tells,
pub uneven : (i : ℕ) (xs ys : List ℕ) (d e : ℕ) → i < length xs → i < length ys → (get_or xs i d == get_or ys i e) ≡ false → name_cmp (drop i xs) (drop i ys) ≡ nat_cmp (get_or xs i d) (get_or ys i e)
uneven i [] ys d e within inside differ = absurd (omega (arith, within))
uneven i (x ∷ xs) [] d e within inside differ = absurd (omega (arith, inside))
uneven zero (x ∷ xs) (y ∷ ys) d e within inside differ = first_tells (nat_cmp x y) (name_cmp xs ys) (sym (unsigned_ties x y) ∙ differ)
uneven (suc i) (x ∷ xs) (y ∷ ys) d e within inside differ = uneven i xs ys d e (omega (arith, within)) (omega (arith, inside)) differ

-- and where one has ended the lengths do
pub ended : (i : ℕ) (xs ys : List ℕ) → i ≤ length xs → i ≤ length ys → ((i < length xs) → (i < length ys) → ⊥) → name_cmp (drop i xs) (drop i ys) ≡ nat_cmp (length xs) (length ys)
ended zero [] [] within inside over = refl
ended zero [] (y ∷ ys) within inside over = sym (shorter (length ys))
ended zero (x ∷ xs) [] within inside over = sym (longer (length xs))
ended zero (x ∷ xs) (y ∷ ys) within inside over = absurd (over (omega arith) (omega arith))
ended (suc i) [] ys within inside over = absurd (omega (arith, within))
ended (suc i) (x ∷ xs) [] within inside over = absurd (omega (arith, inside))
ended (suc i) (x ∷ xs) (y ∷ ys) within inside over =
    ended i xs ys (omega (arith, within)) (omega (arith, inside)) (λ less also. over (omega (arith, less)) (omega (arith, also))) ∙ both_longer (length xs) (length ys)
