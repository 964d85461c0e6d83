-- For callers that open all passes, give them to threads, and join them again.
use Rattle.std.proofs.Common.{◌≡◌, ℕ, zero, suc, ◌+◌, ◌<◌, ◌≤◌, ◌==◌, List, [], ◌∷◌, map, length, get_or, if◌then◌else◌, refl, sym, ap, subst, arith}
use mathlib.Core.Logic.{dite}
use native.Mathlib.Decide.{ℕ_discrete}
use Rattle.std.specs.List.{range_with_len, All}
use Rattle.std.proofs.lemmas.Bool.Decides.{nat_tests}
use Rattle.atomic_table.specs.Seated.{TableId}
use Rattle.qm_turn.specs.History.{times}
use Rattle.qm_turn.specs.Turns.{Known, fresh}

times_here : (a n : ℕ) (rest : ℕ) → a ≡ n → 1 ≤ (if a == n then 1 else 0) + rest
times_here a n rest e = grind (arith, nat_tests)

-- each number of the range stands in it
pub times-range : (a m n : ℕ) → a ≤ n → n < a + m → 1 ≤ times n (range_with_len a m)
times-range a zero n low high = absurd (omega arith)
times-range a (suc m) n low high =
    dite (ℕ_discrete a n)
    (λ e. times_here a n (times n (range_with_len (a + 1) m)) e)
    (λ ne. (let later = times-range (a + 1) m n (omega arith) (omega arith) in omega arith))

-- each of all numbers that opening gave is there
pub all_there : (ns : List ℕ) (passes : ℕ) → ns ≡ range_with_len 0 passes → (n : ℕ) → n < passes → 1 ≤ times n ns
all_there ns passes is n h = subst (λ l. 1 ≤ times n l) (sym is) (times-range 0 passes n (omega arith) (omega arith))

pub fresh_places : {N : Type 0} (place : TableId) (ns : List ℕ) → All (λ (p : Known N). p.place ≡ place) (map (fresh place) ns)
fresh_places place [] k d h = absurd (omega arith)
fresh_places place (n ∷ ns) zero d h = refl
fresh_places place (n ∷ ns) (suc k) d h = fresh_places place ns k d (omega arith)

pub fresh_numbers : (N : Type 0) (place : TableId) (ns : List ℕ) → map (λ (p : Known N). p.number) (map (fresh place) ns) ≡ ns
fresh_numbers N place [] = refl
fresh_numbers N place (n ∷ ns) = ap (λ l. n ∷ l) (fresh_numbers N place ns)

-- two lists whose elements have the same numbers, each at its place
pub same_numbers : {A B : Type 0} (f : A → ℕ) (g : B → ℕ) (xs : List A) (ys : List B) → length xs ≡ length ys → ((i : ℕ) (d : A) (e : B) → i < length xs → f (get_or xs i d) ≡ g (get_or ys i e)) → map f xs ≡ map g ys
same_numbers f g [] [] len each = refl
same_numbers f g [] (y ∷ ys) len each = absurd (omega arith)
same_numbers f g (x ∷ xs) [] len each = absurd (omega arith)
same_numbers f g (x ∷ xs) (y ∷ ys) len each =
    let first : f x ≡ g y = each 0 x y (omega arith) in
    let others : map f xs ≡ map g ys = same_numbers f g xs ys (omega arith) (λ i d e h. each (suc i) d e (omega arith)) in
    cc
