-- The least number of a list.
use Rattle.std.proofs.Common.{◌≡◌, ◌∙◌, ℕ, ◌+◌, ◌<◌, ◌≤◌, ◌==◌, nat_lt, min, Bool, true, false, cond, List, [], ◌∷◌, ◌++◌, length, get_or, take, map, filter, count_by, None, Some, refl, sym, ap, subst, arith}
use Rattle.std.specs.List.{fold, reduce}
use Rattle.std.specs.Option.{option_map_or}
use Rattle.std.proofs.lemmas.Bool.Decides.{nat_tests}
use Rattle.std.proofs.lemmas.List.{append-nil, map-append}
use Rattle.std.proofs.lemmas.List.Elements.{filter_more}
use Rattle.std.proofs.lemmas.List.Sums.{fold-append}
use Rattle.qm_parts.proofs.Counts.{one_if, count_cons}

-- the number stands in the list, and no lesser one
pub record IsLeast (n : ℕ) (ns : List ℕ) : Type 0 where
  pub there : 1 ≤ count_by (λ m. m == n) ns
  pub none : count_by (λ m. nat_lt m n) ns ≡ 0

some_there : (a y m k : ℕ) → 1 ≤ one_if (min a y == m) + k → 1 ≤ one_if (a == m) + (one_if (y == m) + k)
some_there a y m k some = grind (arith, nat_tests)

none_under : (a y m k : ℕ) → one_if (nat_lt (min a y) m) + k ≡ 0 → one_if (nat_lt a m) + (one_if (nat_lt y m) + k) ≡ 0
none_under a y m k none = grind (arith, nat_tests)

alone : (a : ℕ) → 1 ≤ one_if (a == a) + 0
alone a = grind (arith, nat_tests)

none_alone : (a : ℕ) → one_if (nat_lt a a) + 0 ≡ 0
none_alone a = grind (arith, nat_tests)

least_from : (a : ℕ) (ns : List ℕ) → IsLeast (fold min a ns) (a ∷ ns)
least_from a [] = record {
  there = omega (arith, count_cons (λ m. m == a) a [], alone a);
  none = count_cons (λ m. nat_lt m a) a [] ∙ none_alone a;
}
least_from a (y ∷ ns) =
    let rest = least_from (min a y) ns in
    let n = fold min (min a y) ns in
    record {
      there = omega (arith, count_cons (λ m. m == n) a (y ∷ ns), count_cons (λ m. m == n) y ns, some_there a y n (count_by (λ m. m == n) ns) (omega (arith, count_cons (λ m. m == n) (min a y) ns, rest.there)));
      none = count_cons (λ m. nat_lt m n) a (y ∷ ns) ∙ ap (λ k. one_if (nat_lt a n) + k) (count_cons (λ m. nat_lt m n) y ns)
          ∙ none_under a y n (count_by (λ m. nat_lt m n) ns) (sym (count_cons (λ m. nat_lt m n) (min a y) ns) ∙ rest.none);
    }

pub least_is : (n : ℕ) (ns : List ℕ) → reduce min ns ≡ Some n → IsLeast n ns
least_is n [] is = absurd (cc)
least_is n (a ∷ ns) is =
    let same : fold min a ns ≡ n = cc in
    let P : ℕ → Type 0 = λ m. IsLeast m (a ∷ ns) in
    subst P same (least_from a ns)

pub none_is_least : (ns : List ℕ) → reduce min ns ≡ None → ns ≡ []
none_is_least [] is = refl
none_is_least (a ∷ ns) is = absurd (cc)

-- one number more
least_behind : (ns : List ℕ) (n : ℕ) → reduce min (ns ++ n ∷ []) ≡ Some (option_map_or (λ m. min m n) (reduce min ns) n)
least_behind [] n = refl
least_behind (a ∷ ns) n = ap (λ (k : ℕ). Some k) (fold-append min a ns (n ∷ []))

-- one element more of a walk over those that pass
module _ {X : Type 0} (number : X → ℕ) (p : X → Bool) (xs : List X) (i : ℕ) (x : X) (within : i < length xs) (is : x ≡ get_or xs i x) where
  more : filter p (take (i + 1) xs) ≡ filter p (take i xs) ++ cond (p x) (x ∷ []) []
  more = filter_more p xs i x within ∙ ap (λ (y : X). filter p (take i xs) ++ cond (p y) (y ∷ []) []) (sym is)

  pub least_taken : p x ≡ true → reduce min (map number (filter p (take (i + 1) xs))) ≡ Some (option_map_or (λ m. min m (number x)) (reduce min (map number (filter p (take i xs)))) (number x))
  least_taken passes =
      ap (λ (ns : List ℕ). reduce min ns)
      (ap (map number) (more ∙ ap (λ (b : Bool). filter p (take i xs) ++ cond b (x ∷ []) []) passes) ∙ map-append number (filter p (take i xs)) (x ∷ []))
      ∙ least_behind (map number (filter p (take i xs))) (number x)

  pub least_passed : p x ≡ false → reduce min (map number (filter p (take (i + 1) xs))) ≡ reduce min (map number (filter p (take i xs)))
  least_passed fails = ap (λ (ys : List X). reduce min (map number ys)) (more ∙ ap (λ (b : Bool). filter p (take i xs) ++ cond b (x ∷ []) []) fails ∙ append-nil (filter p (take i xs)))
