-- What sorting makes of keys.
use Rattle.std.proofs.Common.{◌≡◌, ◌≢◌, ◌∙◌, ℕ, ◌+◌, ◌≤◌, ◌==◌, Bool, true, false, cond, List, [], ◌∷◌, get_or, Option, Some, None, refl, sym, ap, subst, arith, count_by, All, IsPermutation, IsSortedBy}
use Rattle.std.proofs.lemmas.Bool.Decides.{nat_tests}
use Rattle.std.proofs.lemmas.List.Elements.{All-nil, All-cons, All-tail}
use Rattle.std.proofs.lemmas.List.Sums.{sum_by-cons}
use Rattle.std.proofs.lemmas.List.Sorted.{All-permutation, IsPermutation-sym, sorted_far, sum_by-IsPermutation}
use Rattle.qm_match.specs.declared.order.Key.{Key}
use Rattle.qm_match.specs.declared.order.Schedule.{Schedule}
use Rattle.qm_match.specs.Keys.{comes_before}
use Rattle.qm_keyed.proofs.Pairs.{pairs_nil, pairs_cons, pairs_first, pairs_tail}
use Rattle.qm_ready.specs.Rows.{HasNumbersOnce, IsRow, key_numbered}
use Rattle.qm_ready.proofs.Orders.{before-weak, before-other}
use Rattle.qm_ready.proofs.Numbers.{absent_all, all_absent, found_once, numbered-All, numbered-number}

abbrev one_if : Bool → ℕ
one_if b = cond b 1 0

-- how many keys have a number
abbrev count : ℕ → List Key → ℕ
count n ks = count_by (λ k. k.number == n) ks

count_cons : (n : ℕ) (u : Key) (us : List Key) → count n (u ∷ us) ≡ one_if (u.number == n) + count n us
count_cons n u us = sum_by-cons (λ k. cond (k.number == n) 1 0) u us

count_none : (n : ℕ) (ks : List Key) → All (λ k. n ≢ k.number) ks → count n ks ≡ 0
count_none n [] none = refl
count_none n (u ∷ us) none =
    let other : n ≢ u.number = none 0 u (omega arith) in
    let is : (u.number == n) ≡ false = grind (arith, nat_tests) in
    omega (arith, count_cons n u us, ap one_if is, count_none n us (All-tail (λ k. n ≢ k.number) u us none))

none_counted : (n : ℕ) (ks : List Key) → count n ks ≡ 0 → All (λ k. n ≢ k.number) ks
none_counted n [] none = All-nil (λ k. n ≢ k.number)
none_counted n (u ∷ us) none = step (u.number == n) refl (sym (count_cons n u us) ∙ none) (λ none'. none_counted n us none')
  where
    step : (b : Bool) → (u.number == n) ≡ b → one_if b + count n us ≡ 0 → (count n us ≡ 0 → All (λ k. n ≢ k.number) us) → All (λ k. n ≢ k.number) (u ∷ us)
    step true is none' later = absurd (omega (arith, none'))
    step false is none' later = let other : n ≢ u.number = grind (arith, nat_tests) in All-cons (λ k. n ≢ k.number) u us other (later (omega (arith, none')))

-- numbers stand once exactly where none is counted twice
counted_once : (n : ℕ) (ks : List Key) → HasNumbersOnce ks → count n ks ≤ 1
counted_once n [] once = omega arith
counted_once n (u ∷ us) once = step (u.number == n) refl (counted_once n us (pairs_tail (λ (a b : Key). a.number ≢ b.number) u us once))
  where
    step : (b : Bool) → (u.number == n) ≡ b → count n us ≤ 1 → count n (u ∷ us) ≤ 1
    step true is later =
        let number : u.number ≡ n = grind (arith, nat_tests) in
        let none : count n us ≡ 0 = count_none n us (subst (λ (m : ℕ). All (λ k. m ≢ k.number) us) number (pairs_first (λ (a b : Key). a.number ≢ b.number) u us once)) in
        omega (arith, count_cons n u us, none, ap one_if is)
    step false is later = omega (arith, count_cons n u us, later, ap one_if is)

once_counted : (ks : List Key) → ((n : ℕ) → count n ks ≤ 1) → HasNumbersOnce ks
once_counted [] counted = pairs_nil (λ (a b : Key). a.number ≢ b.number)
once_counted (u ∷ us) counted =
    let same : (u.number == u.number) ≡ true = grind (arith, nat_tests) in
    let none : count u.number us ≡ 0 = omega (arith, count_cons u.number u us, counted u.number, ap one_if same) in
    pairs_cons (λ (a b : Key). a.number ≢ b.number) u us (none_counted u.number us none) (once_counted us (λ n. omega (arith, count_cons n u us, counted n)))

module _ (xs ys : List Key) (once : HasNumbersOnce xs) (permutation : IsPermutation xs ys) where
  -- numbers that stand once still do,
  pub once_permuted : HasNumbersOnce ys
  once_permuted = once_counted ys (λ n. omega (arith, counted_once n xs once, sum_by-IsPermutation (λ (k : Key). cond (k.number == n) 1 0) xs ys permutation))

  -- and each number keeps its key
  pub numbers_permuted : (n : ℕ) → key_numbered n ys ≡ key_numbered n xs
  numbers_permuted n = step (key_numbered n xs) (key_numbered n ys) refl refl
    where
      step : (o p : Option Key) → key_numbered n xs ≡ o → key_numbered n ys ≡ p → p ≡ o
      step None None was is = refl
      step None (Some k) was is =
          let none : key_numbered n ys ≡ None = all_absent n ys (All-permutation (λ k. k.number ≢ n) xs ys permutation (absent_all n xs was)) in
          absurd (cc)
      step (Some k) None was is =
          let none : key_numbered n xs ≡ None = all_absent n xs (All-permutation (λ k. k.number ≢ n) ys xs (IsPermutation-sym xs ys permutation) (absent_all n ys is)) in
          absurd (cc)
      step (Some k) (Some j) was is =
          let only : All (λ u. u.number ≡ n → u ≡ k) ys = All-permutation (λ u. u.number ≡ n → u ≡ k) xs ys permutation (found_once n xs k once was) in
          ap (λ (u : Key). Some u) (numbered-All (λ u. u.number ≡ n → u ≡ k) n ys j is only (numbered-number n ys j is))

  -- in the order of starts they are a row
  pub row_sorted : (s : Schedule) → IsSortedBy (comes_before s) ys → IsRow s ys
  row_sorted s sorted = record {
    order = λ i j d below within. before-other s (get_or ys i d) (get_or ys j d) (once_permuted i j d below within) (sorted_far (comes_before s) (before-weak s) ys sorted i j d (omega (arith, below)) within);
    once = once_permuted;
  }
