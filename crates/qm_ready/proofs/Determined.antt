-- Keys that are kept have one order.
use Rattle.std.proofs.Common.{◌≡◌, ◌≢◌, ◌⊎◌, ◌∙◌, ℕ, ◌==◌, Bool, true, false, cond, List, [], ◌∷◌, Some, None, refl, sym, ap, subst, inl, inr, arith, All}
use Rattle.std.proofs.lemmas.Bool.Decides.{nat_tests}
use Rattle.qm_match.specs.declared.order.Key.{Key}
use Rattle.qm_match.specs.declared.order.Schedule.{Schedule}
use Rattle.qm_match.specs.Keys.{comes_before}
use Rattle.qm_keyed.proofs.Pairs.{pairs_first}
use Rattle.qm_ready.specs.Rows.{IsRow, key_numbered}
use Rattle.qm_ready.proofs.Orders.{before-trans, before-itself}
use Rattle.qm_ready.proofs.Numbers.{all_absent, first_has, numbered-All}
use Rattle.qm_ready.proofs.Searches.{row_tail}

-- the key of a number is the first one, or stands behind it
pub first_or_behind : (s : Schedule) (u : Key) (us : List Key) (k : Key) (n : ℕ) → IsRow s (u ∷ us) → key_numbered n (u ∷ us) ≡ Some k → (k ≡ u) ⊎ (comes_before s u k ≡ true)
first_or_behind s u us k n row found = step (u.number == n) found
  where
    step : (b : Bool) → cond b (Some u) (key_numbered n us) ≡ Some k → (k ≡ u) ⊎ (comes_before s u k ≡ true)
    step true found' = inl (cc)
    step false found' = inr (numbered-All (λ v. comes_before s u v ≡ true) n us k found' (pairs_first (λ (a b : Key). comes_before s a b ≡ true) u us row.order))

-- so both first ones are the same
same_first : (s : Schedule) (x y : Key) (xs ys : List Key) → IsRow s (x ∷ xs) → IsRow s (y ∷ ys) → ((n : ℕ) → key_numbered n (x ∷ xs) ≡ key_numbered n (y ∷ ys)) → x ≡ y
same_first s x y xs ys row_x row_y same = elim (first_or_behind s x xs y y.number row_x (same y.number ∙ first_has y ys)) [
  | inl is ↦ sym is
  | inr behind_x ↦ elim (first_or_behind s y ys x x.number row_y (sym (same x.number) ∙ first_has x xs)) [
    | inl is ↦ is
    | inr behind_y ↦ let itself : comes_before s x x ≡ true = before-trans s x y x behind_x behind_y in let never : comes_before s x x ≡ false = before-itself s x in absurd (cc)
  ]
]

-- and what stands behind them agrees
same_behind : (k : Key) (xs ys : List Key) (n : ℕ) → All (λ u. k.number ≢ u.number) xs → All (λ u. k.number ≢ u.number) ys → key_numbered n (k ∷ xs) ≡ key_numbered n (k ∷ ys) → key_numbered n xs ≡ key_numbered n ys
same_behind k xs ys n once_x once_y same = step (k.number == n) refl same
  where
    none : (us : List Key) → All (λ u. k.number ≢ u.number) us → k.number ≡ n → key_numbered n us ≡ None
    none us once number = all_absent n us (λ i d within its. once i d within (number ∙ sym its))

    step : (b : Bool) → (k.number == n) ≡ b → cond b (Some k) (key_numbered n xs) ≡ cond b (Some k) (key_numbered n ys) → key_numbered n xs ≡ key_numbered n ys
    step true is same' = let number : k.number ≡ n = grind (arith, nat_tests) in none xs once_x number ∙ sym (none ys once_y number)
    step false is same' = same'

pub determined : (s : Schedule) (xs ys : List Key) → IsRow s xs → IsRow s ys → ((n : ℕ) → key_numbered n xs ≡ key_numbered n ys) → xs ≡ ys
determined s [] [] row_x row_y same = refl
determined s [] (y ∷ ys) row_x row_y same = let has : None ≡ Some y = same y.number ∙ first_has y ys in absurd (cc)
determined s (x ∷ xs) [] row_x row_y same = let has : None ≡ Some x = sym (same x.number) ∙ first_has x xs in absurd (cc)
determined s (x ∷ xs) (y ∷ ys) row_x row_y same =
    let first : x ≡ y = same_first s x y xs ys row_x row_y same in
    let row_y' : IsRow s (x ∷ ys) = subst (λ (k : Key). IsRow s (k ∷ ys)) (sym first) row_y in
    let same' : (n : ℕ) → key_numbered n (x ∷ xs) ≡ key_numbered n (x ∷ ys) = λ n. same n ∙ ap (λ (k : Key). key_numbered n (k ∷ ys)) (sym first) in
    let others : xs ≡ ys = determined s xs ys (row_tail s x xs row_x) (row_tail s y ys row_y)
    (λ n. same_behind x xs ys n (pairs_first (λ (a b : Key). a.number ≢ b.number) x xs row_x.once) (pairs_first (λ (a b : Key). a.number ≢ b.number) x ys row_y'.once) (same' n)) in
    ap (λ (k : Key). k ∷ xs) first ∙ ap (λ (l : List Key). y ∷ l) others
