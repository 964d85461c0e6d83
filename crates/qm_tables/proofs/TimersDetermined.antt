-- Timers that are kept have one order.
use Rattle.std.proofs.Common.{◌≡◌, ◌≢◌, ◌⊎◌, ℕ, ◌==◌, Bool, true, false, cond, List, [], ◌∷◌, Some, None, refl, sym, ◌∙◌, ap, subst, inl, inr, arith, All}
use Rattle.std.proofs.lemmas.Bool.Decides.{nat_tests}
use Rattle.qm_tables.specs.Timers.{is_before, IsRising, HasEachNumberOnce, timer_of}
use Rattle.qm_tables.proofs.TimerOrders.{before-trans, before-itself}
use Rattle.qm_tables.proofs.TimerNumbers.{timer_of-All, all_absent}

-- the first one is the timer of its number
pub first_has : (t : ℕ × ℕ) (ts : List (ℕ × ℕ)) → timer_of t.1 (t ∷ ts) ≡ Some t
first_has t ts = let same : (t.1 == t.1) ≡ true = grind (arith, nat_tests) in rw same refl

-- a timer that a number has is the first one, or stands behind it
first_or_behind : (u : ℕ × ℕ) (us : List (ℕ × ℕ)) (t : ℕ × ℕ) (n : ℕ) → IsRising is_before (u ∷ us) → timer_of n (u ∷ us) ≡ Some t → (t ≡ u) ⊎ (is_before u t ≡ true)
first_or_behind u us t n rising found = step (u.1 == n) found
  where
    step : (b : Bool) → cond b (Some u) (timer_of n us) ≡ Some t → (t ≡ u) ⊎ (is_before u t ≡ true)
    step true found' = inl (cc)
    step false found' = inr (timer_of-All (λ v. is_before u v ≡ true) n us t found' rising.0)

-- so both first ones are the same
same_first : (x y : ℕ × ℕ) (xs ys : List (ℕ × ℕ)) → IsRising is_before (x ∷ xs) → IsRising is_before (y ∷ ys) → ((n : ℕ) → timer_of n (x ∷ xs) ≡ timer_of n (y ∷ ys)) → x ≡ y
same_first x y xs ys rising_x rising_y same = elim (first_or_behind x xs y y.1 rising_x (same y.1 ∙ first_has y ys)) [
  | inl is ↦ sym is
  | inr behind_x ↦ elim (first_or_behind y ys x x.1 rising_y (sym (same x.1) ∙ first_has x xs)) [
    | inl is ↦ is
    | inr behind_y ↦ let itself : is_before x x ≡ true = before-trans x y x behind_x behind_y in let never : is_before x x ≡ false = before-itself x in absurd (cc)
  ]
]

-- and what stands behind them agrees
same_behind : (t : ℕ × ℕ) (xs ys : List (ℕ × ℕ)) (n : ℕ) → All (λ u. u.1 ≢ t.1) xs → All (λ u. u.1 ≢ t.1) ys → timer_of n (t ∷ xs) ≡ timer_of n (t ∷ ys) → timer_of n xs ≡ timer_of n ys
same_behind t xs ys n once_x once_y same = step (t.1 == n) refl same
  where
    step : (b : Bool) → (t.1 == n) ≡ b → cond b (Some t) (timer_of n xs) ≡ cond b (Some t) (timer_of n ys) → timer_of n xs ≡ timer_of n ys
    step true is same' =
        let number : t.1 ≡ n = grind (arith, nat_tests) in
        all_absent n xs (subst (λ (k : ℕ). All (λ u. u.1 ≢ k) xs) number once_x) ∙ sym (all_absent n ys (subst (λ (k : ℕ). All (λ u. u.1 ≢ k) ys) number once_y))
    step false is same' = same'

pub determined : (xs ys : List (ℕ × ℕ)) → IsRising is_before xs → HasEachNumberOnce xs → IsRising is_before ys → HasEachNumberOnce ys → ((n : ℕ) → timer_of n xs ≡ timer_of n ys) → xs ≡ ys
determined [] [] rising_x once_x rising_y once_y same = refl
determined [] (y ∷ ys) rising_x once_x rising_y once_y same = let has : None ≡ Some y = same y.1 ∙ first_has y ys in absurd (cc)
determined (x ∷ xs) [] rising_x once_x rising_y once_y same = let has : None ≡ Some x = sym (same x.1) ∙ first_has x xs in absurd (cc)
determined (x ∷ xs) (y ∷ ys) rising_x once_x rising_y once_y same =
    let first : x ≡ y = same_first x y xs ys rising_x rising_y same in
    let once_y' : All (λ u. u.1 ≢ x.1) ys = subst (λ (t : ℕ × ℕ). All (λ u. u.1 ≢ t.1) ys) (sym first) once_y.0 in
    let same' : (n : ℕ) → timer_of n (x ∷ xs) ≡ timer_of n (x ∷ ys) = λ n. same n ∙ ap (λ (t : ℕ × ℕ). timer_of n (t ∷ ys)) (sym first) in
    let others : xs ≡ ys = determined xs ys rising_x.1 once_x.1 rising_y.1 once_y.1 (λ n. same_behind x xs ys n once_x.0 once_y' (same' n)) in
    ap (λ (t : ℕ × ℕ). t ∷ xs) first ∙ ap (λ (l : List (ℕ × ℕ)). y ∷ l) others
