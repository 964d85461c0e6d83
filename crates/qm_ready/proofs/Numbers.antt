-- Keys by their numbers: which one a number has, and what an insertion and a removal make of that.
use Rattle.std.proofs.Common.{◌≡◌, ◌≢◌, ℕ, ◌==◌, Bool, true, false, not, cond, if◌then◌else◌, List, [], ◌∷◌, Option, Some, None, refl, sym, ◌∙◌, ap, subst, arith, All, find}
use Rattle.std.proofs.lemmas.Bool.Decides.{nat_tests}
use Rattle.std.proofs.lemmas.List.Elements.{All-nil, All-cons, All-head, All-tail}
use Rattle.qm_model.specs.Inserting.{inserted}
use Rattle.qm_match.specs.declared.order.Key.{Key}
use Rattle.qm_keyed.proofs.Pairs.{pairs_first, pairs_tail}
use Rattle.qm_ready.specs.Rows.{HasNumbersOnce, key_numbered, without}

-- what holds of each element holds of the one that is found
pub found_All : {X : Type 0} (P : X → Type 0) (test : X → Bool) (xs : List X) (x : X) → find test xs ≡ Some x → All P xs → P x
found_All P test [] x is all = absurd (cc)
found_All P test (u ∷ us) x is all = step (test u) is (λ is'. found_All P test us x is' (All-tail P u us all))
  where
    step : (b : Bool) → cond b (Some u) (find test us) ≡ Some x → (find test us ≡ Some x → P x) → P x
    step true is' later = let one : u ≡ x = cc in subst P one (All-head P u us all)
    step false is' later = later is'

pub numbered-All : (P : Key → Type 0) (n : ℕ) (ks : List Key) (k : Key) → key_numbered n ks ≡ Some k → All P ks → P k
numbered-All P n ks k is all = found_All P (λ k. k.number == n) ks k is all

pub numbered-number : (n : ℕ) (ks : List Key) (k : Key) → key_numbered n ks ≡ Some k → k.number ≡ n
numbered-number n [] k is = absurd (cc)
numbered-number n (u ∷ us) k is = step (u.number == n) refl is (λ is'. numbered-number n us k is')
  where
    step : (b : Bool) → (u.number == n) ≡ b → cond b (Some u) (key_numbered n us) ≡ Some k → (key_numbered n us ≡ Some k → k.number ≡ n) → k.number ≡ n
    step true same is' later = let one : u ≡ k = cc in let number : u.number ≡ n = grind (arith, nat_tests) in subst (λ (v : Key). v.number ≡ n) one number
    step false same is' later = later is'

-- a number has no key exactly where each key has another number
pub absent_all : (n : ℕ) (ks : List Key) → key_numbered n ks ≡ None → All (λ k. k.number ≢ n) ks
absent_all n [] none = All-nil (λ k. k.number ≢ n)
absent_all n (u ∷ us) none = step (u.number == n) refl none (λ none'. absent_all n us none')
  where
    step : (b : Bool) → (u.number == n) ≡ b → cond b (Some u) (key_numbered n us) ≡ None → (key_numbered n us ≡ None → All (λ k. k.number ≢ n) us) → All (λ k. k.number ≢ n) (u ∷ us)
    step true is none' later = absurd (cc)
    step false is none' later = let other : u.number ≢ n = grind (arith, nat_tests) in All-cons (λ k. k.number ≢ n) u us other (later none')

pub all_absent : (n : ℕ) (ks : List Key) → All (λ k. k.number ≢ n) ks → key_numbered n ks ≡ None
all_absent n [] all = refl
all_absent n (u ∷ us) all =
    let other : u.number ≢ n = All-head (λ k. k.number ≢ n) u us all in
    let is : (u.number == n) ≡ false = grind (arith, nat_tests) in
    rw is (all_absent n us (All-tail (λ k. k.number ≢ n) u us all))

-- the first one is that of its number
pub first_has : (k : Key) (ks : List Key) → key_numbered k.number (k ∷ ks) ≡ Some k
first_has k ks = let same : (k.number == k.number) ≡ true = grind (arith, nat_tests) in rw same refl

-- no other key has the number of the one that is found
pub found_once : (n : ℕ) (ks : List Key) (k : Key) → HasNumbersOnce ks → key_numbered n ks ≡ Some k → All (λ u. u.number ≡ n → u ≡ k) ks
found_once n [] k once is = All-nil (λ u. u.number ≡ n → u ≡ k)
found_once n (u ∷ us) k once is =
    step (u.number == n) refl is (λ is'. found_once n us k (pairs_tail (λ (a b : Key). a.number ≢ b.number) u us once) is')
  where
    others : All (λ v. u.number ≢ v.number) us
    others = pairs_first (λ (a b : Key). a.number ≢ b.number) u us once

    step : (b : Bool) → (u.number == n) ≡ b → cond b (Some u) (key_numbered n us) ≡ Some k → (key_numbered n us ≡ Some k → All (λ v. v.number ≡ n → v ≡ k) us) → All (λ v. v.number ≡ n → v ≡ k) (u ∷ us)
    step true same is' later =
        let one : u ≡ k = cc in
        let number : u.number ≡ n = grind (arith, nat_tests) in
        All-cons (λ v. v.number ≡ n → v ≡ k) u us (λ its. one) (λ i d within its. absurd (others i d within (number ∙ sym its)))
    step false same is' later = let other : u.number ≢ n = grind (arith, nat_tests) in All-cons (λ v. v.number ≡ n → v ≡ k) u us (λ its. absurd (other its)) (later is')

-- what a number has behind an insertion of a key whose number has none
pub numbered-inserted : (comes_before : Key → Key → Bool) (key : Key) (ks : List Key) → All (λ k. k.number ≢ key.number) ks
    → (n : ℕ) → key_numbered n (inserted comes_before key ks) ≡ cond (key.number == n) (Some key) (key_numbered n ks)
numbered-inserted comes_before key [] all n = refl
numbered-inserted comes_before key (u ∷ us) all n =
    let later : key_numbered n (inserted comes_before key us) ≡ cond (key.number == n) (Some key) (key_numbered n us) = numbered-inserted comes_before key us (All-tail (λ k. k.number ≢ key.number) u us all) n in
    elim (comes_before key u) as (λ b. key_numbered n (if b then key ∷ u ∷ us else u ∷ inserted comes_before key us) ≡ cond (key.number == n) (Some key) (key_numbered n (u ∷ us))) [
      | true ↦ refl
      | false ↦ ap (λ (r : Option Key). cond (u.number == n) (Some u) r) later ∙ exchanged (u.number == n) (key.number == n) refl refl
    ]
  where
    exchanged : (b c : Bool) → (u.number == n) ≡ b → (key.number == n) ≡ c → cond b (Some u) (cond c (Some key) (key_numbered n us)) ≡ cond c (Some key) (cond b (Some u) (key_numbered n us))
    exchanged true true first second = let other : u.number ≢ key.number = All-head (λ k. k.number ≢ key.number) u us all in absurd (grind (arith, nat_tests))
    exchanged true false first second = refl
    exchanged false c first second = refl

-- the same either way
same_twice : (b : Bool) (o : Option Key) → o ≡ cond b o o
same_twice true o = refl
same_twice false o = refl

-- and behind a removal
pub numbered-without : (n m : ℕ) (ks : List Key) → key_numbered n (without m ks) ≡ cond (m == n) None (key_numbered n ks)
numbered-without n m [] = same_twice (m == n) None
numbered-without n m (u ∷ us) =
    let later : key_numbered n (without m us) ≡ cond (m == n) None (key_numbered n us) = numbered-without n m us in
    step (u.number == m) refl later
  where
    step : (b : Bool) → (u.number == m) ≡ b → key_numbered n (without m us) ≡ cond (m == n) None (key_numbered n us)
        → key_numbered n (cond (not b) (u ∷ without m us) (without m us)) ≡ cond (m == n) None (cond (u.number == n) (Some u) (key_numbered n us))
    step true is later = let same : u.number ≡ m = grind (arith, nat_tests) in later ∙ gone (m == n) (u.number == n) (ap (λ k. k == n) (sym same))
      where
        gone : (b c : Bool) → b ≡ c → cond b None (key_numbered n us) ≡ cond b None (cond c (Some u) (key_numbered n us))
        gone true c is' = refl
        gone false true is' = absurd (cc)
        gone false false is' = refl
    step false is later = ap (λ (r : Option Key). cond (u.number == n) (Some u) r) later ∙ stays (u.number == n) (m == n) refl refl
      where
        stays : (b c : Bool) → (u.number == n) ≡ b → (m == n) ≡ c → cond b (Some u) (cond c None (key_numbered n us)) ≡ cond c None (cond b (Some u) (key_numbered n us))
        stays true true first second = absurd (grind (arith, nat_tests))
        stays true false first second = refl
        stays false c first second = refl
