-- Timers by their numbers: which one a number has, and what an insertion and a removal make of that.
use Rattle.std.proofs.Common.{◌≡◌, ◌≢◌, ℕ, zero, suc, ◌+◌, ◌<◌, ◌==◌, nat_lt, Bool, true, false, not, cond, if◌then◌else◌, List, [], ◌∷◌, length, get_or, Option, Some, None, refl, sym, ◌∙◌, ap, subst, arith, All, remove, filter, option_map, option_and_then}
use Rattle.std.proofs.lemmas.Bool.Decides.{nat_tests}
use Rattle.std.proofs.lemmas.List.Elements.{All-nil, All-cons, All-head, All-tail, All-weaker, All-filter}
use Rattle.qm_tables.specs.Timers.{is_before, IsRising, HasEachNumberOnce, timer_of, moment_of, inserted_by, with_timer, without, later_than}
use Rattle.qm_tables.specs.TimersKept.{has_less, Parts}
use Rattle.qm_tables.proofs.TimerOrders.{Parts-tail, Parts-first, Parts-later, before-itself, All-inserted}

-- a timer that a number has is one of the timers, and has that number
pub timer_of-All : (P : (ℕ × ℕ) → Type 0) (n : ℕ) (ts : List (ℕ × ℕ)) (t : ℕ × ℕ) → timer_of n ts ≡ Some t → All P ts → P t
timer_of-All P n [] t is all = absurd (cc)
timer_of-All P n (u ∷ us) t is all = step (u.1 == n) is (λ is'. timer_of-All P n us t is' (All-tail P u us all))
  where
    step : (b : Bool) → cond b (Some u) (timer_of n us) ≡ Some t → (timer_of n us ≡ Some t → P t) → P t
    step true is' later = let one : u ≡ t = cc in subst P one (All-head P u us all)
    step false is' later = later is'

pub timer_of-number : (n : ℕ) (ts : List (ℕ × ℕ)) (t : ℕ × ℕ) → timer_of n ts ≡ Some t → t.1 ≡ n
timer_of-number n [] t is = absurd (cc)
timer_of-number n (u ∷ us) t is = step (u.1 == n) refl is (λ is'. timer_of-number n us t is')
  where
    step : (b : Bool) → (u.1 == n) ≡ b → cond b (Some u) (timer_of n us) ≡ Some t → (timer_of n us ≡ Some t → t.1 ≡ n) → t.1 ≡ n
    step true same is' later = let one : u ≡ t = cc in let number : u.1 ≡ n = grind (arith, nat_tests) in sym (ap (λ (v : ℕ × ℕ). v.1) one) ∙ number
    step false same is' later = later is'

-- a number has no timer exactly where each timer has another number
pub absent_all : (n : ℕ) (ts : List (ℕ × ℕ)) → timer_of n ts ≡ None → All (λ u. u.1 ≢ n) ts
absent_all n [] none = All-nil (λ u. u.1 ≢ n)
absent_all n (u ∷ us) none = step (u.1 == n) refl none (λ none'. absent_all n us none')
  where
    step : (b : Bool) → (u.1 == n) ≡ b → cond b (Some u) (timer_of n us) ≡ None → (timer_of n us ≡ None → All (λ v. v.1 ≢ n) us) → All (λ v. v.1 ≢ n) (u ∷ us)
    step true is none' later = absurd (cc)
    step false is none' later = let other : u.1 ≢ n = grind (arith, nat_tests) in All-cons (λ v. v.1 ≢ n) u us other (later none')

pub all_absent : (n : ℕ) (ts : List (ℕ × ℕ)) → All (λ u. u.1 ≢ n) ts → timer_of n ts ≡ None
all_absent n [] all = refl
all_absent n (u ∷ us) all =
    let other : u.1 ≢ n = All-head (λ v. v.1 ≢ n) u us all in
    let is : (u.1 == n) ≡ false = grind (arith, nat_tests) in
    rw is (all_absent n us (All-tail (λ v. v.1 ≢ n) u us all))

-- nothing goes where the number has no timer
pub without-absent : (n : ℕ) (ts : List (ℕ × ℕ)) → All (λ u. u.1 ≢ n) ts → without n ts ≡ ts
without-absent n [] all = refl
without-absent n (u ∷ us) all =
    let other : u.1 ≢ n = All-head (λ v. v.1 ≢ n) u us all in
    let is : (u.1 == n) ≡ false = grind (arith, nat_tests) in
    rw is (ap (λ (r : List (ℕ × ℕ)). u ∷ r) (without-absent n us (All-tail (λ v. v.1 ≢ n) u us all)))

-- what a number has behind an insertion of a timer whose number has none
pub timer_of-inserted : (comes_before : (ℕ × ℕ) → (ℕ × ℕ) → Bool) (t : ℕ × ℕ) (ts : List (ℕ × ℕ)) → All (λ u. u.1 ≢ t.1) ts
    → (n : ℕ) → timer_of n (inserted_by comes_before t ts) ≡ cond (t.1 == n) (Some t) (timer_of n ts)
timer_of-inserted comes_before t [] all n = refl
timer_of-inserted comes_before t (u ∷ us) all n =
    let later : timer_of n (inserted_by comes_before t us) ≡ cond (t.1 == n) (Some t) (timer_of n us) = timer_of-inserted comes_before t us (All-tail (λ v. v.1 ≢ t.1) u us all) n in
    elim (comes_before u t) as (λ b. timer_of n (if b then u ∷ inserted_by comes_before t us else t ∷ u ∷ us) ≡ cond (t.1 == n) (Some t) (timer_of n (u ∷ us))) [
      | true ↦ ap (λ (r : Option (ℕ × ℕ)). cond (u.1 == n) (Some u) r) later ∙ exchanged (u.1 == n) (t.1 == n) refl refl
      | false ↦ refl
    ]
  where
    exchanged : (b c : Bool) → (u.1 == n) ≡ b → (t.1 == n) ≡ c → cond b (Some u) (cond c (Some t) (timer_of n us)) ≡ cond c (Some t) (cond b (Some u) (timer_of n us))
    exchanged true true first second = let other : u.1 ≢ t.1 = All-head (λ v. v.1 ≢ t.1) u us all in absurd (grind (arith, nat_tests))
    exchanged true false first second = refl
    exchanged false c first second = refl

-- the same either way
same_twice : (b : Bool) (o : Option (ℕ × ℕ)) → o ≡ cond b o o
same_twice true o = refl
same_twice false o = refl

-- and behind a removal
pub timer_of-without : (n m : ℕ) (ts : List (ℕ × ℕ)) → timer_of n (without m ts) ≡ cond (m == n) None (timer_of n ts)
timer_of-without n m [] = same_twice (m == n) None
timer_of-without n m (u ∷ us) =
    let later : timer_of n (without m us) ≡ cond (m == n) None (timer_of n us) = timer_of-without n m us in
    step (u.1 == m) refl later
  where
    step : (b : Bool) → (u.1 == m) ≡ b → timer_of n (without m us) ≡ cond (m == n) None (timer_of n us) → timer_of n (cond (not b) (u ∷ without m us) (without m us)) ≡ cond (m == n) None (cond (u.1 == n) (Some u) (timer_of n us))
    step true is later = let same : u.1 ≡ m = grind (arith, nat_tests) in later ∙ gone (m == n) (u.1 == n) (ap (λ k. k == n) (sym same))
      where
        gone : (b c : Bool) → b ≡ c → cond b None (timer_of n us) ≡ cond b None (cond c (Some u) (timer_of n us))
        gone true c is' = refl
        gone false true is' = absurd (cc)
        gone false false is' = refl
    step false is later = ap (λ (r : Option (ℕ × ℕ)). cond (u.1 == n) (Some u) r) later ∙ stays (u.1 == n) (m == n) refl refl
      where
        stays : (b c : Bool) → (u.1 == n) ≡ b → (m == n) ≡ c → cond b (Some u) (cond c None (timer_of n us)) ≡ cond c None (cond b (Some u) (timer_of n us))
        stays true true first second = absurd (grind (arith, nat_tests))
        stays true false first second = refl
        stays false c first second = refl

-- a number that goes has no timer then
pub timer_of-gone : (n : ℕ) (ts : List (ℕ × ℕ)) → timer_of n (without n ts) ≡ None
timer_of-gone n ts = let same : (n == n) ≡ true = grind (arith, nat_tests) in timer_of-without n n ts ∙ ap (λ (b : Bool). cond b None (timer_of n ts)) same

-- and behind a timer that is set
pub timer_of-with : (m n : ℕ) (at : Option ℕ) (ts : List (ℕ × ℕ)) → timer_of n (with_timer m at ts) ≡ cond (m == n) (option_map (λ a. (a, m)) at) (timer_of n ts)
timer_of-with m n None ts = timer_of-without n m ts
timer_of-with m n (Some a) ts =
    timer_of-inserted is_before (a, m) (without m ts) (absent_all m (without m ts) (timer_of-gone m ts)) n
    ∙ ap (λ (r : Option (ℕ × ℕ)). cond (m == n) (Some (a, m)) r) (timer_of-without n m ts) ∙ twice (m == n)
  where
    twice : (b : Bool) → cond b (Some (a, m)) (cond b None (timer_of n ts)) ≡ cond b (Some (a, m)) (timer_of n ts)
    twice true = refl
    twice false = refl

-- of the timers that pass a test, a number has its own, where that passes
pub timer_of-filter : (test : (ℕ × ℕ) → Bool) (n : ℕ) (ts : List (ℕ × ℕ)) → HasEachNumberOnce ts → timer_of n (filter test ts) ≡ option_and_then (λ t. cond (test t) (Some t) None) (timer_of n ts)
timer_of-filter test n [] once = refl
timer_of-filter test n (u ∷ us) once = step (u.1 == n) refl (test u) refl (timer_of-filter test n us once.1)
  where
    passed : Option (ℕ × ℕ) → Option (ℕ × ℕ)
    passed o = option_and_then (λ t. cond (test t) (Some t) None) o

    step : (b : Bool) → (u.1 == n) ≡ b → (c : Bool) → test u ≡ c → timer_of n (filter test us) ≡ passed (timer_of n us) → timer_of n (cond c (u ∷ filter test us) (filter test us)) ≡ passed (cond b (Some u) (timer_of n us))
    step true is true passes later = ap (λ (x : Bool). cond x (Some u) (timer_of n (filter test us))) is ∙ sym (ap (λ (x : Bool). cond x (Some u) None) passes)
    step true is false passes later =
        let number : u.1 ≡ n = grind (arith, nat_tests) in
        let none : timer_of n us ≡ None = all_absent n us (subst (λ (k : ℕ). All (λ v. v.1 ≢ k) us) number once.0) in
        later ∙ ap passed none ∙ sym (ap (λ (x : Bool). cond x (Some u) None) passes)
    step false is true passes later = ap (λ (x : Bool). cond x (Some u) (timer_of n (filter test us))) is ∙ later
    step false is false passes later = later

-- so with the moments of those that have some,
pub moment_of-later : (now n : ℕ) (ts : List (ℕ × ℕ)) → HasEachNumberOnce ts → moment_of n (later_than now ts) ≡ option_and_then (λ at. cond (nat_lt now at) (Some at) None) (moment_of n ts)
moment_of-later now n ts once = ap (option_map (λ (t : ℕ × ℕ). t.0)) (timer_of-filter (λ t. nat_lt now t.0) n ts once) ∙ at_it (timer_of n ts)
  where
    on : (t : ℕ × ℕ) (b : Bool) → option_map (λ (t : ℕ × ℕ). t.0) (cond b (Some t) None) ≡ cond b (Some t.0) None
    on t true = refl
    on t false = refl

    at_it : (o : Option (ℕ × ℕ)) → option_map (λ (t : ℕ × ℕ). t.0) (option_and_then (λ (t : ℕ × ℕ). cond (nat_lt now t.0) (Some t) None) o) ≡ option_and_then (λ at. cond (nat_lt now at) (Some at) None) (option_map (λ (t : ℕ × ℕ). t.0) o)
    at_it None = refl
    at_it (Some t) = on t (nat_lt now t.0)

-- with a timer that is set,
pub moment_of-with : (m n : ℕ) (at : Option ℕ) (ts : List (ℕ × ℕ)) → moment_of n (with_timer m at ts) ≡ cond (m == n) at (moment_of n ts)
moment_of-with m n at ts = ap (option_map (λ (t : ℕ × ℕ). t.0)) (timer_of-with m n at ts) ∙ at_it (m == n) at
  where
    at_it : (b : Bool) (o : Option ℕ) → option_map (λ (t : ℕ × ℕ). t.0) (cond b (option_map (λ a. (a, m)) o) (timer_of n ts)) ≡ cond b o (moment_of n ts)
    at_it true None = refl
    at_it true (Some a) = refl
    at_it false o = refl

no_moment : (b : Bool) (o : Option ℕ) → o ≡ cond b o o
no_moment true o = refl
no_moment false o = refl

-- and with numbers that are kept
pub moment_of-kept : (kept : ℕ → Bool) (n : ℕ) (ts : List (ℕ × ℕ)) → moment_of n (filter (λ t. kept t.1) ts) ≡ cond (kept n) (moment_of n ts) None
moment_of-kept kept n [] = no_moment (kept n) None
moment_of-kept kept n (u ∷ us) = step (u.1 == n) refl (kept u.1) refl (moment_of-kept kept n us)
  where
    moment : Option (ℕ × ℕ) → Option ℕ
    moment o = option_map (λ t. t.0) o

    step : (b : Bool) → (u.1 == n) ≡ b → (c : Bool) → kept u.1 ≡ c → moment_of n (filter (λ t. kept t.1) us) ≡ cond (kept n) (moment_of n us) None
        → moment_of n (cond c (u ∷ filter (λ t. kept t.1) us) (filter (λ t. kept t.1) us)) ≡ cond (kept n) (moment (cond b (Some u) (timer_of n us))) None
    step true is true stays later =
        let number : u.1 ≡ n = grind (arith, nat_tests) in
        ap (λ (x : Bool). moment (cond x (Some u) (timer_of n (filter (λ t. kept t.1) us)))) is ∙ sym (ap (λ (x : Bool). cond x (Some u.0) None) (ap kept (sym number) ∙ stays))
    step true is false goes later =
        let number : u.1 ≡ n = grind (arith, nat_tests) in
        let none : kept n ≡ false = ap kept (sym number) ∙ goes in
        later ∙ ap (λ (x : Bool). cond x (moment_of n us) None) none ∙ sym (ap (λ (x : Bool). cond x (Some u.0) None) none)
    step false is true stays later = ap (λ (x : Bool). moment (cond x (Some u) (timer_of n (filter (λ t. kept t.1) us)))) is ∙ later
    step false is false goes later = later

-- how many there are with one more,
pub length-inserted : (comes_before : (ℕ × ℕ) → (ℕ × ℕ) → Bool) (t : ℕ × ℕ) (ts : List (ℕ × ℕ)) → length (inserted_by comes_before t ts) ≡ length ts + 1
length-inserted comes_before t [] = refl
length-inserted comes_before t (u ∷ us) =
    let later = length-inserted comes_before t us in
    elim (comes_before u t) as (λ b. length (if b then u ∷ inserted_by comes_before t us else t ∷ u ∷ us) ≡ length (u ∷ us) + 1) [
      | true ↦ omega (arith, later)
      | false ↦ omega arith
    ]

-- and that a number that has a timer takes one away
pub length-without : (n : ℕ) (ts : List (ℕ × ℕ)) (t : ℕ × ℕ) → HasEachNumberOnce ts → timer_of n ts ≡ Some t → length (without n ts) + 1 ≡ length ts
length-without n [] t once found = absurd (cc)
length-without n (u ∷ us) t once found = step (u.1 == n) refl found (λ found'. length-without n us t once.1 found')
  where
    step : (b : Bool) → (u.1 == n) ≡ b → cond b (Some u) (timer_of n us) ≡ Some t → (timer_of n us ≡ Some t → length (without n us) + 1 ≡ length us) → length (cond (not b) (u ∷ without n us) (without n us)) + 1 ≡ length (u ∷ us)
    step true is found' later =
        let number : u.1 ≡ n = grind (arith, nat_tests) in
        let others : without n us ≡ us = without-absent n us (subst (λ (k : ℕ). All (λ v. v.1 ≢ k) us) number once.0) in
        omega (arith, ap length others)
    step false is found' later = omega (arith, later found')

-- each number once stays so
pub HasEachNumberOnce-inserted : (comes_before : (ℕ × ℕ) → (ℕ × ℕ) → Bool) (t : ℕ × ℕ) (ts : List (ℕ × ℕ)) → All (λ u. u.1 ≢ t.1) ts → HasEachNumberOnce ts → HasEachNumberOnce (inserted_by comes_before t ts)
HasEachNumberOnce-inserted comes_before t [] all once = (All-nil (λ u. u.1 ≢ t.1), tt)
HasEachNumberOnce-inserted comes_before t (u ∷ us) all once =
    let others : HasEachNumberOnce (inserted_by comes_before t us) = HasEachNumberOnce-inserted comes_before t us (All-tail (λ v. v.1 ≢ t.1) u us all) once.1 in
    let other : u.1 ≢ t.1 = All-head (λ v. v.1 ≢ t.1) u us all in
    elim (comes_before u t) as (λ b. HasEachNumberOnce (if b then u ∷ inserted_by comes_before t us else t ∷ u ∷ us)) [
      | true ↦ (All-inserted comes_before (λ v. v.1 ≢ u.1) t us (λ same. other (sym same)) once.0, others)
      | false ↦ (all, once)
    ]

pub HasEachNumberOnce-filter : (test : (ℕ × ℕ) → Bool) (ts : List (ℕ × ℕ)) → HasEachNumberOnce ts → HasEachNumberOnce (filter test ts)
HasEachNumberOnce-filter test [] once = tt
HasEachNumberOnce-filter test (t ∷ ts) once =
    let others : HasEachNumberOnce (filter test ts) = HasEachNumberOnce-filter test ts once.1 in
    elim (test t) as (λ b. HasEachNumberOnce (if b then t ∷ filter test ts else filter test ts)) [
      | true ↦ (All-filter test (λ u. u.1 ≢ t.1) ts once.0, others)
      | false ↦ others
    ]

-- in order of numbers each number stands once
pub rising_once : (ts : List (ℕ × ℕ)) → IsRising has_less ts → HasEachNumberOnce ts
rising_once [] rising = tt
rising_once (t ∷ ts) rising = (All-weaker (λ u. has_less t u ≡ true) (λ u. u.1 ≢ t.1) (λ u less same. grind (arith, nat_tests)) ts rising.0, rising_once ts rising.1)

-- to take out the timer at a place is to be without its number
pub remove-is : (ts : List (ℕ × ℕ)) (i : ℕ) (d : ℕ × ℕ) (n : ℕ) → HasEachNumberOnce ts → i < length ts → (get_or ts i d).1 ≡ n → remove ts i ≡ without n ts
remove-is [] i d n once within is = absurd (omega arith)
remove-is (u ∷ us) zero d n once within is =
    let here : (u.1 == n) ≡ true = grind (arith, nat_tests) in
    rw here (sym (without-absent n us (subst (λ (k : ℕ). All (λ v. v.1 ≢ k) us) is once.0)))
remove-is (u ∷ us) (suc i) d n once within is =
    let other : (get_or us i d).1 ≢ u.1 = once.0 i d (omega arith) in
    let here : (u.1 == n) ≡ false = grind (arith, nat_tests) in
    rw here (ap (λ (r : List (ℕ × ℕ)). u ∷ r) (remove-is us i d n once.1 (omega arith) is))

-- what a search by the number finds
pub found_at : (ts : List (ℕ × ℕ)) (i : ℕ) (d : ℕ × ℕ) (n : ℕ) → Parts (λ u. nat_lt u.1 n) ts i → i < length ts → (get_or ts i d).1 ≡ n → timer_of n ts ≡ Some (get_or ts i d)
found_at [] i d n parts within is = absurd (omega arith)
found_at (u ∷ us) zero d n parts within is = let here : (u.1 == n) ≡ true = grind (arith, nat_tests) in rw here refl
found_at (u ∷ us) (suc i) d n parts within is =
    let less : nat_lt u.1 n ≡ true = Parts-later (λ v. nat_lt v.1 n) u us i parts in
    let here : (u.1 == n) ≡ false = grind (arith, nat_tests) in
    rw here (found_at us i d n (Parts-tail (λ v. nat_lt v.1 n) u us i parts) (omega arith) is)

pub absent_at : (ts : List (ℕ × ℕ)) (i : ℕ) (d : ℕ × ℕ) (n : ℕ) → IsRising has_less ts → Parts (λ u. nat_lt u.1 n) ts i → (i < length ts → (get_or ts i d).1 ≢ n) → timer_of n ts ≡ None
absent_at [] i d n rising parts other = refl
absent_at (u ∷ us) zero d n rising parts other =
    let not_less : nat_lt u.1 n ≡ false = Parts-first (λ v. nat_lt v.1 n) u us parts in
    let differs : u.1 ≢ n = other (omega arith) in
    all_absent n (u ∷ us) (All-cons (λ v. v.1 ≢ n) u us differs (All-weaker (λ v. has_less u v ≡ true) (λ v. v.1 ≢ n) (λ v less same. grind (arith, nat_tests)) us rising.0))
absent_at (u ∷ us) (suc i) d n rising parts other =
    let less : nat_lt u.1 n ≡ true = Parts-later (λ v. nat_lt v.1 n) u us i parts in
    let here : (u.1 == n) ≡ false = grind (arith, nat_tests) in
    rw here (absent_at us i d n rising.1 (Parts-tail (λ v. nat_lt v.1 n) u us i parts) (λ below. other (omega arith)))

-- where a search by the moment finds the timer of a number
pub record StandsAt (ts : List (ℕ × ℕ)) (i : ℕ) (t : ℕ × ℕ) : Type 0 where
  pub within : i < length ts
  pub is : get_or ts i t ≡ t

pub stands_at : (ts : List (ℕ × ℕ)) (i : ℕ) (t : ℕ × ℕ) (n : ℕ) → IsRising is_before ts → timer_of n ts ≡ Some t → Parts (λ u. is_before u t) ts i → StandsAt ts i t
stands_at [] i t n rising found parts = absurd (cc)
stands_at (u ∷ us) zero t n rising found parts =
    let not_before : is_before u t ≡ false = Parts-first (λ v. is_before v t) u us parts in
    step (u.1 == n) found not_before
  where
    step : (b : Bool) → cond b (Some u) (timer_of n us) ≡ Some t → is_before u t ≡ false → StandsAt (u ∷ us) 0 t
    step true found' not_before = record { within = omega arith; is = cc }
    step false found' not_before = let before : is_before u t ≡ true = timer_of-All (λ v. is_before u v ≡ true) n us t found' rising.0 in absurd (cc)
stands_at (u ∷ us) (suc i) t n rising found parts =
    let before : is_before u t ≡ true = Parts-later (λ v. is_before v t) u us i parts in
    let later : timer_of n us ≡ Some t → StandsAt us i t = λ found'. stands_at us i t n rising.1 found' (Parts-tail (λ v. is_before v t) u us i parts) in
    step (u.1 == n) found before later
  where
    step : (b : Bool) → cond b (Some u) (timer_of n us) ≡ Some t → is_before u t ≡ true → (timer_of n us ≡ Some t → StandsAt us i t) → StandsAt (u ∷ us) (suc i) t
    step true found' before later = let one : u ≡ t = cc in let itself : is_before t t ≡ true = subst (λ (v : ℕ × ℕ). is_before v t ≡ true) one before in absurd (let never : is_before t t ≡ false = before-itself t in cc)
    step false found' before later = let stands : StandsAt us i t = later found' in record { within = omega (arith, stands.within); is = stands.is }
