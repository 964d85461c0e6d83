-- What the calls of timers keep.
use Rattle.std.proofs.Common.{◌≡◌, ◌≢◌, ℕ, ◌+◌, ◌≤◌, ◌==◌, Bool, true, false, not, cond, List, [], ◌∷◌, length, get_or, Option, Some, None, is_some, refl, sym, ◌∙◌, ap, arith, All, remove, filter, option_map, option_and_then}
use Rattle.std.proofs.lemmas.Bool.Decides.{nat_tests}
use Rattle.std.proofs.lemmas.List.Elements.{All-weaker}
use Rattle.qm_tables.specs.Timers.{Waiting, is_before, IsInOrder, IsRising, HasEachNumberOnce, timer_of, inserted_by, with_timer, without}
use Rattle.qm_tables.specs.TimersKept.{has_less, AreKept, Parts, IsTimerAt}
use Rattle.qm_tables.proofs.TimerOrders.{before-trans, before-other, less-trans, less-other, IsRising-inserted, IsRising-filter}
use Rattle.qm_tables.proofs.TimersDetermined.{determined, first_has}
use Rattle.qm_tables.proofs.TimerNumbers.{absent_all, timer_of-number, timer_of-inserted, timer_of-without, timer_of-gone, timer_of-with, timer_of-filter, length-without, without-absent, HasEachNumberOnce-inserted, HasEachNumberOnce-filter, rising_once, remove-is, StandsAt, stands_at}

-- timers and spare places
abbrev pub waiting : List (ℕ × ℕ) → ℕ → Waiting
waiting ts n = record { timers = ts; spare = n }

-- no timers
pub kept_none : AreKept [] []
kept_none = record { in_order = record { rising = tt; once = tt }; rising = tt; same = λ n. refl }

-- one timer more
pub kept_inserted : (xs ys : List (ℕ × ℕ)) (t : ℕ × ℕ) → AreKept xs ys → timer_of t.1 xs ≡ None → AreKept (inserted_by is_before t xs) (inserted_by has_less t ys)
kept_inserted xs ys t kept absent =
    let others_x : All (λ u. u.1 ≢ t.1) xs = absent_all t.1 xs absent in
    let others_y : All (λ u. u.1 ≢ t.1) ys = absent_all t.1 ys (kept.same t.1 ∙ absent) in
    record {
      in_order = record {
        rising = IsRising-inserted is_before before-trans t xs (All-weaker (λ u. u.1 ≢ t.1) (λ u. is_before u t ≡ false → is_before t u ≡ true) (λ u other. before-other t u other) xs others_x) kept.in_order.rising;
        once = HasEachNumberOnce-inserted is_before t xs others_x kept.in_order.once;
      };
      rising = IsRising-inserted has_less less-trans t ys (All-weaker (λ u. u.1 ≢ t.1) (λ u. has_less u t ≡ false → has_less t u ≡ true) (λ u other. less-other t u other) ys others_y) kept.rising;
      same = λ n. timer_of-inserted has_less t ys others_y n ∙ ap (λ (r : Option (ℕ × ℕ)). cond (t.1 == n) (Some t) r) (kept.same n) ∙ sym (timer_of-inserted is_before t xs others_x n);
    }

-- one less
pub kept_without : (xs ys : List (ℕ × ℕ)) (n : ℕ) → AreKept xs ys → AreKept (without n xs) (without n ys)
kept_without xs ys n kept = record {
  in_order = record {
    rising = IsRising-filter is_before (λ t. not (t.1 == n)) xs kept.in_order.rising;
    once = HasEachNumberOnce-filter (λ t. not (t.1 == n)) xs kept.in_order.once;
  };
  rising = IsRising-filter has_less (λ t. not (t.1 == n)) ys kept.rising;
  same = λ k. timer_of-without k n ys ∙ ap (λ (r : Option (ℕ × ℕ)). cond (n == k) None r) (kept.same k) ∙ sym (timer_of-without k n xs);
}

-- some of them
pub kept_passing : (test : (ℕ × ℕ) → Bool) (xs ys : List (ℕ × ℕ)) → AreKept xs ys → AreKept (filter test xs) (filter test ys)
kept_passing test xs ys kept = record {
  in_order = record {
    rising = IsRising-filter is_before test xs kept.in_order.rising;
    once = HasEachNumberOnce-filter test xs kept.in_order.once;
  };
  rising = IsRising-filter has_less test ys kept.rising;
  same = λ n. timer_of-filter test n ys (rising_once ys kept.rising) ∙ ap (λ (o : Option (ℕ × ℕ)). option_and_then (λ t. cond (test t) (Some t) None) o) (kept.same n) ∙ sym (timer_of-filter test n xs kept.in_order.once);
}

-- both lists have as many
first_gone : (x : ℕ × ℕ) (xs : List (ℕ × ℕ)) → All (λ u. u.1 ≢ x.1) xs → without x.1 (x ∷ xs) ≡ xs
first_gone x xs once = let here : (x.1 == x.1) ≡ true = grind (arith, nat_tests) in rw here (without-absent x.1 xs once)

as_many : (xs ys : List (ℕ × ℕ)) → HasEachNumberOnce xs → HasEachNumberOnce ys → ((n : ℕ) → timer_of n ys ≡ timer_of n xs) → length ys ≡ length xs
as_many [] [] once_x once_y same = refl
as_many [] (y ∷ ys) once_x once_y same = let none : None ≡ Some y = sym (same y.1) ∙ first_has y ys in absurd (cc)
as_many (x ∷ xs) ys once_x once_y same =
    let found : timer_of x.1 ys ≡ Some x = same x.1 ∙ first_has x xs in
    let others : (n : ℕ) → timer_of n (without x.1 ys) ≡ timer_of n xs =
    λ n. timer_of-without n x.1 ys ∙ ap (λ (o : Option (ℕ × ℕ)). cond (x.1 == n) None o) (same n) ∙ sym (timer_of-without n x.1 (x ∷ xs)) ∙ ap (timer_of n) (first_gone x xs once_x.0) in
    let rest : length (without x.1 ys) ≡ length xs = as_many xs (without x.1 ys) once_x.1 (HasEachNumberOnce-filter (λ t. not (t.1 == x.1)) ys once_y) others in
    omega (arith, rest, length-without x.1 ys x once_y found)

pub same_length : (xs ys : List (ℕ × ℕ)) → AreKept xs ys → length ys ≡ length xs
same_length xs ys kept = as_many xs ys kept.in_order.once (rising_once ys kept.rising) kept.same

-- where a number has the timer that it is to have, nothing changes
module _ (ts : List (ℕ × ℕ)) (in_order : IsInOrder ts) (n : ℕ) where
  pub IsInOrder-without : IsInOrder (without n ts)
  IsInOrder-without = record { rising = IsRising-filter is_before (λ t. not (t.1 == n)) ts in_order.rising; once = HasEachNumberOnce-filter (λ t. not (t.1 == n)) ts in_order.once }

  pub IsInOrder-with : (at : Option ℕ) → IsInOrder (with_timer n at ts)
  IsInOrder-with None = IsInOrder-without
  IsInOrder-with (Some a) =
      let others : All (λ u. u.1 ≢ n) (without n ts) = absent_all n (without n ts) (timer_of-gone n ts) in
      record {
        rising = IsRising-inserted is_before before-trans (a, n) (without n ts) (All-weaker (λ u. u.1 ≢ n) (λ u. is_before u (a, n) ≡ false → is_before (a, n) u ≡ true) (λ u other. before-other (a, n) u other) (without n ts) others) IsInOrder-without.rising;
        once = HasEachNumberOnce-inserted is_before (a, n) (without n ts) others IsInOrder-without.once;
      }

  pub with_same : (at : Option ℕ) → option_map (λ t. t.0) (timer_of n ts) ≡ at → ts ≡ with_timer n at ts
  with_same at is =
      let set = IsInOrder-with at in
      determined ts (with_timer n at ts) in_order.rising in_order.once set.rising set.once (λ m. sym (timer_of-with n m at ts ∙ at_it m (n == m) refl))
    where
      whole : (o : Option (ℕ × ℕ)) → timer_of n ts ≡ o → option_map (λ (t : ℕ × ℕ). t.0) o ≡ at → option_map (λ a. (a, n)) at ≡ o
      whole None found same = ap (λ (o : Option ℕ). option_map (λ a. (a, n)) o) (sym same)
      whole (Some t) found same =
          let number : t.1 ≡ n = timer_of-number n ts t found in
          ap (λ (o : Option ℕ). option_map (λ a. (a, n)) o) (sym same) ∙ ap (λ (k : ℕ). Some (t.0, k)) (sym number)

      at_it : (m : ℕ) (b : Bool) → (n == m) ≡ b → cond b (option_map (λ a. (a, n)) at) (timer_of m ts) ≡ timer_of m ts
      at_it m true same = let one : n ≡ m = grind (arith, nat_tests) in whole (timer_of n ts) refl is ∙ ap (λ (k : ℕ). timer_of k ts) one
      at_it m false same = refl

-- where a number has no timer nothing goes
pub without_none : (xs ys : List (ℕ × ℕ)) (n : ℕ) → AreKept xs ys → timer_of n ys ≡ None → xs ≡ without n xs
without_none xs ys n kept none = sym (without-absent n xs (absent_all n xs (sym (kept.same n) ∙ none)))

-- behind a removal the number has no timer
pub gone : (ts : List (ℕ × ℕ)) (n : ℕ) → timer_of n (without n ts) ≡ None
gone ts n = let same : (n == n) ≡ true = grind (arith, nat_tests) in timer_of-without n n ts ∙ ap (λ b. cond b None (timer_of n ts)) same

-- the timer of a number is taken out where it stands among the numbers,
pub remove_by_number : (ys : List (ℕ × ℕ)) (i n : ℕ) → IsRising has_less ys → IsTimerAt n ys i → remove ys i ≡ without n ys
remove_by_number ys i n rising at = remove-is ys i (0, 0) n (rising_once ys rising) at.within (timer_of-number n ys (get_or ys i (0, 0)) (at.has (0, 0)))

-- and where it stands among the moments
module _ (xs ys : List (ℕ × ℕ)) (i j n : ℕ) (t : ℕ × ℕ) (kept : AreKept xs ys) (at : IsTimerAt n ys i) (is : t ≡ get_or ys i t) (parts : Parts (λ u. is_before u t) xs j) where
  pub has_timer : timer_of n xs ≡ Some t
  has_timer = sym (kept.same n) ∙ at.has t ∙ ap (λ (u : ℕ × ℕ). Some u) (sym is)

  pub stands : StandsAt xs j t
  stands = stands_at xs j t n kept.in_order.rising has_timer parts

  pub remove_by_moment : remove xs j ≡ without n xs
  remove_by_moment = remove-is xs j t n kept.in_order.once stands.within (ap (λ (u : ℕ × ℕ). u.1) stands.is ∙ timer_of-number n xs t has_timer)

-- room grows by what goes
pub room_without : (n : ℕ) (ts : List (ℕ × ℕ)) (b : Bool) (spare new : ℕ) → HasEachNumberOnce ts → b ≡ is_some (timer_of n ts) → new ≡ cond b (spare + 1) spare → new + length (without n ts) ≡ spare + length ts
room_without n ts b spare new once found is = step (timer_of n ts) refl
  where
    step : (o : Option (ℕ × ℕ)) → timer_of n ts ≡ o → new + length (without n ts) ≡ spare + length ts
    step None none =
        let same : new ≡ spare = is ∙ ap (λ (x : Bool). cond x (spare + 1) spare) (found ∙ ap is_some none) in
        omega (arith, same, ap length (without-absent n ts (absent_all n ts none)))
    step (Some t) some =
        let more : new ≡ spare + 1 = is ∙ ap (λ (x : Bool). cond x (spare + 1) spare) (found ∙ ap is_some some) in
        omega (arith, more, length-without n ts t once some)

pub no_less_room : (b : Bool) (spare new : ℕ) → new ≡ cond b (spare + 1) spare → spare ≤ new
no_less_room true spare new is = omega (arith, is)
no_less_room false spare new is = omega (arith, is)

-- what is seen of timers, by its parts
pub waiting_is : (xs ys : List (ℕ × ℕ)) (m n : ℕ) → xs ≡ ys → m ≡ n → waiting xs m ≡ waiting ys n
waiting_is xs ys m n same_timers same_spare = ap (λ (l : List (ℕ × ℕ)). waiting l m) same_timers ∙ ap (λ (k : ℕ). waiting ys k) same_spare
