-- How timers are kept: once in order of moments, and once in order of numbers.
use Rattle.std.specs.Prelude.{◌≡◌, ℕ, ◌<◌, ◌≤◌, nat_lt, Bool, true, false, List, length, slice_index_or, Some}
use Rattle.std.specs.List.{AllWithin}
use Rattle.qm_tables.specs.Timers.{IsRising, IsInOrder, timer_of}

-- one has a lesser number than the other
abbrev pub has_less : (ℕ × ℕ) → (ℕ × ℕ) → Bool
has_less a b = nat_lt a.1 b.1

-- both lists are in order, and have the same timers
pub record AreKept (by_moment by_number : List (ℕ × ℕ)) : Type 0 where
  pub in_order : IsInOrder by_moment
  pub rising : IsRising has_less by_number
  pub same : (number : ℕ) → timer_of number by_number ≡ timer_of number by_moment

-- the place between the timers that pass a test and those that don't
pub record Parts (test : (ℕ × ℕ) → Bool) (ts : List (ℕ × ℕ)) (place : ℕ) : Type 0 where
  pub within : place ≤ length ts
  pub before : AllWithin (λ t. test t ≡ true) ts 0 place
  pub behind : AllWithin (λ t. test t ≡ false) ts place (length ts)

-- the timer of a number stands at this place
pub record IsTimerAt (number : ℕ) (ts : List (ℕ × ℕ)) (place : ℕ) : Type 0 where
  pub within : place < length ts
  pub has : (t : ℕ × ℕ) → timer_of number ts ≡ Some (slice_index_or ts place t)
