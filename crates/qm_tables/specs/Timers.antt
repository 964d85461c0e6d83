-- Timers, each a moment and the number that it is for: what their callers see, and what the calls make of it.
use Rattle.std.specs.Prelude.{◌≡◌, ◌≢◌, ◌⊎◌, ◌+◌, ℕ, ◌==◌, nat_lt, nat_le, Bool, true, ◌&&◌, ◌||◌, not, if◌then◌else◌, List, [], ◌∷◌, length, Option, None, Some, find, filter, All, Contains, option_map, option_and_then}

-- the timers in their order, and how many more have room
pub record Waiting : Type 0 where
  pub timers : List (ℕ × ℕ)
  pub spare : ℕ

-- one stands before the other: its moment comes first, or the moment is the same and its number is less
abbrev pub is_before : (ℕ × ℕ) → (ℕ × ℕ) → Bool
is_before a b = nat_lt a.0 b.0 || (a.0 == b.0 && nat_lt a.1 b.1)

-- each timer comes before all that stand behind it, in an order
abbrev pub IsRising : ((ℕ × ℕ) → (ℕ × ℕ) → Bool) → List (ℕ × ℕ) → Type 0
IsRising comes_before [] = Unit {0}
IsRising comes_before (t ∷ ts) = All (λ u. comes_before t u ≡ true) ts × IsRising comes_before ts

-- no number has two timers
abbrev pub HasEachNumberOnce : List (ℕ × ℕ) → Type 0
HasEachNumberOnce [] = Unit {0}
HasEachNumberOnce (t ∷ ts) = All (λ u. u.1 ≢ t.1) ts × HasEachNumberOnce ts

-- timers as they are kept
pub record IsInOrder (ts : List (ℕ × ℕ)) : Type 0 where
  pub rising : IsRising is_before ts
  pub once : HasEachNumberOnce ts

-- the timer of a number
abbrev pub timer_of : ℕ → List (ℕ × ℕ) → Option (ℕ × ℕ)
timer_of number ts = find (λ t. t.1 == number) ts

-- the moment for which a number has a timer, if it has one
abbrev pub moment_of : ℕ → List (ℕ × ℕ) → Option ℕ
moment_of number ts = option_map (λ t. t.0) (timer_of number ts)

-- the timers and one more, which stands before the first that doesn't come before it, in an order
abbrev pub inserted_by : ((ℕ × ℕ) → (ℕ × ℕ) → Bool) → (ℕ × ℕ) → List (ℕ × ℕ) → List (ℕ × ℕ)
inserted_by comes_before t [] = t ∷ []
inserted_by comes_before t (u ∷ us) = if comes_before u t then u ∷ inserted_by comes_before t us else t ∷ u ∷ us

-- the timers and one more, at its place
abbrev pub inserted : (ℕ × ℕ) → List (ℕ × ℕ) → List (ℕ × ℕ)
inserted t ts = inserted_by is_before t ts

-- the timers but that of a number
abbrev pub without : ℕ → List (ℕ × ℕ) → List (ℕ × ℕ)
without number ts = filter (λ t. not (t.1 == number)) ts

-- the timers with one of this number for a moment in place of any other, or with none of it
abbrev pub with_timer : ℕ → Option ℕ → List (ℕ × ℕ) → List (ℕ × ℕ)
with_timer number None ts = without number ts
with_timer number (Some at) ts = inserted (at, number) (without number ts)

-- the timers whose moment has come
abbrev pub due_at : ℕ → List (ℕ × ℕ) → List (ℕ × ℕ)
due_at now ts = filter (λ t. nat_le t.0 now) ts

-- the others
abbrev pub later_than : ℕ → List (ℕ × ℕ) → List (ℕ × ℕ)
later_than now ts = filter (λ t. nat_lt now t.0) ts

-- a moment that is still to come
abbrev pub still_to_come : ℕ → Option ℕ → Option ℕ
still_to_come now moment = option_and_then (λ at. if nat_lt now at then Some at else None) moment

-- the numbers whose moment has come have no timer any more, and the others keep theirs
abbrev pub KeepsLater : ℕ → List (ℕ × ℕ) → List (ℕ × ℕ) → Type 0
KeepsLater now old new = (number : ℕ) → moment_of number new ≡ still_to_come now (moment_of number old)

-- the numbers that are kept keep their timers, and the others have none any more
abbrev pub KeepsNumbers : (ℕ → Bool) → List (ℕ × ℕ) → List (ℕ × ℕ) → Type 0
KeepsNumbers kept old new = (number : ℕ) → moment_of number new ≡ (if kept number then moment_of number old else None)

-- one number has a timer for this moment, or none, and the others keep theirs
abbrev pub SetsMoment : ℕ → Option ℕ → List (ℕ × ℕ) → List (ℕ × ℕ) → Type 0
SetsMoment number at old new = (other : ℕ) → moment_of other new ≡ (if number == other then at else moment_of other old)

-- the room of timers that went is room for others
abbrev pub KeepsRoom : Waiting → Waiting → Type 0
KeepsRoom old new = new.spare + length new.timers ≡ old.spare + length old.timers

-- one of the timers, before all others
abbrev pub IsLeast : (ℕ × ℕ) → List (ℕ × ℕ) → Type 0
IsLeast t ts = Contains ts t × All (λ u. (u ≡ t) ⊎ (is_before t u ≡ true)) ts
