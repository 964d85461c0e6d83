-- What stands at the same places of two lists.
use Rattle.std.specs.Prelude.{◌≡◌, ℕ, ◌+◌, ◌^◌, ◌<◌, List, length, slice_get, Some}

module _ {A B : Type 0} where
  -- The lists have as many places, which are counted from this one on, and what stands at each can be worked on.
  pub record CanBeWorkedOn (can : ℕ → A → B → Type 0) (place : ℕ) (firsts : List A) (seconds : List B) : Type 0 where
    pub both : length seconds ≡ length firsts
    pub room : place + length firsts < 2 ^ 64
    pub each : (k : ℕ) (first : A) (second : B) → slice_get firsts k ≡ Some first → slice_get seconds k ≡ Some second → can (place + k) first second

  -- what stood at each place was worked on, and left what stands there then
  pub record IsWorkedOn (works : ℕ → A → B → A → B → Type 0) (place : ℕ) (firsts : List A) (seconds : List B) (firsts' : List A) (seconds' : List B) : Type 0 where
    pub firsts_stay : length firsts' ≡ length firsts
    pub seconds_stay : length seconds' ≡ length seconds
    pub each :
        (k : ℕ) (first : A) (second : B) (first' : A) (second' : B) → slice_get firsts k ≡ Some first → slice_get seconds k ≡ Some second
        → slice_get firsts' k ≡ Some first' → slice_get seconds' k ≡ Some second' → works (place + k) first second first' second'
