-- Texts that have the same bytes in front.
use Rattle.std.specs.Prelude.{◌≡◌, ◌≤◌, ℕ, List, slice_get}

-- the bytes of two texts are the same up to a place and at it, or both texts end in front of it
pub record SameUpTo (place : ℕ) (text other : List ℕ) : Type 0 where
  pub each : (k : ℕ) → k ≤ place → slice_get text k ≡ slice_get other k
