-- How a row is kept.
use Rattle.std.specs.Prelude.{◌≡◌, ℕ, ◌+◌, ◌≤◌, true, false, List, length}
use Rattle.std.specs.List.{AllWithin}
use Rattle.qm_match.specs.declared.order.Key.{Key}
use Rattle.qm_match.specs.declared.order.Schedule.{Schedule}
use Rattle.qm_match.specs.Keys.{comes_before}
use Rattle.qm_ready.specs.Rows.{IsRow}

-- the keys are a row, and there is room for them and for those that are to come
pub record IsKept (schedule : Schedule) (keys : List Key) (spare capacity : ℕ) : Type 0 where
  pub row : IsRow schedule keys
  pub room : length keys + spare ≤ capacity

-- the place between the keys that come before one and those that don't
pub record IsPlaceOf (schedule : Schedule) (key : Key) (keys : List Key) (place : ℕ) : Type 0 where
  pub within : place ≤ length keys
  pub before : AllWithin (λ k. comes_before schedule k key ≡ true) keys 0 place
  pub behind : AllWithin (λ k. comes_before schedule k key ≡ false) keys place (length keys)
