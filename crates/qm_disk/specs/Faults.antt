-- How often calls of the outside failed.
use Rattle.std.specs.Prelude.{◌≡◌, ℕ, ◌+◌, ◌-◌, ◌^◌, List, min}

-- one more, or the same at the end of the type
abbrev pub counted : ℕ → ℕ
counted n = min (n + 1) (2 ^ 64 - 1)

-- Where a fault is told one call failed, and where none is told none did: no fault is hidden or tried again.
pub record Tells (old new : ℕ) (told : Type 0) : Type 0 where
  pub fault : told → new ≡ counted old
  pub quiet : (told → ⊥) → new ≡ old

-- the calls of a form in memory: which fail by their number, how many there were, and how many failed
pub record HeldCalls : Type 0 where
  pub fail : List ℕ
  pub made : ℕ
  pub faults : ℕ
