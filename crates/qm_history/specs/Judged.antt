-- How files are read: in one way, so that what is said of them can't be two things at once.
use Rattle.std.specs.Prelude.{◌≡◌, ℕ, List}
use Rattle.qm_glog.specs.Records.{IsLog, IsDamaged}

-- a file is at most one log, and none where it is broken, which it is at one place at most
pub record ReadsOneWay : Type 0 where
  pub logs : (file : List ℕ) (a b : List (List ℕ)) → IsLog file a → IsLog file b → a ≡ b
  pub sound : (file : List ℕ) (a : List (List ℕ)) (place : ℕ) → IsLog file a → IsDamaged file place → ⊥
  pub place : (file : List ℕ) (p q : ℕ) → IsDamaged file p → IsDamaged file q → p ≡ q
