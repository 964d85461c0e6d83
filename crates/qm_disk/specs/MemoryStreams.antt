-- A source and a sink in memory, as their callers see them.
use Rattle.std.specs.Prelude.{ℕ, List}

-- the bytes left, and the calls: which fail by their number, how many there were, and how many failed
pub record HeldSource : Type 0 where
  pub left : List ℕ
  pub fail : List ℕ
  pub calls : ℕ
  pub faults : ℕ

-- the bytes taken, and the same of the calls
pub record HeldSink : Type 0 where
  pub taken : List ℕ
  pub fail : List ℕ
  pub calls : ℕ
  pub faults : ℕ
