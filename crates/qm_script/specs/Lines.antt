-- Parts of a text, without where they lie in memory.
use Rattle.std.specs.Prelude.{ℕ, List}
use Rattle.std.specs.Borrow.{Bor}

abbrev pub parts_view : Bor (List ℕ) × Bor (List ℕ) → List ℕ × List ℕ
parts_view parts = (parts.0.now, parts.1.now)
