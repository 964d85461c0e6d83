-- How many bytes a number has.
use Rattle.std.specs.Prelude.{ℕ}
use Rattle.qm_bytes.specs.declared.width.Width.{Width}
use Rattle.qm_bytes.specs.declared.width.Width.TheVariants.{One, Two, Four, Eight}

abbrev pub bytes_of : Width → ℕ
bytes_of One = 1
bytes_of Two = 2
bytes_of Four = 4
bytes_of Eight = 8
