-- Which entries go together.
use Rattle.std.specs.Prelude.{Bool, bytes_eq}
use Rattle.qm_model.specs.Common.{Entry, is_over}
use Rattle.qm_ending.specs.declared.leaving.Leaving.{Leaving}
use Rattle.qm_ending.specs.declared.leaving.Leaving.TheVariants.{Over, Of}

-- the entry is retained until a moment that has come, or has the queue as its home
abbrev pub goes : Leaving → Entry → Bool
goes (Over now) e = is_over now e.state
goes (Of home) e = bytes_eq e.home home.now
