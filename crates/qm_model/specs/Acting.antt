-- When a request acts.
use Rattle.std.specs.Prelude.{ℕ, max}
use Rattle.qm_kinds.specs.declared.system.System.{System}

-- the moment at which a request acts on a system: what its node's clock told, or the last change where that is later
abbrev pub acting : ℕ → System → ℕ
acting reading s = max reading s.last
