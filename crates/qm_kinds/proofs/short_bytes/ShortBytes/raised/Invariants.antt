use Rattle.std.proofs.Common.{◌≡◌, map, take, length}
use Rattle.std.specs.Char.{to_ascii_uppercase}
use Rattle.qm_kinds.proofs.short_bytes.ShortBytes.raised.Given as goal

-- the bytes so far are raised
abbrev pub invariant-loop-i : goal.invariant-loop-i
invariant-loop-i g l = (length l.raised ≡ g.row.CAP) × (take l.i l.raised ≡ map to_ascii_uppercase (take l.i l.text))
