-- What clocks tell.
-- OpenVMS Programming Concepts, on the system time, which counts from 17-NOV-1858.
use Rattle.std.specs.Prelude.{ℕ, ◌+◌, ◌*◌, ◌/◌, nat_le, if◌then◌else◌, List, [], ◌∷◌, Option, None, Some}
use Rattle.qm_kinds.specs.declared.moment.TheConstants.{LAST_MOMENT}

-- a clock in memory, as its callers see it: the moments that it told, and those to come, of which it tells the last one for ever
pub record HeldClock : Type 0 where
  pub told : List ℕ
  pub ahead : List ℕ

-- the moments to come behind the next one
abbrev pub behind_next : List ℕ → List ℕ
behind_next [] = []
behind_next (last ∷ []) = last ∷ []
behind_next (next ∷ second ∷ rest) = second ∷ rest

-- 1-JAN-1970, in hundredths of a second: 40,587 days behind the base of the system time
abbrev pub unix_epoch : ℕ
unix_epoch = 40587 * 8640000

-- a moment, where it isn't behind the last one
abbrev pub if_moment : ℕ → Option ℕ
if_moment hundredths = if nat_le hundredths LAST_MOMENT then Some hundredths else None

-- the moment so many nanoseconds behind 1-JAN-1970
abbrev pub moment_since_1970 : ℕ → Option ℕ
moment_since_1970 nanoseconds = if_moment (nanoseconds / 10000000 + unix_epoch)
