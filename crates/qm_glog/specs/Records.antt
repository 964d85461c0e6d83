-- What a file of gated records stands for.
--
-- A record is the byte 1, which is its gate, the length of its body in four bytes, the least first, and the body.
-- Behind the last one stands a byte that isn't 1, the closed gate. What lies behind that doesn't count.
use Rattle.std.specs.Prelude.{◌≡◌, ◌≢◌, ◌⊎◌, ℕ, ◌+◌, ◌^◌, ◌<◌, List, [], ◌∷◌, ◌++◌, length, take}
use Rattle.std.specs.Int.{w32, to_le_bytes, from_le_bytes}

-- a record behind its gate
unfoldable pub behind_gate : List ℕ → List ℕ
behind_gate body = to_le_bytes w32 (length body) ++ body

-- open records of these bodies
abbrev pub text : List (List ℕ) → List ℕ
text [] = []
text (body ∷ bodies) = 1 ∷ behind_gate body ++ text bodies

-- how many bytes they take: five and the body's for each
abbrev pub size_of : List (List ℕ) → ℕ
size_of [] = 0
size_of (body ∷ bodies) = 5 + length body + size_of bodies

-- what the length of a record can say
abbrev pub Fit : List (List ℕ) → Type 0
Fit [] = Unit {0}
Fit (body ∷ bodies) = (length body < 2 ^ 32) × Fit bodies

-- the file is open records of these bodies, and then a closed gate
pub record IsLog (file : List ℕ) (bodies : List (List ℕ)) : Type 0 where
  pub gate : ℕ
  pub rest : List ℕ
  pub whole : file ≡ text bodies ++ gate ∷ rest
  pub shut : gate ≢ 1
  pub fit : Fit bodies

-- behind open records of these bodies the file has the byte 0
abbrev pub IsShutByZero : List ℕ → List (List ℕ) → Type 0
IsShutByZero file bodies = (rest : List ℕ) × (file ≡ text bodies ++ 0 ∷ rest)

-- the file begins with a whole record
abbrev pub BeginsWithRecord : List ℕ → Type 0
BeginsWithRecord file = (body : List ℕ) × (rest : List ℕ) × (length body < 2 ^ 32) × (file ≡ 1 ∷ (behind_gate body ++ rest))

-- no record and no closed gate: the file ends, or an open record runs past its end
abbrev pub IsBroken : List ℕ → Type 0
IsBroken [] = Unit {0}
IsBroken (gate ∷ rest) = (gate ≡ 1) × (length rest < 4 + from_le_bytes w32 (take 4 rest))

-- behind whole records, at this place, the file is broken
pub record IsDamaged (file : List ℕ) (place : ℕ) : Type 0 where
  pub bodies : List (List ℕ)
  pub rest : List ℕ
  pub whole : file ≡ text bodies ++ rest
  pub fit : Fit bodies
  pub place_is : place ≡ size_of bodies
  pub broken : IsBroken rest

-- the file is a log of these bodies, or of these and one more
abbrev pub IsBeforeOrAfter : List (List ℕ) → List ℕ → List ℕ → Type 0
IsBeforeOrAfter bodies body file = IsLog file bodies ⊎ IsLog file (bodies ++ body ∷ [])
