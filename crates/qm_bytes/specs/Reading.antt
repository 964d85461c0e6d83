-- Reading from left to right, to the first byte with which no spelling goes on.
use Rattle.std.specs.Prelude.{◌≡◌, ℕ, zero, suc, ◌+◌, ◌-◌, ◌*◌, ◌/◌, ◌^◌, ◌==◌, ◌&&◌, nat_le, min, Bool, if◌then◌else◌, List, [], ◌∷◌, length, Option, Some, None, Result, Ok, Err}
use Rattle.qm_kinds.specs.Text.{is_name_byte}
use Rattle.qm_kinds.specs.declared.file.FileName.{FileName}
use Rattle.qm_kinds.specs.declared.form.CharacteristicSet.{CharacteristicSet}
use Rattle.qm_kinds.specs.declared.moment.TheConstants.{LAST_MOMENT}
use Rattle.qm_bytes.specs.declared.fault.BadField.{BadField}

-- A value and the bytes behind it, or how many bytes are left where no spelling goes on.
abbrev pub Reader : Type 0 → Type 0
Reader A = List ℕ → Result (A × List ℕ) ℕ

-- what was found, and then the rest
abbrev pub onward : {A B : Type 0} → Result (A × List ℕ) ℕ → (A → Reader B) → Result (B × List ℕ) ℕ
onward (Ok x) next = next x.0 x.1
onward (Err left) next = Err left

infixl 10 ◌>>=◌
abbrev pub ◌>>=◌ : {A B : Type 0} → Reader A → (A → Reader B) → Reader B
(read >>= next) bytes = onward (read bytes) next

abbrev pub pure : {A : Type 0} → A → Reader A
pure x bytes = Ok (x, bytes)

-- What a function returned, and the bytes that it left, are what reading gives.
abbrev pub Gives : {A : Type 0} → Result A BadField → List ℕ → Result (A × List ℕ) ℕ → Type 0
Gives (Ok x) rest read = read ≡ Ok (x, rest)
Gives (Err fault) rest read = read ≡ Err fault.left

-- the same of a function that returns the rest
abbrev pub Splits : {X A : Type 0} → (X → A) → Result X BadField → Result A ℕ → Type 0
Splits view (Ok x) read = read ≡ Ok (view x)
Splits view (Err fault) read = read ≡ Err fault.left

-- something is read, and these bytes are left
abbrev pub IsThere : {A : Type 0} → List ℕ → Result (A × List ℕ) ℕ → Type 0
IsThere {A} rest read = (x : A) × (read ≡ Ok (x, rest))

-- The same of a value that takes memory. Where that ran out, the value's text was read all the same.
abbrev pub GivesKept : {A E : Type 0} → Result (Result A E) BadField → List ℕ → Result (A × List ℕ) ℕ → Type 0
GivesKept (Ok (Ok x)) rest read = read ≡ Ok (x, rest)
GivesKept (Ok (Err no_memory)) rest read = IsThere rest read
GivesKept (Err fault) rest read = read ≡ Err fault.left

-- a byte that passes
abbrev pub byte_where : (ℕ → Bool) → Reader ℕ
byte_where test [] = Err 0
byte_where test (b ∷ bytes) = if test b then Ok (b, bytes) else Err (suc (length bytes))

abbrev pub between : ℕ → ℕ → ℕ → Bool
between low high b = nat_le low b && nat_le b high

-- so many in a row
unfoldable pub repeat_at : {A : Type 0} → Reader A → ℕ → Reader (List A)
repeat_at read zero = pure []
repeat_at read (suc count) = do
  first ← read
  others ← repeat_at read count
  pure (first ∷ others)

-- A number of so many bytes, the lowest first, that is at most a limit. It stops at the first byte that makes it
-- greater, whatever stands behind.
unfoldable pub number_up_to : ℕ → ℕ → Reader ℕ
number_up_to zero limit = pure 0
number_up_to (suc count) limit = do
  low ← byte_where (between 0 (min limit 255))
  high ← number_up_to count ((limit - low) / 256)
  pure (low + 256 * high)

-- any number of so many bytes
abbrev pub number_at : ℕ → Reader ℕ
number_at count = number_up_to count (256 ^ count - 1)

unfoldable pub truth_at : Reader Bool
truth_at = do
  b ← byte_where (between 0 1)
  pure (b == 1)

unfoldable pub optional_at : {A : Type 0} → Reader A → Reader (Option A)
optional_at read = do
  b ← byte_where (between 0 1)
  if b == 0 then pure None else (read >>= λ x. pure (Some x))

unfoldable pub list_at : {A : Type 0} → Reader A → Reader (List A)
list_at read = do
  count ← number_at 2
  repeat_at read count

unfoldable pub bytes_at : ℕ → Reader (List ℕ)
bytes_at count = repeat_at (byte_where (between 0 255)) count

unfoldable pub long_bytes_at : Reader (List ℕ)
long_bytes_at = do
  count ← number_at 4
  bytes_at count

unfoldable pub mark_at : Reader (List ℕ)
mark_at = do
  count ← byte_where (between 0 255)
  bytes_at count

unfoldable pub name_bytes_at : ℕ → Reader (List ℕ)
name_bytes_at count = repeat_at (byte_where is_name_byte) count

unfoldable pub name_at : Reader (List ℕ)
name_at = do
  count ← byte_where (between 1 39)
  name_bytes_at count

unfoldable pub file_name_at : Reader FileName
file_name_at = do
  name ← name_at
  extension ← optional_at name_at
  pure (record { name = name; extension = extension })

unfoldable pub set_at : Reader CharacteristicSet
set_at = do
  low ← number_at 8
  high ← number_at 8
  pure (record { 0 = low + 2 ^ 64 * high })

unfoldable pub moment_at : Reader ℕ
moment_at = number_up_to 8 LAST_MOMENT
