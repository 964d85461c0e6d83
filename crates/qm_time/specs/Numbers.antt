-- Numbers as they stand in a text: what stands at a place, or the place of the first byte with which it doesn't go on.
use Rattle.std.specs.Prelude.{ℕ, ◌+◌, ◌-◌, ◌*◌, ◌≤◌, ◌==◌, nat_le, Bool, false, if◌then◌else◌, List, length, slice_get, is_none, Option, None, Some, Result, Ok, Err}
use Rattle.std.specs.Char.{is_ascii_digit}
use Rattle.std.specs.Option.{option_map_or}
use Rattle.qm_time.specs.declared.fault.TimeFault.{TimeFault}
use Rattle.qm_time.specs.declared.fault.TimeFault.TheVariants.{Form}
use Rattle.qm_time.specs.declared.number.Number.{Number}

-- what is read goes on with what is read behind it
abbrev pub and_then : {A B : Type 0} → Result A TimeFault → (A → Result B TimeFault) → Result B TimeFault
and_then (Ok a) next = next a
and_then (Err fault) next = Err fault

-- whether a byte stands at a place
unfoldable pub stands : List ℕ → ℕ → ℕ → Bool
stands text place byte = option_map_or (λ b. b == byte) (slice_get text place) false

-- whether a text ends at a place
unfoldable pub ends : List ℕ → ℕ → Bool
ends text place = is_none (slice_get text place)

-- the value of a digit
abbrev pub digit_of : Option ℕ → Option ℕ
digit_of None = None
digit_of (Some b) = if is_ascii_digit b then Some (b - 48) else None

-- the digit at a place
unfoldable pub digit_at : List ℕ → ℕ → Option ℕ
digit_at text place = digit_of (slice_get text place)

-- a digit as a number, or nothing goes on
abbrev pub first_of : Option ℕ → ℕ → Result Number TimeFault
first_of None place = Err (Form place)
first_of (Some d) place = Ok (record { value = d; end = place + 1 })

-- a number of one digit
unfoldable pub one_digit_at : List ℕ → ℕ → Result Number TimeFault
one_digit_at text place = first_of (digit_at text place) place

-- a number with a further digit, where there is one and the number stays low enough
abbrev pub longer : ℕ → Option ℕ → Number → Number
longer most None n = n
longer most (Some d) n = if nat_le (10 * n.value + d) most then record { value = 10 * n.value + d; end = n.end + 1 } else n

-- a number with the digit that stands behind it, where it stays low enough
unfoldable pub with_digit : ℕ → List ℕ → Number → Number
with_digit most text n = longer most (digit_at text n.end) n

-- a number of one or two digits, up to a highest one
unfoldable pub number_at : ℕ → List ℕ → ℕ → Result Number TimeFault
number_at most text place = and_then (one_digit_at text place) (λ n. Ok (with_digit most text n))

-- a number of one to four digits
unfoldable pub long_number_at : List ℕ → ℕ → Result Number TimeFault
long_number_at text place =
    and_then (one_digit_at text place) (λ n. Ok (with_digit 9999 text (with_digit 9999 text (with_digit 9999 text n))))

-- a number with a further digit, which must be there
unfoldable pub next_digit : List ℕ → Number → Result Number TimeFault
next_digit text n =
    and_then (one_digit_at text n.end) (λ d. Ok (record { value = 10 * n.value + d.value; end = d.end }))

-- a number of exactly two digits
unfoldable pub two_digits_at : List ℕ → ℕ → Result Number TimeFault
two_digits_at text place = and_then (one_digit_at text place) (next_digit text)

-- a number of exactly four digits
unfoldable pub four_digits_at : List ℕ → ℕ → Result Number TimeFault
four_digits_at text place = and_then (two_digits_at text place) (λ n. and_then (next_digit text n) (next_digit text))

-- a number up to a highest one, within its text
pub record IsWithin (most : ℕ) (text : List ℕ) (n : Number) : Type 0 where
  pub low : n.value ≤ most
  pub inside : n.end ≤ length text
