-- The one spelling of each field.
use Rattle.std.specs.Prelude.{ℕ, zero, suc, ◌/◌, ◌%◌, ◌^◌, ◌<◌, ◌≤◌, Bool, true, false, List, [], ◌∷◌, ◌++◌, length, Option, Some, None}
use Rattle.std.specs.List.{AllByRecursion}
use Rattle.qm_kinds.specs.Text.{IsText, is_name_byte}
use Rattle.qm_kinds.specs.declared.file.FileName.{FileName}
use Rattle.qm_kinds.specs.declared.form.CharacteristicSet.{CharacteristicSet}
use Rattle.qm_kinds.specs.declared.moment.TheConstants.{LAST_MOMENT}

-- so many bytes of a number, the lowest first
abbrev pub low_first : ℕ → ℕ → List ℕ
low_first zero n = []
low_first (suc count) n = n % 256 ∷ low_first count (n / 256)

-- fields one behind the other
abbrev pub fields : List (List ℕ) → List ℕ
fields [] = []
fields (first ∷ others) = first ++ fields others

abbrev pub byte : ℕ → List ℕ
byte n = n ∷ []

-- 1 stands for true, 0 for false
abbrev pub truth : Bool → List ℕ
truth false = 0 ∷ []
truth true = 1 ∷ []

-- 0, or 1 and the value
abbrev pub optional : {A : Type 0} → (A → List ℕ) → Option A → List ℕ
optional spelling None = 0 ∷ []
optional spelling (Some x) = 1 ∷ spelling x

-- each element
abbrev pub each : {A : Type 0} → (A → List ℕ) → List A → List ℕ
each spelling [] = []
each spelling (x ∷ xs) = spelling x ++ each spelling xs

-- a count of 16 bits, and the elements
abbrev pub list : {A : Type 0} → (A → List ℕ) → List A → List ℕ
list spelling xs = low_first 2 (length xs) ++ each spelling xs

-- a length of 32 bits, and the bytes
abbrev pub long_bytes : List ℕ → List ℕ
long_bytes bytes = low_first 4 (length bytes) ++ bytes

-- a length of one byte, and the bytes: so names and marks are spelled
abbrev pub short_bytes : List ℕ → List ℕ
short_bytes bytes = length bytes ∷ bytes

-- the name, and the type where there is one
abbrev pub file_name : FileName → List ℕ
file_name file = short_bytes file.name ++ optional short_bytes file.extension

-- two numbers of 64 bits, the lower half first
abbrev pub set : CharacteristicSet → List ℕ
set s = low_first 8 (s.0 % 2 ^ 64) ++ low_first 8 (s.0 / 2 ^ 64)

-- a moment is a number of 64 bits, up to the end of the year 9999
abbrev pub moment : ℕ → List ℕ
moment m = low_first 8 m

-- What has a spelling. A name has 1 to 39 bytes of a name's, a mark at most 255, and a moment lies before the last.

abbrev pub IsName : List ℕ → Type 0
IsName name = IsText is_name_byte name

abbrev pub AreBytes : List ℕ → Type 0
AreBytes bytes = AllByRecursion (λ b. b < 256) bytes

pub record IsMark (mark : List ℕ) : Type 0 where
  pub few : length mark ≤ 255
  pub all : AreBytes mark

pub record AreLongBytes (bytes : List ℕ) : Type 0 where
  pub few : length bytes < 2 ^ 32
  pub all : AreBytes bytes

abbrev pub IsMoment : ℕ → Type 0
IsMoment m = m ≤ LAST_MOMENT

abbrev pub IsSet : CharacteristicSet → Type 0
IsSet s = s.0 < 2 ^ 128

abbrev pub AllOf : {A : Type 0} → (A → Type 0) → Option A → Type 0
AllOf Fits None = Unit {0}
AllOf Fits (Some x) = Fits x

pub record IsList {A : Type 0} (Fits : A → Type 0) (xs : List A) : Type 0 where
  pub few : length xs < 2 ^ 16
  pub each : AllByRecursion Fits xs

pub record IsFileName (file : FileName) : Type 0 where
  pub name : IsName file.name
  pub extension : AllOf IsName file.extension
