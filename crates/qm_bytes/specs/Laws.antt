-- What it means that a reader reads a spelling.
use Rattle.std.specs.Prelude.{◌≡◌, ℕ, suc, List, ◌∷◌, ◌++◌, length, Ok, Err}
use Rattle.qm_bytes.specs.Reading.{Reader}

-- a value that fits, and its one spelling
pub record Spells {T : Type 0} (Fits : T → Type 0) (spelling : T → List ℕ) (value : T) (text : List ℕ) : Type 0 where
  pub fits : Fits value
  pub is : text ≡ spelling value

-- Where reading stops. The bytes in front begin the spelling of a value, and with the byte behind them no spelling goes on,
-- whatever follows it.
pub record Stops {T : Type 0} (Spelled : T → List ℕ → Type 0) (read : Reader T) (bytes : List ℕ) (left : ℕ) : Type 0 where
  pub front : List ℕ
  pub behind : List ℕ
  pub parts : bytes ≡ front ++ behind
  pub place : length behind ≡ left
  pub value : T
  pub more : List ℕ
  pub begins : Spelled value (front ++ more)
  pub ends : (b : ℕ) (bs others : List ℕ) → behind ≡ b ∷ bs → read (front ++ b ∷ others) ≡ Err (suc (length others))

-- A value that is read is spelled so. What is spelled so is read, whatever follows. A fault is the first one.
pub record IsReader {T : Type 0} (Spelled : T → List ℕ → Type 0) (read : Reader T) : Type 0 where
  pub value : T
  pub text : List ℕ
  pub spelled : Spelled value text
  pub takes : (bytes : List ℕ) (x : T) (rest : List ℕ) → read bytes ≡ Ok (x, rest)
      → (front : List ℕ) × Spelled x front × (bytes ≡ front ++ rest)
  pub again : (x : T) (front rest : List ℕ) → Spelled x front → read (front ++ rest) ≡ Ok (x, rest)
  pub stops : (bytes : List ℕ) (left : ℕ) → read bytes ≡ Err left → Stops Spelled read bytes left

-- each value that fits is read as it is spelled, and nothing else is read
abbrev pub ReadsAsSpelled : {T : Type 0} → (T → Type 0) → (T → List ℕ) → Reader T → Type 0
ReadsAsSpelled Fits spelling read = IsReader (Spells Fits spelling) read
