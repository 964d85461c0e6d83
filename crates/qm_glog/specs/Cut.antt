-- Byte strings that stand one behind another, and the places where they end.
use Rattle.std.specs.Prelude.{ℕ, ◌≡◌, ◌≤◌, List, [], ◌∷◌, slice_range}
use Rattle.std.specs.Coded.{×_prop, le_prop, Coded-set, coded_ℕ}

-- the byte strings that end at these places, the first one beginning at `from`
abbrev pub cut : ℕ → List ℕ → List ℕ → List (List ℕ)
cut from [] bytes = []
cut from (end ∷ ends) bytes = slice_range bytes from end ∷ cut end ends bytes

-- the places don't fall from `from` on, and the last one is this
abbrev pub AreEnds : ℕ → List ℕ → ℕ → Type 0
AreEnds from [] last = from ≡ last
AreEnds from (end ∷ ends) last = (from ≤ end) × AreEnds end ends last

pub AreEnds-prop : (from : ℕ) (ends : List ℕ) (last : ℕ) → IsProp (AreEnds from ends last)
AreEnds-prop from [] last = Coded-set coded_ℕ from last
AreEnds-prop from (end ∷ ends) last = ×_prop le_prop (AreEnds-prop end ends last)
