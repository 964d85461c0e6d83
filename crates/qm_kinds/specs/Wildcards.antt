-- Texts that a pattern matches.
use Rattle.std.specs.Prelude.{ℕ, Bool, true, false, ◌==◌, ◌&&◌, if◌then◌else◌, List, [], ◌∷◌}
use Rattle.std.specs.List.{list_any}

-- the text and each text that is left of it when bytes fall away in front
abbrev pub suffixes : List ℕ → List (List ℕ)
suffixes [] = [] ∷ []
suffixes (b ∷ bs) = (b ∷ bs) ∷ suffixes bs

-- a byte, and then a text that passes
abbrev pub one_then : (ℕ → Bool) → (List ℕ → Bool) → List ℕ → Bool
one_then allowed rest [] = false
one_then allowed rest (b ∷ bs) = allowed b && rest bs

-- The empty pattern matches the empty text alone, * any bytes or none, % any one byte, and another byte itself.
abbrev pub matches : List ℕ → List ℕ → Bool
matches [] [] = true
matches [] (b ∷ bs) = false
matches (p ∷ ps) text =
    if p == 42 then list_any (matches ps) (suffixes text) else
    if p == 37 then one_then (λ b. true) (matches ps) text else
    one_then (λ b. p == b) (matches ps) text
