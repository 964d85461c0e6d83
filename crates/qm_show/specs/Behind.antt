-- Names that stand behind another one.
use Rattle.std.specs.Prelude.{ℕ, List, ◌++◌, codes, flat_map}

-- names, each behind a comma
abbrev pub behind_commas : List (List ℕ) → List ℕ
behind_commas names = flat_map (λ name. codes "," ++ name) names
