-- What is listed where no pattern was typed.
use Rattle.std.proofs.Common.{◌≡◌, ℕ, true, List, [], ◌∷◌, refl}
use Rattle.qm_kinds.specs.Wildcards.{matches}

-- each name matches
pub any_name : (name : List ℕ) → matches (42 ∷ []) name ≡ true
any_name [] = refl
any_name (b ∷ bs) = any_name bs
