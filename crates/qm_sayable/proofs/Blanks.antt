-- The blank in front of a text.
use Rattle.std.proofs.Common.{◌≡◌, ◌≢◌, ℕ, List, [], ◌∷◌, refl, ap, arith}
use Rattle.std.proofs.lemmas.Bool.Decides.{nat_tests}
use Rattle.qm_model.specs.MomentText.{without_blank}

-- a text without a blank in front stays as it is
pub stays : (text : List ℕ) → ((rest : List ℕ) → text ≢ 32 ∷ rest) → text ≡ without_blank text
stays [] none = refl
stays (b ∷ text) none = let other : b ≡ 32 → ⊥ = λ e. none text (ap (λ c. c ∷ text) e) in grind (arith, nat_tests)
