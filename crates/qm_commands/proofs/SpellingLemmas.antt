-- Words that are compared.
use Rattle.std.proofs.Common.{◌≡◌, ℕ, ◌&&◌, ◌==◌, List, [], ◌∷◌, length, arith, refl, ap}
use Rattle.std.specs.List.{zip, list_all}
use Rattle.std.specs.Char.{to_ascii_uppercase}
use Rattle.qm_commands.specs.Spelled.{is_raised_to}

-- words of one length are the same where each byte is
pub same_bytes : (word spelling : List ℕ) → length word ≡ length spelling → list_all (λ p. to_ascii_uppercase p.0 == p.1) (zip word spelling) ≡ is_raised_to spelling word
same_bytes [] [] same = refl
same_bytes [] (s ∷ ss) same = absurd (omega (arith, same))
same_bytes (b ∷ bs) [] same = absurd (omega (arith, same))
same_bytes (b ∷ bs) (s ∷ ss) same = ap (λ rest. (to_ascii_uppercase b == s) && rest) (same_bytes bs ss (omega (arith, same)))
