-- How many bytes lines have.
use Rattle.std.proofs.Common.{◌≡◌, ℕ, zero, suc, ◌*◌, ◌++◌, [], ◌∷◌, length, refl, arith, replicate, length-append}
use Rattle.qm_model.specs.Filing.{filling}

pub filling_length : (n : ℕ) → length (filling n) ≡ n * 64
filling_length zero = refl
filling_length (suc n) = omega (arith, length-append (replicate 63 120 ++ 10 ∷ []) (filling n), filling_length n)
