-- The eleven bytes of a master record.
use Rattle.std.proofs.Common.{◌≡◌, sym, ◌∙◌, ap, arith, ℕ, ◌<◌, List, [], ◌∷◌, ◌++◌, length, take, drop, get_or, take-append-drop, drop-cons}
use Rattle.std.proofs.lemmas.List.{drop_all}
use Rattle.std.specs.Int.{w64, to_le_bytes}

nine : (rest : List ℕ) → length rest ≡ 9 → rest ≡ take 8 rest ++ get_or rest 8 0 ∷ []
nine rest long =
    let within : 8 < length rest = omega (arith, long) in
    sym (take-append-drop 8 rest) ∙ ap (λ (l : List ℕ). take 8 rest ++ l) (drop-cons rest 8 0 within ∙ ap (λ (l : List ℕ). get_or rest 8 0 ∷ l) (drop_all 9 rest (omega (arith, long))))

-- a version, a kind, a number of eight bytes and one byte more
pub number_first : (body : List ℕ) (kind n : ℕ) → length body ≡ 11 → get_or body 0 0 ≡ 1 → get_or body 1 0 ≡ kind → to_le_bytes w64 n ≡ take 8 (drop 2 body)
    → body ≡ 1 ∷ kind ∷ (to_le_bytes w64 n ++ get_or body 10 0 ∷ [])
number_first [] kind n long version is number = absurd (omega (arith, long))
number_first (a ∷ []) kind n long version is number = absurd (omega (arith, long))
number_first (a ∷ b ∷ rest) kind n long version is number =
    let parts : rest ≡ take 8 rest ++ get_or rest 8 0 ∷ [] = nine rest (omega (arith, long)) in
    ap (λ (l : List ℕ). a ∷ b ∷ l) (parts ∙ ap (λ (l : List ℕ). l ++ get_or rest 8 0 ∷ []) (sym number))
    ∙ (λ i. version i ∷ is i ∷ (to_le_bytes w64 n ++ get_or rest 8 0 ∷ []))
