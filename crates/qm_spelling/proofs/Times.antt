-- What stands between quotes.
use Rattle.std.proofs.Common.{◌≡◌, ℕ, ◌-◌, List, [], ◌∷◌, ◌++◌, length, codes, arith, length-append, take_at}
use Rattle.qm_dcl.specs.Values.{unquoted}

-- a text in quotes says that text
pub unquoted_is : (text : List ℕ) → unquoted (codes "\"" ++ text ++ codes "\"") ≡ text
unquoted_is text =
    let inside : length text ≡ length (34 ∷ text ++ 34 ∷ []) - 2 = omega (arith, length-append text (34 ∷ [])) in
    take_at text (34 ∷ []) (length (34 ∷ text ++ 34 ∷ []) - 2) inside
