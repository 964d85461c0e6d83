-- Names with commas between them.
use Rattle.std.proofs.Common.{◌≡◌, ℕ, List, [], ◌∷◌, ◌++◌, codes, sym, length, take, drop, get_or, take_all, ◌-◌, ◌≤◌, arith, append-nil, append_assoc}
use Rattle.qm_model.specs.Words.{listed}
use Rattle.qm_show.specs.Behind.{behind_commas}

-- the first name, and the others behind commas
pub listed_is : (first : List ℕ) (others : List (List ℕ)) → listed (first ∷ others) ≡ first ++ behind_commas others
listed_is first [] = sym (append-nil first)
listed_is first (other ∷ others) = rw (listed_is other others) (append_assoc first (codes ",") (other ++ behind_commas others))

-- the same of a list, with its first name and the slice behind it
pub listed_from : (names all : List (List ℕ)) (first : List ℕ) → all ≡ names → 1 ≤ length all → first ≡ get_or all 0 first
    → first ++ behind_commas (take (length all - 1) (drop 1 all)) ≡ listed names
listed_from names all first e some is = rw (sym e) (split all first some is)
  where
    split : (all : List (List ℕ)) (first : List ℕ) → 1 ≤ length all → first ≡ get_or all 0 first
        → first ++ behind_commas (take (length all - 1) (drop 1 all)) ≡ listed all
    split [] first some is = grind arith
    split (name ∷ names) first some is = rw (is, take_all (length (name ∷ names) - 1) names (omega arith)) (sym (listed_is name names))
