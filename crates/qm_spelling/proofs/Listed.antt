-- Values with commas between them.
use Rattle.std.proofs.Common.{◌≡◌, ℕ, List, [], ◌∷◌, ◌++◌, codes, sym, length, take, drop, get_or, take_all, ◌-◌, ◌≤◌, arith, map, flat_map, append-nil, append_assoc}
use Rattle.qm_kinds.specs.declared.request.NameOrNumber.{NameOrNumber}
use Rattle.qm_model.specs.Words.{listed}
use Rattle.qm_spelling.specs.Pieces.{list_text, reference_text, references_text}

-- names, each behind a comma
abbrev pub behind_commas : List (List ℕ) → List ℕ
behind_commas names = flat_map (λ name. codes "," ++ name) names

-- characteristics, each behind a comma
abbrev pub references_behind_commas : List NameOrNumber → List ℕ
references_behind_commas references = flat_map (λ reference. codes "," ++ reference_text reference) references

-- the first name, and the others behind commas
names_are : (first : List ℕ) (others : List (List ℕ)) → listed (first ∷ others) ≡ first ++ behind_commas others
names_are first [] = sym (append-nil first)
names_are first (other ∷ others) = rw (names_are other others) (append_assoc first (codes ",") (other ++ behind_commas others))

-- the first characteristic, and the others behind commas
references_are : (first : NameOrNumber) (others : List NameOrNumber) → listed (map reference_text (first ∷ others)) ≡ reference_text first ++ references_behind_commas others
references_are first [] = sym (append-nil (reference_text first))
references_are first (other ∷ others) =
    rw (references_are other others) (append_assoc (reference_text first) (codes ",") (reference_text other ++ references_behind_commas others))

-- both within parentheses
within : (a b : List ℕ) → codes "(" ++ (a ++ (b ++ codes ")")) ≡ codes "(" ++ ((a ++ b) ++ codes ")")
within a b = simp append_assoc

-- names in parentheses, of a list with its first name and the slice behind it
pub names_from : (names all : List (List ℕ)) (first : List ℕ) → all ≡ names → 1 ≤ length all → first ≡ get_or all 0 first
    → codes "(" ++ (first ++ (behind_commas (take (length all - 1) (drop 1 all)) ++ codes ")")) ≡ list_text names
names_from names all first e some is = rw (sym e) (split all first some is)
  where
    split : (all : List (List ℕ)) (first : List ℕ) → 1 ≤ length all → first ≡ get_or all 0 first
        → codes "(" ++ (first ++ (behind_commas (take (length all - 1) (drop 1 all)) ++ codes ")")) ≡ list_text all
    split [] first some is = grind arith
    split (name ∷ names) first some is = rw (is, take_all (length (name ∷ names) - 1) names (omega arith), names_are name names) (within name (behind_commas names))

-- the same of characteristics
pub references_from : (references all : List NameOrNumber) (first : NameOrNumber) → all ≡ references → 1 ≤ length all → first ≡ get_or all 0 first
    → codes "(" ++ (reference_text first ++ (references_behind_commas (take (length all - 1) (drop 1 all)) ++ codes ")")) ≡ references_text references
references_from references all first e some is = rw (sym e) (split all first some is)
  where
    split : (all : List NameOrNumber) (first : NameOrNumber) → 1 ≤ length all → first ≡ get_or all 0 first
        → codes "(" ++ (reference_text first ++ (references_behind_commas (take (length all - 1) (drop 1 all)) ++ codes ")")) ≡ references_text all
    split [] first some is = grind arith
    split (reference ∷ references) first some is =
        rw (is, take_all (length (reference ∷ references) - 1) references (omega arith), references_are reference references)
        (within (reference_text reference) (references_behind_commas references))
