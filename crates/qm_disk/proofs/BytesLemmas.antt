-- What several reads and writes, one after the other, do to known bytes.
use Rattle.std.proofs.Common.{ℕ, ◌+◌, ◌≤◌, List, ◌++◌, length, take, drop, Option, sym, subst, arith, length-append, length-take-le}
use Rattle.std.proofs.Math.Seq.{take-add, take-append-add}
use Rattle.std.proofs.lemmas.List.{take-append-le}
use Rattle.std.specs.Io.KnownBytes.{Appends, Consumes}
use Rattle.std.proofs.KnownBytes.{Appends-trans, Consumes-trans}
use Rattle.qm_disk.specs.Bytes.{LosesAtMost, TakesPrefix}

-- what a sink takes of the rest stands behind what it took before
pub Appends-next : (a b c : Option (List ℕ)) (at count : ℕ) (bytes : List ℕ) → Appends a b (take at bytes) → Appends b c (take count (drop at bytes)) → Appends a c (take (at + count) bytes)
Appends-next a b c at count bytes p q = subst (Appends a c) (sym (take-add at count bytes)) (Appends-trans a b c _ _ p q)

-- what a source loses to one more read
pub LosesAtMost-next : (most : ℕ) (a b c : Option (List ℕ)) (bytes piece : List ℕ) (count : ℕ) → Consumes a b bytes → Consumes b c (take count piece) → count ≤ length piece → length bytes + count ≤ most
    → LosesAtMost most a c
LosesAtMost-next most a b c bytes piece count p q within fits =
    (bytes ++ take count piece, Consumes-trans a b c _ _ p q, omega (arith, length-append bytes (take count piece), length-take-le count piece within))

-- some bytes were taken whole, and of the next ones a prefix
pub TakesPrefix-after : (a b c : Option (List ℕ)) (xs ys : List ℕ) → Appends a b xs → TakesPrefix b c ys → TakesPrefix a c (xs ++ ys)
TakesPrefix-after a b c xs ys p (count, below, q) =
    (length xs + count, omega (arith, length-append xs ys), subst (Appends a c) (sym (take-append-add xs ys count)) (Appends-trans a b c _ _ p q))

-- a prefix of the first bytes is one of all
pub TakesPrefix-more : (a b : Option (List ℕ)) (xs ys : List ℕ) → TakesPrefix a b xs → TakesPrefix a b (xs ++ ys)
TakesPrefix-more a b xs ys (count, below, p) =
    let within : count ≤ length xs = omega arith in
    (count, omega (arith, length-append xs ys), subst (Appends a b) (sym (take-append-le count xs ys within)) p)
