-- The places of records.
use Rattle.std.proofs.Common.{◌≡◌, ◌∙◌, ap, arith, ℕ, ◌+◌, ◌≤◌, List, [], ◌∷◌, ◌++◌, length, take, drop, Some, slice_get, take-append-drop}
use Rattle.std.proofs.lemmas.List.{take_more}
use Rattle.std.proofs.lemmas.Option.{slice_get_within, get_or_from_slice_get}
use Rattle.qm_glog.specs.Records.{size_of}
use Rattle.qm_glog.proofs.Texts.{size_of-push, size_of-append}

-- the place of the next record
pub place_more : (bodies : List (List ℕ)) (i : ℕ) (body : List ℕ) → slice_get bodies i ≡ Some body → size_of (take (i + 1) bodies) ≡ size_of (take i bodies) + 5 + length body
place_more bodies i body is =
    let more : take (i + 1) bodies ≡ take i bodies ++ body ∷ [] =
    take_more bodies i body (slice_get_within bodies i body is) ∙ ap (λ (l : List ℕ). take i bodies ++ l ∷ []) (get_or_from_slice_get bodies i body body is) in
    ap size_of more ∙ size_of-push (take i bodies) body

-- no place lies behind the end
pub place_within : (bodies : List (List ℕ)) (i : ℕ) → size_of (take i bodies) ≤ size_of bodies
place_within bodies i = omega (arith, ap size_of (take-append-drop i bodies), size_of-append (take i bodies) (drop i bodies))
