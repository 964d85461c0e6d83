-- The bodies in front of one, and behind it.
use Rattle.std.proofs.Common.{◌≡◌, sym, ◌∙◌, ap, ℕ, ◌+◌, List, [], ◌∷◌, ◌++◌, take, drop, Some, slice_get, take-append-drop, append_assoc}
use Rattle.std.proofs.lemmas.List.{take_more}
use Rattle.std.proofs.lemmas.Option.{slice_get_within, get_or_from_slice_get}

pub one_more : (bodies : List (List ℕ)) (i : ℕ) (body : List ℕ) → slice_get bodies i ≡ Some body → take (i + 1) bodies ≡ take i bodies ++ body ∷ []
one_more bodies i body is =
    take_more bodies i body (slice_get_within bodies i body is) ∙ ap (λ (l : List ℕ). take i bodies ++ l ∷ []) (get_or_from_slice_get bodies i body body is)

pub split_at : (bodies : List (List ℕ)) (i : ℕ) (body : List ℕ) → slice_get bodies i ≡ Some body → bodies ≡ take i bodies ++ body ∷ drop (i + 1) bodies
split_at bodies i body is =
    sym (take-append-drop (i + 1) bodies) ∙ ap (λ (l : List (List ℕ)). l ++ drop (i + 1) bodies) (one_more bodies i body is) ∙ append_assoc (take i bodies) (body ∷ []) (drop (i + 1) bodies)
