-- What is known of how many jobs may come to queues.
use Rattle.std.proofs.Common.{◌≡◌, ◌∙◌, ℕ, zero, suc, ◌+◌, ◌<◌, ◌≤◌, ⊎_elim, cond, List, [], ◌∷◌, ◌++◌, length, get_or, set, Option, None, Some, refl, sym, subst, arith}
use Rattle.std.proofs.lemmas.Bool.{cases_lt}
use Rattle.std.proofs.lemmas.List.{get_or_default, get_or-set_same, get_or-set_other, get_or_append_left}
use Rattle.qm_model.specs.Common.{Entry, Queue}
use Rattle.qm_parts.specs.Rooms.{leads_to, reach, IsAtMost, AreBounds}

pub at_most_more : (n m : ℕ) (bound : Option ℕ) → n ≤ m → IsAtMost m bound → IsAtMost n bound
at_most_more n m None less is = tt
at_most_more n m (Some b) less is = omega (arith, less, is)

-- where nothing is known
pub unknown_bounds : (queues : List Queue) (entries : List Entry) (bounds : List (Option ℕ)) → ((place : ℕ) → get_or bounds place None ≡ None) → AreBounds queues entries bounds
unknown_bounds queues entries bounds unknown place q within =
    subst (IsAtMost (reach queues entries (get_or queues place q))) (sym (unknown place)) tt

-- nothing is known of one more
pub unknown_more : (bounds : List (Option ℕ)) → ((place : ℕ) → get_or bounds place None ≡ None) → (place : ℕ) → get_or (bounds ++ None ∷ []) place None ≡ None
unknown_more [] unknown zero = refl
unknown_more [] unknown (suc place) = refl
unknown_more (b ∷ bounds) unknown zero = unknown 0
unknown_more (b ∷ bounds) unknown (suc place) = unknown_more bounds (λ k. unknown (suc k)) place

-- where no more jobs may come than were counted
pub fewer_bounds : (queues : List Queue) (entries also : List Entry) (bounds : List (Option ℕ)) → ((q : Queue) → reach queues also q ≤ reach queues entries q) → AreBounds queues entries bounds → AreBounds queues also bounds
fewer_bounds queues entries also bounds fewer are place q within =
    at_most_more (reach queues also (get_or queues place q)) (reach queues entries (get_or queues place q)) (get_or bounds place None) (fewer (get_or queues place q)) (are place q within)

-- where one job more of a home may come
pub raised_bounds : (queues : List Queue) (entries also : List Entry) (home : List ℕ) (old new : List (Option ℕ)) → ((q : Queue) → reach queues also q ≤ reach queues entries q + cond (leads_to queues q home) 1 0)
    → ((place n : ℕ) (q : Queue) → place < length queues → IsAtMost n (get_or old place None) → IsAtMost (n + cond (leads_to queues (get_or queues place q) home) 1 0) (get_or new place None))
    → AreBounds queues entries old → AreBounds queues also new
raised_bounds queues entries also home old new more raised are place q within =
    let p = get_or queues place q in
    at_most_more (reach queues also p) (reach queues entries p + cond (leads_to queues p home) 1 0) (get_or new place None) (more p)
    (raised place (reach queues entries p) q within (are place q within))

-- the bound at a place
pub bound_here : (queues : List Queue) (entries : List Entry) (bounds : List (Option ℕ)) (place : ℕ) (q : Queue) (bound : Option ℕ) → AreBounds queues entries bounds → place < length queues → place < length bounds
    → q ≡ get_or queues place q → bound ≡ get_or bounds place bound → IsAtMost (reach queues entries q) bound
bound_here queues entries bounds place q bound are within inside is read =
    subst (λ (x : Queue). IsAtMost (reach queues entries x) bound) (sym is)
    (subst (IsAtMost (reach queues entries (get_or queues place q))) (sym (read ∙ get_or_default bounds place bound None inside)) (are place q within))

-- another one stands there
pub bounds_set : (queues : List Queue) (entries : List Entry) (bounds : List (Option ℕ)) (place : ℕ) (q : Queue) (bound : Option ℕ) → AreBounds queues entries bounds → place < length queues → place < length bounds
    → q ≡ get_or queues place q → IsAtMost (reach queues entries q) bound → AreBounds queues entries (set bounds place bound)
bounds_set queues entries bounds place q bound are within inside is most k p at =
    ⊎_elim
    (λ (less : k < place). subst (IsAtMost (reach queues entries (get_or queues k p))) (sym (get_or-set_other bounds place k bound None (λ same. omega (arith, same, less)))) (are k p at))
    (λ (past : place ≤ k). ⊎_elim
    (λ (more : place < k). subst (IsAtMost (reach queues entries (get_or queues k p))) (sym (get_or-set_other bounds place k bound None (λ same. omega (arith, same, more)))) (are k p at))
    (λ (back : k ≤ place).
    let here : place ≡ k = omega (arith, past, back) in
    subst (λ (m : ℕ). IsAtMost (reach queues entries (get_or queues m p)) (get_or (set bounds place bound) m None)) here
    (subst (IsAtMost (reach queues entries (get_or queues place p))) (sym (get_or-set_same bounds place bound None inside))
    (subst (λ (x : Queue). IsAtMost (reach queues entries x) bound) (is ∙ get_or_default queues place q p within) most)))
    (cases_lt place k))
    (cases_lt k place)

-- one more stands behind them
pub bounds_behind : (queues : List Queue) (entries : List Entry) (bounds : List (Option ℕ)) → length queues ≤ length bounds → AreBounds queues entries bounds → AreBounds queues entries (bounds ++ None ∷ [])
bounds_behind queues entries bounds enough are place q within =
    subst (IsAtMost (reach queues entries (get_or queues place q))) (sym (get_or_append_left bounds (None ∷ []) None place (omega (arith, within, enough)))) (are place q within)
