-- What the tests find of one entry.
use Rattle.std.proofs.Common.{◌≡◌, Bool, true, false, cond, ◌&&◌, List, [], ◌∷◌, refl, ap, filter}
use Rattle.qm_model.specs.Common.{Entry, Queue, System, fits, is_of_kind, is_open, is_reached, has_characteristics, has_stock, has_size, is_pending}

-- where the queue is open, the tests may be made in another order
in_order : (a b c d e f g : Bool) → c ≡ true → ((a && b && e && g) && d && f) ≡ (a && b && c && d && e && f && g)
in_order false b c d e f g opened = refl
in_order true false c d e f g opened = refl
in_order true true false d e f g opened = absurd (cc opened)
in_order true true true false false f g opened = refl
in_order true true true false true f false opened = refl
in_order true true true false true f true opened = refl
in_order true true true true false f g opened = refl
in_order true true true true true false false opened = refl
in_order true true true true true false true opened = refl
in_order true true true true true true false opened = refl
in_order true true true true true true true opened = refl

pub fits_where_open : (s : System) (e : Entry) (q : Queue) → is_open s q ≡ true
    → ((is_pending e.state && is_of_kind e q && has_characteristics e q && has_size e q) && is_reached s e q && has_stock s e q) ≡ fits s e q
fits_where_open s e q opened =
    in_order (is_pending e.state) (is_of_kind e q) (is_open s q) (is_reached s e q) (has_characteristics e q) (has_stock s e q) (has_size e q) opened

-- a job fits no queue that isn't started, or whose node isn't up
pub closed : (a b c d e f g : Bool) → c ≡ false → (a && b && c && d && e && f && g) ≡ false
closed false b c d e f g is = refl
closed true false c d e f g is = refl
closed true true c d e f g is = ap (λ x. x && d && e && f && g) is

nothing_passes_at : {X : Type 0} (p : X → Bool) (x : X) (xs : List X) (b : Bool) → p x ≡ b → ((y : X) → p y ≡ false) → filter p xs ≡ [] → cond b (x ∷ filter p xs) (filter p xs) ≡ []
nothing_passes_at p x xs true is never later = let no : p x ≡ false = never x in cc
nothing_passes_at p x xs false is never later = later

pub nothing_passes : {X : Type 0} (p : X → Bool) (xs : List X) → ((x : X) → p x ≡ false) → filter p xs ≡ []
nothing_passes p [] never = refl
nothing_passes p (x ∷ xs) never = nothing_passes_at p x xs (p x) refl never (nothing_passes p xs never)

-- so none fits one that isn't open,
pub closed_fits : (s : System) (e : Entry) (q : Queue) → is_open s q ≡ false → fits s e q ≡ false
closed_fits s e q is = closed (is_pending e.state) (is_of_kind e q) (is_open s q) (is_reached s e q) (has_characteristics e q) (has_stock s e q) (has_size e q) is

-- and its row is empty
pub closed_row : (s : System) (q : Queue) (es : List Entry) → is_open s q ≡ false → filter (λ e. fits s e q) es ≡ []
closed_row s q es is = nothing_passes (λ e. fits s e q) es (λ e. closed_fits s e q is)
