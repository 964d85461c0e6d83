-- A job fits where nothing is a reason why it doesn't.
use Rattle.std.proofs.Common.{◌≡◌, Bool, true, false, ◌&&◌, [], ◌∷◌, refl, is_none}
use Rattle.qm_model.specs.Common.{Entry, Queue, System, is_pending}
use Rattle.qm_model.specs.Fitting.{NotPending, OtherKind, NotStarted, NotPassedOn, LacksCharacteristics, OtherStock, OutsideSizes, first_misfit, misfit_of, fits, is_of_kind, is_open, is_reached, has_characteristics, has_stock, has_size}

no_reason : (a b c d e f g : Bool) → (a && b && c && d && e && f && g)
    ≡ is_none (first_misfit ((a, NotPending) ∷ (b, OtherKind) ∷ (c, NotStarted) ∷ (d, NotPassedOn) ∷ (e, LacksCharacteristics) ∷ (f, OtherStock) ∷ (g, OutsideSizes) ∷ []))
no_reason false b c d e f g = refl
no_reason true false c d e f g = refl
no_reason true true false d e f g = refl
no_reason true true true false e f g = refl
no_reason true true true true false f g = refl
no_reason true true true true true false g = refl
no_reason true true true true true true false = refl
no_reason true true true true true true true = refl

pub fits_is : (s : System) (e : Entry) (q : Queue) → fits s e q ≡ is_none (misfit_of s e q)
fits_is s e q = no_reason (is_pending e.state) (is_of_kind e q) (is_open s q) (is_reached s e q) (has_characteristics e q) (has_stock s e q) (has_size e q)
