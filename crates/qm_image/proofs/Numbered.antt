-- What is found under a number.
use Rattle.std.proofs.Common.{◌≡◌, ℕ, ◌==◌, Bool, true, false, cond, List, [], ◌∷◌, find, Some, refl, subst, eqb-true}
use Rattle.std.proofs.lemmas.Option.{same_Some}
use Rattle.qm_model.specs.Common.{Entry, entry_numbered}

abbrev numbered : ℕ → Entry → Bool
numbered n e = e.number == n

number_at : (n : ℕ) (e x : Entry) (es : List Entry) (b : Bool) → numbered n x ≡ b → cond b (Some x) (find (numbered n) es) ≡ Some e → (find (numbered n) es ≡ Some e → e.number ≡ n) → e.number ≡ n
number_at n e x es true is found later = subst (λ (y : Entry). y.number ≡ n) (same_Some x e found) (eqb-true x.number n is)
number_at n e x es false is found later = later found

-- it has that number
pub number_found : (n : ℕ) (e : Entry) (es : List Entry) → entry_numbered n es ≡ Some e → e.number ≡ n
number_found n e [] found = absurd cc
number_found n e (x ∷ es) found = number_at n e x es (numbered n x) refl found (number_found n e es)
