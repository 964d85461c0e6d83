-- Truth values, and numbers that are compared.
use Rattle.std.proofs.Common.{◌≡◌, ℕ, Bool, true, false, not, ◌&&◌, ◌==◌, refl, arith}
use Rattle.std.proofs.lemmas.Bool.Decides.{nat_tests}

pub and_left : (a b : Bool) → (a && b) ≡ true → a ≡ true
and_left true b h = refl
and_left false b h = absurd cc

pub and_right : (a b : Bool) → (a && b) ≡ true → b ≡ true
and_right true b h = h
and_right false b h = absurd cc

pub negated : (b : Bool) → b ≡ true → not b ≡ false
negated true h = refl
negated false h = absurd cc

pub same_number : (a b : ℕ) → (a == b) ≡ true → b ≡ a
same_number a b h = grind (arith, nat_tests)
