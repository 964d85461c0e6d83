-- Numbers as keys. The law of a row's tests cites the lemma, so it stands here.
use Rattle.std.specs.Prelude.{◌≡◌, ℕ, ◌==◌, nat_lt, Bool, true, false, cond, refl}
use Rattle.std.specs.Ordering.{is_lt, nat_cmp}
use Rattle.std.specs.declared.cmp.Ordering.TheVariants.{Less, Equal, Greater}

-- a lesser number by either test
pub lesser_is : (a b : ℕ) → nat_lt a b ≡ is_lt (nat_cmp a b)
lesser_is a b = step (nat_lt a b)
  where
    other : (c : Bool) → false ≡ is_lt (cond c Equal Greater)
    other true = refl
    other false = refl

    step : (c : Bool) → c ≡ is_lt (cond c Less (cond (a == b) Equal Greater))
    step true = refl
    step false = other (a == b)
