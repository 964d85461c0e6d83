-- Values that are given or not, and what a search through the rest of a list finds.
use Rattle.std.proofs.Common.{◌≡◌, ◌∙◌, ◌<◌, ◌+◌, ℕ, Bool, true, false, List, length, get_or, drop, Option, Some, None, refl, sym, ap, add-one, find, unwrap_or}
use Rattle.std.proofs.Math.Seq.{drop-cons}
use Rattle.std.specs.Option.{option_map, option_map_or}

-- what is made of a value that is given, or else this one
pub made_or : {X Y : Type 0} (f : X → Y) (given : Option X) (other : Y) → unwrap_or (option_map f given) other ≡ option_map_or f given other
made_or f None other = refl
made_or f (Some x) other = refl

-- a search through what is left of a list, where the next element passes,
pub find_hit : {X : Type 0} (p : X → Bool) (xs : List X) (i : ℕ) (x : X) → i < length xs → x ≡ get_or xs i x → p x ≡ true → find p (drop i xs) ≡ Some x
find_hit p xs i x within is passes = ap (find p) (drop-cons xs i x within) ∙ rw (← is, passes) refl

-- and where it doesn't
pub find_miss : {X : Type 0} (p : X → Bool) (xs : List X) (i : ℕ) (x : X) → i < length xs → x ≡ get_or xs i x → p x ≡ false → find p (drop (i + 1) xs) ≡ find p (drop i xs)
find_miss p xs i x within is fails = rw add-one (sym (ap (find p) (drop-cons xs i x within) ∙ rw (← is, fails) refl))
