-- What parts of a text say, and where a blank parts it.
use Rattle.std.specs.Prelude.{ℕ, ◌==◌, ◌+◌, ◌*◌, ◌-◌, List, fold, take, drop, position, Option, None, Some}

-- what decimal digits say
abbrev pub value_of : List ℕ → ℕ
value_of digits = fold (λ n digit. n * 10 + (digit - 48)) 0 digits

-- what stands before the first blank, and what behind it
abbrev pub cut_at : Option ℕ → List ℕ → Option (List ℕ × List ℕ)
cut_at None text = None
cut_at (Some place) text = Some (take place text, drop (place + 1) text)

-- the two parts that the first blank makes of a text
abbrev pub cut_at_blank : List ℕ → Option (List ℕ × List ℕ)
cut_at_blank text = cut_at (position (λ b. b == 32) text) text
