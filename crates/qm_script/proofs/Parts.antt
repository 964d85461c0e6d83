-- A text is cut at its first line feed.
use Rattle.std.proofs.Common.{◌≡◌, ◌<◌, ◌≤◌, ◌+◌, ◌-◌, ◌==◌, ℕ, Bool, true, false, ◌&&◌, cond, if◌then◌else◌, nat_lt, List, [], ◌∷◌, ◌++◌, length, take, drop, position, Option, None, Some, arith, refl, sym, ◌∙◌, ap, take_all, length-drop, append_assoc}
use Rattle.std.specs.List.{slice_split, position_or_len, count_by}
use Rattle.std.proofs.lemmas.List.Splits.{slice_split_none, slice_split_first, length-slice_split}
use Rattle.std.proofs.lemmas.List.Sums.{fails_before_first}
use Rattle.std.proofs.lemmas.Bool.Decides.{nat_tests}

pub found_at : (i n place : ℕ) → Some place ≡ cond (nat_lt i n) (Some i) None → (place ≡ i) × (i < n)
found_at i n place e = grind (arith, nat_tests)

pub found_none : (i n : ℕ) → None ≡ cond (nat_lt i n) (Some i) None → n ≤ i
found_none i n e = grind (arith, nat_tests)

-- the rest of a text, up to its end
pub rest_of : (text : List ℕ) (k : ℕ) → take (length text - k) (drop k text) ≡ drop k text
rest_of text k = take_all (length text - k) (drop k text) (simp length-drop (omega arith))

pub cut_first : (text : List ℕ) (place : ℕ) → Some place ≡ position (λ b. b == 10) text → slice_split (λ b. b == 10) text ≡ take place text ∷ slice_split (λ b. b == 10) (drop (place + 1) text)
cut_first text place e =
    let at = found_at (position_or_len (λ b. b == 10) text) (length text) place e in
    slice_split_first (λ b. b == 10) text 0 at.1 ∙ ap (λ i. take i text ∷ slice_split (λ b. b == 10) (drop (i + 1) text)) (sym at.0)

pub uncut : (text : List ℕ) → None ≡ position (λ b. b == 10) text → slice_split (λ b. b == 10) text ≡ text ∷ []
uncut text e = slice_split_none (λ b. b == 10) text
    (λ i d within. fails_before_first (λ b. b == 10) text i d (omega (arith, within, found_none (position_or_len (λ b. b == 10) text) (length text) e)))

-- a text has a part at least
pub some_part : (text : List ℕ) → (part : List ℕ) × (parts : List (List ℕ)) × (slice_split (λ b. b == 10) text ≡ part ∷ parts)
some_part text = named (slice_split (λ b. b == 10) text) (length-slice_split (λ b. b == 10) text)
  where
    named : (parts : List (List ℕ)) → length parts ≡ count_by (λ b. b == 10) text + 1 → (part : List ℕ) × (others : List (List ℕ)) × (parts ≡ part ∷ others)
    named [] e = absurd (omega (arith, e))
    named (part ∷ others) e = (part, others, refl)
