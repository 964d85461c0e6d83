-- What a loop over boxes has looked at.
use Rattle.std.proofs.Common.{◌≡◌, ◌∙◌, ℕ, ◌<◌, ◌≤◌, ◌-◌, List, length, get_or, take, drop, sym, ap, arith, Box}
use Rattle.std.proofs.lemmas.List.{length-map, get_or-map, length-drop, drop-map, take_all}
use Rattle.qm_kinds.specs.declared.entry.Entry.{Entry}
use Rattle.qm_tables.specs.Boxed.{contents}

module _ {X Z : Type 0} (boxes : List (Box X Z)) (i : ℕ) (b : Box X Z) (x : X) (within : i < length boxes) (read : b ≡ get_or boxes i b) (is : x ≡ b.value) where
  -- the value that lies in the box of this place
  pub value_at : x ≡ get_or (contents boxes) i x
  value_at = is ∙ ap (λ (y : Box X Z). y.value) read ∙ sym (get_or-map (λ (y : Box X Z). y.value) boxes i b x within)

  pub value_within : i < length (contents boxes)
  value_within = omega (arith, within, length-map boxes (λ (y : Box X Z). y.value))

pub all_seen : {X : Type 0} (xs : List X) (i : ℕ) → length xs ≤ i → take i xs ≡ xs
all_seen xs i past = take_all i xs past

abbrev pub value_of : {X Z : Type 0} → Box X Z → X
value_of b = b.value

abbrev pub number_of : Entry → ℕ
number_of e = e.number

-- what is left behind a place
pub left_of : {X Z : Type 0} (boxes : List (Box X Z)) (i : ℕ) → i ≤ length boxes → contents (take (length boxes - i) (drop i boxes)) ≡ drop i (contents boxes)
left_of boxes i within =
    ap (λ (bs : List (Box _ _)). contents bs) (take_all (length boxes - i) (drop i boxes) (omega (arith, length-drop i boxes)))
    ∙ sym (drop-map (λ b. b.value) i boxes)
