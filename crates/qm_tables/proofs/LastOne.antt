-- The last entry stands in the last place.
use Rattle.std.proofs.Common.{◌≡◌, ◌∙◌, ℕ, zero, suc, ◌-◌, ◌<◌, List, [], ◌∷◌, length, get_or, Some, refl, sym, ap, arith, slice_get, Box, Ordering, Less, Equal, Greater}
use Rattle.std.specs.Ordering.{nat_cmp, ordering_reverse}
use Rattle.std.specs.Cmp.{nat_cmp_total}
use Rattle.qm_model.specs.Common.{Entry, IsInOrder}
use Rattle.qm_keyed.specs.Places.{StandsAt}
use Rattle.qm_tables.specs.Boxed.{contents}
use Rattle.qm_tables.proofs.Boxes.{contents_length}
use Rattle.qm_tables.proofs.Numbers.{number_of}

itself_at : (o : Ordering) → o ≡ ordering_reverse o → o ≡ Equal
itself_at Less is = absurd (cc)
itself_at Equal is = refl
itself_at Greater is = absurd (cc)

itself : (n : ℕ) → nat_cmp n n ≡ Equal
itself n = itself_at (nat_cmp n n) (nat_cmp_total.antisymm n n)

-- what lies in the box at a place
lies_at : {X Z : Type 0} (boxes : List (Box X Z)) (i : ℕ) (b : Box X Z) → Some b ≡ slice_get boxes i → (i < length boxes) × ((d : X) → get_or (contents boxes) i d ≡ b.value)
lies_at [] i b is = absurd (cc)
lies_at (c ∷ boxes) zero b is = (omega arith, λ d. cc)
lies_at (c ∷ boxes) (suc i) b is = let rest = lies_at boxes i b is in (omega (arith, rest.0), rest.1)

pub last_stands : {Z : Type 0} (boxes : List (Box Entry Z)) (b : Box Entry Z) (n : ℕ) → IsInOrder nat_cmp number_of (contents boxes)
    → Some b ≡ slice_get boxes (length boxes - 1) → b.value.number ≡ n → StandsAt nat_cmp number_of n (contents boxes) (length boxes - 1)
last_stands boxes b n order is numbered =
    let there = lies_at boxes (length boxes - 1) b is in
    let number : (d : Entry) → (get_or (contents boxes) (length boxes - 1) d).number ≡ n = λ d. ap number_of (there.1 d) ∙ numbered in
    let size : length (contents boxes) ≡ length boxes = contents_length boxes in
    record {
      within = omega (arith, there.0, size);
      before = λ k e low below. ap (λ m. nat_cmp (number_of (get_or (contents boxes) k e)) m) (sym (number e)) ∙ order k (length boxes - 1) e below (omega (arith, there.0, size));
      here = λ e. ap (λ m. nat_cmp m n) (number e) ∙ itself n;
      behind = λ k e low inside. absurd (omega (arith, there.0, size, low, inside));
    }
