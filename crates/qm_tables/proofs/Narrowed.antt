-- What the number at one place says of those before it and behind it.
use Rattle.std.proofs.Common.{◌≡◌, ◌∙◌, ℕ, ◌+◌, ◌<◌, ◌≤◌, List, length, get_or, ⊎_elim, sym, ap, subst, arith, nat_cmp, Less, Equal, Greater}
use Rattle.std.specs.Cmp.{nat_cmp_is}
use Rattle.std.proofs.lemmas.Bool.{cases_lt}
use Rattle.std.proofs.lemmas.Bool.Decides.{nat_tests}
use Rattle.qm_model.specs.Common.{Entry, IsInOrder}
use Rattle.qm_keyed.specs.Places.{StandsAt}
use Rattle.qm_tables.proofs.Numbers.{number_of}

less_is : (x y : ℕ) → nat_cmp x y ≡ Less → x < y
less_is x y is = grind (arith, nat_tests)

module _ (es : List Entry) (order : IsInOrder nat_cmp number_of es) (p there : ℕ) (at : (d : Entry) → there ≡ (get_or es p d).number) (within : p < length es) where
  before_there : (k : ℕ) (d : Entry) → k < p → (get_or es k d).number < there
  before_there k d below = subst (λ (m : ℕ). (get_or es k d).number < m) (sym (at d)) (less_is (get_or es k d).number (get_or es p d).number (order k p d below within))

  behind_there : (k : ℕ) (d : Entry) → p < k → k < length es → there < (get_or es k d).number
  behind_there k d above inside = subst (λ (m : ℕ). m < (get_or es k d).number) (sym (at d)) (less_is (get_or es p d).number (get_or es k d).number (order p k d above inside))

  same_place : (k : ℕ) (d : Entry) → p ≡ k → there ≡ (get_or es k d).number
  same_place k d same = at d ∙ ap (λ (i : ℕ). (get_or es i d).number) same

  module _ (n : ℕ) where
    pub lesser_to_it : there < n → (k : ℕ) (d : Entry) → 0 ≤ k → k < p + 1 → (get_or es k d).number < n
    lesser_to_it less k d low below = ⊎_elim
        (λ (front : k < p). omega (arith, before_there k d front, less))
        (λ (past : p ≤ k). omega (arith, same_place k d (omega (arith, below, past)), less))
        (cases_lt k p)

    pub greater_from_it : n < there → (k : ℕ) (d : Entry) → p ≤ k → k < length es → n < (get_or es k d).number
    greater_from_it more k d low inside = ⊎_elim
        (λ (back : p < k). omega (arith, behind_there k d back inside, more))
        (λ (past : k ≤ p). omega (arith, same_place k d (omega (arith, low, past)), more))
        (cases_lt p k)

    pub stands_there : there ≡ n → StandsAt nat_cmp number_of n es p
    stands_there is = record {
      within = within;
      before = λ k d low below. sym (nat_cmp_is (get_or es k d).number n Less (omega (arith, before_there k d below, is)));
      here = λ d. sym (nat_cmp_is (get_or es p d).number n Equal (sym (at d) ∙ is));
      behind = λ k d low inside. sym (nat_cmp_is (get_or es k d).number n Greater (omega (arith, behind_there k d (omega (arith, low)) inside, is)));
    }
