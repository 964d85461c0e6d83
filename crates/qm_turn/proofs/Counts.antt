-- Numbers of views, added up, and numbers in lists.
use Rattle.std.proofs.Common.{◌≡◌, ◌≢◌, ℕ, zero, suc, ◌+◌, ◌*◌, ◌<◌, ◌≤◌, ◌==◌, List, [], ◌∷◌, ◌++◌, map, set, if◌then◌else◌, refl, sym, ap, ◌∙◌, subst, ⊎_elim, arith}
use mathlib.Core.Option.{some, some-injective, some-ne-none}
use lib.ListN.{get_elem?}
use Rattle.std.proofs.lemmas.List.{map-append}
use Rattle.std.proofs.lemmas.Bool.Decides.{nat_tests}
use Rattle.atomic_table.proofs.Lists.{at_set, at_snoc}
use Rattle.qm_turn.specs.declared.view.View.{View}
use Rattle.qm_turn.specs.History.{times}
use Rattle.qm_turn.specs.Rule.{total, below}

pub below_next : (t n : ℕ) → below t (n + 1) ≡ below t n + (if n == t then 1 else 0)
below_next t n = grind (arith, nat_tests)

pub below_le : (t n : ℕ) → below t n ≤ 1
below_le t n = grind (arith, nat_tests)

pub below_some : (t n : ℕ) → 1 ≤ below t n → t < n
below_some t n h = grind (arith, nat_tests)

pub below_none : (t n : ℕ) → n ≤ t → below t n ≡ 0
below_none t n h = grind (arith, nat_tests)

pub times_same : (n : ℕ) → times n (n ∷ []) ≡ 1
times_same n = grind (arith, nat_tests)

pub times_first : (n : ℕ) (ns : List ℕ) → times n (n ∷ ns) ≡ 1 + times n ns
times_first n ns = grind (arith, nat_tests)

pub times-append : (k : ℕ) (xs ys : List ℕ) → times k (xs ++ ys) ≡ times k xs + times k ys
times-append k [] ys = omega arith
times-append k (x ∷ xs) ys = let h = times-append k xs ys in omega arith

module _ {N : Type 0} where
  pub total_set : (f : View N → ℕ) (vs : List (View N)) (j : ℕ) (v w : View N) → get_elem? vs j ≡ some v → total f (set vs j w) + f v ≡ total f vs + f w
  total_set f [] j v w e = absurd (some-ne-none v (sym e))
  total_set f (x ∷ xs) zero v w e = let s : f x ≡ f v = ap f (some-injective x v e) in omega arith
  total_set f (x ∷ xs) (suc j) v w e = let h = total_set f xs j v w e in omega arith

  pub total_snoc : (f : View N → ℕ) (vs : List (View N)) (w : View N) → total f (vs ++ w ∷ []) ≡ total f vs + f w
  total_snoc f [] w = omega arith
  total_snoc f (x ∷ xs) w = let h = total_snoc f xs w in omega arith

  pub total_one : (f : View N → ℕ) (vs : List (View N)) (j : ℕ) (v : View N) → get_elem? vs j ≡ some v → f v ≤ total f vs
  total_one f [] j v e = absurd (some-ne-none v (sym e))
  total_one f (x ∷ xs) zero v e = let s : f x ≡ f v = ap f (some-injective x v e) in omega arith
  total_one f (x ∷ xs) (suc j) v e = let h = total_one f xs j v e in omega arith

  pub total_two : (f : View N → ℕ) (vs : List (View N)) (i j : ℕ) (v w : View N) → get_elem? vs i ≡ some v → get_elem? vs j ≡ some w → i ≢ j → f v + f w ≤ total f vs
  total_two f [] i j v w e d apart = absurd (some-ne-none v (sym e))
  total_two f (x ∷ xs) zero zero v w e d apart = absurd (apart refl)
  total_two f (x ∷ xs) zero (suc j) v w e d apart = let s : f x ≡ f v = ap f (some-injective x v e) in let h = total_one f xs j w d in omega arith
  total_two f (x ∷ xs) (suc i) zero v w e d apart = let s : f x ≡ f w = ap f (some-injective x w d) in let h = total_one f xs i v e in omega arith
  total_two f (x ∷ xs) (suc i) (suc j) v w e d apart = let h = total_two f xs i j v w e d (λ k. apart (ap suc k)) in omega arith

  pub total_most : (f g : View N → ℕ) (c : ℕ) (vs : List (View N)) → ((j : ℕ) (v : View N) → get_elem? vs j ≡ some v → f v ≤ c * g v) → total f vs ≤ c * total g vs
  total_most f g c [] each = omega arith
  total_most f g c (x ∷ xs) each = let a = each 0 x refl in let b = total_most f g c xs (λ j v e. each (suc j) v e) in omega arith

  -- what is so of the others and of the new view, is so of each view after the change
  pub each_set : (P : View N → Type 0) (vs : List (View N)) (i : ℕ) (w : View N) → ((j : ℕ) (u : View N) → j ≢ i → get_elem? vs j ≡ some u → P u) → P w → (j : ℕ) (u : View N) → get_elem? (set vs i w) j ≡ some u → P u
  each_set P vs i w others mine j u e =
      ⊎_elim
      (λ (x : (j ≡ i) × (w ≡ u)). subst P x.1 mine)
      (λ (x : (j ≢ i) × (get_elem? vs j ≡ some u)). others j u x.0 x.1)
      (at_set vs i j w u e)

  pub each_snoc : (P : View N → Type 0) (vs : List (View N)) (w : View N) → ((j : ℕ) (u : View N) → get_elem? vs j ≡ some u → P u) → P w → (j : ℕ) (u : View N) → get_elem? (vs ++ w ∷ []) j ≡ some u → P u
  each_snoc P vs w others mine j u e = ⊎_elim (λ (x : get_elem? vs j ≡ some u). others j u x) (λ (x : w ≡ u). subst P x mine) (at_snoc vs w u j e)

  pub at_here : (vs : List (View N)) (i : ℕ) (v w : View N) → get_elem? vs i ≡ some v → get_elem? (set vs i w) i ≡ some w
  at_here [] i v w e = absurd (some-ne-none v (sym e))
  at_here (x ∷ xs) zero v w e = refl
  at_here (x ∷ xs) (suc i) v w e = at_here xs i v w e

-- the numbers of a list without its last
pub times_pop : {A : Type 0} (f : A → ℕ) (n : ℕ) (xs ys : List A) (x : A) → xs ≡ ys ++ x ∷ [] → times n (map f xs) ≡ times n (map f ys) + (if f x == n then 1 else 0)
times_pop f n xs ys x e =
    let p : times n (map f xs) ≡ times n (map f ys ++ f x ∷ []) = ap (λ l. times n (map f l)) e ∙ ap (times n) (map-append f ys (x ∷ [])) in
    let q = times-append n (map f ys) (f x ∷ []) in
    omega arith
