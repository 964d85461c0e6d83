-- What keeps rows in order.
use Rattle.std.proofs.Common.{◌≡◌, ◌∙◌, ℕ, zero, suc, ◌<◌, ◌≤◌, List, [], ◌∷◌, ◌++◌, length, get_or, take, drop, ap, sym, subst, arith, slice_set, Ordering, Less, Greater}
use Rattle.std.specs.List.{All, AllWithin, remove}
use Rattle.std.specs.Ordering.{ordering_reverse}
use Rattle.std.specs.Cmp.{IsTotalOrder}
use Rattle.std.proofs.lemmas.List.{get_or_default}
use Rattle.std.proofs.lemmas.List.Elements.{All-nil}
use Rattle.qm_model.specs.Consistent.{IsInOrder}
use Rattle.qm_keyed.proofs.Pairs.{pairs_nil, pairs_cons, pairs_append, pairs_without, pairs_around, pairs_set}

module _ {X K : Type 0} {R : K → K → Ordering} (o : IsTotalOrder R) (key : X → K) (xs : List X) (order : IsInOrder R key xs) where
  -- one row more, or another one in the place of one, between those with lesser keys and those with greater ones
  pub order_around : (i j : ℕ) (x : X) → i ≤ j → AllWithin (λ y. R (key y) (key x) ≡ Less) xs 0 i → AllWithin (λ y. R (key y) (key x) ≡ Greater) xs j (length xs)
      → IsInOrder R key (take i xs ++ x ∷ drop j xs)
  order_around i j x le lesser greater =
      pairs_around (λ a b. R (key a) (key b) ≡ Less) xs i j x le order lesser
      (λ k d low within. o.antisymm (key x) (key (get_or xs k d)) ∙ ap ordering_reverse (greater k d low within))

  -- one row less
  pub order_removed : (i : ℕ) → IsInOrder R key (remove xs i)
  order_removed i = pairs_without (λ a b. R (key a) (key b) ≡ Less) xs i (suc i) (omega arith) order

  -- another row of the same key
  pub order_set : (i : ℕ) (x d : X) → i < length xs → key x ≡ key (get_or xs i d) → IsInOrder R key (slice_set xs i x)
  order_set i x d within same =
      pairs_set (λ a b. R (key a) (key b) ≡ Less) xs i x within order
      (λ k e low below. subst (λ (m : K). R (key (get_or xs k e)) m ≡ Less) (sym (at e)) (order k i e below within))
      (λ k e low inside. subst (λ (m : K). R m (key (get_or xs k e)) ≡ Less) (sym (at e)) (order i k e (omega (arith, low)) inside))
    where
      at : (e : X) → key x ≡ key (get_or xs i e)
      at e = same ∙ ap key (get_or_default xs i d e within)

  -- a row of a greater key behind the others
  pub order_pushed : (x : X) → All (λ y. R (key y) (key x) ≡ Less) xs → IsInOrder R key (xs ++ x ∷ [])
  order_pushed x lesser =
      pairs_append (λ a b. R (key a) (key b) ≡ Less) xs (x ∷ []) order
      (pairs_cons (λ a b. R (key a) (key b) ≡ Less) x [] (All-nil (λ y. R (key x) (key y) ≡ Less)) (pairs_nil (λ a b. R (key a) (key b) ≡ Less)))
      across
    where
      across : (i j : ℕ) (d : X) → i < length xs → j < length (x ∷ []) → R (key (get_or xs i d)) (key (get_or (x ∷ []) j d)) ≡ Less
      across i zero d below within = lesser i d below
      across i (suc j) d below within = absurd (omega (arith, within))
