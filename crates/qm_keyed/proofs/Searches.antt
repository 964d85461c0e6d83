-- What a binary search finds in rows that are in order.
use Rattle.std.proofs.Common.{◌≡◌, ◌∙◌, ℕ, ◌+◌, List, length, get_or, Result, Ok, Err, ap, sym, arith, Ordering}
use Rattle.std.specs.Ordering.{ordering_reverse, is_lt}
use Rattle.std.specs.Cmp.{IsTotalOrder, alike_right}
use denote.Param.Members.{Mut}
use denote.Ref.{Bor}
use Rattle.std.specs.Fn.{Called, ComputesKey}
use Rattle.std.specs.List.Sorted.{IsSearchInRange, IsBinarySearchResult, IsSortedBy}
use Rattle.std.proofs.lemmas.Fn.{always_returns_same}
use Rattle.std.proofs.lemmas.List.Sorted.{searchable_from_sorted}
use Rattle.qm_model.specs.Consistent.{IsInOrder}
use Rattle.qm_keyed.specs.Places.{IsPlace}

module _ {X K : Type 0} {R : K → K → Ordering} (o : IsTotalOrder R) (key : X → K) (wanted : K) (rows : List X) (order : IsInOrder R key rows) where
  sorted : IsSortedBy (λ a b. is_lt (R (key a) (key b))) rows
  sorted i d low within =
      ap is_lt (o.antisymm (key (get_or rows (i + 1) d)) (key (get_or rows i d)) ∙ ap ordering_reverse (order i (i + 1) d (omega arith) within))

  pub place_from_search : (r : Result ℕ ℕ) → IsSearchInRange r (length rows) → IsBinarySearchResult (λ row. R (key row) wanted) rows r → IsPlace R key wanted rows r
  place_from_search (Ok i) range found = record {
    within = range;
    before = λ k d low below. sym (alike_right o (key (get_or rows i d)) wanted (key (get_or rows k d)) (found d)) ∙ order k i d below range;
    here = found;
    behind = λ k d low within.
        o.antisymm (key (get_or rows k d)) wanted
        ∙ ap ordering_reverse (sym (o.congr (key (get_or rows i d)) wanted (key (get_or rows k d)) (found d)) ∙ order i k d (omega (arith, low)) within);
  }
  place_from_search (Err i) range found =
      let point = found (searchable_from_sorted o key rows wanted sorted) in
      record { within = range; before = point.0; behind = point.1 }

  -- by the clauses of a search whose closure compares the keys
  pub place_from_clause : {F : Type 0} {g : Mut F (Bor X × Unit {0}) Ordering} {f : F} (r : Result ℕ ℕ) → IsSearchInRange r (length rows)
      → ((ord : X → Ordering) → ComputesKey g ord f → IsBinarySearchResult ord rows r)
      → ((a : Bor X × Unit {0}) (q : Ordering) (f' : F) → Called g f a q f' → (q ≡ R (key a.0.now) wanted) × (f' ≡ f))
      → IsPlace R key wanted rows r
  place_from_clause {g = g} {f = f} r range clause computes =
      place_from_search r range (clause (λ row. R (key row) wanted) (always_returns_same g (λ a q. q ≡ R (key a.0.now) wanted) f computes))
