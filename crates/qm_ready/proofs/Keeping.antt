-- What an insertion and a removal make of a row, and keep.
use Rattle.std.proofs.Common.{◌≡◌, ◌≢◌, ◌∙◌, ℕ, ◌+◌, ◌==◌, true, false, not, List, [], ◌∷◌, length, get_or, take, drop, IfSome, sym, ap, arith, get_or-take, get_or-drop, length-take, length-drop, take-append-drop}
use Rattle.std.specs.List.{All, AllWithin, insert}
use Rattle.std.proofs.lemmas.List.Kept.{AllPairs-filter}
use Rattle.std.proofs.lemmas.List.Elements.{All-cons}
use Rattle.qm_model.specs.Inserting.{inserted}
use Rattle.qm_match.specs.declared.order.Key.{Key}
use Rattle.qm_match.specs.declared.order.Schedule.{Schedule}
use Rattle.qm_match.specs.Keys.{comes_before}
use Rattle.qm_keyed.proofs.Pairs.{pairs_around, pairs_first}
use Rattle.qm_keyed.proofs.Inserted.{inserted_between}
use Rattle.qm_ready.specs.Rows.{Row, IsRow, first_key, with_key, without}
use Rattle.qm_ready.specs.Kept.{IsPlaceOf}
use Rattle.qm_ready.proofs.Orders.{before-itself, before-one_way, before-other}

-- what is seen of a row, by its parts
abbrev pub row_of : Schedule → List Key → ℕ → Row
row_of s keys n = record { schedule = s; keys = keys; spare = n }

pub row_is : (s : Schedule) (xs ys : List Key) (m n : ℕ) → xs ≡ ys → m ≡ n → row_of s xs m ≡ row_of s ys n
row_is s xs ys m n same_keys same_spare = ap (λ (l : List Key). row_of s l m) same_keys ∙ ap (λ (k : ℕ). row_of s ys k) same_spare

-- one key more, whose number is none of the others'
module _ (s : Schedule) (keys : List Key) (i : ℕ) (key : Key) (place : IsPlaceOf s key keys i) (others : All (λ k. k.number ≢ key.number) keys) where
  behind : AllWithin (λ k. comes_before s key k ≡ true) keys i (length keys)
  behind k d low within = before-other s key (get_or keys k d) (λ same. others k d within (sym same)) (place.behind k d low within)

  -- an insertion at its place is the one in order
  pub put_is : insert keys i key ≡ with_key s key keys
  put_is = sym (inserted_between (comes_before s) key (take i keys) (drop i keys) front back) ∙ ap (λ (l : List Key). inserted (comes_before s) key l) (take-append-drop i keys)
    where
      front : All (λ k. comes_before s key k ≡ false) (take i keys)
      front k d within =
          let size = length-take i keys in
          rw (get_or-take i keys k d (omega (arith, within, size))) (before-one_way s (get_or keys k d) key (place.before k d (omega arith) (omega (arith, within, size))))

      back : All (λ k. comes_before s key k ≡ true) (drop i keys)
      back k d within =
          let size = length-drop i keys in
          rw (get_or-drop i keys k d) (behind (i + k) d (omega arith) (omega (arith, within, size)))

  pub row_put : IsRow s keys → IsRow s (insert keys i key)
  row_put row = record {
    order = pairs_around (λ (a b : Key). comes_before s a b ≡ true) keys i i key (omega arith) row.order place.before behind;
    once = pairs_around (λ (a b : Key). a.number ≢ b.number) keys i i key (omega arith) row.once
        (λ k d low below. others k d (omega (arith, below, place.within)))
        (λ k d low within same. others k d within (sym same));
  }

-- the keys but one
pub row_without : (s : Schedule) (keys : List Key) (n : ℕ) → IsRow s keys → IsRow s (without n keys)
row_without s keys n row = record {
  order = AllPairs-filter (λ (a b : Key). comes_before s a b ≡ true) (λ k. not (k.number == n)) keys row.order;
  once = AllPairs-filter (λ (a b : Key). a.number ≢ b.number) (λ k. not (k.number == n)) keys row.once;
}

-- no key comes before the first one
pub least_is : (s : Schedule) (keys : List Key) → IsRow s keys → IfSome (first_key keys) (λ first. All (λ k. comes_before s k first ≡ false) keys)
least_is s [] row = tt
least_is s (k ∷ ks) row =
    All-cons (λ u. comes_before s u k ≡ false) k ks (before-itself s k) (λ i d within.
    before-one_way s k (get_or ks i d) (pairs_first (λ (a b : Key). comes_before s a b ≡ true) k ks row.order i d within))
