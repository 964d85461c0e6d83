-- What stands at the place of a key.
use Rattle.std.proofs.Common.{◌≡◌, ◌≢◌, ◌∙◌, ℕ, zero, suc, ◌<◌, ◌==◌, Bool, true, false, cond, List, [], ◌∷◌, length, get_or, Option, Some, None, refl, sym, arith, All, remove, slice_get}
use Rattle.std.specs.Option.{option_map_or}
use Rattle.std.proofs.lemmas.Bool.Decides.{nat_tests}
use Rattle.qm_match.specs.declared.order.Key.{Key}
use Rattle.qm_match.specs.declared.order.Schedule.{Schedule}
use Rattle.qm_match.specs.declared.order.Schedule.TheVariants.{BySize, ByNumber}
use Rattle.qm_match.specs.Keys.{comes_before}
use Rattle.qm_keyed.proofs.Pairs.{pairs_first, pairs_tail}
use Rattle.qm_keyed.proofs.Rows.{filter_at}
use Rattle.qm_ready.specs.Rows.{IsRow, HasNumbersOnce, has_key, is_key, key_numbered, without}
use Rattle.qm_ready.specs.Kept.{IsPlaceOf}
use Rattle.qm_ready.proofs.Numbers.{numbered-All}

-- a key that comes before another isn't the same
not_before : (s : Schedule) (key u : Key) → comes_before s u key ≡ true → is_key key u ≡ false
not_before BySize key u before = grind (arith, nat_tests)
not_before ByNumber key u before = grind (arith, nat_tests)

-- nor is one that stands behind a key which doesn't come before it
not_behind : (s : Schedule) (key u v : Key) → comes_before s u key ≡ false → comes_before s u v ≡ true → is_key key v ≡ false
not_behind BySize key u v not_before before = grind (arith, nat_tests)
not_behind ByNumber key u v not_before before = grind (arith, nat_tests)

not_numbered : (key u : Key) → (u.number == key.number) ≡ false → is_key key u ≡ false
not_numbered key u other = grind (arith, nat_tests)

place_tail : (s : Schedule) (key u : Key) (us : List Key) (i : ℕ) → IsPlaceOf s key (u ∷ us) (suc i) → IsPlaceOf s key us i
place_tail s key u us i place = record {
  within = omega (arith, place.within);
  before = λ k d low below. place.before (suc k) d (omega arith) (omega (arith, below));
  behind = λ k d low within. place.behind (suc k) d (omega (arith, low)) (omega (arith, within));
}

pub row_tail : (s : Schedule) (u : Key) (us : List Key) → IsRow s (u ∷ us) → IsRow s us
row_tail s u us row = record {
  order = pairs_tail (λ (a b : Key). comes_before s a b ≡ true) u us row.order;
  once = pairs_tail (λ (a b : Key). a.number ≢ b.number) u us row.once;
}

-- none of these keys is just this one
lacks : (key : Key) (ks : List Key) → All (λ k. is_key key k ≡ false) ks → has_key key ks ≡ false
lacks key ks all = step (key_numbered key.number ks) refl
  where
    step : (o : Option Key) → key_numbered key.number ks ≡ o → option_map_or (is_key key) o false ≡ false
    step None is = refl
    step (Some k) is = numbered-All (λ k. is_key key k ≡ false) key.number ks k is all

-- just the key is there if it stands at its place
pub stands_is : (s : Schedule) (keys : List Key) (i : ℕ) (key : Key) → IsRow s keys → IsPlaceOf s key keys i → option_map_or (is_key key) (slice_get keys i) false ≡ has_key key keys
stands_is s [] i key row place = refl
stands_is s (u ∷ us) zero key row place =
    let not_first : comes_before s u key ≡ false = place.behind 0 u (omega arith) (omega arith) in
    let behind : All (λ k. is_key key k ≡ false) us = λ k d within. not_behind s key u (get_or us k d) not_first (pairs_first (λ (a b : Key). comes_before s a b ≡ true) u us row.order k d within) in
    step (u.number == key.number) refl (lacks key us behind)
  where
    step : (b : Bool) → (u.number == key.number) ≡ b → has_key key us ≡ false → is_key key u ≡ option_map_or (is_key key) (cond b (Some u) (key_numbered key.number us)) false
    step true is none = refl
    step false is none = not_numbered key u is ∙ sym none
stands_is s (u ∷ us) (suc i) key row place =
    let first : comes_before s u key ≡ true = place.before 0 u (omega arith) (omega arith) in
    let later = stands_is s us i key (row_tail s u us row) (place_tail s key u us i place) in
    later ∙ step (u.number == key.number) refl (not_before s key u first)
  where
    others : All (λ v. u.number ≢ v.number) us
    others = pairs_first (λ (a b : Key). a.number ≢ b.number) u us row.once

    none : u.number ≡ key.number → has_key key us ≡ false
    none same = lacks key us (λ k d within. not_numbered key (get_or us k d) (let other = others k d within in grind (arith, nat_tests)))

    step : (b : Bool) → (u.number == key.number) ≡ b → is_key key u ≡ false → has_key key us ≡ option_map_or (is_key key) (cond b (Some u) (key_numbered key.number us)) false
    step true is other = none (grind (arith, nat_tests)) ∙ sym other
    step false is other = refl

-- where it stands, a key of its number stands
pub record StandsAt (keys : List Key) (i n : ℕ) : Type 0 where
  pub within : i < length keys
  pub here : (d : Key) → (get_or keys i d).number ≡ n

number_of : (key u : Key) → is_key key u ≡ true → u.number ≡ key.number
number_of key u same = grind (arith, nat_tests)

pub stands : (keys : List Key) (i : ℕ) (key : Key) → option_map_or (is_key key) (slice_get keys i) false ≡ true → StandsAt keys i key.number
stands [] i key is = absurd (cc)
stands (u ∷ us) zero key is = record { within = omega arith; here = λ d. number_of key u is }
stands (u ∷ us) (suc i) key is = let later = stands us i key is in record { within = omega (arith, later.within); here = later.here }

-- to take it out is to be without its number
pub taken_out : (keys : List Key) (i n : ℕ) → HasNumbersOnce keys → StandsAt keys i n → remove keys i ≡ without n keys
taken_out keys i n once at = sym (filter_at (λ (k : Key). k.number == n) keys i (record {
  within = at.within;
  before = λ k d low below. let other : (get_or keys k d).number ≢ (get_or keys i d).number = once k i d below at.within in let here = at.here d in grind (arith, nat_tests);
  here = λ d. let here = at.here d in grind (arith, nat_tests);
  behind = λ k d low within. let other : (get_or keys i d).number ≢ (get_or keys k d).number = once i k d (omega (arith, low)) within in let here = at.here d in grind (arith, nat_tests);
}))
