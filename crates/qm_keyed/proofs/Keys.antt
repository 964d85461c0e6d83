-- What the place of a key says of rows.
use Rattle.std.proofs.Common.{◌≡◌, ◌∙◌, ℕ, suc, ◌+◌, ◌<◌, Bool, true, false, not, if◌then◌else◌, List, [], ◌∷◌, length, get_or, map, set, Some, None, is_some, sym, ap, arith, All, find, filter, insert, remove, slice_get, is_eq, is_lt, Ordering}
use Rattle.std.specs.Cmp.{IsTotalOrder}
use Rattle.std.proofs.lemmas.List.{take-append-drop, set_split}
use Rattle.qm_model.specs.Common.{IsInOrder, inserted}
use Rattle.qm_keyed.specs.Places.{StandsAt, BelongsAt}
use Rattle.qm_keyed.specs.Rows.{Rows, with_row}
use Rattle.qm_keyed.proofs.Rows.{PassesAt, passes, fails, find_at, find_none, filter_at, filter_none, map_at, map_none, next_behind, next_from}
use Rattle.qm_keyed.proofs.Inserted.{inserted_at}
use Rattle.qm_keyed.proofs.Orders.{order_around, order_set}

-- the keys of rows, and the tests of them
pub record Keys (X K : Type 0) : Type 0 where
  pub cmp : K → K → Ordering
  pub key : X → K
  pub has : K → X → Bool
  pub follows : K → X → Bool
  pub total : IsTotalOrder cmp
  pub has_tests : (wanted : K) (x : X) → has wanted x ≡ is_eq (cmp (key x) wanted)
  pub follows_tests : (wanted : K) (x : X) → follows wanted x ≡ is_lt (cmp wanted (key x))

module _ {X K : Type 0} (k : Keys X K) (wanted : K) (xs : List X) (i : ℕ) where
  stands_alone : StandsAt k.cmp k.key wanted xs i → PassesAt (k.has wanted) xs i
  stands_alone stands = passes k.key wanted (k.has wanted) (k.has_tests wanted) xs i stands

  none_has : BelongsAt k.cmp k.key wanted xs i → All (λ x. k.has wanted x ≡ false) xs
  none_has belongs = fails k.key wanted (k.has wanted) (k.has_tests wanted) xs i belongs

  pub found : (d : X) → StandsAt k.cmp k.key wanted xs i → find (k.has wanted) xs ≡ Some (get_or xs i d)
  found d stands = find_at (k.has wanted) xs i d (stands_alone stands)

  pub absent : BelongsAt k.cmp k.key wanted xs i → find (k.has wanted) xs ≡ None
  absent belongs = find_none (k.has wanted) xs (none_has belongs)

  pub removed : StandsAt k.cmp k.key wanted xs i → remove xs i ≡ filter (λ x. not (k.has wanted x)) xs
  removed stands = sym (filter_at (k.has wanted) xs i (stands_alone stands))

  pub kept : BelongsAt k.cmp k.key wanted xs i → xs ≡ filter (λ x. not (k.has wanted x)) xs
  kept belongs = sym (filter_none (k.has wanted) xs (none_has belongs))

  pub changed : (change : X → X) (d : X) → StandsAt k.cmp k.key wanted xs i → set xs i (change (get_or xs i d)) ≡ map (λ x. if k.has wanted x then change x else x) xs
  changed change d stands = sym (map_at (k.has wanted) change xs i d (stands_alone stands))

  pub unchanged : (change : X → X) → BelongsAt k.cmp k.key wanted xs i → xs ≡ map (λ x. if k.has wanted x then change x else x) xs
  unchanged change belongs = sym (map_none (k.has wanted) change xs (none_has belongs))

  -- the first row of a greater key
  pub next_behind_it : StandsAt k.cmp k.key wanted xs i → find (k.follows wanted) xs ≡ slice_get xs (i + 1)
  next_behind_it stands = next_behind k.total k.key wanted (k.follows wanted) (k.follows_tests wanted) xs i stands

  pub next_from_there : BelongsAt k.cmp k.key wanted xs i → find (k.follows wanted) xs ≡ slice_get xs i
  next_from_there belongs = next_from k.total k.key wanted (k.follows wanted) (k.follows_tests wanted) xs i belongs

module _ {X K : Type 0} (k : Keys X K) (x : X) (xs : List X) (i : ℕ) where
  before : X → X → Bool
  before a b = k.follows (k.key a) b

  -- a row that is put in its place, or in the place of another one,
  pub inserted_is : BelongsAt k.cmp k.key (k.key x) xs i → insert xs i x ≡ inserted (λ a b. k.follows (k.key a) b) x xs
  unfolding before
  inserted_is belongs =
      sym (inserted_at k.total k.key before x (λ y. k.follows_tests (k.key x) y) xs i i belongs.before belongs.behind)
      ∙ ap (inserted before x) (take-append-drop i xs)

  pub put_is : BelongsAt k.cmp k.key (k.key x) xs i → insert xs i x ≡ with_row k.has k.follows k.key x xs
  unfolding before
  put_is belongs = inserted_is belongs ∙ ap (inserted before x) (kept k (k.key x) xs i belongs)

  pub replaced_is : StandsAt k.cmp k.key (k.key x) xs i → set xs i x ≡ with_row k.has k.follows k.key x xs
  unfolding before
  replaced_is stands =
      set_split xs i x stands.within
      ∙ sym (inserted_at k.total k.key before x (λ y. k.follows_tests (k.key x) y) xs i (suc i) stands.before (λ j d low within. stands.behind j d (omega (arith, low)) within))
      ∙ ap (inserted before x) (removed k (k.key x) xs i stands)

  -- keeps the order
  pub order_put : IsInOrder k.cmp k.key xs → BelongsAt k.cmp k.key (k.key x) xs i → IsInOrder k.cmp k.key (insert xs i x)
  order_put order belongs = order_around k.total k.key xs order i i x (omega arith) belongs.before belongs.behind

  pub order_replaced : IsInOrder k.cmp k.key xs → StandsAt k.cmp k.key (k.key x) xs i → IsInOrder k.cmp k.key (set xs i x)
  order_replaced order stands =
      rw (set_split xs i x stands.within)
      (order_around k.total k.key xs order i (suc i) x (omega arith) stands.before (λ j d low within. stands.behind j d (omega (arith, low)) within))

-- a row that is changed where it stands: ys are the rows behind the change
module _ {X K : Type 0} (k : Keys X K) (change : X → X) where
  pub changed_is : (xs ys : List X) (wanted : K) (i : ℕ) → StandsAt k.cmp k.key wanted xs i → ((d : X) → ys ≡ set xs i (change (get_or xs i d))) → ys ≡ map (λ x. if k.has wanted x then change x else x) xs
  changed_is [] ys wanted i stands is = absurd (omega (arith, stands.within))
  changed_is (x ∷ xs) ys wanted i stands is = is x ∙ changed k wanted (x ∷ xs) i change x stands

  pub order_changed : (xs ys : List X) (i : ℕ) → i < length xs → ((d : X) → ys ≡ set xs i (change (get_or xs i d))) → ((x : X) → k.key (change x) ≡ k.key x) → IsInOrder k.cmp k.key xs → IsInOrder k.cmp k.key ys
  order_changed [] ys i within is keeps order = absurd (omega (arith, within))
  order_changed (x ∷ xs) ys i within is keeps order =
      rw (is x) (order_set k.total k.key (x ∷ xs) order i (change (get_or (x ∷ xs) i x)) x within (keeps (get_or (x ∷ xs) i x)))

pub is_found : {X K : Type 0} (k : Keys X K) (xs : List X) (wanted : K) (i : ℕ) → StandsAt k.cmp k.key wanted xs i → true ≡ is_some (find (k.has wanted) xs)
is_found k [] wanted i stands = absurd (omega (arith, stands.within))
is_found k (x ∷ xs) wanted i stands = sym (ap is_some (found k wanted (x ∷ xs) i x stands))

-- what is seen of rows, by its parts
abbrev pub rows_as : {X : Type 0} → List X → ℕ → Rows X
rows_as xs spare = record { rows = xs; spare = spare }

pub rows_are : {X : Type 0} (xs ys : List X) (m n : ℕ) → xs ≡ ys → m ≡ n → rows_as xs m ≡ rows_as ys n
rows_are xs ys m n rows spare = ap (λ (zs : List _). rows_as zs m) rows ∙ ap (λ (i : ℕ). rows_as ys i) spare
