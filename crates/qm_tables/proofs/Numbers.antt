-- What a place by number says of entries.
use Rattle.std.proofs.Common.{◌≡◌, ◌∙◌, ℕ, suc, is_some, arith, ◌+◌, ◌<◌, ◌==◌, nat_lt, cond, Bool, true, false, List, [], ◌∷◌, ◌++◌, length, get_or, map, set, Option, Some, None, refl, sym, ap, All, filter, remove, slice_get, nat_cmp, Less, Equal, Greater, lt-ltb}
use Rattle.std.specs.Cmp.{nat_cmp_total, unsigned_ties}
use Rattle.std.proofs.lemmas.List.{get_or-map, length-map, set_split}
use Rattle.std.proofs.lemmas.List.Kept.{AllPairs-filter}
use Rattle.qm_model.specs.Common.{Entry, IsInOrder, entry_numbered, with_entry}
use Rattle.qm_model.specs.Merging.{moved_to, waits_in}
use Rattle.qm_keyed.specs.Places.{StandsAt, BelongsAt}
use Rattle.qm_keyed.proofs.Rows.{PassesAt, passes, fails, find_at, find_is, find_none, filter_at, map_at, lesser_is, next_behind, next_from}
use Rattle.qm_keyed.proofs.Orders.{order_around, order_set, order_removed, order_pushed}
use Rattle.qm_tables.specs.declared.entries.change.Change.{Change}
use Rattle.qm_tables.specs.declared.entries.change.Change.TheVariants.{State, Mark, Again, Home}
use Rattle.qm_tables.specs.Changes.{changed_by}
use Rattle.qm_tables.specs.Entries.{Kept, entry_after}
use Rattle.qm_tables.proofs.Outcomes.{flat_changed, flat_gone, flat_same}

abbrev pub number_of : Entry → ℕ
number_of e = e.number

abbrev pub is_numbered : ℕ → Entry → Bool
is_numbered n e = e.number == n

module _ (entries : List Entry) (n i : ℕ) where
  numbered_at : StandsAt nat_cmp number_of n entries i → PassesAt (is_numbered n) entries i
  numbered_at stands = passes number_of n (is_numbered n) (λ e. unsigned_ties e.number n) entries i stands

  unnumbered : BelongsAt nat_cmp number_of n entries i → All (λ e. is_numbered n e ≡ false) entries
  unnumbered belongs = fails number_of n (is_numbered n) (λ e. unsigned_ties e.number n) entries i belongs

  pub found : StandsAt nat_cmp number_of n entries i → entry_numbered n entries ≡ slice_get entries i
  found stands = find_is (is_numbered n) entries i (numbered_at stands)

  pub found_one : (d : Entry) → StandsAt nat_cmp number_of n entries i → entry_numbered n entries ≡ Some (get_or entries i d)
  found_one d stands = find_at (is_numbered n) entries i d (numbered_at stands)

  pub absent : BelongsAt nat_cmp number_of n entries i → entry_numbered n entries ≡ None
  absent belongs = find_none (is_numbered n) entries (unnumbered belongs)

  pub removed : StandsAt nat_cmp number_of n entries i → remove entries i ≡ with_entry n (λ e. None) entries
  removed stands = sym (flat_gone (is_numbered n) entries ∙ filter_at (is_numbered n) entries i (numbered_at stands))

  pub changed : (change : Entry → Entry) (d : Entry) → StandsAt nat_cmp number_of n entries i → set entries i (change (get_or entries i d)) ≡ with_entry n (λ e. Some (change e)) entries
  changed change d stands = sym (flat_changed (is_numbered n) change entries ∙ map_at (is_numbered n) change entries i d (numbered_at stands))

  pub unchanged : (outcome : Entry → Option Entry) → BelongsAt nat_cmp number_of n entries i → entries ≡ with_entry n outcome entries
  unchanged outcome belongs = sym (flat_same (is_numbered n) outcome entries (unnumbered belongs))

  -- the first entry of a greater number
  pub next_behind_it : StandsAt nat_cmp number_of n entries i → entry_after n entries ≡ slice_get entries (i + 1)
  next_behind_it stands = next_behind nat_cmp_total number_of n (λ (e : Entry). nat_lt n e.number) (λ e. lesser_is n e.number) entries i stands

  pub next_from_there : BelongsAt nat_cmp number_of n entries i → entry_after n entries ≡ slice_get entries i
  next_from_there belongs = next_from nat_cmp_total number_of n (λ (e : Entry). nat_lt n e.number) (λ e. lesser_is n e.number) entries i belongs

pub is_found : (entries : List Entry) (n i : ℕ) → StandsAt nat_cmp number_of n entries i → true ≡ is_some (entry_numbered n entries)
is_found [] n i stands = absurd (omega (arith, stands.within))
is_found (e ∷ entries) n i stands = sym (ap is_some (found_one (e ∷ entries) n i e stands))

-- an entry that is changed where it stands: ys are the entries behind the change
module _ (change : Entry → Entry) where
  pub changed_is : (entries ys : List Entry) (n i : ℕ) → StandsAt nat_cmp number_of n entries i → ((d : Entry) → ys ≡ set entries i (change (get_or entries i d))) → ys ≡ with_entry n (λ e. Some (change e)) entries
  changed_is [] ys n i stands is = absurd (omega (arith, stands.within))
  changed_is (e ∷ entries) ys n i stands is = is e ∙ changed (e ∷ entries) n i change e stands

  pub order_changed : (entries ys : List Entry) (i : ℕ) → i < length entries → ((d : Entry) → ys ≡ set entries i (change (get_or entries i d))) → ((e : Entry) → (change e).number ≡ e.number) → IsInOrder nat_cmp number_of entries → IsInOrder nat_cmp number_of ys
  order_changed [] ys i within is keeps order = absurd (omega (arith, within))
  order_changed (e ∷ entries) ys i within is keeps order =
      rw (is e) (order_set nat_cmp_total number_of (e ∷ entries) order i (change (get_or (e ∷ entries) i e)) e within (keeps (get_or (e ∷ entries) i e)))

-- another entry of the same number
pub order_replaced : (entries : List Entry) (e : Entry) (i : ℕ) → StandsAt nat_cmp number_of e.number entries i → IsInOrder nat_cmp number_of entries → IsInOrder nat_cmp number_of (set entries i e)
order_replaced entries e i stands order =
    rw (set_split entries i e stands.within)
    (order_around nat_cmp_total number_of entries order i (suc i) e (omega arith) stands.before (λ k d low within. stands.behind k d (omega (arith, low)) within))

pub replaced_is : (entries : List Entry) (e : Entry) (i : ℕ) → StandsAt nat_cmp number_of e.number entries i → set entries i e ≡ with_entry e.number (λ x. Some e) entries
replaced_is entries e i stands = changed entries e.number i (λ x. e) e stands

pub order_less : (entries : List Entry) (i : ℕ) → IsInOrder nat_cmp number_of entries → IsInOrder nat_cmp number_of (remove entries i)
order_less entries i order = order_removed nat_cmp_total number_of entries order i

-- fewer entries, or others of the same numbers
pub order_kept : (test : Entry → Bool) (entries : List Entry) → IsInOrder nat_cmp number_of entries → IsInOrder nat_cmp number_of (filter test entries)
order_kept test entries order = AllPairs-filter (λ (a : Entry) (b : Entry). nat_cmp a.number b.number ≡ Less) test entries order

pub order_mapped : (change : Entry → Entry) (entries : List Entry) → ((e : Entry) → (change e).number ≡ e.number) → IsInOrder nat_cmp number_of entries → IsInOrder nat_cmp number_of (map change entries)
order_mapped change entries keeps order = λ i j d low within.
    let size = length-map entries change in
    let first : get_or (map change entries) i d ≡ change (get_or entries i d) = get_or-map change entries i d d (omega (arith, low, within, size)) in
    let second : get_or (map change entries) j d ≡ change (get_or entries j d) = get_or-map change entries j d d (omega (arith, within, size)) in
    rw (first, second, keeps (get_or entries i d), keeps (get_or entries j d)) (order i j d low (omega (arith, within, size)))

-- an entry of a greater number goes behind the others
pub order_inserted : (entries : List Entry) (e : Entry) → IsInOrder nat_cmp number_of entries → All (λ x. x.number < e.number) entries → IsInOrder nat_cmp number_of (entries ++ e ∷ [])
order_inserted entries e order last = order_pushed nat_cmp_total number_of entries order e (λ k d within. less (get_or entries k d) (last k d within))
  where
    less : (x : Entry) → x.number < e.number → nat_cmp x.number e.number ≡ Less
    less x lower = ap (λ (c : Bool). cond c Less (cond (x.number == e.number) Equal Greater)) (lt-ltb x.number e.number lower)

-- what is seen of entries, by its parts
abbrev pub kept_as : List Entry → ℕ → Kept
kept_as entries spare = record { entries = entries; spare = spare }

pub kept_is : (xs ys : List Entry) (k l : ℕ) → xs ≡ ys → k ≡ l → kept_as xs k ≡ kept_as ys l
kept_is xs ys k l entries spare = ap (λ (es : List Entry). kept_as es k) entries ∙ ap (λ (i : ℕ). kept_as ys i) spare

-- no change sets a number
pub number_stays : (change : Change) (e : Entry) → (changed_by change e).number ≡ e.number
number_stays (State state) e = refl
number_stays (Mark mark) e = refl
number_stays Again e = refl
number_stays (Home home) e = refl

-- nor does a merge of queues
number_stays_at : (b : Bool) (to : List ℕ) (e : Entry) → (cond b (record e { home = to }) e).number ≡ e.number
number_stays_at true to e = refl
number_stays_at false to e = refl

pub number_stays_moved : (to from : List ℕ) (e : Entry) → (moved_to to from e).number ≡ e.number
number_stays_moved to from e = number_stays_at (waits_in from e) to e
