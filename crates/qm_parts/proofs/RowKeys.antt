-- What a change of one row makes of its keys.
use Rattle.std.proofs.Common.{◌≡◌, ◌≢◌, ◌∙◌, ℕ, ◌+◌, ◌<◌, ◌≤◌, ◌==◌, Bool, true, false, cond, ◌&&◌, List, [], ◌∷◌, ◌++◌, length, get_or, take, map, filter, Option, None, Some, is_some, refl, sym, ap, subst, arith, IsSome, All, AllPairs, nat_cmp, Less}
use Rattle.std.specs.Option.{option_map_or, option_and_then}
use Rattle.std.proofs.lemmas.Bool.Decides.{nat_tests}
use Rattle.std.proofs.lemmas.List.{append-nil, map-append}
use Rattle.std.proofs.lemmas.List.Elements.{All-head, All-tail, All-cons, All-nil, filter_more}
use Rattle.std.proofs.lemmas.List.Kept.{AllPairs-filter}
use Rattle.std.proofs.lemmas.List.Sums.{length-filter}
use Rattle.std.proofs.lemmas.Option.{same_Some}
use Rattle.qm_model.specs.Common.{Entry, Queue, IsInOrder, entry_numbered, fits, no_system}
use Rattle.qm_keyed.proofs.Pairs.{pairs_nil, pairs_cons, pairs_first, pairs_tail}
use Rattle.qm_match.specs.declared.order.Key.{Key}
use Rattle.qm_match.specs.Keys.{key_of, schedule_of}
use Rattle.qm_ready.specs.Rows.{Row, HasNumbersOnce, key_numbered, is_key, has_key}
use Rattle.qm_ready.proofs.Jobs.{no_more}
use Rattle.qm_ready.proofs.Numbers.{absent_all}
use Rattle.qm_parts.specs.Ready.{key_where_ready, ready_key, without_number, IsRowOf}
use Rattle.qm_parts.specs.Rooms.{reach}
use Rattle.qm_renewal.specs.Renewing.{room_of}
use Rattle.qm_parts.specs.Tables.{Tables, with_tables}
use Rattle.qm_parts.proofs.Reach.{fitting_reach}
use Rattle.qm_parts.proofs.ReadyKeys.{itself, same_number}

-- ---- the key of an entry goes or comes

still_at : (p : Entry → Bool) (m : ℕ) (x y : Entry) (ys : List Entry) (a b : Bool) → (y.number == m) ≡ a → p y ≡ b → cond a (Some y) (entry_numbered m ys) ≡ Some x → p x ≡ true
    → (entry_numbered m ys ≡ Some x → is_some (entry_numbered m (filter p ys)) ≡ true) → is_some (entry_numbered m (cond b (y ∷ filter p ys) (filter p ys))) ≡ true
still_at p m x y ys true true is also found passes later = ap (λ (c : Bool). is_some (cond c (Some y) (entry_numbered m (filter p ys)))) is
still_at p m x y ys true false is also found passes later = let same : y ≡ x = same_Some y x found in absurd (let no : false ≡ true = sym also ∙ ap p same ∙ passes in cc)
still_at p m x y ys false true is also found passes later = ap (λ (c : Bool). is_some (cond c (Some y) (entry_numbered m (filter p ys)))) is ∙ later found
still_at p m x y ys false false is also found passes later = later found

-- what is found under a number, and passes, is found among those that pass
still_numbered : (p : Entry → Bool) (m : ℕ) (x : Entry) (es : List Entry) → entry_numbered m es ≡ Some x → p x ≡ true → is_some (entry_numbered m (filter p es)) ≡ true
still_numbered p m x [] found passes = absurd (cc)
still_numbered p m x (y ∷ ys) found passes = still_at p m x y ys (y.number == m) (p y) refl refl found passes (λ later. still_numbered p m x ys later passes)

only_some : (b : Bool) (k : Key) → is_some (cond b (Some k) None) ≡ true → b ≡ true
only_some true k h = refl
only_some false k h = absurd (cc)

its_key : (k : Key) → is_key k k ≡ true
its_key k = ap (λ (b : Bool). b && k.size == k.size && k.number == k.number) (itself k.priority) ∙ ap (λ (b : Bool). b && k.number == k.number) (itself k.size) ∙ itself k.number

module _ (t : Tables) (q : Queue) (e : Entry) (there : entry_numbered e.number t.entries ≡ Some e) where
  ready_is : ready_key t q e.number ≡ key_where_ready t q e
  ready_is = ap (option_and_then (key_where_ready t q)) there

  abbrev fitting : Entry → Bool
  fitting x = fits (with_tables no_system t) x q

  abbrev fit : Bool
  fit = fitting e

  found_is : (old : Row) → IsRowOf q (ready_key t q) old → has_key (key_of e) old.keys ≡ fit
  found_is old is = ap (λ (o : Option Key). option_map_or (is_key (key_of e)) o false) (is.keys e.number ∙ ready_is) ∙ at_it fit
    where
      at_it : (b : Bool) → option_map_or (is_key (key_of e)) (cond b (Some (key_of e)) None) false ≡ b
      at_it true = its_key (key_of e)
      at_it false = refl

  pub none_under : key_where_ready t q e ≡ None → (m : ℕ) → ready_key t q m ≡ cond (e.number == m) None (ready_key t q m)
  none_under none m = at_it (e.number == m) refl
    where
      at_it : (c : Bool) → (e.number == m) ≡ c → ready_key t q m ≡ cond c None (ready_key t q m)
      at_it true same = ap (ready_key t q) (sym (same_number e.number m same)) ∙ ready_is ∙ none
      at_it false same = refl

  gone_at : (m : ℕ) (found b : Bool) → found ≡ b → fit ≡ b → cond (found && (e.number == m)) None (ready_key t q m) ≡ cond (e.number == m) None (ready_key t q m)
  gone_at m found true is also = ap (λ (b : Bool). cond (b && (e.number == m)) None (ready_key t q m)) is
  gone_at m found false is also =
      ap (λ (b : Bool). cond (b && (e.number == m)) None (ready_key t q m)) is ∙ none_under (ap (λ (b : Bool). cond b (Some (key_of e)) None) also) m

  -- it goes from the row,
  pub forgotten : (old new : Row) (found : Bool) → IsRowOf q (ready_key t q) old → found ≡ has_key (key_of e) old.keys → new.schedule ≡ old.schedule
      → ((m : ℕ) → key_numbered m new.keys ≡ cond (found && (e.number == m)) None (key_numbered m old.keys)) → IsRowOf q (without_number e.number (ready_key t q)) new
  forgotten old new found is has schedule each = record {
    schedule = schedule ∙ is.schedule;
    keys = λ m. each m ∙ ap (λ (o : Option Key). cond (found && (e.number == m)) None o) (is.keys m) ∙ gone_at m found fit (has ∙ found_is old is) refl;
  }

  module _ (old : Row) (is : IsRowOf q (without_number e.number (ready_key t q)) old) where
    pub absent : key_numbered e.number old.keys ≡ None
    absent = is.keys e.number ∙ ap (λ (b : Bool). cond b None (ready_key t q e.number)) (itself e.number)

    -- its entry stands in none of the row's places
    others : All (λ k. e.number ≢ k.number) old.keys
    others i d within = λ same. absent_all e.number old.keys absent i d within (sym same)

    pub once_with : HasNumbersOnce old.keys → HasNumbersOnce (key_of e ∷ old.keys)
    once_with once = pairs_cons (λ (a b : Key). a.number ≢ b.number) (key_of e) old.keys others once

    fitting_at : (m : ℕ) (o : Option Entry) → entry_numbered m t.entries ≡ o → is_some (option_and_then (key_where_ready t q) o) ≡ true → is_some (entry_numbered m (filter fitting t.entries)) ≡ true
    fitting_at m None found has = absurd (cc)
    fitting_at m (Some x) found has = still_numbered fitting m x t.entries found (only_some (fitting x) (key_of x) has)

    each_fits : fit ≡ true → (m : ℕ) → IsSome (key_numbered m (key_of e ∷ old.keys)) → IsSome (entry_numbered m (filter fitting t.entries))
    each_fits fits_it m has = at_it (e.number == m) refl has
      where
        at_it : (c : Bool) → (e.number == m) ≡ c → is_some (cond c (Some (key_of e)) (key_numbered m old.keys)) ≡ true → is_some (entry_numbered m (filter fitting t.entries)) ≡ true
        at_it true same some = subst (λ (n : ℕ). is_some (entry_numbered n (filter fitting t.entries)) ≡ true) (same_number e.number m same) (still_numbered fitting e.number e t.entries there fits_it)
        at_it false same some =
            fitting_at m (entry_numbered m t.entries) refl
            (ap is_some (sym (is.keys m ∙ ap (λ (b : Bool). cond b None (ready_key t q m)) same)) ∙ some)

    -- and there is room for it, where there is room for each job that may come
    pub has_room : HasNumbersOnce old.keys → fit ≡ true → reach t.queues t.entries q ≤ room_of old → 0 < old.spare
    has_room once fits_it room =
        omega (
          arith,
          room,
          no_more (key_of e ∷ old.keys) (filter fitting t.entries) (once_with once) (each_fits fits_it),
          length-filter fitting t.entries,
          fitting_reach (with_tables no_system t) q t.entries,
        )

-- ---- the keys of a walk over the entries

less_differs : (m n : ℕ) → nat_cmp m n ≡ Less → m ≢ n
less_differs m n less = grind (arith, nat_tests)

less_other : (m n k : ℕ) → nat_cmp m n ≡ Less → (m == k) ≡ true → (n == k) ≡ false
less_other m n k less is = grind (arith, nat_tests)

abbrev Below : Entry → Entry → Type 0
Below a b = nat_cmp a.number b.number ≡ Less

all_differ : (n : ℕ) (es : List Entry) → All (λ e. nat_cmp n e.number ≡ Less) es → All (λ k. n ≢ k.number) (map key_of es)
all_differ n [] less = All-nil (λ k. n ≢ k.number)
all_differ n (e ∷ es) less =
    All-cons (λ k. n ≢ k.number) (key_of e) (map key_of es) (less_differs n e.number (All-head (λ (x : Entry). nat_cmp n x.number ≡ Less) e es less))
    (all_differ n es (All-tail (λ (x : Entry). nat_cmp n x.number ≡ Less) e es less))

once_mapped : (es : List Entry) → AllPairs Below es → HasNumbersOnce (map key_of es)
once_mapped [] order = pairs_nil (λ (a b : Key). a.number ≢ b.number)
once_mapped (e ∷ es) order =
    pairs_cons (λ (a b : Key). a.number ≢ b.number) (key_of e) (map key_of es) (all_differ e.number es (pairs_first Below e es order)) (once_mapped es (pairs_tail Below e es order))

-- no number stands twice,
pub gathered_once : (p : Entry → Bool) (es : List Entry) → IsInOrder nat_cmp (λ (e : Entry). e.number) es → HasNumbersOnce (map key_of (filter p es))
gathered_once p es order = once_mapped (filter p es) (AllPairs-filter Below p es order)

none_behind : (n m : ℕ) (es : List Entry) → All (λ e. nat_cmp n e.number ≡ Less) es → (n == m) ≡ true → entry_numbered m es ≡ None
none_behind n m [] less same = refl
none_behind n m (e ∷ es) less same =
    ap (λ (b : Bool). cond b (Some e) (entry_numbered m es)) (less_other n e.number m (All-head (λ (x : Entry). nat_cmp n x.number ≡ Less) e es less) same)
    ∙ none_behind n m es (All-tail (λ (x : Entry). nat_cmp n x.number ≡ Less) e es less) same

module _ (p : Entry → Bool) (m : ℕ) where
  abbrev wanted : Entry → Option Key
  wanted e = cond (p e) (Some (key_of e)) None

  gathered_at : (e : Entry) (es : List Entry) (b c : Bool) → p e ≡ b → (e.number == m) ≡ c → All (λ x. nat_cmp e.number x.number ≡ Less) es
      → key_numbered m (map key_of (filter p es)) ≡ option_and_then wanted (entry_numbered m es)
      → key_numbered m (map key_of (cond b (e ∷ filter p es) (filter p es))) ≡ option_and_then wanted (cond c (Some e) (entry_numbered m es))
  gathered_at e es true true is same less later =
      ap (λ (b : Bool). cond b (Some (key_of e)) (key_numbered m (map key_of (filter p es)))) same ∙ sym (ap (λ (b : Bool). cond b (Some (key_of e)) None) is)
  gathered_at e es true false is same less later = ap (λ (b : Bool). cond b (Some (key_of e)) (key_numbered m (map key_of (filter p es)))) same ∙ later
  gathered_at e es false true is same less later =
      later ∙ ap (option_and_then wanted) (none_behind e.number m es less same) ∙ sym (ap (λ (b : Bool). cond b (Some (key_of e)) None) is)
  gathered_at e es false false is same less later = later

  -- and each has its key, where its job passes
  pub gathered : (es : List Entry) → AllPairs Below es → key_numbered m (map key_of (filter p es)) ≡ option_and_then wanted (entry_numbered m es)
  gathered [] order = refl
  gathered (e ∷ es) order = gathered_at e es (p e) (e.number == m) refl refl (pairs_first Below e es order) (gathered es (pairs_tail Below e es order))

-- one entry more of the walk
module _ (p : Entry → Bool) (es : List Entry) (i : ℕ) (e : Entry) (within : i < length es) (is : get_or es i e ≡ e) where
  more : filter p (take (i + 1) es) ≡ filter p (take i es) ++ cond (p e) (e ∷ []) []
  more = filter_more p es i e within ∙ ap (λ (x : Entry). filter p (take i es) ++ cond (p x) (x ∷ []) []) is

  pub key_taken : p e ≡ true → map key_of (filter p (take i es)) ++ key_of e ∷ [] ≡ map key_of (filter p (take (i + 1) es))
  key_taken passes =
      sym (ap (map key_of) (more ∙ ap (λ (b : Bool). filter p (take i es) ++ cond b (e ∷ []) []) passes) ∙ map-append key_of (filter p (take i es)) (e ∷ []))

  pub key_passed : p e ≡ false → map key_of (filter p (take i es)) ≡ map key_of (filter p (take (i + 1) es))
  key_passed fails = sym (ap (map key_of) (more ∙ ap (λ (b : Bool). filter p (take i es) ++ cond b (e ∷ []) []) fails ∙ append-nil (filter p (take i es))))

-- so a row of them is that of the queue
pub filled : (t : Tables) (q : Queue) (row : Row) (keys : List Key) → IsInOrder nat_cmp (λ (e : Entry). e.number) t.entries
    → keys ≡ map key_of (filter (λ e. fits (with_tables no_system t) e q) t.entries) → row.schedule ≡ schedule_of q → ((m : ℕ) → key_numbered m row.keys ≡ key_numbered m keys) → IsRowOf q (ready_key t q) row
filled t q row keys order are schedule each = record {
  schedule = schedule;
  keys = λ m. each m ∙ ap (key_numbered m) are ∙ gathered (λ e. fits (with_tables no_system t) e q) m t.entries order;
}
