-- Characteristics that are defined or deleted leave a sound system.
use Rattle.std.proofs.Common.{◌≡◌, ◌≢◌, ℕ, ◌≤◌, ◌^◌, Bool, true, false, not, List, [], ◌∷◌, get_or, refl, sym, ◌∙◌, ap, subst, arith, Option, None, Some, All, Contains, filter, map, ◌==◌, nat_lt, is_some, is_none, IsBitSet, bit_and, nat_cmp, bytes_eq, Less}
use Rattle.std.specs.Option.{option_map_or}
use Rattle.std.proofs.lemmas.Bool.Decides.{nat_tests, Decides-eqb}
use Rattle.std.proofs.lemmas.List.Elements.{All-map, All-weaker, All-contains, All-filter}
use Rattle.std.proofs.lemmas.List.Kept.{AllPairs-filter}
use Rattle.std.proofs.lemmas.Slice.Eq.{bytes_eq-Decides}
use Rattle.qm_model.specs.Common.{Entry, Characteristic, LAST_CHARACTERISTIC, Queue, Refusal, Name, Number, System, is_characteristic, characteristic_wanted, refused_where, with_characteristic_defined, refused_by_queue, refused_by_entry}
use Rattle.qm_kinds.specs.declared.refusal.Refusal.TheVariants.{BadValue, DuplicateCharacteristic, NoSuchCharacteristic}
use Rattle.qm_model.specs.Consistent.{IsDefinable, AreCharacteristics, AreDefined, IsEntry}
use Rattle.qm_model.specs.Characteristics.{is_characteristic_taken, define_characteristic_refusal, characteristic_defined, has_number, has_named, delete_characteristic_refusal, characteristic_deleted}
use Rattle.qm_model.proofs.SettlingLemmas.{IsIn}
use Rattle.qm_model.proofs.ListLemmas.{Pairs, pairs_of, all_pairs_of, contains_in}
use Rattle.qm_model.proofs.InsertLemmas.{all_inserted, order_inserted, apart_inserted, in_inserted, not_found, in_kept, found_only, all_in}
use Rattle.qm_model.proofs.ChangeLemmas.{IsSound, IsSoundQueue, sound_of_definitions}
use Rattle.qm_model.proofs.SubmitLemmas.{number_in}
use Rattle.qm_model.proofs.RefusalLemmas.{at_most, not_false, none_first, not_refused, none_by_queue, none_by_entry, or_false_left, or_false_right}

-- ---- other characteristics

module _ (s : System) (cs : List Characteristic) where
  abbrev pub of_characteristics : System
  of_characteristics = record s { characteristics = cs }

  characteristics_change : IsSound s → AreCharacteristics cs → All (λ (q : Queue). AreDefined q.characteristics.0 cs) s.queues → All (λ (x : Entry). AreDefined x.characteristics.0 cs) s.entries → IsSound of_characteristics
  characteristics_change h new of_queues of_entries =
      sound_of_definitions s s.forms cs h h.forms new
      (λ i d within. ((h.queues i d within).mounted, of_queues i d within))
      (λ i d within. ((h.entries.each i d within).form, of_entries i d within))

-- ---- a characteristic is defined

pub numbers_trans : (m n o : ℕ) → nat_cmp m n ≡ Less → nat_cmp n o ≡ Less → nat_cmp m o ≡ Less
numbers_trans m n o h k = grind (arith, nat_tests)

pub lower_number : (m n : ℕ) → nat_lt m n ≡ true → nat_cmp m n ≡ Less
lower_number m n h = grind (arith, nat_tests)

pub higher_number : (m n : ℕ) → nat_lt m n ≡ false → (n == m) ≡ false → nat_cmp n m ≡ Less
higher_number m n h k = grind (arith, nat_tests)

pub nothing_there : {X : Type 0} (o : Option X) → is_some o ≡ false → o ≡ None
nothing_there None h = refl
nothing_there (Some x) h = cc

pub other_name : (a b : List ℕ) → bytes_eq a b ≡ false → a ≢ b
other_name a b h same = let also : bytes_eq a b ≡ true = (bytes_eq-Decides a b).1 same in cc

-- what holds of the number of each characteristic holds of each number of a set
each_number : (P : ℕ → Type 0) (cs : List Characteristic) (n : ℕ) → All (λ (c : Characteristic). P c.number) cs → Contains (map (λ (c : Characteristic). c.number) cs) n → P n
each_number P cs n h among = All-contains P (map (λ (c : Characteristic). c.number) cs) n (All-map P (λ (c : Characteristic). c.number) cs h) among

abbrev in_front : Characteristic → Characteristic → Bool
in_front c d = nat_lt c.number d.number

still_defined : (c : Characteristic) (cs : List Characteristic) (set : ℕ) → AreDefined set cs → AreDefined set (with_characteristic_defined c cs)
still_defined c cs set h n is =
    let fs = with_characteristic_defined c cs in
    let P : ℕ → Type 0 = λ m. Contains (map (λ (d : Characteristic). d.number) fs) m in
    each_number P cs n
    (All-weaker (λ (d : Characteristic). IsIn d fs) (λ (d : Characteristic). P d.number) (λ d k. contains_in d.number (map (λ (d : Characteristic). d.number) fs) (number_in d fs k)) cs (in_inserted in_front c cs).0)
    (h n is)

Lower : Characteristic → Characteristic → Type 0
Lower a b = nat_cmp a.number b.number ≡ Less

Other : Characteristic → Characteristic → Type 0
Other a b = a.name ≢ b.name

defined_characteristics : (c : Characteristic) (cs : List Characteristic) → AreCharacteristics cs → IsDefinable c.name → c.number ≤ LAST_CHARACTERISTIC → is_characteristic_taken cs c ≡ false → AreCharacteristics (with_characteristic_defined c cs)
unfolding Lower Other
defined_characteristics c cs h label few free =
    let by_name = not_found (is_characteristic (Name c.name)) cs (nothing_there _ (or_false_left (is_some (characteristic_wanted (Name c.name) cs)) (is_some (characteristic_wanted (Number c.number) cs)) free)) in
    let by_number = not_found (is_characteristic (Number c.number)) cs (nothing_there _ (or_false_right (is_some (characteristic_wanted (Name c.name) cs)) (is_some (characteristic_wanted (Number c.number) cs)) free)) in
    record {
      numbers = all_inserted in_front c (λ (d : Characteristic). d.number ≤ LAST_CHARACTERISTIC) cs few h.numbers;
      names = all_inserted in_front c (λ (d : Characteristic). IsDefinable d.name) cs label h.names;
      order = all_pairs_of Lower (with_characteristic_defined c cs)
          (order_inserted in_front c Lower (λ a b d p q. numbers_trans a.number b.number d.number p q) cs
          (All-weaker (λ (d : Characteristic). (d.number == c.number) ≡ false) (λ (d : Characteristic). (nat_lt c.number d.number ≡ true → Lower c d) × (nat_lt c.number d.number ≡ false → Lower d c))
          (λ d k. (λ is. lower_number c.number d.number is, λ is. higher_number c.number d.number is k)) cs by_number)
          (pairs_of Lower cs h.order));
      distinct = all_pairs_of Other (with_characteristic_defined c cs)
          (apart_inserted in_front c Other cs
          (All-weaker (λ (d : Characteristic). bytes_eq d.name c.name ≡ false) (λ (d : Characteristic). Other c d) (λ d k same. other_name d.name c.name k (sym same)) cs by_name)
          (All-weaker (λ (d : Characteristic). bytes_eq d.name c.name ≡ false) (λ (d : Characteristic). Other d c) (λ d k same. other_name d.name c.name k same) cs by_name)
          (pairs_of Other cs h.distinct));
    }

pub characteristic_defined_sound : (before s : System) (c : Characteristic) → IsSound s → s.characteristics ≡ before.characteristics → IsDefinable c.name → define_characteristic_refusal before c ≡ None → IsSound (characteristic_defined s c).system
characteristic_defined_sound before s c h same label clear =
    let bad : Option Refusal = refused_where (nat_lt LAST_CHARACTERISTIC c.number) BadValue in
    let taken : Option Refusal = refused_where (is_characteristic_taken before.characteristics c) DuplicateCharacteristic in
    let r1 = none_first bad (taken ∷ []) clear in
    let r2 = none_first taken [] r1.1 in
    let few = at_most LAST_CHARACTERISTIC c.number (not_refused (nat_lt LAST_CHARACTERISTIC c.number) BadValue r1.0) in
    let free = not_refused (is_characteristic_taken before.characteristics c) DuplicateCharacteristic r2.0 in
    let cs = with_characteristic_defined c s.characteristics in
    characteristics_change s cs h
    (defined_characteristics c s.characteristics h.characteristics label few (subst (λ (ds : List Characteristic). is_characteristic_taken ds c ≡ false) (sym same) free))
    (All-weaker (IsSoundQueue s) (λ (q : Queue). AreDefined q.characteristics.0 cs) (λ q k. still_defined c s.characteristics q.characteristics.0 k.characteristics) s.queues h.queues)
    (All-weaker (IsEntry s) (λ (x : Entry). AreDefined x.characteristics.0 cs) (λ x k. still_defined c s.characteristics x.characteristics.0 k.characteristics) s.entries h.entries.each)

-- ---- a characteristic is deleted

abbrev other_than : List ℕ → Characteristic → Bool
other_than name c = not (bytes_eq c.name name)

-- the characteristic of a name has no bit in the set
bit_of_named : (cs : List Characteristic) (name : List ℕ) (set : ℕ) (c : Characteristic) → Pairs Other cs → IsIn c cs → bytes_eq c.name name ≡ true → has_named cs name set ≡ false → has_number c.number set ≡ false
unfolding Other
bit_of_named cs name set c apart among same free =
    let found : characteristic_wanted (Name name) cs ≡ Some c = found_only (is_characteristic (Name name)) c cs (named_apart cs apart) among same in
    subst (λ (o : Option Characteristic). option_map_or (λ d. has_number d.number set) o false ≡ false) found free
  where
    named_apart : (ds : List Characteristic) → Pairs Other ds → Pairs (λ (a b : Characteristic). bytes_eq a.name name ≡ true → bytes_eq b.name name ≡ true → ⊥) ds
    named_apart [] h = tt
    named_apart (d ∷ ds) h = (
      All-weaker (Other d) (λ (b : Characteristic). bytes_eq d.name name ≡ true → bytes_eq b.name name ≡ true → ⊥)
          (λ b k is also. k ((bytes_eq-Decides d.name name).0 is ∙ sym ((bytes_eq-Decides b.name name).0 also))) ds h.0,
      named_apart ds h.1,
    )

bit_clear : (n set : ℕ) → has_number n set ≡ false → IsBitSet set n → ⊥
bit_clear n set clear is = is ((Decides-eqb (bit_and set (2 ^ n)) 0).0 (not_false (bit_and set (2 ^ n) == 0) clear))

defined_at : (cs : List Characteristic) (name : List ℕ) (set : ℕ) (c : Characteristic) (b : Bool) → bytes_eq c.name name ≡ b → Pairs Other cs → IsIn c cs → has_named cs name set ≡ false
    → (not (bytes_eq c.name name) ≡ true → IsIn c (filter (other_than name) cs)) → IsBitSet set c.number → Contains (map (λ (d : Characteristic). d.number) (filter (other_than name) cs)) c.number
defined_at cs name set c true same apart among free kept is = absurd (bit_clear c.number set (bit_of_named cs name set c apart among same free) is)
defined_at cs name set c false same apart among free kept is =
    contains_in c.number (map (λ (d : Characteristic). d.number) (filter (other_than name) cs)) (number_in c (filter (other_than name) cs) (kept (ap (λ (b : Bool). not b) same)))

defined_without : (cs : List Characteristic) (name : List ℕ) (set : ℕ) → Pairs Other cs → has_named cs name set ≡ false → AreDefined set cs → AreDefined set (filter (other_than name) cs)
defined_without cs name set apart free h n is =
    let P : ℕ → Type 0 = λ m. IsBitSet set m → Contains (map (λ (d : Characteristic). d.number) (filter (other_than name) cs)) m in
    let kept = in_kept (other_than name) cs in
    let among = all_in cs in
    each_number P cs n (λ i d within. defined_at cs name set _ (bytes_eq (get_or cs i d).name name) refl apart (among i d within) free (kept i d within)) (h n is) is

pub characteristic_deleted_sound : (before s : System) (name : List ℕ) → IsSound s → s.characteristics ≡ before.characteristics → s.queues ≡ before.queues → delete_characteristic_refusal before name ≡ None
    → (All (λ (x : Entry). has_named before.characteristics name x.characteristics.0 ≡ false) before.entries → All (λ (x : Entry). has_named before.characteristics name x.characteristics.0 ≡ false) s.entries)
    → IsSound (characteristic_deleted s name).system
unfolding Other
characteristic_deleted_sound before s name h same also clear keeps =
    let missing : Option Refusal = refused_where (is_none (characteristic_wanted (Name name) before.characteristics)) (NoSuchCharacteristic (Name name)) in
    let by_queue : Option Refusal = refused_by_queue (λ q. has_named before.characteristics name q.characteristics.0) before.queues in
    let by_entry : Option Refusal = refused_by_entry (λ e. has_named before.characteristics name e.characteristics.0) before.entries in
    let r1 = none_first missing (by_queue ∷ by_entry ∷ []) clear in
    let r2 = none_first by_queue (by_entry ∷ []) r1.1 in
    let r3 = none_first by_entry [] r2.1 in
    let cs = s.characteristics in
    let FreeIn : List Characteristic → List Queue → Type 0 = λ ds qs. All (λ (q : Queue). has_named ds name q.characteristics.0 ≡ false) qs in
    let of_queues : FreeIn cs s.queues =
    subst (λ (ds : List Characteristic). FreeIn ds s.queues) (sym same) (subst (FreeIn before.characteristics) (sym also) (none_by_queue (λ q. has_named before.characteristics name q.characteristics.0) before.queues r2.0)) in
    let of_entries : All (λ (x : Entry). has_named cs name x.characteristics.0 ≡ false) s.entries =
    subst (λ (ds : List Characteristic). All (λ (x : Entry). has_named ds name x.characteristics.0 ≡ false) s.entries) (sym same) (keeps (none_by_entry (λ e. has_named before.characteristics name e.characteristics.0) before.entries r3.0)) in
    let apart = pairs_of Other cs h.characteristics.distinct in
    characteristics_change s (filter (other_than name) cs) h
    (record {
      numbers = All-filter (other_than name) (λ (c : Characteristic). c.number ≤ LAST_CHARACTERISTIC) cs h.characteristics.numbers;
      names = All-filter (other_than name) (λ (c : Characteristic). IsDefinable c.name) cs h.characteristics.names;
      order = AllPairs-filter (λ (a b : Characteristic). nat_cmp a.number b.number ≡ Less) (other_than name) cs h.characteristics.order;
      distinct = AllPairs-filter (λ (a b : Characteristic). a.name ≢ b.name) (other_than name) cs h.characteristics.distinct;
    })
    (λ i d within. defined_without cs name _ apart (of_queues i d within) (h.queues i d within).characteristics)
    (λ i d within. defined_without cs name _ apart (of_entries i d within) (h.entries.each i d within).characteristics)
