-- What the row of jobs says of them.
use Rattle.std.proofs.Common.{◌≡◌, ◌≢◌, ◌∙◌, ℕ, ◌+◌, ◌≤◌, ◌==◌, nat_lt, Bool, true, false, not, cond, if◌then◌else◌, ◌&&◌, ◌||◌, List, [], ◌∷◌, length, get_or, Option, Some, None, is_some, IsSome, refl, sym, ap, inl, inr, arith, All, AllPairs, filter, fold, option_map, nat_cmp}
use Rattle.std.proofs.lemmas.Bool.Decides.{nat_tests}
use Rattle.std.proofs.lemmas.List.Elements.{All-nil, All-cons, All-head, All-tail}
use Rattle.std.proofs.lemmas.List.Kept.{AllPairs-filter}
use Rattle.std.proofs.lemmas.List.Sums.{length-filter, count_by-le-length}
use Rattle.qm_model.specs.Common.{Entry, Queue, System, before, first_of, IsInOrder, entry_numbered, fits, is_print_queue, next_job}
use Rattle.qm_match.specs.declared.order.Key.{Key}
use Rattle.qm_match.specs.declared.order.Schedule.TheVariants.{BySize, ByNumber}
use Rattle.qm_match.specs.Keys.{comes_before, key_of, schedule_of}
use Rattle.qm_keyed.proofs.Pairs.{pairs_first, pairs_tail}
use Rattle.qm_ready.specs.Rows.{HasNumbersOnce, first_number, key_numbered}
use Rattle.qm_ready.specs.Jobs.{IsRowOf}
use Rattle.qm_ready.proofs.Numbers.{all_absent, found_All, first_has}
use Rattle.qm_ready.proofs.Orders.{before-trans, before-itself}
use Rattle.qm_ready.proofs.Determined.{first_or_behind}

-- ---- the order of jobs is that of their keys

as_keys_at : (a b : Entry) (by_size : Bool)
    → (nat_lt b.priority a.priority
    || (a.priority == b.priority
    && (nat_lt (cond by_size a.size 0) (cond by_size b.size 0) || (cond by_size a.size 0 == cond by_size b.size 0 && nat_lt a.number b.number))))
    ≡ comes_before (cond by_size BySize ByNumber) (key_of a) (key_of b)
as_keys_at a b true = refl
as_keys_at a b false = refl

pub as_keys : (q : Queue) (a b : Entry) → before q a b ≡ comes_before (schedule_of q) (key_of a) (key_of b)
as_keys q a b = as_keys_at a b (q.by_size && is_print_queue q.kind)

-- ---- the first job of a list

module _ (q : Queue) where
  abbrev better : Entry → Entry → Entry
  better first e = if before q e first then e else first

  -- it is one of the list,
  first_among : (P : Entry → Type 0) (j : Entry) (js : List Entry) → P j → All P js → P (fold better j js)
  first_among P j [] here all = here
  first_among P j (e ∷ js) here all = first_among P (better j e) js (chosen (before q e j)) (All-tail P e js all)
    where
      chosen : (b : Bool) → P (if b then e else j)
      chosen true = All-head P e js all
      chosen false = here

  not_before_better : (x j e : Entry) → before q x j ≡ false → before q x (better j e) ≡ false
  not_before_better x j e later = step (before q e j) refl
    where
      step : (b : Bool) → before q e j ≡ b → before q x (if b then e else j) ≡ false
      step false is = later
      step true is = against (before q x e) refl
        where
          against : (b : Bool) → before q x e ≡ b → before q x e ≡ false
          against false is' = is'
          against true is' =
              let through : before q x j ≡ true = as_keys q x j ∙ before-trans (schedule_of q) (key_of x) (key_of e) (key_of j) (sym (as_keys q x e) ∙ is') (sym (as_keys q e j) ∙ is) in
              absurd (cc)

  itself_not_before : (j e : Entry) → before q e (better j e) ≡ false
  itself_not_before j e = step (before q e j) refl
    where
      step : (b : Bool) → before q e j ≡ b → before q e (if b then e else j) ≡ false
      step true is = as_keys q e e ∙ before-itself (schedule_of q) (key_of e)
      step false is = is

  not_before_first : (x j : Entry) (js : List Entry) → before q x j ≡ false → before q x (fold better j js) ≡ false
  not_before_first x j [] later = later
  not_before_first x j (e ∷ js) later = not_before_first x (better j e) js (not_before_better x j e later)

  -- and none comes before it
  none_behind : (j : Entry) (js : List Entry) → All (λ e. before q e (fold better j js) ≡ false) js
  none_behind j [] = All-nil (λ e. before q e j ≡ false)
  none_behind j (e ∷ js) = All-cons (λ x. before q x (fold better (better j e) js) ≡ false) e js (not_before_first e (better j e) js (itself_not_before j e)) (none_behind (better j e) js)

  none_before : (j : Entry) (js : List Entry) → All (λ e. before q e (fold better j js) ≡ false) (j ∷ js)
  none_before j js = All-cons (λ x. before q x (fold better j js) ≡ false) j js (not_before_first j j js (as_keys q j j ∙ before-itself (schedule_of q) (key_of j))) (none_behind j js)

-- ---- the jobs by their numbers

-- no two jobs have one number
abbrev AreApart : List Entry → Type 0
AreApart jobs = AllPairs (λ a b. a.number ≢ b.number) jobs

apart_of : (entries : List Entry) → IsInOrder nat_cmp (λ e. e.number) entries → AreApart entries
apart_of entries order i j d below within same = let less = order i j d below within in absurd (grind (arith, nat_tests))

-- each is found
each_found : (jobs : List Entry) → AreApart jobs → All (λ e. entry_numbered e.number jobs ≡ Some e) jobs
each_found [] apart = All-nil (λ e. entry_numbered e.number [] ≡ Some e)
each_found (j ∷ js) apart =
    let same : (j.number == j.number) ≡ true = grind (arith, nat_tests) in
    All-cons (λ e. entry_numbered e.number (j ∷ js) ≡ Some e) j js (rw same refl) (λ k d within.
    let e : Entry = get_or js k d in
    let apart' : j.number ≢ e.number = pairs_first (λ (a b : Entry). a.number ≢ b.number) j js apart k d within in
    let other : (j.number == e.number) ≡ false = grind (arith, nat_tests) in
    rw other (each_found js (pairs_tail (λ (a b : Entry). a.number ≢ b.number) j js apart) k d within))

-- the number in front of their row is that of the first of them
module _ (q : Queue) (j : Entry) (js : List Entry) (apart : AreApart (j ∷ js)) where
  abbrev m : Entry
  m = fold (better q) j js

  found : entry_numbered m.number (j ∷ js) ≡ Some m
  found =
      let each = each_found (j ∷ js) apart in
      first_among q (λ e. entry_numbered e.number (j ∷ js) ≡ Some e) j js (All-head (λ e. entry_numbered e.number (j ∷ js) ≡ Some e) j js each) (All-tail (λ e. entry_numbered e.number (j ∷ js) ≡ Some e) j js each)

  not_behind : (k : Key) (o : Option Entry) → entry_numbered k.number (j ∷ js) ≡ o → Some k ≡ option_map key_of o → comes_before (schedule_of q) k (key_of m) ≡ false
  not_behind k None is same = absurd (cc)
  not_behind k (Some e) is same =
      let one : k ≡ key_of e = cc in
      let none : before q e m ≡ false = found_All (λ e. before q e m ≡ false) (λ e. e.number == k.number) (j ∷ js) e is (none_before q j js) in
      ap (λ (u : Key). comes_before (schedule_of q) u (key_of m)) one ∙ sym (as_keys q e m) ∙ none

  first_of_some : (keys : List Key) → IsRowOf (schedule_of q) (j ∷ js) keys → first_number keys ≡ Some m.number
  first_of_some [] row = let has : None ≡ Some (key_of m) = row.same m.number ∙ ap (option_map key_of) found in absurd (cc)
  first_of_some (k ∷ ks) row = elim (first_or_behind (schedule_of q) k ks (key_of m) m.number row.row (row.same m.number ∙ ap (option_map key_of) found)) [
    | inl is ↦ ap (λ (u : Key). Some u.number) (sym is)
    | inr behind ↦ let never = not_behind k (entry_numbered k.number (j ∷ js)) refl (sym (first_has k ks) ∙ row.same k.number) in absurd (cc)
  ]

first_of_jobs : (q : Queue) (jobs : List Entry) (keys : List Key) → AreApart jobs → IsRowOf (schedule_of q) jobs keys → first_number keys ≡ option_map (λ e. e.number) (first_of q jobs)
first_of_jobs q [] [] apart row = refl
first_of_jobs q [] (k ∷ ks) apart row = let has : Some k ≡ None = sym (first_has k ks) ∙ row.same k.number in absurd (cc)
first_of_jobs q (j ∷ js) keys apart row = first_of_some q j js apart keys row

pub first_is_next : (s : System) (q : Queue) (keys : List Key) → IsInOrder nat_cmp (λ e. e.number) s.entries → IsRowOf (schedule_of q) (filter (λ e. fits s e q) s.entries) keys
    → first_number keys ≡ option_map (λ e. e.number) (next_job s q)
first_is_next s q keys order row =
    first_of_jobs q (filter (λ e. fits s e q) s.entries) keys (AllPairs-filter (λ (a b : Entry). a.number ≢ b.number) (λ e. fits s e q) s.entries (apart_of s.entries order)) row

-- ---- how many keys there are

abbrev others : ℕ → List Entry → List Entry
others number entries = filter (λ e. not (e.number == number)) entries

-- a number that goes takes an entry with it,
fewer : (n : ℕ) (es : List Entry) → IsSome (entry_numbered n es) → length (others n es) + 1 ≤ length es
fewer n [] some = absurd (cc)
fewer n (e ∷ es) some = step (e.number == n) some (λ some'. fewer n es some')
  where
    step : (b : Bool) → is_some (cond b (Some e) (entry_numbered n es)) ≡ true → (IsSome (entry_numbered n es) → length (others n es) + 1 ≤ length es) → length (cond (not b) (e ∷ others n es) (others n es)) + 1 ≤ length (e ∷ es)
    step true some' later = omega (arith, length-filter (λ (x : Entry). not (x.number == n)) es, count_by-le-length (λ (x : Entry). not (x.number == n)) es)
    step false some' later = omega (arith, later some')

-- and no other number's
others_stay : (n m : ℕ) (es : List Entry) → n ≢ m → entry_numbered n (others m es) ≡ entry_numbered n es
others_stay n m [] apart = refl
others_stay n m (e ∷ es) apart = step (e.number == m) refl (others_stay n m es apart)
  where
    step : (b : Bool) → (e.number == m) ≡ b → entry_numbered n (others m es) ≡ entry_numbered n es → entry_numbered n (cond (not b) (e ∷ others m es) (others m es)) ≡ cond (e.number == n) (Some e) (entry_numbered n es)
    step true is later = let other : (e.number == n) ≡ false = grind (arith, nat_tests) in later ∙ ap (λ (b : Bool). cond b (Some e) (entry_numbered n es)) (sym other)
    step false is later = ap (λ (o : Option Entry). cond (e.number == n) (Some e) o) later

pub no_more : (keys : List Key) (es : List Entry) → HasNumbersOnce keys → ((n : ℕ) → IsSome (key_numbered n keys) → IsSome (entry_numbered n es)) → length keys ≤ length es
no_more [] es once among = omega arith
no_more (k ∷ ks) es once among =
    let here : IsSome (entry_numbered k.number es) = among k.number (ap is_some (first_has k ks)) in
    let rest : length ks ≤ length (others k.number es) = no_more ks (others k.number es) (pairs_tail (λ (a b : Key). a.number ≢ b.number) k ks once) (λ n some. step n some (k.number == n) refl) in
    omega (arith, fewer k.number es here, rest)
  where
    step : (n : ℕ) → IsSome (key_numbered n ks) → (b : Bool) → (k.number == n) ≡ b → IsSome (entry_numbered n (others k.number es))
    step n some true is =
        let number : k.number ≡ n = grind (arith, nat_tests) in
        let never : key_numbered n ks ≡ None = all_absent n ks (λ i d within its. pairs_first (λ (a b : Key). a.number ≢ b.number) k ks once i d within (number ∙ sym its)) in
        absurd (cc)
    step n some false is =
        let apart : n ≢ k.number = grind (arith, nat_tests) in
        let there : IsSome (key_numbered n (k ∷ ks)) = ap (λ (b : Bool). is_some (cond b (Some k) (key_numbered n ks))) is ∙ some in
        ap is_some (others_stay n k.number es apart) ∙ among n there
