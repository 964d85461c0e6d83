-- Under which numbers keys are ready, once something became of entries or queues.
use Rattle.std.proofs.Common.{◌≡◌, ◌∙◌, ℕ, ◌<◌, ◌==◌, Bool, true, false, cond, ◌&&◌, List, [], ◌∷◌, ◌++◌, map, find, Option, None, Some, refl, sym, ap, arith, option_to_list, All, option_map, option_and_then}
use Rattle.std.proofs.lemmas.Bool.Decides.{nat_tests}
use Rattle.std.proofs.lemmas.List.Elements.{All-head, All-tail}
use Rattle.qm_model.specs.Common.{Entry, EntryState, Pending, Holding, Timed, Running, Aborting, Retained, Fate, Queue, entry_numbered, is_of_kind, is_open, is_reached, has_characteristics, has_stock, has_size, no_system, is_pending, with_entry, is_running_in, state_with_fate, with_fate, reset_fate, reset_in}
use Rattle.qm_match.specs.declared.order.Key.{Key}
use Rattle.qm_match.specs.Keys.{key_of}
use Rattle.qm_parts.specs.Ready.{key_where_ready, ready_key, without_number}
use Rattle.qm_parts.specs.Tables.{Tables, with_tables}

abbrev numbered : ℕ → Entry → Bool
numbered n e = e.number == n

-- ---- numbers

same_too : (k n m : ℕ) → (k == n) ≡ true → (n == m) ≡ true → (k == m) ≡ true
same_too k n m is same = grind (arith, nat_tests)

other_too : (k n m : ℕ) → (k == n) ≡ true → (n == m) ≡ false → (k == m) ≡ false
other_too k n m is other = grind (arith, nat_tests)

not_this : (k n m : ℕ) → (k == n) ≡ false → (n == m) ≡ true → (k == m) ≡ false
not_this k n m other same = grind (arith, nat_tests)

pub itself : (n : ℕ) → (n == n) ≡ true
itself n = grind (arith, nat_tests)

pub same_number : (n m : ℕ) → (n == m) ≡ true → n ≡ m
same_number n m is = grind (arith, nat_tests)

less_is_other : (k n m : ℕ) → k < n → (n == m) ≡ true → (k == m) ≡ false
less_is_other k n m less is = grind (arith, nat_tests)

-- ---- which entry a number has

module _ (m n : ℕ) where
  -- an entry goes
  gone_at : (e : Entry) (es rest : List Entry) (b c : Bool) → numbered n e ≡ b → (n == m) ≡ c → entry_numbered m rest ≡ cond c None (entry_numbered m es)
      → entry_numbered m (cond b (option_to_list None) (e ∷ []) ++ rest) ≡ cond c None (entry_numbered m (e ∷ es))
  gone_at e es rest true true is same later = later
  gone_at e es rest true false is same later = later ∙ sym (ap (λ (b : Bool). cond b (Some e) (entry_numbered m es)) (other_too e.number n m is same))
  gone_at e es rest false true is same later = ap (λ (b : Bool). cond b (Some e) (entry_numbered m rest)) (not_this e.number n m is same) ∙ later
  gone_at e es rest false false is same later = ap (λ (o : Option Entry). cond (e.number == m) (Some e) o) later

  pub found_gone : (es : List Entry) → entry_numbered m (with_entry n (λ e. None) es) ≡ cond (n == m) None (entry_numbered m es)
  found_gone [] = either (n == m)
    where
      either : (b : Bool) → None ≡ cond b None (find (numbered m) [])
      either true = refl
      either false = refl
  found_gone (e ∷ es) = gone_at e es (with_entry n (λ x. None) es) (numbered n e) (n == m) refl refl (found_gone es)

  -- an entry becomes another one of its number
  module _ (f : Entry → Entry) (numbers : (e : Entry) → numbered n e ≡ true → numbered n (f e) ≡ true) where
    changed_at : (e : Entry) (es rest : List Entry) (b c : Bool) → numbered n e ≡ b → (n == m) ≡ c → entry_numbered m rest ≡ cond c (option_map f (entry_numbered m es)) (entry_numbered m es)
        → entry_numbered m (cond b (option_to_list (Some (f e))) (e ∷ []) ++ rest) ≡ cond c (option_map f (entry_numbered m (e ∷ es))) (entry_numbered m (e ∷ es))
    changed_at e es rest true true is same later =
        ap (λ (b : Bool). cond b (Some (f e)) (entry_numbered m rest)) (same_too (f e).number n m (numbers e is) same)
        ∙ sym (ap (λ (b : Bool). option_map f (cond b (Some e) (entry_numbered m es))) (same_too e.number n m is same))
    changed_at e es rest true false is same later =
        ap (λ (b : Bool). cond b (Some (f e)) (entry_numbered m rest)) (other_too (f e).number n m (numbers e is) same) ∙ later
        ∙ sym (ap (λ (b : Bool). cond b (Some e) (entry_numbered m es)) (other_too e.number n m is same))
    changed_at e es rest false true is same later =
        ap (λ (b : Bool). cond b (Some e) (entry_numbered m rest)) (not_this e.number n m is same) ∙ later
        ∙ sym (ap (λ (b : Bool). option_map f (cond b (Some e) (entry_numbered m es))) (not_this e.number n m is same))
    changed_at e es rest false false is same later = ap (λ (o : Option Entry). cond (e.number == m) (Some e) o) later

    pub found_changed : (es : List Entry) → entry_numbered m (with_entry n (λ e. Some (f e)) es) ≡ cond (n == m) (option_map f (entry_numbered m es)) (entry_numbered m es)
    found_changed [] = either (n == m)
      where
        either : (b : Bool) → None ≡ cond b (option_map f (find (numbered m) [])) (find (numbered m) [])
        either true = refl
        either false = refl
    found_changed (e ∷ es) = changed_at e es (with_entry n (λ x. Some (f x)) es) (numbered n e) (n == m) refl refl (found_changed es)

-- each entry becomes another one of its number
module _ (m : ℕ) (f : Entry → Entry) (numbers : (e : Entry) → (f e).number ≡ e.number) where
  mapped_at : (e : Entry) (es : List Entry) (b : Bool) → numbered m e ≡ b → entry_numbered m (map f es) ≡ option_map f (entry_numbered m es)
      → entry_numbered m (f e ∷ map f es) ≡ option_map f (cond b (Some e) (entry_numbered m es))
  mapped_at e es true is later = ap (λ (k : ℕ). cond (k == m) (Some (f e)) (entry_numbered m (map f es))) (numbers e) ∙ ap (λ (b : Bool). cond b (Some (f e)) (entry_numbered m (map f es))) is
  mapped_at e es false is later = ap (λ (k : ℕ). cond (k == m) (Some (f e)) (entry_numbered m (map f es))) (numbers e) ∙ ap (λ (b : Bool). cond b (Some (f e)) (entry_numbered m (map f es))) is ∙ later

  pub found_mapped : (es : List Entry) → entry_numbered m (map f es) ≡ option_map f (entry_numbered m es)
  found_mapped [] = refl
  found_mapped (e ∷ es) = mapped_at e es (numbered m e) refl (found_mapped es)

-- an entry of a greater number comes behind the others
module _ (m : ℕ) (new : Entry) where
  behind_at : (e : Entry) (es : List Entry) (b c : Bool) → numbered m e ≡ b → (new.number == m) ≡ c → e.number < new.number
      → entry_numbered m (es ++ new ∷ []) ≡ cond c (Some new) (entry_numbered m es) → cond b (Some e) (entry_numbered m (es ++ new ∷ [])) ≡ cond c (Some new) (cond b (Some e) (entry_numbered m es))
  behind_at e es true true is same less later = absurd (let no : (e.number == m) ≡ false = less_is_other e.number new.number m less same in cc)
  behind_at e es true false is same less later = refl
  behind_at e es false c is same less later = later

  pub found_behind : (es : List Entry) → All (λ e. e.number < new.number) es → entry_numbered m (es ++ new ∷ []) ≡ cond (new.number == m) (Some new) (entry_numbered m es)
  found_behind [] less = refl
  found_behind (e ∷ es) less =
      behind_at e es (numbered m e) (new.number == m) refl refl (All-head (λ (x : Entry). x.number < new.number) e es less)
      (found_behind es (All-tail (λ (x : Entry). x.number < new.number) e es less))

  pub none_there : (es : List Entry) → All (λ e. e.number < new.number) es → (new.number == m) ≡ true → entry_numbered m es ≡ None
  none_there [] less same = refl
  none_there (e ∷ es) less same =
      ap (λ (b : Bool). cond b (Some e) (entry_numbered m es)) (less_is_other e.number new.number m (All-head (λ (x : Entry). x.number < new.number) e es less) same)
      ∙ none_there es (All-tail (λ (x : Entry). x.number < new.number) e es less) same

-- ---- which jobs are ready

module _ (t : Tables) (q : Queue) where
  -- what its state says of a job is whether it is pending
  pub by_state : (e : Entry) (state : EntryState) → is_pending state ≡ is_pending e.state → key_where_ready t q (record e { state = state }) ≡ key_where_ready t q e
  by_state e state same = ap (λ (b : Bool). cond (b && is_of_kind e q && is_open (with_tables no_system t) q && is_reached (with_tables no_system t) e q && has_characteristics e q && has_stock (with_tables no_system t) e q && has_size e q) (Some (key_of e)) None) same

  pub not_pending : (e : Entry) → is_pending e.state ≡ false → key_where_ready t q e ≡ None
  not_pending e is = ap (λ (b : Bool). cond (b && is_of_kind e q && is_open (with_tables no_system t) q && is_reached (with_tables no_system t) e q && has_characteristics e q && has_stock (with_tables no_system t) e q && has_size e q) (Some (key_of e)) None) is

  none_runs : (queue node : List ℕ) (run : ℕ) (o : Option Entry) → option_and_then (key_where_ready t q) (option_map (λ (e : Entry). record e { state = Running queue node run }) o) ≡ None
  none_runs queue node run None = refl
  none_runs queue node run (Some e) = refl

fate_pending : (fate : Fate) (state : EntryState) → is_pending (state_with_fate fate state) ≡ is_pending state
fate_pending fate Pending = refl
fate_pending fate Holding = refl
fate_pending fate (Timed at) = refl
fate_pending fate (Running queue node run) = refl
fate_pending fate (Aborting queue node run old) = refl
fate_pending fate (Retained status until) = refl

key_with_fate : (t : Tables) (q : Queue) (fate : Fate) (e : Entry) → key_where_ready t q (with_fate fate e) ≡ key_where_ready t q e
key_with_fate t q fate e = by_state t q e (state_with_fate fate e.state) (fate_pending fate e.state)

key_reset : (t : Tables) (q : Queue) (name : List ℕ) (e : Entry) → key_where_ready t q (reset_in name e) ≡ key_where_ready t q e
key_reset t q name e = either (is_running_in name e.state)
  where
    either : (b : Bool) → key_where_ready t q (cond b (with_fate (reset_fate e) e) e) ≡ key_where_ready t q e
    either true = key_with_fate t q (reset_fate e) e
    either false = refl

number_reset : (name : List ℕ) (e : Entry) → (reset_in name e).number ≡ e.number
number_reset name e = either (is_running_in name e.state)
  where
    either : (b : Bool) → (cond b (with_fate (reset_fate e) e) e).number ≡ e.number
    either true = refl
    either false = refl

pub home_reset : (name : List ℕ) (e : Entry) → (reset_in name e).home ≡ e.home
home_reset name e = either (is_running_in name e.state)
  where
    either : (b : Bool) → (cond b (with_fate (reset_fate e) e) e).home ≡ e.home
    either true = refl
    either false = refl

-- a change that no row sees
module _ (kw : Entry → Option Key) (f : Entry → Entry) (same : (e : Entry) → kw (f e) ≡ kw e) where
  unseen : (o : Option Entry) → option_and_then kw (option_map f o) ≡ option_and_then kw o
  unseen None = refl
  unseen (Some e) = same e

  unseen_if : (b : Bool) (o : Option Entry) → option_and_then kw (cond b (option_map f o) o) ≡ option_and_then kw o
  unseen_if true o = unseen o
  unseen_if false o = refl

module _ (t : Tables) (q : Queue) (number : ℕ) where
  pub ready_with_fate : (n : ℕ) (fate : Fate) → ready_key (record t { entries = with_entry n (λ e. Some (with_fate fate e)) t.entries }) q number ≡ ready_key t q number
  ready_with_fate n fate =
      ap (option_and_then (key_where_ready t q)) (found_changed number n (with_fate fate) (λ e is. is) t.entries)
      ∙ unseen_if (key_where_ready t q) (with_fate fate) (key_with_fate t q fate) (n == number) (entry_numbered number t.entries)

  pub ready_reset : (name : List ℕ) → ready_key (record t { entries = map (reset_in name) t.entries }) q number ≡ ready_key t q number
  ready_reset name =
      ap (option_and_then (key_where_ready t q)) (found_mapped number (reset_in name) (number_reset name) t.entries)
      ∙ unseen (key_where_ready t q) (reset_in name) (key_reset t q name) (entry_numbered number t.entries)

  without_at : (kw : Entry → Option Key) (b : Bool) (o p : Option Entry) → option_and_then kw p ≡ None → option_and_then kw (cond b p o) ≡ cond b None (option_and_then kw o)
  without_at kw true o p none = none
  without_at kw false o p none = refl

  pub ready_gone : (n : ℕ) → ready_key (record t { entries = with_entry n (λ e. None) t.entries }) q number ≡ without_number n (ready_key t q) number
  ready_gone n =
      ap (option_and_then (key_where_ready t q)) (found_gone number n t.entries)
      ∙ without_at (key_where_ready t q) (n == number) (entry_numbered number t.entries) None refl

  pub ready_started : (n : ℕ) (queue node : List ℕ) (run : ℕ)
      → ready_key (record t { entries = with_entry n (λ e. Some (record e { state = Running queue node run })) t.entries }) q number ≡ without_number n (ready_key t q) number
  ready_started n queue node run =
      ap (option_and_then (key_where_ready t q)) (found_changed number n (λ (e : Entry). record e { state = Running queue node run }) (λ e is. is) t.entries)
      ∙ without_at (key_where_ready t q) (n == number) (entry_numbered number t.entries) (option_map (λ (e : Entry). record e { state = Running queue node run }) (entry_numbered number t.entries))
      (none_runs t q queue node run (entry_numbered number t.entries))

  same_without : (kw : Entry → Option Key) (b : Bool) (o p : Option Entry) → cond b None (option_and_then kw o) ≡ cond b None (option_and_then kw (cond b p o))
  same_without kw true o p = refl
  same_without kw false o p = refl

  -- where another entry stands under the number, the other numbers are as they were
  pub ready_replaced : (new : Entry) → without_number new.number (ready_key t q) number ≡ without_number new.number (ready_key (record t { entries = with_entry new.number (λ e. Some new) t.entries }) q) number
  ready_replaced new =
      same_without (key_where_ready t q) (new.number == number) (entry_numbered number t.entries) (option_map (λ (e : Entry). new) (entry_numbered number t.entries))
      ∙ sym (ap (λ (o : Option Entry). cond (new.number == number) None (option_and_then (key_where_ready t q) o)) (found_changed number new.number (λ (e : Entry). new) (λ e is. itself new.number) t.entries))

  -- and so they are where an entry comes behind the others
  pub ready_behind : (new : Entry) → All (λ e. e.number < new.number) t.entries
      → ready_key t q number ≡ without_number new.number (ready_key (record t { entries = t.entries ++ new ∷ [] }) q) number
  ready_behind new less =
      at_it (new.number == number) refl
      ∙ sym (ap (λ (o : Option Entry). cond (new.number == number) None (option_and_then (key_where_ready t q) o)) (found_behind number new t.entries less))
    where
      at_it : (b : Bool) → (new.number == number) ≡ b
          → option_and_then (key_where_ready t q) (entry_numbered number t.entries) ≡ cond b None (option_and_then (key_where_ready t q) (cond b (Some new) (entry_numbered number t.entries)))
      at_it true same = ap (option_and_then (key_where_ready t q)) (none_there number new t.entries less same)
      at_it false same = refl

-- ---- one entry's key

-- no key is ready under a number that none has
pub none_ready : (t : Tables) (q : Queue) (n : ℕ) → entry_numbered n t.entries ≡ None → ready_key t q n ≡ None
none_ready t q n none = ap (option_and_then (key_where_ready t q)) none

-- what is found under a number has it
found_at : (n : ℕ) (e x : Entry) (rest : Option Entry) (b : Bool) → (x.number == n) ≡ b → cond b (Some x) rest ≡ Some e → (rest ≡ Some e → e.number ≡ n) → e.number ≡ n
found_at n e x rest true is found later = let same : x ≡ e = cc in sym (ap (λ (y : Entry). y.number) same) ∙ same_number x.number n is
found_at n e x rest false is found later = later found

pub number_found : (n : ℕ) (e : Entry) (es : List Entry) → entry_numbered n es ≡ Some e → e.number ≡ n
number_found n e [] found = absurd (cc)
number_found n e (x ∷ es) found = found_at n e x (entry_numbered n es) (x.number == n) refl found (number_found n e es)
