-- The timers that entries want, after some of them came, went or changed.
use Rattle.std.proofs.Common.{◌≡◌, ◌∙◌, ℕ, ◌<◌, ◌≤◌, ◌==◌, nat_le, nat_lt, Bool, true, false, not, cond, List, [], ◌∷◌, ◌++◌, get_or, length, filter, find, map, Option, Some, None, is_some, refl, sym, ap, subst, arith, All, nat_cmp, bytes_eq, option_to_list}
use Rattle.std.specs.Option.{IfSome, IsSome, option_and_then, option_map, option_map_or}
use Rattle.std.proofs.lemmas.Bool.Decides.{nat_tests}
use Rattle.std.proofs.lemmas.List.Elements.{All-head, All-tail}
use Rattle.std.proofs.lemmas.List.Sums.{length-filter, count_by-le-length}
use Rattle.qm_model.specs.Common.{Entry, EntryState, Pending, Holding, Timed, Running, Aborting, Retained, IsInOrder, entry_numbered, run_of, with_entry}
use Rattle.qm_model.specs.Due.{state_at, is_over, entry_at, is_due}
use Rattle.qm_model.proofs.InsertLemmas.{one_goes}
use Rattle.qm_parts.specs.Mirror.{run_of_entry}
use Rattle.qm_parts.proofs.Asked.{none_of_number, fails_of_number, passes_of_number}
use Rattle.qm_parts.proofs.Left.{agree_at_it}
use Rattle.qm_parts.proofs.Ordered.{each_found}
use Rattle.qm_parts.specs.Timing.{is_at_home}
use Rattle.qm_tables.specs.Timers.{moment_of, timer_of, without, with_timer, later_than}
use Rattle.qm_tables.proofs.TimerNumbers.{timer_of-All, absent_all, without-absent}
use Rattle.qm_image.specs.Preparing.{IsLeftOf}
use Rattle.qm_image.proofs.Numbered.{number_found}
use Rattle.qm_image.proofs.Runless.{runless}
use Rattle.qm_image.specs.Timers.{moment_in, moment_wanted, moment_left, AreTimersOf, entries_at, HasCome}

abbrev numbered : ℕ → Entry → Bool
numbered n e = e.number == n

abbrev InOrder : List Entry → Type 0
InOrder es = IsInOrder nat_cmp (λ (e : Entry). e.number) es

-- what an entry that may be found wants
abbrev wanted : Option Entry → Option ℕ
wanted o = option_and_then (λ (e : Entry). moment_in e.state) o

differ : (m n : ℕ) → (m == n) ≡ true → (k : ℕ) → (n == k) ≡ false → (m == k) ≡ false
differ m n same k other = grind (arith, nat_tests)

also : (m n : ℕ) → (m == n) ≡ true → (k : ℕ) → (n == k) ≡ true → (m == k) ≡ true
also m n same k too = grind (arith, nat_tests)

not_this : (m n k : ℕ) → (m == n) ≡ false → (n == k) ≡ true → (m == k) ≡ false
not_this m n k other same = grind (arith, nat_tests)

-- ---- an entry comes behind the others

greater_is_another : (m n k : ℕ) → m < n → (m == k) ≡ true → (n == k) ≡ false
greater_is_another m n k less is = grind (arith, nat_tests)

module _ (new : Entry) (m : ℕ) where
  pub wanted_behind : (es : List Entry) → All (λ e. e.number < new.number) es → moment_wanted m (es ++ new ∷ []) ≡ cond (new.number == m) (moment_in new.state) (moment_wanted m es)
  wanted_behind [] less = alone (new.number == m)
    where
      alone : (b : Bool) → wanted (cond b (Some new) None) ≡ cond b (moment_in new.state) None
      alone true = refl
      alone false = refl
  wanted_behind (e ∷ es) less =
      step (e.number == m) refl (wanted_behind es (All-tail (λ (x : Entry). x.number < new.number) e es less))
    where
      step : (b : Bool) → (e.number == m) ≡ b → moment_wanted m (es ++ new ∷ []) ≡ cond (new.number == m) (moment_in new.state) (moment_wanted m es)
          → wanted (cond b (Some e) (entry_numbered m (es ++ new ∷ []))) ≡ cond (new.number == m) (moment_in new.state) (wanted (cond b (Some e) (entry_numbered m es)))
      step true is later =
          sym (ap (λ (b : Bool). cond b (moment_in new.state) (moment_in e.state)) (greater_is_another e.number new.number m (All-head (λ (x : Entry). x.number < new.number) e es less) is))
      step false is later = later

-- ---- something else stands in the place of an entry, or nothing

module _ (n : ℕ) (left : Option Entry) (number : IfSome left (λ e. e.number ≡ n)) (m : ℕ) where
  abbrev here : List Entry → Option ℕ
  here es = cond (is_some (entry_numbered n es)) (moment_left left) None

  nothing : (b : Bool) → moment_left left ≡ None → cond b (moment_left left) None ≡ None
  nothing true none = none
  nothing false none = refl

  abbrev Holds : List Entry → Type 0
  Holds es = moment_wanted m (with_entry n (λ e. left) es) ≡ cond (n == m) (here es) (moment_wanted m es)

  -- at an entry of the number
  at_it : (e : Entry) (es rest : List Entry) (o : Option Entry) → left ≡ o → (b : Bool) → (n == m) ≡ b → (e.number == n) ≡ true → moment_wanted m rest ≡ cond b (here es) (moment_wanted m es)
      → moment_wanted m (option_to_list o ++ rest) ≡ cond b (moment_left o) (moment_wanted m (e ∷ es))
  at_it e es rest None is true same it later = later ∙ nothing (is_some (entry_numbered n es)) (ap moment_left is)
  at_it e es rest None is false same it later = later ∙ sym (ap (λ (b : Bool). wanted (cond b (Some e) (entry_numbered m es))) (differ e.number n it m same))
  at_it e es rest (Some l) is true same it later =
      let its : l.number ≡ n = subst (λ (o : Option Entry). IfSome o (λ x. x.number ≡ n)) is number in
      ap (λ (b : Bool). wanted (cond b (Some l) (entry_numbered m rest))) (ap (λ (k : ℕ). k == m) its ∙ same)
  at_it e es rest (Some l) is false same it later =
      let its : l.number ≡ n = subst (λ (o : Option Entry). IfSome o (λ x. x.number ≡ n)) is number in
      ap (λ (b : Bool). wanted (cond b (Some l) (entry_numbered m rest))) (ap (λ (k : ℕ). k == m) its ∙ same) ∙ later
      ∙ sym (ap (λ (b : Bool). wanted (cond b (Some e) (entry_numbered m es))) (differ e.number n it m same))

  -- at another
  past_it : (e : Entry) (es rest : List Entry) (b c : Bool) → (n == m) ≡ b → (e.number == m) ≡ c → (e.number == n) ≡ false → moment_wanted m rest ≡ cond b (here es) (moment_wanted m es)
      → wanted (cond c (Some e) (entry_numbered m rest)) ≡ cond b (here es) (wanted (cond c (Some e) (entry_numbered m es)))
  past_it e es rest true true same is other later = absurd (let no : (e.number == m) ≡ false = not_this e.number n m other same in cc)
  past_it e es rest true false same is other later = later
  past_it e es rest false true same is other later = refl
  past_it e es rest false false same is other later = later

  pub wanted_left : (es : List Entry) → Holds es
  wanted_left [] = either (n == m)
    where
      either : (b : Bool) → wanted None ≡ cond b (wanted None) (wanted None)
      either true = refl
      either false = refl
  wanted_left (e ∷ es) = step (e.number == n) refl (n == m) refl (wanted_left es)
    where
      step : (b : Bool) → (e.number == n) ≡ b → (c : Bool) → (n == m) ≡ c → moment_wanted m (with_entry n (λ x. left) es) ≡ cond c (here es) (moment_wanted m es)
          → moment_wanted m (cond b (option_to_list left) (e ∷ []) ++ with_entry n (λ x. left) es) ≡ cond c (cond (is_some (cond b (Some e) (entry_numbered n es))) (moment_left left) None) (moment_wanted m (e ∷ es))
      step true it c same later = at_it e es (with_entry n (λ x. left) es) left refl c same it later
      step false it c same later = past_it e es (with_entry n (λ x. left) es) c (e.number == m) same refl it later

-- the timer of the number goes with the entry,
pub timers_without : (n : ℕ) (es : List Entry) (old new : List (ℕ × ℕ)) → AreTimersOf es old → ((m : ℕ) → moment_of m new ≡ cond (n == m) None (moment_of m old)) → AreTimersOf (with_entry n (λ e. None) es) new
timers_without n es old new are set = λ m.
    set m ∙ ap (λ (o : Option ℕ). cond (n == m) None o) (are m) ∙ gone (n == m) (is_some (entry_numbered n es)) (moment_wanted m es) ∙ sym (wanted_left n None tt m es)
  where
    gone : (b c : Bool) (o : Option ℕ) → cond b None o ≡ cond b (cond c None None) o
    gone true true o = refl
    gone true false o = refl
    gone false c o = refl

-- and is that which the new one wants
pub timers_replaced : (n : ℕ) (left : Entry) (es : List Entry) (old new : List (ℕ × ℕ)) → left.number ≡ n → IsSome (entry_numbered n es) → AreTimersOf es old
    → ((m : ℕ) → moment_of m new ≡ cond (n == m) (moment_in left.state) (moment_of m old)) → AreTimersOf (with_entry n (λ e. Some left) es) new
timers_replaced n left es old new its there are set = λ m.
    set m ∙ ap (λ (o : Option ℕ). cond (n == m) (moment_in left.state) o) (are m)
    ∙ ap (λ (b : Bool). cond (n == m) (cond b (moment_in left.state) None) (moment_wanted m es)) (sym there)
    ∙ sym (wanted_left n (Some left) its m es)

pub timers_behind : (new : Entry) (es : List Entry) (old timers : List (ℕ × ℕ)) → All (λ e. e.number < new.number) es → AreTimersOf es old
    → ((m : ℕ) → moment_of m timers ≡ cond (new.number == m) (moment_in new.state) (moment_of m old)) → AreTimersOf (es ++ new ∷ []) timers
timers_behind new es old timers last are set = λ m.
    set m ∙ ap (λ (o : Option ℕ). cond (new.number == m) (moment_in new.state) o) (are m) ∙ sym (wanted_behind new m es last)

-- ---- entries change, and want the timers that they had

module _ (f : Entry → Entry) (m : ℕ) where
  same_at : (e : Entry) (xs es : List Entry) → (f e).number ≡ e.number → moment_in (f e).state ≡ moment_in e.state → moment_wanted m xs ≡ moment_wanted m es → moment_wanted m (f e ∷ xs) ≡ moment_wanted m (e ∷ es)
  same_at e xs es number moment later = ap (λ (k : ℕ). wanted (cond (k == m) (Some (f e)) (entry_numbered m xs))) number ∙ step (e.number == m)
    where
      step : (b : Bool) → wanted (cond b (Some (f e)) (entry_numbered m xs)) ≡ wanted (cond b (Some e) (entry_numbered m es))
      step true = moment
      step false = later

  pub wanted_map : ((e : Entry) → (f e).number ≡ e.number) → ((e : Entry) → moment_in (f e).state ≡ moment_in e.state) → (es : List Entry) → moment_wanted m (map f es) ≡ moment_wanted m es
  wanted_map numbers moments [] = refl
  wanted_map numbers moments (e ∷ es) = same_at e (map f es) es (numbers e) (moments e) (wanted_map numbers moments es)

  pub wanted_changed : (n : ℕ) → ((e : Entry) → (f e).number ≡ e.number) → (es : List Entry) → All (λ e. (e.number == n) ≡ true → moment_in (f e).state ≡ moment_in e.state) es
      → moment_wanted m (with_entry n (λ e. Some (f e)) es) ≡ moment_wanted m es
  wanted_changed n numbers [] moments = refl
  wanted_changed n numbers (e ∷ es) moments =
      step (e.number == n) (All-head (λ (x : Entry). (x.number == n) ≡ true → moment_in (f x).state ≡ moment_in x.state) e es moments)
      (wanted_changed n numbers es (All-tail (λ (x : Entry). (x.number == n) ≡ true → moment_in (f x).state ≡ moment_in x.state) e es moments))
    where
      rest : List Entry
      rest = with_entry n (λ x. Some (f x)) es

      other : (b : Bool) → moment_wanted m rest ≡ moment_wanted m es → wanted (cond b (Some e) (entry_numbered m rest)) ≡ wanted (cond b (Some e) (entry_numbered m es))
      other true later = refl
      other false later = later

      step : (b : Bool) → (b ≡ true → moment_in (f e).state ≡ moment_in e.state) → moment_wanted m rest ≡ moment_wanted m es → moment_wanted m (cond b (option_to_list (Some (f e))) (e ∷ []) ++ rest) ≡ moment_wanted m (e ∷ es)
      step true moment later = same_at e rest es (numbers e) (moment refl) later
      step false moment later = other (e.number == m) later

-- ---- some entries stay alone

module _ (p : Entry → Bool) (es : List Entry) (order : InOrder es) (m : ℕ) where
  found_at : (o : Option Entry) → entry_numbered m es ≡ o → find (numbered m) (filter p es) ≡ option_and_then (λ e. cond (p e) (Some e) None) o
  found_at None none = none_of_number p m es none
  found_at (Some e) found = step (p e) refl
    where
      step : (b : Bool) → p e ≡ b → find (numbered m) (filter p es) ≡ cond b (Some e) None
      step true passes = passes_of_number p m es order e found passes
      step false fails = fails_of_number p m es order e found fails

  pub found_among : entry_numbered m (filter p es) ≡ option_and_then (λ e. cond (p e) (Some e) None) (entry_numbered m es)
  found_among = found_at (entry_numbered m es) refl

-- those of another home
pub timers_elsewhere : (home : List ℕ) (es : List Entry) (old new : List (ℕ × ℕ)) → InOrder es → AreTimersOf es old
    → ((m : ℕ) → moment_of m new ≡ cond (not (is_at_home m home es)) (moment_of m old) None) → AreTimersOf (filter (λ e. not (bytes_eq e.home home)) es) new
timers_elsewhere home es old new order are kept = λ m.
    kept m ∙ ap (λ (o : Option ℕ). cond (not (is_at_home m home es)) o None) (are m) ∙ at_it (entry_numbered m es)
    ∙ sym (ap wanted (found_among (λ e. not (bytes_eq e.home home)) es order m))
  where
    step : (e : Entry) (b : Bool) → cond (not b) (moment_in e.state) None ≡ wanted (cond (not b) (Some e) None)
    step e true = refl
    step e false = refl

    at_it : (o : Option Entry) → cond (not (option_map_or (λ (e : Entry). bytes_eq e.home home) o false)) (wanted o) None ≡ wanted (option_and_then (λ (e : Entry). cond (not (bytes_eq e.home home)) (Some e) None) o)
    at_it None = refl
    at_it (Some e) = step e (bytes_eq e.home home)

-- ---- what a moment leaves

find_mapped : (now m : ℕ) (es : List Entry) → entry_numbered m (map (entry_at now) es) ≡ option_map (entry_at now) (entry_numbered m es)
find_mapped now m [] = refl
find_mapped now m (e ∷ es) = step (e.number == m) (find_mapped now m es)
  where
    step : (b : Bool) → entry_numbered m (map (entry_at now) es) ≡ option_map (entry_at now) (entry_numbered m es) → cond b (Some (entry_at now e)) (entry_numbered m (map (entry_at now) es)) ≡ option_map (entry_at now) (cond b (Some e) (entry_numbered m es))
    step true later = refl
    step false later = later

later_is : (at now : ℕ) (b : Bool) → nat_le at now ≡ b → nat_lt now at ≡ not b
later_is at now true le = grind (arith, nat_tests)
later_is at now false more = grind (arith, nat_tests)

-- the moment that is left of one that may be due
abbrev left_of : ℕ → Option ℕ → Option ℕ
left_of now o = option_and_then (λ at. cond (nat_lt now at) (Some at) None) o

waits_at : (now at : ℕ) (b : Bool) → nat_le at now ≡ b → moment_in (cond b Pending (Timed at)) ≡ cond (nat_lt now at) (Some at) None
waits_at now at true le = sym (ap (λ (b : Bool). cond b (Some at) None) (later_is at now true le))
waits_at now at false more = sym (ap (λ (b : Bool). cond b (Some at) None) (later_is at now false more))

kept_at : (now status until : ℕ) (b : Bool) → nat_le until now ≡ b → cond (not b) (Some until) None ≡ cond (nat_lt now until) (Some until) None
kept_at now status until b is = sym (ap (λ (c : Bool). cond c (Some until) None) (later_is until now b is))

state_left : (now : ℕ) (state : EntryState) → cond (not (is_over now state)) (moment_in (state_at now state)) None ≡ left_of now (moment_in state)
state_left now Pending = refl
state_left now Holding = refl
state_left now (Timed at) = waits_at now at (nat_le at now) refl
state_left now (Running queue node run) = refl
state_left now (Aborting queue node run fate) = refl
state_left now (Retained status None) = refl
state_left now (Retained status (Some until)) = kept_at now status until (nat_le until now) refl

pub timers_found : (now : ℕ) (es : List Entry) (old new : List (ℕ × ℕ)) → InOrder es → AreTimersOf es old → ((m : ℕ) → moment_of m new ≡ left_of now (moment_of m old)) → AreTimersOf (entries_at now es) new
timers_found now es old new order are kept = λ m.
    kept m ∙ ap (left_of now) (are m) ∙ at_it (entry_numbered m es)
    ∙ sym (ap (λ (o : Option Entry). wanted (option_map (entry_at now) o)) (found_among (λ e. not (is_over now e.state)) es order m))
    ∙ sym (ap wanted (find_mapped now m (filter (λ e. not (is_over now e.state)) es)))
  where
    step : (e : Entry) (b : Bool) → cond (not b) (moment_in (state_at now e.state)) None ≡ wanted (option_map (entry_at now) (cond (not b) (Some e) None))
    step e true = refl
    step e false = refl

    at_it : (o : Option Entry) → left_of now (wanted o) ≡ wanted (option_map (entry_at now) (option_and_then (λ (e : Entry). cond (not (is_over now e.state)) (Some e) None) o))
    at_it None = refl
    at_it (Some e) = sym (state_left now e.state) ∙ step e (is_over now e.state)

-- ---- where no timer is due no entry is

due_is : (now : ℕ) (state : EntryState) → is_due now state ≡ option_map_or (λ at. nat_le at now) (moment_in state) false
due_is now Pending = refl
due_is now Holding = refl
due_is now (Timed at) = refl
due_is now (Running queue node run) = refl
due_is now (Aborting queue node run fate) = refl
due_is now (Retained status None) = refl
due_is now (Retained status (Some until)) = refl

not_yet : (now at : ℕ) → now < at → nat_le at now ≡ false
not_yet now at less = grind (arith, nat_tests)

later_moment : (now n : ℕ) (timers : List (ℕ × ℕ)) (o : Option (ℕ × ℕ)) → timer_of n timers ≡ o → All (λ t. now < t.0) timers → option_map_or (λ at. nat_le at now) (option_map (λ (t : ℕ × ℕ). t.0) o) false ≡ false
later_moment now n timers None found later = refl
later_moment now n timers (Some t) found later = not_yet now t.0 (timer_of-All (λ u. now < u.0) n timers t found later)

pub none_due : (now : ℕ) (es : List Entry) (timers : List (ℕ × ℕ)) → InOrder es → AreTimersOf es timers → All (λ t. now < t.0) timers → All (λ e. is_due now e.state ≡ false) es
none_due now es timers order are later k d within =
    let e : Entry = get_or es k d in
    let moment : moment_of e.number timers ≡ moment_in e.state = are e.number ∙ ap wanted (each_found (λ (x : Entry). x.number) es order k d within) in
    due_is now e.state ∙ ap (λ (o : Option ℕ). option_map_or (λ at. nat_le at now) o false) (sym moment) ∙ later_moment now e.number timers (timer_of e.number timers) refl later

-- ---- one entry is released before the others

abbrev left_by : ℕ → Entry → Option Entry
left_by now e = cond (is_over now e.state) None (Some (entry_at now e))

over_still : (now : ℕ) (state : EntryState) → is_over now state ≡ false → is_over now (state_at now state) ≡ false
over_still now Pending h = refl
over_still now Holding h = refl
over_still now (Timed at) h = either (nat_le at now)
  where
    either : (b : Bool) → is_over now (cond b Pending (Timed at)) ≡ false
    either true = refl
    either false = refl
over_still now (Running queue node run) h = refl
over_still now (Aborting queue node run fate) h = refl
over_still now (Retained status until) h = h

state_twice : (now : ℕ) (state : EntryState) → state_at now (state_at now state) ≡ state_at now state
state_twice now Pending = refl
state_twice now Holding = refl
state_twice now (Timed at) = either (nat_le at now) refl
  where
    either : (b : Bool) → nat_le at now ≡ b → state_at now (cond b Pending (Timed at)) ≡ cond b Pending (Timed at)
    either true is = refl
    either false is = ap (λ (b : Bool). cond b Pending (Timed at)) is
state_twice now (Running queue node run) = refl
state_twice now (Aborting queue node run fate) = refl
state_twice now (Retained status until) = refl

module _ (now n : ℕ) where
  released_at : (e : Entry) (rest es : List Entry) (b c : Bool) → is_over now e.state ≡ c → entries_at now rest ≡ entries_at now es
      → entries_at now (cond b (option_to_list (cond c None (Some (entry_at now e)))) (e ∷ []) ++ rest) ≡ entries_at now (e ∷ es)
  released_at e rest es true true over later = later ∙ sym (ap (λ (b : Bool). map (entry_at now) (cond (not b) (e ∷ filter (λ (x : Entry). not (is_over now x.state)) es) (filter (λ (x : Entry). not (is_over now x.state)) es))) over)
  released_at e rest es true false over later =
      ap (λ (b : Bool). map (entry_at now) (cond (not b) (entry_at now e ∷ filter (λ (x : Entry). not (is_over now x.state)) rest) (filter (λ (x : Entry). not (is_over now x.state)) rest))) (over_still now e.state over)
      ∙ ap (λ (state : EntryState). record e { state = state } ∷ entries_at now rest) (state_twice now e.state)
      ∙ ap (λ (xs : List Entry). entry_at now e ∷ xs) later
      ∙ sym (ap (λ (b : Bool). map (entry_at now) (cond (not b) (e ∷ filter (λ (x : Entry). not (is_over now x.state)) es) (filter (λ (x : Entry). not (is_over now x.state)) es))) over)
  released_at e rest es false c over later = kept (is_over now e.state)
    where
      kept : (b : Bool) → map (entry_at now) (cond (not b) (e ∷ filter (λ (x : Entry). not (is_over now x.state)) rest) (filter (λ (x : Entry). not (is_over now x.state)) rest))
          ≡ map (entry_at now) (cond (not b) (e ∷ filter (λ (x : Entry). not (is_over now x.state)) es) (filter (λ (x : Entry). not (is_over now x.state)) es))
      kept true = later
      kept false = ap (λ (xs : List Entry). entry_at now e ∷ xs) later

  released : (es : List Entry) → entries_at now (with_entry n (left_by now) es) ≡ entries_at now es
  released [] = refl
  released (e ∷ es) = released_at e (with_entry n (left_by now) es) es (e.number == n) (is_over now e.state) refl (released es)

  pub found_still : (es : List Entry) (e : Entry) (left : Option Entry) → InOrder es → entry_numbered n es ≡ Some e → left ≡ left_by now e → entries_at now (with_entry n (λ x. left) es) ≡ entries_at now es
  found_still es e left order found is = ap (entries_at now) (agree_at_it n (λ x. left) (left_by now) es order e found is) ∙ released es

-- ---- what a release leaves of an entry that is due

moment_is_none : (o : Option (ℕ × ℕ)) → option_map (λ (t : ℕ × ℕ). t.0) o ≡ None → o ≡ None
moment_is_none None h = refl
moment_is_none (Some t) h = absurd (cc)

-- a number that no entry has goes without a timer
pub no_timer : (n : ℕ) (es : List Entry) (timers : List (ℕ × ℕ)) → AreTimersOf es timers → entry_numbered n es ≡ None → timers ≡ without n timers
no_timer n es timers are none = sym (without-absent n timers (absent_all n timers (moment_is_none (timer_of n timers) (are n ∙ ap wanted none))))

-- the entry of a timer that is due is there
has_entry_at : (o : Option Entry) (now : ℕ) → HasCome now (wanted o) → o ≡ None → ⊥
has_entry_at o now come none = let no : None ≡ Some come.at = sym (ap wanted none) ∙ come.is in cc

pub has_entry : (now n : ℕ) (es : List Entry) (timers : List (ℕ × ℕ)) → AreTimersOf es timers → HasCome now (moment_of n timers) → entry_numbered n es ≡ None → ⊥
has_entry now n es timers are come none = has_entry_at (entry_numbered n es) now (subst (HasCome now) (are n) come) none

-- and its moment has come
pub has_come : (now n : ℕ) (es : List Entry) (timers : List (ℕ × ℕ)) (e : Entry) → AreTimersOf es timers → entry_numbered n es ≡ Some e → HasCome now (moment_of n timers) → HasCome now (moment_in e.state)
has_come now n es timers e are found come = subst (HasCome now) (are n ∙ ap wanted found) come

-- so it has no run then,
idle_then : (now : ℕ) (state : EntryState) → HasCome now (moment_in state) → run_of (state_at now state) ≡ None
idle_then now Pending come = refl
idle_then now Holding come = refl
idle_then now (Timed at) come = either (nat_le at now)
  where
    either : (b : Bool) → run_of (cond b Pending (Timed at)) ≡ None
    either true = refl
    either false = refl
idle_then now (Running queue node run) come = let no : None ≡ Some come.at = come.is in absurd (cc)
idle_then now (Aborting queue node run fate) come = let no : None ≡ Some come.at = come.is in absurd (cc)
idle_then now (Retained status until) come = refl

module _ (now n : ℕ) (es : List Entry) (e : Entry) (left : Option Entry) (found : entry_numbered n es ≡ Some e) (come : HasCome now (moment_in e.state)) (is : left ≡ left_by now e) where
  left_at : (b : Bool) → IfSome (cond b None (Some (entry_at now e))) (λ l. IsLeftOf l n (entry_numbered n es))
  left_at true = tt
  left_at false = record {
    there = ap is_some found;
    number_stays = number_found n e es found;
    file_stays = subst (λ (o : Option Entry). IfSome o (λ x. x.file ≡ e.file)) (sym found) refl;
    run_stays = runless (entry_at now e) (idle_then now e.state come) (λ r. option_and_then run_of_entry (entry_numbered n es) ≡ Some r);
  }

  pub left_released : IfSome left (λ l. IsLeftOf l n (entry_numbered n es))
  left_released = subst (λ (o : Option Entry). IfSome o (λ l. IsLeftOf l n (entry_numbered n es))) (sym is) (left_at (is_over now e.state))

  -- and wants no timer
  come_is : (o : Option ℕ) → HasCome now o → left_of now o ≡ None
  come_is None has = refl
  come_is (Some at) has = let same : at ≡ has.at = cc in step (nat_lt now at) refl (omega (arith, has.come, same))
    where
      step : (b : Bool) → nat_lt now at ≡ b → at ≤ now → cond b (Some at) None ≡ None
      step true less le = absurd (grind (arith, nat_tests))
      step false less le = refl

  no_moment_at : (b : Bool) → wanted (cond b None (Some (entry_at now e))) ≡ cond (not b) (moment_in (state_at now e.state)) None
  no_moment_at true = refl
  no_moment_at false = refl

  pub no_moment_left : moment_left left ≡ None
  no_moment_left = ap moment_left is ∙ no_moment_at (is_over now e.state) ∙ state_left now e.state ∙ come_is (moment_in e.state) come

-- a number that has a timer makes one less
some_timer : (now : ℕ) (o : Option (ℕ × ℕ)) → HasCome now (option_map (λ (t : ℕ × ℕ). t.0) o) → IsSome o
some_timer now None come = let no : None ≡ Some come.at = come.is in absurd (cc)
some_timer now (Some t) come = refl

pub one_less : (now n : ℕ) (old new : List (ℕ × ℕ)) (moment : Option ℕ) → HasCome now (moment_of n old) → moment ≡ None → new ≡ with_timer n moment old → length new < length old
one_less now n old new moment come none is =
    let gone : new ≡ without n old = is ∙ ap (λ (o : Option ℕ). with_timer n o old) none in
    omega (arith, ap length gone, one_goes (λ (t : ℕ × ℕ). t.1 == n) old (some_timer now (timer_of n old) come))

-- no more timers are left than there were
pub no_more_left : (now : ℕ) (old : List (ℕ × ℕ)) → length (later_than now old) ≤ length old
no_more_left now old = omega (arith, length-filter (λ (t : ℕ × ℕ). nat_lt now t.0) old, count_by-le-length (λ (t : ℕ × ℕ). nat_lt now t.0) old)

-- room that is there is there whatever it is for
pub room_for : (room : ℕ) (o : Option ℕ) → 0 < room → IfSome o (λ at. 0 < room)
room_for room None has = tt
room_for room (Some at) has = has
