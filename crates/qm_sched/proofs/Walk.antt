-- The queues are gone through by name, each as long as it can start a job.
use Rattle.std.proofs.Common.{◌≡◌, ℕ, ◌+◌, ◌^◌, ◌≤◌, inl, inr, Bool, true, false, cond, ◌&&◌, ◌||◌, List, [], ◌∷◌, ◌++◌, refl, sym, ◌∙◌, ap, arith, lit≤, Option, None, Some, All, filter, find, ◌==◌, nat_lt, nat_cmp, is_lt, bytes_eq, Less}
use Rattle.std.specs.List.{list_any}
use Rattle.std.specs.Option.{option_map, option_map_or, option_and_then, option_to_list}
use Rattle.std.proofs.lemmas.Bool.Decides.{nat_tests}
use Rattle.std.proofs.lemmas.List.Elements.{All-cons, All-nil, All-head, All-tail, All-weaker}
use Rattle.qm_model.specs.Common.{Entry, EntryState, Queue, Start, System, name_cmp, IsInOrder, with_entry, occupies, fits, is_pending, runs_in, first_of, is_free, places, places_taken}
use Rattle.qm_kinds.specs.declared.entry.EntryState.TheVariants as entry
use Rattle.qm_model.specs.Settling.{Choice, can_start, next_queue, next_job, next_choice, has_run_numbers, made_running, after_start, start_of}
use Rattle.qm_model.proofs.SettlingLemmas.{IsIn, and_left, and_right, first_in, in_filter, fits_pending, with_queue_of}
use Rattle.qm_model.proofs.SoundLemmas.{choice_is}
use Rattle.qm_model.proofs.ListLemmas.{Pairs, pairs_of, in_all}
use Rattle.qm_tables.specs.Queues.{comes_after, queue_after}
use Rattle.qm_sched.specs.Choosing.{next_start}
use Rattle.qm_sched.proofs.FewStarts.{counted, counted_is, no_fewer_at}

-- ---- the first that passes

module _ {X : Type 0} (p r : X → Bool) where
  -- what fails the one test fails the other
  abbrev Fails : X → Type 0
  Fails x = p x ≡ false → r x ≡ false

  first_at : (q y : X) (ys : List X) (b : Bool) → p y ≡ b → cond b (Some y) (find p ys) ≡ Some q → Fails y → r q ≡ true → (find p ys ≡ Some q → find r ys ≡ Some q)
      → cond (r y) (Some y) (find r ys) ≡ Some q
  first_at q y ys true is h fails passes later =
      let same : y ≡ q = cc in
      ap (λ b. cond b (Some y) (find r ys)) (ap r same ∙ passes) ∙ ap (λ z. Some z) same
  first_at q y ys false is h fails passes later = ap (λ b. cond b (Some y) (find r ys)) (fails is) ∙ later h

  first_too : (q : X) (xs : List X) → find p xs ≡ Some q → All Fails xs → r q ≡ true → find r xs ≡ Some q
  first_too q [] h fails passes = cc
  first_too q (y ∷ ys) h fails passes =
      first_at q y ys (p y) refl h (All-head Fails y ys fails) passes (λ k. first_too q ys k (All-tail Fails y ys fails) passes)

  none_at : (y : X) (ys : List X) (b : Bool) → p y ≡ b → cond b (Some y) (find p ys) ≡ None → Fails y → (find p ys ≡ None → find r ys ≡ None)
      → cond (r y) (Some y) (find r ys) ≡ None
  none_at y ys true is h fails later = cc
  none_at y ys false is h fails later = ap (λ b. cond b (Some y) (find r ys)) (fails is) ∙ later h

  none_too : (xs : List X) → find p xs ≡ None → All Fails xs → find r xs ≡ None
  none_too [] h fails = refl
  none_too (y ∷ ys) h fails = none_at y ys (p y) refl h (All-head Fails y ys fails) (λ k. none_too ys k (All-tail Fails y ys fails))

-- ---- what a queue starts next

both : (a b : Bool) → a ≡ true → b ≡ true → (a && b) ≡ true
both true b h k = k
both false b h k = cc

or_right : (a b : Bool) → b ≡ true → (a || b) ≡ true
or_right true b h = refl
or_right false b h = h

any_of : {X : Type 0} (p : X → Bool) (x : X) (xs : List X) → IsIn x xs → p x ≡ true → list_any p xs ≡ true
any_of p x [] among passes = absurd among
any_of p x (y ∷ ys) (inl here) passes = ap (λ b. b || list_any p ys) (ap p (sym here) ∙ passes)
any_of p x (y ∷ ys) (inr among) passes = or_right (p y) (list_any p ys) (any_of p x ys among passes)

none_of_at : (q : Queue) (p : Entry → Bool) (x : Entry) (xs : List Entry) (b : Bool) → first_of q (cond b (x ∷ filter p xs) (filter p xs)) ≡ None
    → (first_of q (filter p xs) ≡ None → list_any p xs ≡ false) → (b || list_any p xs) ≡ false
none_of_at q p x xs true h later = cc
none_of_at q p x xs false h later = later h

none_of : (q : Queue) (p : Entry → Bool) (xs : List Entry) → first_of q (filter p xs) ≡ None → list_any p xs ≡ false
none_of q p [] h = refl
none_of q p (x ∷ xs) h = none_of_at q p x xs (p x) h (none_of q p xs)

-- the queue starts this next
pub record IsNext (s : System) (q : Queue) (start : Start) : Type 0 where
  pub entry : Entry
  pub job : next_job s q ≡ Some entry
  pub is : start ≡ start_of s (with_queue_of q entry)
  pub numbers : has_run_numbers s ≡ true
  pub free : is_free s q ≡ true

next_at : (s : System) (q : Queue) (start : Start) (b : Bool) (o : Option Entry) → (has_run_numbers s && is_free s q) ≡ b → next_job s q ≡ o
    → cond b (option_map (λ e. start_of s (with_queue_of q e)) o) None ≡ Some start → IsNext s q start
next_at s q start true None is job h = cc
next_at s q start true (Some e) is job h =
    let same : start_of s (with_queue_of q e) ≡ start = cc in
    record { entry = e; job = job; is = sym same; numbers = and_left (has_run_numbers s) (is_free s q) is; free = and_right (has_run_numbers s) (is_free s q) is }
next_at s q start false o is job h = cc

pub next_is : (s : System) (q : Queue) (start : Start) → next_start s q ≡ Some start → IsNext s q start
next_is s q start h = next_at s q start (has_run_numbers s && is_free s q) (next_job s q) refl refl h

can_start_next : (s : System) (q : Queue) (e : Entry) → next_job s q ≡ Some e → is_free s q ≡ true → can_start s q ≡ true
can_start_next s q e job free =
    let found = in_filter (λ x. fits s x q) e s.entries (first_in q e (filter (λ x. fits s x q) s.entries) job) in
    both (is_free s q) (list_any (λ x. fits s x q) s.entries) free (any_of (λ x. fits s x q) e s.entries found.0 found.1)

no_job : (s : System) (q : Queue) (o : Option Entry) → option_map (λ e. start_of s (with_queue_of q e)) o ≡ None → o ≡ None
no_job s q None h = refl
no_job s q (Some e) h = cc

nothing_at : (s : System) (q : Queue) (b : Bool) → is_free s q ≡ b → cond b (option_map (λ e. start_of s (with_queue_of q e)) (next_job s q)) None ≡ None
    → can_start s q ≡ false
nothing_at s q true is h =
    ap (λ b. b && list_any (λ x. fits s x q) s.entries) is ∙ none_of q (λ x. fits s x q) s.entries (no_job s q (next_job s q) h)
nothing_at s q false is h = ap (λ b. b && list_any (λ x. fits s x q) s.entries) is

-- a queue that starts nothing can't start a job, unless the numbers of runs are spent
nothing_next : (s : System) (q : Queue) → next_start s q ≡ None → has_run_numbers s ≡ true → can_start s q ≡ false
nothing_next s q h numbers =
    nothing_at s q (is_free s q) refl
    (sym (ap (λ b. cond (b && is_free s q) (option_map (λ e. start_of s (with_queue_of q e)) (next_job s q)) None) numbers) ∙ h)

-- ---- no queue up to a name can start a job

-- the queue stands up to the name, and can't start a job
abbrev pub IsPassed : System → Option (List ℕ) → Queue → Type 0
IsPassed s behind q = comes_after behind q ≡ false → can_start s q ≡ false

pub record ArePassed (s : System) (behind : Option (List ℕ)) : Type 0 where
  pub each : has_run_numbers s ≡ true → All (IsPassed s behind) s.queues

-- what the next queue starts next is what starts next
pub chosen_next : (s : System) (behind : Option (List ℕ)) (q : Queue) (start : Start) → ArePassed s behind → queue_after behind s.queues ≡ Some q
    → (h : IsNext s q start) → next_choice s ≡ Some (with_queue_of q h.entry)
chosen_next s behind q start passed found h =
    let queue : next_queue s ≡ Some q =
    first_too (comes_after behind) (can_start s) q s.queues found (passed.each h.numbers) (can_start_next s q h.entry h.job h.free) in
    ap (λ b. cond b (option_and_then (λ p. option_map (with_queue_of p) (next_job s p)) (next_queue s)) None) h.numbers
    ∙ ap (option_and_then (λ p. option_map (with_queue_of p) (next_job s p))) queue
    ∙ ap (option_map (with_queue_of q)) h.job

-- behind the last queue nothing is left to start
no_choice_at : (s : System) (b : Bool) → (b ≡ true → next_queue s ≡ None) → cond b (option_and_then (λ p. option_map (with_queue_of p) (next_job s p)) (next_queue s)) None ≡ None
no_choice_at s true none = ap (option_and_then (λ p. option_map (with_queue_of p) (next_job s p))) (none refl)
no_choice_at s false none = refl

pub none_behind : (s : System) (behind : Option (List ℕ)) → ArePassed s behind → queue_after behind s.queues ≡ None → next_choice s ≡ None
none_behind s behind passed found =
    no_choice_at s (has_run_numbers s) (λ numbers. none_too (comes_after behind) (can_start s) s.queues found (passed.each numbers))

none_passed : (s : System) (qs : List Queue) → All (IsPassed s None) qs
none_passed s [] = All-nil (IsPassed s None)
none_passed s (q ∷ qs) = All-cons (IsPassed s None) q qs (λ is. cc) (none_passed s qs)

-- before the first queue none is passed
pub starts_at_first : (s : System) → ArePassed s None
starts_at_first s = record { each = λ numbers. none_passed s s.queues }

-- ---- a queue that starts nothing is passed

module _ (s : System) (behind : Option (List ℕ)) (q : Queue) (stuck : can_start s q ≡ false) where
  later_not_passed : (x : Queue) → name_cmp q.name x.name ≡ Less → IsPassed s (Some q.name) x
  later_not_passed x less is = let yes : comes_after (Some q.name) x ≡ true = ap is_lt less in cc

  pass_at : (y : Queue) (ys : List Queue) (b : Bool) → comes_after behind y ≡ b → cond b (Some y) (find (comes_after behind) ys) ≡ Some q
      → All (λ x. name_cmp y.name x.name ≡ Less) ys → IsPassed s behind y → (find (comes_after behind) ys ≡ Some q → All (IsPassed s (Some q.name)) ys)
      → All (IsPassed s (Some q.name)) (y ∷ ys)
  pass_at y ys true is h order passed later =
      let same : y ≡ q = cc in
      All-cons (IsPassed s (Some q.name)) y ys (λ at. ap (can_start s) same ∙ stuck)
      (All-weaker (λ x. name_cmp y.name x.name ≡ Less) (IsPassed s (Some q.name))
      (λ x less. later_not_passed x (ap (λ (z : Queue). name_cmp z.name x.name) (sym same) ∙ less)) ys order)
  pass_at y ys false is h order passed later = All-cons (IsPassed s (Some q.name)) y ys (λ at. passed is) (later h)

  pass_all : (qs : List Queue) → Pairs (λ a b. name_cmp a.name b.name ≡ Less) qs → All (IsPassed s behind) qs → find (comes_after behind) qs ≡ Some q
      → All (IsPassed s (Some q.name)) qs
  pass_all [] order passed h = cc
  pass_all (y ∷ ys) order passed h =
      pass_at y ys (comes_after behind y) refl h order.0 (All-head (IsPassed s behind) y ys passed) (pass_all ys order.1 (All-tail (IsPassed s behind) y ys passed))

pub goes_on : (s : System) (behind : Option (List ℕ)) (q : Queue) → IsInOrder name_cmp (λ p. p.name) s.queues → ArePassed s behind → queue_after behind s.queues ≡ Some q
    → next_start s q ≡ None → ArePassed s (Some q.name)
goes_on s behind q order passed found none = record {
  each = λ numbers.
      pass_all s behind q (nothing_next s q none numbers) s.queues (pairs_of (λ (a b : Queue). name_cmp a.name b.name ≡ Less) s.queues order) (passed.each numbers) found;
}

-- ---- a start lets no queue start a job that couldn't

no_run : (state : EntryState) → is_pending state ≡ true → runs_in state ≡ None
no_run entry.Pending h = refl
no_run entry.Holding h = refl
no_run (entry.Timed at) h = refl
no_run (entry.Running queue node run) h = cc
no_run (entry.Aborting queue node run fate) h = cc
no_run (entry.Retained status until) h = refl

below_differs : (m n : ℕ) → nat_cmp m n ≡ Less → (m == n) ≡ false
below_differs m n h = grind (arith, nat_tests)

above_differs : (m n : ℕ) → nat_cmp m n ≡ Less → (n == m) ≡ false
above_differs m n h = grind (arith, nat_tests)

module _ (name : List ℕ) (c : Entry) (pending : is_pending c.state ≡ true) where
  -- an entry of this number has no run in the queue
  abbrev HasNone : Entry → Type 0
  HasNone e = (e.number == c.number) ≡ true → occupies name e ≡ false

  itself : (e : Entry) → c ≡ e → HasNone e
  itself e same at =
      let none : runs_in e.state ≡ None = ap (λ (x : Entry). runs_in x.state) (sym same) ∙ no_run c.state pending in
      ap (λ o. option_map_or (λ n. bytes_eq n name) o false) none

  others_have_none : (es : List Entry) → Pairs (λ a b. nat_cmp a.number b.number ≡ Less) es → IsIn c es → All HasNone es
  others_have_none [] order among = absurd among
  others_have_none (e ∷ es) order (inl here) =
      All-cons HasNone e es (itself e here)
      (All-weaker (λ x. nat_cmp e.number x.number ≡ Less) HasNone
      (λ x less at. let no : (x.number == c.number) ≡ false = ap (λ (z : Entry). x.number == z.number) here ∙ above_differs e.number x.number less in cc) es order.0)
  others_have_none (e ∷ es) order (inr among) =
      All-cons HasNone e es
      (λ at. let no : (e.number == c.number) ≡ false = below_differs e.number c.number (in_all (λ (x : Entry). nat_cmp e.number x.number ≡ Less) c es order.0 among) in cc)
      (others_have_none es order.1 among)

module _ (n run : ℕ) (q : Queue) where
  abbrev running : List Entry → List Entry
  running es = with_entry n (λ e. Some (made_running run q e)) es

  taken_stay : (name : List ℕ) (es : List Entry) → All (λ (e : Entry). (e.number == n) ≡ true → occupies name e ≡ false) es
      → counted (occupies name) es ≤ counted (occupies name) (running es)
  taken_stay name [] h = lit≤ tt
  taken_stay name (e ∷ es) h =
      no_fewer_at (occupies name) (occupies name) n (made_running run q) (e.number == n) e es (running es)
      (All-head (λ (x : Entry). (x.number == n) ≡ true → occupies name x ≡ false) e es h) (λ at. refl)
      (taken_stay name es (All-tail (λ (x : Entry). (x.number == n) ≡ true → occupies name x ≡ false) e es h))

  none_fits_at : (s : System) (p : Queue) (b x : Bool) (e : Entry) (es fs : List Entry) → fits s e p ≡ x → (x || list_any (λ y. fits s y p) es) ≡ false
      → (list_any (λ y. fits s y p) es ≡ false → list_any (λ y. fits s y p) fs ≡ false)
      → list_any (λ y. fits s y p) (cond b (option_to_list (Some (made_running run q e))) (e ∷ []) ++ fs) ≡ false
  none_fits_at s p b true e es fs is h later = cc
  none_fits_at s p true false e es fs is h later = later h
  none_fits_at s p false false e es fs is h later = ap (λ x. x || list_any (λ y. fits s y p) fs) is ∙ later h

  none_fits : (s : System) (p : Queue) (es : List Entry) → list_any (λ y. fits s y p) es ≡ false → list_any (λ y. fits s y p) (running es) ≡ false
  none_fits s p [] h = refl
  none_fits s p (e ∷ es) h = none_fits_at s p (e.number == n) (fits s e p) e es (running es) refl h (none_fits s p es)

still_full : (m n k : ℕ) → m ≤ n → nat_lt m k ≡ false → nat_lt n k ≡ false
still_full m n k h full = grind (arith, nat_tests)

still_stuck : (a b x y : Bool) → (a ≡ false → x ≡ false) → (b ≡ false → y ≡ false) → (a && b) ≡ false → (x && y) ≡ false
still_stuck true true x y h k is = cc
still_stuck true false true y h k is = k refl
still_stuck true false false y h k is = refl
still_stuck false b x y h k is = ap (λ z. z && y) (h refl)

fewer_still : (n k : ℕ) → nat_lt (n + 1) k ≡ true → nat_lt n k ≡ true
fewer_still n k h = grind (arith, nat_tests)

module _ (s : System) (c : Choice) (is : next_choice s ≡ Some c) (order : IsInOrder nat_cmp (λ e. e.number) s.entries) where
  stays_stuck : (q : Queue) → can_start s q ≡ false → can_start (after_start s c) q ≡ false
  stays_stuck q h =
      let choice = choice_is s c is in
      let pending = fits_pending s c.entry c.queue choice.fit in
      let none = others_have_none q.name c.entry pending s.entries (pairs_of (λ (a b : Entry). nat_cmp a.number b.number ≡ Less) s.entries order) choice.entry in
      let more : places_taken s.entries q.name ≤ places_taken (after_start s c).entries q.name =
      omega (arith, taken_stay c.entry.number s.next_run c.queue q.name s.entries none, counted_is (occupies q.name) s.entries, counted_is (occupies q.name) (after_start s c).entries) in
      still_stuck (is_free s q) (list_any (λ e. fits s e q) s.entries) (is_free (after_start s c) q) (list_any (λ e. fits (after_start s c) e q) (after_start s c).entries)
      (still_full (places_taken s.entries q.name) (places_taken (after_start s c).entries q.name) (places q) more)
      (none_fits c.entry.number s.next_run c.queue s q s.entries) h

  pub stays_passed : (behind : Option (List ℕ)) → ArePassed s behind → ArePassed (after_start s c) behind
  stays_passed behind passed = record {
    each = λ numbers.
        All-weaker (IsPassed s behind) (IsPassed (after_start s c) behind) (λ q stuck at. stays_stuck q (stuck at)) s.queues
        (passed.each (fewer_still s.next_run (2 ^ 63) numbers));
  }
