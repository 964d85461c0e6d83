-- Starting jobs comes to an end, and leaves all but entries and run numbers as it was.
use Rattle.std.proofs.Common.{◌≡◌, ℕ, zero, suc, ◌+◌, ◌≤◌, ◌⊎◌, inl, inr, Bool, true, false, cond, ◌&&◌, ◌||◌, not, List, [], ◌∷◌, ◌++◌, length, refl, sym, ◌∙◌, ap, arith, lit≤, Option, None, Some, filter, find, Ok, ◌==◌}
use Rattle.std.specs.List.{list_any, fold}
use Rattle.std.specs.Option.{option_map, option_map_or, option_and_then, option_to_list}
use Rattle.std.proofs.lemmas.Bool.Decides.{nat_tests}
use Rattle.qm_model.specs.Common.{Entry, Queue, Refusal, Start, System, Accepted, unless_refused, with_entry, fits, is_pending, before, first_of, is_free}
use Rattle.qm_model.specs.Settling.{Choice, Settled, can_start, next_queue, next_job, next_choice, has_run_numbers, made_running, after_start, start_of, preceded_by, settled_within, settled, is_among_started}

pub and_left : (a b : Bool) → (a && b) ≡ true → a ≡ true
and_left true b h = refl
and_left false b h = h

pub and_right : (a b : Bool) → (a && b) ≡ true → b ≡ true
and_right true b h = h
and_right false true h = refl
and_right false false h = h

itself : (m n : ℕ) → m ≡ n → (m == n) ≡ true
itself m n h = grind (arith, nat_tests)

-- x is an element
abbrev pub IsIn : {X : Type 0} → X → List X → Type 0
IsIn x [] = ⊥
IsIn x (y ∷ ys) = (x ≡ y) ⊎ IsIn x ys

-- ---- what is chosen

chosen : {X : Type 0} (b : Bool) (x y r : X) → r ≡ cond b x y → (r ≡ x) ⊎ (r ≡ y)
chosen true x y r h = inl h
chosen false x y r h = inr h

abbrev earlier : Queue → Entry → Entry → Entry
earlier q a e = cond (before q e a) e a

fold_in : (q : Queue) (a r : Entry) (xs : List Entry) → fold (earlier q) a xs ≡ r → (r ≡ a) ⊎ IsIn r xs
fold_in q a r [] h = inl (sym h)
fold_in q a r (y ∷ ys) h =
    elim (fold_in q (earlier q a y) r ys h) [
      | inl same ↦ elim (chosen (before q y a) y a r same) [ inl is_y ↦ inr (inl is_y) | inr is_a ↦ inl is_a ]
      | inr among ↦ inr (inr among)
    ]

pub first_in : (q : Queue) (r : Entry) (xs : List Entry) → first_of q xs ≡ Some r → IsIn r xs
first_in q r [] h = cc
first_in q r (x ∷ xs) h = let same : fold (earlier q) x xs ≡ r = cc in fold_in q x r xs same

in_filter_at : {X : Type 0} (p : X → Bool) (x y : X) (ys : List X) (b : Bool) → p y ≡ b → (IsIn x (filter p ys) → IsIn x ys × (p x ≡ true))
    → IsIn x (cond b (y ∷ filter p ys) (filter p ys)) → IsIn x (y ∷ ys) × (p x ≡ true)
in_filter_at p x y ys true e later (inl same) = (inl same, ap p same ∙ e)
in_filter_at p x y ys true e later (inr among) = (inr (later among).0, (later among).1)
in_filter_at p x y ys false e later among = (inr (later among).0, (later among).1)

pub in_filter : {X : Type 0} (p : X → Bool) (x : X) (xs : List X) → IsIn x (filter p xs) → IsIn x xs × (p x ≡ true)
in_filter p x [] among = absurd among
in_filter p x (y ∷ ys) among = in_filter_at p x y ys (p y) refl (in_filter p x ys) among

pub fits_pending : (s : System) (e : Entry) (q : Queue) → fits s e q ≡ true → is_pending e.state ≡ true
fits_pending s e q h = and_left _ _ (and_left _ _ (and_left _ _ (and_left _ _ (and_left _ _ (and_left _ _ h)))))

abbrev pub with_queue_of : Queue → Entry → Choice
with_queue_of q e = record { entry = e; queue = q }

pub job_of_choice : (q : Queue) (c : Choice) (o : Option Entry) → option_map (with_queue_of q) o ≡ Some c → o ≡ Some c.entry
job_of_choice q c None h = cc
job_of_choice q c (Some e) h = let same : with_queue_of q e ≡ c = cc in ap (λ (d : Choice). Some d.entry) same

queue_of_choice : (s : System) (c : Choice) (b : Bool) (o : Option Queue)
    → cond b (option_and_then (λ q. option_map (with_queue_of q) (next_job s q)) o) None ≡ Some c → (q : Queue) × (next_job s q ≡ Some c.entry)
queue_of_choice s c true None h = cc
queue_of_choice s c true (Some q) h = (q, job_of_choice q c (next_job s q) h)
queue_of_choice s c false o h = cc

-- a job that is chosen is one of the entries, and is pending
pub choice_is_pending : (s : System) (c : Choice) → next_choice s ≡ Some c → IsIn c.entry s.entries × (is_pending c.entry.state ≡ true)
choice_is_pending s c h =
    let found = queue_of_choice s c (has_run_numbers s) (next_queue s) h in
    let among = in_filter (λ e. fits s e found.0) c.entry s.entries (first_in found.0 c.entry (filter (λ e. fits s e found.0) s.entries) found.1) in
    (among.0, fits_pending s c.entry found.0 among.1)

-- ---- fewer jobs are pending after each start

abbrev one_if : Bool → ℕ
one_if b = cond b 1 0

abbrev pending_in : List Entry → ℕ
pending_in [] = 0
pending_in (e ∷ es) = one_if (is_pending e.state) + pending_in es

one_or_none : (b : Bool) → one_if b ≤ 1
one_or_none true = lit≤ tt
one_or_none false = lit≤ tt

few_pending : (es : List Entry) → pending_in es ≤ length es
few_pending [] = lit≤ tt
few_pending (e ∷ es) = omega (arith, few_pending es, one_or_none (is_pending e.state))

abbrev running : ℕ → ℕ → Queue → List Entry → List Entry
running n run q es = with_entry n (λ e. Some (made_running run q e)) es

not_more_at : (b : Bool) (run : ℕ) (q : Queue) (e : Entry) (es : List Entry)
    → pending_in (cond b (option_to_list (Some (made_running run q e))) (e ∷ []) ++ es) ≤ one_if (is_pending e.state) + pending_in es
not_more_at true run q e es = omega arith
not_more_at false run q e es = omega arith

not_more : (n run : ℕ) (q : Queue) (es : List Entry) → pending_in (running n run q es) ≤ pending_in es
not_more n run q [] = lit≤ tt
not_more n run q (e ∷ es) = omega (arith, not_more_at (e.number == n) run q e (running n run q es), not_more n run q es)

one_less_at : (b : Bool) (run : ℕ) (q : Queue) (e : Entry) (es : List Entry) → b ≡ true → is_pending e.state ≡ true
    → pending_in (cond b (option_to_list (Some (made_running run q e))) (e ∷ []) ++ es) + 1 ≤ one_if (is_pending e.state) + pending_in es
one_less_at true run q e es h pending = rw pending (omega arith)
one_less_at false run q e es h pending = cc

one_less : (run : ℕ) (q : Queue) (c : Entry) (es : List Entry) → IsIn c es → is_pending c.state ≡ true → pending_in (running c.number run q es) + 1 ≤ pending_in es
one_less run q c [] among pending = absurd among
one_less run q c (e ∷ es) (inl same) pending =
    let number : (e.number == c.number) ≡ true = itself e.number c.number (ap (λ (d : Entry). d.number) (sym same)) in
    let state : is_pending e.state ≡ true = ap (λ (d : Entry). is_pending d.state) (sym same) ∙ pending in
    omega (arith, one_less_at (e.number == c.number) run q e (running c.number run q es) number state, not_more c.number run q es)
one_less run q c (e ∷ es) (inr among) pending =
    omega (arith, not_more_at (e.number == c.number) run q e (running c.number run q es), one_less run q c es among pending)

pub start_takes_one : (s : System) (c : Choice) → next_choice s ≡ Some c → pending_in (after_start s c).entries + 1 ≤ pending_in s.entries
start_takes_one s c h = let found = choice_is_pending s c h in one_less s.next_run c.queue c.entry s.entries found.0 found.1

-- ---- so nothing is left that can start

nothing_pending : (s : System) (o : Option Choice) → next_choice s ≡ o → pending_in s.entries ≤ 0 → next_choice s ≡ None
nothing_pending s None h few = h
nothing_pending s (Some c) h few = absurd (omega (arith, start_takes_one s c h, few))

abbrev pub settled_by : ℕ → System → Option Choice → Settled
settled_by n s o = option_map_or (λ c. preceded_by (start_of s c) (settled_within n (after_start s c))) o (record { system = s; started = [] })

ends_at : (n : ℕ) (s : System) (o : Option Choice) → next_choice s ≡ o → ((c : Choice) → next_choice s ≡ Some c → next_choice (settled_within n (after_start s c)).system ≡ None)
    → next_choice (settled_by n s o).system ≡ None
ends_at n s None h later = h
ends_at n s (Some c) h later = later c h

ends_within : (n : ℕ) (s : System) → pending_in s.entries ≤ n → next_choice (settled_within n s).system ≡ None
ends_within zero s few = nothing_pending s (next_choice s) refl few
ends_within (suc n) s few =
    ends_at n s (next_choice s) refl (λ c h. ends_within n (after_start s c) (omega (arith, start_takes_one s c h, few)))

pub nothing_starts : (s : System) → next_choice (settled s).system ≡ None
nothing_starts s = ends_within (length s.entries) s (few_pending s.entries)

-- ---- which means that no queue can start a job

some_left_at : (q : Queue) (p : Entry → Bool) (x : Entry) (xs : List Entry) (b : Bool) → (list_any p xs ≡ true → first_of q (filter p xs) ≡ None → ⊥)
    → (b || list_any p xs) ≡ true → first_of q (cond b (x ∷ filter p xs) (filter p xs)) ≡ None → ⊥
some_left_at q p x xs true later any none = cc
some_left_at q p x xs false later any none = later any none

some_left : (q : Queue) (p : Entry → Bool) (xs : List Entry) → list_any p xs ≡ true → first_of q (filter p xs) ≡ None → ⊥
some_left q p [] any none = cc
some_left q p (x ∷ xs) any none = some_left_at q p x xs (p x) (some_left q p xs) any none

no_map : (q : Queue) (o : Option Entry) → option_map (with_queue_of q) o ≡ None → o ≡ None
no_map q None h = refl
no_map q (Some e) h = cc

no_queue_at : (s : System) (q : Queue) (qs : List Queue) (b : Bool) → can_start s q ≡ b
    → (option_and_then (λ p. option_map (with_queue_of p) (next_job s p)) (find (can_start s) qs) ≡ None → list_any (can_start s) qs ≡ false)
    → option_and_then (λ p. option_map (with_queue_of p) (next_job s p)) (cond b (Some q) (find (can_start s) qs)) ≡ None
    → (b || list_any (can_start s) qs) ≡ false
no_queue_at s q qs true h later none =
    absurd (some_left q (λ e. fits s e q) s.entries (and_right (is_free s q) (list_any (λ e. fits s e q) s.entries) h) (no_map q (next_job s q) none))
no_queue_at s q qs false h later none = later none

no_queue : (s : System) (qs : List Queue) → option_and_then (λ p. option_map (with_queue_of p) (next_job s p)) (find (can_start s) qs) ≡ None
    → list_any (can_start s) qs ≡ false
no_queue s [] none = refl
no_queue s (q ∷ qs) none = no_queue_at s q qs (can_start s q) refl (no_queue s qs) none

with_numbers : {X : Type 0} (b : Bool) (o : Option X) → b ≡ true → cond b o None ≡ None → o ≡ None
with_numbers true o h none = none
with_numbers false o h none = cc

pub none_can_start : (s : System) → next_choice s ≡ None → has_run_numbers s ≡ true → list_any (can_start s) s.queues ≡ false
none_can_start s none numbers = no_queue s s.queues (with_numbers (has_run_numbers s) _ numbers none)

-- ---- what stays

pub stays : (n : ℕ) (s : System) → next_choice s ≡ None → settled_within n s ≡ record { system = s; started = [] }
stays zero s none = refl
stays (suc n) s none = ap (settled_by n s) none

rest_at : (n : ℕ) (s : System) (o : Option Choice)
    → ((c : Choice) → record (settled_within n (after_start s c)).system { entries = (after_start s c).entries; next_run = (after_start s c).next_run } ≡ after_start s c)
    → record (settled_by n s o).system { entries = s.entries; next_run = s.next_run } ≡ s
rest_at n s None later = refl
rest_at n s (Some c) later = ap (λ (t : System). record t { entries = s.entries; next_run = s.next_run }) (later c)

rest_within : (n : ℕ) (s : System) → record (settled_within n s).system { entries = s.entries; next_run = s.next_run } ≡ s
rest_within zero s = refl
rest_within (suc n) s = rest_at n s (next_choice s) (λ c. rest_within n (after_start s c))

pub rest_stays : (s : System) → record (settled s).system { entries = s.entries; next_run = s.next_run } ≡ s
rest_stays s = rest_within (length s.entries) s

numbers_at : (n : ℕ) (s : System) (o : Option Choice)
    → ((c : Choice) → (settled_within n (after_start s c)).system.next_run ≡ (after_start s c).next_run + length (settled_within n (after_start s c)).started)
    → (settled_by n s o).system.next_run ≡ s.next_run + length (settled_by n s o).started
numbers_at n s None later = omega arith
numbers_at n s (Some c) later = omega (arith, later c)

numbers_within : (n : ℕ) (s : System) → (settled_within n s).system.next_run ≡ s.next_run + length (settled_within n s).started
numbers_within zero s = omega arith
numbers_within (suc n) s = numbers_at n s (next_choice s) (λ c. numbers_within n (after_start s c))

pub numbers_taken : (s : System) → (settled s).system.next_run ≡ s.next_run + length (settled s).started
numbers_taken s = numbers_within (length s.entries) s

-- ---- the entries that aren't started stay as they are

without : {X : Type 0} (p : X → Bool) (x : X) (xs : List X) → p x ≡ false → filter p (x ∷ xs) ≡ filter p xs
without p x xs h = ap (λ b. cond b (x ∷ filter p xs) (filter p xs)) h

neither_at : {X : Type 0} (a : X → Bool) (x : X) (all some : List X) (p q : Bool) → a x ≡ p → all ≡ filter (λ y. not (a y)) some
    → cond (not (p || q)) (x ∷ all) all ≡ filter (λ y. not (a y)) (cond (not q) (x ∷ some) some)
neither_at a x all some true true h same = same
neither_at a x all some false true h same = same
neither_at a x all some true false h same = same ∙ sym (without (λ y. not (a y)) x some (ap not h))
neither_at a x all some false false h same =
    ap (λ l. x ∷ l) same ∙ sym (ap (λ b. cond (not b) (x ∷ filter (λ y. not (a y)) some) (filter (λ y. not (a y)) some)) h)

neither : {X : Type 0} (a b : X → Bool) (xs : List X) → filter (λ x. not (a x || b x)) xs ≡ filter (λ x. not (a x)) (filter (λ x. not (b x)) xs)
neither a b [] = refl
neither a b (x ∷ xs) = neither_at a x (filter (λ y. not (a y || b y)) xs) (filter (λ y. not (b y)) xs) (a x) (b x) refl (neither a b xs)

both_dropped_at : (p : Entry → Bool) (run : ℕ) (q : Queue) (e : Entry) (es rest : List Entry) (b : Bool) → (b ≡ true → p e ≡ false) → (b ≡ true → p (made_running run q e) ≡ false)
    → filter p rest ≡ filter p es → filter p (cond b (option_to_list (Some (made_running run q e))) (e ∷ []) ++ rest) ≡ filter p (e ∷ es)
both_dropped_at p run q e es rest true before_it after_it same = without p (made_running run q e) rest (after_it refl) ∙ same ∙ sym (without p e es (before_it refl))
both_dropped_at p run q e es rest false before_it after_it same = ap (λ l. cond (p e) (e ∷ l) l) same

swapped : (m n : ℕ) → (m == n) ≡ true → (n == m) ≡ true
swapped m n h = grind (arith, nat_tests, h)

abbrev neither_that_nor : ℕ → List Start → Entry → Bool
neither_that_nor n later e = not ((n == e.number) || is_among_started later e)

dropped : (n : ℕ) (later : List Start) (e : Entry) → (e.number == n) ≡ true → neither_that_nor n later e ≡ false
dropped n later e h = ap (λ b. not (b || is_among_started later e)) (swapped e.number n h)

both_dropped : (n : ℕ) (later : List Start) (run : ℕ) (q : Queue) (es : List Entry)
    → filter (neither_that_nor n later) (running n run q es) ≡ filter (neither_that_nor n later) es
both_dropped n later run q [] = refl
both_dropped n later run q (e ∷ es) =
    both_dropped_at (neither_that_nor n later) run q e es (running n run q es) (e.number == n) (dropped n later e) (dropped n later (made_running run q e))
    (both_dropped n later run q es)

abbrev others_of : List Start → List Entry → List Entry
others_of started es = filter (λ e. not (is_among_started started e)) es

others_at : (n : ℕ) (s : System) (o : Option Choice)
    → ((c : Choice) → others_of (settled_within n (after_start s c)).started (settled_within n (after_start s c)).system.entries
    ≡ others_of (settled_within n (after_start s c)).started (after_start s c).entries)
    → others_of (settled_by n s o).started (settled_by n s o).system.entries ≡ others_of (settled_by n s o).started s.entries
others_at n s None later = refl
others_at n s (Some c) later =
    let end : Settled = settled_within n (after_start s c) in
    let is_it : Entry → Bool = λ e. c.entry.number == e.number in
    neither is_it (is_among_started end.started) end.system.entries ∙ ap (filter (λ e. not (is_it e))) (later c)
    ∙ sym (neither is_it (is_among_started end.started) (after_start s c).entries)
    ∙ both_dropped c.entry.number end.started s.next_run c.queue s.entries

others_within : (n : ℕ) (s : System) → others_of (settled_within n s).started (settled_within n s).system.entries ≡ others_of (settled_within n s).started s.entries
others_within zero s = refl
others_within (suc n) s = others_at n s (next_choice s) (λ c. others_within n (after_start s c))

pub others_stay : (s : System) → filter (λ e. not (is_among_started (settled s).started e)) (settled s).system.entries
    ≡ filter (λ e. not (is_among_started (settled s).started e)) s.entries
others_stay s = others_within (length s.entries) s

pub accepted_is : (o : Option Refusal) (b a : Accepted) → unless_refused o b ≡ Ok a → b ≡ a
accepted_is None b a h = cc
accepted_is (Some refusal) b a h = cc
