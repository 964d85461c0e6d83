-- Each job that is started is the first of those that can start.
use Rattle.std.proofs.Common.{◌≡◌, ℕ, zero, suc, Bool, true, false, cond, List, [], ◌∷◌, length, refl, sym, subst, arith, Option, None, Some, All, filter, IfSome, IsSome, fold}
use Rattle.std.specs.Option.{option_map, option_map_or, option_and_then}
use Rattle.std.proofs.lemmas.Bool.Decides.{nat_tests}
use Rattle.std.proofs.lemmas.List.Elements.{All-head, All-tail, All-cons, All-nil}
use Rattle.qm_model.specs.Common.{Entry, Queue, System, fits, before, first_of}
use Rattle.qm_model.specs.Settling.{Choice, Settled, AreStarts, next_queue, next_job, next_choice, has_run_numbers, after_start, start_of, preceded_by, settled_within, settled}
use Rattle.qm_model.proofs.SettlingLemmas.{first_in, in_filter, with_queue_of}

-- ---- the order

never_itself : (q : Queue) (a : Entry) → before q a a ≡ false
never_itself q a = grind (arith, nat_tests)

goes_on : (q : Queue) (a b c : Entry) → before q a b ≡ true → before q b c ≡ true → before q a c ≡ true
goes_on q a b c h k = grind (arith, nat_tests)

abbrev earlier : Queue → Entry → Entry → Entry
earlier q a e = cond (before q e a) e a

kept_at : (q : Queue) (z a y : Entry) (b d : Bool) → before q y a ≡ b → before q z y ≡ d → before q z a ≡ false → before q z (cond b y a) ≡ false
kept_at q z a y true true is also h = let it : before q z a ≡ true = goes_on q z y a also is in cc
kept_at q z a y true false is also h = also
kept_at q z a y false d is also h = h

kept : (q : Queue) (z a : Entry) (xs : List Entry) → before q z a ≡ false → before q z (fold (earlier q) a xs) ≡ false
kept q z a [] h = h
kept q z a (y ∷ ys) h = kept q z (earlier q a y) ys (kept_at q z a y (before q y a) (before q z y) refl refl h)

here_at : (q : Queue) (a y : Entry) (b : Bool) → before q y a ≡ b → before q y (cond b y a) ≡ false
here_at q a y true is = never_itself q y
here_at q a y false is = is

none_before : (q : Queue) (a : Entry) (xs : List Entry) → All (λ (x : Entry). before q x (fold (earlier q) a xs) ≡ false) xs
none_before q a [] = All-nil (λ (x : Entry). before q x a ≡ false)
none_before q a (y ∷ ys) =
    All-cons (λ (x : Entry). before q x (fold (earlier q) (earlier q a y) ys) ≡ false) y ys
    (kept q y (earlier q a y) ys (here_at q a y (before q y a) refl)) (none_before q (earlier q a y) ys)

first_is_first : (q : Queue) (r : Entry) (xs : List Entry) → first_of q xs ≡ Some r → All (λ (x : Entry). before q x r ≡ false) xs
first_is_first q r [] h = All-nil (λ (x : Entry). before q x r ≡ false)
first_is_first q r (x ∷ xs) h =
    let same : fold (earlier q) x xs ≡ r = cc in
    subst (λ (t : Entry). All (λ (y : Entry). before q y t ≡ false) (x ∷ xs)) same
    (All-cons (λ (y : Entry). before q y (fold (earlier q) x xs) ≡ false) x xs (kept q x x xs (never_itself q x)) (none_before q x xs))

-- ---- the choice

of_filtered_at : {X : Type 0} (p : X → Bool) (P : X → Type 0) (x : X) (xs : List X) (b : Bool) → p x ≡ b
    → (All P (filter p xs) → All (λ (y : X). p y ≡ true → P y) xs) → All P (cond b (x ∷ filter p xs) (filter p xs)) → All (λ (y : X). p y ≡ true → P y) (x ∷ xs)
of_filtered_at p P x xs true is later h = All-cons (λ y. p y ≡ true → P y) x xs (λ yes_p. All-head P x (filter p xs) h) (later (All-tail P x (filter p xs) h))
of_filtered_at p P x xs false is later h = All-cons (λ y. p y ≡ true → P y) x xs (λ yes_p. cc) (later h)

of_filtered : {X : Type 0} (p : X → Bool) (P : X → Type 0) (xs : List X) → All P (filter p xs) → All (λ (y : X). p y ≡ true → P y) xs
of_filtered p P [] h = All-nil (λ y. p y ≡ true → P y)
of_filtered p P (x ∷ xs) h = of_filtered_at p P x xs (p x) refl (of_filtered p P xs) h

entry_of_choice : (q : Queue) (c : Choice) (s : System) (o : Option Entry) → next_job s q ≡ o → option_map (with_queue_of q) o ≡ Some c → next_job s c.queue ≡ Some c.entry
entry_of_choice q c s None is h = cc
entry_of_choice q c s (Some e) is h =
    let same : with_queue_of q e ≡ c = cc in subst (λ (d : Choice). next_job s d.queue ≡ Some d.entry) same is

choice_at : (s : System) (c : Choice) (b : Bool) (o : Option Queue)
    → cond b (option_and_then (λ q. option_map (with_queue_of q) (next_job s q)) o) None ≡ Some c → next_job s c.queue ≡ Some c.entry
choice_at s c true None h = cc
choice_at s c true (Some q) h = entry_of_choice q c s (next_job s q) refl h
choice_at s c false o h = cc

chosen_job : (s : System) (c : Choice) → next_choice s ≡ Some c → next_job s c.queue ≡ Some c.entry
chosen_job s c h = choice_at s c (has_run_numbers s) (next_queue s) h

pub choice_fits : (s : System) (c : Choice) → next_choice s ≡ Some c → fits s c.entry c.queue ≡ true
choice_fits s c h = (in_filter (λ e. fits s e c.queue) c.entry s.entries (first_in c.queue c.entry (filter (λ e. fits s e c.queue) s.entries) (chosen_job s c h))).1

pub choice_is_first : (s : System) (c : Choice) → next_choice s ≡ Some c → All (λ e. fits s e c.queue ≡ true → before c.queue e c.entry ≡ false) s.entries
choice_is_first s c h =
    of_filtered (λ e. fits s e c.queue) (λ e. before c.queue e c.entry ≡ false) s.entries
    (first_is_first c.queue c.entry (filter (λ e. fits s e c.queue) s.entries) (chosen_job s c h))

-- ---- the starts

abbrev settled_from : ℕ → System → Option Choice → Settled
settled_from n s o = option_map_or (λ c. preceded_by (start_of s c) (settled_within n (after_start s c))) o (record { system = s; started = [] })

starts_at : (n : ℕ) (s : System) (o : Option Choice) → next_choice s ≡ o → ((t : System) → AreStarts t (settled_within n t).started (settled_within n t).system)
    → AreStarts s (settled_from n s o).started (settled_from n s o).system
starts_at n s None is later = refl
starts_at n s (Some c) is later =
    let rest : Settled = settled_within n (after_start s c) in
    subst (λ (o : Option Choice). IsSome o × IfSome o (λ d. (start_of s c ≡ start_of s d) × AreStarts (after_start s d) rest.started rest.system)) (sym is)
    (refl, (refl, later (after_start s c)))

starts_within : (n : ℕ) (s : System) → AreStarts s (settled_within n s).started (settled_within n s).system
starts_within zero s = refl
starts_within (suc n) s = starts_at n s (next_choice s) refl (starts_within n)

pub are_starts : (s : System) → AreStarts s (settled s).started (settled s).system
are_starts s = starts_within (length s.entries) s
