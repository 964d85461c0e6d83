-- What becomes of the jobs that are started.
use Rattle.std.proofs.Common.{◌≡◌, ℕ, zero, suc, ◌+◌, ◌<◌, Bool, true, false, cond, ◌&&◌, List, [], ◌∷◌, ◌++◌, length, map, refl, sym, ◌∙◌, ap, subst, arith, Option, None, Some, All, Contains, inl, inr, ◌==◌, unwrap_or, option_to_list}
use Rattle.std.specs.List.{range_with_len, slice_index_or}
use Rattle.std.proofs.lemmas.Bool.Decides.{Decides-eqb}
use Rattle.std.proofs.lemmas.List.Elements.{All-cons, All-nil, All-head, All-tail, All-weaker}
use Rattle.qm_model.specs.Common.{Entry, EntryState, Queue, Start, Node, System, with_entry, fits, is_open, is_started, is_up, is_pending}
use Rattle.qm_kinds.specs.declared.entry.EntryState.TheVariants as entry
use Rattle.qm_model.specs.Settling.{Choice, Settled, next_choice, made_running, after_start, start_of, settled_within, settled}
use Rattle.qm_model.specs.Starting.{as_pending, WasStarted}
use Rattle.qm_model.proofs.SettlingLemmas.{IsIn, and_left, and_right, fits_pending, settled_by}
use Rattle.qm_model.proofs.ListLemmas.{in_all, contains_in}
use Rattle.qm_model.proofs.SoundLemmas.{IsChoice, choice_is}

abbrev started_in : ℕ → ℕ → Queue → List Entry → List Entry
started_in n run q es = with_entry n (λ e. Some (made_running run q e)) es

-- one entry, where it is the one that starts and where it isn't
abbrev one_started : Bool → ℕ → Queue → Entry → List Entry
one_started b run q e = cond b (option_to_list (Some (made_running run q e))) (e ∷ [])

-- ---- all but the states stays

states_at : (b : Bool) (run : ℕ) (q : Queue) (e : Entry) (es fs : List Entry) → map as_pending fs ≡ map as_pending es
    → map as_pending (one_started b run q e ++ fs) ≡ map as_pending (e ∷ es)
states_at true run q e es fs same = ap (λ l. as_pending e ∷ l) same
states_at false run q e es fs same = ap (λ l. as_pending e ∷ l) same

states_alone : (n run : ℕ) (q : Queue) (es : List Entry) → map as_pending (started_in n run q es) ≡ map as_pending es
states_alone n run q [] = refl
states_alone n run q (e ∷ es) = states_at (e.number == n) run q e es (started_in n run q es) (states_alone n run q es)

states_by : (n : ℕ) (s : System) (o : Option Choice)
    → ((c : Choice) → map as_pending (settled_within n (after_start s c)).system.entries ≡ map as_pending (after_start s c).entries)
    → map as_pending (settled_by n s o).system.entries ≡ map as_pending s.entries
states_by n s None later = refl
states_by n s (Some c) later = later c ∙ states_alone c.entry.number s.next_run c.queue s.entries

states_within : (n : ℕ) (s : System) → map as_pending (settled_within n s).system.entries ≡ map as_pending s.entries
states_within zero s = refl
states_within (suc n) s = states_by n s (next_choice s) (λ c. states_within n (after_start s c))

pub states_change : (s : System) → map as_pending (settled s).system.entries ≡ map as_pending s.entries
states_change s = states_within (length s.entries) s

-- ---- the runs go by number

abbrev run_numbers : List Start → List ℕ
run_numbers started = map (λ start. start.run) started

runs_by : (n : ℕ) (s : System) (o : Option Choice)
    → ((c : Choice) → run_numbers (settled_within n (after_start s c)).started ≡ range_with_len (s.next_run + 1) (length (settled_within n (after_start s c)).started))
    → run_numbers (settled_by n s o).started ≡ range_with_len s.next_run (length (settled_by n s o).started)
runs_by n s None later = refl
runs_by n s (Some c) later = ap (λ l. s.next_run ∷ l) (later c)

runs_within : (n : ℕ) (s : System) → run_numbers (settled_within n s).started ≡ range_with_len s.next_run (length (settled_within n s).started)
runs_within zero s = refl
runs_within (suc n) s = runs_by n s (next_choice s) (λ c. runs_within n (after_start s c))

pub runs_by_number : (s : System) → map (λ start. start.run) (settled s).started ≡ range_with_len s.next_run (length (settled s).started)
runs_by_number s = runs_within (length s.entries) s

-- ---- entries of other numbers, and those that run already, stay

-- the entries of this number aren't pending
abbrev HasStarted : ℕ → Entry → Type 0
HasStarted n e = e.number ≡ n → is_pending e.state ≡ false

module _ (n run : ℕ) (q : Queue) where
  stays_at : (b : Bool) (e x : Entry) (es fs : List Entry) → (x.number == n) ≡ b → (e.number ≡ n → ⊥) → IsIn e (x ∷ es) → (IsIn e es → IsIn e fs) → IsIn e (one_started b run q x ++ fs)
  stays_at true e x es fs is other (inl same) later = absurd (other (ap (λ (z : Entry). z.number) same ∙ (Decides-eqb x.number n).0 is))
  stays_at true e x es fs is other (inr among) later = inr (later among)
  stays_at false e x es fs is other (inl same) later = inl same
  stays_at false e x es fs is other (inr among) later = inr (later among)

  stays_in : (e : Entry) (es : List Entry) → (e.number ≡ n → ⊥) → IsIn e es → IsIn e (started_in n run q es)
  stays_in e [] other among = absurd among
  stays_in e (x ∷ es) other among = stays_at (x.number == n) e x es (started_in n run q es) refl other among (stays_in e es other)

  was_at : (b : Bool) (e x : Entry) (es fs : List Entry) → is_pending e.state ≡ true → IsIn e (one_started b run q x ++ fs) → (IsIn e fs → IsIn e es) → IsIn e (x ∷ es)
  was_at true e x es fs pending (inl same) later = let runs : is_pending e.state ≡ false = ap (λ (z : Entry). is_pending z.state) same in cc
  was_at true e x es fs pending (inr among) later = inr (later among)
  was_at false e x es fs pending (inl same) later = inl same
  was_at false e x es fs pending (inr among) later = inr (later among)

  -- an entry that is still pending was there before
  was_in : (e : Entry) (es : List Entry) → is_pending e.state ≡ true → IsIn e (started_in n run q es) → IsIn e es
  was_in e [] pending among = absurd among
  was_in e (x ∷ es) pending among = was_at (x.number == n) e x es (started_in n run q es) pending among (was_in e es pending)

  runs_at : (b : Bool) (e x : Entry) (es fs : List Entry) → (x.number == n) ≡ b → e.number ≡ n → IsIn e (x ∷ es) → (IsIn e es → IsIn (made_running run q e) fs)
      → IsIn (made_running run q e) (one_started b run q x ++ fs)
  runs_at true e x es fs is number (inl same) later = inl (ap (made_running run q) same)
  runs_at true e x es fs is number (inr among) later = inr (later among)
  runs_at false e x es fs is number (inl same) later =
      let equal : (x.number == n) ≡ true = (Decides-eqb x.number n).1 (ap (λ (z : Entry). z.number) (sym same) ∙ number) in cc
  runs_at false e x es fs is number (inr among) later = inr (later among)

  -- the entry that starts runs afterwards
  runs_in_list : (e : Entry) (es : List Entry) → e.number ≡ n → IsIn e es → IsIn (made_running run q e) (started_in n run q es)
  runs_in_list e [] number among = absurd among
  runs_in_list e (x ∷ es) number among = runs_at (x.number == n) e x es (started_in n run q es) refl number among (runs_in_list e es number)

  all_started_at : (b : Bool) (x : Entry) (fs : List Entry) → (x.number == n) ≡ b → All (HasStarted n) fs → All (HasStarted n) (one_started b run q x ++ fs)
  all_started_at true x fs is later = All-cons (HasStarted n) (made_running run q x) fs (λ number. refl) later
  all_started_at false x fs is later =
      All-cons (HasStarted n) x fs (λ number. let equal : (x.number == n) ≡ true = (Decides-eqb x.number n).1 number in cc) later

  -- then no entry of its number is pending
  all_started : (es : List Entry) → All (HasStarted n) (started_in n run q es)
  all_started [] = All-nil (HasStarted n)
  all_started (x ∷ es) = all_started_at (x.number == n) x (started_in n run q es) refl (all_started es)

  still_started_at : (m : ℕ) (b : Bool) (x : Entry) (es fs : List Entry) → All (HasStarted m) (x ∷ es) → All (HasStarted m) fs → All (HasStarted m) (one_started b run q x ++ fs)
  still_started_at m true x es fs h later = All-cons (HasStarted m) (made_running run q x) fs (λ number. refl) later
  still_started_at m false x es fs h later = All-cons (HasStarted m) x fs (All-head (HasStarted m) x es h) later

  -- and none is from then on
  still_started : (m : ℕ) (es : List Entry) → All (HasStarted m) es → All (HasStarted m) (started_in n run q es)
  still_started m [] h = All-nil (HasStarted m)
  still_started m (x ∷ es) h = still_started_at m (x.number == n) x es (started_in n run q es) h (still_started m es (All-tail (HasStarted m) x es h))

-- what is chosen has another number than the entries that have started
other_number : (s : System) (c : Choice) (m : ℕ) → IsChoice s c → All (HasStarted m) s.entries → m ≡ c.entry.number → ⊥
other_number s c m choice h same =
    let started : is_pending c.entry.state ≡ false = in_all (HasStarted m) c.entry s.entries h choice.entry (sym same) in
    let pending : is_pending c.entry.state ≡ true = fits_pending s c.entry c.queue choice.fit in
    cc

kept_by : (n : ℕ) (s : System) (e : Entry) (o : Option Choice) → next_choice s ≡ o → All (HasStarted e.number) s.entries → IsIn e s.entries
    → ((t : System) → All (HasStarted e.number) t.entries → IsIn e t.entries → IsIn e (settled_within n t).system.entries) → IsIn e (settled_by n s o).system.entries
kept_by n s e None is h among later = among
kept_by n s e (Some c) is h among later =
    later (after_start s c) (still_started c.entry.number s.next_run c.queue e.number s.entries h)
    (stays_in c.entry.number s.next_run c.queue e s.entries (other_number s c e.number (choice_is s c is) h) among)

-- an entry that has started stays so
kept_within : (n : ℕ) (s : System) (e : Entry) → All (HasStarted e.number) s.entries → IsIn e s.entries → IsIn e (settled_within n s).system.entries
kept_within zero s e h among = among
kept_within (suc n) s e h among = kept_by n s e (next_choice s) refl h among (λ t. kept_within n t e)

-- ---- each start

pending_state : (state : EntryState) → is_pending state ≡ true → state ≡ entry.Pending
pending_state entry.Pending h = refl
pending_state _ h = cc

fits_open : (s : System) (e : Entry) (q : Queue) → fits s e q ≡ true → is_open s q ≡ true
fits_open s e q h = and_right (is_pending e.state && _) (is_open s q) (and_left _ _ (and_left _ _ (and_left _ _ (and_left _ _ h))))

has_node : (nodes : List Node) (o : Option (List ℕ)) → is_up nodes o ≡ true → o ≡ Some (unwrap_or o [])
has_node nodes None h = cc
has_node nodes (Some name) h = refl

in_at : {X : Type 0} (x y : X) (ys : List X) (k : ℕ) → k < length (y ∷ ys) → slice_index_or (y ∷ ys) k x ≡ x → (Contains ys x → IsIn x ys) → IsIn x (y ∷ ys)
in_at x y ys zero within is later = inl (sym is)
in_at x y ys (suc k) within is later = inr (later (k, omega (arith, within), is))

in_contained : {X : Type 0} (x : X) (xs : List X) → Contains xs x → IsIn x xs
in_contained x [] found = absurd (omega (arith, found.1))
in_contained x (y ∷ ys) found = in_at x y ys found.0 found.1 found.2 (in_contained x ys)

queues_by : (n : ℕ) (s : System) (o : Option Choice) → ((c : Choice) → (settled_within n (after_start s c)).system.queues ≡ s.queues) → (settled_by n s o).system.queues ≡ s.queues
queues_by n s None later = refl
queues_by n s (Some c) later = later c

queues_stay : (n : ℕ) (s : System) → (settled_within n s).system.queues ≡ s.queues
queues_stay zero s = refl
queues_stay (suc n) s = queues_by n s (next_choice s) (λ c. queues_stay n (after_start s c))

module _ (s : System) (c : Choice) where
  first_started : (n : ℕ) → next_choice s ≡ Some c → WasStarted s (settled_within n (after_start s c)).system (start_of s c)
  first_started n is =
      let choice = choice_is s c is in
      let up = and_right (is_started c.queue.state) (is_up s.nodes c.queue.node) (fits_open s c.entry c.queue choice.fit) in
      let there = runs_in_list c.entry.number s.next_run c.queue c.entry s.entries refl choice.entry in
      let started = all_started c.entry.number s.next_run c.queue s.entries in
      record {
        entry = c.entry;
        queue = c.queue;
        node = unwrap_or c.queue.node [];
        was_there = contains_in c.entry s.entries choice.entry;
        was_pending = pending_state c.entry.state (fits_pending s c.entry c.queue choice.fit);
        number = refl;
        name = refl;
        home = refl;
        queue_there = subst (λ (qs : List Queue). Contains qs c.queue) (sym (queues_stay n (after_start s c))) (contains_in c.queue s.queues choice.queue);
        queue_name = refl;
        queue_node = has_node s.nodes c.queue.node up;
        runs = contains_in (made_running s.next_run c.queue c.entry) (settled_within n (after_start s c)).system.entries
            (kept_within n (after_start s c) (made_running s.next_run c.queue c.entry) started there);
      }

  -- a job that is started later was there before too
  later_started : (end : System) (start : Start) → WasStarted (after_start s c) end start → WasStarted s end start
  later_started end start h = record {
    entry = h.entry;
    queue = h.queue;
    node = h.node;
    was_there = contains_in h.entry s.entries
        (was_in c.entry.number s.next_run c.queue h.entry s.entries (ap is_pending h.was_pending) (in_contained h.entry (after_start s c).entries h.was_there));
    was_pending = h.was_pending;
    number = h.number;
    name = h.name;
    home = h.home;
    queue_there = h.queue_there;
    queue_name = h.queue_name;
    queue_node = h.queue_node;
    runs = h.runs;
  }

each_by : (n : ℕ) (s : System) (o : Option Choice) → next_choice s ≡ o
    → ((t : System) → All (WasStarted t (settled_within n t).system) (settled_within n t).started) → All (WasStarted s (settled_by n s o).system) (settled_by n s o).started
each_by n s None is later = All-nil (WasStarted s s)
each_by n s (Some c) is later =
    let end : Settled = settled_within n (after_start s c) in
    All-cons (WasStarted s end.system) (start_of s c) end.started (first_started s c n is)
    (All-weaker (WasStarted (after_start s c) end.system) (WasStarted s end.system) (later_started s c end.system) end.started (later (after_start s c)))

each_within : (n : ℕ) (s : System) → All (WasStarted s (settled_within n s).system) (settled_within n s).started
each_within zero s = All-nil (WasStarted s s)
each_within (suc n) s = each_by n s (next_choice s) refl (each_within n)

pub each_is_started : (s : System) → All (WasStarted s (settled s).system) (settled s).started
each_is_started s = each_within (length s.entries) s
