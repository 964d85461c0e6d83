-- What a node has to do for its runs.
use Rattle.std.proofs.Common.{◌≡◌, ◌∙◌, ℕ, ◌+◌, ◌<◌, ◌≤◌, ◌==◌, inl, inr, Bool, true, false, cond, List, [], ◌∷◌, ◌++◌, length, get_or, take, map, filter, option_to_list, Option, None, Some, Result, Ok, Err, refl, sym, ap, subst, arith, nat_cmp, bytes_eq, MatchResult, is_ok}
use Rattle.std.specs.List.{All, cons_option, filter_map, list_any}
use Rattle.std.specs.List.Sorted.{IsNonDecreasing, IsBinarySearchResult}
use Rattle.std.specs.Option.{IfSome, IsSome, option_and_then, option_map_or}
use Rattle.std.proofs.lemmas.Bool.{cases_lt}
use Rattle.std.proofs.lemmas.Bool.Decides.{nat_tests}
use Rattle.std.proofs.lemmas.List.{get_or_default, take_more, map-append}
use Rattle.std.proofs.lemmas.List.Elements.{All-cons, All-nil, All-head, All-tail, filter_map-append}
use Rattle.std.proofs.lemmas.List.Folds.{list_any_at, list_any_none}
use Rattle.std.proofs.lemmas.List.Sorted.{searched}
use Rattle.qm_model.specs.Common.{Entry, EntryState, Pending, Holding, Timed, Running, Aborting, Retained, JobKind, Form, Queue, Name, Run, System, Duty, queue_named, form_wanted, runs_in, runs_on, is_generic, execution_kind, is_run_on}
use Rattle.qm_kinds.specs.declared.entry.JobKind.TheVariants as job
use Rattle.qm_model.specs.Consistent.{IsConsistent, IsEntry, IsQueue, IsPlaced, IsExecutionQueue, HasForm}
use Rattle.qm_model.specs.Duties.{work_of, duty_of, by_run, run_number, form_that_shapes}
use Rattle.qm_model.proofs.DutyLemmas.{found_of_all}
use Rattle.qm_parts.specs.ByRun.{entry_on}
use Rattle.qm_parts.proofs.ByRun.{sorted_all}
use Rattle.qm_view.specs.Duties.{HasWork}

-- ---- an entry that runs has a work

-- an execution queue stands at a device
never_generic : (kind : JobKind) → is_generic (execution_kind kind) ≡ false
never_generic job.Batch = refl
never_generic job.Print = refl

device_there : (s : System) (q : Queue) (b : Bool) → b ≡ false → IsPlaced s.nodes s.queues q b → IsSome q.device
device_there s q true is placed = absurd (cc)
device_there s q false is placed = placed.3

has_device_at : (s : System) (kind : JobKind) (o : Option Queue) → IsSome o → IfSome o (λ q. q.kind ≡ execution_kind kind) → IfSome o (IsQueue s) → IsSome (option_and_then (λ (q : Queue). q.device) o)
has_device_at s kind None there of_kind proper = absurd (cc)
has_device_at s kind (Some q) there of_kind proper = device_there s q (is_generic q.kind) (ap is_generic of_kind ∙ never_generic kind) proper.placed

has_device : (s : System) (kind : JobKind) (state : EntryState) (node : List ℕ) → IsConsistent s → IfSome (runs_in state) (IsExecutionQueue kind s.queues)
    → option_map_or (λ name. bytes_eq name node) (runs_on state) false ≡ true → IsSome (option_and_then (λ (q : Queue). q.device) (option_and_then (λ name. queue_named name s.queues) (runs_in state)))
has_device s kind Pending node sound queue runs = absurd (cc)
has_device s kind Holding node sound queue runs = absurd (cc)
has_device s kind (Timed at) node sound queue runs = absurd (cc)
has_device s kind (Running name on run) node sound queue runs =
    has_device_at s kind (queue_named name s.queues) queue.0 queue.1 (found_of_all (λ (q : Queue). bytes_eq q.name name) (IsQueue s) s.queues sound.queues.each)
has_device s kind (Aborting name on run fate) node sound queue runs =
    has_device_at s kind (queue_named name s.queues) queue.0 queue.1 (found_of_all (λ (q : Queue). bytes_eq q.name name) (IsQueue s) s.queues sound.queues.each)
has_device s kind (Retained status until) node sound queue runs = absurd (cc)

has_form_at : (forms : List Form) (form : Option (List ℕ)) → IsSome form → IfSome form (λ name. IsSome (form_wanted (Name name) forms)) → IsSome (form_wanted (Name (form_that_shapes job.Print form)) forms)
has_form_at forms None there wanted = absurd (cc)
has_form_at forms (Some name) there wanted = wanted

has_form : (s : System) (kind : JobKind) (form : Option (List ℕ)) → IsConsistent s → HasForm s.forms kind form → IsSome (form_wanted (Name (form_that_shapes kind form)) s.forms)
has_form s job.Batch form sound has = sound.forms.default.1
has_form s job.Print form sound has = has_form_at s.forms form has.0 has.1

has_work : (s : System) (e : Entry) (node : List ℕ) → IsConsistent s → IsEntry s e → is_run_on node e ≡ true → HasWork s e
has_work s e node sound is runs = record {
  device = has_device s e.kind e.state node sound is.queue runs;
  form = has_form s e.kind e.form sound is.form;
}

module _ {X : Type 0} (p : X → Bool) (P Q : X → Type 0) (step : (x : X) → P x → p x ≡ true → Q x) where
  filtered_at : (x : X) (xs : List X) (b : Bool) → p x ≡ b → P x → All Q (filter p xs) → All Q (cond b (x ∷ filter p xs) (filter p xs))
  filtered_at x xs true is here rest = All-cons Q x (filter p xs) (step x here is) rest
  filtered_at x xs false is here rest = rest

  filtered_all : (xs : List X) → All P xs → All Q (filter p xs)
  filtered_all [] all = All-nil Q
  filtered_all (x ∷ xs) all = filtered_at x xs (p x) refl (All-head P x xs all) (filtered_all xs (All-tail P x xs all))

module _ {X Y : Type 0} (f : X → Option Y) (P : Y → Type 0) where
  some_at : (x : X) (xs : List X) (o : Option Y) → f x ≡ o → All P (cons_option o (filter_map f xs)) → (All P (filter_map f xs) → All (λ z. IfSome (f z) P) xs) → All (λ z. IfSome (f z) P) (x ∷ xs)
  some_at x xs None is all rest = All-cons (λ z. IfSome (f z) P) x xs (subst (λ (o : Option Y). IfSome o P) (sym is) tt) (rest all)
  some_at x xs (Some y) is all rest =
      All-cons (λ z. IfSome (f z) P) x xs (subst (λ (o : Option Y). IfSome o P) (sym is) (All-head P y (filter_map f xs) all)) (rest (All-tail P y (filter_map f xs) all))

  -- what holds of all that a function gives holds where it gives something
  some_of_all : (xs : List X) → All P (filter_map f xs) → All (λ x. IfSome (f x) P) xs
  some_of_all [] all = All-nil (λ x. IfSome (f x) P)
  some_of_all (x ∷ xs) all = some_at x xs (f x) refl all (some_of_all xs)

pub works_there : (s : System) (node : List ℕ) (runs : List Run) → IsConsistent s → filter_map (entry_on node s.entries) runs ≡ by_run (filter (is_run_on node) s.entries)
    → All (λ r. IfSome (entry_on node s.entries r) (HasWork s)) runs
works_there s node runs sound are =
    some_of_all (entry_on node s.entries) (HasWork s) runs
    (subst (All (HasWork s)) (sym are)
    (sorted_all run_number (HasWork s) (filter (is_run_on node) s.entries) []
    (filtered_all (is_run_on node) (IsEntry s) (HasWork s) (λ e is runs_here. has_work s e node sound is runs_here) s.entries sound.entries.each)
    (All-nil (HasWork s))))

-- ---- whether a number is among others

same_is : (m n : ℕ) → m ≡ n → (m == n) ≡ true
same_is m n same = grind (arith, nat_tests)

less_is : (m n : ℕ) → m < n → (m == n) ≡ false
less_is m n less = grind (arith, nat_tests)

more_is : (m n : ℕ) → n < m → (m == n) ≡ false
more_is m n more = grind (arith, nat_tests)

module _ (xs : List ℕ) (x : ℕ) where
  found_at : (r : Result ℕ ℕ) → MatchResult r (λ i. (i < length xs) × (get_or xs i 0 ≡ x)) (λ i. (i ≤ length xs) × ((k : ℕ) → k < i → get_or xs k 0 < x) × ((k : ℕ) → i ≤ k → k < length xs → x < get_or xs k 0))
      → is_ok r ≡ list_any (λ n. n == x) xs
  found_at (Ok i) at = sym (list_any_at (λ n. n == x) xs i 0 at.0 (same_is (get_or xs i 0) x at.1))
  found_at (Err i) at = sym (list_any_none (λ n. n == x) xs other)
    where
      other : All (λ n. (n == x) ≡ false) xs
      other k d within = rw (get_or_default xs k d 0 within) (elim (cases_lt k i) [
        | inl below ↦ less_is (get_or xs k 0) x (at.1 k below)
        | inr above ↦ more_is (get_or xs k 0) x (at.2 k above within)
      ])

  pub is_found : (r : Result ℕ ℕ) → IsNonDecreasing xs → IsBinarySearchResult (λ y. nat_cmp y x) xs r → is_ok r ≡ list_any (λ n. n == x) xs
  is_found r rising is = found_at r (searched xs x r is (λ i j le within. rising i j 0 le within))

-- ---- run by run

module _ {X Y Z : Type 0} (g : Y → Z) (f : X → Option Y) where
  one_at : (o : Option Y) → map g (cons_option o []) ≡ map g (option_to_list o)
  one_at None = refl
  one_at (Some y) = refl

  pub one_more : (xs : List X) (i : ℕ) (x : X) → i < length xs → x ≡ get_or xs i x → map g (filter_map f (take (i + 1) xs)) ≡ map g (filter_map f (take i xs)) ++ map g (option_to_list (f x))
  one_more xs i x within is =
      ap (λ (ys : List X). map g (filter_map f ys)) (take_more xs i x within ∙ ap (λ (y : X). take i xs ++ y ∷ []) (sym is))
      ∙ ap (map g) (filter_map-append f (take i xs) (x ∷ []))
      ∙ map-append g (filter_map f (take i xs)) (filter_map f (x ∷ []))
      ∙ ap (λ (zs : List Z). map g (filter_map f (take i xs)) ++ zs) (one_at (f x))

-- ---- the numbers of the runs that are known

pub same_duties : (s : System) (known rising : List ℕ) → ((p : ℕ → Bool) → list_any p rising ≡ list_any p known) → (es : List Entry) → map (duty_of s rising) es ≡ map (duty_of s known) es
same_duties s known rising same [] = refl
same_duties s known rising same (e ∷ es) =
    ap (λ (b : Bool). record (duty_of s known e) { work = cond b None (Some (work_of s e)) } ∷ map (duty_of s rising) es) (same (λ run. run == run_number e))
    ∙ ap (λ (ds : List Duty). duty_of s known e ∷ ds) (same_duties s known rising same es)
