-- What the mirror says of the entries.
use Rattle.std.proofs.Common.{◌≡◌, ◌∙◌, ℕ, ◌+◌, ◌==◌, Bool, true, false, ◌&&◌, ◌||◌, List, [], ◌∷◌, count_by, get_or, Option, None, Some, refl, sym, ap, arith, All, bytes_eq}
use Rattle.std.specs.Option.{option_map_or}
use Rattle.qm_model.specs.Common.{Entry, EntryState, Pending, Holding, Timed, Running, Aborting, Retained, Run, entry_numbered, is_among, run_of, runs_in, runs_on, runs_for, occupies, is_executing, has_run, is_run_on, is_running_in}
use Rattle.qm_parts.specs.Nodes.{is_run_on_one}
use Rattle.qm_parts.specs.Mirror.{Mirrors, run_in_state, run_of_entry, runs_of, is_live_in, is_run_for}
use Rattle.qm_parts.proofs.Counts.{one_if, count_cons, count_agree}

-- what is asked of the run of an entry; of one that has none the answer is no
abbrev pub of_its_run : (Run → Bool) → Entry → Bool
of_its_run test e = option_map_or test (run_of_entry e) false

count_one : (test : Run → Bool) (e : Entry) (es : List Entry) (o : Option Run) → run_of_entry e ≡ o → count_by test (runs_of es) ≡ count_by (of_its_run test) es
    → count_by test (runs_of (e ∷ es)) ≡ one_if (option_map_or test o false) + count_by (of_its_run test) es
count_one test e es None is rest = rw is (omega (arith, rest))
count_one test e es (Some r) is rest = rw is (omega (arith, count_cons test r (runs_of es), rest))

-- how many of the entries' runs pass
pub count_runs_of : (test : Run → Bool) (es : List Entry) → count_by test (runs_of es) ≡ count_by (of_its_run test) es
count_runs_of test [] = refl
count_runs_of test (e ∷ es) = count_one test e es (run_of_entry e) refl (count_runs_of test es) ∙ sym (count_cons (of_its_run test) e es)

pub count_runs_cons : (test : Run → Bool) (e : Entry) (es : List Entry) → count_by test (runs_of (e ∷ es)) ≡ one_if (of_its_run test e) + count_by test (runs_of es)
count_runs_cons test e es = omega (arith, count_runs_of test (e ∷ es), count_cons (of_its_run test) e es, count_runs_of test es)

-- so what is asked of runs can be asked of entries
pub count_as : (runs : List Run) (es : List Entry) → Mirrors runs es → (test : Run → Bool) (p : Entry → Bool) → All (λ e. of_its_run test e ≡ p e) es → count_by test runs ≡ count_by p es
count_as runs es mirror test p same = mirror.counts test ∙ count_runs_of test es ∙ count_agree (of_its_run test) p es same

-- an entry's run is in the queue
in_queue_at : (name : List ℕ) (n : ℕ) (state : EntryState) → option_map_or (λ (r : Run). bytes_eq r.queue name) (run_in_state n state) false ≡ option_map_or (λ q. bytes_eq q name) (runs_in state) false
in_queue_at name n Pending = refl
in_queue_at name n Holding = refl
in_queue_at name n (Timed at) = refl
in_queue_at name n (Running queue node run) = refl
in_queue_at name n (Aborting queue node run fate) = refl
in_queue_at name n (Retained status until) = refl

pub in_queue : (name : List ℕ) (es : List Entry) → All (λ e. of_its_run (λ (r : Run). bytes_eq r.queue name) e ≡ occupies name e) es
in_queue name es k d within = each (get_or es k d)
  where
    each : (e : Entry) → of_its_run (λ (r : Run). bytes_eq r.queue name) e ≡ occupies name e
    each e = in_queue_at name e.number e.state

-- a test of the run's entry besides
with_number_at : (test : Run → Bool) (u : ℕ → Bool) (n : ℕ) (state : EntryState)
    → option_map_or (λ (r : Run). test r && u r.entry) (run_in_state n state) false ≡ (option_map_or test (run_in_state n state) false && u n)
with_number_at test u n Pending = refl
with_number_at test u n Holding = refl
with_number_at test u n (Timed at) = refl
with_number_at test u n (Running queue node run) = refl
with_number_at test u n (Aborting queue node run fate) = refl
with_number_at test u n (Retained status until) = refl

pub count_with : (runs : List Run) (es : List Entry) → Mirrors runs es → (test : Run → Bool) (p : Entry → Bool) → All (λ e. of_its_run test e ≡ p e) es → (u : ℕ → Bool)
    → count_by (λ (r : Run). test r && u r.entry) runs ≡ count_by (λ (e : Entry). p e && u e.number) es
count_with runs es mirror test p same u =
    count_as runs es mirror (λ (r : Run). test r && u r.entry) (λ (e : Entry). p e && u e.number)
    (λ k d within. with_number_at test u (get_or es k d).number (get_or es k d).state ∙ ap (λ (b : Bool). b && u (get_or es k d).number) (same k d within))

-- the run has another entry, and passes
pub and_never : (b : Bool) → (b && false) ≡ false
and_never true = refl
and_never false = refl

of_others_at : (test : Run → Bool) (u : ℕ → Bool) (n : ℕ) (state : EntryState)
    → option_map_or (λ (r : Run). u r.entry && test r) (run_in_state n state) false ≡ (u n && option_map_or test (run_in_state n state) false)
of_others_at test u n Pending = sym (and_never (u n))
of_others_at test u n Holding = sym (and_never (u n))
of_others_at test u n (Timed at) = sym (and_never (u n))
of_others_at test u n (Running queue node run) = refl
of_others_at test u n (Aborting queue node run fate) = refl
of_others_at test u n (Retained status until) = sym (and_never (u n))

pub count_others : (runs : List Run) (es : List Entry) → Mirrors runs es → (test : Run → Bool) (u : ℕ → Bool)
    → count_by (λ (r : Run). u r.entry && test r) runs ≡ count_by (λ (e : Entry). u e.number && of_its_run test e) es
count_others runs es mirror test u =
    count_as runs es mirror (λ (r : Run). u r.entry && test r) (λ (e : Entry). u e.number && of_its_run test e)
    (λ k d within. of_others_at test u (get_or es k d).number (get_or es k d).state)

-- the run is the entry's
its_number_at : (m n : ℕ) (state : EntryState) → option_map_or (λ (r : Run). r.run == m) (run_in_state n state) false ≡ option_map_or (λ r. r == m) (run_of state) false
its_number_at m n Pending = refl
its_number_at m n Holding = refl
its_number_at m n (Timed at) = refl
its_number_at m n (Running queue node run) = refl
its_number_at m n (Aborting queue node run fate) = refl
its_number_at m n (Retained status until) = refl

pub its_number : (m : ℕ) (es : List Entry) → All (λ e. of_its_run (λ (r : Run). r.run == m) e ≡ has_run m e) es
its_number m es k d within = its_number_at m (get_or es k d).number (get_or es k d).state

-- the entry has a run
its_run_at : (n : ℕ) (state : EntryState) → option_map_or (λ (r : Run). true) (run_in_state n state) false ≡ option_map_or (λ run. true) (run_of state) false
its_run_at n Pending = refl
its_run_at n Holding = refl
its_run_at n (Timed at) = refl
its_run_at n (Running queue node run) = refl
its_run_at n (Aborting queue node run fate) = refl
its_run_at n (Retained status until) = refl

pub its_run : (es : List Entry) → All (λ e. of_its_run (λ (r : Run). true) e ≡ is_executing e) es
its_run es k d within = its_run_at (get_or es k d).number (get_or es k d).state

-- an entry has a run where its state says so
no_run_at : (n : ℕ) (state : EntryState) → run_of state ≡ None → run_in_state n state ≡ None
no_run_at n Pending none = refl
no_run_at n Holding none = refl
no_run_at n (Timed at) none = refl
no_run_at n (Running queue node run) none = absurd (cc)
no_run_at n (Aborting queue node run fate) none = absurd (cc)
no_run_at n (Retained status until) none = refl

pub no_run : (e : Entry) → run_of e.state ≡ None → run_of_entry e ≡ None
no_run e none = no_run_at e.number e.state none

some_run_at : (n : ℕ) (state : EntryState) → run_in_state n state ≡ None → run_of state ≡ None
some_run_at n Pending none = refl
some_run_at n Holding none = refl
some_run_at n (Timed at) none = refl
some_run_at n (Running queue node run) none = absurd (cc)
some_run_at n (Aborting queue node run fate) none = absurd (cc)
some_run_at n (Retained status until) none = refl

pub no_run_back : (e : Entry) → run_of_entry e ≡ None → run_of e.state ≡ None
no_run_back e none = some_run_at e.number e.state none

-- the run has the number, and is on the node
abbrev pub is_run : ℕ → List ℕ → Run → Bool
is_run n node r = r.run == n && bytes_eq r.node node

is_run_at : (n : ℕ) (node : List ℕ) (number : ℕ) (state : EntryState)
    → option_map_or (is_run n node) (run_in_state number state) false ≡ (option_map_or (λ r. r == n) (run_of state) false && option_map_or (λ name. bytes_eq name node) (runs_on state) false)
is_run_at n node number Pending = refl
is_run_at n node number Holding = refl
is_run_at n node number (Timed at) = refl
is_run_at n node number (Running queue on run) = refl
is_run_at n node number (Aborting queue on run fate) = refl
is_run_at n node number (Retained status until) = refl

pub has_the_run : (n : ℕ) (node : List ℕ) (es : List Entry) → All (λ e. of_its_run (is_run n node) e ≡ (has_run n e && is_run_on node e)) es
has_the_run n node es k d within = is_run_at n node (get_or es k d).number (get_or es k d).state

-- the run is in the queue, and its entry isn't aborting
and_itself : (b : Bool) → (b && b) ≡ b
and_itself true = refl
and_itself false = refl

live_at : (es : List Entry) (name : List ℕ) (n : ℕ) (state : EntryState) → option_map_or (λ e. is_running_in name e.state) (entry_numbered n es) false ≡ is_running_in name state
    → option_map_or (is_live_in es name) (run_in_state n state) false ≡ is_running_in name state
live_at es name n Pending is = refl
live_at es name n Holding is = refl
live_at es name n (Timed at) is = refl
live_at es name n (Running queue node run) is = ap (λ (b : Bool). bytes_eq queue name && b) is ∙ and_itself (bytes_eq queue name)
live_at es name n (Aborting queue node run fate) is = ap (λ (b : Bool). bytes_eq queue name && b) is ∙ and_never (bytes_eq queue name)
live_at es name n (Retained status until) is = refl

pub live_in : (es : List Entry) (name : List ℕ) → All (λ e. entry_numbered e.number es ≡ Some e) es → All (λ e. of_its_run (is_live_in es name) e ≡ is_running_in name e.state) es
live_in es name itself k d within =
    live_at es name (get_or es k d).number (get_or es k d).state (ap (λ (o : Option Entry). option_map_or (λ (e : Entry). is_running_in name e.state) o false) (itself k d within))

-- the run is in the queue, or the queue is the home of its entry
run_for_at : (es : List Entry) (name home : List ℕ) (n : ℕ) (state : EntryState) → option_map_or (λ e. bytes_eq e.home name) (entry_numbered n es) false ≡ bytes_eq home name
    → option_map_or (is_run_for es name) (run_in_state n state) false ≡ (option_map_or (λ run. true) (run_of state) false && (option_map_or (λ q. bytes_eq q name) (runs_in state) false || bytes_eq home name))
run_for_at es name home n Pending is = refl
run_for_at es name home n Holding is = refl
run_for_at es name home n (Timed at) is = refl
run_for_at es name home n (Running queue node run) is = ap (λ (b : Bool). bytes_eq queue name || b) is
run_for_at es name home n (Aborting queue node run fate) is = ap (λ (b : Bool). bytes_eq queue name || b) is
run_for_at es name home n (Retained status until) is = refl

pub run_for : (es : List Entry) (name : List ℕ) → All (λ e. entry_numbered e.number es ≡ Some e) es → All (λ e. of_its_run (is_run_for es name) e ≡ runs_for name e) es
run_for es name itself k d within =
    run_for_at es name (get_or es k d).home (get_or es k d).number (get_or es k d).state (ap (λ (o : Option Entry). option_map_or (λ (e : Entry). bytes_eq e.home name) o false) (itself k d within))

-- the run is on one of these nodes
on_one_at : (nodes : List (List ℕ)) (n : ℕ) (state : EntryState) → option_map_or (λ (r : Run). is_among nodes r.node) (run_in_state n state) false ≡ option_map_or (is_among nodes) (runs_on state) false
on_one_at nodes n Pending = refl
on_one_at nodes n Holding = refl
on_one_at nodes n (Timed at) = refl
on_one_at nodes n (Running queue node run) = refl
on_one_at nodes n (Aborting queue node run fate) = refl
on_one_at nodes n (Retained status until) = refl

pub run_on_one : (nodes : List (List ℕ)) (es : List Entry) → All (λ e. of_its_run (λ (r : Run). is_among nodes r.node) e ≡ is_run_on_one nodes e) es
run_on_one nodes es k d within = on_one_at nodes (get_or es k d).number (get_or es k d).state
