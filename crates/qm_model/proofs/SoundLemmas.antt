-- What keeps a system consistent while its entries change.
use Rattle.std.proofs.Common.{◌≡◌, ◌≢◌, ℕ, zero, suc, ◌+◌, ◌<◌, ◌≤◌, ◌⊎◌, inl, inr, Bool, true, false, cond, ◌&&◌, ◌||◌, not, List, [], ◌∷◌, ◌++◌, length, refl, sym, ◌∙◌, ap, subst, arith, Option, None, Some, All, AllPairs, Contains, filter, find, map, ◌==◌, IfSome, IsSome, unwrap_or, nat_cmp, Less, bytes_eq}
use Rattle.std.specs.List.{list_any}
use Rattle.std.specs.Option.{option_map, option_map_or, option_and_then, option_to_list}
use Rattle.std.specs.Cmp.Lexicographic.{nat_list_cmp_total}
use Rattle.std.proofs.lemmas.Bool.Decides.{nat_tests, Decides-eqb, Decides-ltb}
use Rattle.std.proofs.lemmas.List.Elements.{All-cons, All-head, All-tail, All-weaker}
use Rattle.std.proofs.lemmas.Slice.Eq.{bytes_eq-Decides}
use Rattle.qm_model.specs.Common.{Entry, EntryState, JobKind, END_OF_RUNS, Queue, QueueKind, Node, System, name_cmp, run_of, runs_in, runs_on, is_pending, is_generic, job_kind, execution_kind, is_same_kind, with_entry, fits, is_of_kind, is_open, is_started, is_up}
use Rattle.qm_kinds.specs.declared.entry.EntryState.TheVariants as entry
use Rattle.qm_kinds.specs.declared.entry.JobKind.TheVariants as job
use Rattle.qm_kinds.specs.declared.queue.QueueKind.TheVariants.{Batch, Print, GenericBatch, GenericPrint}
use Rattle.qm_model.specs.Consistent.{IsConsistent, IsEntry, IsQueue, IsExecutionQueue}
use Rattle.qm_model.specs.Settling.{Choice, can_start, next_queue, next_job, next_choice, has_run_numbers, made_running, after_start, settled_within, settled}
use Rattle.qm_model.proofs.SettlingLemmas.{IsIn, and_left, and_right, first_in, in_filter, fits_pending, job_of_choice, with_queue_of, settled_by}
use Rattle.qm_model.proofs.ListLemmas.{Pairs, pairs_of, all_pairs_of, Becomes, none, turned, in_all, becomes_all, becomes_pairs, becomes_shorter, becomes_any, contains_in}

-- ---- entries stay apart

-- one number is below the other, and the runs differ
abbrev pub Apart : ℕ → ℕ → Option ℕ → Option ℕ → Type 0
Apart m n a b = (nat_cmp m n ≡ Less) × IfSome a (λ run. b ≢ Some run)

abbrev pub AreApart : Entry → Entry → Type 0
AreApart x u = Apart x.number u.number (run_of x.state) (run_of u.state)

pub apart_at : (m m' n n' : ℕ) (a a' b b' : Option ℕ) → m ≡ m' → n ≡ n' → a ≡ a' → b ≡ b' → Apart m n a b → Apart m' n' a' b'
apart_at m m' n n' a a' b b' p q r t h =
    subst (λ w. Apart m' n' a' w) t (subst (λ w. Apart m' n' w b) r (subst (λ w. Apart m' w a b) q (subst (λ w. Apart w n a b) p h)))

not_below : (m n : ℕ) → m ≡ n → nat_cmp m n ≡ Less → ⊥
not_below m n same less = grind (arith, nat_tests)

-- ---- an entry in another state, among other entries

pub entry_in_state : (s : System) (es : List Entry) (next : ℕ) (x : Entry) (state : EntryState) (mark : List ℕ) (again : Bool) → IsEntry s x → IfSome (runs_in state) (IsExecutionQueue x.kind s.queues)
    → IfSome (runs_on state) (Contains (map (λ (n : Node). n.name) s.nodes)) → IfSome (run_of state) (λ run. (0 < run) × (run < next))
    → IsEntry (record s { entries = es; next_run = next }) (record x { state = state; mark = mark; again = again })
entry_in_state s es next x state mark again h queue node run =
    record { number = h.number; home = h.home; file = h.file; form = h.form; characteristics = h.characteristics; queue = queue; node = node; run = run }

-- ---- a change of the entries alone, and of the number of the next run

module _ (s : System) (sound : IsConsistent s) (es : List Entry) (next : ℕ) (G : Entry → Type 0) (R : Entry → Entry → Type 0) where
  abbrev pub with_entries : System
  with_entries = record s { entries = es; next_run = next }

  module _
      (becomes : Becomes G R s.entries es)
      (each : (x y : Entry) → R x y → IsEntry s x → IsEntry with_entries y)
      (apart : (x y u v : Entry) → R x y → R u v → AreApart x u → AreApart y v)
      (goes : (q : List ℕ) (x : Entry) → G x → option_map_or (λ name. bytes_eq name q) (runs_in x.state) false ≡ true → ⊥)
      (keeps : (q : List ℕ) (x y : Entry) → R x y → option_map_or (λ name. bytes_eq name q) (runs_in x.state) false ≡ true → option_map_or (λ name. bytes_eq name q) (runs_in y.state) false ≡ true)
      (some : 0 < next) (few : next ≤ END_OF_RUNS)
    where
      apart_before : AllPairs AreApart s.entries
      apart_before = λ i j d below within. (sound.entries.order i j d below within, sound.entries.runs i j d below within)

      apart_after : AllPairs AreApart es
      apart_after = all_pairs_of AreApart es (becomes_pairs G R AreApart AreApart apart becomes (pairs_of AreApart s.entries apart_before))

      queue_stays : (q : Queue) → IsQueue s q → IsQueue with_entries q
      queue_stays q h = record {
        name = h.name;
        placed = h.placed;
        mounted = h.mounted;
        characteristics = h.characteristics;
        limit = h.limit;
        sizes = h.sizes;
        stopping = λ stopping. becomes_any G R _ _ (goes q.name) (keeps q.name) becomes (h.stopping stopping);
      }

      pub still_consistent : IsConsistent with_entries
      still_consistent = record {
        nodes = sound.nodes;
        may = sound.may;
        forms = sound.forms;
        characteristics = sound.characteristics;
        files = sound.files;
        queues = record { few = sound.queues.few; each = All-weaker (IsQueue s) (IsQueue with_entries) queue_stays s.queues sound.queues.each; order = sound.queues.order };
        entries = record {
          few = omega (arith, becomes_shorter G R becomes, sound.entries.few);
          each = becomes_all G R (IsEntry s) (IsEntry with_entries) each becomes sound.entries.each;
          order = λ i j d below within. (apart_after i j d below within).0;
          runs = λ i j d below within. (apart_after i j d below within).1;
        };
        next_entry = sound.next_entry;
        next_run = (some, few);
      }

-- ---- what a choice is

find_at : {X : Type 0} (p : X → Bool) (x y : X) (ys : List X) (b : Bool) → (find p ys ≡ Some x → IsIn x ys) → cond b (Some y) (find p ys) ≡ Some x → IsIn x (y ∷ ys)
find_at p x y ys true later h = let same : x ≡ y = cc in inl same
find_at p x y ys false later h = inr (later h)

pub find_in : {X : Type 0} (p : X → Bool) (x : X) (xs : List X) → find p xs ≡ Some x → IsIn x xs
find_in p x [] h = cc
find_in p x (y ∷ ys) h = find_at p x y ys (p y) (find_in p x ys) h

-- the queue stands in the list of queues, and the job among the entries, and it fits
pub record IsChoice (s : System) (c : Choice) : Type 0 where
  pub numbers : has_run_numbers s ≡ true
  pub queue : IsIn c.queue s.queues
  pub entry : IsIn c.entry s.entries
  pub fit : fits s c.entry c.queue ≡ true

queue_of_map : (q : Queue) (c : Choice) (o : Option Entry) → option_map (with_queue_of q) o ≡ Some c → q ≡ c.queue
queue_of_map q c None h = cc
queue_of_map q c (Some e) h = let same : with_queue_of q e ≡ c = cc in ap (λ (d : Choice). d.queue) same

choice_at : (s : System) (c : Choice) (b : Bool) (o : Option Queue) → has_run_numbers s ≡ b → next_queue s ≡ o
    → cond b (option_and_then (λ q. option_map (with_queue_of q) (next_job s q)) o) None ≡ Some c → IsChoice s c
choice_at s c false o numbers found h = cc
choice_at s c true None numbers found h = cc
choice_at s c true (Some q) numbers found h =
    let same = queue_of_map q c (next_job s q) h in
    let among = in_filter (λ e. fits s e q) c.entry s.entries (first_in q c.entry (filter (λ e. fits s e q) s.entries) (job_of_choice q c (next_job s q) h)) in
    record {
      numbers = numbers;
      queue = subst (λ (p : Queue). IsIn p s.queues) same (find_in (can_start s) q s.queues found);
      entry = among.0;
      fit = subst (λ (p : Queue). fits s c.entry p ≡ true) same among.1;
    }

pub choice_is : (s : System) (c : Choice) → next_choice s ≡ Some c → IsChoice s c
choice_is s c h = choice_at s c (has_run_numbers s) (next_queue s) refl refl h

-- ---- the queue is an execution queue of the job's kind, on a node of the list

pub kind_is : (k : JobKind) (kind : QueueKind) → (not (is_generic kind) && is_same_kind k (job_kind kind)) ≡ true → kind ≡ execution_kind k
kind_is job.Batch Batch h = refl
kind_is job.Batch Print h = cc
kind_is job.Batch GenericBatch h = cc
kind_is job.Batch GenericPrint h = cc
kind_is job.Print Batch h = cc
kind_is job.Print Print h = refl
kind_is job.Print GenericBatch h = cc
kind_is job.Print GenericPrint h = cc

pub name_not_below : (a b : List ℕ) → a ≡ b → name_cmp a b ≡ Less → ⊥
name_not_below a b same less =
    let itself : name_cmp b b ≡ Less = subst (λ x. name_cmp x b ≡ Less) same less in
    let other = nat_list_cmp_total.antisymm b b in
    cc

-- in a list by name, the first queue of a name is the only one
found_at : (q p : Queue) (qs : List Queue) (b : Bool) → bytes_eq p.name q.name ≡ b
    → All (λ x. name_cmp p.name x.name ≡ Less) qs → IsIn q (p ∷ qs) → (IsIn q qs → find (λ x. bytes_eq x.name q.name) qs ≡ Some q)
    → cond b (Some p) (find (λ x. bytes_eq x.name q.name) qs) ≡ Some q
found_at q p qs true is below (inl same) later = ap (λ (x : Queue). Some x) (sym same)
found_at q p qs true is below (inr among) later =
    absurd (name_not_below p.name q.name ((bytes_eq-Decides p.name q.name).0 is) (in_all (λ x. name_cmp p.name x.name ≡ Less) q qs below among))
found_at q p qs false is below (inl same) later =
    let equal : bytes_eq p.name q.name ≡ true = (bytes_eq-Decides p.name q.name).1 (ap (λ (x : Queue). x.name) (sym same)) in cc
found_at q p qs false is below (inr among) later = later among

found_by_name : (q : Queue) (qs : List Queue) → Pairs (λ a b. name_cmp a.name b.name ≡ Less) qs → IsIn q qs → find (λ x. bytes_eq x.name q.name) qs ≡ Some q
found_by_name q [] order among = absurd among
found_by_name q (p ∷ qs) order among = found_at q p qs (bytes_eq p.name q.name) refl order.0 among (found_by_name q qs order.1)

up_node_at : (b : Bool) (n : Node) (nodes : List Node) (name : List ℕ) → (bytes_eq n.name name && n.up) ≡ b → (b || list_any (λ n. bytes_eq n.name name && n.up) nodes) ≡ true
    → (list_any (λ n. bytes_eq n.name name && n.up) nodes ≡ true → IsIn name (map (λ (n : Node). n.name) nodes)) → IsIn name (map (λ (n : Node). n.name) (n ∷ nodes))
up_node_at true n nodes name is h later = inl (sym ((bytes_eq-Decides n.name name).0 (and_left (bytes_eq n.name name) n.up is)))
up_node_at false n nodes name is h later = inr (later h)

up_node : (nodes : List Node) (name : List ℕ) → list_any (λ n. bytes_eq n.name name && n.up) nodes ≡ true → IsIn name (map (λ (n : Node). n.name) nodes)
up_node [] name h = cc
up_node (n ∷ nodes) name h = up_node_at (bytes_eq n.name name && n.up) n nodes name refl h (up_node nodes name)

node_of : (nodes : List Node) (o : Option (List ℕ)) → is_up nodes o ≡ true → IsIn (unwrap_or o []) (map (λ (n : Node). n.name) nodes)
node_of nodes None h = cc
node_of nodes (Some name) h = up_node nodes name h

-- ---- one job is started

unique_at : (e x : Entry) (xs : List Entry) → All (λ u. AreApart x u) xs → IsIn e (x ∷ xs) → x.number ≡ e.number → x ≡ e
unique_at e x xs apart (inl same) number = sym same
unique_at e x xs apart (inr among) number = absurd (not_below x.number e.number number (in_all (λ u. AreApart x u) e xs apart among).0)

later_differs : (x u : Entry) → AreApart x u → u.number ≡ x.number → ⊥
later_differs x u apart number = not_below x.number u.number (sym number) apart.0

-- only the entry that is started has its number
pub unique : (e : Entry) (xs : List Entry) → Pairs AreApart xs → IsIn e xs → All (λ x. x.number ≡ e.number → x ≡ e) xs
unique e [] apart among = absurd among
unique e (x ∷ xs) apart (inl same) =
    All-cons (λ y. y.number ≡ e.number → y ≡ e) x xs (λ number. sym same)
    (All-weaker (λ u. AreApart x u) (λ y. y.number ≡ e.number → y ≡ e) (λ u h number. absurd (later_differs x u h (number ∙ ap (λ (z : Entry). z.number) same))) xs apart.0)
unique e (x ∷ xs) apart (inr among) =
    All-cons (λ y. y.number ≡ e.number → y ≡ e) x xs (unique_at e x xs apart.0 (inr among)) (unique e xs apart.1 among)

one_outcome_at : (g : Entry → Option Entry) (o : Option Entry) (x : Entry) (xs ys : List Entry) (b : Bool) → xs ≡ ys → (b ≡ true → g x ≡ o)
    → cond b (option_to_list (g x)) (x ∷ []) ++ xs ≡ cond b (option_to_list o) (x ∷ []) ++ ys
one_outcome_at g o x xs ys true same is = ap (λ (p : Option Entry). option_to_list p ++ xs) (is refl) ∙ ap (λ (zs : List Entry). option_to_list o ++ zs) same
one_outcome_at g o x xs ys false same is = ap (λ (zs : List Entry). x ∷ zs) same

-- where all of the number come to the same
pub one_outcome : (n : ℕ) (g : Entry → Option Entry) (o : Option Entry) (xs : List Entry) → All (λ (x : Entry). x.number ≡ n → g x ≡ o) xs → with_entry n g xs ≡ with_entry n (λ x. o) xs
one_outcome n g o [] h = refl
one_outcome n g o (x ∷ xs) h =
    one_outcome_at g o x (with_entry n g xs) (with_entry n (λ x. o) xs) (x.number == n) (one_outcome n g o xs (All-tail (λ (x : Entry). x.number ≡ n → g x ≡ o) x xs h))
    (λ is. All-head (λ (x : Entry). x.number ≡ n → g x ≡ o) x xs h ((Decides-eqb x.number n).0 is))

weaker_run : (o : Option ℕ) (n : ℕ) → IfSome o (λ run. (0 < run) × (run < n)) → IfSome o (λ run. (0 < run) × (run < n + 1))
weaker_run None n h = tt
weaker_run (Some run) n h = (h.0, omega (arith, h.1))

not_run : (o : Option ℕ) (n : ℕ) → IfSome o (λ run. (0 < run) × (run < n)) → o ≢ Some n
not_run None n h is = cc
not_run (Some run) n h is = let same : run ≡ n = cc in omega (arith, h.1, same)

other_run : (o : Option ℕ) (n : ℕ) → IfSome o (λ run. (0 < run) × (run < n)) → IfSome o (λ run. Some n ≢ Some run)
other_run None n h = tt
other_run (Some run) n h = λ is. let same : n ≡ run = cc in omega (arith, h.1, same)

pending_has_no_run : (state : EntryState) (test : List ℕ → Bool) → is_pending state ≡ true → option_map_or test (runs_in state) false ≡ true → ⊥
pending_has_no_run entry.Pending test pending h = cc
pending_has_no_run _ test pending h = cc

fits_kind : (s : System) (e : Entry) (q : Queue) → fits s e q ≡ true → is_of_kind e q ≡ true
fits_kind s e q h = and_right (is_pending e.state) (is_of_kind e q) (and_left _ _ (and_left _ _ (and_left _ _ (and_left _ _ (and_left _ _ h)))))

fits_open : (s : System) (e : Entry) (q : Queue) → fits s e q ≡ true → is_open s q ≡ true
fits_open s e q h = and_right (is_pending e.state && is_of_kind e q) (is_open s q) (and_left _ _ (and_left _ _ (and_left _ _ (and_left _ _ h))))

module _ (s : System) (c : Choice) (sound : IsConsistent s) (choice : IsChoice s c) where
  Never : Entry → Type 0
  Never x = ⊥

  abbrev Stays : Entry → Entry → Type 0
  Stays x y = IsEntry s x × (y ≡ x)

  abbrev Starts : Entry → Entry → Type 0
  Starts x y = IsEntry s x × (x ≡ c.entry) × (y ≡ made_running s.next_run c.queue x)

  -- an entry stays, or it is the job that starts
  abbrev Step : Entry → Entry → Type 0
  Step x y = Stays x y ⊎ Starts x y

  started_at : (x : Entry) (xs ys : List Entry) (b : Bool) → (x.number == c.entry.number) ≡ b → IsEntry s x → (x.number ≡ c.entry.number → x ≡ c.entry) → Becomes Never Step xs ys
      → Becomes Never Step (x ∷ xs) (cond b (option_to_list (Some (made_running s.next_run c.queue x))) (x ∷ []) ++ ys)
  started_at x xs ys true is h only later = turned (inr (h, only ((Decides-eqb x.number c.entry.number).0 is), refl)) later
  started_at x xs ys false is h only later = turned (inl (h, refl)) later

  started : (xs : List Entry) → All (IsEntry s) xs → All (λ x. x.number ≡ c.entry.number → x ≡ c.entry) xs
      → Becomes Never Step xs (with_entry c.entry.number (λ e. Some (made_running s.next_run c.queue e)) xs)
  started [] each only = none
  started (x ∷ xs) each only =
      started_at x xs _ (x.number == c.entry.number) refl (All-head (IsEntry s) x xs each) (All-head (λ x. x.number ≡ c.entry.number → x ≡ c.entry) x xs only)
      (started xs (All-tail (IsEntry s) x xs each) (All-tail (λ x. x.number ≡ c.entry.number → x ≡ c.entry) x xs only))

  becomes : Becomes Never Step s.entries (after_start s c).entries
  becomes =
      started s.entries sound.entries.each
      (unique c.entry s.entries (pairs_of AreApart s.entries (λ i j d below within. (sound.entries.order i j d below within, sound.entries.runs i j d below within))) choice.entry)

  found : find (λ x. bytes_eq x.name c.queue.name) s.queues ≡ Some c.queue
  found = found_by_name c.queue s.queues (pairs_of (λ a b. name_cmp a.name b.name ≡ Less) s.queues sound.queues.order) choice.queue

  runs_there : IsExecutionQueue c.entry.kind s.queues c.queue.name
  runs_there =
      subst (λ (o : Option Queue). IsSome o × IfSome o (λ q. q.kind ≡ execution_kind c.entry.kind)) (sym found)
      (refl, kind_is c.entry.kind c.queue.kind (fits_kind s c.entry c.queue choice.fit))

  runs_on_node : Contains (map (λ (n : Node). n.name) s.nodes) (unwrap_or c.queue.node [])
  runs_on_node =
      contains_in (unwrap_or c.queue.node []) (map (λ (n : Node). n.name) s.nodes)
      (node_of s.nodes c.queue.node (and_right (is_started c.queue.state) (is_up s.nodes c.queue.node) (fits_open s c.entry c.queue choice.fit)))

  entry_stays : (x : Entry) → IsEntry s x → IsEntry (after_start s c) x
  entry_stays x h = entry_in_state s (after_start s c).entries (s.next_run + 1) x x.state x.mark x.again h h.queue h.node (weaker_run (run_of x.state) s.next_run h.run)

  entry_runs : (x : Entry) → IsEntry s x → x ≡ c.entry → IsEntry (after_start s c) (made_running s.next_run c.queue x)
  entry_runs x h is =
      entry_in_state s (after_start s c).entries (s.next_run + 1) x (entry.Running c.queue.name (unwrap_or c.queue.node []) s.next_run) x.mark x.again h
      (subst (λ (z : Entry). IsExecutionQueue z.kind s.queues c.queue.name) (sym is) runs_there) runs_on_node (sound.next_run.0, omega arith)

  each : (x y : Entry) → Step x y → IsEntry s x → IsEntry (after_start s c) y
  each x y (inl p) h = subst (λ z. IsEntry (after_start s c) z) (sym p.1) (entry_stays x h)
  each x y (inr p) h = subst (λ z. IsEntry (after_start s c) z) (sym p.2) (entry_runs x h p.1)

  abbrev number_of : Entry → ℕ
  number_of z = z.number

  abbrev run_in_state : Entry → Option ℕ
  run_in_state z = run_of z.state

  apart : (x y u v : Entry) → Step x y → Step u v → AreApart x u → AreApart y v
  apart x y u v (inl p) (inl r) h =
      apart_at x.number y.number u.number v.number (run_of x.state) (run_of y.state) (run_of u.state) (run_of v.state)
      (ap number_of (sym p.1)) (ap number_of (sym r.1)) (ap run_in_state (sym p.1)) (ap run_in_state (sym r.1)) h
  apart x y u v (inl p) (inr r) h =
      apart_at x.number y.number u.number v.number (run_of x.state) (run_of y.state) (Some s.next_run) (run_of v.state)
      (ap number_of (sym p.1)) (ap number_of (sym r.2)) (ap run_in_state (sym p.1)) (ap run_in_state (sym r.2)) (h.0, other_run (run_of x.state) s.next_run (p.0).run)
  apart x y u v (inr p) (inl r) h =
      apart_at x.number y.number u.number v.number (Some s.next_run) (run_of y.state) (run_of u.state) (run_of v.state)
      (ap number_of (sym p.2)) (ap number_of (sym r.1)) (ap run_in_state (sym p.2)) (ap run_in_state (sym r.1)) (h.0, not_run (run_of u.state) s.next_run (r.0).run)
  apart x y u v (inr p) (inr r) h = absurd (not_below x.number u.number (ap number_of (p.1 ∙ sym r.1)) h.0)

  keeps : (q : List ℕ) (x y : Entry) → Step x y → option_map_or (λ name. bytes_eq name q) (runs_in x.state) false ≡ true → option_map_or (λ name. bytes_eq name q) (runs_in y.state) false ≡ true
  keeps q x y (inl p) h = ap (λ (z : Entry). option_map_or (λ name. bytes_eq name q) (runs_in z.state) false) p.1 ∙ h
  keeps q x y (inr p) h =
      let pending : is_pending x.state ≡ true = ap (λ (z : Entry). is_pending z.state) p.1 ∙ fits_pending s c.entry c.queue choice.fit in
      absurd (pending_has_no_run x.state (λ name. bytes_eq name q) pending h)

  below : s.next_run < END_OF_RUNS
  below = (Decides-ltb s.next_run END_OF_RUNS).0 choice.numbers

  pub start_is_consistent : IsConsistent (after_start s c)
  unfolding Never
  start_is_consistent =
      still_consistent s sound (after_start s c).entries (s.next_run + 1) Never Step becomes each apart (λ q x never h. absurd never) keeps (omega arith) (omega (arith, below))

within_at : (n : ℕ) (s : System) (o : Option Choice) → next_choice s ≡ o → IsConsistent s → ((c : Choice) → IsConsistent (after_start s c) → IsConsistent (settled_within n (after_start s c)).system)
    → IsConsistent (settled_by n s o).system
within_at n s None is sound later = sound
within_at n s (Some c) is sound later = later c (start_is_consistent s c sound (choice_is s c is))

within : (n : ℕ) (s : System) → IsConsistent s → IsConsistent (settled_within n s).system
within zero s sound = sound
within (suc n) s sound = within_at n s (next_choice s) refl sound (λ c started. within n (after_start s c) started)

pub settled_is_consistent : (s : System) → IsConsistent s → IsConsistent (settled s).system
settled_is_consistent s sound = within (length s.entries) s sound
