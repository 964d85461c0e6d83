-- What keeps a system sound, which is consistent but for queues that are stopping.
use Rattle.std.proofs.Common.{◌≡◌, ◌≢◌, ℕ, suc, ◌<◌, ◌≤◌, ◌⊎◌, inl, inr, Bool, true, false, cond, List, [], ◌∷◌, ◌++◌, length, refl, sym, ◌∙◌, ap, subst, arith, Option, None, Some, All, AllPairs, Contains, filter, find, map, get_or, ◌==◌, IfSome, IsSome, filter_map, bytes_eq, nat_cmp, Less}
use Rattle.std.specs.List.{list_any, cons_option}
use Rattle.std.specs.Option.{option_map, option_map_or, option_to_list}
use Rattle.std.proofs.lemmas.List.Elements.{All-weaker, All-map}
use Rattle.qm_model.specs.Common.{Entry, EntryState, JobKind, File, Characteristic, Form, END_OF_RUNS, QUEUES_LIMIT, Queue, QueueState, Stopped, Started, Paused, Stopping, Node, System, name_cmp, queue_named, file_named, run_of, runs_in, runs_on, is_generic, job_kind, execution_kind, occupies, with_entry, state_when_idle, stopped_when_idle}
use Rattle.qm_model.specs.Consistent.{IsConsistent, IsInOrder, IsShort, AreNodes, AreForms, AreCharacteristics, AreFiles, AreDefined, IsEntry, IsQueue, AreEntries, IsExecutionQueue, IsPlaced, IsMounted, HasForm}
use Rattle.qm_model.proofs.ListLemmas.{pairs_of, all_pairs_of, Becomes, none, gone, turned, becomes_all, becomes_pairs, becomes_shorter}
use Rattle.qm_model.proofs.SoundLemmas.{AreApart, entry_in_state}

-- what is asked of a queue, but that it isn't stopping without a run
pub record IsSoundQueue (s : System) (q : Queue) : Type 0 where
  pub name : IsShort q.name
  pub placed : IsPlaced s.nodes s.queues q (is_generic q.kind)
  pub mounted : IsMounted s.forms q.kind q.mounted
  pub characteristics : AreDefined q.characteristics.0 s.characteristics
  pub limit : 0 < q.limit
  pub sizes : (0 < q.lower) × (q.lower ≤ q.upper)

-- what is asked of a system, but for queues that are stopping
pub record IsSound (s : System) : Type 0 where
  pub nodes : AreNodes s.nodes
  pub may : s.may ≡ filter (λ name. list_any (bytes_eq name) s.may) (map (λ n. n.name) s.nodes)
  pub forms : AreForms s.forms
  pub characteristics : AreCharacteristics s.characteristics
  pub files : AreFiles s.files
  pub few : length s.queues ≤ QUEUES_LIMIT
  pub queues : All (IsSoundQueue s) s.queues
  pub order : IsInOrder name_cmp (λ (q : Queue). q.name) s.queues
  pub entries : AreEntries s
  pub next_entry : 0 < s.next_entry
  pub next_run : (0 < s.next_run) × (s.next_run ≤ END_OF_RUNS)

-- a queue that is stopping has a run
abbrev pub HasRunWhileStopping : System → Queue → Type 0
HasRunWhileStopping s q = q.state ≡ Stopping → list_any (λ e. option_map_or (λ name. bytes_eq name q.name) (runs_in e.state) false) s.entries ≡ true

sound_queue : (s : System) (q : Queue) → IsQueue s q → IsSoundQueue s q
sound_queue s q h = record { name = h.name; placed = h.placed; mounted = h.mounted; characteristics = h.characteristics; limit = h.limit; sizes = h.sizes }

pub sound_of : (s : System) → IsConsistent s → IsSound s
sound_of s h = record {
  nodes = h.nodes;
  may = h.may;
  forms = h.forms;
  characteristics = h.characteristics;
  files = h.files;
  few = h.queues.few;
  queues = All-weaker (IsQueue s) (IsSoundQueue s) (sound_queue s) s.queues h.queues.each;
  order = h.queues.order;
  entries = h.entries;
  next_entry = h.next_entry;
  next_run = h.next_run;
}

-- a sound system is consistent, where each queue that is stopping has a run
pub consistent_of : (s : System) → IsSound s → All (HasRunWhileStopping s) s.queues → IsConsistent s
consistent_of s h stopping = record {
  nodes = h.nodes;
  may = h.may;
  forms = h.forms;
  characteristics = h.characteristics;
  files = h.files;
  queues = record {
    few = h.few;
    each = λ i d within. let k = h.queues i d within in record { name = k.name; placed = k.placed; mounted = k.mounted; characteristics = k.characteristics; limit = k.limit; sizes = k.sizes; stopping = stopping i d within };
    order = h.order;
  };
  entries = h.entries;
  next_entry = h.next_entry;
  next_run = h.next_run;
}

-- ---- a system that differs in some parts from a sound one

-- another list of nodes that may be queue manager, other files, other entries, other next numbers and another last moment
abbrev pub aside : System → List (List ℕ) → List File → List Entry → ℕ → ℕ → ℕ → System
aside s may files entries number run last = record s { may = may; files = files; entries = entries; next_entry = number; next_run = run; last = last }

-- no queue looks at these
pub sound_aside : (s : System) (may : List (List ℕ)) (files : List File) (entries : List Entry) (number run last : ℕ) → IsSound s
    → may ≡ filter (λ name. list_any (bytes_eq name) may) (map (λ (n : Node). n.name) s.nodes) → AreFiles files → AreEntries (aside s may files entries number run last)
    → 0 < number → (0 < run) × (run ≤ END_OF_RUNS) → IsSound (aside s may files entries number run last)
sound_aside s may files entries number run last h among kept each next next_run = record {
  nodes = h.nodes;
  may = among;
  forms = h.forms;
  characteristics = h.characteristics;
  files = kept;
  few = h.few;
  queues = All-weaker (IsSoundQueue s) (IsSoundQueue (aside s may files entries number run last)) (λ q k. record { name = k.name; placed = k.placed; mounted = k.mounted; characteristics = k.characteristics; limit = k.limit; sizes = k.sizes }) s.queues h.queues;
  order = h.order;
  entries = each;
  next_entry = next;
  next_run = next_run;
}

-- other files, where those of the entries are still there
pub sound_of_files : (s : System) (files : List File) → IsSound s → AreFiles files → All (λ (x : Entry). IsSome (file_named x.file files)) s.entries → IsSound (record s { files = files })
sound_of_files s files h kept there =
    sound_aside s s.may files s.entries s.next_entry s.next_run s.last h h.may kept
    (record {
      few = h.entries.few;
      each = λ i d within. let k = h.entries.each i d within in record { number = k.number; home = k.home; file = there i d within; form = k.form; characteristics = k.characteristics; queue = k.queue; node = k.node; run = k.run };
      order = h.entries.order;
      runs = h.entries.runs;
    })
    h.next_entry h.next_run

-- other forms and characteristics, where those of queues and entries are still there
pub sound_of_definitions : (s : System) (fs : List Form) (cs : List Characteristic) → IsSound s → AreForms fs → AreCharacteristics cs
    → All (λ (q : Queue). IsMounted fs q.kind q.mounted × AreDefined q.characteristics.0 cs) s.queues
    → All (λ (x : Entry). HasForm fs x.kind x.form × AreDefined x.characteristics.0 cs) s.entries → IsSound (record s { forms = fs; characteristics = cs })
sound_of_definitions s fs cs h forms characteristics queues entries = record {
  nodes = h.nodes;
  may = h.may;
  forms = forms;
  characteristics = characteristics;
  files = h.files;
  few = h.few;
  queues = λ i d within. let k = h.queues i d within in let m = queues i d within in record { name = k.name; placed = k.placed; mounted = m.0; characteristics = m.1; limit = k.limit; sizes = k.sizes };
  order = h.order;
  entries = record {
    few = h.entries.few;
    each = λ i d within. let k = h.entries.each i d within in let m = entries i d within in record { number = k.number; home = k.home; file = k.file; form = m.0; characteristics = m.1; queue = k.queue; node = k.node; run = k.run };
    order = h.entries.order;
    runs = h.entries.runs;
  };
  next_entry = h.next_entry;
  next_run = h.next_run;
}

-- what is asked of an entry's queues
abbrev pub HasQueues : List Queue → Entry → Type 0
HasQueues qs x =
    (IsSome (queue_named x.home qs) × IfSome (queue_named x.home qs) (λ q. job_kind q.kind ≡ x.kind)) × IfSome (runs_in x.state) (IsExecutionQueue x.kind qs)

-- other queues, where the entries have theirs
pub queues_change : (s : System) (qs : List Queue) → IsSound s → length qs ≤ QUEUES_LIMIT → All (IsSoundQueue (record s { queues = qs })) qs → AllPairs (λ (a b : Queue). name_cmp a.name b.name ≡ Less) qs
    → All (HasQueues qs) s.entries → IsSound (record s { queues = qs })
queues_change s qs h few each order has = record {
  nodes = h.nodes;
  may = h.may;
  forms = h.forms;
  characteristics = h.characteristics;
  files = h.files;
  few = few;
  queues = each;
  order = order;
  entries = record {
    few = h.entries.few;
    each = λ i d within. let k = h.entries.each i d within in let m = has i d within in record { number = k.number; home = m.0; file = k.file; form = k.form; characteristics = k.characteristics; queue = m.1; node = k.node; run = k.run };
    order = h.entries.order;
    runs = h.entries.runs;
  };
  next_entry = h.next_entry;
  next_run = h.next_run;
}

-- entries each of which became another, as far apart as they were
pub entries_become : (s : System) (es : List Entry) (R : Entry → Entry → Type 0) → IsSound s → ((x y u v : Entry) → R x y → R u v → AreApart x u → AreApart y v)
    → ((x y : Entry) → R x y → IsEntry s x → IsEntry (record s { entries = es }) y) → Becomes (λ (x : Entry). Unit {0}) R s.entries es → IsSound (record s { entries = es })
entries_become s es R h apart each b =
    let before : AllPairs AreApart s.entries = λ i j d below within. (h.entries.order i j d below within, h.entries.runs i j d below within) in
    let after : AllPairs AreApart es = all_pairs_of AreApart es (becomes_pairs (λ (x : Entry). Unit {0}) R AreApart AreApart apart b (pairs_of AreApart s.entries before)) in
    sound_aside s s.may s.files es s.next_entry s.next_run s.last h h.may h.files
    (record {
      few = omega (arith, becomes_shorter (λ (x : Entry). Unit {0}) R b, h.entries.few);
      each = becomes_all (λ (x : Entry). Unit {0}) R (IsEntry s) (IsEntry (record s { entries = es })) each b h.entries.each;
      order = λ i j d below within. (after i j d below within).0;
      runs = λ i j d below within. (after i j d below within).1;
    })
    h.next_entry h.next_run

-- ---- entries that keep all but their state, mark and repetition, and whose run stays or ends

abbrev pub Calms : EntryState → EntryState → Type 0
Calms a b =
    ((run_of b ≡ run_of a) × (runs_in b ≡ runs_in a) × (runs_on b ≡ runs_on a))
    ⊎ ((run_of b ≡ None) × (runs_in b ≡ None) × (runs_on b ≡ None))

abbrev pub in_state : Entry → EntryState → List ℕ → Bool → Entry
in_state x state mark again = record x { state = state; mark = mark; again = again }

pub record Calmer (x y : Entry) : Type 0 where
  pub same : y ≡ in_state x y.state y.mark y.again
  pub calms : Calms x.state y.state

if_some_at : {X : Type 0} (P : X → Type 0) (a b : Option X) → (b ≡ a) ⊎ (b ≡ None) → IfSome a P → IfSome b P
if_some_at P a b (inl same) h = subst (λ o. IfSome o P) (sym same) h
if_some_at P a b (inr nothing) h = subst (λ o. IfSome o P) (sym nothing) tt

run_calms : (a b : EntryState) → Calms a b → (run_of b ≡ run_of a) ⊎ (run_of b ≡ None)
run_calms a b (inl h) = inl h.0
run_calms a b (inr h) = inr h.0

queue_calms : (a b : EntryState) → Calms a b → (runs_in b ≡ runs_in a) ⊎ (runs_in b ≡ None)
queue_calms a b (inl h) = inl h.1
queue_calms a b (inr h) = inr h.1

node_calms : (a b : EntryState) → Calms a b → (runs_on b ≡ runs_on a) ⊎ (runs_on b ≡ None)
node_calms a b (inl h) = inl h.2
node_calms a b (inr h) = inr h.2

module _ (s : System) (es : List Entry) where
  abbrev pub of_entries : System
  of_entries = record s { entries = es }

  calm_entry : (x : Entry) (state : EntryState) (mark : List ℕ) (again : Bool) → Calms x.state state → IsEntry s x → IsEntry of_entries (in_state x state mark again)
  calm_entry x state mark again calms h =
      entry_in_state s es s.next_run x state mark again h
      (if_some_at (IsExecutionQueue x.kind s.queues) (runs_in x.state) (runs_in state) (queue_calms x.state state calms) h.queue)
      (if_some_at (Contains (map (λ (n : Node). n.name) s.nodes)) (runs_on x.state) (runs_on state) (node_calms x.state state calms) h.node)
      (if_some_at (λ run. (0 < run) × (run < s.next_run)) (run_of x.state) (run_of state) (run_calms x.state state calms) h.run)

  calmer_entry : (x y : Entry) → Calmer x y → IsEntry s x → IsEntry of_entries y
  calmer_entry x y c h = subst (λ z. IsEntry of_entries z) (sym c.same) (calm_entry x y.state y.mark y.again c.calms h)

  differs : (a b a' b' : Option ℕ) → (a' ≡ a) ⊎ (a' ≡ None) → (b' ≡ b) ⊎ (b' ≡ None) → IfSome a (λ run. b ≢ Some run) → IfSome a' (λ run. b' ≢ Some run)
  differs a b a' b' (inr nothing) q h = subst (λ o. IfSome o (λ run. b' ≢ Some run)) (sym nothing) tt
  differs a b a' b' (inl same) (inl also) h = subst (λ o. IfSome o (λ run. b' ≢ Some run)) (sym same) (subst (λ o. IfSome a (λ run. o ≢ Some run)) (sym also) h)
  differs None b a' b' (inl same) (inr nothing) h = subst (λ o. IfSome o (λ run. b' ≢ Some run)) (sym same) tt
  differs (Some run) b a' b' (inl same) (inr nothing) h =
      subst (λ o. IfSome o (λ run. b' ≢ Some run)) (sym same) (λ is. let no : ◌≡◌ {A = Option ℕ} None (Some run) = sym nothing ∙ is in cc)

  calmer_apart : (x y u v : Entry) → Calmer x y → Calmer u v → AreApart x u → AreApart y v
  calmer_apart x y u v c d h = (
    subst (λ n. nat_cmp y.number n ≡ Less) (sym (ap (λ (z : Entry). z.number) d.same)) (subst (λ n. nat_cmp n u.number ≡ Less) (sym (ap (λ (z : Entry). z.number) c.same)) h.0),
    differs (run_of x.state) (run_of u.state) (run_of y.state) (run_of v.state) (run_calms x.state y.state c.calms) (run_calms u.state v.state d.calms) h.1,
  )

  pub entries_calm : IsSound s → Becomes (λ (x : Entry). Unit {0}) Calmer s.entries es → IsSound of_entries
  entries_calm h b = entries_become s es Calmer h calmer_apart calmer_entry b

-- ---- how entries change

pub itself : (x : Entry) → Calmer x x
itself x = record { same = refl; calms = inl (refl, refl, refl) }

outcome : (o : Option Entry) (x : Entry) (xs ys : List Entry) → IfSome o (Calmer x) → Becomes (λ (x : Entry). Unit {0}) Calmer xs ys
    → Becomes (λ (x : Entry). Unit {0}) Calmer (x ∷ xs) (option_to_list o ++ ys)
outcome None x xs ys h b = gone tt b
outcome (Some y) x xs ys h b = turned h b

with_outcome : (c : Bool) (o : Option Entry) (x : Entry) (xs ys : List Entry) → IfSome o (Calmer x) → Becomes (λ (x : Entry). Unit {0}) Calmer xs ys
    → Becomes (λ (x : Entry). Unit {0}) Calmer (x ∷ xs) (cond c (option_to_list o) (x ∷ []) ++ ys)
with_outcome true o x xs ys h b = outcome o x xs ys h b
with_outcome false o x xs ys h b = turned (itself x) b

pub one_calms : (n : ℕ) (g : Entry → Option Entry) → ((x : Entry) → IfSome (g x) (Calmer x)) → (xs : List Entry) → Becomes (λ (x : Entry). Unit {0}) Calmer xs (with_entry n g xs)
one_calms n g h [] = none
one_calms n g h (x ∷ xs) = with_outcome (x.number == n) (g x) x xs (with_entry n g xs) (h x) (one_calms n g h xs)

each_outcome : (o : Option Entry) (x : Entry) (xs ys : List Entry) → IfSome o (Calmer x) → Becomes (λ (x : Entry). Unit {0}) Calmer xs ys
    → Becomes (λ (x : Entry). Unit {0}) Calmer (x ∷ xs) (cons_option o ys)
each_outcome None x xs ys h b = gone tt b
each_outcome (Some y) x xs ys h b = turned h b

pub all_calm : (g : Entry → Option Entry) → ((x : Entry) → IfSome (g x) (Calmer x)) → (xs : List Entry) → Becomes (λ (x : Entry). Unit {0}) Calmer xs (filter_map g xs)
all_calm g h [] = none
all_calm g h (x ∷ xs) = each_outcome (g x) x xs (filter_map g xs) (h x) (all_calm g h xs)

-- ---- nodes that keep their names

pub names_stay : (f : Node → Node) → ((n : Node) → (f n).name ≡ n.name) → (ns : List Node) → map (λ (n : Node). n.name) (map f ns) ≡ map (λ (n : Node). n.name) ns
names_stay f h [] = refl
names_stay f h (n ∷ ns) = ap (λ x. x ∷ map (λ (n : Node). n.name) (map f ns)) (h n) ∙ ap (λ xs. n.name ∷ xs) (names_stay f h ns)

Renamed : Node → Node → Type 0
Renamed n m = m.name ≡ n.name

all_turned : (f : Node → Node) → ((n : Node) → (f n).name ≡ n.name) → (ns : List Node) → Becomes (λ (n : Node). Unit {0}) Renamed ns (map f ns)
unfolding Renamed
all_turned f h [] = none
all_turned f h (n ∷ ns) = turned (h n) (all_turned f h ns)

pub same_length : {X Y : Type 0} (f : X → Y) (xs : List X) → length (map f xs) ≡ length xs
same_length f [] = refl
same_length f (x ∷ xs) = ap suc (same_length f xs)

placed_on : (ns ms : List Node) (qs : List Queue) (q : Queue) (generic : Bool) → map (λ (n : Node). n.name) ms ≡ map (λ (n : Node). n.name) ns → IsPlaced ns qs q generic → IsPlaced ms qs q generic
placed_on ns ms qs q false same h = (subst (λ names. IfSome q.node (λ node. Contains names node)) (sym same) h.0, h.1, h.2, h.3, h.4)
placed_on ns ms qs q true same h = h

module _ (s : System) (f : Node → Node) (keeps : (n : Node) → (f n).name ≡ n.name) where
  abbrev pub of_nodes : System
  of_nodes = record s { nodes = map f s.nodes }

  same_names : map (λ (n : Node). n.name) (map f s.nodes) ≡ map (λ (n : Node). n.name) s.nodes
  same_names = names_stay f keeps s.nodes

  node_entry : (x : Entry) → IsEntry s x → IsEntry of_nodes x
  node_entry x h =
      let node = subst (λ names. IfSome (runs_on x.state) (Contains names)) (sym same_names) h.node in
      record { number = h.number; home = h.home; file = h.file; form = h.form; characteristics = h.characteristics; queue = h.queue; node = node; run = h.run }

  pub nodes_keep : IsSound s → IsSound of_nodes
  unfolding Renamed
  nodes_keep h = record {
    nodes = record {
      some = rw (same_length f s.nodes) h.nodes.some;
      few = rw (same_length f s.nodes) h.nodes.few;
      short = becomes_all (λ (n : Node). Unit {0}) Renamed (λ n. length n.name ≤ 6) (λ n. length n.name ≤ 6) (λ n m same k. subst (λ name. length name ≤ 6) (sym same) k) (all_turned f keeps s.nodes) h.nodes.short;
      distinct = all_pairs_of (λ (a b : Node). a.name ≢ b.name) (map f s.nodes)
          (becomes_pairs (λ (n : Node). Unit {0}) Renamed (λ a b. a.name ≢ b.name) (λ a b. a.name ≢ b.name) (λ n m a b same also k is. k (sym same ∙ is ∙ also)) (all_turned f keeps s.nodes)
          (pairs_of (λ (a b : Node). a.name ≢ b.name) s.nodes h.nodes.distinct));
    };
    may = subst (λ names. s.may ≡ filter (λ name. list_any (bytes_eq name) s.may) names) (sym same_names) h.may;
    forms = h.forms;
    characteristics = h.characteristics;
    files = h.files;
    few = h.few;
    queues = All-weaker (IsSoundQueue s) (IsSoundQueue of_nodes) (λ q k. record { name = k.name; placed = placed_on s.nodes (map f s.nodes) s.queues q (is_generic q.kind) same_names k.placed; mounted = k.mounted; characteristics = k.characteristics; limit = k.limit; sizes = k.sizes }) s.queues h.queues;
    order = h.order;
    entries = record { few = h.entries.few; each = All-weaker (IsEntry s) (IsEntry of_nodes) node_entry s.entries h.entries.each; order = h.entries.order; runs = h.entries.runs };
    next_entry = h.next_entry;
    next_run = h.next_run;
  }

-- ---- queues that keep all but their states

abbrev pub restated : (Queue → QueueState) → Queue → Queue
restated f q = record q { state = f q }

abbrev pub named : List ℕ → Queue → Bool
named name q = bytes_eq q.name name

find_restated_at : (f : Queue → QueueState) (name : List ℕ) (q : Queue) (qs : List Queue) (b : Bool)
    → find (named name) (map (restated f) qs) ≡ option_map (restated f) (find (named name) qs)
    → cond b (Some (restated f q)) (find (named name) (map (restated f) qs)) ≡ option_map (restated f) (cond b (Some q) (find (named name) qs))
find_restated_at f name q qs true later = refl
find_restated_at f name q qs false later = later

find_restated : (f : Queue → QueueState) (name : List ℕ) (qs : List Queue) → find (named name) (map (restated f) qs) ≡ option_map (restated f) (find (named name) qs)
find_restated f name [] = refl
find_restated f name (q ∷ qs) = find_restated_at f name q qs (bytes_eq q.name name) (find_restated f name qs)

there_at : (f : Queue → QueueState) (P : Queue → Type 0) → ((q : Queue) → P q → P (restated f q)) → (o : Option Queue) → IsSome o × IfSome o P → IsSome (option_map (restated f) o) × IfSome (option_map (restated f) o) P
there_at f P keeps None h = h
there_at f P keeps (Some q) h = (refl, keeps q h.1)

there : (f : Queue → QueueState) (P : Queue → Type 0) → ((q : Queue) → P q → P (restated f q)) → (name : List ℕ) (qs : List Queue) → IsSome (find (named name) qs) × IfSome (find (named name) qs) P
    → IsSome (find (named name) (map (restated f) qs)) × IfSome (find (named name) (map (restated f) qs)) P
there f P keeps name qs h =
    subst (λ (o : Option Queue). IsSome o × IfSome o P) (sym (find_restated f name qs)) (there_at f P keeps (find (named name) qs) h)

executes_there : (f : Queue → QueueState) (kind : JobKind) (qs : List Queue) (name : List ℕ) → IsExecutionQueue kind qs name → IsExecutionQueue kind (map (restated f) qs) name
executes_there f kind qs name h = there f (λ q. q.kind ≡ execution_kind kind) (λ q k. k) name qs h

placed_in : (f : Queue → QueueState) (ns : List Node) (qs : List Queue) (q : Queue) (generic : Bool) → IsPlaced ns qs q generic → IsPlaced ns (map (restated f) qs) (restated f q) generic
placed_in f ns qs q false h = h
placed_in f ns qs q true h =
    (h.0, h.1, h.2, h.3, h.4, All-weaker (IsExecutionQueue (job_kind q.kind) qs) (IsExecutionQueue (job_kind q.kind) (map (restated f) qs)) (λ name k. executes_there f (job_kind q.kind) qs name k) q.targets h.5)

executes_if : (f : Queue → QueueState) (kind : JobKind) (qs : List Queue) (o : Option (List ℕ)) → IfSome o (IsExecutionQueue kind qs) → IfSome o (IsExecutionQueue kind (map (restated f) qs))
executes_if f kind qs None h = tt
executes_if f kind qs (Some name) h = executes_there f kind qs name h

Restated : Queue → Queue → Type 0
Restated q p = p.name ≡ q.name

all_restated : (f : Queue → QueueState) (qs : List Queue) → Becomes (λ (q : Queue). Unit {0}) Restated qs (map (restated f) qs)
unfolding Restated
all_restated f [] = none
all_restated f (q ∷ qs) = turned refl (all_restated f qs)

module _ (s : System) (f : Queue → QueueState) where
  abbrev pub of_queues : System
  of_queues = record s { queues = map (restated f) s.queues }

  restated_queue : (q : Queue) → IsSoundQueue s q → IsSoundQueue of_queues (restated f q)
  restated_queue q h = record {
    name = h.name;
    placed = placed_in f s.nodes s.queues q (is_generic q.kind) h.placed;
    mounted = h.mounted;
    characteristics = h.characteristics;
    limit = h.limit;
    sizes = h.sizes;
  }

  pub states_change : IsSound s → IsSound of_queues
  unfolding Restated
  states_change h =
      queues_change s (map (restated f) s.queues) h (rw (same_length (restated f) s.queues) h.few)
      (All-map (IsSoundQueue of_queues) (restated f) s.queues (All-weaker (IsSoundQueue s) (λ q. IsSoundQueue of_queues (restated f q)) restated_queue s.queues h.queues))
      (all_pairs_of (λ (a b : Queue). name_cmp a.name b.name ≡ Less) (map (restated f) s.queues)
      (becomes_pairs (λ (q : Queue). Unit {0}) Restated (λ a b. name_cmp a.name b.name ≡ Less) (λ a b. name_cmp a.name b.name ≡ Less)
      (λ q p u v same also k. subst (λ n. name_cmp p.name n ≡ Less) (sym also) (subst (λ n. name_cmp n u.name ≡ Less) (sym same) k)) (all_restated f s.queues)
      (pairs_of (λ (a b : Queue). name_cmp a.name b.name ≡ Less) s.queues h.order)))
      (All-weaker (IsEntry s) (HasQueues (map (restated f) s.queues)) (λ x k. (there f (λ q. job_kind q.kind ≡ x.kind) (λ q m. m) x.home s.queues k.home, executes_if f x.kind s.queues (runs_in x.state) k.queue)) s.entries h.entries.each)

-- ---- queues that stop when they have no run make a sound system consistent

stopping_has_run : (b : Bool) (state : QueueState) → state_when_idle b state ≡ Stopping → b ≡ true
stopping_has_run true state h = refl
stopping_has_run false Stopped h = cc
stopping_has_run false Started h = cc
stopping_has_run false Paused h = cc
stopping_has_run false Stopping h = cc

pub idle_is_consistent : (s : System) → IsSound s → IsConsistent (stopped_when_idle s)
idle_is_consistent s h =
    let state : Queue → QueueState = λ q. state_when_idle (list_any (occupies q.name) s.entries) q.state in
    consistent_of (stopped_when_idle s) (states_change s state h)
    (All-map (HasRunWhileStopping (stopped_when_idle s)) (restated state) s.queues (λ i d within. let q = get_or s.queues i d in stopping_has_run (list_any (occupies q.name) s.entries) q.state))
