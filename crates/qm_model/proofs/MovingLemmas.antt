-- No change touches the moment or the numbers of runs, and entries' numbers only rise.
use Rattle.std.proofs.Common.{◌≡◌, ℕ, ◌+◌, ◌≤◌, Bool, true, false, cond, List, length, map, refl, sym, ◌∙◌, ap, subst, arith, Option, None, Some, Ok}
use Rattle.std.specs.Option.{option_map_or}
use Rattle.qm_model.specs.Common.{Entry, Request, Node, System, Pending, EntryIs, changed_entry, entry_set_to, Accepted, replied, at_moment, first_refusal_of, change_of, completed, applied, due, node_at, is_executing, entry_numbered, stopped_when_idle, settled, is_built, without_node, RunReport, MarkReport, EndReport, entry_of_run, run_reported, reported_of}
use Rattle.qm_kinds.specs.declared.request.Request.TheVariants.{Append, InitializeQueue, SetQueue, StartQueue, StopQueue, AbortJob, DeleteQueue, Submit, SetEntry, DeleteEntry, Mark, Done, Tick, NodeUp, NodeLost, Took}
use Rattle.qm_model.specs.Nodes.{as_up, up_exactly}
use Rattle.qm_model.proofs.ChangeLemmas.{names_stay}
use Rattle.qm_model.proofs.SettlingLemmas.{rest_stays, numbers_taken, accepted_is}

pub record Moves (s t : System) : Type 0 where
  pub last : t.last ≡ s.last
  pub runs : t.next_run ≡ s.next_run
  pub entries : s.next_entry ≤ t.next_entry

as_it_was : (s t : System) → t.last ≡ s.last → t.next_run ≡ s.next_run → t.next_entry ≡ s.next_entry → Moves s t
as_it_was s t last runs entries = record { last = last; runs = runs; entries = omega (arith, entries) }

either : (s : System) (b : Bool) (x y : Accepted) → Moves s x.system → Moves s y.system → Moves s (cond b x y).system
either s true x y h k = h
either s false x y h k = k

of_option : (s : System) (f : Entry → Accepted) (o : Option Entry) (d : Accepted) → ((e : Entry) → Moves s (f e).system) → Moves s d.system → Moves s (option_map_or f o d).system
of_option s f None d h k = k
of_option s f (Some e) d h k = h e

report_moves : (s : System) (now : ℕ) (node : List ℕ) (run : ℕ) (report : RunReport) → Moves s (run_reported s now node run report).system
report_moves s now node run report =
    of_option s (reported_of s now run report) (entry_of_run s node run) _ (λ e. as_it_was _ _ refl refl refl) (as_it_was _ _ refl refl refl)

change_moves : (s : System) (now : ℕ) (node : List ℕ) (request : Request) → Moves s (change_of s now node request).system
change_moves s now node (Submit job) =
    record { last = refl; runs = refl; entries = omega arith }
change_moves s now node (SetEntry entry change) =
    of_option s (λ e. entry_set_to s entry (changed_entry s now change e)) (entry_numbered entry s.entries) (replied s (EntryIs entry Pending)) (λ e. as_it_was _ _ refl refl refl) (as_it_was _ _ refl refl refl)
change_moves s now node (DeleteEntry entry) =
    either s (option_map_or is_executing (entry_numbered entry s.entries) false) _ _ (as_it_was _ _ refl refl refl) (as_it_was _ _ refl refl refl)
change_moves s now node (Mark run value) = report_moves s now node run (MarkReport value)
change_moves s now node (Done run status) = report_moves s now node run (EndReport status)
change_moves s now node _ = as_it_was _ _ refl refl refl

module _ (s : System) (now node : ℕ) (request : Request) (a : Accepted) (is : applied s now node request ≡ Ok a) where
  change : Accepted
  change = change_of (due now (at_moment now s)) now (node_at node s.nodes) request

  idle : System
  unfolding change
  idle = stopped_when_idle change.system

  same : completed change ≡ a
  unfolding change
  same = accepted_is (first_refusal_of s (node_at node s.nodes) request) (completed change) a is

  moves : Moves (due now (at_moment now s)) change.system
  unfolding change
  moves = change_moves (due now (at_moment now s)) now (node_at node s.nodes) request

  pub last_is_now : a.system.last ≡ now
  unfolding change idle
  last_is_now = ap (λ (b : Accepted). b.system.last) (sym same) ∙ ap (λ (t : System). t.last) (rest_stays idle) ∙ moves.last

  pub runs_rise : a.system.next_run ≡ s.next_run + length a.reply.started
  unfolding change idle
  runs_rise = subst (λ (b : Accepted). b.system.next_run ≡ s.next_run + length b.reply.started) same (numbers_taken idle ∙ ap (λ (n : ℕ). n + length (settled idle).started) moves.runs)

  pub entries_rise : s.next_entry ≤ a.system.next_entry
  unfolding change idle
  entries_rise =
      subst (λ (b : Accepted). s.next_entry ≤ b.system.next_entry) same
      (subst (λ (n : ℕ). s.next_entry ≤ n) (ap (λ (t : System). t.next_entry) (sym (rest_stays idle))) moves.entries)

-- ---- nodes keep their names

abbrev names : System → List (List ℕ)
names s = map (λ (n : Node). n.name) s.nodes

either_names : (s : System) (b : Bool) (x y : Accepted) → names x.system ≡ names s → names y.system ≡ names s → names (cond b x y).system ≡ names s
either_names s true x y h k = h
either_names s false x y h k = k

option_names : (s : System) (f : Entry → Accepted) (o : Option Entry) (d : Accepted) → ((e : Entry) → names (f e).system ≡ names s) → names d.system ≡ names s → names (option_map_or f o d).system ≡ names s
option_names s f None d h k = k
option_names s f (Some e) d h k = h e

change_names : (s : System) (now : ℕ) (node : List ℕ) (request : Request) → names (change_of s now node request).system ≡ names s
change_names s now node (SetEntry entry change) =
    option_names s (λ e. entry_set_to s entry (changed_entry s now change e)) (entry_numbered entry s.entries) (replied s (EntryIs entry Pending)) (λ e. refl) refl
change_names s now node (DeleteEntry entry) = either_names s (option_map_or is_executing (entry_numbered entry s.entries) false) _ _ refl refl
change_names s now node (Mark run value) = option_names s (reported_of s now run (MarkReport value)) (entry_of_run s node run) _ (λ e. refl) refl
change_names s now node (Done run status) = option_names s (reported_of s now run (EndReport status)) (entry_of_run s node run) _ (λ e. refl) refl
change_names s now node NodeUp = names_stay (as_up node) (λ n. refl) s.nodes
change_names s now node (NodeLost lost) = names_stay (without_node lost) (λ n. refl) s.nodes
change_names s now node (Took epoch gone up may) =
    names_stay (up_exactly up) (λ n. refl) (map (without_node gone) s.nodes) ∙ names_stay (without_node gone) (λ n. refl) s.nodes
change_names s now node _ = refl

pub names_are_kept : (s : System) (now node : ℕ) (request : Request) (a : Accepted) → applied s now node request ≡ Ok a → names a.system ≡ names s
names_are_kept s now node request a is =
    let name = node_at node s.nodes in
    let found = due now (at_moment now s) in
    let change = change_of found now name request in
    let same : completed change ≡ a = accepted_is (first_refusal_of s name request) (completed change) a is in
    ap (λ (b : Accepted). names b.system) (sym same) ∙ ap names (rest_stays (stopped_when_idle change.system)) ∙ change_names found now name request

either_nodes : (s : System) (b : Bool) (x y : Accepted) → x.system.nodes ≡ s.nodes → y.system.nodes ≡ s.nodes → (cond b x y).system.nodes ≡ s.nodes
either_nodes s true x y h k = h
either_nodes s false x y h k = k

option_nodes : (s : System) (f : Entry → Accepted) (o : Option Entry) (d : Accepted) → ((e : Entry) → (f e).system.nodes ≡ s.nodes) → d.system.nodes ≡ s.nodes → (option_map_or f o d).system.nodes ≡ s.nodes
option_nodes s f None d h k = k
option_nodes s f (Some e) d h k = h e

built_nodes : (s : System) (now : ℕ) (node : List ℕ) (request : Request) → is_built request ≡ true → (change_of s now node request).system.nodes ≡ s.nodes
built_nodes s now node (Append file bytes) built = refl
built_nodes s now node (InitializeQueue new) built = refl
built_nodes s now node (SetQueue name change) built = refl
built_nodes s now node (StartQueue name change) built = refl
built_nodes s now node (StopQueue name how) built = refl
built_nodes s now node (AbortJob queue entry requeue) built = refl
built_nodes s now node (DeleteQueue name) built = refl
built_nodes s now node (Submit job) built = refl
built_nodes s now node (SetEntry entry change) built =
    option_nodes s (λ e. entry_set_to s entry (changed_entry s now change e)) (entry_numbered entry s.entries) (replied s (EntryIs entry Pending)) (λ e. refl) refl
built_nodes s now node (DeleteEntry entry) built = either_nodes s (option_map_or is_executing (entry_numbered entry s.entries) false) _ _ refl refl
built_nodes s now node (Mark run value) built = option_nodes s (reported_of s now run (MarkReport value)) (entry_of_run s node run) _ (λ e. refl) refl
built_nodes s now node (Done run status) built = option_nodes s (reported_of s now run (EndReport status)) (entry_of_run s node run) _ (λ e. refl) refl
built_nodes s now node Tick built = refl
built_nodes s now node _ built = cc

pub nodes_are_kept : (s : System) (now node : ℕ) (request : Request) (a : Accepted) → is_built request ≡ true → applied s now node request ≡ Ok a → a.system.nodes ≡ s.nodes
nodes_are_kept s now node request a built is =
    let name = node_at node s.nodes in
    let found = due now (at_moment now s) in
    let change = change_of found now name request in
    let same : completed change ≡ a = accepted_is (first_refusal_of s name request) (completed change) a is in
    ap (λ (b : Accepted). b.system.nodes) (sym same) ∙ ap (λ (t : System). t.nodes) (rest_stays (stopped_when_idle change.system)) ∙ built_nodes found now name request built
