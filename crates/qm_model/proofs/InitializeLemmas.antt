-- A queue that is initialized leaves a sound system.
use Rattle.std.proofs.Common.{◌≡◌, ◌≢◌, ℕ, suc, ◌+◌, ◌<◌, ◌≤◌, inl, inr, Bool, true, false, cond, not, ◌||◌, ◌&&◌, List, [], ◌∷◌, length, get_or, refl, sym, ◌∙◌, ap, subst, arith, Option, None, Some, All, Contains, find, map, nat_lt, nat_le, is_some, is_none, IfSome, IsSome, IsNone, slice_get, unwrap_or, is_lt, bytes_eq, Ordering, Less, Equal, Greater}
use Rattle.std.specs.List.{list_any}
use Rattle.std.specs.Option.{option_map, option_map_or, option_and_then, option_or}
use Rattle.std.specs.Cmp.Lexicographic.{nat_list_cmp_total}
use Rattle.std.proofs.lemmas.Bool.Decides.{nat_tests}
use Rattle.std.proofs.lemmas.List.Elements.{All-weaker, All-filter, Contains-get_or}
use Rattle.std.proofs.lemmas.List.Kept.{AllPairs-filter}
use Rattle.std.proofs.lemmas.Option.{slice_get-map, unwrap_or-slice_get}
use Rattle.std.proofs.lemmas.Slice.Eq.{bytes_eq-Decides}
use Rattle.qm_model.specs.Common.{Entry, JobKind, Form, Queue, QueueKind, Refusal, Node, System, default_form, name_cmp, queue_named, runs_in, is_generic, job_kind, execution_kind, is_same_kind, is_print_queue, is_same_queue_kind, refused_where, node_at, is_bad_change, change_refusal, with_change, NewQueue}
use Rattle.qm_kinds.specs.declared.limits.TheConstants.{QUEUES_LIMIT, TARGETS_LIMIT}
use Rattle.qm_kinds.specs.declared.queue.QueueKind.TheVariants.{Batch, Print, GenericBatch, GenericPrint}
use Rattle.qm_kinds.specs.declared.refusal.Refusal.TheVariants.{BadValue, DuplicateQueue, QueuesFull, NoSuchNode, GenericTarget}
use Rattle.qm_model.specs.Consistent.{IsShort, AreForms, IsEntry, IsExecutionQueue, IsPlaced, IsMounted}
use Rattle.qm_model.specs.Inserting.{with_new_queue}
use Rattle.qm_model.specs.Queues.{has_repeats, is_misplaced, refused_unless_stopped, refused_node, is_target, refused_targets, initialize_refusal, plain_queue, without_queue, initialized}
use Rattle.qm_model.proofs.SettlingLemmas.{IsIn}
use Rattle.qm_model.proofs.ListLemmas.{Pairs, pairs_of, all_pairs_of, contains_in}
use Rattle.qm_model.proofs.InsertLemmas.{all_inserted, longer, order_inserted, missed, hit, not_found, none_left, all_kept, fewer, one_goes, none_any}
use Rattle.qm_model.proofs.SoundLemmas.{kind_is}
use Rattle.qm_model.proofs.ChangeLemmas.{HasQueues, queues_change, named, IsSound, IsSoundQueue, same_length}
use Rattle.qm_model.proofs.FileLemmas.{names_equal}
use Rattle.qm_model.proofs.RefusalLemmas.{no_map, not_true, not_false, at_most, none_first, not_refused, or_false_left, or_false_right, not_at_least}
use Rattle.qm_model.proofs.SubmitLemmas.{none_set}
use Rattle.qm_model.proofs.CharacteristicLemmas.{other_name}
use Rattle.qm_model.proofs.FormLemmas.{if_some_more}
use Rattle.qm_model.proofs.QueueLemmas.{placed_still, still_named, settings_change}

-- ---- where a new queue is placed

name_of : (o : Option Node) → option_map_or (λ (n : Node). n.name) o [] ≡ unwrap_or (option_map (λ (n : Node). n.name) o) []
name_of None = refl
name_of (Some n) = refl

-- the name at a place of the cluster is one of the cluster's
pub node_there : (place : ℕ) (nodes : List Node) → place < length nodes → Contains (map (λ (n : Node). n.name) nodes) (node_at place nodes)
node_there place nodes within =
    let names : List (List ℕ) = map (λ (n : Node). n.name) nodes in
    let same : node_at place nodes ≡ get_or names place [] = name_of (slice_get nodes place) ∙ ap (λ (o : Option (List ℕ)). unwrap_or o []) (sym (slice_get-map (λ (n : Node). n.name) nodes place)) ∙ unwrap_or-slice_get names place [] in
    subst (Contains names) (sym same) (Contains-get_or names place [] (rw (same_length (λ (n : Node). n.name) nodes) within))

named_node_at : (n : Node) (nodes : List Node) (name : List ℕ) (b : Bool) → bytes_eq n.name name ≡ b → (b || list_any (λ m. bytes_eq m.name name) nodes) ≡ true
    → (list_any (λ m. bytes_eq m.name name) nodes ≡ true → IsIn name (map (λ (m : Node). m.name) nodes)) → IsIn name (map (λ (m : Node). m.name) (n ∷ nodes))
named_node_at n nodes name true is h later = inl (sym ((bytes_eq-Decides n.name name).0 is))
named_node_at n nodes name false is h later = inr (later h)

named_node : (nodes : List Node) (name : List ℕ) → list_any (λ m. bytes_eq m.name name) nodes ≡ true → IsIn name (map (λ (m : Node). m.name) nodes)
named_node [] name h = cc
named_node (n ∷ nodes) name h = named_node_at n nodes name (bytes_eq n.name name) refl h (named_node nodes name)

node_placed : (s : System) (o : Option (List ℕ)) (node : List ℕ) → option_and_then (refused_node s) o ≡ None → Contains (map (λ (n : Node). n.name) s.nodes) node
    → IfSome (option_or o (Some node)) (λ name. Contains (map (λ (n : Node). n.name) s.nodes) name) × IsSome (option_or o (Some node))
node_placed s None node clear there = (there, refl)
node_placed s (Some name) node clear there =
    (contains_in name (map (λ (n : Node). n.name) s.nodes) (named_node s.nodes name (not_false (list_any (λ m. bytes_eq m.name name) s.nodes) (not_refused (not (list_any (λ m. bytes_eq m.name name) s.nodes)) (NoSuchNode name) clear))), refl)

device_placed : (o : Option (List ℕ)) (name : List ℕ) → IfSome o IsShort → IsShort name → IfSome (option_or o (Some name)) IsShort × IsSome (option_or o (Some name))
device_placed None name h short = (short, refl)
device_placed (Some device) name h short = (h, refl)

no_names : (names : List (List ℕ)) → nat_lt 0 (length names) ≡ false → names ≡ []
no_names [] h = refl
no_names (name ∷ names) h = absurd (some_length (length names) h)
  where
    some_length : (n : ℕ) → nat_lt 0 (suc n) ≡ false → ⊥
    some_length n h = grind (arith, nat_tests)

each_once : (names : List (List ℕ)) → has_repeats names ≡ false → Pairs (λ (a b : List ℕ). a ≢ b) names
each_once [] h = tt
each_once (name ∷ names) h = (
  All-weaker (λ (b : List ℕ). bytes_eq name b ≡ false) (λ (b : List ℕ). name ≢ b) (λ b k. other_name name b k) names (none_any (bytes_eq name) names (or_false_left (list_any (bytes_eq name) names) (has_repeats names) h)),
  each_once names (or_false_right (list_any (bytes_eq name) names) (has_repeats names) h),
)

no_some : {X : Type 0} (o : Option X) → is_some o ≡ false → IsNone o
no_some None h = refl
no_some (Some x) h = cc

target_kind : (kind : JobKind) (o : Option Queue) → option_map_or (λ q. not (is_generic q.kind) && is_same_kind kind (job_kind q.kind)) o false ≡ true → IsSome o × IfSome o (λ q. q.kind ≡ execution_kind kind)
target_kind kind None h = cc
target_kind kind (Some q) h = (refl, kind_is kind q.kind h)

same_queue_kind : (a b : QueueKind) → not (is_same_queue_kind a b) ≡ false → a ≡ b
same_queue_kind Batch Batch h = refl
same_queue_kind Print Print h = refl
same_queue_kind GenericBatch GenericBatch h = refl
same_queue_kind GenericPrint GenericPrint h = refl
same_queue_kind _ _ h = cc

default_mounted : (fs : List Form) (kind : QueueKind) → AreForms fs → IsMounted fs kind (cond (is_print_queue kind) (Some default_form) None)
default_mounted fs Print h = (refl, h.default.1)
default_mounted fs _ h = refl

below_at : (a b : List ℕ) (o : Ordering) → name_cmp a b ≡ o → (is_lt o ≡ true → o ≡ Less)
below_at a b Less is h = refl
below_at a b Equal is h = cc
below_at a b Greater is h = cc

above_at : (a b : List ℕ) (o : Ordering) → name_cmp a b ≡ o → bytes_eq b a ≡ false → is_lt o ≡ false → name_cmp b a ≡ Less
above_at a b Less is other h = cc
above_at a b Equal is other h = absurd (other_name b a other (sym (names_equal a b is)))
above_at a b Greater is other h = let turned = nat_list_cmp_total.antisymm b a in cc

room_at : (o : Option Queue) (n m : ℕ) → (is_none o && nat_le QUEUES_LIMIT n) ≡ false → (IsSome o → m < n) → m ≤ n → n ≤ QUEUES_LIMIT → m + 1 ≤ QUEUES_LIMIT
room_at None n m free goes fewer few = omega (arith, not_at_least QUEUES_LIMIT n free)
room_at (Some q) n m free goes fewer few = omega (arith, goes refl)

module _ (s : System) (node : List ℕ) (new : NewQueue) where
  abbrev plain : Queue
  plain = plain_queue node new

  abbrev queue : Queue
  queue = with_change s new.change plain

  abbrev rest : List Queue
  rest = without_queue new.name s.queues

  abbrev all : List Queue
  all = with_new_queue queue rest

  abbrev stands_before : Queue → Queue → Bool
  stands_before p q = is_lt (name_cmp p.name q.name)

  Lower : Queue → Queue → Type 0
  Lower a b = name_cmp a.name b.name ≡ Less

  -- a name stands for a queue of the same kind as before
  kinds_at : (P : QueueKind → Type 0) (n : List ℕ) (b : Bool) → bytes_eq new.name n ≡ b → IfSome (queue_named new.name s.queues) (λ q. q.kind ≡ new.kind)
      → IsSome (queue_named n s.queues) × IfSome (queue_named n s.queues) (λ q. P q.kind) → IsSome (queue_named n all) × IfSome (queue_named n all) (λ q. P q.kind)
  kinds_at P n true is old h =
      let same : new.name ≡ n = (bytes_eq-Decides new.name n).0 is in
      let nothing : queue_named n rest ≡ None = subst (λ (m : List ℕ). queue_named m rest ≡ None) same (none_left (named new.name) s.queues) in
      let found : queue_named n all ≡ Some queue = hit stands_before queue (named n) rest is nothing in
      let before : IsSome (queue_named new.name s.queues) × IfSome (queue_named new.name s.queues) (λ q. P q.kind) =
      subst (λ (m : List ℕ). IsSome (queue_named m s.queues) × IfSome (queue_named m s.queues) (λ q. P q.kind)) (sym same) h in
      subst (λ (o : Option Queue). IsSome o × IfSome o (λ q. P q.kind)) (sym found) (refl, of_old (queue_named new.name s.queues) old before)
    where
      of_old : (o : Option Queue) → IfSome o (λ q. q.kind ≡ new.kind) → IsSome o × IfSome o (λ q. P q.kind) → P new.kind
      of_old None alike h = cc
      of_old (Some q) alike h = subst P alike h.1
  kinds_at P n false is old h =
      let found : queue_named n all ≡ queue_named n s.queues = missed stands_before queue (named n) rest is ∙ still_named new.name n s.queues is in
      subst (λ (o : Option Queue). IsSome o × IfSome o (λ q. P q.kind)) (sym found) h

  kinds_stay : (P : QueueKind → Type 0) (n : List ℕ) → IfSome (queue_named new.name s.queues) (λ q. q.kind ≡ new.kind)
      → IsSome (queue_named n s.queues) × IfSome (queue_named n s.queues) (λ q. P q.kind) → IsSome (queue_named n all) × IfSome (queue_named n all) (λ q. P q.kind)
  kinds_stay P n old h = kinds_at P n (bytes_eq new.name n) refl old h

  executes_still : (kind : JobKind) (n : List ℕ) → IfSome (queue_named new.name s.queues) (λ q. q.kind ≡ new.kind) → IsExecutionQueue kind s.queues n → IsExecutionQueue kind all n
  executes_still kind n old h = kinds_stay (λ k. k ≡ execution_kind kind) n old h

  has_still : (x : Entry) → IfSome (queue_named new.name s.queues) (λ q. q.kind ≡ new.kind) → IsEntry s x → HasQueues all x
  has_still x old h = (
    kinds_stay (λ k. job_kind k ≡ x.kind) x.home old h.home,
    if_some_more (IsExecutionQueue x.kind s.queues) (IsExecutionQueue x.kind all) (runs_in x.state) (λ n is k. executes_still x.kind n old k) h.queue,
  )

  abbrev placed_as : Bool → Queue
  placed_as generic = record queue { node = cond generic None (option_or new.node (Some node)); device = cond generic None (option_or new.device (Some new.name)) }

  new_placed : (generic : Bool) → IfSome (queue_named new.name s.queues) (λ q. q.kind ≡ new.kind)
      → cond generic (nat_lt (length new.targets) 1 || has_repeats new.targets || nat_lt TARGETS_LIMIT (length new.targets) || is_some new.node || is_some new.device) (nat_lt 0 (length new.targets)) ≡ false
      → option_and_then (refused_node s) new.node ≡ None → Contains (map (λ (n : Node). n.name) s.nodes) node → IsShort new.name → IfSome new.device IsShort
      → All (λ (t : List ℕ). not (is_target s new.kind t) ≡ false) new.targets → IsPlaced s.nodes all (placed_as generic) generic
  new_placed false old fits clear there short device targets =
      let on = node_placed s new.node node clear there in
      let at = device_placed new.device new.name device short in
      (on.0, on.1, at.0, at.1, no_names new.targets fits)
  new_placed true old fits clear there short device targets =
      let few = nat_lt (length new.targets) 1 in
      let twice = has_repeats new.targets in
      let many = nat_lt TARGETS_LIMIT (length new.targets) in
      let f1 = or_false_left (few || twice || many || is_some new.node) (is_some new.device) fits in
      let f2 = or_false_left (few || twice || many) (is_some new.node) f1 in
      let f3 = or_false_left (few || twice) many f2 in (
        refl,
        refl,
        at_most (length new.targets) 1 (or_false_left few twice f3),
        at_most TARGETS_LIMIT (length new.targets) (or_false_right (few || twice) many f2),
        all_pairs_of (λ (a b : List ℕ). a ≢ b) new.targets (each_once new.targets (or_false_right few twice f3)),
        All-weaker (λ (t : List ℕ). not (is_target s new.kind t) ≡ false) (IsExecutionQueue (job_kind new.kind) all)
            (λ t k. executes_still (job_kind new.kind) t old (target_kind (job_kind new.kind) (queue_named t s.queues) (not_false (is_target s new.kind t) k))) new.targets targets,
      )

  old_kind : (o : Option Queue) → option_map_or (λ q. not (is_same_queue_kind q.kind new.kind)) o false ≡ false → IfSome o (λ q. q.kind ≡ new.kind)
  old_kind None h = tt
  old_kind (Some q) h = same_queue_kind q.kind new.kind h

  pub initialized_sound : IsSound s → Contains (map (λ (n : Node). n.name) s.nodes) node → IsShort new.name → IfSome new.device IsShort → initialize_refusal s new ≡ None → IsSound (initialized s node new).system
  unfolding Lower
  initialized_sound h there short device clear =
      let before : Option Queue = queue_named new.name s.queues in
      let bad : Option Refusal = refused_where (is_bad_change new.change || is_misplaced new) BadValue in
      let other : Option Refusal = refused_where (option_map_or (λ q. not (is_same_queue_kind q.kind new.kind)) before false) DuplicateQueue in
      let busy : Option Refusal = option_and_then refused_unless_stopped before in
      let full : Option Refusal = refused_where (is_none before && nat_le QUEUES_LIMIT (length s.queues)) QueuesFull in
      let off : Option Refusal = option_and_then (refused_node s) new.node in
      let targets : Option Refusal = refused_targets s new in
      let wrong : Option Refusal = change_refusal s new.kind new.change in
      let r1 = none_first bad (other ∷ busy ∷ full ∷ off ∷ targets ∷ wrong ∷ []) clear in
      let r2 = none_first other (busy ∷ full ∷ off ∷ targets ∷ wrong ∷ []) r1.1 in
      let r3 = none_first busy (full ∷ off ∷ targets ∷ wrong ∷ []) r2.1 in
      let r4 = none_first full (off ∷ targets ∷ wrong ∷ []) r3.1 in
      let r5 = none_first off (targets ∷ wrong ∷ []) r4.1 in
      let r6 = none_first targets (wrong ∷ []) r5.1 in
      let r7 = none_first wrong [] r6.1 in
      let fine = not_refused (is_bad_change new.change || is_misplaced new) BadValue r1.0 in
      let old = old_kind before (not_refused (option_map_or (λ q. not (is_same_queue_kind q.kind new.kind)) before false) DuplicateQueue r2.0) in
      let free = not_refused (is_none before && nat_le QUEUES_LIMIT (length s.queues)) QueuesFull r4.0 in
      let hit_targets = not_found (λ name. not (is_target s new.kind name)) new.targets (no_map (λ name. GenericTarget name) (find (λ name. not (is_target s new.kind name)) new.targets) r6.0) in
      let settings = settings_change s new.change plain (or_false_left (is_bad_change new.change) (is_misplaced new) fine) r7.0
      (record { mounted = default_mounted s.forms new.kind h.forms; characteristics = none_set s.characteristics; limit = omega arith; sizes = (omega arith, omega arith) }) in
      let room = room_at before (length s.queues) (length rest) free (λ known. one_goes (named new.name) s.queues known) (fewer (λ (q : Queue). not (named new.name q)) s.queues) h.few in
      let others : All (λ (q : Queue). bytes_eq q.name new.name ≡ false) rest =
      all_kept (λ (q : Queue). not (bytes_eq q.name new.name)) (λ (q : Queue). bytes_eq q.name new.name ≡ false) s.queues (λ i d within k. not_true (bytes_eq (get_or s.queues i d).name new.name) k) in
      let t : System = record s { queues = all } in
      queues_change s all h
      (omega (arith, longer stands_before queue rest, room))
      (all_inserted stands_before queue (IsSoundQueue t) rest
      (record {
        name = short;
        placed = new_placed (is_generic new.kind) old (or_false_right (is_bad_change new.change) (is_misplaced new) fine) r5.0 there short device hit_targets;
        mounted = settings.mounted;
        characteristics = settings.characteristics;
        limit = settings.limit;
        sizes = settings.sizes;
      })
      (All-filter (λ (q : Queue). not (bytes_eq q.name new.name)) (IsSoundQueue t) s.queues
      (All-weaker (IsSoundQueue s) (IsSoundQueue t)
      (λ q k. record { name = k.name; placed = placed_still s.nodes s.queues all q (is_generic q.kind) (λ i d within m. executes_still (job_kind q.kind) _ old m) k.placed; mounted = k.mounted; characteristics = k.characteristics; limit = k.limit; sizes = k.sizes })
      s.queues h.queues)))
      (all_pairs_of Lower all
      (order_inserted stands_before queue Lower (λ a b c p q. nat_list_cmp_total.trans a.name b.name c.name p q) rest
      (All-weaker (λ (q : Queue). bytes_eq q.name new.name ≡ false) (λ (q : Queue). (stands_before queue q ≡ true → Lower queue q) × (stands_before queue q ≡ false → Lower q queue))
      (λ q k. (λ is. below_at new.name q.name (name_cmp new.name q.name) refl is, λ is. above_at new.name q.name (name_cmp new.name q.name) refl k is)) rest others)
      (pairs_of Lower rest (AllPairs-filter (λ (a b : Queue). name_cmp a.name b.name ≡ Less) (λ (q : Queue). not (bytes_eq q.name new.name)) s.queues h.order))))
      (All-weaker (IsEntry s) (HasQueues all) (λ x k. has_still x old k) s.entries h.entries.each)
