-- Queues that are deleted or set leave a sound system.
use Rattle.std.proofs.Common.{◌≡◌, ℕ, ◌<◌, ◌≤◌, Bool, true, false, cond, not, ◌||◌, ◌&&◌, List, [], ◌∷◌, get_or, refl, sym, ◌∙◌, ap, subst, arith, Option, None, Some, All, filter, find, map, ◌==◌, nat_lt, is_some, is_none, IfSome, IsSome, unwrap_or, bytes_eq, Less}
use Rattle.std.specs.List.{list_any}
use Rattle.std.specs.Option.{option_map, option_map_or, option_and_then, option_or}
use Rattle.std.proofs.lemmas.List.Elements.{All-map, All-weaker, All-filter}
use Rattle.std.proofs.lemmas.List.Kept.{AllPairs-filter}
use Rattle.std.proofs.lemmas.Slice.Eq.{bytes_eq-Decides}
use Rattle.qm_model.specs.Common.{Entry, EntryState, JobKind, Form, Queue, QueueChange, QueueKind, QueueState, Refusal, NameOrNumber, Node, System, name_cmp, queue_named, form_wanted, run_of, runs_in, refused_where, refused_form, refused_characteristics, form_named, with_queue, entry_at, state_at, refused_by_queue, refused_by_entry}
use Rattle.qm_kinds.specs.declared.entry.EntryState.TheVariants as entry
use Rattle.qm_kinds.specs.declared.queue.QueueKind.TheVariants.{Batch, Print, GenericBatch, GenericPrint}
use Rattle.qm_kinds.specs.declared.refusal.Refusal.TheVariants.{NoSuchQueue, NoSuchForm, BadValue, WrongKind}
use Rattle.qm_model.specs.Consistent.{IsEntry, IsExecutionQueue, IsPlaced, IsMounted, AreDefined}
use Rattle.qm_model.specs.Kinds.{is_generic, job_kind, execution_kind, is_batch_queue, is_print_queue}
use Rattle.qm_model.specs.Settings.{are_bad_sizes, is_bad_change, is_change_of_other_kind, change_refusal, with_change}
use Rattle.qm_model.specs.Queues.{refused_unless_stopped, without_queue, runs_for, delete_queue_refusal, queue_deleted, set_queue_refusal}
use Rattle.qm_model.proofs.ListLemmas.{Becomes, none, gone, turned, Pairs, pairs_of, all_pairs_of}
use Rattle.qm_model.proofs.InsertLemmas.{found_kept, found_only, all_in, all_kept, fewer, none_any}
use Rattle.qm_model.proofs.SoundLemmas.{name_not_below}
use Rattle.qm_model.proofs.ChangeLemmas.{named, HasQueues, queues_change, IsSound, IsSoundQueue, Calmer, itself, entries_calm, same_length}
use Rattle.qm_model.proofs.DueLemmas.{same_run, same_queue}
use Rattle.qm_model.proofs.RefusalLemmas.{not_true, at_most, none_first, not_refused, is_there, none_by_queue, none_by_entry, or_false_left, or_false_right, not_zero}
use Rattle.qm_model.proofs.SubmitLemmas.{found_form}
use Rattle.qm_model.proofs.SetEntryLemmas.{or_found, new_set}
use Rattle.qm_model.proofs.FormLemmas.{differs_through, if_some_more}

-- ---- other queues

abbrev pub of_queues : System → List Queue → System
of_queues s qs = record s { queues = qs }

-- a queue stays placed where its targets still are execution queues of its kind
pub placed_still : (ns : List Node) (qs ps : List Queue) (q : Queue) (generic : Bool)
    → All (λ (t : List ℕ). IsExecutionQueue (job_kind q.kind) qs t → IsExecutionQueue (job_kind q.kind) ps t) q.targets → IsPlaced ns qs q generic → IsPlaced ns ps q generic
placed_still ns qs ps q false more h = h
placed_still ns qs ps q true more h = (h.0, h.1, h.2, h.3, h.4, λ i d within. more i d within (h.5 i d within))

if_some_still : {X : Type 0} (P Q R : X → Type 0) (o : Option X) → ((x : X) → R x → P x → Q x) → IfSome o R → IfSome o P → IfSome o Q
if_some_still P Q R None more r h = tt
if_some_still P Q R (Some x) more r h = more x r h

-- ---- a queue is deleted

abbrev other_than : List ℕ → Queue → Bool
other_than name q = not (bytes_eq q.name name)

turned_at : (a b : List ℕ) (c : Bool) → bytes_eq b a ≡ c → bytes_eq a b ≡ false → c ≡ false
turned_at a b true is h = let also : bytes_eq a b ≡ true = (bytes_eq-Decides a b).1 (sym ((bytes_eq-Decides b a).0 is)) in cc
turned_at a b false is h = refl

pub turned_name : (a b : List ℕ) → bytes_eq a b ≡ false → bytes_eq b a ≡ false
turned_name a b h = turned_at a b (bytes_eq b a) refl h

pub still_named : (name n : List ℕ) (qs : List Queue) → bytes_eq name n ≡ false → queue_named n (without_queue name qs) ≡ queue_named n qs
still_named name n qs other = found_kept (named n) (other_than name) (λ q is. differs_through q.name n name is other) qs

still_executes : (name n : List ℕ) (qs : List Queue) (kind : JobKind) → bytes_eq name n ≡ false → IsExecutionQueue kind qs n → IsExecutionQueue kind (without_queue name qs) n
still_executes name n qs kind other h = subst (λ (o : Option Queue). IsSome o × IfSome o (λ q. q.kind ≡ execution_kind kind)) (sym (still_named name n qs other)) h

runs_elsewhere : (name : List ℕ) (home : Bool) (state : EntryState)
    → (option_map_or (λ run. true) (run_of state) false && (option_map_or (λ n. bytes_eq n name) (runs_in state) false || home)) ≡ false → IfSome (runs_in state) (λ n. bytes_eq n name ≡ false)
runs_elsewhere name home (entry.Running queue node run) h = or_false_left (bytes_eq queue name) home h
runs_elsewhere name home (entry.Aborting queue node run fate) h = or_false_left (bytes_eq queue name) home h
runs_elsewhere name home _ h = tt

pub runs_for_at : (name : List ℕ) (now : ℕ) (x : Entry) → runs_for name x ≡ false → runs_for name (entry_at now x) ≡ false
runs_for_at name now x h =
    let F : Option ℕ → Option (List ℕ) → Bool = λ run queue. option_map_or (λ r. true) run false && (option_map_or (λ n. bytes_eq n name) queue false || bytes_eq x.home name) in
    ap (λ (o : Option ℕ). F o (runs_in (state_at now x.state))) (same_run now x.state) ∙ ap (F (run_of x.state)) (same_queue now x.state) ∙ h

keeps_some : (p : Entry → Bool) (xs : List Entry) → Becomes (λ (x : Entry). Unit {0}) Calmer xs (filter p xs)
keeps_some p [] = none
keeps_some p (x ∷ xs) = at (p x) (keeps_some p xs)
  where
    at : (b : Bool) → Becomes (λ (x : Entry). Unit {0}) Calmer xs (filter p xs) → Becomes (λ (x : Entry). Unit {0}) Calmer (x ∷ xs) (cond b (x ∷ filter p xs) (filter p xs))
    at true later = turned (itself x) later
    at false later = gone tt later

pub queue_deleted_sound : (before s : System) (name : List ℕ) → IsSound s → s.queues ≡ before.queues → delete_queue_refusal before name ≡ None
    → (All (λ (x : Entry). runs_for name x ≡ false) before.entries → All (λ (x : Entry). runs_for name x ≡ false) s.entries) → IsSound (queue_deleted s name).system
queue_deleted_sound before s name h same clear keeps =
    let missing : Option Refusal = refused_where (is_none (queue_named name before.queues)) (NoSuchQueue name) in
    let busy : Option Refusal = option_and_then refused_unless_stopped (queue_named name before.queues) in
    let by_queue : Option Refusal = refused_by_queue (λ q. list_any (bytes_eq name) q.targets) before.queues in
    let by_entry : Option Refusal = refused_by_entry (runs_for name) before.entries in
    let r1 = none_first missing (busy ∷ by_queue ∷ by_entry ∷ []) clear in
    let r2 = none_first busy (by_queue ∷ by_entry ∷ []) r1.1 in
    let r3 = none_first by_queue (by_entry ∷ []) r2.1 in
    let r4 = none_first by_entry [] r3.1 in
    let untargeted : All (λ (q : Queue). list_any (bytes_eq name) q.targets ≡ false) s.queues =
    subst (λ (qs : List Queue). All (λ (q : Queue). list_any (bytes_eq name) q.targets ≡ false) qs) (sym same) (none_by_queue (λ q. list_any (bytes_eq name) q.targets) before.queues r3.0) in
    let elsewhere : All (λ (x : Entry). runs_for name x ≡ false) s.entries = keeps (none_by_entry (runs_for name) before.entries r4.0) in
    let p : Entry → Bool = λ e. not (bytes_eq e.home name) in
    let qs = without_queue name s.queues in
    let t : System = record s { entries = filter p s.entries } in
    let left : IsSound t = entries_calm s (filter p s.entries) h (keeps_some p s.entries) in
    queues_change t qs left
    (omega (arith, fewer (other_than name) s.queues, h.few))
    (All-filter (other_than name) (IsSoundQueue (of_queues t qs)) s.queues
    (λ i d within. let k = left.queues i d within in let free = none_any (bytes_eq name) _ (untargeted i d within) in record {
      name = k.name;
      placed = placed_still t.nodes s.queues qs (get_or s.queues i d) (is_generic (get_or s.queues i d).kind) (λ j c inside. still_executes name _ s.queues _ (free j c inside)) k.placed;
      mounted = k.mounted;
      characteristics = k.characteristics;
      limit = k.limit;
      sizes = k.sizes;
    }))
    (AllPairs-filter (λ (a b : Queue). name_cmp a.name b.name ≡ Less) (other_than name) s.queues h.order)
    (all_kept p (HasQueues qs) s.entries (λ i d within elsewhere_home.
    let k = h.entries.each i d within in
    let x : Entry = get_or s.entries i d in
    let other : bytes_eq name x.home ≡ false = turned_name x.home name (not_true (bytes_eq x.home name) elsewhere_home) in (
      subst (λ (o : Option Queue). IsSome o × IfSome o (λ q. job_kind q.kind ≡ x.kind)) (sym (still_named name x.home s.queues other)) k.home,
      if_some_still (IsExecutionQueue x.kind s.queues) (IsExecutionQueue x.kind qs) (λ (n : List ℕ). bytes_eq n name ≡ false) (runs_in x.state)
          (λ n off there. still_executes name n s.queues x.kind (turned_name n name off) there) (runs_elsewhere name (bytes_eq x.home name) x.state (elsewhere i d within)) k.queue,
    )))

-- ---- a queue is set

-- settings change, and with them the state
abbrev pub set_to : System → QueueChange → (Queue → QueueState) → List ℕ → Queue → Queue
set_to s change state name q = cond (bytes_eq q.name name) (record (with_change s change q) { state = state q }) q

module _ (f : Queue → Queue) (names : (q : Queue) → (f q).name ≡ q.name) where
  find_mapped_at : (n : List ℕ) (q : Queue) (qs : List Queue) (b : Bool) → find (named n) (map f qs) ≡ option_map f (find (named n) qs)
      → cond b (Some (f q)) (find (named n) (map f qs)) ≡ option_map f (cond b (Some q) (find (named n) qs))
  find_mapped_at n q qs true later = refl
  find_mapped_at n q qs false later = later

  find_mapped : (n : List ℕ) (qs : List Queue) → find (named n) (map f qs) ≡ option_map f (find (named n) qs)
  find_mapped n [] = refl
  find_mapped n (q ∷ qs) =
      ap (λ (m : List ℕ). cond (bytes_eq m n) (Some (f q)) (find (named n) (map f qs))) (names q) ∙ find_mapped_at n q qs (bytes_eq q.name n) (find_mapped n qs)

  mapped_at : (P : Queue → Type 0) → ((q : Queue) → P q → P (f q)) → (o : Option Queue) → IsSome o × IfSome o P → IsSome (option_map f o) × IfSome (option_map f o) P
  mapped_at P keeps None h = h
  mapped_at P keeps (Some q) h = (refl, keeps q h.1)

  mapped : (P : Queue → Type 0) → ((q : Queue) → P q → P (f q)) → (n : List ℕ) (qs : List Queue) → IsSome (find (named n) qs) × IfSome (find (named n) qs) P → IsSome (find (named n) (map f qs)) × IfSome (find (named n) (map f qs)) P
  mapped P keeps n qs h = subst (λ (o : Option Queue). IsSome o × IfSome o P) (sym (find_mapped n qs)) (mapped_at P keeps (find (named n) qs) h)

  order_mapped_all : (q : Queue) (qs : List Queue) → All (λ (p : Queue). name_cmp q.name p.name ≡ Less) qs → All (λ (p : Queue). name_cmp (f q).name p.name ≡ Less) (map f qs)
  order_mapped_all q qs h =
      All-map (λ (p : Queue). name_cmp (f q).name p.name ≡ Less) f qs
      (All-weaker (λ (p : Queue). name_cmp q.name p.name ≡ Less) (λ (p : Queue). name_cmp (f q).name (f p).name ≡ Less)
      (λ p k. subst (λ n. name_cmp (f q).name n ≡ Less) (sym (names p)) (subst (λ n. name_cmp n p.name ≡ Less) (sym (names q)) k)) qs h)

  order_mapped : (qs : List Queue) → Pairs (λ (a b : Queue). name_cmp a.name b.name ≡ Less) qs → Pairs (λ (a b : Queue). name_cmp a.name b.name ≡ Less) (map f qs)
  order_mapped [] h = tt
  order_mapped (q ∷ qs) h = (order_mapped_all q qs h.0, order_mapped qs h.1)

not_either : (a b c : Bool) → ((a || b) || c) ≡ false → b ≡ false
not_either a b c h = or_false_right a b (or_false_left (a || b) c h)

pub new_mounted : (fs : List Form) (kind : QueueKind) (mounted : Option (List ℕ)) (o : Option NameOrNumber) (b c : Bool) → (((is_some o || b) || c) && not (is_print_queue kind)) ≡ false
    → option_and_then (λ wanted. refused_where (is_none (form_wanted wanted fs)) (NoSuchForm wanted)) o ≡ None → IsMounted fs kind mounted → IsMounted fs kind (option_or (option_and_then (form_named fs) o) mounted)
new_mounted fs Batch mounted None b c right there h = h
new_mounted fs Batch mounted (Some wanted) b c right there h = cc
new_mounted fs Print mounted None b c right there h = h
new_mounted fs Print mounted (Some wanted) b c right there h =
    or_found fs (form_named fs wanted) mounted (found_form fs wanted (form_wanted wanted fs) refl (is_there (form_wanted wanted fs) (not_refused (is_none (form_wanted wanted fs)) (NoSuchForm wanted) there)))
new_mounted fs GenericBatch mounted None b c right there h = h
new_mounted fs GenericBatch mounted (Some wanted) b c right there h = cc
new_mounted fs GenericPrint mounted None b c right there h = h
new_mounted fs GenericPrint mounted (Some wanted) b c right there h = cc

pub new_limit : (o : Option ℕ) (limit : ℕ) → option_map_or (λ n. n == 0) o false ≡ false → 0 < limit → 0 < unwrap_or o limit
new_limit None limit fine h = h
new_limit (Some n) limit fine h = not_zero n fine

pub new_sizes : (o : Option (ℕ × ℕ)) (lower upper : ℕ) → option_map_or are_bad_sizes o false ≡ false → (0 < lower) × (lower ≤ upper)
    → (0 < option_map_or (λ sizes. sizes.0) o lower) × (option_map_or (λ sizes. sizes.0) o lower ≤ option_map_or (λ sizes. sizes.1) o upper)
new_sizes None lower upper fine h = h
new_sizes (Some sizes) lower upper fine h =
    (not_zero sizes.0 (or_false_left (sizes.0 == 0) (nat_lt sizes.1 sizes.0) fine), at_most sizes.1 sizes.0 (or_false_right (sizes.0 == 0) (nat_lt sizes.1 sizes.0) fine))

-- the settings of a queue that is given a change
pub record AreSettings (s : System) (q : Queue) : Type 0 where
  pub mounted : IsMounted s.forms q.kind q.mounted
  pub characteristics : AreDefined q.characteristics.0 s.characteristics
  pub limit : 0 < q.limit
  pub sizes : (0 < q.lower) × (q.lower ≤ q.upper)

pub settings_change : (s : System) (change : QueueChange) (q : Queue) → is_bad_change change ≡ false → change_refusal s q.kind change ≡ None → AreSettings s q → AreSettings s (with_change s change q)
settings_change s change q fine clear h =
    let wrong : Option Refusal = refused_where (is_change_of_other_kind q.kind change) WrongKind in
    let form : Option Refusal = option_and_then (refused_form s) change.form in
    let characteristics : Option Refusal = option_and_then (refused_characteristics s.characteristics) change.characteristics in
    let r1 = none_first wrong (form ∷ characteristics ∷ []) clear in
    let r2 = none_first form (characteristics ∷ []) r1.1 in
    let right = not_either (is_some change.limit && not (is_batch_queue q.kind)) ((is_some change.form || is_some change.blocks || is_some change.by_size) && not (is_print_queue q.kind)) (is_some change.characteristics && is_generic q.kind)
    (not_refused (is_change_of_other_kind q.kind change) WrongKind r1.0) in
    let limits : Bool = option_map_or (λ limit. limit == 0) change.limit false in
    let sizes : Bool = option_map_or are_bad_sizes change.blocks false in
    record {
      mounted = new_mounted s.forms q.kind q.mounted change.form (is_some change.blocks) (is_some change.by_size) right r2.0 h.mounted;
      characteristics = new_set s q.characteristics change.characteristics h.characteristics;
      limit = new_limit change.limit q.limit (or_false_left limits sizes fine) h.limit;
      sizes = new_sizes change.blocks q.lower q.upper (or_false_right limits sizes fine) h.sizes;
    }

pub placed_set : (s : System) (change : QueueChange) (state : QueueState) (ns : List Node) (qs ps : List Queue) (q : Queue) (generic : Bool)
    → All (λ (t : List ℕ). IsExecutionQueue (job_kind q.kind) qs t → IsExecutionQueue (job_kind q.kind) ps t) q.targets → IsPlaced ns qs q generic → IsPlaced ns ps (record (with_change s change q) { state = state }) generic
placed_set s change state ns qs ps q false more h = h
placed_set s change state ns qs ps q true more h = (h.0, h.1, h.2, h.3, h.4, λ i d within. more i d within (h.5 i d within))

module _ (s : System) (change : QueueChange) (state : Queue → QueueState) (name : List ℕ) where
  abbrev set_each : Queue → Queue
  set_each = set_to s change state name

  names_at : (q : Queue) (b : Bool) → (cond b (record (with_change s change q) { state = state q }) q).name ≡ q.name
  names_at q true = refl
  names_at q false = refl

  kind_at : (q : Queue) (b : Bool) → (cond b (record (with_change s change q) { state = state q }) q).kind ≡ q.kind
  kind_at q true = refl
  kind_at q false = refl

  set_names : (q : Queue) → (set_each q).name ≡ q.name
  set_names q = names_at q (bytes_eq q.name name)

  set_kinds : (q : Queue) → (set_each q).kind ≡ q.kind
  set_kinds q = kind_at q (bytes_eq q.name name)

  set_executes : (kind : JobKind) (n : List ℕ) → IsExecutionQueue kind s.queues n → IsExecutionQueue kind (map set_each s.queues) n
  set_executes kind n h = mapped set_each set_names (λ (q : Queue). q.kind ≡ execution_kind kind) (λ q k. set_kinds q ∙ k) n s.queues h

  abbrev set_system : System
  set_system = of_queues s (map set_each s.queues)

  set_at : (q : Queue) (b : Bool) → bytes_eq q.name name ≡ b → is_bad_change change ≡ false → (bytes_eq q.name name ≡ true → change_refusal s q.kind change ≡ None) → IsSoundQueue s q
      → IsSoundQueue set_system (cond b (record (with_change s change q) { state = state q }) q)
  set_at q true is fine clear h =
      let settings = settings_change s change q fine (clear is) (record { mounted = h.mounted; characteristics = h.characteristics; limit = h.limit; sizes = h.sizes }) in
      record {
        name = h.name;
        placed = placed_set s change (state q) s.nodes s.queues (map set_each s.queues) q (is_generic q.kind) (λ i d within k. set_executes (job_kind q.kind) _ k) h.placed;
        mounted = settings.mounted;
        characteristics = settings.characteristics;
        limit = settings.limit;
        sizes = settings.sizes;
      }
  set_at q false is fine clear h = record {
    name = h.name;
    placed = placed_still s.nodes s.queues (map set_each s.queues) q (is_generic q.kind) (λ i d within k. set_executes (job_kind q.kind) _ k) h.placed;
    mounted = h.mounted;
    characteristics = h.characteristics;
    limit = h.limit;
    sizes = h.sizes;
  }

  set_home : (x : Entry) → IsEntry s x → HasQueues (map set_each s.queues) x
  set_home x h = (
    mapped set_each set_names (λ (q : Queue). job_kind q.kind ≡ x.kind) (λ q k. ap job_kind (set_kinds q) ∙ k) x.home s.queues h.home,
    if_some_more (IsExecutionQueue x.kind s.queues) (IsExecutionQueue x.kind (map set_each s.queues)) (runs_in x.state) (λ n is k. set_executes x.kind n k) h.queue,
  )

  apart_names : (qs : List Queue) → Pairs (λ (a b : Queue). name_cmp a.name b.name ≡ Less) qs → Pairs (λ (a b : Queue). bytes_eq a.name name ≡ true → bytes_eq b.name name ≡ true → ⊥) qs
  apart_names [] h = tt
  apart_names (q ∷ qs) h = (
    All-weaker (λ (p : Queue). name_cmp q.name p.name ≡ Less) (λ (p : Queue). bytes_eq q.name name ≡ true → bytes_eq p.name name ≡ true → ⊥)
        (λ p k is also. name_not_below q.name p.name ((bytes_eq-Decides q.name name).0 is ∙ sym ((bytes_eq-Decides p.name name).0 also)) k) qs h.0,
    apart_names qs h.1,
  )

  pub set_sound : IsSound s → set_queue_refusal s name change ≡ None → IsSound (record s { queues = with_queue name (λ q. record (with_change s change q) { state = state q }) s.queues })
  set_sound h clear =
      let missing : Option Refusal = refused_where (is_none (queue_named name s.queues)) (NoSuchQueue name) in
      let bad : Option Refusal = refused_where (is_bad_change change) BadValue in
      let wrong : Option Refusal = option_and_then (λ (q : Queue). change_refusal s q.kind change) (queue_named name s.queues) in
      let r1 = none_first missing (bad ∷ wrong ∷ []) clear in
      let r2 = none_first bad (wrong ∷ []) r1.1 in
      let r3 = none_first wrong [] r2.1 in
      let fine = not_refused (is_bad_change change) BadValue r2.0 in
      let order = pairs_of (λ (a b : Queue). name_cmp a.name b.name ≡ Less) s.queues h.order in
      let among = all_in s.queues in
      queues_change s (map set_each s.queues) h
      (rw (same_length set_each s.queues) h.few)
      (All-map (IsSoundQueue set_system) set_each s.queues (λ i d within.
      set_at (get_or s.queues i d) (bytes_eq (get_or s.queues i d).name name) refl fine
      (λ is. let found = found_only (named name) (get_or s.queues i d) s.queues (apart_names s.queues order) (among i d within) is in
      subst (λ (o : Option Queue). option_and_then (λ (q : Queue). change_refusal s q.kind change) o ≡ None) found r3.0)
      (h.queues i d within)))
      (all_pairs_of (λ (a b : Queue). name_cmp a.name b.name ≡ Less) (map set_each s.queues) (order_mapped set_each set_names s.queues order))
      (All-weaker (IsEntry s) (HasQueues (map set_each s.queues)) set_home s.entries h.entries.each)
