-- Dropping a file, moving and changing waiting jobs, and stopping a queue leave a sound system.
use Rattle.std.proofs.Common.{◌≡◌, ℕ, ◌≤◌, Bool, true, false, cond, not, List, [], ◌∷◌, length, refl, sym, ◌∙◌, ap, subst, arith, Option, None, Some, All, find, filter, map, is_none, IfSome, IsSome, bytes_eq, Less}
use Rattle.std.specs.Option.{option_map_or}
use Rattle.std.proofs.lemmas.List.Elements.{All-cons, All-nil, All-filter}
use Rattle.std.proofs.lemmas.List.Filters.{length-filter_both, sum_by-filter_both}
use Rattle.std.proofs.lemmas.List.Kept.{AllPairs-filter}
use Rattle.std.proofs.lemmas.Slice.Eq.{bytes_eq-Decides}
use Rattle.qm_model.specs.Common.{Entry, JobKind, File, FileName, Queue, QueueState, Refusal, StopMode, Pause, Next, Reset, System, same_file_name, file_named, file_name_cmp, queue_named, IsEntry, run_of, is_waiting, job_kind, is_same_kind, is_other_kind, refused_where, refused_as_named, with_queue, state_on_stop, is_running_in, reset_fate, with_fate, reset_in, entries_on_stop, stopped_queue, queue_stopped}
use Rattle.qm_kinds.specs.declared.entry.JobKind.TheVariants as job
use Rattle.qm_kinds.specs.declared.refusal.Refusal.TheVariants.{NoSuchFile, NoSuchQueue, WrongKind}
use Rattle.qm_model.specs.Filing.{drop_refusal, dropped}
use Rattle.qm_model.specs.Merging.{waits_in, are_of_two_kinds, merge_refusal, moved_to, merged}
use Rattle.qm_model.proofs.SettlingLemmas.{and_right}
use Rattle.qm_model.proofs.ListLemmas.{Becomes, none, turned}
use Rattle.qm_model.proofs.SoundLemmas.{AreApart, apart_at}
use Rattle.qm_model.proofs.ChangeLemmas.{IsSound, sound_of_files, entries_become, of_entries, Calmer, itself, entries_calm, restated, states_change}
use Rattle.qm_model.proofs.RefusalLemmas.{no_map, none_first, not_refused, is_there}
use Rattle.qm_model.proofs.FileLemmas.{same_name}

-- ---- a file that no entry names goes

not_named_at : (name : FileName) (e : Entry) (es : List Entry) (b : Bool) → same_file_name e.file name ≡ b → cond b (Some e) (find (λ x. same_file_name x.file name) es) ≡ None
    → (find (λ x. same_file_name x.file name) es ≡ None → All (λ (x : Entry). same_file_name x.file name ≡ false) es) → All (λ (x : Entry). same_file_name x.file name ≡ false) (e ∷ es)
not_named_at name e es true is h later = cc
not_named_at name e es false is h later = All-cons (λ (x : Entry). same_file_name x.file name ≡ false) e es is (later h)

not_named : (name : FileName) (es : List Entry) → find (λ x. same_file_name x.file name) es ≡ None → All (λ (x : Entry). same_file_name x.file name ≡ false) es
not_named name [] h = All-nil (λ (x : Entry). same_file_name x.file name ≡ false)
not_named name (e ∷ es) h = not_named_at name e es (same_file_name e.file name) refl h (not_named name es)

kept_file_at : (n name : FileName) (f : File) (fs : List File) (b c : Bool) → same_file_name f.name name ≡ b → same_file_name f.name n ≡ c → same_file_name n name ≡ false
    → (IsSome (file_named n fs) → IsSome (file_named n (filter (λ (g : File). not (same_file_name g.name name)) fs)))
    → IsSome (cond c (Some f) (file_named n fs)) → IsSome (file_named n (cond (not b) (f ∷ filter (λ (g : File). not (same_file_name g.name name)) fs) (filter (λ (g : File). not (same_file_name g.name name)) fs)))
kept_file_at n name f fs true true is also other later h =
    let it : same_file_name n name ≡ true = subst (λ (m : FileName). same_file_name m name ≡ true) (same_name f.name n also) is in cc
kept_file_at n name f fs true false is also other later h = later h
kept_file_at n name f fs false true is also other later h = subst (λ b. IsSome (cond b (Some f) (file_named n (filter (λ (g : File). not (same_file_name g.name name)) fs)))) (sym also) refl
kept_file_at n name f fs false false is also other later h = subst (λ b. IsSome (cond b (Some f) (file_named n (filter (λ (g : File). not (same_file_name g.name name)) fs)))) (sym also) (later h)

kept_file : (n name : FileName) (fs : List File) → same_file_name n name ≡ false → IsSome (file_named n fs) → IsSome (file_named n (filter (λ (g : File). not (same_file_name g.name name)) fs))
kept_file n name [] other h = cc
kept_file n name (f ∷ fs) other h = kept_file_at n name f fs (same_file_name f.name name) (same_file_name f.name n) refl refl other (kept_file n name fs other) h

not_not : (b : Bool) → b ≡ not (not b)
not_not true = refl
not_not false = refl

pub dropped_sound : (before s : System) (name : FileName) → IsSound s → drop_refusal before name ≡ None
    → (All (λ (x : Entry). same_file_name x.file name ≡ false) before.entries → All (λ (x : Entry). same_file_name x.file name ≡ false) s.entries) → IsSound (dropped s name).system
dropped_sound before s name h clear keeps =
    let r1 = none_first (refused_where (is_none (file_named name before.files)) NoSuchFile) (refused_as_named name before.entries ∷ []) clear in
    let r2 = none_first (refused_as_named name before.entries) [] r1.1 in
    let unnamed = keeps (not_named name before.entries (no_map _ (find (λ (x : Entry). same_file_name x.file name) before.entries) r2.0)) in
    let p : File → Bool = λ g. not (same_file_name g.name name) in
    let q : File → Bool = λ g. same_file_name g.name name in
    let fs : List File = filter p s.files in
    let long = length-filter_both p q (λ g. not_not (same_file_name g.name name)) s.files in
    let size = sum_by-filter_both p q (λ g. not_not (same_file_name g.name name)) (λ (g : File). length g.bytes) s.files in
    sound_of_files s fs h
    (record {
      few = omega (arith, long, h.files.few);
      each = All-filter p (λ (g : File). length g.bytes ≤ 1048576) s.files h.files.each;
      total = omega (arith, size, h.files.total);
      order = AllPairs-filter (λ (a b : File). file_name_cmp a.name b.name ≡ Less) p s.files h.files.order;
    })
    (λ i d within. kept_file _ name s.files (unnamed i d within) (h.entries.each i d within).file)

-- ---- entries that keep their numbers and runs

pub record Same (x y : Entry) : Type 0 where
  pub number : y.number ≡ x.number
  pub run : run_of y.state ≡ run_of x.state

module _ (s : System) (es : List Entry) (R : Entry → Entry → Type 0) where
  same_apart : ((x y : Entry) → R x y → Same x y) → (x y u v : Entry) → R x y → R u v → AreApart x u → AreApart y v
  same_apart same x y u v r q h =
      apart_at x.number y.number u.number v.number (run_of x.state) (run_of y.state) (run_of u.state) (run_of v.state)
      (sym (same x y r).number) (sym (same u v q).number) (sym (same x y r).run) (sym (same u v q).run) h

  pub entries_turn : IsSound s → ((x y : Entry) → R x y → Same x y) → ((x y : Entry) → R x y → IsEntry s x → IsEntry (of_entries s es) y)
      → Becomes (λ (x : Entry). Unit {0}) R s.entries es → IsSound (of_entries s es)
  entries_turn h same each b = entries_become s es R h (same_apart same) each b

each_turned : (R : Entry → Entry → Type 0) (f : Entry → Entry) → ((x : Entry) → R x (f x)) → (xs : List Entry) → Becomes (λ (x : Entry). Unit {0}) R xs (map f xs)
each_turned R f h [] = none
each_turned R f h (x ∷ xs) = turned (h x) (each_turned R f h xs)

-- ---- waiting jobs are moved

same_kinds : (a b : JobKind) → not (is_same_kind a b) ≡ false → a ≡ b
same_kinds job.Batch job.Batch h = refl
same_kinds job.Batch job.Print h = cc
same_kinds job.Print job.Batch h = cc
same_kinds job.Print job.Print h = refl

kinds_agree : (o p : Option Queue) → IsSome o → IsSome p → option_map_or (λ q. option_map_or (is_other_kind (job_kind q.kind)) p false) o false ≡ false → (kind : JobKind)
    → IfSome p (λ q. job_kind q.kind ≡ kind) → IfSome o (λ q. job_kind q.kind ≡ kind)
kinds_agree None p there also h kind k = tt
kinds_agree (Some q) None there also h kind k = cc
kinds_agree (Some q) (Some r) there also h kind k = same_kinds (job_kind q.kind) (job_kind r.kind) h ∙ k

module _ (s : System) (to from : List ℕ) (to_there : IsSome (queue_named to s.queues)) (from_there : IsSome (queue_named from s.queues)) (alike : are_of_two_kinds s to from ≡ false) where
  moved_at : (x : Entry) (b : Bool) → waits_in from x ≡ b → IsEntry s x → IsEntry (of_entries s (map (moved_to to from) s.entries)) (cond b (record x { home = to }) x)
  moved_at x true is h = record {
    number = h.number;
    home = (
      to_there,
      kinds_agree (queue_named to s.queues) (queue_named from s.queues) to_there from_there alike x.kind
          (subst (λ (n : List ℕ). IfSome (queue_named n s.queues) (λ q. job_kind q.kind ≡ x.kind)) ((bytes_eq-Decides x.home from).0 (and_right (is_waiting x.state) (bytes_eq x.home from) is)) h.home.1),
    );
    file = h.file;
    form = h.form;
    characteristics = h.characteristics;
    queue = h.queue;
    node = h.node;
    run = h.run;
  }
  moved_at x false is h = record { number = h.number; home = h.home; file = h.file; form = h.form; characteristics = h.characteristics; queue = h.queue; node = h.node; run = h.run }

  Moved : Entry → Entry → Type 0
  Moved x y = y ≡ moved_to to from x

  same_at : (x : Entry) (b : Bool) → Same x (cond b (record x { home = to }) x)
  same_at x true = record { number = refl; run = refl }
  same_at x false = record { number = refl; run = refl }

  pub moved_sound : IsSound s → IsSound (record s { entries = map (moved_to to from) s.entries })
  unfolding Moved
  moved_sound h =
      entries_turn s (map (moved_to to from) s.entries) Moved h
      (λ x y is. subst (λ z. Same x z) (sym is) (same_at x (waits_in from x)))
      (λ x y is k. subst (λ z. IsEntry (of_entries s (map (moved_to to from) s.entries)) z) (sym is) (moved_at x (waits_in from x) refl k))
      (each_turned Moved (moved_to to from) (λ x. refl) s.entries)

pub merged_sound : (before s : System) (to from : List ℕ) → IsSound s → s.queues ≡ before.queues → merge_refusal before to from ≡ None → IsSound (merged s to from).system
merged_sound before s to from h same clear =
    let no_to : Option Refusal = refused_where (is_none (queue_named to before.queues)) (NoSuchQueue to) in
    let no_from : Option Refusal = refused_where (is_none (queue_named from before.queues)) (NoSuchQueue from) in
    let wrong : Option Refusal = refused_where (are_of_two_kinds before to from) WrongKind in
    let r1 = none_first no_to (no_from ∷ wrong ∷ []) clear in
    let r2 = none_first no_from (wrong ∷ []) r1.1 in
    let r3 = none_first wrong [] r2.1 in
    let to_there : IsSome (queue_named to before.queues) = is_there (queue_named to before.queues) (not_refused (is_none (queue_named to before.queues)) (NoSuchQueue to) r1.0) in
    let from_there : IsSome (queue_named from before.queues) = is_there (queue_named from before.queues) (not_refused (is_none (queue_named from before.queues)) (NoSuchQueue from) r2.0) in
    let alike : are_of_two_kinds before to from ≡ false = not_refused (are_of_two_kinds before to from) WrongKind r3.0 in
    moved_sound s to from
    (subst (λ (qs : List Queue). IsSome (queue_named to qs)) (sym same) to_there)
    (subst (λ (qs : List Queue). IsSome (queue_named from qs)) (sym same) from_there)
    (subst (λ (qs : List Queue). option_map_or (λ p. option_map_or (is_other_kind (job_kind p.kind)) (queue_named from qs) false) (queue_named to qs) false ≡ false) (sym same) alike)
    h

-- ---- a queue is stopped

fate_state : (x : Entry) (b : Bool) → ((f : Entry) → Calmer x f → Calmer x f) → Calmer x (with_fate (reset_fate x) x) → Calmer x (cond b (with_fate (reset_fate x) x) x)
fate_state x true id h = h
fate_state x false id h = itself x

stop_calms : (how : StopMode) (name : List ℕ) (xs : List Entry) → ((x : Entry) → Calmer x (with_fate (reset_fate x) x)) → Becomes (λ (x : Entry). Unit {0}) Calmer xs (entries_on_stop how name xs)
stop_calms Pause name xs h = each_itself xs
  where
    each_itself : (xs : List Entry) → Becomes (λ (x : Entry). Unit {0}) Calmer xs xs
    each_itself [] = none
    each_itself (x ∷ xs) = turned (itself x) (each_itself xs)
stop_calms Next name xs h = each_itself xs
  where
    each_itself : (xs : List Entry) → Becomes (λ (x : Entry). Unit {0}) Calmer xs xs
    each_itself [] = none
    each_itself (x ∷ xs) = turned (itself x) (each_itself xs)
stop_calms Reset name xs h = each_turned Calmer (reset_in name) (λ x. fate_state x (is_running_in name x.state) (λ f k. k) (h x)) xs

abbrev stop_state : List ℕ → StopMode → Queue → QueueState
stop_state name how q = cond (bytes_eq q.name name) (state_on_stop how q.state) q.state

stopped_at : (how : StopMode) (q : Queue) (b : Bool) → cond b (stopped_queue how q) q ≡ record q { state = cond b (state_on_stop how q.state) q.state }
stopped_at how q true = refl
stopped_at how q false = refl

stopped_all : (how : StopMode) (name : List ℕ) (qs : List Queue) → with_queue name (stopped_queue how) qs ≡ map (restated (stop_state name how)) qs
stopped_all how name [] = refl
stopped_all how name (q ∷ qs) =
    ap (λ (p : Queue). p ∷ with_queue name (stopped_queue how) qs) (stopped_at how q (bytes_eq q.name name)) ∙ ap (λ (ps : List Queue). restated (stop_state name how) q ∷ ps) (stopped_all how name qs)

pub stopped_sound : (s : System) (name : List ℕ) (how : StopMode) → IsSound s → ((x : Entry) → Calmer x (with_fate (reset_fate x) x)) → IsSound (queue_stopped s name how).system
stopped_sound s name how h fates =
    let t : System = record s { queues = map (restated (stop_state name how)) s.queues } in
    let es = entries_on_stop how name s.entries in
    let sound : IsSound (record t { entries = es }) = entries_calm t es (states_change s (stop_state name how) h) (stop_calms how name s.entries fates) in
    subst (λ (qs : List Queue). IsSound (record s { queues = qs; entries = es })) (sym (stopped_all how name s.queues)) sound
