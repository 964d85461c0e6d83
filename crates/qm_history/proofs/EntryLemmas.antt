-- Entries stay until they are ended or deleted.
use Rattle.std.proofs.Common.{◌≡◌, ℕ, inl, inr, Bool, true, false, cond, not, ◌&&◌, ◌||◌, List, [], ◌∷◌, ◌++◌, map, filter, refl, sym, ◌∙◌, ap, subst, arith, Option, None, Some, Ok, Err, find, ◌==◌, IfSome, IsOk, Result, filter_map, option_to_list, is_some, bytes_eq}
use Rattle.std.specs.List.{AllByRecursion, cons_option}
use Rattle.std.specs.Option.{option_map_or}
use Rattle.std.proofs.lemmas.Bool.Decides.{nat_tests}
use Rattle.qm_kinds.specs.declared.entry.Entry.{Entry}
use Rattle.qm_history.specs.Common.{EntryState, Fate, Record, Body, Refusal, EntryChange, Job, Request, StopMode, System, applied, at_moment, change_of, completed, first_refusal_of, changed_entry, entry_set_to, entry_numbered, is_among, interrupted, after_loss, Accepted, unless_refused, replied, settled, as_pending, stopped_when_idle, entries_on_stop, with_fate, reset_in, reset_fate, is_running_in, entry_aborting, entry_of, AreNext, CanStandBehind, after_body, after_record, replayed, system_after}
use Rattle.qm_kinds.specs.declared.entry.EntryState.TheVariants as state
use Rattle.qm_kinds.specs.declared.entry.Fate.TheVariants as fate
use Rattle.qm_kinds.specs.declared.queue.Queue.{Queue}
use Rattle.qm_kinds.specs.declared.record.Body.TheVariants as body
use Rattle.qm_kinds.specs.declared.reply.Act.TheVariants.{EntryIs, EntryDeleted, Submitted}
use Rattle.qm_kinds.specs.declared.request.Request.TheVariants as request
use Rattle.qm_kinds.specs.declared.request.StopMode.TheVariants as stop
use Rattle.qm_model.specs.Due.{due, entry_at, state_at, is_over}
use Rattle.qm_model.specs.JobStates.{fate_of, is_aborting, runs_on}
use Rattle.qm_model.specs.Ending.{fated}
use Rattle.qm_model.specs.Merging.{moved_to, waits_in}
use Rattle.qm_model.specs.Runs.{MarkReport, EndReport, entry_of_run, after_report, report_act, reported_of}
use Rattle.qm_model.specs.Standing.{with_entry, node_at, is_executing}
use Rattle.qm_history.specs.Marks.{HasEntry, finds_aborting, names_entry, is_run_on_one, can_end, ends_at, LeavesEntry, LeaveEntry}

both_numbers : (a b : ℕ) → (a == b) ≡ true → a ≡ b
both_numbers a b h = grind (arith, nat_tests)

equal_numbers : (a b : ℕ) → a ≡ b → (a == b) ≡ true
equal_numbers a b h = grind (arith, nat_tests)

module _ (number : ℕ) where
  -- what becomes of an entry has the number
  abbrev IsKept : Option Entry → Type 0
  IsKept o = (x : Entry) × (o ≡ Some x) × (x.number ≡ number)

  -- something holds of the entry of the number
  abbrev Of : (Entry → Type 0) → List Entry → Type 0
  Of P entries = AllByRecursion (λ (e : Entry). e.number ≡ number → P e) entries

  has_front : (xs ys : List Entry) → HasEntry number xs → HasEntry number (xs ++ ys)
  has_front [] ys h = absurd h
  has_front (x ∷ xs) ys (inl is) = inl is
  has_front (x ∷ xs) ys (inr h) = inr (has_front xs ys h)

  has_behind : (xs ys : List Entry) → HasEntry number ys → HasEntry number (xs ++ ys)
  has_behind [] ys h = h
  has_behind (x ∷ xs) ys h = inr (has_behind xs ys h)

  has_map : (f : Entry → Entry) → ((e : Entry) → (f e).number ≡ e.number) → (es : List Entry) → HasEntry number es → HasEntry number (map f es)
  has_map f keeps [] h = absurd h
  has_map f keeps (e ∷ es) (inl is) = inl (keeps e ∙ is)
  has_map f keeps (e ∷ es) (inr h) = inr (has_map f keeps es h)

  filter_other : (b : Bool) (e : Entry) (es : List Entry) → HasEntry number es → HasEntry number (cond b (e ∷ es) es)
  filter_other true e es h = inr h
  filter_other false e es h = h

  has_filter : (p : Entry → Bool) (es : List Entry) → Of (λ e. p e ≡ true) es → HasEntry number es → HasEntry number (filter p es)
  has_filter p [] all h = absurd h
  has_filter p (e ∷ es) all (inl is) = subst (λ b. HasEntry number (cond b (e ∷ filter p es) (filter p es))) (sym (all.0 is)) (inl is)
  has_filter p (e ∷ es) all (inr h) = filter_other (p e) e (filter p es) (has_filter p es all.1 h)

  joined_other : (o : Option Entry) (es : List Entry) → HasEntry number es → HasEntry number (cons_option o es)
  joined_other None es h = h
  joined_other (Some e) es h = inr h

  joined_here : (o : Option Entry) (es : List Entry) → IsKept o → HasEntry number (cons_option o es)
  joined_here o es (x, is, same) = subst (λ y. HasEntry number (cons_option y es)) (sym is) (inl same)

  has_filter_map : (f : Entry → Option Entry) (es : List Entry) → Of (λ e. IsKept (f e)) es → HasEntry number es → HasEntry number (filter_map f es)
  has_filter_map f [] all h = absurd h
  has_filter_map f (e ∷ es) all (inl is) = joined_here (f e) (filter_map f es) (all.0 is)
  has_filter_map f (e ∷ es) all (inr h) = joined_other (f e) (filter_map f es) (has_filter_map f es all.1 h)

  with_here : (k : ℕ) (outcome : Entry → Option Entry) (e : Entry) (b : Bool) → (e.number == k) ≡ b → e.number ≡ number → ((e.number == k) ≡ true → IsKept (outcome e))
      → HasEntry number (cond b (option_to_list (outcome e)) (e ∷ []))
  with_here k outcome e false is same kept = inl same
  with_here k outcome e true is same kept = let one = kept is in subst (λ o. HasEntry number (option_to_list o)) (sym one.1) (inl one.2)

  has_with : (k : ℕ) (outcome : Entry → Option Entry) (es : List Entry) → Of (λ e. (e.number == k) ≡ true → IsKept (outcome e)) es → HasEntry number es → HasEntry number (with_entry k outcome es)
  has_with k outcome [] all h = absurd h
  has_with k outcome (e ∷ es) all (inl is) =
      has_front (cond (e.number == k) (option_to_list (outcome e)) (e ∷ [])) (with_entry k outcome es) (with_here k outcome e (e.number == k) refl is (all.0 is))
  has_with k outcome (e ∷ es) all (inr h) =
      has_behind (cond (e.number == k) (option_to_list (outcome e)) (e ∷ [])) (with_entry k outcome es) (has_with k outcome es all.1 h)

  has_pending : (xs ys : List Entry) → map as_pending xs ≡ map as_pending ys → HasEntry number ys → HasEntry number xs
  has_pending xs [] same h = absurd h
  has_pending [] (y ∷ ys) same h = cc
  has_pending (x ∷ xs) (y ∷ ys) same (inl is) = let one : as_pending x ≡ as_pending y = cc in inl (ap (λ (e : Entry). e.number) one ∙ is)
  has_pending (x ∷ xs) (y ∷ ys) same (inr h) = let others : map as_pending xs ≡ map as_pending ys = cc in inr (has_pending xs ys others h)

  -- another thing holds where one does
  of_each : (P R : Entry → Type 0) → ((e : Entry) → e.number ≡ number → P e → R e) → (es : List Entry) → Of P es → Of R es
  of_each P R each [] all = tt
  of_each P R each (e ∷ es) all = ((λ is. each e is (all.0 is)), of_each P R each es all.1)

  of_all : (R : Entry → Type 0) → ((e : Entry) → e.number ≡ number → R e) → (es : List Entry) → Of R es
  of_all R each [] = tt
  of_all R each (e ∷ es) = (each e, of_all R each es)

  -- ---- what keeps an entry

  numbers_at : (b : Bool) (x e : Entry) → x.number ≡ e.number → (cond b x e).number ≡ e.number
  numbers_at true x e same = same
  numbers_at false x e same = refl

  has_stop : (how : StopMode) (name : List ℕ) (es : List Entry) → HasEntry number es → HasEntry number (entries_on_stop how name es)
  has_stop stop.Pause name es h = h
  has_stop stop.Next name es h = h
  has_stop stop.Reset name es h = has_map (reset_in name) (λ e. numbers_at (is_running_in name e.state) (with_fate (reset_fate e) e) e refl) es h

  has_aborting : (s : System) (f : Fate) (k : ℕ) → HasEntry number s.entries → HasEntry number (entry_aborting s f k).system.entries
  has_aborting s f k h = has_with k (λ (e : Entry). Some (with_fate f e)) s.entries (of_all (λ e. (e.number == k) ≡ true → IsKept (Some (with_fate f e))) (λ e is at. (with_fate f e, refl, is)) s.entries) h

  has_set : (s : System) (now k : ℕ) (change : EntryChange) (o : Option Entry) → IfSome o (λ (e : Entry). (e.number == k) ≡ true) → HasEntry number s.entries
      → HasEntry number (option_map_or (λ (e : Entry). entry_set_to s k (changed_entry s now change e)) o (replied s (EntryIs k state.Pending))).system.entries
  has_set s now k change None found h = h
  has_set s now k change (Some x) found h =
      has_with k (λ (e : Entry). Some (changed_entry s now change x)) s.entries
      (of_all (λ e. (e.number == k) ≡ true → IsKept (Some (changed_entry s now change x)))
      (λ e is at. (changed_entry s now change x, refl, both_numbers x.number k found ∙ sym (both_numbers e.number k at) ∙ is)) s.entries) h

  has_deleted : (s : System) (k : ℕ) (b : Bool) → Of (λ e. (e.number == k) ≡ false) s.entries → HasEntry number s.entries
      → HasEntry number (cond b (entry_aborting s fate.Remove k) (replied (record s { entries = with_entry k (λ e. None) s.entries }) (EntryDeleted k))).system.entries
  has_deleted s k true other h = has_aborting s fate.Remove k h
  has_deleted s k false other h =
      has_with k (λ (e : Entry). None) s.entries (of_each (λ e. (e.number == k) ≡ false) (λ e. (e.number == k) ≡ true → IsKept None) (λ e is no at. cc) s.entries other) h

  mark_kept : (queues : List Queue) (now : ℕ) (value : List ℕ) (x : Entry) (f : Option Fate) → is_some f ≡ false → x.number ≡ number → IsKept (after_report queues now (MarkReport value) f x)
  mark_kept queues now value x None none same = (record x { mark = value }, refl, same)
  mark_kept queues now value x (Some f) none same = cc

  left_test : (a b : Bool) → (a && b) ≡ false → a ≡ true → b ≡ false
  left_test true b both is = both
  left_test false b both is = cc

  has_mark : (s : System) (now run : ℕ) (value : List ℕ) (o : Option Entry) → Of (λ e. finds_aborting e.number o ≡ false) s.entries → HasEntry number s.entries
      → HasEntry number (option_map_or (reported_of s now run (MarkReport value)) o (replied s (report_act run (MarkReport value) None None))).system.entries
  has_mark s now run value None none h = h
  has_mark s now run value (Some x) none h =
      has_with x.number (λ (e : Entry). after_report s.queues now (MarkReport value) (fate_of x.state) x) s.entries
      (of_each (λ e. finds_aborting e.number (Some x) ≡ false) (λ e. (e.number == x.number) ≡ true → IsKept (after_report s.queues now (MarkReport value) (fate_of x.state) x))
      (λ e is quiet at.
      let same : x.number ≡ e.number = sym (both_numbers e.number x.number at) in
      mark_kept s.queues now value x (fate_of x.state) (left_test (x.number == e.number) (is_aborting x.state) quiet (equal_numbers x.number e.number same)) (same ∙ is))
      s.entries none) h

  has_done : (s : System) (now run status : ℕ) (o : Option Entry) → Of (λ e. names_entry e.number o ≡ false) s.entries → HasEntry number s.entries
      → HasEntry number (option_map_or (reported_of s now run (EndReport status)) o (replied s (report_act run (EndReport status) None None))).system.entries
  has_done s now run status None none h = h
  has_done s now run status (Some x) none h =
      has_with x.number (λ (e : Entry). after_report s.queues now (EndReport status) (fate_of x.state) x) s.entries
      (of_each (λ e. names_entry e.number (Some x) ≡ false) (λ e. (e.number == x.number) ≡ true → IsKept (after_report s.queues now (EndReport status) (fate_of x.state) x))
      (λ e is other at. let same : (x.number == e.number) ≡ true = equal_numbers x.number e.number (sym (both_numbers e.number x.number at)) in cc)
      s.entries none) h

  loss_kept : (queues : List Queue) (now : ℕ) (lost : List (List ℕ)) (st : EntryState) (e : Entry) → option_map_or (is_among lost) (runs_on st) false ≡ false → e.number ≡ number
      → IsKept (after_loss queues now lost st e)
  loss_kept queues now lost (state.Running queue node run) e none is = (e, ap (λ b. cond b (interrupted queues now e) (Some e)) none, is)
  loss_kept queues now lost (state.Aborting queue node run f) e none is = (e, ap (λ b. cond b (fated queues now f e) (Some e)) none, is)
  loss_kept queues now lost _ e none is = (e, refl, is)

  has_lost : (s : System) (now : ℕ) (lost : List (List ℕ)) → Of (λ e. is_run_on_one lost e ≡ false) s.entries → HasEntry number s.entries
      → HasEntry number (filter_map (λ (e : Entry). after_loss s.queues now lost e.state e) s.entries)
  has_lost s now lost none h =
      has_filter_map (λ (e : Entry). after_loss s.queues now lost e.state e) s.entries
      (of_each (λ e. is_run_on_one lost e ≡ false) (λ e. IsKept (after_loss s.queues now lost e.state e)) (λ e is quiet. loss_kept s.queues now lost e.state e quiet is) s.entries none) h

  -- ---- what the moment finds

  found_test_at : (p : Entry → Bool) (e : Entry) (rest : Option Entry) (b : Bool) → p e ≡ b → IfSome rest (λ (x : Entry). p x ≡ true) → IfSome (cond b (Some e) rest) (λ (x : Entry). p x ≡ true)
  found_test_at p e rest true is there = is
  found_test_at p e rest false is there = there

  found_test : (p : Entry → Bool) (es : List Entry) → IfSome (find p es) (λ (x : Entry). p x ≡ true)
  found_test p [] = tt
  found_test p (e ∷ es) = found_test_at p e (find p es) (p e) refl (found_test p es)

  timed_runs_nowhere : (b : Bool) (at : ℕ) → runs_on (cond b state.Pending (state.Timed at)) ≡ None
  timed_runs_nowhere true at = refl
  timed_runs_nowhere false at = refl

  runs_on_at : (now : ℕ) (st : EntryState) → runs_on (state_at now st) ≡ runs_on st
  runs_on_at now (state.Timed at) = timed_runs_nowhere _ at
  runs_on_at now _ = refl

  module _ (s : System) (now node : ℕ) where
    abbrev found : System
    found = due now (at_moment now s)

    abbrev name : List ℕ
    name = node_at node s.nodes

    same_end : (asked : Request) (e : Entry) → can_end s now node asked (entry_at now e) ≡ can_end s now node asked e
    same_end (request.NodeLost nodes) e = ap (λ o. option_map_or (is_among nodes) o false) (runs_on_at now e.state)
    same_end (request.Took epoch gone up may) e = ap (λ o. option_map_or (is_among gone) o false) (runs_on_at now e.state)
    same_end _ e = refl

    of_map : (P R : Entry → Type 0) → ((e : Entry) → P e → R (entry_at now e)) → (es : List Entry) → Of P es → Of R (map (entry_at now) es)
    of_map P R each [] all = tt
    of_map P R each (e ∷ es) all = ((λ is. each e (all.0 is)), of_map P R each es all.1)

    of_filter_at : (P : Entry → Type 0) (b : Bool) (e : Entry) (es : List Entry) → (e.number ≡ number → P e) → Of P es → Of P (cond b (e ∷ es) es)
    of_filter_at P true e es here there = (here, there)
    of_filter_at P false e es here there = there

    of_filter : (P : Entry → Type 0) (p : Entry → Bool) (es : List Entry) → Of P es → Of P (filter p es)
    of_filter P p [] all = tt
    of_filter P p (e ∷ es) all = of_filter_at P (p e) e (filter p es) all.0 (of_filter P p es all.1)

    first_false : (a b : Bool) → (a || b) ≡ false → not a ≡ true
    first_false true b h = cc
    first_false false b h = refl

    second_false : (a b : Bool) → (a || b) ≡ false → b ≡ false
    second_false true b h = cc
    second_false false b h = h

    abbrev Leaves : Request → List Entry → Type 0
    Leaves asked entries = Of (λ e. can_end s now node asked e ≡ false) entries

    still_leaves : (asked : Request) → Of (λ e. ends_at s now node asked e ≡ false) s.entries → Leaves asked found.entries
    still_leaves asked all =
        of_map (λ e. ends_at s now node asked e ≡ false) (λ e. can_end s now node asked e ≡ false)
        (λ e quiet. same_end asked e ∙ second_false (is_over now e.state) (can_end s now node asked e) quiet)
        (filter (λ e. not (is_over now e.state)) s.entries) (of_filter (λ e. ends_at s now node asked e ≡ false) (λ e. not (is_over now e.state)) s.entries all)

    still_there : (asked : Request) → Of (λ e. ends_at s now node asked e ≡ false) s.entries → HasEntry number s.entries → HasEntry number found.entries
    still_there asked all h =
        has_map (entry_at now) (λ e. refl) (filter (λ e. not (is_over now e.state)) s.entries)
        (has_filter (λ e. not (is_over now e.state)) s.entries
        (of_each (λ e. ends_at s now node asked e ≡ false) (λ e. not (is_over now e.state) ≡ true) (λ e is quiet. first_false (is_over now e.state) (can_end s now node asked e) quiet) s.entries all) h)

    -- ---- each request

    changed : (asked : Request) → Leaves asked found.entries → HasEntry number found.entries → HasEntry number (change_of found now name asked).system.entries
    changed (request.StopQueue queue how) all h = has_stop how queue found.entries h
    changed (request.AbortJob queue entry requeue) all h = has_aborting found _ _ h
    changed (request.DeleteQueue queue) all h =
        has_filter (λ e. not (bytes_eq e.home queue)) found.entries
        (of_each (λ e. bytes_eq e.home queue ≡ false) (λ e. not (bytes_eq e.home queue) ≡ true) (λ e is other. ap not other) found.entries all) h
    changed (request.Merge to from) all h = has_map (moved_to to from) (λ e. numbers_at (waits_in from e) (record e { home = to }) e refl) found.entries h
    changed (request.Submit job) all h = has_front found.entries (entry_of found now job ∷ []) h
    changed (request.SetEntry entry change) all h = has_set found now entry change (entry_numbered entry found.entries) (found_test (λ e. e.number == entry) found.entries) h
    changed (request.DeleteEntry entry) all h = has_deleted found entry (option_map_or is_executing (entry_numbered entry found.entries) false) all h
    changed (request.Mark run value) all h = has_mark found now run value (entry_of_run found name run) all h
    changed (request.Done run status) all h = has_done found now run status (entry_of_run found name run) all h
    changed (request.NodeLost nodes) all h = has_lost found now nodes all h
    changed (request.Took epoch gone up may) all h = has_lost found now gone all h
    changed _ all h = h

accepted_is : (o : Option Refusal) (x a : Accepted) → unless_refused o x ≡ Ok a → x ≡ a
accepted_is None x a h = cc
accepted_is (Some refusal) x a h = cc

module _ (alone : (s : System) → map as_pending (settled s).system.entries ≡ map as_pending s.entries) where
  there_completed : (number : ℕ) (x a : Accepted) → completed x ≡ a → HasEntry number x.system.entries → HasEntry number a.system.entries
  there_completed number x a same h =
      subst (λ (y : Accepted). HasEntry number y.system.entries) same
      (has_pending number (settled (stopped_when_idle x.system)).system.entries x.system.entries (alone (stopped_when_idle x.system)) h)

  pub submitted_there : (s : System) (now node : ℕ) (job : Job) (a : Accepted) → applied s now node (request.Submit job) ≡ Ok a
      → HasEntry s.next_entry a.system.entries × ((st : EntryState) × (a.reply.act ≡ Submitted job.name job.queue s.next_entry st))
  submitted_there s now node job a is =
      let before : System = due now (at_moment now s) in
      let x : Accepted = change_of before now (node_at node s.nodes) (request.Submit job) in
      let same : completed x ≡ a = accepted_is (first_refusal_of s (node_at node s.nodes) (request.Submit job)) (completed x) a is in (
        there_completed s.next_entry x a same (has_behind s.next_entry before.entries (entry_of before now job ∷ []) (inl refl)),
        ((entry_of before now job).state, ap (λ (y : Accepted). y.reply.act) (sym same)),
      )

  pub there_after_request : (s : System) (now node : ℕ) (asked : Request) (a : Accepted) (number : ℕ) → HasEntry number s.entries → LeavesEntry number s now node (body.Ask asked) → applied s now node asked ≡ Ok a
      → HasEntry number a.system.entries
  there_after_request s now node asked a number h all is =
      let x : Accepted = change_of (due now (at_moment now s)) now (node_at node s.nodes) asked in
      let same : completed x ≡ a = accepted_is (first_refusal_of s (node_at node s.nodes) asked) (completed x) a is in
      there_completed number x a same (changed number s now node asked (still_leaves number s now node asked all) (still_there number s now node asked all h))

  there_after_ok : (s : System) (now node : ℕ) (asked : Request) (number : ℕ) → HasEntry number s.entries → LeavesEntry number s now node (body.Ask asked) → (res : Result Accepted Refusal)
      → applied s now node asked ≡ res → IsOk res → HasEntry number (system_after s res).entries
  there_after_ok s now node asked number h all (Ok a) is ok = there_after_request s now node asked a number h all is
  there_after_ok s now node asked number h all (Err refusal) is ok = cc

  there_after_body : (s : System) (now node : ℕ) (b : Body) (number : ℕ) → CanStandBehind s now node b → HasEntry number s.entries → LeavesEntry number s now node b
      → HasEntry number (after_body s now node b).entries
  there_after_body s now node (body.Ask asked) number can h all = there_after_ok s now node asked number h all (applied s now node asked) refl can.accepted
  there_after_body s now node _ number can h all = absurd can

  pub there_after_records : (s : System) (records : List Record) (number : ℕ) → AreNext s records → HasEntry number s.entries → LeaveEntry number s records
      → HasEntry number (replayed s records).entries
  there_after_records s [] number next h leave = h
  there_after_records s (r ∷ records) number next h leave =
      there_after_records (after_record s r) records number next.1 (there_after_body s r.moment r.node r.body number next.0 h leave.0) leave.1
