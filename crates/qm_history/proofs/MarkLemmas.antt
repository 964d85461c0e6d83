-- Marks stay until a checkpoint gives another.
use Rattle.std.proofs.Common.{◌≡◌, ℕ, ◌<◌, All, Bool, true, false, cond, not, ◌&&◌, List, [], ◌∷◌, ◌++◌, map, filter, refl, sym, ◌∙◌, ap, subst, arith, Option, None, Some, Ok, Err, find, ◌==◌, IfSome, IsOk, Result, filter_map, option_to_list, is_some}
use Rattle.std.specs.List.{AllByRecursion, cons_option}
use Rattle.std.specs.Option.{option_map_or}
use Rattle.std.proofs.lemmas.Bool.Decides.{nat_tests}
use Rattle.std.proofs.lemmas.List.Elements.{All-head, All-tail}
use Rattle.qm_kinds.specs.declared.entry.Entry.{Entry}
use Rattle.qm_history.specs.Common.{EntryState, Fate, Record, Body, Refusal, EntryChange, Request, StopMode, System, applied, at_moment, change_of, completed, first_refusal_of, changed_entry, entry_set_to, entry_numbered, is_among, IsLawful, interrupted, after_loss, Accepted, unless_refused, replied, settled, as_pending, stopped_when_idle, entries_on_stop, with_fate, reset_in, reset_fate, is_running_in, entry_aborting, entry_of, AreNext, CanStandBehind, after_body, after_record, replayed, system_after}
use Rattle.qm_kinds.specs.declared.entry.EntryState.TheVariants as state
use Rattle.qm_kinds.specs.declared.entry.Fate.TheVariants as fate
use Rattle.qm_kinds.specs.declared.queue.Queue.{Queue}
use Rattle.qm_kinds.specs.declared.record.Body.TheVariants as body
use Rattle.qm_kinds.specs.declared.reply.Act.TheVariants.{EntryIs, EntryDeleted}
use Rattle.qm_kinds.specs.declared.request.Request.TheVariants as request
use Rattle.qm_kinds.specs.declared.request.StopMode.TheVariants as stop
use Rattle.qm_model.specs.Consistent.{IsConsistent, IsEntry}
use Rattle.qm_model.specs.Due.{due, entry_at, is_over}
use Rattle.qm_model.specs.Ending.{ended, fated, requeued, aborted_status, node_lost_status}
use Rattle.qm_model.specs.JobStates.{fate_of, is_aborting}
use Rattle.qm_model.specs.Merging.{moved_to, waits_in}
use Rattle.qm_model.specs.Runs.{MarkReport, EndReport, entry_of_run, after_report, report_act, reported_of}
use Rattle.qm_model.specs.Standing.{with_entry, node_at, has_run, is_run_on, is_executing}
use Rattle.qm_history.specs.Marks.{finds_running, mark_after, mark_behind, last_mark, HaveMarks}
use Rattle.qm_history.proofs.LogLemmas.{next_consistent}

-- ---- what holds of the number and the mark of each entry

-- what is told of a number and a mark, at each entry
abbrev pub Told : (ℕ → List ℕ → Type 0) → List Entry → Type 0
Told Q entries = AllByRecursion (λ (e : Entry). Q e.number e.mark) entries

module _ (Q : ℕ → List ℕ → Type 0) where
  told_joined : (o : Option Entry) (es : List Entry) → IfSome o (λ (e : Entry). Q e.number e.mark) → Told Q es → Told Q (cons_option o es)
  told_joined None es here there = there
  told_joined (Some e) es here there = (here, there)

  told_append : (xs ys : List Entry) → Told Q xs → Told Q ys → Told Q (xs ++ ys)
  told_append [] ys first second = second
  told_append (x ∷ xs) ys first second = (first.0, told_append xs ys first.1 second)

  told_map : (f : Entry → Entry) → ((e : Entry) → Q e.number e.mark → Q (f e).number (f e).mark) → (es : List Entry) → Told Q es → Told Q (map f es)
  told_map f keeps [] h = tt
  told_map f keeps (e ∷ es) h = (keeps e h.0, told_map f keeps es h.1)

  told_filter_at : (b : Bool) (e : Entry) (es : List Entry) → Q e.number e.mark → Told Q es → Told Q (cond b (e ∷ es) es)
  told_filter_at true e es here there = (here, there)
  told_filter_at false e es here there = there

  told_filter : (p : Entry → Bool) (es : List Entry) → Told Q es → Told Q (filter p es)
  told_filter p [] h = tt
  told_filter p (e ∷ es) h = told_filter_at (p e) e (filter p es) h.0 (told_filter p es h.1)

  told_filter_map : (f : Entry → Option Entry) → ((e : Entry) → Q e.number e.mark → IfSome (f e) (λ (x : Entry). Q x.number x.mark)) → (es : List Entry) → Told Q es → Told Q (filter_map f es)
  told_filter_map f keeps [] h = tt
  told_filter_map f keeps (e ∷ es) h = told_joined (f e) (filter_map f es) (keeps e h.0) (told_filter_map f keeps es h.1)

  told_found_at : (b : Bool) (e : Entry) (rest : Option Entry) → Q e.number e.mark → IfSome rest (λ (x : Entry). Q x.number x.mark) → IfSome (cond b (Some e) rest) (λ (x : Entry). Q x.number x.mark)
  told_found_at true e rest here there = here
  told_found_at false e rest here there = there

  told_found : (p : Entry → Bool) (es : List Entry) → Told Q es → IfSome (find p es) (λ (x : Entry). Q x.number x.mark)
  told_found p [] h = tt
  told_found p (e ∷ es) h = told_found_at (p e) e (find p es) h.0 (told_found p es h.1)

  told_pending : (xs ys : List Entry) → map as_pending xs ≡ map as_pending ys → Told Q ys → Told Q xs
  told_pending [] ys same h = tt
  told_pending (x ∷ xs) [] same h = cc
  told_pending (x ∷ xs) (y ∷ ys) same h =
      let one : as_pending x ≡ as_pending y = cc in
      let others : map as_pending xs ≡ map as_pending ys = cc in
      (subst (λ (e : Entry). Q e.number e.mark) (sym one) h.0, told_pending xs ys others h.1)

-- an entry of a number gives way to another, or to none
module _ (Q R : ℕ → List ℕ → Type 0) (number : ℕ) (outcome : Entry → Option Entry)
    (here : (e : Entry) → (e.number == number) ≡ true → Q e.number e.mark → IfSome (outcome e) (λ (x : Entry). R x.number x.mark))
    (there : (n : ℕ) (mark : List ℕ) → (n == number) ≡ false → Q n mark → R n mark)
  where
    told_with_at : (b : Bool) (e : Entry) → (e.number == number) ≡ b → Q e.number e.mark → Told R (cond b (option_to_list (outcome e)) (e ∷ []))
    told_with_at false e is h = (there e.number e.mark is h, tt)
    told_with_at true e is h = of_one (outcome e) (here e is h)
      where
        of_one : (o : Option Entry) → IfSome o (λ (x : Entry). R x.number x.mark) → Told R (option_to_list o)
        of_one None k = tt
        of_one (Some x) k = (k, tt)

    told_with : (es : List Entry) → Told Q es → Told R (with_entry number outcome es)
    told_with [] h = tt
    told_with (e ∷ es) h =
        told_append R (cond (e.number == number) (option_to_list (outcome e)) (e ∷ [])) (with_entry number outcome es) (told_with_at (e.number == number) e refl h.0) (told_with es h.1)

-- ---- ends of runs

module _ (Q : ℕ → List ℕ → Type 0) where
  retained_at : (b : Bool) (e x : Entry) → Q x.number x.mark → IfSome (cond b (Some x) None) (λ (y : Entry). Q y.number y.mark)
  retained_at true e x h = h
  retained_at false e x h = tt

  told_ended : (queues : List Queue) (now status : ℕ) (e : Entry) → Q e.number e.mark → IfSome (ended queues now status e) (λ (x : Entry). Q x.number x.mark)
  told_ended queues now status e h = retained_at _ e _ h

  told_fated : (queues : List Queue) (now : ℕ) (f : Fate) (e : Entry) → Q e.number e.mark → IfSome (fated queues now f e) (λ (x : Entry). Q x.number x.mark)
  told_fated queues now fate.Requeue e h = h
  told_fated queues now fate.Finish e h = told_ended queues now aborted_status e h
  told_fated queues now fate.Remove e h = tt

  interrupted_at : (b : Bool) (x : Entry) (o : Option Entry) → Q x.number x.mark → IfSome o (λ (y : Entry). Q y.number y.mark) → IfSome (cond b (Some x) o) (λ (y : Entry). Q y.number y.mark)
  interrupted_at true x o here there = here
  interrupted_at false x o here there = there

  told_interrupted : (queues : List Queue) (now : ℕ) (e : Entry) → Q e.number e.mark → IfSome (interrupted queues now e) (λ (x : Entry). Q x.number x.mark)
  told_interrupted queues now e h = interrupted_at e.restart (requeued e) (ended queues now node_lost_status e) h (told_ended queues now node_lost_status e h)

  lost_at : (b : Bool) (e : Entry) (o : Option Entry) → Q e.number e.mark → IfSome o (λ (y : Entry). Q y.number y.mark) → IfSome (cond b o (Some e)) (λ (y : Entry). Q y.number y.mark)
  lost_at true e o here there = there
  lost_at false e o here there = here

  told_loss : (queues : List Queue) (now : ℕ) (lost : List (List ℕ)) (st : EntryState) (e : Entry) → Q e.number e.mark → IfSome (after_loss queues now lost st e) (λ (x : Entry). Q x.number x.mark)
  told_loss queues now lost (state.Running queue node run) e h = lost_at (is_among lost node) e (interrupted queues now e) h (told_interrupted queues now e h)
  told_loss queues now lost (state.Aborting queue node run f) e h = lost_at (is_among lost node) e (fated queues now f e) h (told_fated queues now f e h)
  told_loss queues now lost _ e h = h

  reset_at : (b : Bool) (x e : Entry) → Q x.number x.mark → Q e.number e.mark → Q (cond b x e).number (cond b x e).mark
  reset_at true x e here there = here
  reset_at false x e here there = there

  told_stop : (how : StopMode) (name : List ℕ) (es : List Entry) → Told Q es → Told Q (entries_on_stop how name es)
  told_stop stop.Pause name es h = h
  told_stop stop.Next name es h = h
  told_stop stop.Reset name es h = told_map Q (reset_in name) (λ e k. reset_at (is_running_in name e.state) (with_fate (reset_fate e) e) e k k) es h

  told_aborting : (s : System) (f : Fate) (number : ℕ) → Told Q s.entries → Told Q (entry_aborting s f number).system.entries
  told_aborting s f number h = told_with Q Q number (λ (e : Entry). Some (with_fate f e)) (λ e is k. k) (λ n mark other k. k) s.entries h

-- another entry in its place
module _ (Q : ℕ → List ℕ → Type 0) where
  told_set : (s : System) (now number : ℕ) (change : EntryChange) (o : Option Entry) → IfSome o (λ (e : Entry). Q e.number e.mark) → Told Q s.entries
      → Told Q (option_map_or (λ (e : Entry). entry_set_to s number (changed_entry s now change e)) o (replied s (EntryIs number state.Pending))).system.entries
  told_set s now number change None found h = h
  told_set s now number change (Some e) found h = told_with Q Q number (λ (x : Entry). Some (changed_entry s now change e)) (λ x is k. found) (λ n mark other k. k) s.entries h

  told_deleted_at : (s : System) (number : ℕ) (b : Bool) → Told Q s.entries
      → Told Q (cond b (entry_aborting s fate.Remove number) (replied (record s { entries = with_entry number (λ e. None) s.entries }) (EntryDeleted number))).system.entries
  told_deleted_at s number true h = told_aborting Q s fate.Remove number h
  told_deleted_at s number false h = told_with Q Q number (λ (e : Entry). None) (λ e is k. tt) (λ n mark other k. k) s.entries h

  told_after_end : (queues : List Queue) (now status : ℕ) (f : Option Fate) (e : Entry) → Q e.number e.mark → IfSome (after_report queues now (EndReport status) f e) (λ (x : Entry). Q x.number x.mark)
  told_after_end queues now status None e h = told_ended Q queues now status e h
  told_after_end queues now status (Some f) e h = told_fated Q queues now f e h

  told_done : (s : System) (now run status : ℕ) (o : Option Entry) → IfSome o (λ (e : Entry). Q e.number e.mark) → Told Q s.entries
      → Told Q (option_map_or (reported_of s now run (EndReport status)) o (replied s (report_act run (EndReport status) None None))).system.entries
  told_done s now run status None found h = h
  told_done s now run status (Some e) found h =
      told_with Q Q e.number (λ (x : Entry). after_report s.queues now (EndReport status) (fate_of e.state) e) (λ x is k. told_after_end s.queues now status (fate_of e.state) e found)
      (λ n mark other k. k) s.entries h

-- what is told of marks, and that each number was given
module _ (marks : ℕ → List ℕ) (next : ℕ) where
  abbrev pub Mine : ℕ → List ℕ → Type 0
  Mine number mark = (mark ≡ marks number) × (number < next)

  -- ---- a checkpoint

  abbrev Behind : List ℕ → Option Entry → ℕ → List ℕ → Type 0
  Behind value o number mark = mark ≡ cond (finds_running number o) value (marks number)

  aborting_none : (f : Option Fate) (b : Bool) → f ≡ None → (b && not (is_some f)) ≡ b
  aborting_none f true is = ap (λ x. not (is_some x)) is
  aborting_none f false is = refl

  aborting_some : (f : Option Fate) (x : Fate) (b : Bool) → f ≡ Some x → (b && not (is_some f)) ≡ false
  aborting_some f x true is = ap (λ y. not (is_some y)) is
  aborting_some f x false is = refl

  turned : (a b : ℕ) → (a == b) ≡ false → (b == a) ≡ false
  turned a b h = grind (arith, nat_tests)

  itself : (a : ℕ) → (a == a) ≡ true
  itself a = grind (arith, nat_tests)

  module _ (value : List ℕ) (e : Entry) where
    -- the running entry gets the mark
    marked_here : fate_of e.state ≡ None → Behind value (Some e) e.number value
    marked_here is = sym (ap (λ b. cond b value (marks e.number)) (aborting_none (fate_of e.state) (e.number == e.number) is ∙ itself e.number))

    unmarked : (number : ℕ) (mark : List ℕ) → finds_running number (Some e) ≡ false → Mine number mark → Behind value (Some e) number mark
    unmarked number mark is h = h.0 ∙ sym (ap (λ b. cond b value (marks number)) is)

    elsewhere : (number : ℕ) (mark : List ℕ) → (number == e.number) ≡ false → Mine number mark → Behind value (Some e) number mark
    elsewhere number mark other h = unmarked number mark (ap (λ b. b && not (is_aborting e.state)) (turned number e.number other)) h

    with_none : (f : Option Fate) → fate_of e.state ≡ f → (queues : List Queue) (now : ℕ) → Mine e.number e.mark → IfSome (after_report queues now (MarkReport value) f e) (λ (x : Entry). Behind value (Some e) x.number x.mark)
    with_none None is queues now h = marked_here is
    with_none (Some f) is queues now h =
        told_fated (Behind value (Some e)) queues now f e (unmarked e.number e.mark (aborting_some (fate_of e.state) f (e.number == e.number) is) h)

  told_mark : (s : System) (now run : ℕ) (value : List ℕ) (o : Option Entry) → IfSome o (λ (e : Entry). Mine e.number e.mark) → Told Mine s.entries
      → Told (Behind value o) (option_map_or (reported_of s now run (MarkReport value)) o (replied s (report_act run (MarkReport value) None None))).system.entries
  told_mark s now run value None found h = weaker s.entries h
    where
      weaker : (es : List Entry) → Told Mine es → Told (Behind value None) es
      weaker [] k = tt
      weaker (e ∷ es) k = (k.0.0, weaker es k.1)
  told_mark s now run value (Some e) found h =
      told_with Mine (Behind value (Some e)) e.number (λ (x : Entry). after_report s.queues now (MarkReport value) (fate_of e.state) e)
      (λ x is k. with_none value e (fate_of e.state) refl s.queues now found) (elsewhere value e) s.entries h

  -- ---- a submission

  abbrev Submitted : ℕ → List ℕ → Type 0
  Submitted number mark = mark ≡ cond (next == number) [] (marks number)

  old_one : (e : Entry) → Mine e.number e.mark → Submitted e.number e.mark
  old_one e h =
      let below : e.number < next = h.1 in
      let other : (next == e.number) ≡ false = grind (arith, nat_tests) in
      h.0 ∙ sym (ap (λ b. cond b [] (marks e.number)) other)

  old_ones : (es : List Entry) → Told Mine es → Told Submitted es
  old_ones [] h = tt
  old_ones (e ∷ es) h = (old_one e h.0, old_ones es h.1)

  -- ---- each request

  abbrev pub After : System → ℕ → ℕ → Request → ℕ → List ℕ → Type 0
  After s now node asked number mark = mark ≡ mark_after number (marks number) s now node asked

  plain : (es : List Entry) → Told Mine es → Told (λ number mark. mark ≡ marks number) es
  plain [] h = tt
  plain (e ∷ es) h = (h.0.0, plain es h.1)

  module _ (s : System) (now node : ℕ) (is_next : s.next_entry ≡ next) where
    abbrev found : System
    found = due now (at_moment now s)

    abbrev name : List ℕ
    name = node_at node s.nodes

    changed : (asked : Request) → Told Mine found.entries → Told (After s now node asked) (change_of found now name asked).system.entries
    changed (request.StopQueue queue how) h = plain _ (told_stop Mine how queue found.entries h)
    changed (request.AbortJob queue entry requeue) h = plain _ (told_aborting Mine found _ _ h)
    changed (request.DeleteQueue queue) h = plain _ (told_filter Mine _ found.entries h)
    changed (request.Merge to from) h = plain _ (told_map Mine (moved_to to from) (λ e k. reset_at Mine (waits_in from e) (record e { home = to }) e k k) found.entries h)
    changed (request.Submit job) h =
        told_append (After s now node (request.Submit job)) found.entries (entry_of found now job ∷ [])
        (subst (λ n. Told (λ number mark. mark ≡ cond (n == number) [] (marks number)) found.entries) (sym is_next) (old_ones found.entries h))
        (sym (ap (λ b. cond b [] (marks s.next_entry)) (itself s.next_entry)), tt)
    changed (request.SetEntry entry change) h =
        plain _ (told_set Mine found now entry change (entry_numbered entry found.entries) (told_found Mine (λ e. e.number == entry) found.entries h) h)
    changed (request.DeleteEntry entry) h = plain _ (told_deleted_at Mine found entry (option_map_or is_executing (entry_numbered entry found.entries) false) h)
    changed (request.Mark run value) h =
        told_mark found now run value (entry_of_run found name run) (told_found Mine (λ e. has_run run e && is_run_on name e) found.entries h) h
    changed (request.Done run status) h =
        plain _ (told_done Mine found now run status (entry_of_run found name run) (told_found Mine (λ e. has_run run e && is_run_on name e) found.entries h) h)
    changed (request.NodeLost nodes) h = plain _ (told_filter_map Mine _ (λ e k. told_loss Mine found.queues now nodes e.state e k) found.entries h)
    changed (request.Took epoch gone up may) h = plain _ (told_filter_map Mine _ (λ e k. told_loss Mine found.queues now gone e.state e k) found.entries h)
    changed _ h = plain found.entries h

    of_system : Told Mine s.entries → Told Mine found.entries
    of_system h = told_map Mine (entry_at now) (λ e k. k) (filter (λ e. not (is_over now e.state)) s.entries) (told_filter Mine (λ e. not (is_over now e.state)) s.entries h)

pub accepted_is : (o : Option Refusal) (x a : Accepted) → unless_refused o x ≡ Ok a → x ≡ a
accepted_is None x a h = cc
accepted_is (Some refusal) x a h = cc

numbers_given : (s : System) (es : List Entry) → All (IsEntry s) es → (marks : ℕ → List ℕ) → HaveMarks marks es → Told (Mine marks s.next_entry) es
numbers_given s [] all marks h = tt
numbers_given s (e ∷ es) all marks h =
    let one : IsEntry s e = All-head (IsEntry s) e es all in ((h.0, one.number.1), numbers_given s es (All-tail (IsEntry s) e es all) marks h.1)

-- what is started stays as it is but for its state
module _ (alone : (s : System) → map as_pending (settled s).system.entries ≡ map as_pending s.entries) where
  pub marks_after_request : (s : System) (now node : ℕ) (asked : Request) (a : Accepted) (marks : ℕ → List ℕ) → IsConsistent s → HaveMarks marks s.entries → applied s now node asked ≡ Ok a
      → HaveMarks (λ number. mark_after number (marks number) s now node asked) a.system.entries
  marks_after_request s now node asked a marks sound h is =
      let x : Accepted = change_of (due now (at_moment now s)) now (node_at node s.nodes) asked in
      let same : completed x ≡ a = accepted_is (first_refusal_of s (node_at node s.nodes) asked) (completed x) a is in
      let before : Told (Mine marks s.next_entry) s.entries = numbers_given s s.entries sound.entries.each marks h in
      subst (λ (y : Accepted). HaveMarks (λ number. mark_after number (marks number) s now node asked) y.system.entries) same
      (told_pending (After marks s.next_entry s now node asked) (settled (stopped_when_idle x.system)).system.entries x.system.entries (alone (stopped_when_idle x.system))
      (changed marks s.next_entry s now node refl asked (of_system marks s.next_entry s now node refl before)))

  module _ (keeps : (s : System) (now node : ℕ) (asked : Request) (a : Accepted) → IsConsistent s → IsLawful s node asked → applied s now node asked ≡ Ok a → IsConsistent a.system) where
    marks_after_ok : (s : System) (now node : ℕ) (asked : Request) (marks : ℕ → List ℕ) → IsConsistent s → HaveMarks marks s.entries → (res : Result Accepted Refusal) → applied s now node asked ≡ res → IsOk res
        → HaveMarks (λ number. mark_after number (marks number) s now node asked) (system_after s res).entries
    marks_after_ok s now node asked marks sound h (Ok a) is ok = marks_after_request s now node asked a marks sound h is
    marks_after_ok s now node asked marks sound h (Err refusal) is ok = cc

    marks_after_body : (s : System) (now node : ℕ) (b : Body) (marks : ℕ → List ℕ) → IsConsistent s → HaveMarks marks s.entries → CanStandBehind s now node b
        → HaveMarks (λ number. mark_behind number (marks number) s now node b) (after_body s now node b).entries
    marks_after_body s now node (body.Ask asked) marks sound h can = marks_after_ok s now node asked marks sound h (applied s now node asked) refl can.accepted
    marks_after_body s now node _ marks sound h can = absurd can

    pub marks_after_records : (s : System) (records : List Record) (marks : ℕ → List ℕ) → IsConsistent s → HaveMarks marks s.entries → AreNext s records
        → HaveMarks (λ number. last_mark number (marks number) s records) (replayed s records).entries
    marks_after_records s [] marks sound h next = h
    marks_after_records s (r ∷ records) marks sound h next =
        marks_after_records (after_record s r) records (λ number. mark_behind number (marks number) s r.moment r.node r.body)
        (next_consistent keeps s r next.0 sound) (marks_after_body s r.moment r.node r.body marks sound h next.0) next.1
