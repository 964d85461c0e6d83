-- A job that went back into its queue runs again, however often its entry changes.
use Rattle.std.proofs.Common.{◌≡◌, ℕ, ◌<◌, ◌≤◌, inl, inr, Bool, true, false, cond, not, ◌&&◌, List, [], ◌∷◌, ◌++◌, map, filter, refl, sym, ◌∙◌, ap, subst, arith, Option, None, Some, Ok, find, ◌==◌, IfSome, filter_map, option_to_list}
use Rattle.std.specs.List.{AllByRecursion, cons_option}
use Rattle.std.specs.Option.{option_map_or}
use Rattle.std.proofs.lemmas.Bool.Decides.{nat_tests}
use Rattle.qm_kinds.specs.declared.entry.Entry.{Entry}
use Rattle.qm_history.specs.Common.{EntryState, Fate, Record, EntryChange, Request, StopMode, System, Work, applied, at_moment, change_of, completed, first_refusal_of, changed_entry, entry_set_to, entry_numbered, is_among, interrupted, after_loss, Accepted, replied, settled, as_pending, stopped_when_idle, entries_on_stop, with_fate, reset_in, reset_fate, is_running_in, entry_aborting, entry_of, AreNext, IsNext, answered, after_record, replayed, Visit}
use Rattle.qm_kinds.specs.declared.entry.EntryState.TheVariants as state
use Rattle.qm_kinds.specs.declared.entry.Fate.TheVariants as fate
use Rattle.qm_kinds.specs.declared.queue.Queue.{Queue}
use Rattle.qm_kinds.specs.declared.reply.Act.TheVariants.{EntryIs, EntryDeleted}
use Rattle.qm_kinds.specs.declared.request.Request.TheVariants as request
use Rattle.qm_kinds.specs.declared.request.StopMode.TheVariants as stop
use Rattle.qm_model.specs.Due.{due, entry_at, is_over}
use Rattle.qm_model.specs.Duties.{work_of}
use Rattle.qm_model.specs.Ending.{ended, fated, requeued, aborted_status, node_lost_status}
use Rattle.qm_model.specs.JobStates.{fate_of}
use Rattle.qm_model.specs.Merging.{moved_to, waits_in}
use Rattle.qm_model.specs.Runs.{RunReport, MarkReport, EndReport, entry_of_run, after_report, report_act, reported_of}
use Rattle.qm_model.specs.Standing.{with_entry, node_at, has_run, is_run_on, is_executing}
use Rattle.qm_history.specs.Again.{AreAgain, is_to_go_back, finds_going_back, goes_back, PutsBack}
use Rattle.qm_history.specs.Blocks.{Gives, system_shown}
use Rattle.qm_history.proofs.GivenLemmas.{IsAmong, among, gives_work}
use Rattle.qm_history.proofs.LogLemmas.{next_keeps, all_keep}
use Rattle.qm_history.proofs.MarkLemmas.{accepted_is}

same_numbers : (a b : ℕ) → (a == b) ≡ true → a ≡ b
same_numbers a b h = grind (arith, nat_tests)

other_numbers : (a b : ℕ) → (a == b) ≡ false → a ≡ b → ⊥
other_numbers a b h same = absurd (grind (arith, nat_tests))

both : (a b : Bool) → (a && b) ≡ true → (a ≡ true) × (b ≡ true)
both true b h = (refl, h)
both false b h = cc

module _ (number : ℕ) where
  -- an entry of the number is one that runs again
  abbrev pub Runs : Entry → Type 0
  Runs e = e.number ≡ number → e.again ≡ true

  joined : (o : Option Entry) (es : List Entry) → IfSome o Runs → AreAgain number es → AreAgain number (cons_option o es)
  joined None es here there = there
  joined (Some e) es here there = (here, there)

  append : (xs ys : List Entry) → AreAgain number xs → AreAgain number ys → AreAgain number (xs ++ ys)
  append [] ys first second = second
  append (x ∷ xs) ys first second = (first.0, append xs ys first.1 second)

  mapped : (f : Entry → Entry) → ((e : Entry) → Runs e → Runs (f e)) → (es : List Entry) → AreAgain number es → AreAgain number (map f es)
  mapped f keeps [] h = tt
  mapped f keeps (e ∷ es) h = (keeps e h.0, mapped f keeps es h.1)

  filtered_at : (b : Bool) (e : Entry) (es : List Entry) → Runs e → AreAgain number es → AreAgain number (cond b (e ∷ es) es)
  filtered_at true e es here there = (here, there)
  filtered_at false e es here there = there

  filtered : (p : Entry → Bool) (es : List Entry) → AreAgain number es → AreAgain number (filter p es)
  filtered p [] h = tt
  filtered p (e ∷ es) h = filtered_at (p e) e (filter p es) h.0 (filtered p es h.1)

  -- what becomes of each entry, by something that is told of it
  filter_mapped : (P : Entry → Type 0) (f : Entry → Option Entry) → ((e : Entry) → P e → IfSome (f e) Runs) → (es : List Entry) → AllByRecursion P es → AreAgain number (filter_map f es)
  filter_mapped P f keeps [] h = tt
  filter_mapped P f keeps (e ∷ es) h = joined (f e) (filter_map f es) (keeps e h.0) (filter_mapped P f keeps es h.1)

  found_at : (b : Bool) (e : Entry) (rest : Option Entry) → Runs e → IfSome rest Runs → IfSome (cond b (Some e) rest) Runs
  found_at true e rest here there = here
  found_at false e rest here there = there

  found : (p : Entry → Bool) (es : List Entry) → AreAgain number es → IfSome (find p es) Runs
  found p [] h = tt
  found p (e ∷ es) h = found_at (p e) e (find p es) h.0 (found p es h.1)

  pending : (xs ys : List Entry) → map as_pending xs ≡ map as_pending ys → AreAgain number ys → AreAgain number xs
  pending [] ys same h = tt
  pending (x ∷ xs) [] same h = cc
  pending (x ∷ xs) (y ∷ ys) same h =
      let one : as_pending x ≡ as_pending y = cc in
      let others : map as_pending xs ≡ map as_pending ys = cc in
      (subst Runs (sym one) h.0, pending xs ys others h.1)

  -- an entry gives way to another, or to none
  module _ (P : Entry → Type 0) (place : ℕ) (outcome : Entry → Option Entry) (here : (e : Entry) → P e → IfSome (outcome e) Runs) (there : (e : Entry) → (e.number == place) ≡ false → P e → Runs e) where
    of_one : (o : Option Entry) → IfSome o Runs → AreAgain number (option_to_list o)
    of_one None h = tt
    of_one (Some x) h = (h, tt)

    with_at : (b : Bool) (e : Entry) → (e.number == place) ≡ b → P e → AreAgain number (cond b (option_to_list (outcome e)) (e ∷ []))
    with_at true e is h = of_one (outcome e) (here e h)
    with_at false e is h = (there e is h, tt)

    with_one : (es : List Entry) → AllByRecursion P es → AreAgain number (with_entry place outcome es)
    with_one [] h = tt
    with_one (e ∷ es) h =
        append (cond (e.number == place) (option_to_list (outcome e)) (e ∷ [])) (with_entry place outcome es) (with_at (e.number == place) e refl h.0) (with_one es h.1)

  -- ---- ends of runs

  kept_at : (b : Bool) (x : Entry) → Runs x → IfSome (cond b (Some x) None) Runs
  kept_at true x h = h
  kept_at false x h = tt

  of_end : (queues : List Queue) (now status : ℕ) (e : Entry) → Runs e → IfSome (ended queues now status e) Runs
  of_end queues now status e h = kept_at _ _ h

  of_fate : (queues : List Queue) (now : ℕ) (f : Fate) (e : Entry) → Runs e → IfSome (fated queues now f e) Runs
  of_fate queues now fate.Requeue e h = λ is. refl
  of_fate queues now fate.Finish e h = of_end queues now aborted_status e h
  of_fate queues now fate.Remove e h = tt

  one_of : (b : Bool) (a o : Option Entry) → IfSome a Runs → IfSome o Runs → IfSome (cond b a o) Runs
  one_of true a o here there = here
  one_of false a o here there = there

  of_loss : (queues : List Queue) (now : ℕ) (lost : List (List ℕ)) (st : EntryState) (e : Entry) → Runs e → IfSome (after_loss queues now lost st e) Runs
  of_loss queues now lost (state.Running queue node run) e h =
      one_of (is_among lost node) (interrupted queues now e) (Some e) (one_of e.restart (Some (requeued e)) (ended queues now node_lost_status e) (λ is. refl) (of_end queues now node_lost_status e h)) h
  of_loss queues now lost (state.Aborting queue node run f) e h = one_of (is_among lost node) (fated queues now f e) (Some e) (of_fate queues now f e h) h
  of_loss queues now lost _ e h = h

  of_report : (queues : List Queue) (now : ℕ) (report : RunReport) (f : Option Fate) (e : Entry) → Runs e → IfSome (after_report queues now report f e) Runs
  of_report queues now (MarkReport value) None e h = h
  of_report queues now (EndReport status) None e h = of_end queues now status e h
  of_report queues now (MarkReport value) (Some f) e h = of_fate queues now f e h
  of_report queues now (EndReport status) (Some f) e h = of_fate queues now f e h

  -- ---- requests keep what runs again

  reset : (b : Bool) (x e : Entry) → Runs x → Runs e → Runs (cond b x e)
  reset true x e here there = here
  reset false x e here there = there

  of_stop : (how : StopMode) (name : List ℕ) (es : List Entry) → AreAgain number es → AreAgain number (entries_on_stop how name es)
  of_stop stop.Pause name es h = h
  of_stop stop.Next name es h = h
  of_stop stop.Reset name es h = mapped (reset_in name) (λ e k. reset (is_running_in name e.state) (with_fate (reset_fate e) e) e k k) es h

  of_abort : (s : System) (f : Fate) (place : ℕ) → AreAgain number s.entries → AreAgain number (entry_aborting s f place).system.entries
  of_abort s f place h = with_one Runs place (λ (e : Entry). Some (with_fate f e)) (λ e k. k) (λ e other k. k) s.entries h

  of_set : (s : System) (now place : ℕ) (change : EntryChange) (o : Option Entry) → IfSome o Runs → AreAgain number s.entries
      → AreAgain number (option_map_or (λ (e : Entry). entry_set_to s place (changed_entry s now change e)) o (replied s (EntryIs place state.Pending))).system.entries
  of_set s now place change None there h = h
  of_set s now place change (Some e) there h = with_one Runs place (λ (x : Entry). Some (changed_entry s now change e)) (λ x k. there) (λ x other k. k) s.entries h

  of_deletion : (s : System) (place : ℕ) (b : Bool) → AreAgain number s.entries
      → AreAgain number (cond b (entry_aborting s fate.Remove place) (replied (record s { entries = with_entry place (λ e. None) s.entries }) (EntryDeleted place))).system.entries
  of_deletion s place true h = of_abort s fate.Remove place h
  of_deletion s place false h = with_one Runs place (λ (e : Entry). None) (λ e k. tt) (λ e other k. k) s.entries h

  of_reported : (s : System) (now run : ℕ) (report : RunReport) (o : Option Entry) → IfSome o Runs → AreAgain number s.entries
      → AreAgain number (option_map_or (reported_of s now run report) o (replied s (report_act run report None None))).system.entries
  of_reported s now run report None there h = h
  of_reported s now run report (Some e) there h =
      with_one Runs e.number (λ (x : Entry). after_report s.queues now report (fate_of e.state) e) (λ x k. of_report s.queues now report (fate_of e.state) e there) (λ x other k. k) s.entries h

  module _ (s : System) (now node : ℕ) (given : number < s.next_entry) where
    abbrev met : System
    met = due now (at_moment now s)

    abbrev name : List ℕ
    name = node_at node s.nodes

    changed : (asked : Request) → AreAgain number met.entries → AreAgain number (change_of met now name asked).system.entries
    changed (request.StopQueue queue how) h = of_stop how queue met.entries h
    changed (request.AbortJob queue entry requeue) h = of_abort met _ _ h
    changed (request.DeleteQueue queue) h = filtered _ met.entries h
    changed (request.Merge to from) h = mapped (moved_to to from) (λ e k. reset (waits_in from e) (record e { home = to }) e k k) met.entries h
    changed (request.Submit job) h = append met.entries (entry_of met now job ∷ []) h ((λ same. absurd (omega (arith, given, same))), tt)
    changed (request.SetEntry entry change) h = of_set met now entry change (entry_numbered entry met.entries) (found (λ e. e.number == entry) met.entries h) h
    changed (request.DeleteEntry entry) h = of_deletion met entry (option_map_or is_executing (entry_numbered entry met.entries) false) h
    changed (request.Mark run value) h = of_reported met now run (MarkReport value) (entry_of_run met name run) (found (λ e. has_run run e && is_run_on name e) met.entries h) h
    changed (request.Done run status) h = of_reported met now run (EndReport status) (entry_of_run met name run) (found (λ e. has_run run e && is_run_on name e) met.entries h) h
    changed (request.NodeLost nodes) h = filter_mapped Runs _ (λ e k. of_loss met.queues now nodes e.state e k) met.entries h
    changed (request.Took epoch gone up may) h = filter_mapped Runs _ (λ e k. of_loss met.queues now gone e.state e k) met.entries h
    changed asked h = h

    of_system : AreAgain number s.entries → AreAgain number met.entries
    of_system h = mapped (entry_at now) (λ e k. k) (filter (λ e. not (is_over now e.state)) s.entries) (filtered (λ e. not (is_over now e.state)) s.entries h)

  -- ---- what goes back runs again

  back_at : (met : System) (now run : ℕ) (report : RunReport) (f : Option Fate) (e : Entry) → is_to_go_back f ≡ true → IfSome (after_report met.queues now report f e) Runs
  back_at met now run (MarkReport value) (Some fate.Requeue) e h = λ is. refl
  back_at met now run (EndReport status) (Some fate.Requeue) e h = λ is. refl
  back_at met now run report _ e h = cc

  all_unit : (es : List Entry) → AllByRecursion (λ (e : Entry). Unit {0}) es
  all_unit [] = tt
  all_unit (e ∷ es) = (tt, all_unit es)

  reported_back : (met : System) (now run : ℕ) (report : RunReport) (o : Option Entry) → finds_going_back number o ≡ true
      → AreAgain number (option_map_or (reported_of met now run report) o (replied met (report_act run report None None))).system.entries
  reported_back met now run report None h = cc
  reported_back met now run report (Some e) h =
      let parts = both (e.number == number) (is_to_go_back (fate_of e.state)) h in
      let same : e.number ≡ number = same_numbers e.number number parts.0 in
      with_one (λ (x : Entry). Unit {0}) e.number (λ (x : Entry). after_report met.queues now report (fate_of e.state) e) (λ x k. back_at met now run report (fate_of e.state) e parts.1)
      (λ x other k is. absurd (other_numbers x.number e.number other (is ∙ sym same))) met.entries (all_unit met.entries)

  -- an entry of the number goes back
  abbrev Back : List (List ℕ) → EntryState → Entry → Type 0
  Back lost st e = e.number ≡ number → goes_back lost st e.restart ≡ true

  interrupted_back : (queues : List Queue) (now : ℕ) (e : Entry) (b : Bool) → (e.number ≡ number → b ≡ true) → IfSome (cond b (Some (requeued e)) (ended queues now node_lost_status e)) Runs
  interrupted_back queues now e true h = λ is. refl
  interrupted_back queues now e false h = kept_at _ _ (λ is. let yes : false ≡ true = h is in cc)

  lost_running : (queues : List Queue) (now : ℕ) (e : Entry) (b : Bool) → (e.number ≡ number → (b && e.restart) ≡ true) → IfSome (cond b (interrupted queues now e) (Some e)) Runs
  lost_running queues now e true h = interrupted_back queues now e e.restart h
  lost_running queues now e false h = λ is. let yes : false ≡ true = h is in cc

  fated_back : (queues : List Queue) (now : ℕ) (f : Fate) (e : Entry) → (e.number ≡ number → is_to_go_back (Some f) ≡ true) → IfSome (fated queues now f e) Runs
  fated_back queues now fate.Requeue e h = λ is. refl
  fated_back queues now fate.Finish e h = kept_at _ _ (λ is. let yes : false ≡ true = h is in cc)
  fated_back queues now fate.Remove e h = tt

  lost_aborting : (queues : List Queue) (now : ℕ) (f : Fate) (e : Entry) (b : Bool) → (e.number ≡ number → (b && is_to_go_back (Some f)) ≡ true) → IfSome (cond b (fated queues now f e) (Some e)) Runs
  lost_aborting queues now f e true h = fated_back queues now f e h
  lost_aborting queues now f e false h = λ is. let yes : false ≡ true = h is in cc

  lost_back : (queues : List Queue) (now : ℕ) (lost : List (List ℕ)) (st : EntryState) (e : Entry) → Back lost st e → IfSome (after_loss queues now lost st e) Runs
  lost_back queues now lost (state.Running queue node run) e h = lost_running queues now e (is_among lost node) h
  lost_back queues now lost (state.Aborting queue node run f) e h = lost_aborting queues now f e (is_among lost node) h
  lost_back queues now lost _ e h = λ is. let yes : false ≡ true = h is in cc

  changed_back : (s : System) (now node : ℕ) (asked : Request) → PutsBack number s now node asked
      → AreAgain number (change_of (due now (at_moment now s)) now (node_at node s.nodes) asked).system.entries
  changed_back s now node (request.Mark run value) h =
      reported_back (due now (at_moment now s)) now run (MarkReport value) (entry_of_run (due now (at_moment now s)) (node_at node s.nodes) run) h
  changed_back s now node (request.Done run status) h =
      reported_back (due now (at_moment now s)) now run (EndReport status) (entry_of_run (due now (at_moment now s)) (node_at node s.nodes) run) h
  changed_back s now node (request.NodeLost nodes) h =
      let met : System = due now (at_moment now s) in filter_mapped (λ e. Back nodes e.state e) _ (λ e k. lost_back met.queues now nodes e.state e k) met.entries h
  changed_back s now node (request.Took epoch gone up may) h =
      let met : System = due now (at_moment now s) in filter_mapped (λ e. Back gone e.state e) _ (λ e k. lost_back met.queues now gone e.state e k) met.entries h
  changed_back s now node asked h = absurd h

  -- ---- requests and records

  module _ (alone : (s : System) → map as_pending (settled s).system.entries ≡ map as_pending s.entries) where
    settled_again : (s : System) (now node : ℕ) (asked : Request) (a : Accepted) → applied s now node asked ≡ Ok a
        → AreAgain number (change_of (due now (at_moment now s)) now (node_at node s.nodes) asked).system.entries → AreAgain number a.system.entries
    settled_again s now node asked a is h =
        let x : Accepted = change_of (due now (at_moment now s)) now (node_at node s.nodes) asked in
        let same : completed x ≡ a = accepted_is (first_refusal_of s (node_at node s.nodes) asked) (completed x) a is in
        subst (λ (y : Accepted). AreAgain number y.system.entries) same
        (pending (settled (stopped_when_idle x.system)).system.entries x.system.entries (alone (stopped_when_idle x.system)) h)

    pub put_back : (s : System) (now node : ℕ) (asked : Request) (a : Accepted) → PutsBack number s now node asked → applied s now node asked ≡ Ok a → AreAgain number a.system.entries
    put_back s now node asked a back is = settled_again s now node asked a is (changed_back s now node asked back)

    pub stays_again : (s : System) (now node : ℕ) (asked : Request) (a : Accepted) → number < s.next_entry → AreAgain number s.entries → applied s now node asked ≡ Ok a → AreAgain number a.system.entries
    stays_again s now node asked a given h is = settled_again s now node asked a is (changed s now node given asked (of_system s now node given h))

    module _ (grows : (s : System) (now node : ℕ) (asked : Request) (a : Accepted) → applied s now node asked ≡ Ok a → s.next_entry ≤ a.system.next_entry) where
      abbrev Holds : System → Type 0
      Holds s = (number < s.next_entry) × AreAgain number s.entries

      one_record : (s : System) (r : Record) → IsNext s r → Holds s → Holds (after_record s r)
      one_record s r can h =
          next_keeps (λ x y. Holds x → Holds y)
          (λ x now node asked a follows is k. let more : x.next_entry ≤ a.system.next_entry = grows x now node asked a is in let less : number < x.next_entry = k.0 in (omega arith, stays_again x now node asked a k.0 k.1 is)) s r can h

      pub records_again : (s : System) (records : List Record) → AreNext s records → number < s.next_entry → AreAgain number s.entries → AreAgain number (replayed s records).entries
      records_again s records next given h = (all_keep Holds one_record s records next (given, h)).1

  -- ---- fetches

  of_all : (e : Entry) (es : List Entry) → IsAmong e es → AreAgain number es → Runs e
  of_all e [] h all = absurd h
  of_all e (x ∷ es) (inl is) all = subst Runs is all.0
  of_all e (x ∷ es) (inr h) all = of_all e es h all.1

  pub shown_again : (v : Visit) (run : ℕ) (work : Work) → AreAgain number (system_shown v).entries → Gives (answered v) run work → work.entry ≡ number → work.again ≡ true
  shown_again v run work all gives same =
      let of = gives_work v run work gives in
      let e : Entry = of.0 in
      let is : work ≡ work_of (system_shown v) e = of.3 in
      ap (λ (w : Work). w.again) is ∙ of_all e (system_shown v).entries (among (system_shown v).entries e of.1) all (sym (ap (λ (w : Work). w.entry) is) ∙ same)
