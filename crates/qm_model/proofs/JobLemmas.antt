-- Each lawful request leaves a consistent system.
use Rattle.std.proofs.Common.{◌≡◌, ℕ, ◌&&◌, Bool, true, false, cond, List, refl, sym, ◌∙◌, ap, subst, inl, inr, Option, None, Some, All, filter, map, Ok, IfSome, filter_map}
use Rattle.std.specs.Option.{option_map_or}
use Rattle.std.proofs.lemmas.List.Elements.{All-weaker}
use Rattle.qm_model.specs.Common.{Entry, EntryState, Pending, Running, Aborting, Retained, Fate, Requeue, Finish, Remove, Queue, Request, Node, System, is_success, entry_numbered, same_file_name, is_among, Accepted, at_moment, refusal_of, asks_for_numbers, are_numbers_spent, first_refusal_of, change_of, completed, applied, fate_of, replied, with_entry, node_at, is_executing, has_run, is_run_on, entry_at, due, filling, is_retained, retained_until, queue_retain, aborted_status, node_lost_status, ended, requeued, fated, state_with_fate, with_fate, reset_fate, entry_aborting, RunReport, MarkReport, EndReport, after_report, report_act, entry_of_run, reported_of, run_reported, is_named, runs_for, IsLawful}
use Rattle.qm_kinds.specs.declared.request.Request.TheVariants as request
use Rattle.qm_model.specs.Consistent.{IsConsistent, IsEntry, AreEntries}
use Rattle.qm_model.specs.Losing.{interrupted, after_loss, without_node, without_nodes}
use Rattle.qm_model.specs.States.{state_on_start, stopped_when_idle}
use Rattle.qm_model.specs.Nodes.{as_up, up_exactly, with_manager}
use Rattle.qm_model.specs.Characteristics.{has_named}
use Rattle.qm_model.proofs.SettlingLemmas.{IsIn, accepted_is}
use Rattle.qm_model.proofs.ListLemmas.{Pairs, pairs_of}
use Rattle.qm_model.proofs.SoundLemmas.{AreApart, find_in, unique, one_outcome, settled_is_consistent}
use Rattle.qm_model.proofs.FileLemmas.{appended_sound}
use Rattle.qm_model.proofs.MoveLemmas.{dropped_sound, merged_sound, stopped_sound}
use Rattle.qm_model.proofs.SetEntryLemmas.{CanChange, may_change, still_may, entry_set_sound}
use Rattle.qm_model.proofs.CharacteristicLemmas.{characteristic_defined_sound, characteristic_deleted_sound}
use Rattle.qm_model.proofs.FormLemmas.{form_defined_sound, form_deleted_sound}
use Rattle.qm_model.proofs.QueueLemmas.{runs_for_at, queue_deleted_sound, set_sound}
use Rattle.qm_model.proofs.InitializeLemmas.{node_there, initialized_sound}
use Rattle.qm_model.proofs.DueLemmas.{due_is_consistent, due_shorter, due_all}
use Rattle.qm_model.proofs.RefusalLemmas.{accepted_unrefused, numbers_left}
use Rattle.qm_model.proofs.SubmitLemmas.{submitted_sound}
use Rattle.qm_model.proofs.ChangeLemmas.{IsSound, sound_aside, sound_of, consistent_of, Calms, Calmer, itself, entries_calm, one_calms, all_calm, nodes_keep, names_stay, idle_is_consistent}

-- ---- what becomes of an entry

if_kept : (b : Bool) (x y : Entry) → Calmer x y → IfSome (cond b (Some y) None) (Calmer x)
if_kept true x y h = h
if_kept false x y h = tt

ended_calms : (qs : List Queue) (now status : ℕ) (x : Entry) → IfSome (ended qs now status x) (Calmer x)
ended_calms qs now status x =
    if_kept (is_retained x.retain (queue_retain qs x) (is_success status) now) x (record x { state = Retained status (retained_until x.retain) })
    (record { same = refl; calms = inr (refl, refl, refl) })

requeued_calms : (x : Entry) → Calmer x (requeued x)
requeued_calms x = record { same = refl; calms = inr (refl, refl, refl) }

fated_calms : (qs : List Queue) (now : ℕ) (fate : Fate) (x : Entry) → IfSome (fated qs now fate x) (Calmer x)
fated_calms qs now Requeue x = requeued_calms x
fated_calms qs now Finish x = ended_calms qs now aborted_status x
fated_calms qs now Remove x = tt

report_calms : (qs : List Queue) (now : ℕ) (report : RunReport) (fate : Option Fate) (x : Entry) → IfSome (after_report qs now report fate x) (Calmer x)
report_calms qs now (MarkReport value) None x = record { same = refl; calms = inl (refl, refl, refl) }
report_calms qs now (EndReport status) None x = ended_calms qs now status x
report_calms qs now (MarkReport value) (Some fate) x = fated_calms qs now fate x
report_calms qs now (EndReport status) (Some fate) x = fated_calms qs now fate x

either_calms : (b : Bool) (o p : Option Entry) (x : Entry) → IfSome o (Calmer x) → IfSome p (Calmer x) → IfSome (cond b o p) (Calmer x)
either_calms true o p x h k = h
either_calms false o p x h k = k

interrupted_calms : (qs : List Queue) (now : ℕ) (x : Entry) → IfSome (interrupted qs now x) (Calmer x)
interrupted_calms qs now x = either_calms x.restart (Some (requeued x)) (ended qs now node_lost_status x) x (requeued_calms x) (ended_calms qs now node_lost_status x)

loss_calms : (qs : List Queue) (now : ℕ) (lost : List (List ℕ)) (state : EntryState) (x : Entry) → IfSome (after_loss qs now lost state x) (Calmer x)
loss_calms qs now lost (Running queue node run) x = either_calms (is_among lost node) (interrupted qs now x) (Some x) x (interrupted_calms qs now x) (itself x)
loss_calms qs now lost (Aborting queue node run fate) x = either_calms (is_among lost node) (fated qs now fate x) (Some x) x (fated_calms qs now fate x) (itself x)
loss_calms qs now lost _ x = itself x

fate_keeps : (fate : Fate) (state : EntryState) → Calms state (state_with_fate fate state)
fate_keeps fate Pending = inl (refl, refl, refl)
fate_keeps fate _ = inl (refl, refl, refl)

with_fate_calms : (fate : Fate) (x : Entry) → Calmer x (with_fate fate x)
with_fate_calms fate x = record { same = refl; calms = fate_keeps fate x.state }

-- ---- what becomes of a system

abort_sound : (s : System) (fate : Fate) (number : ℕ) → IsSound s → IsSound (entry_aborting s fate number).system
abort_sound s fate number h =
    entries_calm s (with_entry number (λ e. Some (with_fate fate e)) s.entries) h (one_calms number (λ e. Some (with_fate fate e)) (λ x. with_fate_calms fate x) s.entries)

report_sound_of : (s : System) (now run : ℕ) (report : RunReport) (e : Entry) → IsSound s → IsIn e s.entries → IsSound (reported_of s now run report e).system
report_sound_of s now run report e h among =
    let left : Entry → Option Entry = λ x. after_report s.queues now report (fate_of x.state) x in
    let apart = pairs_of AreApart s.entries (λ i j d below within. (h.entries.order i j d below within, h.entries.runs i j d below within)) in
    let is : All (λ (x : Entry). x.number ≡ e.number → left x ≡ left e) s.entries =
    All-weaker (λ (x : Entry). x.number ≡ e.number → x ≡ e) (λ (x : Entry). x.number ≡ e.number → left x ≡ left e) (λ x k number. ap left (k number)) s.entries (unique e s.entries apart among) in
    subst (λ (es : List Entry). IsSound (record s { entries = es })) (one_outcome e.number left (left e) s.entries is)
    (entries_calm s (with_entry e.number left s.entries) h (one_calms e.number left (λ x. report_calms s.queues now report (fate_of x.state) x) s.entries))

report_sound : (s : System) (now : ℕ) (node : List ℕ) (run : ℕ) (report : RunReport) → IsSound s → IsSound (run_reported s now node run report).system
report_sound s now node run report h = report_sound_at (entry_of_run s node run) refl
  where
    report_sound_at : (o : Option Entry) → entry_of_run s node run ≡ o → IsSound (option_map_or (reported_of s now run report) o (replied s (report_act run report None None))).system
    report_sound_at None found = h
    report_sound_at (Some e) found = report_sound_of s now run report e h (find_in (λ x. has_run run x && is_run_on node x) e s.entries found)

either_sound : (b : Bool) (x y : Accepted) → IsSound x.system → IsSound y.system → IsSound (cond b x y).system
either_sound true x y h k = h
either_sound false x y h k = k

removed_sound : (s : System) (number : ℕ) → IsSound s → IsSound (record s { entries = with_entry number (λ e. None) s.entries })
removed_sound s number h = entries_calm s (with_entry number (λ e. None) s.entries) h (one_calms number (λ e. None) (λ x. tt) s.entries)

lost_sound : (s : System) (now : ℕ) (lost : List (List ℕ)) → IsSound s → IsSound (without_nodes s now lost)
lost_sound s now lost h =
    let es = filter_map (λ (e : Entry). after_loss s.queues now lost e.state e) s.entries in
    nodes_keep (record s { entries = es }) (without_node lost) (λ n. refl)
    (entries_calm s es h (all_calm (λ (e : Entry). after_loss s.queues now lost e.state e) (λ x. loss_calms s.queues now lost x.state x) s.entries))

-- entries don't look at the nodes that may be queue manager, nor at the last moment
entries_aside : (s : System) (may : List (List ℕ)) (last : ℕ) → AreEntries s → AreEntries (record s { may = may; last = last })
entries_aside s may last h = record {
  few = h.few;
  each = All-weaker (IsEntry s) (IsEntry (record s { may = may; last = last })) (λ x k. record { number = k.number; home = k.home; file = k.file; form = k.form; characteristics = k.characteristics; queue = k.queue; node = k.node; run = k.run }) s.entries h.each;
  order = h.order;
  runs = h.runs;
}

may_changes : (s : System) (may : List (List ℕ)) → may ≡ filter (is_among may) (map (λ (n : Node). n.name) s.nodes) → IsSound s → IsSound (record s { may = may })
may_changes s may is h = sound_aside s may s.files s.entries s.next_entry s.next_run s.last h is h.files (entries_aside s may s.last h.entries) h.next_entry h.next_run

manager_sound : (s : System) (now : ℕ) (gone up may : List (List ℕ)) → may ≡ filter (is_among may) (map (λ (n : Node). n.name) s.nodes) → IsSound s → IsSound (with_manager s now gone up may)
manager_sound s now gone up may is h =
    let left = without_nodes s now gone in
    let among : System = record left { nodes = map (up_exactly up) left.nodes } in
    let names : map (λ (n : Node). n.name) among.nodes ≡ map (λ (n : Node). n.name) s.nodes = names_stay (up_exactly up) (λ n. refl) left.nodes ∙ names_stay (without_node gone) (λ n. refl) s.nodes in
    may_changes among may (subst (λ ns. may ≡ filter (is_among may) ns) (sym names) is) (nodes_keep left (up_exactly up) (λ n. refl) (lost_sound s now gone h))

at_moment_sound : (s : System) (now : ℕ) → IsConsistent s → IsConsistent (at_moment now s)
at_moment_sound s now h =
    consistent_of (at_moment now s) (sound_aside s s.may s.files s.entries s.next_entry s.next_run now (sound_of s h) h.may h.files (entries_aside s s.may now h.entries) h.next_entry h.next_run)
    (λ i d within. (h.queues.each i d within).stopping)

pub found_is_consistent : (s : System) (now : ℕ) → IsConsistent s → IsConsistent (due now (at_moment now s))
found_is_consistent s now h = due_is_consistent (at_moment now s) now (at_moment_sound s now h)

-- what the moment finds
abbrev found_at : System → ℕ → System
found_at before now = due now (at_moment now before)

module _ (before : System) (now : ℕ) (at : IsConsistent (at_moment now before)) (h : IsSound (found_at before now)) (place : ℕ) where
  abbrev node : List ℕ
  node = node_at place before.nodes

  through : (P : Entry → Type 0) → ((x : Entry) → P x → P (entry_at now x)) → All P before.entries → All P (found_at before now).entries
  through = due_all (at_moment now before) now at

  apart : Pairs AreApart before.entries
  apart = pairs_of AreApart before.entries (λ i j d below within. (at.entries.order i j d below within, at.entries.runs i j d below within))

  change_sound : (r : Request) → IsLawful before place r → refusal_of before node r ≡ None → IsSound (change_of (found_at before now) now node r).system
  change_sound (request.Append file bytes) of clear = appended_sound before (found_at before now) file bytes h refl clear
  change_sound (request.Fill file lines) of clear = appended_sound before (found_at before now) file (filling lines) h refl clear
  change_sound (request.Drop file) of clear =
      dropped_sound before (found_at before now) file h clear (through (λ (x : Entry). same_file_name x.file file ≡ false) (λ x k. k))
  change_sound (request.DefineForm form) of clear =
      form_defined_sound before (found_at before now) form h refl of.0 of.1 clear
  change_sound (request.DeleteForm name) of clear =
      form_deleted_sound before (found_at before now) name h refl clear (through (λ (x : Entry). is_named name x.form ≡ false) (λ x k. k))
  change_sound (request.DefineCharacteristic characteristic) of clear =
      characteristic_defined_sound before (found_at before now) characteristic h refl of clear
  change_sound (request.DeleteCharacteristic name) of clear =
      characteristic_deleted_sound before (found_at before now) name h refl refl clear (through (λ (x : Entry). has_named before.characteristics name x.characteristics.0 ≡ false) (λ x k. k))
  change_sound (request.InitializeQueue new) of clear =
      initialized_sound (found_at before now) node new h (node_there place before.nodes of.2) of.0 of.1 clear
  change_sound (request.SetQueue name change) of clear = set_sound (found_at before now) change (λ (q : Queue). q.state) name h clear
  change_sound (request.StartQueue name change) of clear = set_sound (found_at before now) change (λ (q : Queue). state_on_start q.state) name h clear
  change_sound (request.StopQueue name how) of clear = stopped_sound (found_at before now) name how h (λ x. with_fate_calms (reset_fate x) x)
  change_sound (request.AbortJob queue entry requeue) of clear = abort_sound (found_at before now) _ _ h
  change_sound (request.DeleteQueue name) of clear =
      queue_deleted_sound before (found_at before now) name h refl clear (through (λ (x : Entry). runs_for name x ≡ false) (runs_for_at name now))
  change_sound (request.Merge to from) of clear = merged_sound before (found_at before now) to from h refl clear
  change_sound (request.Submit job) of clear =
      submitted_sound before (found_at before now) now job h refl refl refl (due_shorter (at_moment now before) now at) clear
  change_sound (request.SetEntry entry change) of clear =
      entry_set_sound (found_at before now) now entry change h
      (through (λ (x : Entry). x.number ≡ entry → CanChange before.queues before.forms change x) (λ x k. still_may before.queues before.forms entry now change x k) (may_change before entry change apart clear))
  change_sound (request.DeleteEntry entry) of clear =
      either_sound (option_map_or is_executing (entry_numbered entry (found_at before now).entries) false) _ _ (abort_sound (found_at before now) Remove entry h) (removed_sound (found_at before now) entry h)
  change_sound (request.Mark run value) of clear = report_sound (found_at before now) now node run (MarkReport value) h
  change_sound (request.Done run status) of clear = report_sound (found_at before now) now node run (EndReport status) h
  change_sound request.Tick of clear = h
  change_sound request.NodeUp of clear = nodes_keep (found_at before now) (as_up node) (λ n. refl) h
  change_sound (request.NodeLost nodes) of clear = lost_sound (found_at before now) now nodes h
  change_sound (request.Took epoch gone up may) of clear = manager_sound (found_at before now) now gone up may of h

pub stays_consistent : (s : System) (now node : ℕ) (r : Request) (a : Accepted) → IsConsistent s → IsLawful s node r → applied s now node r ≡ Ok a → IsConsistent a.system
stays_consistent s now node r a h of is =
    let name = node_at node s.nodes in
    let t = due now (at_moment now s) in
    let change = change_of t now name r in
    let same : completed change ≡ a = accepted_is (first_refusal_of s name r) (completed change) a is in
    let at = at_moment_sound s now h in
    let none = numbers_left (asks_for_numbers r && are_numbers_spent s) (refusal_of s name r) (accepted_unrefused (first_refusal_of s name r) (completed change) a is) in
    let h1 = sound_of t (found_is_consistent s now h) in
    let sound = change_sound s now at h1 node r of none in
    subst (λ (b : Accepted). IsConsistent b.system) same (settled_is_consistent (stopped_when_idle change.system) (idle_is_consistent change.system sound))

-- before any job is started
pub change_is_consistent : (s : System) (now node : ℕ) (r : Request) → IsConsistent s → IsLawful s node r → first_refusal_of s (node_at node s.nodes) r ≡ None
    → IsConsistent (stopped_when_idle (change_of (due now (at_moment now s)) now (node_at node s.nodes) r).system)
change_is_consistent s now node r h of clear =
    let name = node_at node s.nodes in
    let at = at_moment_sound s now h in
    let h1 = sound_of (due now (at_moment now s)) (found_is_consistent s now h) in
    idle_is_consistent (change_of (due now (at_moment now s)) now name r).system (change_sound s now at h1 node r of (numbers_left (asks_for_numbers r && are_numbers_spent s) (refusal_of s name r) clear))
