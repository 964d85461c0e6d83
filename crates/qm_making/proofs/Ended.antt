-- What is left of an entry whose run is reported.
use Rattle.std.proofs.Common.{◌≡◌, ◌∙◌, ℕ, Bool, true, false, cond, List, [], find, Option, Some, None, refl, sym, ap, subst, nat_cmp, bytes_eq}
use Rattle.std.specs.Option.{IfSome, IsSome, option_map_or, option_and_then}
use Rattle.std.proofs.lemmas.Option.{same_Some}
use Rattle.std.proofs.lemmas.Slice.Eq.{bytes_eq-Decides}
use Rattle.qm_model.specs.Common.{is_success, Entry, Retained, Fate, Requeue, Finish, Remove, Queue, Act, Run, System, IsInOrder, queue_retain, ended, requeued, fated, aborted_status, node_lost_status, entry_numbered, fate_of, interrupted, replied, is_retained, retained_until, RunReport, MarkReport, EndReport, after_report, report_act, reported_of, run_reported, entry_of_run, with_entry}
use Rattle.qm_parts.specs.Mirror.{run_of_entry}
use Rattle.qm_parts.proofs.Ordered.{each_found}
use Rattle.qm_image.specs.Preparing.{IsLeftOf}
use Rattle.qm_making.proofs.Entries.{found_has}

-- an entry that is found is found under its number
pub found_numbered : (p : Entry → Bool) (e : Entry) (es : List Entry) → IsInOrder nat_cmp (λ x. x.number) es → find p es ≡ Some e → entry_numbered e.number es ≡ Some e
found_numbered p e es order found = found_has p e (λ (x : Entry). entry_numbered x.number es ≡ Some x) es found (each_found (λ (x : Entry). x.number) es order)

module _ (queues : List Queue) (now : ℕ) (e : Entry) (es : List Entry) (back : entry_numbered e.number es ≡ Some e) where
  abbrev Left : Option Entry → Type 0
  Left left = IfSome left (λ l. IsLeftOf l e.number (entry_numbered e.number es))

  there : IsSome (entry_numbered e.number es)
  there = subst (λ (o : Option Entry). IsSome o) (sym back) refl

  same_file : (l : Entry) → l.file ≡ e.file → IfSome (entry_numbered e.number es) (λ x. x.file ≡ l.file)
  same_file l same = subst (λ o. IfSome o (λ x. x.file ≡ l.file)) (sym back) (sym same)

  same_run_at : (o : Option Run) → IfSome o (λ r. o ≡ Some r)
  same_run_at None = tt
  same_run_at (Some r) = refl

  -- the run stays
  same_run : IfSome (run_of_entry e) (λ r. option_and_then run_of_entry (entry_numbered e.number es) ≡ Some r)
  same_run = subst (λ (o : Option Entry). IfSome (run_of_entry e) (λ r. option_and_then run_of_entry o ≡ Some r)) (sym back) (same_run_at (run_of_entry e))

  retained_left : (status : ℕ) (until : Option ℕ) (b : Bool) → Left (cond b (Some (record e { state = Retained status until })) None)
  retained_left status until true = record { there = there; number_stays = refl; file_stays = same_file (record e { state = Retained status until }) refl; run_stays = tt }
  retained_left status until false = tt

  ended_left : (status : ℕ) → Left (ended queues now status e)
  ended_left status = retained_left status (retained_until e.retain) (is_retained e.retain (queue_retain queues e) (is_success status) now)

  fated_left : (fate : Fate) → Left (fated queues now fate e)
  fated_left Requeue = record { there = there; number_stays = refl; file_stays = same_file (requeued e) refl; run_stays = tt }
  fated_left Finish = ended_left aborted_status
  fated_left Remove = tt

  reported_left_at : (report : RunReport) (fate : Option Fate) → Left (after_report queues now report fate e)
  reported_left_at (MarkReport value) None = record { there = there; number_stays = refl; file_stays = same_file (record e { mark = value }) refl; run_stays = same_run }
  reported_left_at (EndReport status) None = ended_left status
  reported_left_at (MarkReport value) (Some fate) = fated_left fate
  reported_left_at (EndReport status) (Some fate) = fated_left fate

  -- where its node is lost, by what was decided before
  interrupted_left : (b : Bool) → Left (cond b (Some (requeued e)) (ended queues now node_lost_status e))
  interrupted_left true = record { there = there; number_stays = refl; file_stays = same_file (requeued e) refl; run_stays = tt }
  interrupted_left false = ended_left node_lost_status

  pub lost_left_at : (fate : Option Fate) → Left (option_map_or (λ (f : Fate). fated queues now f e) fate (interrupted queues now e))
  lost_left_at None = interrupted_left e.restart
  lost_left_at (Some fate) = fated_left fate

pub reported_left : (queues : List Queue) (now : ℕ) (report : RunReport) (p : Entry → Bool) (e : Entry) (es : List Entry) (left : Option Entry) → IsInOrder nat_cmp (λ x. x.number) es → find p es ≡ Some e
    → left ≡ after_report queues now report (fate_of e.state) e → IfSome left (λ l. IsLeftOf l e.number (entry_numbered e.number es))
reported_left queues now report p e es left order found is =
    subst (λ o. IfSome o (λ l. IsLeftOf l e.number (entry_numbered e.number es))) (sym is) (reported_left_at queues now e es (found_numbered p e es order found) report (fate_of e.state))

-- ---- what is left keeps its home

at_home_at : (e l : Entry) (o : Option Entry) (P : Type 0) → o ≡ Some e → l.home ≡ e.home → IfSome o (λ old. bytes_eq old.home l.home ≡ false → P)
at_home_at e l None P found home = tt
at_home_at e l (Some x) P found home =
    let same : x ≡ e = same_Some x e found in
    λ other. absurd (no (sym ((bytes_eq-Decides x.home l.home).1 (ap (λ (y : Entry). y.home) same ∙ sym home)) ∙ other))
  where
    no : true ≡ false → ⊥
    no h = cc

-- so it needs no place
pub home_kept : (n : ℕ) (e : Entry) (es : List Entry) (left : Option Entry) (P : Entry → Type 0) → entry_numbered n es ≡ Some e → IfSome left (λ l. l.home ≡ e.home)
    → IfSome left (λ l. IfSome (entry_numbered n es) (λ old. bytes_eq old.home l.home ≡ false → P l))
home_kept n e es None P found home = tt
home_kept n e es (Some l) P found home = at_home_at e l (entry_numbered n es) (P l) found home

module _ (queues : List Queue) (now : ℕ) (e : Entry) where
  abbrev Home : Option Entry → Type 0
  Home left = IfSome left (λ l. l.home ≡ e.home)

  retained_home : (status : ℕ) (until : Option ℕ) (b : Bool) → Home (cond b (Some (record e { state = Retained status until })) None)
  retained_home status until true = refl
  retained_home status until false = tt

  ended_home : (status : ℕ) → Home (ended queues now status e)
  ended_home status = retained_home status (retained_until e.retain) (is_retained e.retain (queue_retain queues e) (is_success status) now)

  fated_home : (fate : Fate) → Home (fated queues now fate e)
  fated_home Requeue = refl
  fated_home Finish = ended_home aborted_status
  fated_home Remove = tt

  reported_home_at : (report : RunReport) (fate : Option Fate) → Home (after_report queues now report fate e)
  reported_home_at (MarkReport value) None = refl
  reported_home_at (EndReport status) None = ended_home status
  reported_home_at (MarkReport value) (Some fate) = fated_home fate
  reported_home_at (EndReport status) (Some fate) = fated_home fate

pub reported_home : (queues : List Queue) (now : ℕ) (report : RunReport) (p : Entry → Bool) (e : Entry) (es : List Entry) (left : Option Entry) (P : Entry → Type 0) → IsInOrder nat_cmp (λ x. x.number) es → find p es ≡ Some e
    → left ≡ after_report queues now report (fate_of e.state) e → IfSome left (λ l. IfSome (entry_numbered e.number es) (λ old. bytes_eq old.home l.home ≡ false → P l))
reported_home queues now report p e es left P order found is =
    home_kept e.number e es left P (found_numbered p e es order found)
    (subst (λ o. IfSome o (λ l. l.home ≡ e.home)) (sym is) (reported_home_at queues now e report (fate_of e.state)))

-- what the model says of the report
pub reported_is : (s new : System) (now : ℕ) (node : List ℕ) (run : ℕ) (report : RunReport) (e : Entry) (queues : List Queue) (left : Option Entry) (act : Act) → Some e ≡ entry_of_run s node run → queues ≡ s.queues
    → left ≡ after_report queues now report (fate_of e.state) e → act ≡ report_act run report (fate_of e.state) left
    → new ≡ record s { entries = with_entry e.number (λ x. left) s.entries } → run_reported s now node run report ≡ record { system = new; reply = record { act = act; started = [] } }
reported_is s new now node run report e queues left act found same_queues left_is act_is rows =
    let is : after_report s.queues now report (fate_of e.state) e ≡ left = ap (λ (qs : List Queue). after_report qs now report (fate_of e.state) e) (sym same_queues) ∙ sym left_is in
    ap (λ (o : Option Entry). option_map_or (reported_of s now run report) o (replied s (report_act run report None None))) (sym found)
    ∙ ap (λ (l : Option Entry). replied (record s { entries = with_entry e.number (λ x. l) s.entries }) (report_act run report (fate_of e.state) l)) is
    ∙ ap (λ (t : System). replied t (report_act run report (fate_of e.state) left)) (sym rows)
    ∙ ap (λ (a : Act). replied new a) (sym act_is)
