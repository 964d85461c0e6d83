-- What the loss of nodes leaves of the entries, one after another.
use Rattle.std.proofs.Common.{◌≡◌, ◌∙◌, ℕ, ◌+◌, ◌≤◌, ◌==◌, nat_le, Bool, true, false, not, cond, List, [], ◌∷◌, ◌++◌, get_or, length, count_by, filter, filter_map, find, map, Option, Some, None, refl, sym, ap, subst, arith, nat_cmp, option_to_list, bytes_eq}
use Rattle.std.specs.List.{cons_option}
use Rattle.std.specs.Option.{IfSome, option_map_or}
use Rattle.std.proofs.lemmas.List.Sums.{length-filter, count_by-le-length}
use Rattle.qm_model.specs.Common.{is_success, Entry, EntryState, Pending, Holding, Timed, Running, Aborting, Retained, Fate, Requeue, Finish, Remove, Queue, Node, IsInOrder, entry_at, is_over, state_at, aborted_status, ended, fated, node_lost_status, queue_retain, requeued, entry_numbered, is_among, fate_of, run_of, runs_on, after_loss, interrupted, without_node, is_retained, retained_until, with_entry}
use Rattle.qm_model.specs.Nodes.{up_exactly}
use Rattle.qm_parts.specs.Nodes.{is_run_on_one}
use Rattle.qm_parts.proofs.Counts.{count_agree, count_cons, found_passes}
use Rattle.qm_parts.proofs.Left.{agree_at_it}
use Rattle.qm_parts.proofs.Reach.{count_filter_le, count_map}
use Rattle.qm_tables.specs.Timers.{is_before, with_timer, without}
use Rattle.qm_tables.proofs.TimerNumbers.{length-inserted}
use Rattle.qm_image.specs.Losing.{entries_left}
use Rattle.qm_image.specs.Preparing.{IsLeftOf}
use Rattle.qm_image.specs.Timers.{entries_at}
use Rattle.qm_making.proofs.Ended.{found_numbered, home_kept, lost_left_at}

abbrev InOrder : List Entry → Type 0
InOrder es = IsInOrder nat_cmp (λ (e : Entry). e.number) es

abbrev one_if : Bool → ℕ
one_if b = cond b 1 0

-- ---- what the loss of a node leaves of an entry

-- the run is on one of these nodes
abbrev on_one : List (List ℕ) → EntryState → Bool
on_one lost state = option_map_or (is_among lost) (runs_on state) false

module _ (queues : List Queue) (now : ℕ) (x : Entry) where
  abbrev left_by : Option Fate → Option Entry
  left_by fate = option_map_or (λ (f : Fate). fated queues now f x) fate (interrupted queues now x)

  -- of one that has a run there, by what was decided before
  pub left_where_lost : (lost : List (List ℕ)) (state : EntryState) → on_one lost state ≡ true → left_by (fate_of state) ≡ after_loss queues now lost state x
  left_where_lost lost Pending on = cc
  left_where_lost lost Holding on = cc
  left_where_lost lost (Timed at) on = cc
  left_where_lost lost (Running queue node run) on = sym (ap (λ (b : Bool). cond b (interrupted queues now x) (Some x)) on)
  left_where_lost lost (Aborting queue node run fate) on = sym (ap (λ (b : Bool). cond b (fated queues now fate x) (Some x)) on)
  left_where_lost lost (Retained status until) on = cc

  -- of one that has none there
  untouched : (lost : List (List ℕ)) (state : EntryState) → on_one lost state ≡ false → after_loss queues now lost state x ≡ Some x
  untouched lost Pending off = refl
  untouched lost Holding off = refl
  untouched lost (Timed at) off = refl
  untouched lost (Running queue node run) off = ap (λ (b : Bool). cond b (interrupted queues now x) (Some x)) off
  untouched lost (Aborting queue node run fate) off = ap (λ (b : Bool). cond b (fated queues now fate x) (Some x)) off
  untouched lost (Retained status until) off = refl

  -- what is left of a run that is lost has none
  abbrev Idle : Option Entry → Type 0
  Idle left = IfSome left (λ (l : Entry). run_of l.state ≡ None)

  retained_idle : (status : ℕ) (until : Option ℕ) (b : Bool) → Idle (cond b (Some (record x { state = Retained status until })) None)
  retained_idle status until true = refl
  retained_idle status until false = tt

  ended_idle : (status : ℕ) → Idle (ended queues now status x)
  ended_idle status = retained_idle status (retained_until x.retain) (is_retained x.retain (queue_retain queues x) (is_success status) now)

  fated_idle : (fate : Fate) → Idle (fated queues now fate x)
  fated_idle Requeue = refl
  fated_idle Finish = ended_idle aborted_status
  fated_idle Remove = tt

  interrupted_idle : (b : Bool) → Idle (cond b (Some (requeued x)) (ended queues now node_lost_status x))
  interrupted_idle true = refl
  interrupted_idle false = ended_idle node_lost_status

  left_idle : (fate : Option Fate) → Idle (left_by fate)
  left_idle None = interrupted_idle x.restart
  left_idle (Some fate) = fated_idle fate

  -- and is at home where it was
  abbrev AtHome : Option Entry → Type 0
  AtHome left = IfSome left (λ (l : Entry). l.home ≡ x.home)

  retained_home : (status : ℕ) (until : Option ℕ) (b : Bool) → AtHome (cond b (Some (record x { state = Retained status until })) None)
  retained_home status until true = refl
  retained_home status until false = tt

  ended_home : (status : ℕ) → AtHome (ended queues now status x)
  ended_home status = retained_home status (retained_until x.retain) (is_retained x.retain (queue_retain queues x) (is_success status) now)

  fated_home : (fate : Fate) → AtHome (fated queues now fate x)
  fated_home Requeue = refl
  fated_home Finish = ended_home aborted_status
  fated_home Remove = tt

  interrupted_home : (b : Bool) → AtHome (cond b (Some (requeued x)) (ended queues now node_lost_status x))
  interrupted_home true = refl
  interrupted_home false = ended_home node_lost_status

  pub left_home : (fate : Option Fate) → AtHome (left_by fate)
  left_home None = interrupted_home x.restart
  left_home (Some fate) = fated_home fate

-- an entry without a run has none on these nodes
idle_is_off : (lost : List (List ℕ)) (state : EntryState) → run_of state ≡ None → on_one lost state ≡ false
idle_is_off lost Pending idle = refl
idle_is_off lost Holding idle = refl
idle_is_off lost (Timed at) idle = refl
idle_is_off lost (Running queue node run) idle = cc
idle_is_off lost (Aborting queue node run fate) idle = cc
idle_is_off lost (Retained status until) idle = refl

module _ (queues : List Queue) (now : ℕ) (lost : List (List ℕ)) where
  abbrev left_of : Entry → Option Entry
  left_of e = after_loss queues now lost e.state e

  -- what is left stays
  Stays : Option Entry → Type 0
  Stays left = IfSome left (λ (l : Entry). left_of l ≡ Some l)

  idle_stays : (left : Option Entry) → IfSome left (λ (l : Entry). run_of l.state ≡ None) → Stays left
  unfolding Stays
  idle_stays None idle = tt
  idle_stays (Some l) idle = untouched queues now l lost l.state (idle_is_off lost l.state idle)

  stays : (x : Entry) (b : Bool) → is_run_on_one lost x ≡ b → Stays (left_of x)
  unfolding Stays
  stays x true on =
      subst Stays (left_where_lost queues now x lost x.state on) (idle_stays (left_by queues now x (fate_of x.state)) (left_idle queues now x (fate_of x.state)))
  stays x false off =
      let same = untouched queues now x lost x.state off in
      subst Stays (sym same) same

  -- ---- one entry is left before the others

  module _ (n : ℕ) where
    left_at : (x : Entry) (rest es : List Entry) (b : Bool) (o : Option Entry) → left_of x ≡ o → Stays o → filter_map left_of rest ≡ filter_map left_of es
        → filter_map left_of (cond b (option_to_list o) (x ∷ []) ++ rest) ≡ filter_map left_of (x ∷ es)
    unfolding Stays
    left_at x rest es true None is stay later = later ∙ sym (ap (λ (p : Option Entry). cons_option p (filter_map left_of es)) is)
    left_at x rest es true (Some l) is stay later =
        ap (λ (p : Option Entry). cons_option p (filter_map left_of rest)) stay
        ∙ ap (λ (ys : List Entry). l ∷ ys) later
        ∙ sym (ap (λ (p : Option Entry). cons_option p (filter_map left_of es)) is)
    left_at x rest es false o is stay later = ap (λ (ys : List Entry). cons_option (left_of x) ys) later

    left_once : (es : List Entry) → filter_map left_of (with_entry n left_of es) ≡ filter_map left_of es
    left_once [] = refl
    left_once (x ∷ es) = left_at x (with_entry n left_of es) es (x.number == n) (left_of x) refl (stays x (is_run_on_one lost x) refl) (left_once es)

    pub left_still : (es : List Entry) (e : Entry) (left : Option Entry) → InOrder es → entry_numbered n es ≡ Some e → left ≡ left_of e
        → entries_left queues now lost (with_entry n (λ x. left) es) ≡ entries_left queues now lost es
    left_still es e left order found is = ap (filter_map left_of) (agree_at_it n (λ x. left) left_of es order e found is) ∙ left_once es

  -- where no run is there, all stays
  all_stay_at : (x : Entry) (es : List Entry) (b : Bool) → is_run_on_one lost x ≡ b → cond b (Some x) (find (is_run_on_one lost) es) ≡ None
      → (find (is_run_on_one lost) es ≡ None → filter_map left_of es ≡ es) → filter_map left_of (x ∷ es) ≡ x ∷ es
  all_stay_at x es true on none later = cc
  all_stay_at x es false off none later =
      ap (λ (p : Option Entry). cons_option p (filter_map left_of es)) (untouched queues now x lost x.state off) ∙ ap (λ (ys : List Entry). x ∷ ys) (later none)

  pub all_stay : (es : List Entry) → find (is_run_on_one lost) es ≡ None → entries_left queues now lost es ≡ es
  all_stay [] none = refl
  all_stay (x ∷ es) none = all_stay_at x es (is_run_on_one lost x) refl none (all_stay es)

-- ---- there are fewer runs on these nodes then

module _ (lost : List (List ℕ)) (n : ℕ) (left : Option Entry) (idle : IfSome left (λ (l : Entry). run_of l.state ≡ None)) where
  abbrev on : Entry → Bool
  on x = is_run_on_one lost x

  none_of_left : (o : Option Entry) → IfSome o (λ (l : Entry). run_of l.state ≡ None) → (rest : List Entry) → count_by on (option_to_list o ++ rest) ≡ count_by on rest
  none_of_left None h rest = refl
  none_of_left (Some l) h rest = omega (arith, count_cons on l rest, ap one_if (idle_is_off lost l.state h))

  no_more_at : (x : Entry) (rest es : List Entry) (b : Bool) → count_by on rest ≤ count_by on es → count_by on (cond b (option_to_list left) (x ∷ []) ++ rest) ≤ count_by on (x ∷ es)
  no_more_at x rest es true later = omega (arith, none_of_left left idle rest, count_cons on x es, later)
  no_more_at x rest es false later = omega (arith, count_cons on x rest, count_cons on x es, later)

  no_more : (es : List Entry) → count_by on (with_entry n (λ x. left) es) ≤ count_by on es
  no_more [] = omega arith
  no_more (x ∷ es) = no_more_at x (with_entry n (λ y. left) es) es (x.number == n) (no_more es)

  fewer_at : (e x : Entry) (rest es : List Entry) (b : Bool) → cond b (Some x) (entry_numbered n es) ≡ Some e → on e ≡ true → count_by on rest ≤ count_by on es
      → (entry_numbered n es ≡ Some e → count_by on rest + 1 ≤ count_by on es)
      → count_by on (cond b (option_to_list left) (x ∷ []) ++ rest) + 1 ≤ count_by on (x ∷ es)
  fewer_at e x rest es true found runs less later =
      let same : x ≡ e = cc in
      let one : one_if (on x) ≡ 1 = ap (λ (y : Entry). one_if (on y)) same ∙ ap one_if runs in
      omega (arith, none_of_left left idle rest, count_cons on x es, one, less)
  fewer_at e x rest es false found runs less later = omega (arith, count_cons on x rest, count_cons on x es, later found)

  pub fewer_runs : (e : Entry) (es : List Entry) → entry_numbered n es ≡ Some e → on e ≡ true → count_by on (with_entry n (λ x. left) es) + 1 ≤ count_by on es
  fewer_runs e [] found runs = cc
  fewer_runs e (x ∷ es) found runs = fewer_at e x (with_entry n (λ y. left) es) es (x.number == n) found runs (no_more es) (λ later. fewer_runs e es later runs)

-- ---- it can take its place

module _ (queues : List Queue) (now : ℕ) (lost : List (List ℕ)) (e : Entry) (es : List Entry) (left : Option Entry) (order : InOrder es) (found : find (is_run_on_one lost) es ≡ Some e)
    (is : is_run_on_one lost e ≡ true → left ≡ after_loss queues now lost e.state e) where
  runs_there : is_run_on_one lost e ≡ true
  runs_there = found_passes (is_run_on_one lost) e es found

  by_fate : left_by queues now e (fate_of e.state) ≡ left
  by_fate = left_where_lost queues now e lost e.state runs_there ∙ sym (is runs_there)

  back : entry_numbered e.number es ≡ Some e
  back = found_numbered (is_run_on_one lost) e es order found

  pub takes_place : IfSome left (λ l. IsLeftOf l e.number (entry_numbered e.number es))
  takes_place = subst (λ (o : Option Entry). IfSome o (λ l. IsLeftOf l e.number (entry_numbered e.number es))) by_fate (lost_left_at queues now e es back (fate_of e.state))

  pub needs_no_place : (P : Entry → Type 0) → IfSome left (λ l. IfSome (entry_numbered e.number es) (λ old. bytes_eq old.home l.home ≡ false → P l))
  needs_no_place P = home_kept e.number e es left P back (subst (λ (o : Option Entry). IfSome o (λ l. l.home ≡ e.home)) by_fate (left_home queues now e (fate_of e.state)))

  -- the rest is left as it would have been, with one run less on these nodes
  pub rest_still : entries_left queues now lost (with_entry e.number (λ x. left) es) ≡ entries_left queues now lost es
  rest_still = left_still queues now lost e.number es e left order back (is runs_there)

  pub one_run_less : count_by (is_run_on_one lost) (with_entry e.number (λ x. left) es) + 1 ≤ count_by (is_run_on_one lost) es
  one_run_less =
      fewer_runs lost e.number left (subst (λ (o : Option Entry). IfSome o (λ (l : Entry). run_of l.state ≡ None)) by_fate (left_idle queues now e (fate_of e.state))) e es back runs_there

-- ---- one timer more at most

pub one_timer_more : (n : ℕ) (at : Option ℕ) (ts : List (ℕ × ℕ)) → length (with_timer n at ts) ≤ length ts + 1
one_timer_more n at ts = by_moment at
  where
    fewer : length (without n ts) ≤ length ts
    fewer = omega (arith, length-filter (λ (t : ℕ × ℕ). not (t.1 == n)) ts, count_by-le-length (λ (t : ℕ × ℕ). not (t.1 == n)) ts)

    by_moment : (o : Option ℕ) → length (with_timer n o ts) ≤ length ts + 1
    by_moment None = omega (arith, fewer)
    by_moment (Some moment) = omega (arith, fewer, length-inserted is_before (moment, n) (without n ts))

-- ---- what a moment finds has no more runs

same_node : (now : ℕ) (state : EntryState) → runs_on (state_at now state) ≡ runs_on state
same_node now Pending = refl
same_node now Holding = refl
same_node now (Timed at) = either (nat_le at now)
  where
    either : (b : Bool) → runs_on (cond b Pending (Timed at)) ≡ None
    either true = refl
    either false = refl
same_node now (Running queue node run) = refl
same_node now (Aborting queue node run fate) = refl
same_node now (Retained status until) = refl

pub fewer_on_nodes : (now : ℕ) (lost : List (List ℕ)) (es : List Entry) → count_by (is_run_on_one lost) (entries_at now es) ≤ count_by (is_run_on_one lost) es
fewer_on_nodes now lost es =
    let kept : List Entry = filter (λ e. not (is_over now e.state)) es in
    omega (
      arith,
      count_map (is_run_on_one lost) (entry_at now) kept,
      count_agree (λ e. is_run_on_one lost (entry_at now e)) (is_run_on_one lost) kept
          (λ i d within. ap (λ (o : Option (List ℕ)). option_map_or (is_among lost) o false) (same_node now (get_or kept i d).state)),
      count_filter_le (is_run_on_one lost) (λ (e : Entry). not (is_over now e.state)) es,
    )

-- ---- nodes that are just these are so whichever went before
pub just_these : (up gone : List (List ℕ)) (nodes : List Node) → map (up_exactly up) (map (without_node gone) nodes) ≡ map (up_exactly up) nodes
just_these up gone [] = refl
just_these up gone (node ∷ nodes) = ap (λ (ns : List Node). up_exactly up node ∷ ns) (just_these up gone nodes)
