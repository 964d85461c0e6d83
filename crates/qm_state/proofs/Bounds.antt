-- How many jobs start behind a change.
use Rattle.std.proofs.Common.{◌≡◌, ℕ, ◌≤◌, Bool, true, false, not, cond, List, [], ◌∷◌, length, filter, map, Option, None, Some, refl, ap, arith, bytes_eq}
use Rattle.std.specs.List.{list_any}
use Rattle.std.specs.Option.{option_map_or}
use Rattle.std.proofs.lemmas.List.{length-map}
use Rattle.std.proofs.lemmas.List.Sums.{sum_by-cons, length-filter, count_by-le-length}
use Rattle.qm_model.specs.Common.{Entry, Queue, QueueState, Stopped, Started, Paused, Stopping, StopMode, Pause, Next, Reset, System, is_over, entry_at, is_started, places, Accepted, RunReport, run_reported, entry_of_run, with_queue, occupies, state_when_idle, when_idle, state_on_stop, stopped_queue}
use Rattle.qm_sched.specs.Starts.{start_places}
use Rattle.qm_image.specs.Preparing.{found}

places_if : Bool → Queue → ℕ
places_if b q = cond b (places q) 0

abbrev places_of : Queue → ℕ
places_of q = cond (is_started q.state) (places q) 0

-- ---- at most the places of the queues that are started

idle_keeps : (b : Bool) (state : QueueState) → is_started (state_when_idle b state) ≡ is_started state
idle_keeps b Stopped = refl
idle_keeps b Started = refl
idle_keeps b Paused = refl
idle_keeps true Stopping = refl
idle_keeps false Stopping = refl

places_when_idle : (es : List Entry) (q : Queue) → places_of (when_idle es q) ≡ places_of q
places_when_idle es q = ap (λ (b : Bool). cond b (places q) 0) (idle_keeps (list_any (occupies q.name) es) q.state)

pub idle_places : (es : List Entry) (qs : List Queue) → start_places (map (when_idle es) qs) ≡ start_places qs
idle_places es [] = refl
idle_places es (q ∷ qs) =
    omega (arith, sum_by-cons places_of (when_idle es q) (map (when_idle es) qs), sum_by-cons places_of q qs, places_when_idle es q, idle_places es qs)

none_on_stop : (how : StopMode) (state : QueueState) → is_started (state_on_stop how state) ≡ false
none_on_stop Pause Stopped = refl
none_on_stop Pause Started = refl
none_on_stop Pause Paused = refl
none_on_stop Pause Stopping = refl
none_on_stop Next Stopped = refl
none_on_stop Next Started = refl
none_on_stop Next Paused = refl
none_on_stop Next Stopping = refl
none_on_stop Reset Stopped = refl
none_on_stop Reset Started = refl
none_on_stop Reset Paused = refl
none_on_stop Reset Stopping = refl

stop_one : (how : StopMode) (q : Queue) (b : Bool) → places_of (cond b (stopped_queue how q) q) ≤ places_of q
stop_one how q true = omega (arith, ap (λ (b : Bool). cond b (places q) 0) (none_on_stop how q.state))
stop_one how q false = omega arith

pub stop_places : (how : StopMode) (name : List ℕ) (qs : List Queue) → start_places (with_queue name (stopped_queue how) qs) ≤ start_places qs
stop_places how name [] = omega arith
stop_places how name (q ∷ qs) =
    omega (
      arith,
      sum_by-cons places_of (cond (bytes_eq q.name name) (stopped_queue how q) q) (with_queue name (stopped_queue how) qs),
      sum_by-cons places_of q qs,
      stop_one how q (bytes_eq q.name name),
      stop_places how name qs,
    )

without_one : (q : Queue) (rest qs : List Queue) (b : Bool) → start_places rest ≤ start_places qs → start_places (cond b (q ∷ rest) rest) ≤ start_places (q ∷ qs)
without_one q rest qs true later = omega (arith, sum_by-cons places_of q rest, sum_by-cons places_of q qs, later)
without_one q rest qs false later = omega (arith, sum_by-cons places_of q qs, later)

pub without_places : (name : List ℕ) (qs : List Queue) → start_places (filter (λ q. not (bytes_eq q.name name)) qs) ≤ start_places qs
without_places name [] = omega arith
without_places name (q ∷ qs) = without_one q (filter (λ q. not (bytes_eq q.name name)) qs) qs (not (bytes_eq q.name name)) (without_places name qs)

-- ---- the end of a run leaves the queues

reported_at : (s : System) (f : Entry → Accepted) (d : Accepted) (o : Option Entry) → ((e : Entry) → (f e).system.queues ≡ s.queues) → d.system.queues ≡ s.queues → (option_map_or f o d).system.queues ≡ s.queues
reported_at s f d None each none = none
reported_at s f d (Some e) each none = each e

pub reported_queues : (s : System) (now : ℕ) (node : List ℕ) (run : ℕ) (report : RunReport) → (run_reported s now node run report).system.queues ≡ s.queues
reported_queues s now node run report = reported_at s _ _ (entry_of_run s node run) (λ e. refl) refl

-- ---- at most the entries

pub fewer_found : (now : ℕ) (s : System) → length (found now s).entries ≤ length s.entries
fewer_found now s = omega (
  arith,
  length-map (filter (λ e. not (is_over now e.state)) s.entries) (entry_at now),
  length-filter (λ e. not (is_over now e.state)) s.entries,
  count_by-le-length (λ e. not (is_over now e.state)) s.entries,
)
