-- Queues that are stopped one by one.
use Rattle.std.proofs.Common.{◌≡◌, ◌∙◌, ℕ, zero, suc, ◌+◌, ◌<◌, ◌≤◌, nat_lt, Bool, false, List, [], ◌∷◌, ◌++◌, length, get_or, set, take, drop, map, refl, sym, ap, arith, add-one, bytes_eq, Ordering, Less, Equal, Greater}
use Rattle.std.specs.Ordering.{ordering_reverse}
use Rattle.std.specs.Cmp.Lexicographic.{nat_list_cmp_total}
use Rattle.std.proofs.lemmas.List.{get_or_default, take_all, drop_all, append-nil}
use Rattle.qm_model.specs.Common.{Entry, Queue, QueueState, Stopped, Stopping, Run, IsInOrder, name_cmp, with_queue, occupies, when_idle, state_when_idle}
use Rattle.qm_keyed.specs.Places.{StandsAt}
use Rattle.qm_tables.specs.Queues.{Kept}
use Rattle.qm_tables.proofs.QueueNames.{name_of, changed, kept_as}
use Rattle.qm_tables.specs.Runs.{places_in_use}
use Rattle.qm_parts.specs.Mirror.{Mirrors, stopped_unless_used}
use Rattle.qm_parts.proofs.Counts.{any_counted}
use Rattle.qm_parts.proofs.Mirrored.{count_as, in_queue}

-- ---- the queue at a place

itself_at : (o : Ordering) → o ≡ ordering_reverse o → o ≡ Equal
itself_at Less is = absurd (cc)
itself_at Equal is = refl
itself_at Greater is = absurd (cc)

itself : (name : List ℕ) → name_cmp name name ≡ Equal
itself name = itself_at (name_cmp name name) (nat_list_cmp_total.antisymm name name)

stands : (queues : List Queue) (i : ℕ) (d : Queue) → IsInOrder name_cmp name_of queues → i < length queues → StandsAt name_cmp name_of (get_or queues i d).name queues i
stands queues i d order within = record {
  within = within;
  before = λ k e low below. ap (λ (q : Queue). name_cmp (get_or queues k e).name q.name) (get_or_default queues i d e within) ∙ order k i e below within;
  here = λ e. ap (λ (q : Queue). name_cmp (get_or queues i e).name q.name) (get_or_default queues i d e within) ∙ itself (get_or queues i e).name;
  behind = λ k e low inside.
      ap (λ (q : Queue). name_cmp (get_or queues k e).name q.name) (get_or_default queues i d e within)
      ∙ nat_list_cmp_total.antisymm (get_or queues k e).name (get_or queues i e).name
      ∙ ap ordering_reverse (order i k e (omega (arith, low)) inside);
}

module _ (runs : List Run) where
  abbrev one : Queue → Queue
  one q = stopped_unless_used runs q

  stop_is_at : (q : Queue) (state : QueueState) (used : Bool) → q.state ≡ state → state ≡ Stopping → used ≡ false → record q { state = Stopped } ≡ record q { state = state_when_idle used q.state }
  stop_is_at q state used is stopping idle =
      ap (λ (s : QueueState). record q { state = s }) (sym (ap (λ (s : QueueState). state_when_idle used s) (is ∙ stopping) ∙ ap (λ (b : Bool). state_when_idle b Stopping) idle))

  -- a queue that is stopping and isn't used is stopped
  pub stop_is : (queues : List Queue) (i : ℕ) (q : Queue) → IsInOrder name_cmp name_of queues → i < length queues → q ≡ get_or queues i q → q.state ≡ Stopping → nat_lt 0 (places_in_use q.name runs) ≡ false
      → (d : Queue) → with_queue q.name (λ p. record p { state = Stopped }) queues ≡ set queues i (one (get_or queues i d))
  stop_is queues i q order within read stopping idle d =
      ap (λ (p : Queue). with_queue p.name (λ x. record x { state = Stopped }) queues) read
      ∙ sym (changed queues (get_or queues i q).name i (λ p. record p { state = Stopped }) q (stands queues i q order within))
      ∙ ap (set queues i)
      (ap (λ (p : Queue). record p { state = Stopped }) (sym read)
      ∙ stop_is_at q q.state (nat_lt 0 (places_in_use q.name runs)) refl stopping idle
      ∙ ap one (read ∙ get_or_default queues i q d within))

  -- ---- place by place

  abbrev pub mixed : ℕ → List Queue → List Queue
  mixed i queues = map one (take i queues) ++ drop i queues

  pub length_mixed : (i : ℕ) (queues : List Queue) → length (mixed i queues) ≡ length queues
  length_mixed zero queues = refl
  length_mixed (suc i) [] = refl
  length_mixed (suc i) (q ∷ queues) = ap suc (length_mixed i queues)

  stepped : (i : ℕ) (queues : List Queue) (d : Queue) → i < length queues → set (mixed i queues) i (one (get_or (mixed i queues) i d)) ≡ mixed (suc i) queues
  stepped i [] d within = absurd (omega (arith, within))
  stepped zero (q ∷ queues) d within = refl
  stepped (suc i) (q ∷ queues) d within = ap (λ (qs : List Queue). one q ∷ qs) (stepped i queues d (omega (arith, within)))

  -- the queue at the next place is stopped, where it is to be
  pub kept_more : (i : ℕ) (queues : List Queue) (old new : Kept) (spare : ℕ) → i < length queues → old ≡ kept_as (mixed i queues) spare
      → ((d : Queue) → new ≡ kept_as (set old.queues i (one (get_or old.queues i d))) old.spare) → new ≡ kept_as (mixed (i + 1) queues) spare
  kept_more i [] old new spare within before is = absurd (omega (arith, within))
  kept_more i (q ∷ queues) old new spare within before is =
      is q
      ∙ ap (λ (k : Kept). kept_as (set k.queues i (one (get_or k.queues i q))) k.spare) before
      ∙ ap (λ (qs : List Queue). kept_as qs spare) (stepped i (q ∷ queues) q within ∙ ap (λ (n : ℕ). mixed n (q ∷ queues)) (sym (add-one i)))

  pub mixed_all : (i : ℕ) (queues : List Queue) → length queues ≤ i → mixed i queues ≡ map one queues
  mixed_all i queues past = rw (take_all i queues past, drop_all i queues past) (append-nil (map one queues))

  -- ---- a queue has a run where an entry occupies it

  idle_one : (es : List Entry) → Mirrors runs es → (q : Queue) → one q ≡ when_idle es q
  idle_one es mirror q =
      ap (λ (b : Bool). record q { state = state_when_idle b q.state })
      (ap (nat_lt 0) (count_as runs es mirror (λ (r : Run). bytes_eq r.queue q.name) (occupies q.name) (in_queue q.name es)) ∙ any_counted (occupies q.name) es)

  pub all_idle : (es : List Entry) → Mirrors runs es → (queues : List Queue) → map one queues ≡ map (when_idle es) queues
  all_idle es mirror [] = refl
  all_idle es mirror (q ∷ queues) =
      ap (λ (p : Queue). p ∷ map one queues) (idle_one es mirror q) ∙ ap (λ (qs : List Queue). when_idle es q ∷ qs) (all_idle es mirror queues)
