-- Settling, queue by queue in their places: how far it has come.
use Rattle.std.proofs.Common.{◌≡◌, ◌∙◌, ℕ, zero, suc, ◌+◌, ◌<◌, ◌≤◌, cond, List, [], ◌∷◌, ◌++◌, length, get_or, refl, sym, ap, subst, arith, Option, None, Some, slice_get}
use Rattle.std.specs.Ordering.{nat_cmp, ordering_reverse}
use Rattle.std.specs.Cmp.{tied_itself}
use Rattle.std.specs.Cmp.Lexicographic.{nat_list_cmp_total}
use Rattle.std.proofs.lemmas.List.{get_or_default}
use Rattle.qm_keyed.specs.Places.{StandsAt}
use Rattle.qm_keyed.proofs.Rows.{next_behind}
use Rattle.qm_model.specs.Common.{Queue, Start, System, IsInOrder, name_cmp, AreStarts, settled}
use Rattle.qm_tables.specs.Queues.{comes_after, queue_after}
use Rattle.qm_tables.proofs.QueueNames.{name_of}
use Rattle.qm_ready.proofs.Tiered.{slice_get_at, slice_get_past}
use Rattle.qm_sched.specs.Choosing.{next_start, takes_jobs, execution_queues, IsNextStart}
use Rattle.qm_parts.specs.Tables.{Tables, with_tables}
use Rattle.qm_sched.proofs.Starting.{blank}
use Rattle.qm_sched.proofs.Progress.{Progress, begun, ended, passed_by, starts_next, has_room, one_more, all_behind, one_look, at_most_one, fewer_executing, execution_behind}

-- ---- the queue at a place

pub queue_at : (qs : List Queue) (place : ℕ) → place < length qs → Queue
queue_at [] place within = absurd (omega (arith, within))
queue_at (q ∷ qs) zero within = q
queue_at (q ∷ qs) (suc place) within = queue_at qs place (omega (arith, within))

module _ (qs : List Queue) (order : IsInOrder name_cmp name_of qs) (place : ℕ) (within : place < length qs) (d : Queue) where
  abbrev it : Queue
  it = get_or qs place d

  its_name : (q : Queue) → (get_or qs place q).name ≡ it.name
  its_name q = ap name_of (get_or_default qs place q d within)

  -- stands there by its name
  pub stands_itself : StandsAt name_cmp name_of it.name qs place
  stands_itself = record {
    within = within;
    before = λ k q low below. ap (λ (n : List ℕ). name_cmp (get_or qs k q).name n) (sym (its_name q)) ∙ order k place q below within;
    here = λ q. ap (λ (n : List ℕ). name_cmp n it.name) (its_name q) ∙ tied_itself nat_list_cmp_total it.name;
    behind = λ k q low inside.
        nat_list_cmp_total.antisymm (get_or qs k q).name it.name
        ∙ ap ordering_reverse (ap (λ (n : List ℕ). name_cmp n (get_or qs k q).name) (sym (its_name q)) ∙ order place k q (omega (arith, low)) inside);
  }

  -- and the next one by name stands behind it
  pub next_place : queue_after (Some it.name) qs ≡ slice_get qs (place + 1)
  next_place = next_behind nat_list_cmp_total name_of it.name (comes_after (Some it.name)) (λ q. refl) qs place stands_itself

first_place : (qs : List Queue) → queue_after None qs ≡ slice_get qs 0
first_place [] = refl
first_place (q ∷ qs) = refl

-- ---- how far settling has come

-- No queue before the place can start a job, and these starts lead from the one tables to the others. So many looks were made, and with
-- one for each execution queue from the place on they are at most so many.
pub record Reached (from t : Tables) (out : List Start) (place looked most : ℕ) : Type 0 where
  pub behind : Option (List ℕ)
  pub progress : Progress from t out behind
  pub next : queue_after behind t.queues ≡ slice_get t.queues place
  pub looks : looked + execution_behind behind t.queues ≤ most

pub at_first : (t : Tables) (out : List Start) (looked : ℕ) → out ≡ [] → Reached t t out 0 looked (looked + length out + execution_queues t.queues)
at_first t out looked empty = record {
  behind = None;
  progress = subst (λ (o : List Start). Progress t t o None) (sym empty) (begun t);
  next = first_place t.queues;
  looks = omega (arith, all_behind t.queues);
}

module _ (from t : Tables) (out : List Start) (place looked most : ℕ) (h : Reached from t out place looked most) where
  pub all_settled : length t.queues ≤ place → (s : System) → settled (with_tables s from) ≡ record { system = with_tables s t; started = out }
  all_settled past = ended from t out h.behind h.progress (h.next ∙ slice_get_past t.queues place past)

  pub few_looks : looked ≤ most
  few_looks = omega (arith, h.looks)

  module _ (within : place < length t.queues) where
    abbrev any : Queue
    any = queue_at t.queues place within

    abbrev q : Queue
    q = get_or t.queues place any

    found : queue_after h.behind t.queues ≡ Some q
    found = h.next ∙ slice_get_at t.queues place any within

    -- a queue that starts nothing is passed
    pub one_passed : (after : ℕ) → IsInOrder name_cmp name_of t.queues → ((s : System) (p : Queue) → None ≡ next_start (with_tables s t) (get_or t.queues place p))
        → ((s : System) (p : Queue) → after ≡ looked + cond (takes_jobs (with_tables s t) (get_or t.queues place p)) 1 0) → Reached from t out (place + 1) after most
    one_passed after order none looks = record {
      behind = Some q.name;
      progress = passed_by from t out h.behind h.progress q found order (λ s. none s any);
      next = next_place t.queues order place within any;
      looks = omega (arith, h.looks, looks blank any, one_look (with_tables blank t) q, fewer_executing h.behind q t.queues order found);
    }

    module _ (start : Start) (some : (s : System) (p : Queue) → Some start ≡ next_start (with_tables s t) (get_or t.queues place p)) where
      pub it_starts_next : (s : System) → IsNextStart (with_tables s t) start
      it_starts_next = starts_next from t out h.behind h.progress q found start (λ s. some s any)

      pub room_for_it : (s : System) → length out + 1 ≤ length (settled (with_tables s from)).started
      room_for_it = has_room from t out h.behind h.progress q found start (λ s. some s any)

      -- and one that starts a job is asked again
      pub one_started : (u : Tables) (now : List Start) (after more : ℕ) → ((s : System) → AreStarts (with_tables s t) (start ∷ []) (with_tables s u)) → IsInOrder nat_cmp (λ e. e.number) t.entries
          → u.queues ≡ t.queues → now ≡ out ++ start ∷ [] → ((s : System) (p : Queue) → after ≡ looked + cond (takes_jobs (with_tables s t) (get_or t.queues place p)) 1 0)
          → most + 1 ≤ more → Reached from u now place after more
      one_started u now after more one order queues is looks greater = record {
        behind = h.behind;
        progress = subst (λ (o : List Start). Progress from u o h.behind) (sym is) (one_more from t out h.behind h.progress start u one order);
        next = ap (queue_after h.behind) queues ∙ h.next ∙ ap (λ (qs : List Queue). slice_get qs place) (sym queues);
        looks = omega (
          arith,
          h.looks,
          looks blank any,
          at_most_one (takes_jobs (with_tables blank t) q),
          greater,
          ap (execution_behind h.behind) queues,
        );
      }
