-- The first key of a queue's row is that of the job which the queue starts next.
use Rattle.std.proofs.Common.{◌≡◌, ◌∙◌, ℕ, Bool, true, false, not, ◌&&◌, filter, Option, None, Some, refl, sym, ap, option_map, nat_cmp}
use Rattle.qm_model.specs.Common.{Entry, Queue, System, IsInOrder, entry_numbered, fits, is_open, is_free, is_generic, next_job, has_run_numbers}
use Rattle.qm_model.proofs.SettlingLemmas.{first_in, in_filter}
use Rattle.qm_model.proofs.ListLemmas.{in_all}
use Rattle.qm_ready.specs.Rows.{Row, IsRow, first_number}
use Rattle.qm_ready.proofs.Jobs.{first_is_next}
use Rattle.qm_sched.specs.Choosing.{takes_jobs, next_start}
use Rattle.qm_parts.specs.Ready.{ready_key, IsRowOf}
use Rattle.qm_parts.specs.Tables.{Tables, with_tables}
use Rattle.qm_sched.proofs.Chosen.{closed_starts_nothing, full_starts_nothing, generic_starts_nothing}
use Rattle.qm_parts.proofs.Ordered.{each_found}
use Rattle.qm_parts.proofs.RowJobs.{as_jobs}

-- ---- a queue that takes no job starts none

takes_at : (s : System) (q : Queue) (g o f : Bool) → not (is_generic q.kind) ≡ g → is_open s q ≡ o → (has_run_numbers s && is_free s q) ≡ f → ((g && o) && f) ≡ false → next_start s q ≡ None
takes_at s q false o f kind opened free none = generic_starts_nothing s q kind
takes_at s q true false f kind opened free none = closed_starts_nothing s q opened
takes_at s q true true false kind opened free none = full_starts_nothing s q free
takes_at s q true true true kind opened free none = absurd (cc)

pub takes_nothing : (s : System) (q : Queue) → takes_jobs s q ≡ false → next_start s q ≡ None
takes_nothing s q none = takes_at s q (not (is_generic q.kind)) (is_open s q) (has_run_numbers s && is_free s q) refl refl refl none

and_last : (a b : Bool) → (a && b) ≡ true → b ≡ true
and_last true b is = is
and_last false b is = absurd (cc)

pub takes_with_place : (s : System) (q : Queue) → takes_jobs s q ≡ true → (has_run_numbers s && is_free s q) ≡ true
takes_with_place s q takes = and_last (not (is_generic q.kind) && is_open s q) (has_run_numbers s && is_free s q) takes

-- the tests one by one
pub not_executing : (s : System) (q : Queue) → not (is_generic q.kind) ≡ false → takes_jobs s q ≡ false
not_executing s q is = ap (λ (b : Bool). b && is_open s q && (has_run_numbers s && is_free s q)) is

pub not_open : (s : System) (q : Queue) → not (is_generic q.kind) ≡ true → is_open s q ≡ false → takes_jobs s q ≡ false
not_open s q kind is =
    ap (λ (b : Bool). b && is_open s q && (has_run_numbers s && is_free s q)) kind ∙ ap (λ (b : Bool). b && (has_run_numbers s && is_free s q)) is

pub by_place : (s : System) (q : Queue) → not (is_generic q.kind) ≡ true → is_open s q ≡ true → takes_jobs s q ≡ (has_run_numbers s && is_free s q)
by_place s q kind is =
    ap (λ (b : Bool). b && is_open s q && (has_run_numbers s && is_free s q)) kind ∙ ap (λ (b : Bool). b && (has_run_numbers s && is_free s q)) is

-- ---- what a row tells

module _ (s : System) (t : Tables) (q : Queue) (row : Row) (order : IsInOrder nat_cmp (λ (e : Entry). e.number) t.entries) (is : IsRowOf q (ready_key t q) row) (kept : IsRow row.schedule row.keys) where
  abbrev fit : Entry → Bool
  fit e = fits (with_tables s t) e q

  first_is : first_number row.keys ≡ option_map (λ (e : Entry). e.number) (next_job (with_tables s t) q)
  first_is = first_is_next (with_tables s t) q row.keys order (as_jobs s t q row order is kept)

  found_itself : (x : Entry) → next_job (with_tables s t) q ≡ Some x → entry_numbered x.number t.entries ≡ Some x
  found_itself x job =
      in_all (λ (y : Entry). entry_numbered y.number t.entries ≡ Some y) x t.entries (each_found (λ (e : Entry). e.number) t.entries order)
      (in_filter fit x t.entries (first_in q x (filter fit t.entries) job)).0

  none_at : (o : Option Entry) → next_job (with_tables s t) q ≡ o → None ≡ option_map (λ (e : Entry). e.number) o → next_job (with_tables s t) q ≡ None
  none_at None job none = job
  none_at (Some x) job none = absurd (cc)

  pub no_job : first_number row.keys ≡ None → next_job (with_tables s t) q ≡ None
  no_job none = none_at (next_job (with_tables s t) q) refl (sym none ∙ first_is)

  job_at : (n : ℕ) (found o : Option Entry) → entry_numbered n t.entries ≡ found → next_job (with_tables s t) q ≡ o → Some n ≡ option_map (λ (e : Entry). e.number) o → next_job (with_tables s t) q ≡ found
  job_at n found None there job some = absurd (cc)
  job_at n found (Some x) there job some =
      let same : n ≡ x.number = cc in
      job ∙ sym (found_itself x job) ∙ ap (λ (m : ℕ). entry_numbered m t.entries) (sym same) ∙ there

  -- the job of its number is the next one
  pub job_is : (n : ℕ) (found : Option Entry) → first_number row.keys ≡ Some n → entry_numbered n t.entries ≡ found → next_job (with_tables s t) q ≡ found
  job_is n found some there = job_at n found (next_job (with_tables s t) q) there refl (sym some ∙ first_is)
