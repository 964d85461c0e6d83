-- The row of a queue has just the jobs that fit.
use Rattle.std.proofs.Common.{◌≡◌, ◌∙◌, ℕ, ◌==◌, Bool, true, false, cond, List, [], ◌∷◌, map, filter, Option, None, Some, refl, sym, subst, IfSome, option_map, nat_cmp}
use Rattle.qm_model.specs.Common.{Entry, Queue, System, IsInOrder, entry_numbered, fits}
use Rattle.qm_match.specs.declared.order.Schedule.{Schedule}
use Rattle.qm_match.specs.Keys.{key_of, schedule_of}
use Rattle.qm_ready.specs.Rows.{Row, IsRow, key_numbered}
use Rattle.qm_ready.specs.Jobs as jobs
use Rattle.qm_parts.specs.Ready.{ready_key, IsRowOf}
use Rattle.qm_parts.specs.Tables.{Tables, with_tables}
use Rattle.qm_parts.proofs.RowKeys.{gathered}

keys_at : (n : ℕ) (e : Entry) (es : List Entry) (b : Bool) → key_numbered n (map key_of es) ≡ option_map key_of (entry_numbered n es)
    → cond b (Some (key_of e)) (key_numbered n (map key_of es)) ≡ option_map key_of (cond b (Some e) (entry_numbered n es))
keys_at n e es true later = refl
keys_at n e es false later = later

keys_of : (n : ℕ) (es : List Entry) → key_numbered n (map key_of es) ≡ option_map key_of (entry_numbered n es)
keys_of n [] = refl
keys_of n (e ∷ es) = keys_at n e es (e.number == n) (keys_of n es)

module _ (s : System) (t : Tables) (q : Queue) (row : Row) (order : IsInOrder nat_cmp (λ (e : Entry). e.number) t.entries) (is : IsRowOf q (ready_key t q) row) (kept : IsRow row.schedule row.keys) where
  abbrev fit : Entry → Bool
  fit e = fits (with_tables s t) e q

  pub as_jobs : jobs.IsRowOf (schedule_of q) (filter fit t.entries) row.keys
  as_jobs = record {
    row = subst (λ (schedule : Schedule). IsRow schedule row.keys) is.schedule kept;
    same = λ n. is.keys n ∙ sym (gathered fit n t.entries order) ∙ keys_of n (filter fit t.entries);
  }

-- a row that is told has just the jobs that fit
pub all_jobs : (s : System) (t : Tables) (found : Option Queue) (row : Row) → IsInOrder nat_cmp (λ (e : Entry). e.number) t.entries → IsRow row.schedule row.keys
    → IfSome found (λ q. IsRowOf q (ready_key t q) row) → IfSome found (λ q. jobs.IsRowOf (schedule_of q) (jobs.fitting (with_tables s t) q) row.keys)
all_jobs s t None row order kept is = tt
all_jobs s t (Some q) row order kept is = as_jobs s t q row order is kept
