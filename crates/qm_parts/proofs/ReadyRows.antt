-- The rows of tables in which one entry changed.
use Rattle.std.proofs.Common.{◌≡◌, ◌∙◌, ℕ, ◌<◌, ◌==◌, Bool, true, false, cond, List, [], ◌∷◌, ◌++◌, map, None, Some, refl, sym, ap, All, option_and_then}
use Rattle.qm_model.specs.Common.{Entry, Running, Fate, Queue, entry_numbered, is_pending, with_entry, with_fate, reset_in}
use Rattle.qm_ready.specs.Rows.{Row}
use Rattle.qm_parts.specs.Ready.{key_where_ready, ready_key, without_number, AreReady, AreReadyBut}
use Rattle.qm_parts.specs.Tables.{Tables}
use Rattle.qm_parts.proofs.KeptRows.{same_rows}
use Rattle.qm_parts.proofs.ReadyKeys.{ready_with_fate, ready_reset, ready_gone, ready_started, ready_behind, none_ready, same_number, not_pending}

module _ (t : Tables) (rows : List Row) where
  pub fate_rows : (n : ℕ) (fate : Fate) → AreReady t rows → AreReady (record t { entries = with_entry n (λ e. Some (with_fate fate e)) t.entries }) rows
  fate_rows n fate =
      same_rows (ready_key t) (ready_key (record t { entries = with_entry n (λ e. Some (with_fate fate e)) t.entries })) t.queues rows (λ q number. sym (ready_with_fate t q number n fate))

  pub reset_rows : (name : List ℕ) → AreReady t rows → AreReady (record t { entries = map (reset_in name) t.entries }) rows
  reset_rows name = same_rows (ready_key t) (ready_key (record t { entries = map (reset_in name) t.entries })) t.queues rows (λ q number. sym (ready_reset t q number name))

  -- an entry that isn't there is in no row
  but_none : (n : ℕ) → entry_numbered n t.entries ≡ None → (q : Queue) (number : ℕ) → ready_key t q number ≡ without_number n (ready_key t q) number
  but_none n none q number = at_it (n == number) refl
    where
      at_it : (b : Bool) → (n == number) ≡ b → ready_key t q number ≡ cond b None (ready_key t q number)
      at_it true same = ap (ready_key t q) (sym (same_number n number same)) ∙ none_ready t q n none
      at_it false same = refl

  pub absent_but : (n : ℕ) → entry_numbered n t.entries ≡ None → AreReady t rows → AreReadyBut n t rows
  absent_but n none = same_rows (ready_key t) (λ q. without_number n (ready_key t q)) t.queues rows (but_none n none)

  -- one that isn't pending is in none either
  idle_none : (n : ℕ) (e : Entry) → entry_numbered n t.entries ≡ Some e → is_pending e.state ≡ false → (q : Queue) (number : ℕ) → ready_key t q number ≡ without_number n (ready_key t q) number
  idle_none n e there idle q number = at_it (n == number) refl
    where
      at_it : (b : Bool) → (n == number) ≡ b → ready_key t q number ≡ cond b None (ready_key t q number)
      at_it true same = ap (ready_key t q) (sym (same_number n number same)) ∙ ap (option_and_then (key_where_ready t q)) there ∙ not_pending t q e idle
      at_it false same = refl

  pub idle_but : (n : ℕ) (e : Entry) → entry_numbered n t.entries ≡ Some e → is_pending e.state ≡ false → AreReady t rows → AreReadyBut n t rows
  idle_but n e there idle = same_rows (ready_key t) (λ q. without_number n (ready_key t q)) t.queues rows (idle_none n e there idle)

  -- an entry goes,
  pub gone_rows : (n runs : ℕ) → AreReadyBut n t rows → AreReady (record t { entries = with_entry n (λ e. None) t.entries; spare_runs = runs }) rows
  gone_rows n runs =
      same_rows (λ q. without_number n (ready_key t q)) (ready_key (record t { entries = with_entry n (λ e. None) t.entries; spare_runs = runs })) t.queues rows (λ q number. sym (ready_gone t q number n))

  -- starts,
  pub started_rows : (n : ℕ) (queue node : List ℕ) (run next runs : ℕ) → AreReadyBut n t rows
      → AreReady (record t { entries = with_entry n (λ e. Some (record e { state = Running queue node run })) t.entries; next_run = next; spare_runs = runs }) rows
  started_rows n queue node run next runs =
      same_rows (λ q. without_number n (ready_key t q))
      (ready_key (record t { entries = with_entry n (λ e. Some (record e { state = Running queue node run })) t.entries; next_run = next; spare_runs = runs })) t.queues rows
      (λ q number. sym (ready_started t q number n queue node run))

  -- or comes
  pub behind_rows : (new : Entry) (spare : ℕ) → All (λ e. e.number < new.number) t.entries → AreReady t rows
      → AreReadyBut new.number (record t { entries = t.entries ++ new ∷ []; spare_entries = spare }) rows
  behind_rows new spare less =
      same_rows (ready_key t) (λ q. without_number new.number (ready_key (record t { entries = t.entries ++ new ∷ []; spare_entries = spare }) q)) t.queues rows (λ q number. ready_behind t q number new less)
