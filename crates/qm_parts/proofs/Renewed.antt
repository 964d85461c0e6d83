-- Rows that have an old key of a job, and what becomes of them.
use Rattle.std.proofs.Common.{◌≡◌, ◌∙◌, ℕ, ◌<◌, ◌≤◌, ◌==◌, Bool, true, false, cond, List, length, get_or, Option, None, Some, refl, sym, ap, subst, arith, IfSome, option_and_then, option_map}
use Rattle.qm_model.specs.Common.{Entry, Queue, entry_numbered, fits, no_system, is_pending, with_entry}
use Rattle.qm_match.specs.declared.order.Key.{Key}
use Rattle.qm_match.specs.Keys.{key_of}
use Rattle.qm_ready.specs.Rows.{Row, key_numbered}
use Rattle.qm_parts.specs.Ready.{key_where_ready, ready_key, without_number, IsRowOf, IsStale, AreReady, AreReadyBut, AreStale}
use Rattle.qm_renewal.specs.Renewing.{pending_key}
use Rattle.qm_parts.specs.Tables.{Tables, with_tables}
use Rattle.qm_parts.proofs.Each.{AreDone}
use Rattle.qm_parts.proofs.ReadyKeys.{found_changed, itself, none_ready, not_pending, number_found, ready_replaced, same_number}
use Rattle.qm_parts.proofs.RowLoops.{IsMade}

-- ---- the key that rows may have

-- it has the job's number,
pub pending_number : (n : ℕ) (es : List Entry) → IfSome (option_and_then pending_key (entry_numbered n es)) (λ k. k.number ≡ n)
pending_number n es = at_it (entry_numbered n es) refl
  where
    its : (b : Bool) (e : Entry) → e.number ≡ n → IfSome (cond b (Some (key_of e)) None) (λ k. k.number ≡ n)
    its true e number = number
    its false e number = tt

    at_it : (o : Option Entry) → entry_numbered n es ≡ o → IfSome (option_and_then pending_key o) (λ k. k.number ≡ n)
    at_it None found = tt
    at_it (Some e) found = its (is_pending e.state) e (number_found n e es found)

-- and none is there where there is no job
pub none_before : (new : Entry) (es : List Entry) → entry_numbered new.number (with_entry new.number (λ e. Some new) es) ≡ None → option_and_then pending_key (entry_numbered new.number es) ≡ None
none_before new es none = ap (option_and_then pending_key) (gone (entry_numbered new.number es) changed)
  where
    changed : option_map (λ (e : Entry). new) (entry_numbered new.number es) ≡ None
    changed =
        sym (ap (λ (b : Bool). cond b (option_map (λ (e : Entry). new) (entry_numbered new.number es)) (entry_numbered new.number es)) (itself new.number))
        ∙ sym (found_changed new.number new.number (λ (e : Entry). new) (λ e is. itself new.number) es) ∙ none

    gone : (o : Option Entry) → option_map (λ (e : Entry). new) o ≡ None → o ≡ None
    gone None is = refl
    gone (Some e) is = absurd (cc)

-- what a queue has of a job is that key
fits_pending : (t : Tables) (q : Queue) (o : Option Entry) → IfSome (option_and_then (key_where_ready t q) o) (λ key. option_and_then pending_key o ≡ Some key)
fits_pending t q None = tt
fits_pending t q (Some e) = at_it (is_pending e.state) refl
  where
    at_it : (b : Bool) → is_pending e.state ≡ b → IfSome (key_where_ready t q e) (λ key. pending_key e ≡ Some key)
    at_it true is = its (fits (with_tables no_system t) e q)
      where
        its : (c : Bool) → IfSome (cond c (Some (key_of e)) None) (λ key. pending_key e ≡ Some key)
        its true = ap (λ (b : Bool). cond b (Some (key_of e)) None) is
        its false = tt
    at_it false is = subst (λ (o : Option Key). IfSome o (λ key. pending_key e ≡ Some key)) (sym (not_pending t q e is)) tt

module _ (t : Tables) (rows : List Row) where
  other_number : (q : Queue) (new : Entry) (number : ℕ) → (new.number == number) ≡ false → ready_key t q number ≡ ready_key (record t { entries = with_entry new.number (λ e. Some new) t.entries }) q number
  other_number q new number other =
      let u : Tables = record t { entries = with_entry new.number (λ e. Some new) t.entries } in
      sym (ap (λ (b : Bool). cond b None (ready_key t q number)) other) ∙ ready_replaced t q number new ∙ ap (λ (b : Bool). cond b None (ready_key u q number)) other

  -- where another entry stands under the number, the rows have the job by its old key, or not
  pub stale_rows : (new : Entry) (runs : ℕ) → AreReady t rows
      → AreStale new.number (option_and_then pending_key (entry_numbered new.number t.entries)) (record t { entries = with_entry new.number (λ e. Some new) t.entries; spare_runs = runs }) rows
  stale_rows new runs ready place q row within =
      let one = ready place q row within in
      let it : Queue = get_or t.queues place q in
      record {
        schedule = one.schedule;
        others = λ number other. one.keys number ∙ other_number it new number other;
        stale = subst (λ (o : Option Key). IfSome o (λ key. option_and_then pending_key (entry_numbered new.number t.entries) ≡ Some key)) (sym (one.keys new.number))
            (fits_pending t it (entry_numbered new.number t.entries));
      }

  -- rows that lack the job have no old key of it
  pub but_stale : (n : ℕ) → AreReadyBut n t rows → AreStale n None t rows
  but_stale n but place q row within =
      let one = but place q row within in
      let it : Queue = get_or t.queues place q in
      record {
        schedule = one.schedule;
        others = λ number other. one.keys number ∙ ap (λ (b : Bool). cond b None (ready_key t it number)) other;
        stale = subst (λ (o : Option Key). IfSome o (λ key. None ≡ Some key)) (sym (one.keys n ∙ ap (λ (b : Bool). cond b None (ready_key t it n)) (itself n))) tt;
      }

  -- where there is no such job the rows are those of the jobs that are ready
  pub none_stale : (n : ℕ) (old : Option Key) → old ≡ None → entry_numbered n t.entries ≡ None → AreStale n old t rows → AreReady t rows
  none_stale n old none absent stale place q row within =
      let one = stale place q row within in
      let it : Queue = get_or t.queues place q in
      record {
        schedule = one.schedule;
        keys = λ number. at_it number it (get_or rows place row) (n == number) refl one.others (lacks (key_numbered n (get_or rows place row).keys) one.stale);
      }
    where
      lacks : (o : Option Key) → IfSome o (λ key. old ≡ Some key) → o ≡ None
      lacks None is = refl
      lacks (Some k) is = absurd (let it : old ≡ Some k = is in cc)

      at_it : (number : ℕ) (it : Queue) (r : Row) (b : Bool) → (n == number) ≡ b → ((m : ℕ) → (n == m) ≡ false → key_numbered m r.keys ≡ ready_key t it m) → key_numbered n r.keys ≡ None → key_numbered number r.keys ≡ ready_key t it number
      at_it number it r true same others here =
          let is : n ≡ number = same_number n number same in
          ap (λ (m : ℕ). key_numbered m r.keys) (sym is) ∙ here ∙ sym (none_ready t it n absent) ∙ ap (ready_key t it) is
      at_it number it r false other others here = others number other

-- ---- one row

module _ (t : Tables) (q : Queue) (e : Entry) (there : entry_numbered e.number t.entries ≡ Some e) (old : Option Key) (row : Row) (is : IsStale e.number old q (ready_key t q) row) where
  ready_is : ready_key t q e.number ≡ key_where_ready t q e
  ready_is = ap (option_and_then (key_where_ready t q)) there

  -- a row that has no key of the job lacks just that
  pub stale_absent : key_numbered e.number row.keys ≡ None → IsRowOf q (without_number e.number (ready_key t q)) row
  stale_absent none = record { schedule = is.schedule; keys = λ m. at_it m (e.number == m) refl }
    where
      at_it : (m : ℕ) (b : Bool) → (e.number == m) ≡ b → key_numbered m row.keys ≡ cond b None (ready_key t q m)
      at_it m true same = ap (λ (k : ℕ). key_numbered k row.keys) (sym (same_number e.number m same)) ∙ none
      at_it m false other = is.others m other

  -- a row that has what the queue wants of the job is the queue's
  pub renewed : (new : Row) (key : Option Key) → key_where_ready t q e ≡ key → new.schedule ≡ row.schedule → ((m : ℕ) → key_numbered m new.keys ≡ cond (e.number == m) key (key_numbered m row.keys)) → IsRowOf q (ready_key t q) new
  renewed new key wants schedule each = record { schedule = schedule ∙ is.schedule; keys = λ m. each m ∙ at_it m (e.number == m) refl }
    where
      at_it : (m : ℕ) (b : Bool) → (e.number == m) ≡ b → cond b key (key_numbered m row.keys) ≡ ready_key t q m
      at_it m true same = sym (ap (ready_key t q) (sym (same_number e.number m same)) ∙ ready_is ∙ wants)
      at_it m false other = is.others m other

-- ---- row by row

-- the row that is next to be changed is as it was
pub stale_next : (t : Tables) (n : ℕ) (key : Option Key) (place : ℕ) (q : Queue) (row : Row) (before now : List Row) → AreDone (IsMade (ready_key t) t.queues) place before now → AreStale n key t before
    → place < length t.queues → length t.queues ≤ length before → q ≡ get_or t.queues place q → row ≡ get_or now place row → IsStale n key q (ready_key t q) row
stale_next t n key place q row before now done are within enough is read =
    subst (λ (x : Queue). IsStale n key x (ready_key t x) row) (sym is)
    (subst (IsStale n key (get_or t.queues place q) (ready_key t (get_or t.queues place q))) (sym (read ∙ done.left place row (omega arith) (omega (arith, within, enough)))) (are place q row within))
