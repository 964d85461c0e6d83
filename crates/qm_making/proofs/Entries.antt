-- What holds of the entries still, after one of them came, went or changed.
use Rattle.std.proofs.Common.{◌≡◌, ◌∙◌, ℕ, ◌+◌, ◌<◌, Bool, true, false, cond, List, [], ◌∷◌, ◌++◌, get_or, map, find, Option, Some, None, refl, sym, ap, arith, subst, All, count_by, IfSome, nat_cmp, append-nil}
use Rattle.std.proofs.lemmas.List.Sums.{sum_by-cons}
use Rattle.qm_model.specs.Common.{IsInOrder, same_file_name, entry_numbered, Entry, Fate, EntryState, Pending, Holding, Timed, Running, Aborting, Retained, with_entry, is_running_in, state_with_fate, with_fate, reset_fate, reset_in}
use Rattle.qm_parts.proofs.Left.{absent_stays, agree_at_it}
use Rattle.qm_tables.proofs.NamedRows.{itself}
use Rattle.std.proofs.lemmas.List.Elements.{All-head, All-tail}
use Rattle.qm_model.specs.Merging.{moved_to, waits_in}
use Rattle.qm_tables.specs.Spool.{Counted, count_of}
use Rattle.qm_tables.specs.SpoolCounts.{CountsOf, IsCountedAs}
use Rattle.qm_tables.proofs.SpoolCounting.{counts_entered, counts_kept, counts_changed}
use Rattle.qm_image.specs.Timers.{moment_in, AreTimersOf}
use Rattle.qm_image.proofs.Timed.{wanted_map, wanted_changed}
use Rattle.qm_image.specs.Preparing.{IsLeftOf}

-- ---- the timers that entries want

-- a job that is to be cut short wants those that it had
fate_moment : (fate : Fate) (state : EntryState) → moment_in (state_with_fate fate state) ≡ moment_in state
fate_moment fate Pending = refl
fate_moment fate Holding = refl
fate_moment fate (Timed at) = refl
fate_moment fate (Running queue node run) = refl
fate_moment fate (Aborting queue node run old) = refl
fate_moment fate (Retained status until) = refl

pub timers_with_fate : (number : ℕ) (fate : Fate) (es : List Entry) (timers : List (ℕ × ℕ)) → AreTimersOf es timers → AreTimersOf (with_entry number (λ e. Some (with_fate fate e)) es) timers
timers_with_fate number fate es timers are = λ m.
    are m ∙ sym (wanted_changed (with_fate fate) m number (λ e. refl) es (λ k d within is. fate_moment fate (get_or es k d).state))

pub counts_with_fate : (number : ℕ) (fate : Fate) (es : List Entry) (counts : List Counted) → CountsOf es counts → CountsOf (with_entry number (λ e. Some (with_fate fate e)) es) counts
counts_with_fate number fate es counts of = counts_changed number (with_fate fate) (λ e. refl) es counts of

number_of_reset : (e : Entry) (b : Bool) → (cond b (with_fate (reset_fate e) e) e).number ≡ e.number
number_of_reset e true = refl
number_of_reset e false = refl

moment_of_reset : (e : Entry) (b : Bool) → moment_in (cond b (with_fate (reset_fate e) e) e).state ≡ moment_in e.state
moment_of_reset e true = fate_moment (reset_fate e) e.state
moment_of_reset e false = refl

pub timers_reset : (name : List ℕ) (es : List Entry) (timers : List (ℕ × ℕ)) → AreTimersOf es timers → AreTimersOf (map (reset_in name) es) timers
timers_reset name es timers are = λ m.
    are m ∙ sym (wanted_map (reset_in name) m (λ e. number_of_reset e (is_running_in name e.state)) (λ e. moment_of_reset e (is_running_in name e.state)) es)

file_of_reset : (e : Entry) (b : Bool) → (cond b (with_fate (reset_fate e) e) e).file ≡ e.file
file_of_reset e true = refl
file_of_reset e false = refl

pub counts_reset : (name : List ℕ) (es : List Entry) (counts : List Counted) → CountsOf es counts → CountsOf (map (reset_in name) es) counts
counts_reset name es counts of = counts_kept es (reset_in name) counts (λ e. file_of_reset e (is_running_in name e.state)) of

-- jobs that are moved to another queue
file_of_moved : (to : List ℕ) (e : Entry) (b : Bool) → (cond b (record e { home = to }) e).file ≡ e.file
file_of_moved to e true = refl
file_of_moved to e false = refl

pub counts_moved : (to from : List ℕ) (es : List Entry) (counts : List Counted) → CountsOf es counts → CountsOf (map (moved_to to from) es) counts
counts_moved to from es counts of = counts_kept es (moved_to to from) counts (λ e. file_of_moved to e (waits_in from e)) of

number_of_moved : (to : List ℕ) (e : Entry) (b : Bool) → (cond b (record e { home = to }) e).number ≡ e.number
number_of_moved to e true = refl
number_of_moved to e false = refl

moment_of_moved : (to : List ℕ) (e : Entry) (b : Bool) → moment_in (cond b (record e { home = to }) e).state ≡ moment_in e.state
moment_of_moved to e true = refl
moment_of_moved to e false = refl

pub timers_moved : (to from : List ℕ) (es : List Entry) (timers : List (ℕ × ℕ)) → AreTimersOf es timers → AreTimersOf (map (moved_to to from) es) timers
timers_moved to from es timers are = λ m.
    are m ∙ sym (wanted_map (moved_to to from) m (λ e. number_of_moved to e (waits_in from e)) (λ e. moment_of_moved to e (waits_in from e)) es)

-- ---- an entry comes

pub counts_behind : (old new : List Counted) (e : Entry) (es : List Entry) → CountsOf es old → IsCountedAs e.file (count_of e.file old + 1) old new → CountsOf (es ++ e ∷ []) new
counts_behind old new e es of changed = counts_entered old new e es [] (subst (λ xs. CountsOf xs old) (sym (append-nil es)) of) changed

-- ---- an entry that is found

abbrev one_if : Bool → ℕ
one_if b = cond b 1 0

module _ (p : Entry → Bool) (e : Entry) where
  -- what holds of each holds of it
  pub found_has : (P : Entry → Type 0) (es : List Entry) → find p es ≡ Some e → All P es → P e
  found_has P [] found all = absurd (cc)
  found_has P (x ∷ es) found all = step (p x) found (λ later. found_has P es later (All-tail P x es all))
    where
      step : (b : Bool) → cond b (Some x) (find p es) ≡ Some e → (find p es ≡ Some e → P e) → P e
      step true h later = let same : x ≡ e = cc in subst P same (All-head P x es all)
      step false h later = later h

  -- it counts, where it passes the test
  found_counts : (q : Entry → Bool) (es : List Entry) → find p es ≡ Some e → q e ≡ true → 0 < count_by q es
  found_counts q [] found is = absurd (cc)
  found_counts q (x ∷ es) found is = step (p x) found (λ later. found_counts q es later is)
    where
      step : (b : Bool) → cond b (Some x) (find p es) ≡ Some e → (find p es ≡ Some e → 0 < count_by q es) → 0 < count_by q (x ∷ es)
      step true h later =
          let same : x ≡ e = cc in
          let one : one_if (q x) ≡ 1 = ap (λ (y : Entry). one_if (q y)) same ∙ ap one_if is in
          omega (arith, sum_by-cons (λ (y : Entry). one_if (q y)) x es, one)
      step false h later = omega (arith, sum_by-cons (λ (y : Entry). one_if (q y)) x es, later h)

  -- so its file is named
  pub found_is_counted : (es : List Entry) (counts : List Counted) → CountsOf es counts → find p es ≡ Some e → 0 < count_of e.file counts
  found_is_counted es counts of found = omega (arith, of e.file, found_counts (λ x. same_file_name x.file e.file) es found (itself e.file))

-- ---- another entry in the place of one, which names the same file

module _ (n : ℕ) (left : Entry) (es : List Entry) (counts : List Counted) (order : IsInOrder nat_cmp (λ (x : Entry). x.number) es) (of : CountsOf es counts) where
  replaced_at : (o : Option Entry) → entry_numbered n es ≡ o → IfSome o (λ e. e.file ≡ left.file) → CountsOf (with_entry n (λ e. Some left) es) counts
  replaced_at None none keeps = subst (λ xs. CountsOf xs counts) (sym (absent_stays n (λ e. Some left) es none)) of
  replaced_at (Some e) found keeps =
      subst (λ xs. CountsOf xs counts)
      (agree_at_it n (λ (x : Entry). Some (record left { file = x.file })) (λ (x : Entry). Some left) es order e found (ap (λ f. Some (record left { file = f })) keeps))
      (counts_changed n (λ (x : Entry). record left { file = x.file }) (λ x. refl) es counts of)

  pub counts_replaced : IfSome (entry_numbered n es) (λ e. e.file ≡ left.file) → CountsOf (with_entry n (λ e. Some left) es) counts
  counts_replaced keeps = replaced_at (entry_numbered n es) refl keeps

-- what is left of the entry of a number
pub counts_kept_by : (n : ℕ) (left : Entry) (es : List Entry) (counts : List Counted) → IsInOrder nat_cmp (λ x. x.number) es → CountsOf es counts → IsLeftOf left n (entry_numbered n es) → CountsOf (with_entry left.number (λ e. Some left) es) counts
counts_kept_by n left es counts order of keeps =
    subst (λ m. CountsOf (with_entry m (λ e. Some left) es) counts) (sym keeps.number_stays) (counts_replaced n left es counts order of keeps.file_stays)
