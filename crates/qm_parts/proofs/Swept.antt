-- What a moment and a merge of queues make of entries, and what goes with a queue, leaves the runs.
use Rattle.std.proofs.Common.{◌≡◌, ◌∙◌, ℕ, Bool, true, false, not, ◌&&◌, ◌||◌, cond, List, [], ◌∷◌, count_by, filter, find, map, nat_le, Option, None, Some, refl, sym, ap, bytes_eq}
use Rattle.std.specs.Option.{option_map_or}
use Rattle.qm_model.specs.Common.{Entry, EntryState, Pending, Holding, Timed, Running, Aborting, Retained, Run, state_at, is_over, entry_at, run_of, runs_for, is_executing, occupies}
use Rattle.qm_model.specs.Merging.{moved_to, waits_in}
use Rattle.qm_parts.specs.Mirror.{Mirrors, run_in_state, run_of_entry, runs_of}

-- one run more, if there is one
abbrev with_one : Option Run → List Run → List Run
with_one None runs = runs
with_one (Some r) runs = r ∷ runs

runs_cons_at : (e : Entry) (es : List Entry) (o : Option Run) → run_of_entry e ≡ o → runs_of (e ∷ es) ≡ with_one o (runs_of es)
runs_cons_at e es None is = rw is refl
runs_cons_at e es (Some r) is = rw is refl

runs_cons : (e : Entry) (es : List Entry) → runs_of (e ∷ es) ≡ with_one (run_of_entry e) (runs_of es)
runs_cons e es = runs_cons_at e es (run_of_entry e) refl

kept_at : (e : Entry) (es rest : List Entry) (b : Bool) → (b ≡ false → run_of_entry e ≡ None) → runs_of rest ≡ runs_of es → runs_of (cond b (e ∷ rest) rest) ≡ runs_of (e ∷ es)
kept_at e es rest true none later = runs_cons e rest ∙ ap (with_one (run_of_entry e)) later ∙ sym (runs_cons e es)
kept_at e es rest false none later = later ∙ ap (λ o. with_one o (runs_of es)) (sym (none refl)) ∙ sym (runs_cons e es)

not_false : (b : Bool) → not b ≡ false → b ≡ true
not_false true h = refl
not_false false h = cc

-- what is over has no run
over_without_run : (now n : ℕ) (state : EntryState) → is_over now state ≡ true → run_in_state n state ≡ None
over_without_run now n Pending h = refl
over_without_run now n Holding h = refl
over_without_run now n (Timed at) h = refl
over_without_run now n (Running queue node run) h = cc
over_without_run now n (Aborting queue node run fate) h = cc
over_without_run now n (Retained status until) h = refl

pub runs_without_over : (now : ℕ) (es : List Entry) → runs_of (filter (λ e. not (is_over now e.state)) es) ≡ runs_of es
runs_without_over now [] = refl
runs_without_over now (e ∷ es) =
    kept_at e es (filter (λ e. not (is_over now e.state)) es) (not (is_over now e.state))
    (λ gone. over_without_run now e.number e.state (not_false (is_over now e.state) gone)) (runs_without_over now es)

-- a moment leaves each run
timed_at : (b : Bool) (n at : ℕ) → run_in_state n (cond b Pending (Timed at)) ≡ None
timed_at true n at = refl
timed_at false n at = refl

run_at : (now n : ℕ) (state : EntryState) → run_in_state n (state_at now state) ≡ run_in_state n state
run_at now n Pending = refl
run_at now n Holding = refl
run_at now n (Timed at) = timed_at (nat_le at now) n at
run_at now n (Running queue node run) = refl
run_at now n (Aborting queue node run fate) = refl
run_at now n (Retained status until) = refl

pub runs_at : (now : ℕ) (es : List Entry) → runs_of (map (entry_at now) es) ≡ runs_of es
runs_at now [] = refl
runs_at now (e ∷ es) =
    runs_cons (entry_at now e) (map (entry_at now) es) ∙ ap (λ o. with_one o (runs_of (map (entry_at now) es))) (run_at now e.number e.state)
    ∙ ap (with_one (run_of_entry e)) (runs_at now es) ∙ sym (runs_cons e es)

-- a merge of queues leaves each run: it changes no number and no state
run_moved_at : (b : Bool) (to : List ℕ) (e : Entry) → run_of_entry (cond b (record e { home = to }) e) ≡ run_of_entry e
run_moved_at true to e = refl
run_moved_at false to e = refl

pub runs_moved : (to from : List ℕ) (es : List Entry) → runs_of (map (moved_to to from) es) ≡ runs_of es
runs_moved to from [] = refl
runs_moved to from (e ∷ es) =
    runs_cons (moved_to to from e) (map (moved_to to from) es) ∙ ap (λ o. with_one o (runs_of (map (moved_to to from) es))) (run_moved_at (waits_in from e) to e)
    ∙ ap (with_one (run_of_entry e)) (runs_moved to from es) ∙ sym (runs_cons e es)

-- no entry of a queue for which none runs has a run
idle_without_run : (n : ℕ) (state : EntryState) → option_map_or (λ run. true) (run_of state) false ≡ false → run_in_state n state ≡ None
idle_without_run n Pending h = refl
idle_without_run n Holding h = refl
idle_without_run n (Timed at) h = refl
idle_without_run n (Running queue node run) h = cc
idle_without_run n (Aborting queue node run fate) h = cc
idle_without_run n (Retained status until) h = refl

not_for : (a b c : Bool) → (a && (b || c)) ≡ false → c ≡ true → a ≡ false
not_for true true c h is = cc
not_for true false true h is = cc
not_for true false false h is = cc
not_for false b c h is = refl

without_at : (home : List ℕ) (e : Entry) (es : List Entry) (b : Bool) → runs_for home e ≡ b → cond b (Some e) (find (runs_for home) es) ≡ None
    → (find (runs_for home) es ≡ None → runs_of (filter (λ e. not (bytes_eq e.home home)) es) ≡ runs_of es)
    → runs_of (cond (not (bytes_eq e.home home)) (e ∷ filter (λ e. not (bytes_eq e.home home)) es) (filter (λ e. not (bytes_eq e.home home)) es)) ≡ runs_of (e ∷ es)
without_at home e es true is none later = cc
without_at home e es false is none later =
    kept_at e es (filter (λ e. not (bytes_eq e.home home)) es) (not (bytes_eq e.home home))
    (λ gone. idle_without_run e.number e.state (not_for (is_executing e) (occupies home e) (bytes_eq e.home home) is (not_false (bytes_eq e.home home) gone))) (later none)

pub runs_without_home : (home : List ℕ) (es : List Entry) → find (runs_for home) es ≡ None → runs_of (filter (λ e. not (bytes_eq e.home home)) es) ≡ runs_of es
runs_without_home home [] none = refl
runs_without_home home (e ∷ es) none = without_at home e es (runs_for home e) refl none (runs_without_home home es)

-- so the runs mirror what is left
pub still_mirrors : (runs : List Run) (old new : List Entry) → Mirrors runs old → runs_of new ≡ runs_of old → Mirrors runs new
still_mirrors runs old new mirror same = record { counts = λ test. mirror.counts test ∙ ap (count_by test) (sym same) }
