-- What becomes of entries whose runs are to be cut short.
use Rattle.std.proofs.Common.{◌≡◌, ◌∙◌, ℕ, ◌+◌, ◌<◌, ◌≤◌, ◌==◌, Bool, true, false, ◌&&◌, ◌||◌, cond, nat_lt, List, [], ◌∷◌, length, get_or, take, map, count_by, find, Option, Some, refl, sym, ap, arith, nat_cmp, bytes_eq}
use Rattle.std.specs.List.{All, cons_option}
use Rattle.std.specs.Option.{option_map_or}
use Rattle.std.proofs.lemmas.Bool.Decides.{nat_tests}
use Rattle.std.proofs.lemmas.List.Elements.{All-head, All-tail}
use Rattle.std.proofs.lemmas.List.Folds.{list_any_more}
use Rattle.qm_model.specs.Common.{Entry, EntryState, Pending, Holding, Timed, Running, Aborting, Retained, Fate, Run, IsInOrder, runs_in, with_entry, occupies, is_running_in, state_with_fate, with_fate, reset_fate, reset_in}
use Rattle.qm_tables.proofs.Outcomes.{flat_changed}
use Rattle.qm_parts.specs.Mirror.{Mirrors, run_in_state, run_of_entry, runs_of, has_one_in, reset_by}
use Rattle.qm_parts.proofs.Counts.{any_counted, count_agree, found_counted}
use Rattle.qm_parts.proofs.Ordered.{each_found}
use Rattle.qm_parts.proofs.Mirrored.{count_with, in_queue}

-- ---- the run stays

fate_keeps_run : (n : ℕ) (fate : Fate) (state : EntryState) → run_in_state n (state_with_fate fate state) ≡ run_in_state n state
fate_keeps_run n fate Pending = refl
fate_keeps_run n fate Holding = refl
fate_keeps_run n fate (Timed at) = refl
fate_keeps_run n fate (Running queue node run) = refl
fate_keeps_run n fate (Aborting queue node run old) = refl
fate_keeps_run n fate (Retained status until) = refl

pub run_with_fate : (fate : Fate) (e : Entry) → run_of_entry (with_fate fate e) ≡ run_of_entry e
run_with_fate fate e = fate_keeps_run e.number fate e.state

reset_at : (e : Entry) (b : Bool) → run_of_entry (cond b (with_fate (reset_fate e) e) e) ≡ run_of_entry e
reset_at e true = run_with_fate (reset_fate e) e
reset_at e false = refl

run_of_reset : (name : List ℕ) (e : Entry) → run_of_entry (reset_in name e) ≡ run_of_entry e
run_of_reset name e = reset_at e (is_running_in name e.state)

reset_by_at : (name : List ℕ) (e : Entry) (b : Bool) → run_of_entry (cond b (reset_in name e) e) ≡ run_of_entry e
reset_by_at name e true = run_of_reset name e
reset_by_at name e false = refl

pub runs_of_reset : (runs : List Run) (name : List ℕ) (es : List Entry) → runs_of (map (reset_by runs name) es) ≡ runs_of es
runs_of_reset runs name [] = refl
runs_of_reset runs name (e ∷ es) =
    ap (λ (o : Option Run). cons_option o (runs_of (map (reset_by runs name) es))) (reset_by_at name e (has_one_in runs name e))
    ∙ ap (cons_option (run_of_entry e)) (runs_of_reset runs name es)

-- ---- a reset twice is a reset

not_again : (name : List ℕ) (fate : Fate) (state : EntryState) → is_running_in name (state_with_fate fate state) ≡ false
not_again name fate Pending = refl
not_again name fate Holding = refl
not_again name fate (Timed at) = refl
not_again name fate (Running queue node run) = refl
not_again name fate (Aborting queue node run old) = refl
not_again name fate (Retained status until) = refl

twice_at : (name : List ℕ) (e : Entry) (b : Bool) → is_running_in name e.state ≡ b → reset_in name (cond b (with_fate (reset_fate e) e) e) ≡ cond b (with_fate (reset_fate e) e) e
twice_at name e true is =
    let r = with_fate (reset_fate e) e in ap (λ (b : Bool). cond b (with_fate (reset_fate r) r) r) (not_again name (reset_fate e) e.state)
twice_at name e false is = ap (λ (b : Bool). cond b (with_fate (reset_fate e) e) e) is

twice : (name : List ℕ) (e : Entry) → reset_in name (reset_in name e) ≡ reset_in name e
twice name e = twice_at name e (is_running_in name e.state) refl

-- ---- run by run

module _ (name : List ℕ) (n : ℕ) where
  -- one entry more is reset
  one_more : (e : Entry) (a b : Bool) → (e.number == n) ≡ b
      → cond ((cond a (reset_in name e) e).number == n) (reset_in name (cond a (reset_in name e) e)) (cond a (reset_in name e) e) ≡ cond (a || b) (reset_in name e) e
  one_more e true b is =
      let r = reset_in name e in either (r.number == n)
    where
      either : (c : Bool) → cond c (reset_in name (reset_in name e)) (reset_in name e) ≡ reset_in name e
      either true = twice name e
      either false = refl
  one_more e false true is = ap (λ (c : Bool). cond c (reset_in name e) e) is
  one_more e false false is = ap (λ (c : Bool). cond c (reset_in name e) e) is

module _ (runs : List Run) (name : List ℕ) (i : ℕ) (d : Run) (within : i < length runs) where
  abbrev here : Entry → Bool
  here e = bytes_eq (get_or runs i d).queue name && e.number == (get_or runs i d).entry

  more : (e : Entry) → has_one_in (take (i + 1) runs) name e ≡ (has_one_in (take i runs) name e || here e)
  more e = list_any_more (λ (r : Run). bytes_eq r.queue name && e.number == r.entry) runs i d within

  -- a run in the queue
  map_more : bytes_eq (get_or runs i d).queue name ≡ true → (es : List Entry)
      → map (λ e. cond (e.number == (get_or runs i d).entry) (reset_in name e) e) (map (reset_by (take i runs) name) es) ≡ map (reset_by (take (i + 1) runs) name) es
  map_more same [] = refl
  map_more same (e ∷ es) =
      let here_is : here e ≡ (e.number == (get_or runs i d).entry) = ap (λ (b : Bool). b && e.number == (get_or runs i d).entry) same in
      let first = one_more name (get_or runs i d).entry e (has_one_in (take i runs) name e) (e.number == (get_or runs i d).entry) refl in
      let test = more e ∙ ap (λ (b : Bool). has_one_in (take i runs) name e || b) here_is in
      ap (λ (x : Entry). x ∷ map (λ e. cond (e.number == (get_or runs i d).entry) (reset_in name e) e) (map (reset_by (take i runs) name) es)) (first ∙ sym (ap (λ (b : Bool). cond b (reset_in name e) e) test))
      ∙ ap (λ (xs : List Entry). reset_by (take (i + 1) runs) name e ∷ xs) (map_more same es)

  pub reset_more : bytes_eq (get_or runs i d).queue name ≡ true → (es : List Entry)
      → with_entry (get_or runs i d).entry (λ e. Some (reset_in name e)) (map (reset_by (take i runs) name) es) ≡ map (reset_by (take (i + 1) runs) name) es
  reset_more same es =
      flat_changed (λ (e : Entry). e.number == (get_or runs i d).entry) (reset_in name) (map (reset_by (take i runs) name) es) ∙ map_more same es

  or_never : (b : Bool) → (b || false) ≡ b
  or_never true = refl
  or_never false = refl

  -- a run in another one
  pub reset_none : bytes_eq (get_or runs i d).queue name ≡ false → (es : List Entry) → map (reset_by (take i runs) name) es ≡ map (reset_by (take (i + 1) runs) name) es
  reset_none other [] = refl
  reset_none other (e ∷ es) =
      let here_is : here e ≡ false = ap (λ (b : Bool). b && e.number == (get_or runs i d).entry) other in
      let test = more e ∙ ap (λ (b : Bool). has_one_in (take i runs) name e || b) here_is ∙ or_never (has_one_in (take i runs) name e) in
      ap (λ (x : Entry). x ∷ map (reset_by (take i runs) name) es) (sym (ap (λ (b : Bool). cond b (reset_in name e) e) test))
      ∙ ap (λ (xs : List Entry). reset_by (take (i + 1) runs) name e ∷ xs) (reset_none other es)

-- by the run that is read
module _ (runs : List Run) (name : List ℕ) (i : ℕ) (within : i < length runs) (r : Run) (read : r ≡ get_or runs i r) (es : List Entry) where
  pub reset_step : bytes_eq r.queue name ≡ true → with_entry r.entry (λ e. Some (reset_in name e)) (map (reset_by (take i runs) name) es) ≡ map (reset_by (take (i + 1) runs) name) es
  reset_step same =
      ap (λ (x : Run). with_entry x.entry (λ e. Some (reset_in name e)) (map (reset_by (take i runs) name) es)) read
      ∙ reset_more runs name i r within (ap (λ (x : Run). bytes_eq x.queue name) (sym read) ∙ same) es

  pub reset_pass : bytes_eq r.queue name ≡ false → map (reset_by (take i runs) name) es ≡ map (reset_by (take (i + 1) runs) name) es
  reset_pass other = reset_none runs name i r within (ap (λ (x : Run). bytes_eq x.queue name) (sym read) ∙ other) es

pub reset_by_none : (name : List ℕ) (es : List Entry) → es ≡ map (reset_by [] name) es
reset_by_none name [] = refl
reset_by_none name (e ∷ es) = ap (λ (xs : List Entry). e ∷ xs) (reset_by_none name es)

-- ---- and so each job of the queue

module _ (runs : List Run) (es : List Entry) (mirror : Mirrors runs es) (order : IsInOrder nat_cmp (λ (x : Entry). x.number) es) (name : List ℕ) where
  running_occupies : (state : EntryState) → is_running_in name state ≡ true → option_map_or (λ q. bytes_eq q name) (runs_in state) false ≡ true
  running_occupies Pending is = absurd (cc)
  running_occupies Holding is = absurd (cc)
  running_occupies (Timed at) is = absurd (cc)
  running_occupies (Running queue node run) is = is
  running_occupies (Aborting queue node run old) is = absurd (cc)
  running_occupies (Retained status until) is = absurd (cc)

  flipped : (e : Entry) (r : Run) → (bytes_eq r.queue name && r.entry == e.number) ≡ (bytes_eq r.queue name && e.number == r.entry)
  flipped e r = ap (λ (b : Bool). bytes_eq r.queue name && b) (swap r.entry e.number)
    where
      swap : (m n : ℕ) → (m == n) ≡ (n == m)
      swap m n = grind (arith, nat_tests)

  some_positive : (k : ℕ) → 1 ≤ k → nat_lt 0 k ≡ true
  some_positive k some = grind (arith, nat_tests)

  has_it : (e : Entry) → find (λ (x : Entry). x.number == e.number) es ≡ Some e → is_running_in name e.state ≡ true → has_one_in runs name e ≡ true
  has_it e found is =
      let both = found_counted (occupies name) (λ (x : Entry). x.number == e.number) e es found (running_occupies e.state is) in
      let as_runs = count_with runs es mirror (λ (r : Run). bytes_eq r.queue name) (occupies name) (in_queue name es) (λ m. m == e.number) in
      let flip = count_agree (λ (r : Run). bytes_eq r.queue name && r.entry == e.number) (λ (r : Run). bytes_eq r.queue name && e.number == r.entry) runs (λ k d within. flipped e (get_or runs k d)) in
      sym (any_counted (λ (r : Run). bytes_eq r.queue name && e.number == r.entry) runs)
      ∙ some_positive (count_by (λ (r : Run). bytes_eq r.queue name && e.number == r.entry) runs) (omega (arith, both, as_runs, flip))

  each_at : (e : Entry) (b c : Bool) → is_running_in name e.state ≡ b → (b ≡ true → c ≡ true) → cond c (reset_in name e) e ≡ reset_in name e
  each_at e true c is has = ap (λ (x : Bool). cond x (reset_in name e) e) (has refl)
  each_at e false true is has = refl
  each_at e false false is has = sym (ap (λ (x : Bool). cond x (with_fate (reset_fate e) e) e) is)

  each_reset : (e : Entry) → find (λ (x : Entry). x.number == e.number) es ≡ Some e → reset_by runs name e ≡ reset_in name e
  each_reset e found = each_at e (is_running_in name e.state) (has_one_in runs name e) refl (has_it e found)

  all_reset_in : (xs : List Entry) → All (λ e. find (λ (x : Entry). x.number == e.number) es ≡ Some e) xs → map (reset_by runs name) xs ≡ map (reset_in name) xs
  all_reset_in [] found = refl
  all_reset_in (e ∷ xs) found =
      ap (λ (y : Entry). y ∷ map (reset_by runs name) xs) (each_reset e (All-head (λ y. find (λ (x : Entry). x.number == y.number) es ≡ Some y) e xs found))
      ∙ ap (λ (ys : List Entry). reset_in name e ∷ ys) (all_reset_in xs (All-tail (λ y. find (λ (x : Entry). x.number == y.number) es ≡ Some y) e xs found))

  pub all_reset : map (reset_by runs name) es ≡ map (reset_in name) es
  all_reset = all_reset_in es (each_found (λ (e : Entry). e.number) es order)
