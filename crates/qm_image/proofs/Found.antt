-- What is found in lists, and what of it a moment leaves.
use Rattle.std.proofs.Common.{◌≡◌, ◌∙◌, ℕ, ◌+◌, ◌≤◌, ◌==◌, Bool, true, false, not, cond, List, [], ◌∷◌, count_by, filter, find, map, nat_le, Option, None, Some, refl, sym, ap, subst, arith, bytes_eq}
use Rattle.std.specs.List.{All, list_any}
use Rattle.std.specs.Option.{option_map_or}
use Rattle.std.proofs.lemmas.List.Elements.{All-head, All-tail}
use Rattle.std.proofs.lemmas.Option.{same_Some}
use Rattle.std.proofs.lemmas.Slice.Eq.{bytes_eq-Decides}
use Rattle.qm_model.specs.Common.{Entry, EntryState, Pending, Holding, Timed, Running, Aborting, Retained, Queue, Stopped, state_at, is_over, entry_at, queue_named, entry_numbered, run_of, is_executing, occupies, state_when_idle, when_idle, is_running_in}
use Rattle.qm_parts.proofs.Counts.{one_if, count_cons, not_found}

-- what is found has what all have
found_at : {X : Type 0} (P : X → Type 0) (p : X → Bool) (y : X) (ys : List X) (x : X) (b : Bool) → All P (y ∷ ys) → (All P ys → find p ys ≡ Some x → P x) → cond b (Some y) (find p ys) ≡ Some x → P x
found_at P p y ys x true all later is = subst P (same_Some y x is) (All-head P y ys all)
found_at P p y ys x false all later is = later (All-tail P y ys all) is

pub found_all : {X : Type 0} (P : X → Type 0) (p : X → Bool) (xs : List X) (x : X) → All P xs → find p xs ≡ Some x → P x
found_all P p [] x all is = cc
found_all P p (y ∷ ys) x all is = found_at P p y ys x (p y) all (λ rest found. found_all P p ys x rest found) is

-- ---- the state of a queue once a request is done

told_at : (es : List Entry) (name : List ℕ) (q : Queue) (qs : List Queue) (b : Bool) → bytes_eq q.name name ≡ b
    → option_map_or (λ (x : Queue). x.state) (find (λ x. bytes_eq x.name name) (map (when_idle es) qs)) Stopped ≡ option_map_or (λ (x : Queue). state_when_idle (list_any (occupies name) es) x.state) (find (λ x. bytes_eq x.name name) qs) Stopped
    → option_map_or (λ (x : Queue). x.state) (cond b (Some (when_idle es q)) (find (λ x. bytes_eq x.name name) (map (when_idle es) qs))) Stopped
    ≡ option_map_or (λ (x : Queue). state_when_idle (list_any (occupies name) es) x.state) (cond b (Some q) (find (λ x. bytes_eq x.name name) qs)) Stopped
told_at es name q qs true is later = ap (λ (n : List ℕ). state_when_idle (list_any (occupies n) es) q.state) (bytes_same q.name name is)
  where
    bytes_same : (a b : List ℕ) → bytes_eq a b ≡ true → a ≡ b
    bytes_same a b h = (bytes_eq-Decides a b).0 h
told_at es name q qs false is later = later

pub state_told : (es : List Entry) (name : List ℕ) (qs : List Queue)
    → option_map_or (λ (x : Queue). x.state) (queue_named name (map (when_idle es) qs)) Stopped ≡ option_map_or (λ (x : Queue). state_when_idle (list_any (occupies name) es) x.state) (queue_named name qs) Stopped
state_told es name [] = refl
state_told es name (q ∷ qs) = told_at es name q qs (bytes_eq q.name name) refl (state_told es name qs)

-- ---- jobs that run are as they were at each moment

is_running_at : (name : List ℕ) (now : ℕ) (state : EntryState) → is_running_in name (state_at now state) ≡ is_running_in name state
is_running_at name now Pending = refl
is_running_at name now Holding = refl
is_running_at name now (Timed at) = either (nat_le at now)
  where
    either : (b : Bool) → is_running_in name (cond b Pending (Timed at)) ≡ false
    either true = refl
    either false = refl
is_running_at name now (Running queue node run) = refl
is_running_at name now (Aborting queue node run fate) = refl
is_running_at name now (Retained status until) = refl

running_stays : (name : List ℕ) (now : ℕ) (state : EntryState) → is_running_in name state ≡ true → state_at now state ≡ state
running_stays name now Pending h = cc
running_stays name now Holding h = cc
running_stays name now (Timed at) h = cc
running_stays name now (Running queue node run) h = refl
running_stays name now (Aborting queue node run fate) h = cc
running_stays name now (Retained status until) h = cc

over_does_not_run : (name : List ℕ) (now : ℕ) (state : EntryState) → is_over now state ≡ true → is_running_in name state ≡ false
over_does_not_run name now Pending h = cc
over_does_not_run name now Holding h = cc
over_does_not_run name now (Timed at) h = cc
over_does_not_run name now (Running queue node run) h = cc
over_does_not_run name now (Aborting queue node run fate) h = cc
over_does_not_run name now (Retained status until) h = refl

abbrev runs : List ℕ → Entry → Bool
runs name e = is_running_in name e.state

abbrev stays : ℕ → Entry → Bool
stays now e = not (is_over now e.state)

kept_running : (name : List ℕ) (now : ℕ) (e : Entry) (rest es : List Entry) (p : Bool) → runs name e ≡ p → rest ≡ es → cond (runs name (entry_at now e)) (entry_at now e ∷ rest) rest ≡ cond p (e ∷ es) es
kept_running name now e rest es true is later =
    ap (λ (b : Bool). cond b (entry_at now e ∷ rest) rest) (is_running_at name now e.state ∙ is)
    ∙ ap (λ (state : EntryState). record e { state = state } ∷ rest) (running_stays name now e.state is) ∙ ap (λ (xs : List Entry). e ∷ xs) later
kept_running name now e rest es false is later = ap (λ (b : Bool). cond b (entry_at now e ∷ rest) rest) (is_running_at name now e.state ∙ is) ∙ later

running_at_one : (name : List ℕ) (now : ℕ) (e : Entry) (es : List Entry) (over : Bool) → is_over now e.state ≡ over
    → filter (runs name) (map (entry_at now) (filter (stays now) es)) ≡ filter (runs name) es
    → filter (runs name) (map (entry_at now) (cond (not over) (e ∷ filter (stays now) es) (filter (stays now) es))) ≡ cond (runs name e) (e ∷ filter (runs name) es) (filter (runs name) es)
running_at_one name now e es true is later = later ∙ ap (λ (b : Bool). cond b (e ∷ filter (runs name) es) (filter (runs name) es)) (sym (over_does_not_run name now e.state is))
running_at_one name now e es false is later = kept_running name now e (filter (runs name) (map (entry_at now) (filter (stays now) es))) (filter (runs name) es) (runs name e) refl later

pub running_found : (name : List ℕ) (now : ℕ) (es : List Entry) → filter (λ e. is_running_in name e.state) (map (entry_at now) (filter (λ e. not (is_over now e.state)) es)) ≡ filter (λ e. is_running_in name e.state) es
running_found name now [] = refl
running_found name now (e ∷ es) = running_at_one name now e es (is_over now e.state) refl (running_found name now es)

-- ---- an entry has a run at a moment just where it had one

executing_at : (now : ℕ) (state : EntryState) → option_map_or (λ (run : ℕ). true) (run_of (state_at now state)) false ≡ option_map_or (λ (run : ℕ). true) (run_of state) false
executing_at now Pending = refl
executing_at now Holding = refl
executing_at now (Timed at) = either (nat_le at now)
  where
    either : (b : Bool) → option_map_or (λ (run : ℕ). true) (run_of (cond b Pending (Timed at))) false ≡ false
    either true = refl
    either false = refl
executing_at now (Running queue node run) = refl
executing_at now (Aborting queue node run fate) = refl
executing_at now (Retained status until) = refl

over_is_idle : (now : ℕ) (state : EntryState) → is_over now state ≡ true → option_map_or (λ (run : ℕ). true) (run_of state) false ≡ false
over_is_idle now Pending h = refl
over_is_idle now Holding h = refl
over_is_idle now (Timed at) h = refl
over_is_idle now (Running queue node run) h = cc
over_is_idle now (Aborting queue node run fate) h = cc
over_is_idle now (Retained status until) h = refl

abbrev numbered : ℕ → Entry → Bool
numbered n e = e.number == n

abbrev executes : Option Entry → Bool
executes o = option_map_or is_executing o false

none_of_number : (n now : ℕ) (e : Entry) (es : List Entry) (over b : Bool) → find (numbered n) (map (entry_at now) (filter (stays now) es)) ≡ None → numbered n e ≡ false
    → find (numbered n) (map (entry_at now) (cond (not over) (e ∷ filter (stays now) es) (filter (stays now) es))) ≡ None
none_of_number n now e es true b later not_it = later
none_of_number n now e es false b later not_it = ap (λ (x : Bool). cond x (Some (entry_at now e)) (find (numbered n) (map (entry_at now) (filter (stays now) es)))) not_it ∙ later

missing_at : (n now : ℕ) (e : Entry) (es : List Entry) (b : Bool) → numbered n e ≡ b → cond b (Some e) (find (numbered n) es) ≡ None → (find (numbered n) es ≡ None → find (numbered n) (map (entry_at now) (filter (stays now) es)) ≡ None)
    → find (numbered n) (map (entry_at now) (filter (stays now) (e ∷ es))) ≡ None
missing_at n now e es true is none later = cc
missing_at n now e es false is none later = none_of_number n now e es (is_over now e.state) false (later none) is

missing_stays : (n now : ℕ) (es : List Entry) → find (numbered n) es ≡ None → find (numbered n) (map (entry_at now) (filter (stays now) es)) ≡ None
missing_stays n now [] none = refl
missing_stays n now (e ∷ es) none = missing_at n now e es (numbered n e) refl none (missing_stays n now es)

executing_one : (n now : ℕ) (e : Entry) (es : List Entry) (over b : Bool) → is_over now e.state ≡ over → numbered n e ≡ b → one_if b + count_by (numbered n) es ≤ 1
    → (count_by (numbered n) es ≤ 1 → executes (find (numbered n) (map (entry_at now) (filter (stays now) es))) ≡ executes (find (numbered n) es))
    → executes (find (numbered n) (map (entry_at now) (cond (not over) (e ∷ filter (stays now) es) (filter (stays now) es)))) ≡ executes (cond b (Some e) (find (numbered n) es))
executing_one n now e es true true gone is once later =
    ap executes (missing_stays n now es (not_found (numbered n) es (omega (arith, once)))) ∙ sym (over_is_idle now e.state gone)
executing_one n now e es true false gone is once later = later (omega (arith, once))
executing_one n now e es false true gone is once later =
    ap (λ (x : Bool). executes (cond x (Some (entry_at now e)) (find (numbered n) (map (entry_at now) (filter (stays now) es))))) is ∙ executing_at now e.state
executing_one n now e es false false gone is once later =
    ap (λ (x : Bool). executes (cond x (Some (entry_at now e)) (find (numbered n) (map (entry_at now) (filter (stays now) es))))) is ∙ later (omega (arith, once))

pub executing_found : (n now : ℕ) (es : List Entry) → count_by (numbered n) es ≤ 1
    → option_map_or is_executing (entry_numbered n (map (entry_at now) (filter (λ e. not (is_over now e.state)) es))) false ≡ option_map_or is_executing (entry_numbered n es) false
executing_found n now [] once = refl
executing_found n now (e ∷ es) once =
    executing_one n now e es (is_over now e.state) (numbered n e) refl refl (omega (arith, once, count_cons (numbered n) e es)) (executing_found n now es)
