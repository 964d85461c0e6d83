-- What an acting moment leaves of what holds of the entries.
use Rattle.std.proofs.Common.{◌≡◌, ◌∙◌, ℕ, Bool, true, false, cond, not, ◌&&◌, ◌||◌, List, [], ◌∷◌, filter, find, map, nat_le, None, Some, refl, ap, All, bytes_eq}
use Rattle.std.specs.Option.{option_map_or}
use Rattle.std.proofs.lemmas.List.Elements.{All-filter, All-map}
use Rattle.qm_model.specs.Common.{Entry, EntryState, Pending, Holding, Timed, Running, Aborting, Retained, FileName, state_at, is_over, entry_at, run_of, runs_in, same_file_name, runs_for}

-- ---- what isn't found still isn't

module _ {X : Type 0} (p q : X → Bool) (f : X → X) (same : (x : X) → p (f x) ≡ p x) where
  none_left : (xs : List X) → find p xs ≡ None → find p (map f (filter q xs)) ≡ None
  none_left [] none = refl
  none_left (x ∷ xs) none = step (p x) refl (q x) none (λ rest. none_left xs rest)
    where
      step : (b : Bool) → p x ≡ b → (c : Bool) → cond b (Some x) (find p xs) ≡ None → (find p xs ≡ None → find p (map f (filter q xs)) ≡ None) → find p (map f (cond c (x ∷ filter q xs) (filter q xs))) ≡ None
      step true is c h later = absurd (cc)
      step false is true h later = ap (λ (b : Bool). cond b (Some (f x)) (find p (map f (filter q xs)))) (same x ∙ is) ∙ later h
      step false is false h later = later h

abbrev runs_here : List ℕ → List ℕ → EntryState → Bool
runs_here name home state = option_map_or (λ (run : ℕ). true) (run_of state) false && (option_map_or (λ (queue : List ℕ). bytes_eq queue name) (runs_in state) false || bytes_eq home name)

runs_at : (name home : List ℕ) (now : ℕ) (state : EntryState) → runs_here name home (state_at now state) ≡ runs_here name home state
runs_at name home now Pending = refl
runs_at name home now Holding = refl
runs_at name home now (Timed at) = either (nat_le at now)
  where
    either : (b : Bool) → runs_here name home (cond b Pending (Timed at)) ≡ false
    either true = refl
    either false = refl
runs_at name home now (Running queue node run) = refl
runs_at name home now (Aborting queue node run fate) = refl
runs_at name home now (Retained status until) = refl

pub no_run_found : (name : List ℕ) (now : ℕ) (es : List Entry) → find (runs_for name) es ≡ None → find (runs_for name) (map (entry_at now) (filter (λ e. not (is_over now e.state)) es)) ≡ None
no_run_found name now es none = none_left (runs_for name) (λ (e : Entry). not (is_over now e.state)) (entry_at now) (λ e. runs_at name e.home now e.state) es none

-- no entry that is left names a file that none named
pub unnamed_found : (name : FileName) (now : ℕ) (es : List Entry) → find (λ e. same_file_name e.file name) es ≡ None → find (λ e. same_file_name e.file name) (map (entry_at now) (filter (λ e. not (is_over now e.state)) es)) ≡ None
unnamed_found name now es none = none_left (λ (e : Entry). same_file_name e.file name) (λ (e : Entry). not (is_over now e.state)) (entry_at now) (λ e. refl) es none

-- each entry that is left names the file that it named
abbrev pub NamesItsFile : Entry → Entry → Type 0
NamesItsFile entry e = e.number ≡ entry.number → e.file ≡ entry.file

pub file_found : (entry : Entry) (now : ℕ) (es : List Entry) → All (NamesItsFile entry) es → All (NamesItsFile entry) (map (entry_at now) (filter (λ e. not (is_over now e.state)) es))
file_found entry now es all =
    All-map (NamesItsFile entry) (entry_at now) (filter (λ e. not (is_over now e.state)) es) (All-filter (λ e. not (is_over now e.state)) (NamesItsFile entry) es all)
