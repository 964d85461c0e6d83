-- The rule of the turnstile, and what each kind of step does.
-- Word 0, `serving`, is how many turns have ended; word 1, `next`, is the next ticket. The slot has the value, and is out with the pass whose ticket is served.
use Rattle.std.specs.Prelude.{◌≡◌, ℕ, ◌+◌, ◌*◌, ◌≤◌, ◌⊎◌, List, [], ◌∷◌, ◌++◌, map, length, nat_lt, if◌then◌else◌, Option as Optional, Some}
use mathlib.Core.Option.{Option, none, some}
use mathlib.Core.List.{IsPrefix}
use lib.ListN.{get_elem?}
use Rattle.atomic_table.specs.Table.{State, Me, Step}
use Rattle.qm_turn.specs.declared.view.View.{View}
use Rattle.qm_turn.specs.declared.view.Phase.{Phase}
use Rattle.qm_turn.specs.declared.view.Phase.TheVariants.{Rests, Waits, Served, Spent}
use Rattle.atomic_table.specs.Seated.{TableId}
use Rattle.qm_turn.specs.History.{notes, notes_by, Agrees, numbers_of, times}
use Rattle.qm_turn.specs.Turns.{Known}

-- the most turns of a pass
abbrev pub most : ℕ
most = 4294967295

-- a number of each view, added up
abbrev pub total : {N : Type 0} → (View N → ℕ) → List (View N) → ℕ
total f [] = 0
total f (v ∷ vs) = f v + total f vs

-- 1 where n is below the limit, and else 0
abbrev pub below : ℕ → ℕ → ℕ
below n limit = if nat_lt n limit then 1 else 0

-- the tickets that are out in this phase
abbrev pub tickets : Phase → List ℕ
tickets Rests = []
tickets (Waits t) = t ∷ []
tickets (Served t) = t ∷ []
tickets Spent = []

abbrev pub unless_spent : {A : Type 0} → Phase → List A → List A
unless_spent Rests xs = xs
unless_spent (Waits t) xs = xs
unless_spent (Served t) xs = xs
unless_spent Spent xs = []

-- the numbers that a view stands for, each with the notes of its turns
abbrev pub pairs : {N : Type 0} → View N → List (ℕ × List N)
pairs v = unless_spent v.phase ((v.number, v.mine) ∷ v.took)

abbrev pub numbers : {N : Type 0} → View N → List ℕ
numbers v = numbers_of (pairs v)

-- how many notes these are
abbrev pub count : {N : Type 0} → List (ℕ × List N) → ℕ
count [] = 0
count (p ∷ ps) = length p.1 + count ps

-- how many tickets the view's numbers drew
abbrev pub drawn : {N : Type 0} → View N → ℕ
drawn v = count (pairs v) + length (tickets v.phase)

abbrev pub IsServed : Phase → Type 0
IsServed Rests = ⊥
IsServed (Waits t) = ⊥
IsServed (Served t) = Unit {0}
IsServed Spent = ⊥

-- a pass that is served has the ticket of the next turn, and has seen the whole history
abbrev pub Phased : {N : Type 0} → List (ℕ × N) → List (ℕ × N) → Phase → Type 0
Phased log seen Rests = Unit {0}
Phased log seen (Waits t) = Unit {0}
Phased log seen (Served t) = (t ≡ length log) × (seen ≡ log)
Phased log seen Spent = Unit {0}

-- what a view says is so in the history
pub record Fits {N : Type 0} (log : List (ℕ × N)) (given : ℕ) (v : View N) : Type 0 where
  pub seen : IsPrefix v.seen log
  pub heard : IsPrefix v.heard log
  pub agrees : Agrees log (pairs v)
  pub phased : Phased log v.seen v.phase
  pub gives : (v.given ≡ 0) ⊎ (v.given ≡ given)
  pub room : length v.mine + length (tickets v.phase) ≤ most
  pub few : count v.took ≤ most * length v.took

module _ {V N : Type 0} where
  -- the value is at home, and stands for the history
  abbrev pub Home : (V → List N → Type 0) → List (ℕ × N) → List (Option (Optional V)) → List (View N) → Type 0
  Home stands log homes views = (x : V) × (homes ≡ some (Some x) ∷ []) × stands x (notes log) × ((j : ℕ) (v : View N) → get_elem? views j ≡ some v → ¬ IsServed v.phase)

  -- the value is out with the pass that is served
  abbrev pub Out : List (Option (Optional V)) → List (View N) → Type 0
  Out homes views = (homes ≡ none ∷ []) × ((j : ℕ) × (v : View N) × (get_elem? views j ≡ some v) × IsServed v.phase)

  abbrev pub Slot : (V → List N → Type 0) → List (ℕ × N) → List (Option (Optional V)) → List (View N) → Type 0
  Slot stands log homes views = Home stands log homes views ⊎ Out homes views

  -- there is one history, and the words, the slot and what each pass knows are as it says
  pub record Kept (stands : V → List N → Type 0) (passes : ℕ) (s : State (Optional V) (View N)) : Type 0 where
    pub log : List (ℕ × N)
    pub next : ℕ
    pub given : ℕ
    pub words : s.words ≡ length log ∷ next ∷ []
    pub slot : Slot stands log s.homes s.views
    -- the tickets out are those from `serving` to below `next`, one for each view that has one
    pub tickets_out : (t : ℕ) → total (λ v. times t (tickets v.phase)) s.views + below t (length log) ≡ below t next
    -- each number that was given stands in one view, and there once
    pub numbers_given : (k : ℕ) → total (λ v. times k (numbers v)) s.views ≡ below k given
    pub how_many : total (λ v. length (numbers v)) s.views ≡ given
    pub one_gives : total (λ v. v.given) s.views ≡ given
    pub tickets_drawn : total (λ v. drawn v) s.views ≡ next
    pub fits : (j : ℕ) (v : View N) → get_elem? s.views j ≡ some v → Fits log given v
    pub unmade : (k : ℕ) → given ≤ k → notes_by k log ≡ []
    pub within : (given ≤ passes) × (passes ≤ 64)

module _ {N : Type 0} where
  abbrev pub pass_view : ℕ → List (ℕ × N) → ℕ → View N
  pass_view number seen given = record { number = number; seen = seen; heard = []; mine = []; took = []; given = given; phase = Rests }

  abbrev pub first_view : View N
  first_view = pass_view 0 [] 1

  -- a view as callers see it
  abbrev pub known : TableId → View N → Known N
  known place v = record { place = place; number = v.number; seen = v.seen; mine = v.mine; took = v.took }

  abbrev pub spent_view : View N
  spent_view = record { number = 0; seen = []; heard = []; mine = []; took = []; given = 0; phase = Spent }

  abbrev pub in_phase : View N → Phase → View N
  in_phase v p = record v { phase = p }

  -- split: the next number goes to the new pass
  abbrev pub one_given : View N → View N
  one_given v = record v { given = v.given + 1 }

  abbrev pub newcomer : View N → View N
  newcomer v = pass_view v.given v.seen 0

  -- join: the first has the other's numbers and what it had seen
  abbrev pub both : View N → View N → View N
  both v w = record v { heard = w.seen; took = v.took ++ pairs w; given = v.given + w.given }

  -- the pass has made a turn with this note
  abbrev pub after_turn : View N → List N → View N
  after_turn v made = record v { seen = v.seen ++ map (λ n. (v.number, n)) made; mine = v.mine ++ made; phase = Rests }

-- what a seat knows and holds
abbrev pub Sat : Type 0 → Type 0 → Type 0
Sat V N = Me (Optional V) (View N)

-- the seat rests: it has no ticket, no value, and nothing to look at
abbrev pub IsResting : {V N : Type 0} → Sat V N → Type 0
IsResting m = (m.1 ≡ []) × (m.0.phase ≡ Rests) × (m.0.heard ≡ [])

module _ {V N : Type 0} where
  -- draw: the pass has the ticket that it found
  abbrev pub Draws : Step (Optional V) → Sat V N → ℕ → Sat V N → Type 0
  Draws st m found m' = m' ≡ (in_phase m.0 (Waits found), m.1)

  -- it is the pass's turn: it has the value, which stands for the history, and has seen all of it
  abbrev pub HasTurn : (V → List N → Type 0) → ℕ → Sat V N → Sat V N → Type 0
  HasTurn stands t m m' = (x : V) × (log : List (ℕ × N)) × (m' ≡ (record m.0 { seen = log; phase = Served t }, (0, Some x) ∷ [])) × stands x (notes log) × IsPrefix m.0.seen log × Agrees log (pairs m.0)

  -- look: nothing changed, or the number that was found is the ticket of the pass, and it is the pass's turn
  abbrev pub Looks : (V → List N → Type 0) → Step (Optional V) → Sat V N → ℕ → Sat V N → Type 0
  Looks stands st m found m' = (t : ℕ) → m.0.phase ≡ Waits t → (¬ (found ≡ t) × (m' ≡ m)) ⊎ ((found ≡ t) × HasTurn stands t m m')

  -- the value stands for this history with the one note behind it that is made
  abbrev pub StandsBehind : (V → List N → Type 0) → List (ℕ × N) → List N → V → Type 0
  StandsBehind stands seen made value = (note : N) × (made ≡ note ∷ []) × stands value (notes seen ++ note ∷ [])

  -- pass on: the pass made its turn, and gave the value back
  abbrev pub PassesOn : List N → Step (Optional V) → Sat V N → ℕ → Sat V N → Type 0
  PassesOn made st m found m' = m' ≡ (after_turn m.0 made, [])

  -- news: the pass has seen the whole history, which is as long as the number that was found
  abbrev pub Hears : Step (Optional V) → Sat V N → ℕ → Sat V N → Type 0
  Hears st m found m' = (log : List (ℕ × N)) × (m' ≡ (record m.0 { seen = log; heard = [] }, m.1)) × (found ≡ length log) × IsPrefix m.0.seen log × IsPrefix m.0.heard log × Agrees log (pairs m.0)

  -- a whole turn of a seat: the work was done, which answered so, on the value as the turn before it left it, and its note was added
  pub record Ran {A : Type 0} (stands : V → List N → Type 0) (does : V → V → A → Type 0) (note : V → V → A → N) (answer : A) (before : View N) (after : Sat V N)
      : Type 0
    where
      pub log : List (ℕ × N)
      pub found : V
      pub left : V
      pub seen : IsPrefix before.seen log
      pub agrees : Agrees log (pairs before)
      pub found_stands : stands found (notes log)
      pub worked : does found left answer
      pub left_stands : stands left (notes log ++ note found left answer ∷ [])
      pub now : after ≡ (after_turn (record before { seen = log }) (note found left answer ∷ []), [])
