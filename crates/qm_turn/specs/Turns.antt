-- What callers of a turnstile see: the turnstile, a pass, and what one turn does.
use Rattle.std.specs.Prelude.{◌≡◌, ℕ, ◌<◌, ◌≤◌, List, [], ◌∷◌, ◌++◌, map}
use Rattle.std.specs.List.{range_with_len}
use mathlib.Core.List.{IsPrefix}
use Rattle.atomic_table.specs.Seated.{TableId}
use Rattle.qm_turn.specs.History.{notes, notes_by, Agrees, numbers_of, times}

-- a turnstile: which it is, and how many passes it opened with
pub record Opened : Type 0 where
  pub place : TableId
  pub passes : ℕ

-- what a pass knows: its turnstile, its number, the history as it saw it, the notes of its own turns, and those of the passes that were joined into it
pub record Known (N : Type 0) : Type 0 where
  pub place : TableId
  pub number : ℕ
  pub seen : List (ℕ × N)
  pub mine : List N
  pub took : List (ℕ × List N)

-- a pass as opening makes it
abbrev pub fresh : {N : Type 0} → TableId → ℕ → Known N
fresh place number = record { place = place; number = number; seen = []; mine = []; took = [] }

-- all passes of a turnstile as opening makes them, in the order of their numbers
abbrev pub all_fresh : {N : Type 0} → TableId → ℕ → List (Known N)
all_fresh place passes = map (fresh place) (range_with_len 0 passes)

-- each number that the pass knows all of, with its notes
abbrev pub own : {N : Type 0} → Known N → List (ℕ × List N)
own pass = (pass.number, pass.mine) ∷ pass.took

-- every number that opening gave is the pass's own, or that of one that it took
abbrev pub IsLast : {N : Type 0} → ℕ → Known N → Type 0
IsLast passes pass = (number : ℕ) → number < passes → 1 ≤ times number (numbers_of (own pass))

-- whatever notes the former value stands for, the latter stands for these and one more
abbrev pub StandsForOneMore : {V N : Type 0} → (V → List N → Type 0) → V → V → N → Type 0
StandsForOneMore {V} {N} stands found left note = (told : List N) → stands found told → stands left (told ++ note ∷ [])

-- the work was done once, which answered so, on the value that the turn before it in the history left; the pass has seen all turns up to its own, which is the last, and has its note behind those of its earlier ones
pub record Turned {V N A : Type 0} (stands : V → List N → Type 0) (does : V → V → A → Type 0) (note : V → V → A → N) (answer : A) (before after : Known N)
    : Type 0
  where
    pub between : List (ℕ × N)
    pub found : V
    pub left : V
    pub found_stands : stands found (notes (before.seen ++ between))
    pub worked : does found left answer
    pub left_stands : stands left (notes after.seen)
    pub seen : after.seen ≡ (before.seen ++ between) ++ (before.number, note found left answer) ∷ []
    pub mine : after.mine ≡ before.mine ++ note found left answer ∷ []
    pub all_mine : notes_by after.number after.seen ≡ after.mine
    pub number : after.number ≡ before.number
    pub took : after.took ≡ before.took
    pub place : after.place ≡ before.place

-- the pass has seen more of the history, or as much, in which its own turns and those of the passes that it took are as it knows them
pub record Heard {N : Type 0} (before after : Known N) : Type 0 where
  pub longer : IsPrefix before.seen after.seen
  pub agrees : Agrees after.seen (own after)
  pub number : after.number ≡ before.number
  pub mine : after.mine ≡ before.mine
  pub took : after.took ≡ before.took
  pub place : after.place ≡ before.place

-- the pass has seen all that the two had, and knows the other's turns
pub record Joined {N : Type 0} (before other after : Known N) : Type 0 where
  pub longer : IsPrefix before.seen after.seen
  pub longer_too : IsPrefix other.seen after.seen
  pub agrees : Agrees after.seen (own after)
  pub number : after.number ≡ before.number
  pub mine : after.mine ≡ before.mine
  pub took : after.took ≡ before.took ++ own other
  pub place : after.place ≡ before.place

-- the value stands for a whole history, which begins with what the last pass has seen, and whose notes are, number by number, those that it has, and no others
pub record Closed {V N : Type 0} (stands : V → List N → Type 0) (passes : ℕ) (last : Known N) (value : V) : Type 0 where
  pub log : List (ℕ × N)
  pub value_stands : stands value (notes log)
  pub seen : IsPrefix last.seen log
  pub agrees : Agrees log (own last)
  pub no_others : (number : ℕ) → passes ≤ number → notes_by number log ≡ []
