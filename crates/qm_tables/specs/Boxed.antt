-- How entries are kept: each in a box of its own.
use Rattle.std.specs.Prelude.{ℕ, ◌+◌, List, ◌++◌, map, take, drop, Box}
use Rattle.qm_kinds.specs.declared.entry.Entry.{Entry}

-- what lies in these boxes, in their order
abbrev pub contents : {X Z : Type 0} → List (Box X Z) → List X
contents boxes = map (λ b. b.value) boxes

-- the list with what stands at a place in front of all others
abbrev pub brought : {X : Type 0} → ℕ → List X → List X
brought place xs = (drop place (take (place + 1) xs) ++ take place (take (place + 1) xs)) ++ drop (place + 1) xs

-- the list, in which what stands at a place behind the first ones comes to stand right behind these
abbrev pub brought_behind : {X : Type 0} → ℕ → ℕ → List X → List X
brought_behind first place xs = take first xs ++ brought place (drop first xs)

-- the entries on a shelf, in their order, and for how many more it has a place
pub record Shelved : Type 0 where
  pub entries : List Entry
  pub room : ℕ
