-- What the passes of all nodes know together, and what they know of each node's turns. The pass of a node has its number.
use Rattle.std.specs.Prelude.{◌≡◌, ℕ, List, [], ◌∷◌, IfSome, count_by, sum_by}
use Rattle.std.specs.List.{AllByRecursion}
use Rattle.qm_history.specs.declared.turn.Turn.{Turn}
use Rattle.qm_turn.specs.History.{notes}
use Rattle.qm_turn.specs.Turns.{Known, Joined}
use Rattle.qm_cluster.specs.declared.noted.Noted.{Noted}
use Rattle.qm_cluster.specs.Sharing.{turns_of}

-- the turns of a turnstile's history
abbrev pub turns_in : List (ℕ × Noted) → List Turn
turns_in log = turns_of (notes log)

-- the turn that a call left, if it left one, is of this node
abbrev pub IsOfNode : ℕ → Noted → Type 0
IsOfNode node n = IfSome n.turn (λ (t : Turn). t.node ≡ node)

-- each turn is of the node whose pass made it
abbrev pub AreOfTheirNodes : List (ℕ × Noted) → Type 0
AreOfTheirNodes log = AllByRecursion (λ (e : ℕ × Noted). IsOfNode e.0 e.1) log

-- this node's turns are all of its own pass
abbrev pub AreOwn : ℕ → List (ℕ × Noted) → Type 0
AreOwn node log = AllByRecursion (λ (e : ℕ × Noted). IfSome e.1.turn (λ (t : Turn). t.node ≡ node → e.0 ≡ node)) log

-- of each number, the notes that are known have turns of that node alone
abbrev pub KnowOwnTurns : List (ℕ × List Noted) → Type 0
KnowOwnTurns pairs = AllByRecursion (λ (pair : ℕ × List Noted). AllByRecursion (IsOfNode pair.0) pair.1) pairs

-- how many of the calls left a turn that tells of a disk that failed, and weren't told so
abbrev pub unread_in : List Noted → ℕ
unread_in notes = count_by (λ (n : Noted). n.unread) notes

-- and of those that are known of numbers
abbrev pub unread_known : List (ℕ × List Noted) → ℕ
unread_known pairs = sum_by (λ (pair : ℕ × List Noted). unread_in pair.1) pairs

-- a pass took these others in, one behind another
abbrev pub TakesIn : Known Noted → List (Known Noted) → Known Noted → Type 0
TakesIn before [] after = after ≡ before
TakesIn before (other ∷ others) after = (between : Known Noted) × Joined before other between × TakesIn between others after
