-- What turns of one node leave, one behind another, and where they stop.
-- OpenVMS System Manager's Manual, Setting Up and Maintaining Queues, on symbionts. This site's own: what is printed of a turn.
use Rattle.std.specs.Prelude.{◌≡◌, ◌≢◌, ◌+◌, ◌≤◌, ℕ, false, List, ◌++◌, length, Option, None}
use Rattle.std.specs.List.{AllByRecursion}
use Rattle.std.specs.Io.KnownBytes.{Appends}
use Rattle.qm_history.specs.Common.{KeptRun, turns_kept, faults_told, after_turns, Reaches, text, Visit, visits, is_live}
use Rattle.qm_symb.specs.Device as symb
use Rattle.qm_history.specs.declared.turn.Turn.{Turn}
use Rattle.qm_history.specs.declared.turn.Why.{Why}
use Rattle.qm_history.specs.declared.turn.Why.TheVariants as why
use Rattle.qm_history.specs.declared.world.World.{World}
use Rattle.qm_history.specs.Course.{Whole, Begun, GoesOn, MadeStep, Over, failed_steps}
use Rattle.qm_history.specs.Order.{AreOver}
use Rattle.qm_sjc.specs.Printed.{items_line}
use Rattle.qm_node.specs.Asking.{read_built}
use Rattle.qm_node.specs.Ends.{TakesFront}
use Rattle.qm_history.specs.Serving.{Meaning, AreMade, LeavesNone}
use Rattle.qm_node.specs.Standing.{IsBehind, Standing}
use Rattle.qm_node.specs.Outside.{Outside}
use Rattle.qm_node.specs.Taken.{AreTaken, AreTold, Rises, RoseBy}
use Rattle.qm_node.specs.declared.turn.TurnEnd.{TurnEnd}
use Rattle.qm_node.specs.declared.turn.TurnEnd.TheVariants as end

-- a turn of the node's own: no line asked for it
abbrev pub IsOwnWhy : Why → Type 0
IsOwnWhy (why.Line line) = ⊥
IsOwnWhy why.Fetch = Unit {0}
IsOwnWhy why.Report = Unit {0}
IsOwnWhy why.Leave = Unit {0}

-- the turns are of this node, and made for such a reason
abbrev pub AreOf : ℕ → (Why → Type 0) → List Turn → Type 0
AreOf node May turns = AllByRecursion (λ (t : Turn). (t.node ≡ node) × May t.why) turns

-- a node that is through with everything has left, and is live no more
abbrev pub IsDownOver : Standing → Type 0
IsDownOver s = s.state.stage ≡ Over → s.live ≡ false

-- What the sink took where a turn was the last one: all where no more turns can be kept, and else a beginning.
abbrev pub TakesUpTo : TurnEnd → Option (List ℕ) → Option (List ℕ) → List ℕ → Type 0
TakesUpTo end.HistoryFull old new text = Appends old new text
TakesUpTo end.Write old new text = TakesFront old new text
TakesUpTo (end.Damaged file place) old new text = TakesFront old new text
TakesUpTo end.NoMemory old new text = TakesFront old new text

-- in how many turns a disk may have failed whose calls weren't told so: where the call was told that memory was short, or a file
-- damaged
abbrev pub MayHide : TurnEnd → ℕ → Type 0
MayHide end.HistoryFull unread = unread ≡ 0
MayHide end.Write unread = unread ≡ 0
MayHide (end.Damaged file place) unread = unread ≤ 1
MayHide end.NoMemory unread = unread ≤ 1

-- as many turns are kept as can be, where that is the end
abbrev pub IsFullAt : TurnEnd → List Turn → Type 0
IsFullAt end.HistoryFull turns = length turns ≡ turns_kept
IsFullAt end.Write turns = Unit {0}
IsFullAt (end.Damaged file place) turns = Unit {0}
IsFullAt end.NoMemory turns = Unit {0}

-- disks failed in these turns as often as their count rose, but for one that may be hidden by the end
pub record IsToldTo (end : TurnEnd) (turns : List Turn) (old new : ℕ) : Type 0 where
  pub failed : ℕ
  pub unread : ℕ
  pub told : faults_told turns ≡ failed + unread
  pub rose : RoseBy failed old new
  pub hidden : MayHide end unread

module _ {S Y : Type 0} (m : Meaning S) (y : symb.Meaning Y) where
  -- In a world for which the value stood, and in which the node is live as it stands, these turns were made: each is the one that
  -- comes next by what the node keeps, the value stands for the world behind them, the sink took what they print, the clock told
  -- their readings, and the devices took the blocks of their steps.
  pub record GoesAt (w : World) (node : ℕ) (here there : Standing) (turns : List Turn) (old new : Outside S Y) : Type 0 where
    pub made : AreMade m w old.value turns new.value
    pub stands : m.stands (after_turns w turns) new.value
    pub steps : List MadeStep
    pub reaches :
        (earlier : List Visit) → IsBehind earlier here
        → Reaches read_built here.state earlier here.live (visits w turns) steps there.state there.live
    pub behind : (earlier : List Visit) → IsBehind earlier here → IsBehind (earlier ++ visits w turns) there
    pub live : there.live ≡ is_live (after_turns w turns) node
    pub others : (other : ℕ) → other ≢ node → is_live (after_turns w turns) other ≡ is_live w other
    pub down : IsDownOver here → IsDownOver there
    pub overs : AreOver node w.live → AllByRecursion (λ (v : Visit). AreOver node v.before.live) (visits w turns)
    pub printed : Appends old.taken new.taken (text items_line w turns)
    pub told : AreTold Whole (visits w turns) old.told new.told
    pub rose : Rises y (failed_steps steps) old.symbiont new.symbiont
    pub taken : AreTaken y steps None old.symbiont new.symbiont

  -- A node made turns, each for such a reason, and stands there behind them.
  pub record Goes (May : Why → Type 0) (node : ℕ) (here there : Standing) (old new : Outside S Y) : Type 0 where
    pub turns : List Turn
    pub kept : m.turns new.value ≡ m.turns old.value ++ turns
    pub of_node : AreOf node May turns
    pub few : length (m.turns new.value) ≤ turns_kept
    pub count : there.count ≡ here.count + length turns
    pub nodes : m.nodes new.value ≡ m.nodes old.value
    pub serves : m.serves new.value
    pub failed : RoseBy (faults_told turns) (m.failed old.value) (m.failed new.value)
    pub at : (w : World) → m.stands w old.value → here.live ≡ is_live w node → GoesAt w node here there turns old new

  -- The same up to an end: the turns are the first ones of what the node does, of which the last one may be cut short, and within
  -- a step more the course may have broken off; the sink took first bytes of what they print.
  pub record StopsAt (w : World) (node : ℕ) (here : Standing) (turns : List Turn) (old new : Outside S Y) (end : TurnEnd) : Type 0 where
    pub next : S
    pub made : AreMade m w old.value turns next
    pub last : LeavesNone m (after_turns w turns) next new.value
    pub steps : List MadeStep
    pub broken : Option KeptRun
    pub goes_on :
        (earlier : List Visit) → IsBehind earlier here
        → GoesOn read_built Begun broken here.state earlier here.live (visits w turns) steps
    pub printed : TakesUpTo end old.taken new.taken (text items_line w turns)
    pub told : AreTold Begun (visits w turns) old.told new.told
    pub faults : ℕ
    pub rose : Rises y faults old.symbiont new.symbiont
    pub few_faults : failed_steps steps ≤ faults
    pub overs : AreOver node w.live → AllByRecursion (λ (v : Visit). AreOver node v.before.live) (visits w turns)
    pub taken : AreTaken y steps broken old.symbiont new.symbiont

  pub record Stops (May : Why → Type 0) (node : ℕ) (here : Standing) (old new : Outside S Y) (end : TurnEnd) : Type 0 where
    pub turns : List Turn
    pub kept : m.turns new.value ≡ m.turns old.value ++ turns
    pub of_node : AreOf node May turns
    pub full : IsFullAt end (m.turns new.value)
    pub nodes : m.nodes new.value ≡ m.nodes old.value
    pub failed : IsToldTo end turns (m.failed old.value) (m.failed new.value)
    pub at : (w : World) → m.stands w old.value → here.live ≡ is_live w node → StopsAt w node here turns old new end

  -- the same of one turn, or none
  abbrev pub StopsOnce : (Why → Type 0) → ℕ → Standing → Outside S Y → Outside S Y → TurnEnd → Type 0
  StopsOnce May node here old new end = (s : Stops May node here old new end) × (length s.turns ≤ 1)
