-- What a node has done by its own thread, in the turns that its pass has seen, and how that ends.
-- OpenVMS System Manager's Manual, Setting Up and Maintaining Queues, on symbionts; OpenVMS System Services Reference Manual,
-- $GETTIM. This site's own: turns, and that a node goes on until nothing is left to do.
use Rattle.std.specs.Prelude.{◌≡◌, ◌⊎◌, ◌≤◌, ℕ, false, List, [], ◌∷◌, ◌++◌, length, map, flat_map, Option, None, Some, Result, Ok, Err}
use Rattle.std.specs.List.{AllByRecursion}
use Rattle.std.specs.Io.KnownBytes.{Appends}
use Rattle.qm_symb.specs.Device.{Meaning}
use Rattle.qm_history.specs.declared.turn.Turn.{Turn}
use Rattle.qm_history.specs.declared.world.World.{World}
use Rattle.qm_history.specs.Common.{IsCourse, MadeStep, at_first, failed_steps, NodeEnd, Ended, BrokenOff, TurnsSpent, FileDamaged, MemoryShort, HasPrinted, extent_of, after_turns, Reaches, UserLine, Visit, visits_of, is_live}
use Rattle.qm_history.specs.Text.{behind, prefix_of, turn_lines}
use Rattle.qm_sjc.specs.Printed.{items_line}
use Rattle.qm_node.specs.Asking.{read_built}
use Rattle.qm_node.specs.Seats.{HeldSeat, standing_of}
use Rattle.qm_node.specs.Standing.{IsBehind}
use Rattle.qm_node.specs.Taken.{AreTaken, Rises}
use Rattle.qm_turn.specs.History.{notes_by}
use Rattle.qm_turn.specs.Turns.{Known}
use Rattle.qm_node.specs.declared.turn.TurnEnd.{TurnEnd}
use Rattle.qm_node.specs.declared.turn.TurnEnd.TheVariants as end
use Rattle.qm_cluster.specs.declared.noted.Noted.{Noted}
use Rattle.qm_cluster.specs.Passes.{turns_in, IsOfNode}
use Rattle.qm_cluster.specs.Sharing.{turns_of}

-- ---- how it ends

-- how the turns of the node ended, whose text is kept in memory: a write of that fails for want of memory
abbrev pub node_end : Result (Unit {0}) TurnEnd → NodeEnd
node_end (Ok done) = Ended
node_end (Err end.Write) = MemoryShort
node_end (Err end.HistoryFull) = TurnsSpent
node_end (Err (end.Damaged file place)) = FileDamaged file place
node_end (Err end.NoMemory) = MemoryShort

-- the call left a turn of this node, and was told all that the turn tells
abbrev pub IsHeard : ℕ → Noted → Type 0
IsHeard node n = (t : Turn) × (n.turn ≡ Some t) × (t.node ≡ node) × (n.unread ≡ false)

-- what is noted of the last call, where the turns of the node ended so
abbrev pub IsLastOf : ℕ → NodeEnd → List Noted → Type 0
IsLastOf node Ended last = last ≡ []
IsLastOf node BrokenOff last = ⊥
IsLastOf node TurnsSpent last = (n : Noted) × (last ≡ n ∷ []) × (n.turn ≡ None) × (n.unread ≡ false)
IsLastOf node (FileDamaged file place) last = (n : Noted) × (t : Turn) × (last ≡ n ∷ []) × (n.turn ≡ Some t) × (t.node ≡ node)
IsLastOf node MemoryShort last = (last ≡ []) ⊎ ((n : Noted) × (last ≡ n ∷ []) × IsOfNode node n)

-- how many turns that tell of a disk that failed may be hidden by this end
abbrev pub hidden_by : NodeEnd → ℕ
hidden_by Ended = 0
hidden_by BrokenOff = 0
hidden_by TurnsSpent = 0
hidden_by (FileDamaged file place) = 1
hidden_by MemoryShort = 1

-- ---- what it did

-- the text of the answer that a node of this name got in a turn
abbrev pub visit_told : List ℕ → Visit → List ℕ
visit_told name v = behind (prefix_of name v.turn.why) (turn_lines items_line v.before v.turn)

-- and in its turns
abbrev pub text_told : List ℕ → List Visit → List ℕ
text_told name visits = flat_map (visit_told name) visits

-- the readings of the turns that are noted
abbrev pub readings : List Noted → List ℕ
readings notes = map (λ (t : Turn). t.moment) (turns_of notes)

-- What a pass then knows whose node made its turns: each left a turn of that node, but for the last one, as the end says; they are
-- all that its number has in what was seen; the clock told a moment for each, and at most one more; and no more turns can be kept
-- just where the end says so.
pub record HasDriven (most node : ℕ) (stopped : NodeEnd) (old new : Known Noted) (told then : Option (List ℕ)) : Type 0 where
  pub front : List Noted
  pub last : List Noted
  pub mine : new.mine ≡ front ++ last
  pub heard : AllByRecursion (IsHeard node) front
  pub ends : IsLastOf node stopped last
  pub all_mine : notes_by node new.seen ≡ new.mine
  pub number : new.number ≡ old.number
  pub took : new.took ≡ old.took
  pub place : new.place ≡ old.place
  pub more : List ℕ
  pub clock : Appends told then (readings new.mine ++ more)
  pub few : length more ≤ 1
  pub none_more : stopped ≡ Ended → more ≡ []
  pub spent : stopped ≡ TurnsSpent → length (turns_in new.seen) ≡ most

module _ {Y : Type 0} (y : Meaning Y) (first : World) (node : ℕ) (name : List ℕ) (lines : List UserLine) where
  -- In these turns the node's own are a course of its lines, as far as the end says, in whose steps its device failed as often as
  -- the symbiont's count rose; the devices took what was handed over in them; and the text is that of its answers, as far as the
  -- end says.
  pub record IsDriven (stopped : NodeEnd) (turns : List Turn) (was now : Y) (before after : List ℕ) : Type 0 where
    pub faults : ℕ
    pub rose : Rises y faults was now
    pub course : IsCourse read_built (extent_of stopped) first turns node lines faults
    pub taken : AreTaken y course.steps course.broken was now
    pub printed : List ℕ
    pub appended : after ≡ before ++ printed
    pub text : HasPrinted stopped (text_told name (visits_of node first turns)) printed

-- ---- and so far

module _ {Y : Type 0} (y : Meaning Y) (first : World) (node : ℕ) (name : List ℕ) (lines : List UserLine) (was : Y) (before : List ℕ) where
  -- behind these turns the node's own have led to where it is
  pub record HasCome (turns : List Turn) (seat : HeldSeat) (now : Y) (after : List ℕ) : Type 0 where
    pub live : seat.live ≡ is_live (after_turns first turns) node
    pub steps : List MadeStep
    pub reached : Reaches read_built (at_first lines) [] (is_live first node) (visits_of node first turns) steps seat.node.state seat.live
    pub rose : Rises y (failed_steps steps) was now
    pub taken : AreTaken y steps None was now
    pub behind : IsBehind (visits_of node first turns) (standing_of seat)
    pub text : after ≡ before ++ text_told name (visits_of node first turns)

-- what a pass knows between two turns of its node: each of the node's calls left a turn, and was told it
pub record HasMade (most node : ℕ) (name : List ℕ) (old : Known Noted) (told : Option (List ℕ)) (seat : HeldSeat) (new : Known Noted) (then : Option (List ℕ)) : Type 0 where
  pub heard : AllByRecursion (IsHeard node) new.mine
  pub all_mine : notes_by node new.seen ≡ new.mine
  pub number : (new.number ≡ old.number) × (new.number ≡ node)
  pub took : new.took ≡ old.took
  pub place : new.place ≡ old.place
  pub count : length new.mine ≡ seat.count
  pub few : seat.count ≤ most
  pub clock : Appends told then (readings new.mine)
  pub none_made : seat.node.made ≡ None
  pub named : seat.name ≡ name
