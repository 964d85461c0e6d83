-- What a queue manager in a turnstile stands for.
use Rattle.std.specs.Prelude.{◌≡◌, ◌<◌, ◌≤◌, ℕ, Bool, true, IsTrue, List, [], ◌∷◌, length, map}
use Rattle.std.specs.List.{AllByRecursion}
use Rattle.qm_history.specs.declared.call.Answer.{Answer}
use Rattle.qm_history.specs.declared.call.Answer.TheVariants as answer
use Rattle.qm_history.specs.declared.call.Call.{Call}
use Rattle.qm_history.specs.declared.turn.Turn.{Turn}
use Rattle.qm_history.specs.declared.world.World.{World}
use Rattle.qm_history.specs.Chest.{Note, is_unread, turns_kept, turns_noted}
use Rattle.qm_history.specs.Common.{IsLegal, after_turns, IsSound, is_live, ShowsDuties}
use Rattle.qm_history.specs.Serving.{IsAnswered, Meaning, Serves}
use Rattle.qm_cluster.specs.declared.noted.Noted.{Noted}
use Rattle.qm_cluster.specs.CallServing.{LeavesOne, turn_left}

-- a note, as histories have it
abbrev pub note_view : Noted → Note
note_view n = record { asked = n.asked; turn = n.turn; unread = n.unread }

-- the turns that are noted
abbrev pub turns_of : List Noted → List Turn
turns_of notes = turns_noted (map note_view notes)

-- The turns that it keeps are those that are noted, and where its disks tell, they are a legal history from each world in which it
-- may have begun; and it stands for its notes.
pub record StandsFor {S : Type 0} (tells : Bool) (may_begin : World → Type 0) (kept : S → List Turn) (stands : S → List Note → Type 0) (manager : S) (notes : List Noted) : Type 0 where
  pub turns : kept manager ≡ turns_of notes
  pub legal : IsTrue tells → (w : World) → may_begin w → IsLegal w (turns_of notes)
  pub itself : stands manager (map note_view notes)

-- ---- with what it began

module _ {S : Type 0} (m : Meaning S) where
  -- it may have begun in this world: as it was then, it stood for it
  abbrev pub MayBegin : List S → World → Type 0
  MayBegin began w = AllByRecursion (λ (first : S). m.stands w first) began

  -- this node is one of those with which it began
  abbrev pub IsThere : List S → ℕ → Type 0
  IsThere began node = AllByRecursion (λ (first : S). node < length (m.nodes first)) began

  -- these calls were served one behind another, each as the one before left the queue manager, and noted so
  abbrev pub AreAsked : S → List Note → S → Type 0
  AreAsked old [] new = new ≡ old
  AreAsked old (n ∷ notes) new =
      (node : ℕ) × (now : ℕ) × (told : Answer) × (next : S) × (s : Serves m node now n.asked old next told) × (s.turn ≡ n.turn) × (n.unread ≡ is_unread n.turn told) × AreAsked next notes new

  -- It began as this value, with no turn, and these are all calls since. The next one can be served.
  pub record HasStood (began : List S) (manager : S) (notes : List Note) : Type 0 where
    pub first : S
    pub first_is : began ≡ first ∷ []
    pub none : m.turns first ≡ []
    pub serves : m.serves manager
    pub nodes : m.nodes manager ≡ m.nodes first
    pub few : length (m.turns manager) ≤ turns_kept
    pub calls : AreAsked first notes manager

  -- where the disks tell, each world in which it may have begun is sound, and this node is live there
  abbrev pub NodeBeginsLive : List S → ℕ → Type 0
  NodeBeginsLive began node = IsTrue m.tells → (w : World) → MayBegin began w → IsSound w × (is_live w node ≡ true)

  -- and so are these first nodes
  abbrev pub NodesBeginLive : List S → ℕ → Type 0
  NodesBeginLive began nodes =
      IsTrue m.tells → (w : World) → MayBegin began w → (node : ℕ) → node < nodes → IsSound w × (is_live w node ≡ true)

  -- it stands for the notes of all calls since it began so
  abbrev pub StandsSince : List S → S → List Noted → Type 0
  StandsSince began manager notes = StandsFor m.tells (MayBegin began) m.turns (HasStood began) manager notes

-- ---- what a call does

-- what is noted of a call that was answered so, where it found the former turns and left the latter
abbrev pub note_of : Call → List Turn → List Turn → Answer → Noted
note_of asked old new told = record { asked = asked; turn = turn_left old new; unread = is_unread (turn_left old new) told }

-- a call of a node, at a reading of its clock
pub record CallOfNode : Type 0 where
  pub node : ℕ
  pub now : ℕ
  pub call : Call

-- What a call does: it leaves one turn more, or none for a reason; where the disks tell, it is told what that turn says, in the
-- world behind the turns that it found, and that no file is damaged; and duties that it is shown are those of a node.
pub record Asks (tells : Bool) (may_begin : World → Type 0) (most : ℕ) (asked : CallOfNode) (old new : List Turn) (told : Answer) : Type 0 where
  pub one : LeavesOne most asked.node asked.now asked.call old new told
  pub answered : IsTrue tells → (w : World) → may_begin w → IsAnswered (after_turns w old) asked.call (turn_left old new) told
  pub undamaged : IsTrue tells → (file place : ℕ) → told ≡ answer.Damaged file place → ⊥
  pub duties : ShowsDuties told
