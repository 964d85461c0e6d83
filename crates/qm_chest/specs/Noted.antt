-- Calls that were noted one behind another, as histories speak of them.
-- OpenVMS System Manager's Manual, Managing the Queue Manager and Queue Database, on the queue manager process and its files.
-- This site's own: the notes of turns.
use Rattle.std.specs.Prelude.{◌≡◌, ℕ, List, [], ◌∷◌, ◌++◌}
use Rattle.qm_disk.specs.Disk.{Meaning}
use Rattle.qm_history.specs.declared.call.Answer.{Answer}
use Rattle.qm_history.specs.declared.turn.Turn.{Turn}
use Rattle.qm_history.specs.declared.world.World.{World}
use Rattle.qm_history.specs.Chest.{Chest, Note, Serves, Stands}

module _ {D : Type 0} (m : Meaning D) (w : World) (began : D) where
  -- Behind the calls that are noted before, these were served one behind another: each of a node with a reading of its clock, and
  -- each does to the chest what a noted call does.
  abbrev pub AreServed : List Note → Chest D → List Note → Chest D → Type 0
  AreServed before old [] new = new ≡ old
  AreServed before old (n ∷ notes) new =
      (node : ℕ) × (now : ℕ) × (told : Answer) × (next : Chest D)
      × Serves m w began old next before node now n told × AreServed (before ++ n ∷ []) next notes new

  -- A chest began in this world on this device, with no note. All calls since then are noted, and it stands for their notes; it
  -- has this device now, and these turns.
  pub record HasNoted (disk : D) (turns : List Turn) : Type 0 where
    pub first : Chest D
    pub begins : Stands m w began first []
    pub on : first.disk ≡ began
    pub last : Chest D
    pub notes : List Note
    pub calls : AreServed [] first notes last
    pub stands : Stands m w began last notes
    pub disk_is : last.disk ≡ disk
    pub turns_are : last.turns ≡ turns
