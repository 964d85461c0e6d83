-- What it means that nodes ask a chest, which is their queue manager.
-- OpenVMS System Manager's Manual, Managing the Queue Manager and Queue Database, on the queue manager process and its files.
use Rattle.std.specs.Prelude.{◌≡◌, ℕ, IsTrue, Option}
use Rattle.qm_acting.specs.Spare.{KeepsSpare}
use Rattle.qm_chest.specs.At.{IsAt, IsServing, chest_disk, chest_names, chest_turns}
use Rattle.qm_chest.specs.Noting.{HasServed}
use Rattle.qm_chest.specs.declared.chest.Chest.{Chest}
use Rattle.qm_disk.specs.Disk.{Meaning}
use Rattle.qm_history.specs.declared.call.Answer.{Answer}
use Rattle.qm_history.specs.declared.call.Call.{Call}
use Rattle.qm_history.specs.declared.turn.Turn.{Turn}
use Rattle.qm_history.specs.declared.world.World.{World}
use Rattle.qm_history.specs.Serving as manager

module _ {D : Type 0} (m : Meaning D) where
  -- it stands for this world, and its disks tell
  pub record StandsAt (w : World) (chest : Chest D) : Type 0 where
    pub tells : IsTrue m.tells
    pub cap : ℕ
    pub at : IsAt m cap w chest

  -- A call of some node was served, which left this turn, or none, and was answered so. The queue file that isn't live stays.
  pub record HasDone (old new : Chest D) (asked : Call) (turn : Option Turn) (told : Answer) : Type 0 where
    pub node : ℕ
    pub now : ℕ
    pub served : (cap : ℕ) → HasServed m cap node now asked old new told
    pub turn_is : (cap : ℕ) → (served cap).one.turn ≡ turn
    pub spare : IsTrue m.tells → KeepsSpare m (chest_disk old) (chest_disk new)

  -- what the call of a queue manager speaks of
  abbrev pub meaning_of : manager.Meaning (Chest D)
  meaning_of = record {
    turns = chest_turns;
    nodes = chest_names;
    failed = λ chest. m.faults (chest_disk chest);
    tells = m.tells;
    serves = IsServing m;
    stands = StandsAt;
    does = λ w old new asked turn told. HasDone old new asked turn told;
  }
