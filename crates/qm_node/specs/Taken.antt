-- What the devices of a node took of its steps, and what its clock told for its turns.
-- OpenVMS System Manager's Manual, Setting Up and Maintaining Queues, on symbionts; OpenVMS System Services Reference Manual,
-- $GETTIM.
use Rattle.std.specs.Prelude.{◌≡◌, ℕ, zero, suc, IsTrue, List, [], ◌∷◌, ◌++◌, Option}
use Rattle.std.specs.Io.KnownBytes.{Appends}
use Rattle.qm_history.specs.Common.{counted, KeptRun, Extent, MadeStep, Visit}
use Rattle.qm_symb.specs.Device.{Meaning, handed_by}
use Rattle.qm_symb.specs.declared.handed.HandOver.{HandOver}
use Rattle.qm_history.specs.Blocks.{AreHanded, all_steps}
use Rattle.qm_history.specs.Readings.{AreReadings}

-- a count of calls that failed, behind so many more
abbrev pub counted_often : ℕ → ℕ → ℕ
counted_often zero old = old
counted_often (suc count) old = counted (counted_often count old)

-- it rose by so many, or stands at the end of its type
abbrev pub RoseBy : ℕ → ℕ → ℕ → Type 0
RoseBy count old new = new ≡ counted_often count old

-- the blocks of steps, each handed by its run to its queue's device, in their order
abbrev pub handed_to : List MadeStep → List (List (List ℕ)) → List HandOver
handed_to [] handed = []
handed_to (m ∷ steps) [] = []
handed_to (m ∷ steps) (blocks ∷ handed) = handed_by m.run.work.run m.run.work.device blocks ++ handed_to steps handed

module _ {Y : Type 0} (y : Meaning Y) where
  -- so many calls failed
  abbrev pub Rises : ℕ → Y → Y → Type 0
  Rises count old new = RoseBy count (y.faults old) (y.faults new)

  -- The devices took the blocks of these steps, and of one more where the course broke off within it, and nothing else.
  pub record AreTaken (steps : List MadeStep) (broken : Option KeptRun) (old new : Y) : Type 0 where
    pub handed : List (List (List ℕ))
    pub are_handed : AreHanded (all_steps steps broken) handed
    pub taken : IsTrue y.tells → y.taken new ≡ y.taken old ++ handed_to (all_steps steps broken) handed

-- the clock told the readings of these turns, in order
pub record AreTold (extent : Extent) (visits : List Visit) (old new : Option (List ℕ)) : Type 0 where
  pub told : List ℕ
  pub appended : Appends old new told
  pub are : AreReadings extent told visits
