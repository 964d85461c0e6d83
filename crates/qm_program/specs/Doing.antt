-- What the program does, by what its words ask for.
use Rattle.std.specs.Prelude.{◌≡◌, ◌⊎◌, ◌<◌, ◌-◌, ◌^◌, ℕ, List, [], length, Option, None, Some, IsSome, IsTrue}
use Rattle.qm_acting.specs.Spare.{KeepsSpare}
use Rattle.qm_history.specs.Common.{CrashState, Meaning, OnlyLooks, turns_kept}
use Rattle.qm_store.specs.Making.{KeepsFile}
use Rattle.qm_history.specs.declared.turn.Turn.{Turn}
use Rattle.qm_serving.specs.Serving.{Outside}
use Rattle.qm_symb.specs.Device as symb
use Rattle.qm_program.specs.Causes.{Counts, HasCause}
use Rattle.qm_program.specs.Making.{Makes}
use Rattle.qm_program.specs.Reading.{AreSite, HoldCluster, IsScript, Reads}
use Rattle.qm_program.specs.Running.{RunsAtOnce, RunsTo}
use Rattle.qm_program.specs.Showing.{Shows}
use Rattle.qm_program.specs.declared.outcome.End.{End}
use Rattle.qm_program.specs.declared.outcome.End.TheVariants as ends
use Rattle.qm_program.specs.declared.task.Task.{Task}
use Rattle.qm_program.specs.declared.task.Task.TheVariants.{Run, Cluster, Show, Init}

module _ {D Y : Type 0} (m : Meaning D) (y : symb.Meaning Y) where
  -- Words that ask for nothing touch nothing. To serve a script alone reads, asks clocks and hands over blocks, and makes turns.
  abbrev pub Does : {S : Type 0} → (S → Option (List ℕ)) → Option Task → S → S → List Turn → Outside D Y → Outside D Y → End → Type 0
  Does remaining None source rest turns old new end = (rest ≡ source) × (new ≡ old) × (turns ≡ [])
  Does remaining (Some Run) source rest turns old new end =
      Reads (remaining source) (remaining rest) end × RunsTo m y (remaining source) turns old new end
  Does remaining (Some Cluster) source rest turns old new end =
      Reads (remaining source) (remaining rest) end × RunsAtOnce m y (remaining source) turns old new end
  Does remaining (Some Show) source rest turns old new end =
      (rest ≡ source) × (new.sides ≡ old.sides) × (turns ≡ []) × Shows m old.disk new.disk old.taken new.taken end
  Does remaining (Some (Init nodes cap)) source rest turns old new end =
      (rest ≡ source) × (new.sides ≡ old.sides) × (turns ≡ []) × Makes m nodes cap old.disk new.disk old.taken new.taken end

-- The queue file that isn't the live one reads as before, and a crash leaves of it what it might before; of a new site it is the second. To
-- list a site is only to look at its files.
abbrev pub SpareStays : {D : Type 0} → Meaning D → Option Task → D → D → Type 0
SpareStays m None old new = new ≡ old
SpareStays m (Some Run) old new = KeepsSpare m old new
SpareStays m (Some Cluster) old new = KeepsSpare m old new
SpareStays m (Some Show) old new = OnlyLooks m old new
SpareStays m (Some (Init nodes cap)) old new = KeepsFile m 2 old new

-- ---- completeness

-- no fault was counted, and the count could have risen
abbrev pub IsWithoutFault : ℕ → ℕ → Type 0
IsWithoutFault before now = (now ≡ before) × (before < 2 ^ 64 - 1)

-- a source tells that it has a script, for the cluster of these files, which are those of a site on which a program can go on
pub record HasSoundScript (left : Option (List ℕ)) (files : CrashState) : Type 0 where
  pub told : IsSome left
  pub site : AreSite files
  pub names : List (List ℕ)
  pub cluster : HoldCluster files names
  pub script : IsScript (Some names) left

-- the words ask for a script to be served
abbrev pub AsksToServe : Option Task → Type 0
AsksToServe task = (task ≡ Some Run) ⊎ (task ≡ Some Cluster)

-- All went well; or memory ran out, or as many turns are kept as can be.
abbrev pub EndsWell : List Turn → End → Type 0
EndsWell turns end = (end ≡ ends.Ok) ⊎ ((end ≡ ends.NoMemory) ⊎ ((end ≡ ends.HistoryFull) × (length turns ≡ turns_kept)))

-- ---- the promise

module _ {D Y S : Type 0} (m : Meaning D) (y : symb.Meaning Y) (remaining : S → Option (List ℕ)) where
  -- What the program promises of what its words ask for: of the source, what is outside, the failures that were counted, the turns and the end.
  pub record DoesTask (task : Option Task) (source rest : S) (old new : Outside D Y) (before now : Counts) (turns : List Turn) (end : End) : Type 0 where
    -- No words of the program are told as others.
    pub usage : end ≡ ends.Usage → task ≡ None
    -- Other words are told so; but memory may run out before.
    pub unasked : task ≡ None → (end ≡ ends.Usage) ⊎ (end ≡ ends.NoMemory)
    -- Each end has its cause, and no fault is hidden.
    pub cause : HasCause m.tells (m.seen old.disk) (remaining source) turns before now end
    -- What is read, what the sink takes, what the clocks tell, what the devices get, which turns are made, and what the disk holds, then and at each moment.
    pub does : Does m y remaining task source rest turns old new end
    -- The queue file that isn't live stays.
    pub others : IsTrue m.tells → SpareStays m task old.disk new.disk
    -- Over a script and files that are sound every line is answered, and each run that can step is carried out, where nothing but devices failed.
    pub complete : AsksToServe task → IsTrue m.tells → HasSoundScript (remaining source) (m.seen old.disk)
        → IsWithoutFault before.source now.source → IsWithoutFault before.sink now.sink → IsWithoutFault before.disk now.disk → EndsWell turns end
    -- Over files that are sound their site is listed, unless the disk or the sink fails, or memory runs out.
    pub listed : task ≡ Some Show → IsTrue m.tells → AreSite (m.seen old.disk)
        → IsWithoutFault before.sink now.sink → IsWithoutFault before.disk now.disk → (end ≡ ends.Ok) ⊎ (end ≡ ends.NoMemory)
