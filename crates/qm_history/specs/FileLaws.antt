-- What the laws say of the files of a site: of the worlds that they begin, and of masters that are judged.
-- This site's own: all of it.
use Rattle.std.specs.Prelude.{◌≡◌, ℕ, List, map}
use Rattle.qm_model.specs.Common.{Record, system_of}
use Rattle.qm_glog.specs.Records.{IsLog}
use Rattle.qm_record.specs.Spelling.{HasSpelling, record_text}
use Rattle.qm_history.specs.declared.world.World.{World}
use Rattle.qm_history.specs.Judged.{ReadsOneWay}
use Rattle.qm_history.specs.Master.{AreMaster, MasterRecord, master_text}
use Rattle.qm_history.specs.Start.{Hold, IsMasterDamaged, IsUnformatted, Starts}
use Rattle.qm_history.specs.World.{system_in, IsSound}

-- a file is one log alone
abbrev pub IsOneLog : Type 0
IsOneLog = (file : List ℕ) (a b : List (List ℕ)) → IsLog file a → IsLog file b → a ≡ b

-- records of different texts differ
abbrev pub TextsDiffer : Type 0
TextsDiffer = (q r : Record) → HasSpelling q → HasSpelling r → record_text q ≡ record_text r → q ≡ r

-- this holds of each world with which a program can begin on files
abbrev pub OfEachStart : ((ℕ → List ℕ) → World → Type 0) → Type 0
OfEachStart Holds = (files : ℕ → List ℕ) (w : World) → Starts files w → Holds files w

-- files on which a program can begin hold the log of its world
abbrev pub StartsAreHeld : Type 0
StartsAreHeld = OfEachStart (λ files w. Hold files w.log)

-- on files that hold a log a program can begin, in a sound world whose system is the one that the log stands for
abbrev pub HeldLogsBegin : Type 0
HeldLogsBegin =
    (files : ℕ → List ℕ) (log : List Record) → Hold files log
    → (w : World) × Starts files w × IsSound w × (system_in w ≡ system_of log)

-- where a file is one log alone, and records of different texts differ, files begin one world at most
abbrev pub FilesBeginOneWorld : Type 0
FilesBeginOneWorld =
    (files : ℕ → List ℕ) (w v : World) → IsOneLog → TextsDiffer → Starts files w → Starts files v → w ≡ v

-- in the same way each world that files begin has the system of each log that they hold
abbrev pub StartsHaveHeldSystem : Type 0
StartsHaveHeldSystem =
    (files : ℕ → List ℕ) (log : List Record) (w : World) → IsOneLog → TextsDiffer → Hold files log
    → Starts files w → system_in w ≡ system_of log

-- and the logs that files hold stand for one system
abbrev pub FilesHoldOneSystem : Type 0
FilesHoldOneSystem =
    (files : ℕ → List ℕ) (a b : List Record) → IsOneLog → TextsDiffer → Hold files a
    → Hold files b → system_of a ≡ system_of b

-- where files are read in one way, a master that stands is damaged nowhere
abbrev pub SoundMastersStand : Type 0
SoundMastersStand =
    (file : List ℕ) (masters : List MasterRecord) (place : ℕ) → ReadsOneWay → IsLog file (map master_text masters)
    → AreMaster masters → IsMasterDamaged file place → ⊥

-- one is damaged at one place at most
abbrev pub MastersBreakOnce : Type 0
MastersBreakOnce = (file : List ℕ) (p q : ℕ) → ReadsOneWay → IsMasterDamaged file p → IsMasterDamaged file q → p ≡ q

-- and one that is unformatted isn't damaged
abbrev pub UnformattedMastersStand : Type 0
UnformattedMastersStand =
    (files : ℕ → List ℕ) (byte place : ℕ) → ReadsOneWay → IsUnformatted files byte → IsMasterDamaged (files 0) place → ⊥
