-- What the logs of the files tell of the database.
use Rattle.std.proofs.Common.{◌≡◌, ◌≢◌, sym, refl, ◌∙◌, ap, arith, ℕ, ◌<◌, ◌≤◌, inl, inr, List, [], ◌∷◌, ◌++◌, length, subst, Result, Ok, Err, IsErrAnd}
use Rattle.qm_history.specs.Common.{Meaning, CrashState, OnlyLooks, Log, OpenFault, first_byte, place_of}
use Rattle.qm_glog.specs.Log.{bodies_of, IsAsLeft}
use Rattle.qm_glog.specs.Records.{text, IsLog, IsBroken, IsDamaged}
use Rattle.qm_glog.specs.Opened.{IsOpenFault}
use Rattle.qm_glog.specs.declared.fault.OpenFault.TheVariants.{Disk, Unformatted, Damaged, NoMemory}
use Rattle.qm_store.specs.MasterJudging.{IsFirstBad}
use Rattle.qm_store.specs.MasterRecords.{state_of}
use Rattle.qm_store.specs.declared.master.state.MasterState.{MasterState}
use Rattle.qm_store.proofs.Masters.{has_record, says_lawful}
use Rattle.qm_store.proofs.Moving.{live_within}
use Rattle.qm_store.specs.Loading.{IsLoadFault, IsMasterFault, IsMasterLog, IsLiveFault, ReadsMasterLog, ReadsMaster, ReadsFiles}
use Rattle.qm_store.specs.declared.files.Files.{Files}
use Rattle.qm_store.specs.Files.{AreLeft}
use Rattle.qm_store.specs.Recorded.{Holds}

-- records begin with an open gate
pub begins_open : (file : List ℕ) (bodies : List (List ℕ)) → IsLog file bodies → 0 < length bodies → first_byte file ≡ 1
begins_open file [] log some = absurd (omega arith)
begins_open file (body ∷ bodies) log some = ap first_byte log.whole

broken_begins : (file rest : List ℕ) (bodies : List (List ℕ)) → file ≡ text bodies ++ rest → IsBroken rest → file ≢ [] → first_byte file ≡ 1
broken_begins file [] [] whole broken some = absurd (some whole)
broken_begins file (gate ∷ rest) [] whole broken some = ap first_byte whole ∙ broken.0
broken_begins file rest (body ∷ bodies) whole broken some = ap first_byte whole

-- ---- the master

-- a fault of the log is one of the master
master_fault : (file : List ℕ) (fault : OpenFault) → IsOpenFault 0 file fault → IsMasterFault file fault
master_fault file Disk told = tt
master_fault file NoMemory told = ap first_byte told.3
master_fault file (Unformatted byte) told = (told.0 ∙ sym (ap first_byte told.1), λ one. let no : 0 ≡ 1 = sym told.0 ∙ one in absurd (omega (arith, no)))
master_fault file (Damaged n place) told = (told.0, (broken_begins file told.2.rest told.2.bodies told.2.whole told.2.broken told.1, inl told.2))

pub master_fault_handed_on : (file : List ℕ) (fault : OpenFault) (result : Result Log OpenFault) → IsErrAnd result (λ e. e ≡ fault) → IsOpenFault 0 file fault → ReadsMasterLog file result
master_fault_handed_on file fault (Ok log) is told = absurd is
master_fault_handed_on file fault (Err e) is told = subst (IsMasterFault file) (sym is) (master_fault file fault told)

-- a file that is a log without records begins with no gate
pub not_open : (file : List ℕ) (bodies : List (List ℕ)) → IsLog file bodies → length bodies ≡ 0 → first_byte file ≢ 1
not_open file [] log none = λ one. log.shut (sym (ap first_byte log.whole) ∙ one)
not_open file (body ∷ bodies) log none = absurd (omega (arith, none))

-- the first bad record of a log is where the master is damaged
pub bad_is_damage : (file : List ℕ) (bodies : List (List ℕ)) (index place : ℕ) → IsLog file bodies → 0 < length bodies → IsFirstBad bodies index → place ≡ place_of bodies index
    → IsMasterFault file (Damaged 0 place)
bad_is_damage file bodies index place log some bad is = (refl, (begins_open file bodies log some, inr (bodies, index, log, bad, is)))

-- ---- the live file

-- an empty file is damaged at its beginning
pub live_fault_told : (live : ℕ) (file : List ℕ) (byte : ℕ) → IsOpenFault live file (Unformatted byte) → IsLiveFault live file (Damaged live 0)
live_fault_told live file byte told = (refl, record { bodies = []; rest = []; whole = told.1; fit = tt; place_is = refl; broken = tt })

-- ---- both

pub master_is_asked_first : (files : CrashState) (fault : OpenFault) → IsMasterFault (files 0) fault → IsLoadFault files fault
master_is_asked_first files Disk told = tt
master_is_asked_first files NoMemory told = told
master_is_asked_first files (Unformatted byte) told = told
master_is_asked_first files (Damaged n place) told = inl told

pub live_is_asked_next : (files : CrashState) (content : List ℕ) (bodies : List (List ℕ)) (says : MasterState) (fault : OpenFault) → content ≡ files says.live → IsMasterLog (files 0) bodies says
    → IsLiveFault says.live content fault → IsLoadFault files fault
live_is_asked_next files content bodies says Disk same log told = tt
live_is_asked_next files content bodies says NoMemory same log told = begins_open (files 0) bodies log.records (has_record bodies (state_of says) log.is_master)
live_is_asked_next files content bodies says (Unformatted byte) same log told = absurd told
live_is_asked_next files content bodies says (Damaged n place) same log told = inr (record {
  masters = log.is_master.masters;
  master_is_log = subst (IsLog (files 0)) log.is_master.whole log.records;
  are_master = log.is_master.are_master;
  file_is = told.0 ∙ ap (λ m. m.live) log.is_master.says_is;
  cut = subst (λ (f : List ℕ). IsDamaged f place) (same ∙ ap files (sym told.0)) told.1;
})

-- a log stays as it was left behind a call that only looks
pub still_left : {D : Type 0} (m : Meaning D) (log : Log) (old new : D) → log.file ≤ 2 → IsAsLeft m log old → OnlyLooks m old new → IsAsLeft m log new
still_left m log old new le left looks = record {
  records = subst (λ (f : List ℕ). IsLog f (bodies_of log)) (sym (looks.reads log.file le)) left.records;
  durable = λ c may. left.durable c (looks.no_more log.file c le may) ∙ sym (looks.reads log.file le);
}

-- ---- faults that are handed on

pub master_not_read : (file : List ℕ) (fault : OpenFault) (result : Result (Log × MasterState) OpenFault) → IsErrAnd result (λ e. e ≡ fault) → IsMasterFault file fault → ReadsMaster file result
master_not_read file fault (Ok read) is told = absurd is
master_not_read file fault (Err e) is told = subst (IsMasterFault file) (sym is) told

pub files_not_read : (files : CrashState) (fault : OpenFault) (result : Result Files OpenFault) → IsErrAnd result (λ e. e ≡ fault) → IsLoadFault files fault → ReadsFiles files result
files_not_read files fault (Ok read) is told = absurd is
files_not_read files fault (Err e) is told = subst (IsLoadFault files) (sym is) told

-- ---- both files

module _ {D : Type 0} (m : Meaning D) (old mid : D) (looks : OnlyLooks m old mid) where
  live_le : (bodies : List (List ℕ)) (says : MasterState) → IsMasterLog (m.seen old 0) bodies says → says.live ≤ 2
  live_le bodies says master = live_within says.live (says_lawful bodies (state_of says) master.is_master).live

  pub live_not_read : (bodies : List (List ℕ)) (says : MasterState) (fault : OpenFault) (result : Result Files OpenFault) → IsMasterLog (m.seen old 0) bodies says → IsLiveFault says.live (m.seen mid says.live) fault
      → IsErrAnd result (λ e. e ≡ fault) → ReadsFiles (m.seen old) result
  live_not_read bodies says fault result master told is =
      files_not_read (m.seen old) fault result is (live_is_asked_next (m.seen old) (m.seen mid says.live) bodies says fault (looks.reads says.live (live_le bodies says master)) master told)

  pub files_read : (bodies live : List (List ℕ)) (says : MasterState) → IsMasterLog (m.seen old 0) bodies says → IsLog (m.seen mid says.live) live
      → Holds (m.seen old) (record { master = bodies; says = state_of says; bodies = live })
  files_read bodies live says master log = record {
    master_is_log = master.records;
    is_master = master.is_master;
    live_is_log = subst (λ (f : List ℕ). IsLog f live) (looks.reads says.live (live_le bodies says master)) log;
  }

pub files_left : {D : Type 0} (m : Meaning D) (mid new : D) (files : Files) → IsAsLeft m files.master mid → OnlyLooks m mid new → IsAsLeft m files.queue new → AreLeft m files new
files_left m mid new files master looks queue = record { master = still_left m files.master mid new files.master.in_disk master looks; queue = queue }
