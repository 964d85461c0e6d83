-- What the bodies of a master's records say together, or which is the first that can't stand there.
use Rattle.std.specs.Prelude.{◌≡◌, ◌<◌, ◌≤◌, ◌^◌, ℕ, List, map, Result, Ok, Err}
use Rattle.qm_history.specs.Master.{MasterRecord, MasterState as State, master_text, master_of, no_master, AreMaster, IsQueueFile}
use Rattle.qm_history.specs.Start.{IsFirstBadMaster}
use Rattle.qm_store.specs.MasterRecords.{state_of}
use Rattle.qm_store.specs.declared.master.state.MasterState.{MasterState}
use Rattle.qm_kinds.specs.declared.limits.TheConstants.{LEAST_CAP, GREATEST_CAP}

-- the bodies are those of a master that says this
pub record IsMaster (bodies : List (List ℕ)) (says : State) : Type 0 where
  pub masters : List MasterRecord
  pub whole : bodies ≡ map master_text masters
  pub are_master : AreMaster masters
  pub says_is : says ≡ master_of no_master masters

-- what a master can say: its cap is within the limits, one of the two queue files is live, and more epochs can come
pub record IsLawful (says : State) : Type 0 where
  pub least : LEAST_CAP ≤ says.cap
  pub greatest : says.cap ≤ GREATEST_CAP
  pub live : IsQueueFile says.live
  pub epoch : says.epoch < 2 ^ 62

-- the body of this index is the first one that can't stand in a master
abbrev pub IsFirstBad : List (List ℕ) → ℕ → Type 0
IsFirstBad bodies index = IsFirstBadMaster bodies index

-- what the bodies say, or the first that is wrong
abbrev pub IsJudged : List (List ℕ) → Result MasterState ℕ → Type 0
IsJudged bodies (Ok says) = IsMaster bodies (state_of says)
IsJudged bodies (Err index) = IsFirstBad bodies index
