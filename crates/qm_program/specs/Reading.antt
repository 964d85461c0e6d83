-- What a run reads: a script of the files' cluster, or what is wrong with it.
use Rattle.std.specs.Prelude.{◌≡◌, ◌≢◌, ◌⊎◌, ◌+◌, ℕ, Bool, List, Option, None, Some, IfSome, IsTrue, Ok, Err}
use Rattle.std.specs.Io.KnownBytes.{IsAtEnd}
use Rattle.qm_acting.specs.Reading.{IsRestoreFault}
use Rattle.qm_chest.specs.Noting.{StartsEarly}
use Rattle.qm_store.specs.Recorded.{Holds, Recorded}
use Rattle.qm_history.specs.Common.{CrashState, cluster, LineFault, script_lines, UserLine, system_in, counted, Long, System, TEXT_LIMIT}
use Rattle.qm_glog.specs.declared.fault.OpenFault.TheVariants as opening
use Rattle.qm_history.specs.declared.world.World.{World}
use Rattle.qm_disk.specs.Bytes.{LosesAtMost}
use Rattle.qm_restore.specs.QueueFile.{IsSiteFile}
use Rattle.qm_program.specs.declared.outcome.End.{End}
use Rattle.qm_program.specs.declared.outcome.End.TheVariants as ends

-- ---- the files

-- Files hold a site on which a program can go on, and whose cluster has these nodes.
pub record HoldCluster (files : CrashState) (names : List (List ℕ)) : Type 0 where
  pub world : World
  pub starts : StartsEarly files world
  pub names_are : (w : World) → StartsEarly files w → cluster (system_in w) ≡ names

-- files are those of no site, whose nodes aren't known then
abbrev pub AreNoSite : CrashState → Type 0
AreNoSite files =
    ((byte : ℕ) × IsRestoreFault files (opening.Unformatted byte)) ⊎ ((file place : ℕ) × IsRestoreFault files (opening.Damaged file place))

-- Files are those of a new site, and of what was done there since.
pub record AreSite (files : CrashState) : Type 0 where
  pub recorded : Recorded
  pub system : System
  pub holds : Holds files recorded
  pub site : IsSiteFile recorded.bodies system

-- ---- the script

-- the text is what a source had left, where that is told
abbrev pub IsRead : Option (List ℕ) → List ℕ → Type 0
IsRead left text = IfSome left (λ bytes. bytes ≡ text)

-- What a source had left is a script of a cluster of these nodes, whose lines are so; where no names are given, of any cluster.
pub record OfScript (names : Option (List (List ℕ))) (left : Option (List ℕ)) (P : List UserLine → Type 0) : Type 0 where
  pub text : List ℕ
  pub lines : List UserLine
  pub read : IsRead left text
  pub script : script_lines names text ≡ Ok lines
  pub so : P lines

-- it is a script
abbrev pub IsScript : Option (List (List ℕ)) → Option (List ℕ) → Type 0
IsScript names left = OfScript names left (λ lines. Unit {0})

-- The nodes that were known when lines were read: those of the files; or none, where the files are no site's, or the disk failed.
abbrev pub AreKnown : Bool → CrashState → ℕ → ℕ → Option (List (List ℕ)) → Type 0
AreKnown tells files before now (Some names) = (now ≡ before) × (IsTrue tells → HoldCluster files names)
AreKnown tells files before now None = ((now ≡ before) × (IsTrue tells → AreNoSite files)) ⊎ (now ≡ counted before)

-- what a source had left is no script of a cluster of these nodes, and this is wrong first
abbrev pub IsFirstFault : Option (List (List ℕ)) → Option (List ℕ) → LineFault → Type 0
IsFirstFault names left fault = IfSome left (λ bytes. script_lines names bytes ≡ Err fault)

-- What a source had left is no script, and this is wrong first: for whichever nodes, before the files were looked at; or for the nodes
-- that were known.
abbrev pub IsFaulty : Bool → CrashState → ℕ → ℕ → Option (List ℕ) → LineFault → Type 0
IsFaulty tells files before now left fault =
    ((now ≡ before) × ((names : Option (List (List ℕ))) → IsFirstFault names left fault))
    ⊎ ((names : Option (List (List ℕ))) × IsFirstFault names left fault × AreKnown tells files before now names)

-- What a run leaves of its source, by its end: it was read to its end, but where it failed, and where there was more than a
-- script may have. Then one byte more tells so, and no other is read. Memory runs out before the first byte is read, or behind
-- the whole text.
abbrev pub Reads : Option (List ℕ) → Option (List ℕ) → End → Type 0
Reads left rest ends.Ok = IsAtEnd rest
Reads left rest ends.Usage = ⊥
Reads left rest ends.Read = LosesAtMost (TEXT_LIMIT + 1) left rest
Reads left rest (ends.Script line kind) = LosesAtMost (TEXT_LIMIT + 1) left rest × (kind ≢ Long → IsAtEnd rest)
Reads left rest ends.Write = IsAtEnd rest
Reads left rest ends.Journal = IsAtEnd rest
Reads left rest (ends.Unformatted byte) = IsAtEnd rest
Reads left rest (ends.Damaged file place) = IsAtEnd rest
Reads left rest ends.HistoryFull = IsAtEnd rest
Reads left rest ends.NoMemory = (rest ≡ left) ⊎ IsAtEnd rest
