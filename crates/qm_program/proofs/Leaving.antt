-- What the end of a run says of it.
use Rattle.std.proofs.Common.{◌≡◌, ◌+◌, ◌<◌, inl, inr, ⊎_elim, ℕ, nat_lt, true, List, [], length, Option, None, Some, Result, Ok, Err, IsOk, IsTrue, IfSome, refl, sym, ◌∙◌, subst, arith}
use Rattle.std.proofs.lemmas.Bool.Decides.{nat_tests}
use Rattle.std.specs.Io.KnownBytes.{IsAtEnd}
use Rattle.qm_acting.specs.Reading.{IsRestoreFault}
use Rattle.qm_acting.specs.Spare.{KeepsSpare}
use Rattle.qm_acting.proofs.Spare.{keeps_on, looks_keep}
use Rattle.qm_chest.specs.Noting.{StartsEarly}
use Rattle.qm_node.specs.Sides.{Side}
use Rattle.qm_node.specs.Taken.{RoseBy}
use Rattle.qm_history.specs.Common.{Meaning, OnlyLooks, TellsFaults, OpenFault, ServingEnd, faults_told, UserLine, Long, TEXT_LIMIT}
use Rattle.qm_glog.specs.declared.fault.OpenFault.TheVariants as opening
use Rattle.qm_history.specs.Ends as serving
use Rattle.qm_history.specs.Lines.{LineFault, script_bytes, script_lines}
use Rattle.qm_history.specs.declared.turn.Turn.{Turn}
use Rattle.qm_history.specs.declared.world.World.{World}
use Rattle.qm_disk.specs.Bytes.{LosesAtMost}
use Rattle.qm_script.specs.ClusterLines.{ReadsLines}
use Rattle.qm_script.specs.declared.lines.LinesEnd.{LinesEnd}
use Rattle.qm_script.specs.declared.lines.LinesEnd.TheVariants as lines
use Rattle.qm_cluster.specs.Ends.{CountsSink}
use Rattle.qm_chest.specs.Opening.{IsOpened}
use Rattle.qm_serving.specs.Serving.{Outside, outside}
use Rattle.qm_chest.specs.At.{chest_disk, chest_names}
use Rattle.qm_chest.specs.declared.chest.Chest.{Chest}
use Rattle.qm_program.specs.Causes.{HasCause, HasReason}
use Rattle.qm_program.specs.Ends.{EndsUnopened, EndsUnserved, IsBehindText, end_of_lines, end_of_serving}
use Rattle.qm_program.specs.Reading.{AreKnown, HoldCluster, IsFaulty, IsFirstFault, IsRead, IsScript, Reads}
use Rattle.qm_program.specs.Running.{EndsBehind, ServesScript, ServesTo, TouchesNothing}
use Rattle.qm_program.specs.declared.outcome.End.{End}
use Rattle.qm_program.specs.declared.outcome.End.TheVariants as ends
use Rattle.qm_program.proofs.Counting.{counts_of, none_rose, same_counts, some_rose}

-- ---- what was read

-- what was read is what the source had left
pub read_text : (left : Option (List ℕ)) (items text : List ℕ) → IfSome left (λ bytes. items ≡ bytes) → text ≡ items → IsRead left text
read_text None items text whole is = tt
read_text (Some bytes) items text whole is = sym (is ∙ whole)

-- what is so of the text is so of what the source had left
of_text : (left : Option (List ℕ)) (text : List ℕ) (P : List ℕ → Type 0) → IsRead left text → P text → IfSome left P
of_text None text P read so = tt
of_text (Some bytes) text P read so = subst P (sym read) so

is_script_by : (names : Option (List (List ℕ))) (left : Option (List ℕ)) (text : List ℕ) (s : Result (List UserLine) LineFault) → IsRead left text → script_lines names text ≡ s → IsOk s
    → IsScript names left
is_script_by names left text (Ok lines) read is ok = record { text = text; lines = lines; read = read; script = is; so = tt }
is_script_by names left text (Err fault) read is ok = cc

is_script : (names : Option (List (List ℕ))) (left : Option (List ℕ)) (text : List ℕ) → IsRead left text → IsOk (script_lines names text) → IsScript names left
is_script names left text read ok = is_script_by names left text (script_lines names text) read refl ok

module _ {D Y : Type 0} (m : Meaning D)
    (S : D → List (List ℕ) → List UserLine → Outside D Y → Outside D Y → List Turn → ServingEnd → Type 0)
    (left : Option (List ℕ)) (text : List ℕ) (read : IsRead left text) where
  -- ---- lines that weren't served

  module _ (source sink : ℕ) (old new : D) (taken : Option (List ℕ)) (sides : List (Side Y)) (looks : OnlyLooks m old new) where
    touched : TouchesNothing m [] (outside old taken sides) (outside new taken sides)
    touched = record { disk = looks; taken = refl; sides = refl; none = refl }

    -- it ends so, and leaves this
    abbrev Ends : End → Type 0
    Ends end =
        IsBehindText end
        × HasCause m.tells (m.seen old) left [] (counts_of source sink (m.faults old)) (counts_of source sink (m.faults new)) end
        × ServesTo m S left [] (outside old taken sides) (outside new taken sides) end

    faulty : (names : Option (List (List ℕ))) → AreKnown m.tells (m.seen old) (m.faults old) (m.faults new) names → (fault : LineFault) → script_lines names text ≡ Err fault
        → IsFaulty m.tells (m.seen old) (m.faults old) (m.faults new) left fault
    faulty names known fault is = inr (names, of_text left text (λ bytes. script_lines names bytes ≡ Err fault) read is, known)

    ends_faulty : (names : Option (List (List ℕ))) → AreKnown m.tells (m.seen old) (m.faults old) (m.faults new) names → (fault : LineFault) → script_lines names text ≡ Err fault
        → Ends (ends.Script fault.line fault.kind)
    ends_faulty names known fault is = (tt, (refl, refl, faulty names known fault is), inr touched)

    ends_short : (names : Option (List (List ℕ))) → AreKnown m.tells (m.seen old) (m.faults old) (m.faults new) names → IsOk (script_lines names text) → Ends ends.NoMemory
    ends_short names known ok = (tt, (refl, refl), inr (inl (touched, inr (names, known, is_script names left text read ok))))

    unserved : (names : Option (List (List ℕ))) → AreKnown m.tells (m.seen old) (m.faults old) (m.faults new) names → (other end : End) → (IsOk (script_lines names text) → Ends other)
        → EndsUnserved names text other end → Ends end
    unserved names known other end goes ends_so = elim ends_so [
      | inl ok ↦ ⊎_elim (λ is. subst Ends (sym is) (goes ok.0)) (λ is. subst Ends (sym is) (ends_short names known ok.0)) ok.1
      | inr wrong ↦ subst Ends (sym wrong.2) (ends_faulty names known wrong.0 wrong.1)
    ]

    -- the files couldn't be opened
    pub unopened : (fault : OpenFault) → (IsTrue m.tells → IsRestoreFault (m.seen old) fault) → TellsFaults m old new (fault ≡ opening.Disk) → (end : End) → EndsUnopened text fault end → Ends end
    unopened opening.NoMemory told counts end is =
        subst Ends (sym is) (tt, (refl, refl), inr (inl (touched, inl (counts.quiet (λ is. cc), told))))
    unopened opening.Disk told counts end is =
        unserved None (inr (counts.fault refl)) ends.Journal end
        (λ ok. (tt, (refl, refl, counts.fault refl), inl (touched, is_script None left text read ok))) is
    unopened (opening.Unformatted byte) told counts end is =
        let quiet = counts.quiet (λ is. cc) in
        unserved None (inl (quiet, λ tells. inl (byte, told tells))) (ends.Unformatted byte) end
        (λ ok. (tt, (same_counts source sink (m.faults old) sink (m.faults new) refl quiet, told), (touched, is_script None left text read ok))) is
    unopened (opening.Damaged file place) told counts end is =
        let quiet = counts.quiet (λ is. cc) in
        unserved None (inl (quiet, λ tells. inr (file, place, told tells))) (ends.Damaged file place) end
        (λ ok. (tt, (refl, refl, inl (refl, quiet, told)), inl (touched, is_script None left text read ok))) is

  -- ---- over a site that was opened

  module _ (source sink later : ℕ) (disk : D) (chest : Chest D) (opened : IsOpened m disk chest) where
    holds : IsTrue m.tells → HoldCluster (m.seen disk) (chest_names chest)
    holds tells = holds_in (opened.begins tells)
      where
        holds_in : (w : World) × StartsEarly (m.seen disk) w → HoldCluster (m.seen disk) (chest_names chest)
        holds_in begins = record { world = begins.0; starts = begins.1; names_are = opened.names tells }

    -- no lines were read
    pub unread : {X : Type 0} (view : X → List UserLine) (taken : Option (List ℕ)) (sides : List (Side Y)) (end : LinesEnd) → ReadsLines view (script_lines (Some (chest_names chest)) text) (Err end)
        → Ends source sink disk (chest_disk chest) taken sides opened.looks (end_of_lines end)
    unread view taken sides (lines.Fault line kind) is =
        ends_faulty source sink disk (chest_disk chest) taken sides opened.looks (Some (chest_names chest)) (opened.quiet, holds) (record { line = line; kind = kind }) is
    unread view taken sides lines.NoMemory is =
        ends_short source sink disk (chest_disk chest) taken sides opened.looks (Some (chest_names chest)) (opened.quiet, holds) is

    module _ (script : List UserLine) (is : script_lines (Some (chest_names chest)) text ≡ Ok script) (taken now : Option (List ℕ)) (was are : List (Side Y)) (new : D) (turns : List Turn) where
      abbrev Served : ServingEnd → Type 0
      Served end = S disk (chest_names chest) script (outside (chest_disk chest) taken was) (outside new now are) turns end

      served_so : (end : ServingEnd) → Served end → ServesScript m S left turns (outside disk taken was) (outside new now are) end
      served_so end serves = record {
        names = chest_names chest;
        cluster = holds;
        opened = chest_disk chest;
        looks = opened.looks;
        quiet = opened.quiet;
        served = record { text = text; lines = script; read = read; script = is; so = serves };
      }

      pub served_to : (end : ServingEnd) → Served end → ServesTo m S left turns (outside disk taken was) (outside new now are) (end_of_serving end)
      served_to serving.Served serves = served_so serving.Served serves
      served_to serving.DiskFailed serves = inr (served_so serving.DiskFailed serves)
      served_to serving.SinkFailed serves = served_so serving.SinkFailed serves
      served_to serving.HistoryFull serves = served_so serving.HistoryFull serves
      served_to (serving.Damaged file place) serves = inr (served_so (serving.Damaged file place) serves)
      served_to serving.NoMemory serves = inr (inr (served_so serving.NoMemory serves))

      since_opening : RoseBy (faults_told turns) (m.faults (chest_disk chest)) (m.faults new) → RoseBy (faults_told turns) (m.faults disk) (m.faults new)
      since_opening rose = subst (λ (n : ℕ). RoseBy (faults_told turns) n (m.faults new)) opened.quiet rose

      pub served_cause : (end : ServingEnd) → CountsSink end sink later → HasReason m.tells end turns (m.faults (chest_disk chest)) (m.faults new)
          → HasCause m.tells (m.seen disk) left turns (counts_of source sink (m.faults disk)) (counts_of source later (m.faults new)) (end_of_serving end)
      served_cause serving.Served counts reason =
          same_counts source sink (m.faults disk) later (m.faults new) counts (none_rose turns (m.faults disk) (m.faults new) reason.ends (since_opening reason.failed))
      served_cause serving.DiskFailed counts reason = (refl, counts, some_rose turns (m.faults disk) (m.faults new) reason.ends (since_opening reason.failed))
      served_cause serving.SinkFailed counts reason = (refl, counts, since_opening reason.failed)
      served_cause serving.HistoryFull counts reason = (refl, counts, since_opening reason.failed, reason.ends)
      served_cause (serving.Damaged file place) counts reason = (refl, counts, inr reason.undamaged)
      served_cause serving.NoMemory counts reason = (refl, counts)

-- the whole text was read
pub served_behind : (end : ServingEnd) → IsBehindText (end_of_serving end)
served_behind serving.Served = tt
served_behind serving.DiskFailed = tt
served_behind serving.SinkFailed = tt
served_behind serving.HistoryFull = tt
served_behind (serving.Damaged file place) = tt
served_behind serving.NoMemory = tt

-- ---- what all this says of a run over a text

module _ {D Y : Type 0} (m : Meaning D)
    (S : D → List (List ℕ) → List UserLine → Outside D Y → Outside D Y → List Turn → ServingEnd → Type 0) (text : List ℕ) (sink : ℕ) where
  pub unopened_ends : (old new : D) (taken : Option (List ℕ)) (sides : List (Side Y)) (looks : OnlyLooks m old new) (fault : OpenFault) → (IsTrue m.tells → IsRestoreFault (m.seen old) fault)
      → TellsFaults m old new (fault ≡ opening.Disk) → (end : End) → EndsUnopened text fault end
      → EndsBehind m S text [] (outside old taken sides) (outside new taken sides) sink sink end
  unopened_ends old new taken sides looks fault told counts end is = record {
    behind = (unopened m S (Some text) text refl 0 sink old new taken sides looks fault told counts end is).0;
    cause = λ left source read. (unopened m S left text read source sink old new taken sides looks fault told counts end is).1;
    serves = λ left read. (unopened m S left text read 0 sink old new taken sides looks fault told counts end is).2;
    spare = λ tells. looks_keep m old new looks;
  }

  module _ (disk : D) (chest : Chest D) (opened : IsOpened m disk chest) where
    pub unread_ends : {X : Type 0} (view : X → List UserLine) (taken : Option (List ℕ)) (sides : List (Side Y)) (end : LinesEnd)
        → ReadsLines view (script_lines (Some (chest_names chest)) text) (Err end)
        → EndsBehind m S text [] (outside disk taken sides) (outside (chest_disk chest) taken sides) sink sink (end_of_lines end)
    unread_ends view taken sides end is = record {
      behind = (unread m S (Some text) text refl 0 sink sink disk chest opened view taken sides end is).0;
      cause = λ left source read. (unread m S left text read source sink sink disk chest opened view taken sides end is).1;
      serves = λ left read. (unread m S left text read 0 sink sink disk chest opened view taken sides end is).2;
      spare = λ tells. looks_keep m disk (chest_disk chest) opened.looks;
    }

    pub served_ends : (later : ℕ) (script : List UserLine) → script_lines (Some (chest_names chest)) text ≡ Ok script
        → (taken now : Option (List ℕ)) (was are : List (Side Y)) (new : D) (turns : List Turn) (end : ServingEnd) → CountsSink end sink later
        → HasReason m.tells end turns (m.faults (chest_disk chest)) (m.faults new) → (IsTrue m.tells → KeepsSpare m (chest_disk chest) new)
        → S disk (chest_names chest) script (outside (chest_disk chest) taken was) (outside new now are) turns end
        → EndsBehind m S text turns (outside disk taken was) (outside new now are) sink later (end_of_serving end)
    served_ends later script is taken now was are new turns end counts reason spare serves = record {
      behind = served_behind end;
      cause = λ left source read. served_cause m S left text read source sink later disk chest opened script is taken now was are new turns end counts reason;
      serves = λ left read. served_to m S left text read 0 sink later disk chest opened script is taken now was are new turns end serves;
      spare = λ tells. keeps_on m disk (chest_disk chest) new (looks_keep m disk (chest_disk chest) opened.looks) (spare tells);
    }

pub reads_whole : (left rest : Option (List ℕ)) (end : End) → IsBehindText end → LosesAtMost (TEXT_LIMIT + 1) left rest → IsAtEnd rest → Reads left rest end
reads_whole left rest ends.Ok behind lost at_end = at_end
reads_whole left rest ends.Usage behind lost at_end = absurd behind
reads_whole left rest ends.Read behind lost at_end = absurd behind
reads_whole left rest (ends.Script line kind) behind lost at_end = (lost, λ not. at_end)
reads_whole left rest ends.Write behind lost at_end = at_end
reads_whole left rest ends.Journal behind lost at_end = at_end
reads_whole left rest (ends.Unformatted byte) behind lost at_end = at_end
reads_whole left rest (ends.Damaged file place) behind lost at_end = at_end
reads_whole left rest ends.HistoryFull behind lost at_end = at_end
reads_whole left rest ends.NoMemory behind lost at_end = inr at_end

-- a text that is too long
too_long_by : (n : ℕ) → n ≡ script_bytes → (names : Option (List (List ℕ))) (bytes : List ℕ) → n < length bytes → script_lines names bytes ≡ Err (record { line = 0; kind = Long })
too_long_by n is names bytes long = rw is_less refl
  where
    is_less : nat_lt script_bytes (length bytes) ≡ true
    is_less = grind (arith, nat_tests)

pub too_long : TEXT_LIMIT ≡ script_bytes → (left : Option (List ℕ)) → IfSome left (λ bytes. TEXT_LIMIT < length bytes)
    → (names : Option (List (List ℕ))) → IsFirstFault names left (record { line = 0; kind = Long })
too_long limit None long names = tt
too_long limit (Some bytes) long names = too_long_by TEXT_LIMIT limit names bytes long
