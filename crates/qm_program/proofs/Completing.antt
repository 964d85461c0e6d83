-- Over a sound script and the files of a site a run ends well where nothing failed.
use Rattle.std.proofs.Common.{◌≡◌, ◌⊎◌, ◌+◌, inl, inr, ⊎_elim, ℕ, Bool, true, false, List, take, drop, Option, None, Some, Result, Ok, Err, IsTrue, refl, sym, ◌∙◌, subst, take-append-drop}
use Rattle.std.proofs.Math.Nat.{eq-or-lt_of_le}
use Rattle.qm_acting.specs.Reading.{IsRestoreFault, IsUnlawfulAt}
use Rattle.qm_store.specs.Loading.{IsLoadFault}
use Rattle.qm_store.specs.Recorded.{Holds, Recorded}
use Rattle.qm_history.specs.Common.{CrashState, LineFault, script_lines, UserLine, System}
use Rattle.qm_glog.specs.declared.fault.OpenFault.TheVariants as opening
use Rattle.qm_history.specs.declared.turn.Turn.{Turn}
use Rattle.qm_restore.specs.QueueFile.{Begins, IsFirstUnlawful, IsSiteFile}
use Rattle.qm_program.specs.Causes.{Counts, HasCause}
use Rattle.qm_program.specs.Doing.{EndsWell, HasSoundScript, IsWithoutFault}
use Rattle.qm_program.specs.Reading.{AreKnown, AreNoSite, AreSite, HoldCluster, IsFaulty, IsFirstFault}
use Rattle.qm_program.specs.declared.outcome.End.{End}
use Rattle.qm_program.specs.declared.outcome.End.TheVariants as ends
use Rattle.qm_program.proofs.Counting.{no_count, no_failure}

-- ---- laws of files

abbrev pub Undamaged : Type 0
Undamaged = (files : CrashState) (r : Recorded) (file place : ℕ) → Holds files r → IsLoadFault files (opening.Damaged file place) → ⊥

abbrev pub Formatted : Type 0
Formatted = (files : CrashState) (r : Recorded) (byte : ℕ) → Holds files r → IsLoadFault files (opening.Unformatted byte) → ⊥

abbrev pub OneContent : Type 0
OneContent = (files : CrashState) (a b : Recorded) → Holds files a → Holds files b → a ≡ b

-- ---- files of a site

-- a file that begins with others begins so
first_begin : (bodies : List (List ℕ)) (s : System) (n : ℕ) → IsSiteFile bodies s → Begins (take n bodies)
first_begin bodies s n site = record {
  more = drop n bodies;
  system = s;
  is = subst (λ (b : List (List ℕ)). IsSiteFile b s) (sym (take-append-drop n bodies)) site;
}

lawful : (bodies : List (List ℕ)) (s : System) (index : ℕ) → IsSiteFile bodies s → IsFirstUnlawful bodies index → ⊥
lawful bodies s index site first =
    ⊎_elim (λ is. first.unfinished is s site) (λ less. first.ends less (first_begin bodies s (index + 1) site)) (eq-or-lt_of_le first.within)

module _ (undamaged : Undamaged) (formatted : Formatted) (one_content : OneContent) (files : CrashState) (site : AreSite files) where
  not_unlawful : (file place : ℕ) → IsUnlawfulAt files file place → ⊥
  not_unlawful file place bad =
      let same = one_content files site.recorded bad.recorded site.holds bad.holds in
      lawful bad.recorded.bodies site.system bad.index (subst (λ (r : Recorded). IsSiteFile r.bodies site.system) same site.site) bad.first

  pub not_damaged : (file place : ℕ) → IsRestoreFault files (opening.Damaged file place) → ⊥
  not_damaged file place bad = ⊎_elim (undamaged files site.recorded file place site.holds) (not_unlawful file place) bad

  pub not_unformatted : (byte : ℕ) → IsRestoreFault files (opening.Unformatted byte) → ⊥
  not_unformatted byte bad = formatted files site.recorded byte site.holds bad

  is_site : AreNoSite files → ⊥
  is_site none = ⊎_elim (λ bad. not_unformatted bad.0 bad.1) (λ bad. not_damaged bad.0 bad.1 bad.2) none

  -- its nodes are known by the files
  one_cluster : (a b : List (List ℕ)) → HoldCluster files a → HoldCluster files b → a ≡ b
  one_cluster a b one other = sym (one.names_are one.world one.starts) ∙ other.names_are one.world one.starts

  -- ---- a script for it

  ok_or_not : (lines : List UserLine) (fault : LineFault) (r : Result (List UserLine) LineFault) → r ≡ Ok lines → r ≡ Err fault → ⊥
  ok_or_not lines fault r ok err = cc

  module _ (tells : Bool) (told : IsTrue tells) (left : Option (List ℕ)) (sound : HasSoundScript left files) where
    not_first : (some : Option (List ℕ)) (fault : LineFault) → HasSoundScript some files → ((s : HasSoundScript some files) → IsFirstFault (Some s.names) some fault) → ⊥
    not_first None fault s first = absurd (not_told s.told)
      where
        not_told : false ≡ true → ⊥
        not_told e = cc
    not_first (Some bytes) fault s first =
        let script : script_lines (Some s.names) bytes ≡ Ok s.script.lines = subst (λ (t : List ℕ). script_lines (Some s.names) t ≡ Ok s.script.lines) (sym s.script.read) s.script.script in
        ok_or_not s.script.lines fault (script_lines (Some s.names) bytes) script (first s)

    not_for_known : (before now : ℕ) → IsWithoutFault before now → (fault : LineFault) (names : Option (List (List ℕ))) → IsFirstFault names left fault
        → AreKnown tells files before now names → ⊥
    not_for_known before now without fault None first known =
        ⊎_elim (λ none. is_site (none.1 told)) (λ failed. no_count before now without failed) known
    not_for_known before now without fault (Some names) first known =
        not_first left fault sound
        (λ s. subst (λ (n : List (List ℕ)). IsFirstFault (Some n) left fault) (one_cluster names s.names (known.1 told) s.cluster) first)

    not_faulty : (before now : ℕ) → IsWithoutFault before now → (fault : LineFault) → IsFaulty tells files before now left fault → ⊥
    not_faulty before now without fault faulty =
        ⊎_elim (λ any. not_first left fault sound (λ s. any.1 (Some s.names))) (λ known. not_for_known before now without fault known.0 known.1 known.2) faulty

    module _ (turns : List Turn) (old new : Counts) (source : IsWithoutFault old.source new.source) (sink : IsWithoutFault old.sink new.sink) (disk : IsWithoutFault old.disk new.disk) where
      pub ends_well : (end : End) → (end ≡ ends.Usage → ⊥) → HasCause tells files left turns old new end → EndsWell turns end
      ends_well ends.Ok used cause = inl refl
      ends_well ends.Usage used cause = absurd (used refl)
      ends_well ends.Read used cause = absurd (no_count _ _ source cause.0)
      ends_well (ends.Script line kind) used cause = absurd (not_faulty old.disk new.disk disk (record { line = line; kind = kind }) cause.2)
      ends_well ends.Write used cause = absurd (no_count _ _ sink cause.1)
      ends_well ends.Journal used cause = absurd (no_failure turns old.disk new.disk disk cause.2)
      ends_well (ends.Unformatted byte) used cause = absurd (not_unformatted byte (cause.1 told))
      ends_well (ends.Damaged file place) used cause = absurd (⊎_elim (λ bad. not_damaged file place (bad.2 told)) (λ never. never told) cause.2)
      ends_well ends.HistoryFull used cause = inr (inr (refl, cause.3))
      ends_well ends.NoMemory used cause = inr (inl refl)
