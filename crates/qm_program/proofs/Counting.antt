-- How often the outside failed.
use Rattle.std.proofs.Common.{◌≡◌, ◌<◌, ◌≤◌, ◌+◌, ◌-◌, ◌^◌, ℕ, zero, suc, Bool, true, false, cond, List, [], ◌∷◌, refl, ◌∙◌, ap, subst, arith}
use Rattle.std.proofs.lemmas.List.Sums.{sum_by-cons}
use Rattle.qm_node.specs.Taken.{RoseBy, counted_often}
use Rattle.qm_cluster.specs.Turning.{IsToldTo}
use Rattle.qm_node.specs.declared.turn.TurnEnd.TheVariants as stop
use Rattle.qm_history.specs.Common.{counted, faults_told, tells_disk_fault}
use Rattle.qm_history.specs.declared.turn.Turn.{Turn}
use Rattle.qm_cluster.specs.Ends.{some_disk_failed}
use Rattle.qm_serving.specs.SiteServing.{IsToldBut}
use Rattle.qm_program.specs.Causes.{Counts, DiskFails}
use Rattle.qm_program.specs.Doing.{IsWithoutFault}

abbrev pub counts_of : ℕ → ℕ → ℕ → Counts
counts_of source sink disk = record { source = source; sink = sink; disk = disk }

pub same_counts : (source sink disk more_sink more_disk : ℕ) → more_sink ≡ sink → more_disk ≡ disk → counts_of source more_sink more_disk ≡ counts_of source sink disk
same_counts source sink disk more_sink more_disk s d = ap (λ (n : ℕ). counts_of source n more_disk) s ∙ ap (λ (n : ℕ). counts_of source sink n) d

-- ---- as turns tell

clash : true ≡ false → ⊥
clash e = cc

none_by : (t : Turn) (turns : List Turn) (b : Bool) → tells_disk_fault t.events ≡ b → (some_disk_failed turns ≡ false → faults_told turns ≡ 0)
    → some_disk_failed (t ∷ turns) ≡ false → faults_told (t ∷ turns) ≡ 0
none_by t turns true is behind none = let no : true ≡ false = rw is at none in absurd (clash no)
none_by t turns false is behind none = let rest : some_disk_failed turns ≡ false = rw is at none in rw is (behind rest)

none_told : (turns : List Turn) → some_disk_failed turns ≡ false → faults_told turns ≡ 0
none_told [] none = refl
none_told (t ∷ turns) none = none_by t turns (tells_disk_fault t.events) refl (none_told turns) none

some_by : (t : Turn) (turns : List Turn) (b : Bool) → tells_disk_fault t.events ≡ b → (some_disk_failed turns ≡ true → 0 < faults_told turns)
    → some_disk_failed (t ∷ turns) ≡ true → 0 < faults_told (t ∷ turns)
some_by t turns true is behind some =
    let more : faults_told (t ∷ turns) ≡ cond {A = ℕ} (tells_disk_fault t.events) 1 0 + faults_told turns = sum_by-cons (λ (x : Turn). cond {A = ℕ} (tells_disk_fault x.events) 1 0) t turns in
    let one : cond {A = ℕ} (tells_disk_fault t.events) 1 0 ≡ 1 = rw is refl in
    omega (arith, more, one)
some_by t turns false is behind some = let rest : some_disk_failed turns ≡ true = rw is at some in rw is (behind rest)

some_told : (turns : List Turn) → some_disk_failed turns ≡ true → 0 < faults_told turns
some_told [] some = cc
some_told (t ∷ turns) some = some_by t turns (tells_disk_fault t.events) refl (some_told turns) some

-- the disk didn't fail where no turn tells so
pub none_rose : (turns : List Turn) (before now : ℕ) → some_disk_failed turns ≡ false → RoseBy (faults_told turns) before now → now ≡ before
none_rose turns before now none rose = subst (λ (n : ℕ). RoseBy n before now) (none_told turns none) rose

-- and it failed where one does
pub some_rose : (turns : List Turn) (before now : ℕ) → some_disk_failed turns ≡ true → RoseBy (faults_told turns) before now → DiskFails turns before now
some_rose [] before now some rose = cc
some_rose (t ∷ turns) before now some rose = (some_told (t ∷ turns) some, rose)

-- no turn hides that it did where the sink failed, or more turns can't be kept
pub told_at_write : (turns : List Turn) (before now : ℕ) → IsToldTo stop.Write turns before now → RoseBy (faults_told turns) before now
told_at_write turns before now told = told_all told.failed told.unread told.told told.rose told.hidden
  where
    told_all : (failed unread : ℕ) → faults_told turns ≡ failed + unread → RoseBy failed before now → unread ≡ 0 → RoseBy (faults_told turns) before now
    told_all failed unread told rose none = subst (λ (n : ℕ). RoseBy n before now) (omega (arith, told, none)) rose

pub told_at_full : (turns : List Turn) (before now : ℕ) → IsToldTo stop.HistoryFull turns before now → RoseBy (faults_told turns) before now
told_at_full turns before now told = told_all told.failed told.unread told.told told.rose told.hidden
  where
    told_all : (failed unread : ℕ) → faults_told turns ≡ failed + unread → RoseBy failed before now → unread ≡ 0 → RoseBy (faults_told turns) before now
    told_all failed unread told rose none = subst (λ (n : ℕ). RoseBy n before now) (omega (arith, told, none)) rose

-- nor does one of nodes that made their turns at once, where none is said to
pub told_but_none : (turns : List Turn) (before now unread : ℕ) → unread ≡ 0 → IsToldBut unread turns before now → RoseBy (faults_told turns) before now
told_but_none turns before now unread none told = told_all told.failed told.told told.rose
  where
    told_all : (failed : ℕ) → faults_told turns ≡ failed + unread → RoseBy failed before now → RoseBy (faults_told turns) before now
    told_all failed told rose = subst (λ (n : ℕ). RoseBy n before now) (omega (arith, told, none)) rose

-- ---- counts that could have risen

-- a count that stayed didn't rise
pub no_count : (old new : ℕ) → IsWithoutFault old new → new ≡ counted old → ⊥
no_count old new without rose = omega (arith, without.0, without.1, rose)

never_falls : (count old : ℕ) → old < 2 ^ 64 - 1 → old ≤ counted_often count old
never_falls zero old room = omega arith
never_falls (suc count) old room = let before = never_falls count old room in omega (arith, before, room)

often : (count old : ℕ) → old < 2 ^ 64 - 1 → old < counted_often (suc count) old
often count old room = let before = never_falls count old room in omega (arith, before, room)

no_rise : (count old new : ℕ) → IsWithoutFault old new → 0 < count → RoseBy count old new → ⊥
no_rise zero old new without some rose = omega (arith, some)
no_rise (suc count) old new without some rose = let more = often count old without.1 in omega (arith, more, rose, without.0)

pub no_failure : (turns : List Turn) (old new : ℕ) → IsWithoutFault old new → DiskFails turns old new → ⊥
no_failure [] old new without failed = no_count old new without failed
no_failure (t ∷ turns) old new without failed = no_rise (faults_told (t ∷ turns)) old new without failed.0 failed.1
