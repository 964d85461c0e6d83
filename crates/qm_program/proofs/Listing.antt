-- A site whose files are sound is listed.
use Rattle.std.proofs.Common.{◌≡◌, ◌⊎◌, inr, ℕ, Err, IsErrOf, Vec, Global, refl}
use Rattle.qm_acting.specs.Reading.{IsRestoreFault}
use Rattle.qm_history.specs.Common.{Meaning, TellsFaults, OpenFault}
use Rattle.qm_glog.specs.declared.fault.OpenFault.TheVariants as opening
use Rattle.qm_program.specs.Doing.{IsWithoutFault}
use Rattle.qm_program.specs.Ends.{end_of_opening}
use Rattle.qm_program.specs.Reading.{AreSite}
use Rattle.qm_program.specs.declared.outcome.End.TheVariants as ends
use Rattle.qm_program.proofs.Completing.{Formatted, OneContent, Undamaged, not_damaged, not_unformatted}
use Rattle.qm_program.proofs.Counting.{no_count}

-- where it isn't, and the disk didn't fail, memory ran out
pub short_alone : {D : Type 0} (m : Meaning D) (old new : D) → Undamaged → Formatted → OneContent → AreSite (m.seen old) → IsWithoutFault (m.faults old) (m.faults new)
    → (fault : OpenFault) → IsRestoreFault (m.seen old) fault → TellsFaults m old new (IsErrOf {T = Vec ℕ Global} (Err fault) opening.Disk)
    → (end_of_opening fault ≡ ends.Ok) ⊎ (end_of_opening fault ≡ ends.NoMemory)
short_alone m old new undamaged formatted one_content site without opening.Disk told counts = absurd (no_count _ _ without (counts.fault refl))
short_alone m old new undamaged formatted one_content site without (opening.Unformatted byte) told counts =
    absurd (not_unformatted undamaged formatted one_content (m.seen old) site byte told)
short_alone m old new undamaged formatted one_content site without (opening.Damaged file place) told counts =
    absurd (not_damaged undamaged formatted one_content (m.seen old) site file place told)
short_alone m old new undamaged formatted one_content site without opening.NoMemory told counts = inr refl
