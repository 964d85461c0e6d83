-- Files that hold a database begin with an open gate.
use Rattle.std.proofs.Common.{◌≡◌, ℕ, ⊎_elim, refl}
use Rattle.std.proofs.lemmas.Bool.Decides.{eqb_tells}
use Rattle.qm_history.specs.Common.{CrashState, first_byte}
use Rattle.qm_glog.specs.declared.fault.OpenFault.TheVariants.{Unformatted}
use Rattle.qm_acting.specs.Reading.{IsRestoreFault}
use Rattle.qm_store.specs.Recorded.{Recorded, Holds}

pub opened : (files : CrashState) (r : Recorded) → ((byte : ℕ) → Holds files r → IsRestoreFault files (Unformatted byte) → ⊥) → Holds files r → first_byte (files 0) ≡ 1
opened files r formatted holds =
    ⊎_elim (λ same. same.1) (λ other. absurd (formatted (first_byte (files 0)) holds (refl, other.1))) (eqb_tells (first_byte (files 0)) 1)
