-- What is told of files whose records stand for no site, and that nothing is told of those that do.
use Rattle.std.proofs.Common.{◌≡◌, ◌+◌, inl, inr, refl, sym, subst, arith, ℕ, List, length, take, drop, take-append-drop}
use Rattle.std.proofs.lemmas.Bool.{cases_lt}
use Rattle.qm_history.specs.Common.{CrashState, OpenFault, System}
use Rattle.qm_store.proofs.Contents.{one_content}
use Rattle.qm_store.proofs.Faults.{held_is_open}
use Rattle.qm_store.specs.Loading.{IsLoadFault}
use Rattle.qm_store.specs.Recorded.{Recorded, Holds}
use Rattle.qm_glog.specs.declared.fault.OpenFault.TheVariants.{Disk, Unformatted, Damaged, NoMemory}
use Rattle.qm_restore.specs.QueueFile.{Begins, IsFirstUnlawful, IsSiteFile}
use Rattle.qm_restore.specs.Restoring.{Judges}
use Rattle.qm_restore.specs.declared.fault.RestoreFault.{RestoreFault}
use Rattle.qm_restore.specs.declared.fault.RestoreFault.TheVariants.{Unlawful}
use Rattle.qm_restore.specs.declared.fault.RestoreFault.TheVariants as restoring
use Rattle.qm_acting.specs.Reading.{IsRestoreFault, IsUnlawfulAt, told_of}

judged : (files : CrashState) (r : Recorded) (fault : RestoreFault) → Holds files r → Judges r.bodies fault → IsRestoreFault files (told_of r fault)
judged files r (Unlawful index flaw) holds judges = inr (record { recorded = r; index = index; holds = holds; live = refl; first = judges.0; place_is = refl })
judged files r restoring.NoMemory holds judges = held_is_open files r holds

-- what is told of the records
pub told_so : (files : CrashState) (r : Recorded) (fault : RestoreFault) (told : OpenFault) → Holds files r → Judges r.bodies fault → told ≡ told_of r fault → IsRestoreFault files told
told_so files r fault told holds judges is = subst (IsRestoreFault files) (sym is) (judged files r fault holds judges)

-- what loading tells is told
pub load_told : (files : CrashState) (fault : OpenFault) → IsLoadFault files fault → IsRestoreFault files fault
load_told files Disk told = tt
load_told files NoMemory told = told
load_told files (Unformatted byte) told = told
load_told files (Damaged file place) told = inl told

-- a queue file begins with each of its fronts
front_begins : (bodies : List (List ℕ)) (n : ℕ) (s : System) → IsSiteFile bodies s → Begins (take n bodies)
front_begins bodies n s file = record {
  more = drop n bodies;
  system = s;
  is = subst (λ (bs : List (List ℕ)). IsSiteFile bs s) (sym (take-append-drop n bodies)) file;
}

lawful_not_unlawful : (bodies : List (List ℕ)) (index : ℕ) (s : System) → IsSiteFile bodies s → IsFirstUnlawful bodies index → ⊥
lawful_not_unlawful bodies index s file first = elim (cases_lt index (length bodies)) [
  | inl within ↦ first.ends within (front_begins bodies (index + 1) s file)
  | inr past ↦ first.unfinished (omega (arith, past, first.within)) s file
]

pub no_site_unlawful : (files : CrashState) (r : Recorded) (s : System) (file place : ℕ) → Holds files r → IsSiteFile r.bodies s → IsUnlawfulAt files file place → ⊥
no_site_unlawful files r s file place holds site unlawful =
    lawful_not_unlawful unlawful.recorded.bodies unlawful.index s
    (subst (λ (q : Recorded). IsSiteFile q.bodies s) (one_content files r unlawful.recorded holds unlawful.holds) site) unlawful.first
