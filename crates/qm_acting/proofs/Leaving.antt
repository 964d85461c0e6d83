-- What calls leave of the disk, one behind another.
use Rattle.std.proofs.Common.{◌≡◌, sym, ap, subst}
use Rattle.qm_history.specs.Common.{Meaning, Tells}
use Rattle.qm_acting.specs.Leaving.{LeavesDisk}
use Rattle.qm_acting.proofs.Spare.{keeps_at, keeps_on}

module _ {D : Type 0} (m : Meaning D) where
  -- nothing happened
  pub leaves_at : (old new : D) (told : Type 0) → new ≡ old → (told → ⊥) → LeavesDisk m old new told
  leaves_at old new told same none = record {
    faults = record { fault = λ is. absurd (none is); quiet = λ not. ap m.faults same };
    spare = λ tells. keeps_at m old new same;
  }

  -- calls behind others of which none failed
  pub leaves_on : (old mid new : D) (first told : Type 0) → (first → ⊥) → LeavesDisk m old mid first → LeavesDisk m mid new told → LeavesDisk m old new told
  leaves_on old mid new first told none before behind = record {
    faults = subst (λ n. Tells n (m.faults new) told) (before.faults.quiet none) behind.faults;
    spare = λ tells. keeps_on m old mid new (before.spare tells) (behind.spare tells);
  }

  -- the same from a disk that nothing has touched, and to one
  pub leaves_from : (old mid new : D) (told : Type 0) → mid ≡ old → LeavesDisk m mid new told → LeavesDisk m old new told
  leaves_from old mid new told same leaves = subst (λ (d : D). LeavesDisk m d new told) same leaves

  pub leaves_to : (old mid new : D) (told : Type 0) → new ≡ mid → LeavesDisk m old mid told → LeavesDisk m old new told
  leaves_to old mid new told same leaves = subst (λ (d : D). LeavesDisk m old d told) (sym same) leaves

  -- a fault that is told in other words
  pub leaves_so : (old new : D) (told other : Type 0) → (told → other) → (other → told) → LeavesDisk m old new told → LeavesDisk m old new other
  leaves_so old new told other to back leaves = record {
    faults = record { fault = λ is. leaves.faults.fault (back is); quiet = λ none. leaves.faults.quiet (λ is. none (to is)) };
    spare = leaves.spare;
  }
