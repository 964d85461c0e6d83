-- An entry that has no run.
use Rattle.std.proofs.Common.{◌≡◌, Option, None, IfSome, sym, subst}
use Rattle.qm_model.specs.Common.{Entry, Run, run_of}
use Rattle.qm_parts.specs.Mirror.{run_of_entry}
use Rattle.qm_parts.proofs.Mirrored.{no_run}

-- whatever is asked of its run holds
pub runless : (e : Entry) → run_of e.state ≡ None → (P : Run → Type 0) → IfSome (run_of_entry e) P
runless e idle P = subst (λ (o : Option Run). IfSome o P) (sym (no_run e idle)) tt
