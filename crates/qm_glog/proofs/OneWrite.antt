-- What a crash leaves while one write and its sync are at work.
use Rattle.std.proofs.Common.{sym, subst, ℕ, ◌≤◌, List}
use Rattle.qm_disk.specs.Disk.{Meaning, CrashState, Torn, Only, Follows, IsLeft, KeepsOthers}
use Rattle.qm_disk.specs.Crash.{torn_none}
use Rattle.qm_glog.specs.Moments.{TornWrite}

module _ {D : Type 0} (m : Meaning D) (file : ℕ) (within : file ≤ 2) (at n : ℕ) (old : D) (only : Only (m.seen old file) (m.may_leave old file)) where
  pub before_write : (crashed : CrashState) → IsLeft (m.may_leave old) crashed → TornWrite (m.may_leave old) file at n (m.seen old file) crashed
  before_write crashed left = record {
    torn = subst (Torn at n (m.seen old file)) (sym (only (crashed file) (left file within))) (torn_none at n (m.seen old file));
    others = λ f le other. left f le;
  }

  pub after_write : (new : D) → Follows (Torn at n) (m.may_leave old file) (m.may_leave new file) → KeepsOthers m file old new
      → (crashed : CrashState) → IsLeft (m.may_leave new) crashed → TornWrite (m.may_leave old) file at n (m.seen old file) crashed
  after_write new crash others crashed left =
      let from = crash (crashed file) (left file within) in
      record {
        torn = subst (λ (d : List ℕ). Torn at n d (crashed file)) (only from.0 from.1) from.2;
        others = λ f le other. others.no_more f (crashed f) le other (left f le);
      }
