-- What a crash leaves of a database at rest, and of one to whose files a log appends.
use Rattle.std.proofs.Common.{◌≡◌, ◌≢◌, refl, sym, subst, ⊎_elim, inl, inr, arith, ℕ, ◌≤◌, List, [], ◌∷◌, ◌++◌}
use Rattle.qm_disk.specs.Disk.{Meaning, CrashState, IsLeft, LeavesOnly, KeepsOthers}
use Rattle.qm_disk.proofs.Moments.{started}
use Rattle.qm_history.specs.Common.{TornAppend, IsLog}
use Rattle.qm_history.specs.Master.{IsQueueFile}
use Rattle.qm_store.specs.MasterJudging.{IsMaster}
use Rattle.qm_store.proofs.Masters.{says_lawful}
use Rattle.qm_store.specs.Recorded.{Recorded, Holds, HoldsEither, IsAtRest, with_body}

pub live_within : (file : ℕ) → IsQueueFile file → file ≤ 2
live_within file is = ⊎_elim (λ one. omega (arith, one)) (λ two. omega (arith, two)) is

live_apart : (file : ℕ) → IsQueueFile file → file ≢ 0
live_apart file is = λ none. ⊎_elim (λ one. omega (arith, one, none)) (λ two. omega (arith, two, none)) is

module _ {D : Type 0} (m : Meaning D) (r : Recorded) (disk : D) (rest : IsAtRest m r disk) where
  pub live_le : r.says.live ≤ 2
  live_le = live_within r.says.live (says_lawful r.master r.says rest.holds.is_master).live

  pub live_ne : r.says.live ≢ 0
  live_ne = live_apart r.says.live (says_lawful r.master r.says rest.holds.is_master).live

  -- what a crash leaves of the master, and of the live file
  pub left_master : (crashed : CrashState) → m.may_leave disk 0 (crashed 0) → IsLog (crashed 0) r.master
  left_master crashed left = subst (λ (f : List ℕ). IsLog f r.master) (sym (rest.master_is_durable (crashed 0) left)) rest.holds.master_is_log

  pub left_live : (crashed : CrashState) → m.may_leave disk r.says.live (crashed r.says.live) → IsLog (crashed r.says.live) r.bodies
  left_live crashed left = subst (λ (f : List ℕ). IsLog f r.bodies) (sym (rest.live_is_durable (crashed r.says.live) left)) rest.holds.live_is_log

  -- each crash leaves the database
  pub left_at_rest : (crashed : CrashState) → IsLeft (m.may_leave disk) crashed → Holds crashed r
  left_at_rest crashed left = record {
    master_is_log = left_master crashed (left 0 (omega arith));
    is_master = rest.holds.is_master;
    live_is_log = left_live crashed (left r.says.live live_le);
  }

  -- a crash while a record is appended to the live file
  pub torn_live : (body : List ℕ) (crashed : CrashState) → TornAppend (m.may_leave disk) r.says.live r.bodies body crashed → HoldsEither (m.may_leave disk) r.says.live r (with_body r body) crashed
  torn_live body crashed torn =
      let master : IsLog (crashed 0) r.master = left_master crashed (torn.others 0 (omega arith) (λ same. live_ne (sym same))) in
      record {
        either = ⊎_elim (λ old. inl (record { master_is_log = master; is_master = rest.holds.is_master; live_is_log = old }))
            (λ new. inr (record { master_is_log = master; is_master = rest.holds.is_master; live_is_log = new })) torn.records;
        others = torn.others;
      }

  -- a crash while one is appended to the master, with which it is one that says this
  pub torn_master : (next : Recorded) (body : List ℕ) (crashed : CrashState) → next.master ≡ r.master ++ body ∷ [] → IsMaster next.master next.says → next.says.live ≡ r.says.live → next.bodies ≡ r.bodies
      → TornAppend (m.may_leave disk) 0 r.master body crashed → HoldsEither (m.may_leave disk) 0 r next crashed
  torn_master next body crashed longer is live same torn =
      let live_log : IsLog (crashed r.says.live) r.bodies = left_live crashed (torn.others r.says.live live_le live_ne) in
      record {
        either = ⊎_elim (λ old. inl (record { master_is_log = old; is_master = rest.holds.is_master; live_is_log = live_log }))
            (λ new. inr (record {
              master_is_log = subst (IsLog (crashed 0)) (sym longer) new;
              is_master = is;
              live_is_log = subst (λ (f : ℕ). IsLog (crashed f) next.bodies) (sym live) (subst (IsLog (crashed r.says.live)) (sym same) live_log);
            })) torn.records;
        others = torn.others;
      }

-- no call changes nothing
pub keeps_same : {D : Type 0} (m : Meaning D) (file : ℕ) (disk : D) → KeepsOthers m file disk disk
keeps_same m file disk = record { reads = λ f le other. refl; no_more = λ f c le other left. left; no_fewer = λ f c le other left. left }

pub nothing_moves : {D : Type 0} (m : Meaning D) (r next : Recorded) (file : ℕ) (disk : D) → ((crashed : CrashState) → m.left_since disk (m.moment disk) crashed → IsLeft (m.may_leave disk) crashed)
    → IsAtRest m r disk → LeavesOnly m disk disk (HoldsEither (m.may_leave disk) file r next)
nothing_moves m r next file disk only_now rest =
    started m disk (HoldsEither (m.may_leave disk) file r next)
    (λ crashed since. let left = only_now crashed since in record { either = inl (left_at_rest m r disk rest crashed left); others = λ f le other. left f le })
