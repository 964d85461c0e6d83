-- What keeps the queue file that isn't live.
use Rattle.std.proofs.Common.{◌≡◌, ◌≢◌, ◌≤◌, ◌⊎◌, ◌∙◌, ⊎_elim, ℕ, List, refl, sym, ap, subst, arith}
use Rattle.qm_disk.specs.Disk.{CrashState, Meaning, IsLeft, KeepsOthers, LeavesOnly, OnlyLooks}
use Rattle.qm_disk.proofs.Moments.{reads_now}
use Rattle.qm_history.specs.Common.{IsLog, MasterState}
use Rattle.qm_glog.proofs.Texts.{one_list}
use Rattle.qm_store.specs.MasterJudging.{IsMaster}
use Rattle.qm_store.proofs.Masters.{one_master, says_lawful}
use Rattle.qm_store.specs.Opening.{in_next_epoch}
use Rattle.qm_store.specs.Recorded.{Recorded, Holds, HoldsEither}
use Rattle.qm_acting.specs.Spare.{IsLive, KeepsSpare}

-- one file is live, which isn't the master
one_live : (files : CrashState) (r : Recorded) (live : ℕ) → Holds files r → IsLive files live → r.says.live ≡ live
one_live files r live holds is =
    let same : r.master ≡ is.master = one_list (files 0) r.master is.master holds.master_is_log is.master_is_log in
    let says : r.says ≡ is.says = one_master is.master r.says is.says (subst (λ (l : List (List ℕ)). IsMaster l r.says) same holds.is_master) is.is_master in
    ap (λ (s : MasterState). s.live) says ∙ is.is

live_ne : (files : CrashState) (r : Recorded) → Holds files r → r.says.live ≢ 0
live_ne files r holds = λ none. ⊎_elim (λ one. omega (arith, one, none)) (λ two. omega (arith, two, none)) (says_lawful r.master r.says holds.is_master).live

-- the live file of files that hold a database
held_live : (files : CrashState) (r : Recorded) (live : ℕ) → Holds files r → r.says.live ≡ live → IsLive files live
held_live files r live holds same = record { master = r.master; says = r.says; master_is_log = holds.master_is_log; is_master = holds.is_master; is = same }

-- the same file is live where the master reads as before
live_by_master : (old new : CrashState) (live : ℕ) → new 0 ≡ old 0 → IsLive old live → IsLive new live
live_by_master old new live same is = record {
  master = is.master;
  says = is.says;
  master_is_log = subst (λ (f : List ℕ). IsLog f is.master) (sym same) is.master_is_log;
  is_master = is.is_master;
  is = is.is;
}

module _ {D : Type 0} (m : Meaning D) where
  -- nothing happens
  pub keeps_same : (disk : D) → KeepsSpare m disk disk
  keeps_same disk = record { same = λ live is. is; reads = λ live file is spare. refl; no_more = λ live file c is spare left. left }

  pub keeps_at : (old new : D) → new ≡ old → KeepsSpare m old new
  keeps_at old new is = subst (λ (d : D). KeepsSpare m old d) (sym is) (keeps_same old)

  pub keeps_to : (old mid new : D) → KeepsSpare m old mid → new ≡ mid → KeepsSpare m old new
  keeps_to old mid new kept is = subst (λ (d : D). KeepsSpare m old d) (sym is) kept

  -- one thing happens behind another
  pub keeps_on : (old mid new : D) → KeepsSpare m old mid → KeepsSpare m mid new → KeepsSpare m old new
  keeps_on old mid new first second = record {
    same = λ live is. second.same live (first.same live is);
    reads = λ live file is spare. second.reads live file (first.same live is) spare ∙ first.reads live file is spare;
    no_more = λ live file c is spare left. first.no_more live file c is spare (second.no_more live file c (first.same live is) spare left);
  }

  -- calls that only look
  pub looks_keep : (old new : D) → OnlyLooks m old new → KeepsSpare m old new
  looks_keep old new looks = record {
    same = λ live is. live_by_master (m.seen old) (m.seen new) live (looks.reads 0 (omega arith)) is;
    reads = λ live file is spare. looks.reads file spare.0;
    no_more = λ live file c is spare left. looks.no_more file c spare.0 left;
  }

  -- calls that change the live file alone
  pub append_keeps : (r : Recorded) (old new : D) → Holds (m.seen old) r → KeepsOthers m r.says.live old new → KeepsSpare m old new
  append_keeps r old new holds others = record {
    same = λ live is. live_by_master (m.seen old) (m.seen new) live (others.reads 0 (omega arith) (λ master. live_ne (m.seen old) r holds (sym master))) is;
    reads = λ live file is spare. others.reads file spare.0 (λ there. spare.2 (there ∙ one_live (m.seen old) r live holds is));
    no_more = λ live file c is spare left. others.no_more file c spare.0 (λ there. spare.2 (there ∙ one_live (m.seen old) r live holds is)) left;
  }

  -- the same where memory was taken first
  pub record_keeps : (r taken : Recorded) (old mid new : D) → taken ≡ r → mid ≡ old → Holds (m.seen old) r → KeepsOthers m taken.says.live mid new → KeepsSpare m old new
  record_keeps r taken old mid new same same_disk holds others =
      append_keeps r old new holds (subst (λ (d : D). KeepsOthers m r.says.live d new) same_disk (subst (λ (x : Recorded). KeepsOthers m x.says.live mid new) same others))

  -- calls that change the master alone, in which stands an epoch more or not
  pub epoch_keeps : (r : Recorded) (tried node : ℕ) (old new : D) → Holds (m.seen old) r → Holds (m.seen new) r ⊎ Holds (m.seen new) (in_next_epoch r tried node) → KeepsOthers m 0 old new → KeepsSpare m old new
  epoch_keeps r tried node old new holds either others = record {
    same = λ live is.
        let same : r.says.live ≡ live = one_live (m.seen old) r live holds is in
        ⊎_elim (λ was. held_live (m.seen new) r live was same) (λ next. held_live (m.seen new) (in_next_epoch r tried node) live next same) either;
    reads = λ live file is spare. others.reads file spare.0 spare.1;
    no_more = λ live file c is spare left. others.no_more file c spare.0 spare.1 left;
  }

  module _ (counts_now : (disk : D) (t : ℕ) (crashed : CrashState) → t ≤ m.moment disk → IsLeft (m.may_leave disk) crashed → m.left_since disk t crashed)
      (reads : (disk : D) → IsLeft (m.may_leave disk) (m.seen disk))
    where
      -- the same by what a crash leaves at each moment
      pub opening_keeps : (r : Recorded) (tried node : ℕ) (old new : D) → Holds (m.seen old) r → LeavesOnly m old new (HoldsEither (m.may_leave old) 0 r (in_next_epoch r tried node))
          → KeepsOthers m 0 old new → KeepsSpare m old new
      opening_keeps r tried node old new holds run others =
          epoch_keeps r tried node old new holds
          (reads_now m old new (HoldsEither (m.may_leave old) 0 r (in_next_epoch r tried node)) run (counts_now new) (reads new)).either others
