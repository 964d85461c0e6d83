-- What an epoch that is appended to the master is to the database.
use Rattle.std.proofs.Common.{◌≡◌, ◌≢◌, sym, refl, ◌∙◌, ap, subst, arith, ℕ, ◌<◌, ◌≤◌, ◌^◌, IsTrue, List, Ok, Err}
use Rattle.qm_history.specs.Common.{Meaning, Only, KeepsOthers, LeavesOnly, Log, TornAppend, IsLog, Epoch, master_text}
use Rattle.qm_disk.proofs.Moments.{weaker}
use Rattle.qm_glog.specs.Appending.{Appended, Appends, Adds}
use Rattle.qm_glog.specs.declared.fault.AppendFault.{AppendFault}
use Rattle.qm_glog.specs.declared.fault.AppendFault.TheVariants.{Disk, Full}
use Rattle.qm_glog.specs.Log.{bodies_of, file_of, cap_of, need_of, IsAsLeft}
use Rattle.qm_store.specs.MasterJudging.{IsMaster}
use Rattle.qm_store.proofs.Masters.{master_grows}
use Rattle.qm_store.specs.Files.{recorded_in, epoch_need, HasBegun, BeginsEpoch}
use Rattle.qm_store.specs.Opening.{in_next_epoch, next_need}
use Rattle.qm_store.specs.Recorded.{Recorded, HoldsEither, IsAtRest, epoch_behind, with_epoch}
use Rattle.qm_store.specs.declared.files.Files.{Files}
use Rattle.qm_store.specs.declared.files.TheConstants.{MASTER_FILE, MASTER_CAP}
use Rattle.qm_store.proofs.Moving.{live_le, live_ne, torn_master}

-- the logs of a database at rest are as they were left
pub master_left : {D : Type 0} (m : Meaning D) (files : Files) (disk : D) → IsAtRest m (recorded_in files) disk → IsAsLeft m files.master disk
master_left m files disk rest = record {
  records = subst (λ (f : ℕ). IsLog (m.seen disk f) (bodies_of files.master)) (sym files.in_master_file) rest.holds.master_is_log;
  durable = subst (λ (f : ℕ). Only (m.seen disk f) (m.may_leave disk f)) (sym files.in_master_file) rest.master_is_durable;
}

pub queue_left : {D : Type 0} (m : Meaning D) (files : Files) (disk : D) → IsAtRest m (recorded_in files) disk → IsAsLeft m files.queue disk
queue_left m files disk rest = record {
  records = subst (λ (f : ℕ). IsLog (m.seen disk f) (bodies_of files.queue)) (sym files.in_live_file) rest.holds.live_is_log;
  durable = subst (λ (f : ℕ). Only (m.seen disk f) (m.may_leave disk f)) (sym files.in_live_file) rest.live_is_durable;
}

-- and the other way round
pub both_left : {D : Type 0} (m : Meaning D) (files : Files) (disk : D) → IsMaster (bodies_of files.master) (recorded_in files).says → IsAsLeft m files.master disk → IsAsLeft m files.queue disk
    → IsAtRest m (recorded_in files) disk
both_left m files disk is master queue = record {
  holds = record {
    master_is_log = subst (λ (f : ℕ). IsLog (m.seen disk f) (bodies_of files.master)) files.in_master_file master.records;
    is_master = is;
    live_is_log = subst (λ (f : ℕ). IsLog (m.seen disk f) (bodies_of files.queue)) files.in_live_file queue.records;
  };
  master_is_durable = subst (λ (f : ℕ). Only (m.seen disk f) (m.may_leave disk f)) files.in_master_file master.durable;
  live_is_durable = subst (λ (f : ℕ). Only (m.seen disk f) (m.may_leave disk f)) files.in_live_file queue.durable;
}

-- a file that isn't changed is as durable as before
pub stays_durable : {D : Type 0} (m : Meaning D) (changed file : ℕ) (old new : D) → file ≤ 2 → file ≢ changed → KeepsOthers m changed old new → Only (m.seen old file) (m.may_leave old file)
    → Only (m.seen new file) (m.may_leave new file)
stays_durable m changed file old new le other keeps only = λ c may. only c (keeps.no_more file c le other may) ∙ sym (keeps.reads file le other)

module _ {D : Type 0} (m : Meaning D) (files : Files) (before after : D) (epoch node : ℕ) (rest : IsAtRest m (recorded_in files) before) (rises : files.says.epoch < epoch) (early : epoch < 2 ^ 62)
    (small : node < 2 ^ 8) (appends : Appends m (master_text (Epoch epoch node)) files.master before after)
  where
    abbrev next : Recorded
    next = with_epoch (recorded_in files) epoch node

    next_is_master : IsMaster next.master next.says
    next_is_master =
        master_grows (bodies_of files.master) (master_text (Epoch epoch node)) (recorded_in files).says next.says (Epoch epoch node) rest.holds.is_master refl (rises, early, small) refl

    keeps : KeepsOthers m 0 before after
    keeps = subst (λ (f : ℕ). KeepsOthers m f before after) files.in_master_file appends.others

    -- a crash leaves the records in the old epoch or in the new one
    pub epoch_moments : IsTrue m.tells → LeavesOnly m before after (HoldsEither (m.may_leave before) 0 (recorded_in files) next)
    epoch_moments tells =
        weaker m before after (TornAppend (m.may_leave before) 0 (bodies_of files.master) (master_text (Epoch epoch node))) (HoldsEither (m.may_leave before) 0 (recorded_in files) next)
        (subst (λ (f : ℕ). LeavesOnly m before after (TornAppend (m.may_leave before) f (bodies_of files.master) (master_text (Epoch epoch node)))) files.in_master_file (appends.any_moment tells))
        (λ crashed torn. torn_master m (recorded_in files) before rest next (master_text (Epoch epoch node)) crashed refl next_is_master refl refl torn)

    -- behind it the database is at rest in the new one
    pub at_rest_in_epoch : (new : Files) → IsTrue m.tells → HasBegun m epoch node files new after → IsAtRest m (recorded_in new) after
    at_rest_in_epoch new tells begun =
        let live : ℕ = files.says.live in
        let le : live ≤ 2 = live_le m (recorded_in files) before rest in
        let ne : live ≢ 0 = live_ne m (recorded_in files) before rest in
        let left = begun.left tells in
        let same : m.seen before live ≡ m.seen after live = sym (keeps.reads live le ne) in
        record {
          holds = record {
            master_is_log = subst (λ (f : ℕ). IsLog (m.seen after f) (bodies_of new.master)) new.in_master_file left.records;
            is_master = subst (λ (r : Recorded). IsMaster r.master r.says) (sym begun.recorded) next_is_master;
            live_is_log = subst (λ (r : Recorded). IsLog (m.seen after r.says.live) r.bodies) (sym begun.recorded) (subst (λ (f : List ℕ). IsLog f (bodies_of files.queue)) same rest.holds.live_is_log);
          };
          master_is_durable = subst (λ (f : ℕ). Only (m.seen after f) (m.may_leave after f)) new.in_master_file left.durable;
          live_is_durable = subst (λ (r : Recorded). Only (m.seen after r.says.live) (m.may_leave after r.says.live)) (sym begun.recorded) (stays_durable m 0 live before after le ne keeps rest.live_is_durable);
        }

-- ---- the files with an epoch more

module _ {D : Type 0} (m : Meaning D) (epoch node : ℕ) (old : Files) (log_ : Log) (disk : D) (in_master : file_of log_ ≡ MASTER_FILE) (capped : cap_of log_ ≡ MASTER_CAP) (in_live : file_of old.queue ≡ old.says.live)
    (queue_capped : cap_of old.queue ≡ old.says.cap) (is_queue_file : 0 < old.says.live) (in_disk : old.says.live ≤ 2)
  where
    abbrev pub with_master : Files
    with_master = record {
      master = log_;
      queue = old.queue;
      says = record (old.says) { epoch = epoch };
      in_master_file = in_master;
      master_capped = capped;
      in_live_file = in_live;
      queue_capped = queue_capped;
      is_queue_file = is_queue_file;
      in_disk = in_disk;
    }

    pub has_begun : Adds m (master_text (Epoch epoch node)) old.master log_ disk → HasBegun m epoch node old with_master disk
    has_begun told = record {
      recorded = ap (λ (b : List (List ℕ)). record { master = b; says = record { cap = old.says.cap; live = old.says.live; epoch = epoch }; bodies = bodies_of old.queue }) told.bodies;
      queue = refl;
      left = told.left;
    }

-- ---- what the log of the master answers

module _ {D : Type 0} (m : Meaning D) (epoch node : ℕ) (old : Files) (body : List ℕ) (is : body ≡ master_text (Epoch epoch node)) where
  within_cap : need_of (bodies_of old.master) body ≤ cap_of old.master → epoch_need (recorded_in old) epoch node ≤ MASTER_CAP
  within_cap le =
      subst (λ (b : List ℕ). need_of (bodies_of old.master) b ≤ MASTER_CAP) is (subst (λ (k : ℕ). need_of (bodies_of old.master) body ≤ k) old.master_capped le)

  pub epoch_begun : (log_ : Log) (before after : D) (in_master : file_of log_ ≡ MASTER_FILE) (capped : cap_of log_ ≡ MASTER_CAP) (in_live : file_of old.queue ≡ old.says.live) (queue_capped : cap_of old.queue ≡ old.says.cap)
      (is_queue_file : 0 < old.says.live) (in_disk : old.says.live ≤ 2) (done : Unit {0}) → Appended {T = Unit {0}} m body old.master log_ before after (Ok done)
      → BeginsEpoch {T = Unit {0}} m epoch node old (with_master m epoch node old log_ after in_master capped in_live queue_capped is_queue_file in_disk) before after (Ok done)
  epoch_begun log_ before after in_master capped in_live queue_capped is_queue_file in_disk done told =
      (within_cap told.0, has_begun m epoch node old log_ after in_master capped in_live queue_capped is_queue_file in_disk (subst (λ (b : List ℕ). Adds m b old.master log_ after) is told.1))

  pub epoch_failed : (new : Files) (log_ : Log) (before after : D) (fault : AppendFault) → Appended {T = Unit {0}} m body old.master log_ before after (Err fault)
      → BeginsEpoch {T = Unit {0}} m epoch node old new before after (Err fault)
  epoch_failed new log_ before after Disk told = within_cap told.0
  epoch_failed new log_ before after (Full need most) told = (told.0, told.1 ∙ ap (need_of (bodies_of old.master)) is, told.2 ∙ old.master_capped, told.4)

  pub epoch_leaves : (before after : D) → Appends m body old.master before after → Appends m (master_text (Epoch epoch node)) old.master before after
  epoch_leaves before after leaves = subst (λ (b : List ℕ). Appends m b old.master before after) is leaves

-- ---- opening, once there is memory for the epoch

module _ {D : Type 0} (m : Meaning D) (r : Recorded) (tried node : ℕ) (small : node < 2 ^ 8) (files : Files) (same : recorded_in files ≡ r) (epoch : ℕ) (epoch_is : epoch ≡ epoch_behind r tried) (before : D) where
  pub rests : IsAtRest m r before → IsAtRest m (recorded_in files) before
  rests rest = subst (λ (q : Recorded). IsAtRest m q before) (sym same) rest

  rises : files.says.epoch < epoch
  rises = let one : files.says.epoch ≡ r.says.epoch = ap (λ (q : Recorded). q.says.epoch) same in omega (arith, one, epoch_is)

  pub opens_moments : (after : D) → Appends m (master_text (Epoch epoch node)) files.master before after → IsAtRest m r before → IsTrue m.tells → epoch_behind r tried < 2 ^ 62
      → LeavesOnly m before after (HoldsEither (m.may_leave before) 0 r (in_next_epoch r tried node))
  opens_moments after appends rest tells early =
      let early_too : epoch < 2 ^ 62 = omega (arith, early, epoch_is) in
      subst (λ (e : ℕ). LeavesOnly m before after (HoldsEither (m.may_leave before) 0 r (with_epoch r e node))) epoch_is
      (subst (λ (q : Recorded). LeavesOnly m before after (HoldsEither (m.may_leave before) 0 q (with_epoch q epoch node))) same
      (epoch_moments m files before after epoch node (rests rest) rises early_too small appends tells))

  pub opens_at_rest : (after : D) (new : Files) → Appends m (master_text (Epoch epoch node)) files.master before after → IsAtRest m r before → IsTrue m.tells → epoch_behind r tried < 2 ^ 62
      → HasBegun m epoch node files new after → IsAtRest m (recorded_in new) after
  opens_at_rest after new appends rest tells early begun =
      let early_too : epoch < 2 ^ 62 = omega (arith, early, epoch_is) in
      at_rest_in_epoch m files before after epoch node (rests rest) rises early_too small appends new tells begun

  pub opens_recorded : (after : D) (new : Files) → HasBegun m epoch node files new after → recorded_in new ≡ in_next_epoch r tried node
  opens_recorded after new begun = begun.recorded ∙ ap (λ (q : Recorded). with_epoch q epoch node) same ∙ ap (λ (e : ℕ). with_epoch r e node) epoch_is

  pub opens_need : epoch_need (recorded_in files) epoch node ≡ next_need r tried node
  opens_need = ap (λ (q : Recorded). epoch_need q epoch node) same ∙ ap (λ (e : ℕ). epoch_need r e node) epoch_is
