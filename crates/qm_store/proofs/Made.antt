-- What the files of a new database are.
use Rattle.std.proofs.Common.{◌≡◌, ◌≢◌, sym, refl, ◌∙◌, ap, subst, arith, ℕ, ◌+◌, ◌<◌, ◌≤◌, inl, length, List, [], ◌∷◌, take, get_or, Vec, Result, Ok, Err, IsErrAnd, OnOk, IsTrue}
use Rattle.std.specs.declared.alloc.Global.{Global}
use Rattle.qm_disk.specs.Disk.{Meaning, Only, KeepsOthers, ChangesOnly}
use Rattle.qm_disk.proofs.Moments.{weaker, goes_further}
use Rattle.qm_history.specs.Common.{contents, IsLog, size_of, Found, master_text, Record}
use Rattle.qm_glog.proofs.Made.{contents_more}
use Rattle.qm_glog.proofs.Texts.{size_of-push}
use Rattle.qm_store.specs.MasterJudging.{IsMaster}
use Rattle.qm_store.proofs.Masters.{master_begins}
use Rattle.qm_store.specs.Faults.{making_fault}
use Rattle.qm_store.specs.Making.{IsQueueCap, KeepsFile, IsWritten, IsNotFull, IsNotMade, IsMade, need_for, texts_of}
use Rattle.qm_store.specs.declared.fault.WriteFault.{WriteFault}
use Rattle.qm_store.specs.declared.fault.WriteFault.TheVariants.{Disk, Full, NoMemory}
use Rattle.qm_glog.specs.declared.fault.MakeFault.{MakeFault}
use Rattle.qm_glog.specs.declared.fault.MakeFault.TheVariants as make
use Rattle.qm_store.specs.Recorded.{database_of}
use Rattle.qm_store.proofs.Opening.{stays_durable}

new_is_master : (cap : ℕ) → IsQueueCap cap → IsMaster (database_of cap []).master (database_of cap []).says
new_is_master cap is = master_begins (master_text (Found cap 1)) (Found cap 1) (record { cap = cap; live = 1; epoch = 0 }) refl (is.least, is.greatest, inl refl) refl

-- a call that changes another file keeps this one
pub keeps_file : {D : Type 0} (m : Meaning D) (changed file : ℕ) (old new : D) → file ≤ 2 → file ≢ changed → ChangesOnly m changed old new → KeepsFile m file old new
keeps_file m changed file old new le other changes = record {
  reads = changes.others.reads file le other;
  no_more = λ c may. changes.others.no_more file c le other may;
  no_fewer = λ c may. changes.others.no_fewer file c le other may;
  any_moment = weaker m old new _ _ changes.any_moment (λ crashed left. left file le other);
}

-- and one call more
pub keeps_on : {D : Type 0} (m : Meaning D) (file : ℕ) (old mid new : D) → KeepsFile m file old mid → KeepsFile m file mid new → KeepsFile m file old new
keeps_on m file old mid new first second = record {
  reads = second.reads ∙ first.reads;
  no_more = λ c may. first.no_more c (second.no_more c may);
  no_fewer = λ c may. second.no_fewer c (first.no_fewer c may);
  any_moment = goes_further m old mid new _ _ first.any_moment second.any_moment (λ crashed left. first.no_more (crashed file) left);
}

-- the queue file is written, and then the master
pub is_written : {D : Type 0} (m : Meaning D) (cap : ℕ) (bodies : List (List ℕ)) (mid new : D) → IsQueueCap cap → IsLog (m.seen mid 1) bodies → Only (m.seen mid 1) (m.may_leave mid 1) → KeepsOthers m 0 mid new
    → IsLog (m.seen new 0) (master_text (Found cap 1) ∷ []) → Only (m.seen new 0) (m.may_leave new 0) → IsWritten m cap bodies new
is_written m cap bodies mid new is log only keeps master master_only = record {
  holds = record {
    master_is_log = master;
    is_master = new_is_master cap is;
    live_is_log = subst (λ (f : List ℕ). IsLog f bodies) (sym (keeps.reads 1 (omega arith) (λ same. omega (arith, same)))) log;
  };
  master_is_durable = master_only;
  live_is_durable = stays_durable m 0 1 mid new (omega arith) (λ same. omega (arith, same)) keeps only;
}

-- one body more takes five bytes and its own
pub size_more : (rows : List (Vec ℕ Global)) (i : ℕ) (row : Vec ℕ Global) → i < length rows → get_or rows i row ≡ row → size_of (contents (take (i + 1) rows)) ≡ size_of (contents (take i rows)) + 5 + length row.items
size_more rows i row within is = ap size_of (contents_more rows i row within is) ∙ size_of-push (contents (take i rows)) row.items

-- ---- what making answers

pub not_full_by : {T : Type 0} (fault : WriteFault) (result : Result T WriteFault) → IsErrAnd result (λ e. e ≡ fault) → IsNotFull {T = T} (Err fault) → IsNotFull result
not_full_by fault (Ok done) is not_full = tt
not_full_by {T} fault (Err e) is not_full = subst (λ (f : WriteFault). IsNotFull {T = T} (Err f)) (sym is) not_full

pub making_not_full : (T : Type 0) (fault : MakeFault) → IsNotFull {T = T} (Err (making_fault fault))
making_not_full T make.Disk = tt
making_not_full T make.NoMemory = tt

pub is_made : {D T : Type 0} (m : Meaning D) (cap : ℕ) (rows : List Record) (old new : D) (result : Result T WriteFault) → need_for (texts_of rows) ≤ cap
    → OnOk result (IsTrue m.tells → IsWritten m cap (texts_of rows) new) → IsNotFull result → IsMade m cap rows old new result
is_made m cap rows old new (Ok done) room written full = (room, written)
is_made m cap rows old new (Err Disk) room written full = room
is_made m cap rows old new (Err NoMemory) room written full = tt
is_made m cap rows old new (Err (Full need most)) room written full = absurd full

pub out_of_memory : {D T : Type 0} (m : Meaning D) (cap : ℕ) (rows : List Record) (old new : D) (result : Result T WriteFault) → IsErrAnd result (λ e. e ≡ NoMemory) → IsMade m cap rows old new result
out_of_memory m cap rows old new (Ok done) is = absurd is
out_of_memory m cap rows old new (Err e) is = subst (IsNotMade cap rows old new) (sym is) tt
