-- What a queue database holds is one thing, and what the records of a site hold.
use Rattle.std.proofs.Common.{◌≡◌, refl, subst, ℕ, List, map}
use Rattle.qm_history.specs.Common.{CrashState, IsLog, IsAccepted, MasterState, master_text, HoldRecords, Record, record_text}
use Rattle.qm_glog.proofs.Texts.{one_list}
use Rattle.qm_store.proofs.Masters.{one_master}
use Rattle.qm_store.specs.MasterJudging.{IsMaster}
use Rattle.qm_store.specs.Recorded.{Recorded, Holds}

pub one_content : (files : CrashState) (a b : Recorded) → Holds files a → Holds files b → a ≡ b
one_content files a b left right =
    let master : a.master ≡ b.master = one_list (files 0) a.master b.master left.master_is_log right.master_is_log in
    let says : a.says ≡ b.says = one_master b.master a.says b.says (subst (λ (l : List (List ℕ)). IsMaster l a.says) master left.is_master) right.is_master in
    let bodies : a.bodies ≡ b.bodies =
    one_list (files b.says.live) a.bodies b.bodies (subst (λ (s : MasterState). IsLog (files s.live) a.bodies) says left.live_is_log) right.live_is_log in
    λ i. record { master = master i; says = says i; bodies = bodies i }

pub held_records : (files : CrashState) (r : Recorded) (records : List Record) → Holds files r → r.bodies ≡ map record_text records → IsAccepted records
    → HoldRecords files r.says records
held_records files r records holds same accepted = record {
  masters = holds.is_master.masters;
  master_is_log = subst (IsLog (files 0)) holds.is_master.whole holds.master_is_log;
  are_master = holds.is_master.are_master;
  says_is = holds.is_master.says_is;
  live_is_log = subst (IsLog (files r.says.live)) same holds.live_is_log;
  accepted = accepted;
}

pub held_bodies : (files : CrashState) (says : MasterState) (records : List Record) (h : HoldRecords files says records)
    → Holds files (record { master = map master_text h.masters; says = says; bodies = map record_text records })
held_bodies files says records h = record {
  master_is_log = h.master_is_log;
  is_master = record { masters = h.masters; whole = refl; are_master = h.are_master; says_is = h.says_is };
  live_is_log = h.live_is_log;
}
