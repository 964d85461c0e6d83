-- What loading finds wrong with files, and that it finds nothing wrong with those that hold a database.
use Rattle.std.proofs.Common.{◌≡◌, ◌∙◌, refl, sym, ap, subst, inl, inr, ⊎_elim, ℕ, List, map}
use Rattle.qm_history.specs.Common.{CrashState, IsLog}
use Rattle.qm_glog.proofs.Texts.{one_list, sound_if_log}
use Rattle.qm_history.specs.Master.{MasterRecord, MasterState, AreMaster, master_of, master_text, no_master}
use Rattle.qm_history.specs.Start.{first_byte, AreDamaged, IsMasterDamaged}
use Rattle.qm_store.proofs.Masters.{has_record, one_master}
use Rattle.qm_store.proofs.Loading.{begins_open}
use Rattle.qm_store.specs.Loading.{IsDamagedAt, IsLiveCut}
use Rattle.qm_store.specs.Recorded.{Recorded, Holds}

pub found_is_damage : (files : CrashState) (file place : ℕ) → IsDamagedAt files file place → AreDamaged files file place
found_is_damage files file place found = ⊎_elim (λ master. inl master) (λ live. inr (record {
  masters = live.masters;
  master_is_log = live.master_is_log;
  are_master = live.are_master;
  file_is = live.file_is;
  damaged = inl live.cut;
})) found

pub held_is_open : (files : CrashState) (r : Recorded) → Holds files r → first_byte (files 0) ≡ 1
held_is_open files r holds = begins_open (files 0) r.master holds.master_is_log (has_record r.master r.says holds.is_master)

-- the live file that a sound master names is a log
live_is_whole : (files : CrashState) (r : Recorded) (file place : ℕ) → Holds files r → IsLiveCut files file place → ⊥
live_is_whole files r file place holds live =
    let master : r.master ≡ map master_text live.masters = one_list (files 0) r.master (map master_text live.masters) holds.master_is_log live.master_is_log in
    let same : r.says ≡ master_of no_master live.masters =
    one_master r.master r.says (master_of no_master live.masters) holds.is_master (record { masters = live.masters; whole = master; are_master = live.are_master; says_is = refl }) in
    sound_if_log (files file) r.bodies place
    (subst (λ (f : ℕ). IsLog (files f) r.bodies) (ap (λ (s : MasterState). s.live) same ∙ sym live.file_is) holds.live_is_log) live.cut

module _ (judged : (file : List ℕ) (masters : List MasterRecord) (place : ℕ) → IsLog file (map master_text masters) → AreMaster masters
    → IsMasterDamaged file place → ⊥)
  where
    pub held_is_sound : (files : CrashState) (r : Recorded) (file place : ℕ) → Holds files r → IsDamagedAt files file place → ⊥
    held_is_sound files r file place holds found =
        ⊎_elim (λ master. judged (files 0) holds.is_master.masters place (subst (IsLog (files 0)) holds.is_master.whole holds.master_is_log) holds.is_master.are_master master.1)
        (λ live. live_is_whole files r file place holds live) found
