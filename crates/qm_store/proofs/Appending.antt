-- What a record that is appended to the live file is to the database.
use Rattle.std.proofs.Common.{◌≡◌, ◌≢◌, sym, ap, subst, arith, ℕ, IsTrue, List, [], ◌∷◌, ◌++◌}
use Rattle.qm_history.specs.Common.{Meaning, Only, KeepsOthers, LeavesOnly, Log, TornAppend, IsLog}
use Rattle.qm_disk.proofs.Moments.{weaker}
use Rattle.qm_glog.specs.Appending.{Appends, Adds as LogAdds}
use Rattle.qm_glog.specs.Log.{bodies_of, file_of, cap_of}
use Rattle.qm_store.specs.Files.{recorded_in}
use Rattle.qm_store.specs.Recorded.{HoldsEither, IsAtRest, with_body}
use Rattle.qm_store.specs.declared.files.Files.{Files}
use Rattle.qm_store.specs.declared.opened.Open.{Open}
use Rattle.qm_store.specs.Database.{open_record}
use Rattle.qm_store.specs.Appending.{Adds}
use Rattle.qm_store.specs.MasterRecords.{state_of}
use Rattle.qm_store.proofs.Moving.{live_ne, torn_live}
use Rattle.qm_store.proofs.Opening.{stays_durable}

module _ {D : Type 0} (m : Meaning D) (files : Files) (before after : D) (body : List ℕ) (rest : IsAtRest m (recorded_in files) before) (appends : Appends m body files.queue before after) where
  abbrev live : ℕ
  live = files.says.live

  keeps : KeepsOthers m live before after
  keeps = subst (λ (f : ℕ). KeepsOthers m f before after) files.in_live_file appends.others

  -- a crash leaves the old records, or these and the new one
  pub append_moments : IsTrue m.tells → LeavesOnly m before after (HoldsEither (m.may_leave before) live (recorded_in files) (with_body (recorded_in files) body))
  append_moments tells =
      weaker m before after (TornAppend (m.may_leave before) live (bodies_of files.queue) body) (HoldsEither (m.may_leave before) live (recorded_in files) (with_body (recorded_in files) body))
      (subst (λ (f : ℕ). LeavesOnly m before after (TornAppend (m.may_leave before) f (bodies_of files.queue) body)) files.in_live_file (appends.any_moment tells))
      (λ crashed torn. torn_live m (recorded_in files) before rest body crashed torn)

  -- behind it the database is at rest with the new one
  pub at_rest_with_body : (bodies : List (List ℕ)) → bodies ≡ bodies_of files.queue ++ body ∷ [] → IsLog (m.seen after live) bodies → Only (m.seen after live) (m.may_leave after live)
      → IsAtRest m (record (recorded_in files) { bodies = bodies }) after
  at_rest_with_body bodies is log only =
      let ne : 0 ≢ live = λ same. live_ne m (recorded_in files) before rest (sym same) in
      record {
        holds = record {
          master_is_log = subst (λ (f : List ℕ). IsLog f (bodies_of files.master)) (sym (keeps.reads 0 (omega arith) ne)) rest.holds.master_is_log;
          is_master = rest.holds.is_master;
          live_is_log = log;
        };
        master_is_durable = stays_durable m live 0 before after (omega arith) ne keeps rest.master_is_durable;
        live_is_durable = only;
      }

-- ---- the open database with a record more

module _ {D : Type 0} (m : Meaning D) (body : List ℕ) (old : Open D) (disk : D) (log_ : Log) (in_live : file_of log_ ≡ old.files.says.live) (capped : cap_of log_ ≡ old.files.says.cap) where
  abbrev pub with_queue : Open D
  with_queue = record {
    alloc = old.alloc;
    disk = disk;
    files = record {
      master = old.files.master;
      queue = log_;
      says = old.files.says;
      in_master_file = old.files.in_master_file;
      master_capped = old.files.master_capped;
      in_live_file = in_live;
      queue_capped = capped;
      is_queue_file = old.files.is_queue_file;
      in_disk = old.files.in_disk;
    };
  }

  pub adds : (IsTrue m.tells → IsAtRest m (open_record old) old.disk) → Appends m body old.files.queue old.disk disk → LogAdds m body old.files.queue log_ disk → Adds m body old with_queue
  adds rest appends told = record {
    recorded = ap (λ (b : List (List ℕ)). record { master = bodies_of old.files.master; says = state_of old.files.says; bodies = b }) told.bodies;
    at_rest = λ tells.
        at_rest_with_body m old.files old.disk disk body (rest tells) appends (bodies_of log_) told.bodies
        (subst (λ (f : ℕ). IsLog (m.seen disk f) (bodies_of log_)) in_live (told.left tells).records)
        (subst (λ (f : ℕ). Only (m.seen disk f) (m.may_leave disk f)) in_live (told.left tells).durable);
    spare = told.spare;
  }
