-- What a crash leaves at each moment of an append.
use Rattle.std.proofs.Common.{◌≡◌, inl, sym, ◌∙◌, ap, subst, ℕ, ◌+◌, ◌^◌, ◌<◌, ◌≤◌, List, [], ◌∷◌, ◌++◌, length, drop, arith, IsTrue}
use Rattle.qm_disk.specs.Disk.{Meaning, CrashState, spliced, Torn, KeepsOthers, LeavesOnly}
use Rattle.qm_disk.proofs.Moments.{weaker, goes_further, keeps_on}
use Rattle.qm_glog.specs.Records.{text, size_of, IsLog, IsShutByZero}
use Rattle.qm_glog.proofs.Texts.{length-text, text-push}
use Rattle.qm_glog.specs.Moments.{TornWrite, TornAppend}
use Rattle.qm_glog.specs.Log.{bodies_of, IsAsLeft}
use Rattle.qm_glog.specs.Appending.{Appends}
use Rattle.qm_glog.specs.declared.log.Log.{Log}
use Rattle.qm_glog.proofs.Adding.{tail, staged, room, length-staged, torn_behind, written_behind, torn_gate, written_gate, after_gate}

module _ {D : Type 0} (m : Meaning D) (file : ℕ) (old : D) (bodies : List (List ℕ)) (log : IsLog (m.seen old file) bodies)
    (end : ℕ) (at_end : end ≡ size_of bodies) (body : List ℕ) (small : length body < 2 ^ 32) where
  is : end ≡ length (text bodies)
  is = at_end ∙ sym (length-text bodies)

  -- there is a gate behind them
  pub gate_stands : end + 1 ≤ length (m.seen old file)
  gate_stands = room bodies log.fit end is body small (m.seen old file) log.gate log.rest log.shut log.whole

  -- the first write leaves the old records
  pub first_leaves : (n : ℕ) (crashed : CrashState) → TornWrite (m.may_leave old) file (end + 1) n (m.seen old file) crashed → TornAppend (m.may_leave old) file bodies body crashed
  first_leaves n crashed written = record {
    records = inl (torn_behind bodies log.fit end is body small (m.seen old file) log.gate log.rest log.shut log.whole n (crashed file) written.torn);
    others = written.others;
  }

  pub leaves_by_first : (mid : D) (n : ℕ) → LeavesOnly m old mid (TornWrite (m.may_leave old) file (end + 1) n (m.seen old file))
      → LeavesOnly m old mid (TornAppend (m.may_leave old) file bodies body)
  leaves_by_first mid n wrote =
      weaker m old mid (TornWrite (m.may_leave old) file (end + 1) n (m.seen old file)) (TornAppend (m.may_leave old) file bodies body) wrote (first_leaves n)

  rest : ℕ → List ℕ
  rest n = drop n (m.seen old file)

  module _ (mid : D) (bytes : List ℕ) (spelled : bytes ≡ tail body) (wrote : m.seen mid file ≡ spliced (end + 1) bytes (m.seen old file)) where
    abbrev behind : List ℕ
    behind = drop (end + 1 + length (tail body)) (m.seen old file)

    is_staged : m.seen mid file ≡ staged bodies body log.gate behind
    is_staged =
        wrote ∙ ap (λ (l : List ℕ). spliced (end + 1) l (m.seen old file)) spelled
        ∙ written_behind bodies log.fit end is body small (m.seen old file) log.gate log.rest log.shut log.whole

    -- the gate is still there
    pub gate_still_stands : end ≤ length (m.seen mid file)
    gate_still_stands = omega (arith, ap (λ (l : List ℕ). length l) is_staged, length-staged bodies log.fit end is body small log.gate behind)

    -- the second leaves them with the new one or without
    pub second_leaves : KeepsOthers m file old mid → (crashed : CrashState) → TornWrite (m.may_leave mid) file end 1 (m.seen mid file) crashed → TornAppend (m.may_leave old) file bodies body crashed
    second_leaves others crashed written = record {
      records = torn_gate bodies log.fit end is body small log.gate behind (crashed file) (subst (λ (l : List ℕ). Torn end 1 l (crashed file)) is_staged written.torn);
      others = λ f le other. others.no_more f (crashed f) le other (written.others f le other);
    }

    whole : (new : D) → m.seen new file ≡ spliced end (1 ∷ []) (m.seen mid file) → m.seen new file ≡ staged bodies body 1 behind
    whole new opened = opened ∙ ap (λ (l : List ℕ). spliced end (1 ∷ []) l) is_staged ∙ written_gate bodies log.fit end is body small log.gate behind

    -- and then the file has it
    pub has_both : (new : D) → m.seen new file ≡ spliced end (1 ∷ []) (m.seen mid file) → IsLog (m.seen new file) (bodies ++ body ∷ [])
    has_both new opened = subst (λ (l : List ℕ). IsLog l (bodies ++ body ∷ [])) (sym (whole new opened)) (after_gate bodies log.fit end is body small behind)

    -- and behind it the byte 0
    pub shut_by_zero : (new : D) → m.seen new file ≡ spliced end (1 ∷ []) (m.seen mid file) → IsShutByZero (m.seen new file) (bodies ++ body ∷ [])
    shut_by_zero new opened = (behind, whole new opened ∙ sym (text-push bodies body (0 ∷ behind)))

-- both writes do together what an append does, whether the second held or not
module _ {D : Type 0} (m : Meaning D) (log : Log) (body : List ℕ) (small : length body < 2 ^ 32) (old mid new : D) (bytes : List ℕ) (spelled : bytes ≡ tail body) where
  pub leaves_by_both : (IsTrue m.tells → IsAsLeft m log old) → (IsTrue m.tells → m.seen mid log.file ≡ spliced (log.end + 1) bytes (m.seen old log.file))
      → (IsTrue m.tells → LeavesOnly m old mid (TornWrite (m.may_leave old) log.file (log.end + 1) (length bytes) (m.seen old log.file)))
      → (IsTrue m.tells → LeavesOnly m mid new (TornWrite (m.may_leave mid) log.file log.end 1 (m.seen mid log.file)))
      → KeepsOthers m log.file old mid → KeepsOthers m log.file mid new → Appends m body log old new
  leaves_by_both left wrote first second kept kept_on = record {
    any_moment = λ told. goes_further m old mid new (TornAppend (m.may_leave old) log.file (bodies_of log) body) (TornWrite (m.may_leave mid) log.file log.end 1 (m.seen mid log.file))
        (leaves_by_first m log.file old (bodies_of log) (left told).records log.end log.at_end body small mid (length bytes) (first told)) (second told)
        (second_leaves m log.file old (bodies_of log) (left told).records log.end log.at_end body small mid bytes spelled (wrote told) kept);
    others = keeps_on m log.file old mid new kept kept_on;
  }
