use Rattle.std.proofs.Common.{◌≡◌, subst, List, ℕ}
use Rattle.qm_record.specs.Faults.{IsFirstFault, IsRecord}
use Rattle.qm_store.proofs.loaded.Loaded.record.Goals as goal

pub returns-clause-first : goal.returns-clause-first
returns-clause-first g c = λ body is place bad.
    let same : c.record.result.now ≡ body = cc c.record.ensures in
    subst (λ (bytes : List ℕ). IsFirstFault bytes place) same (c.read_record.ensures.first place bad)

pub returns-clause-no_memory : goal.returns-clause-no_memory
returns-clause-no_memory g c = λ body is out.
    let same : c.record.result.now ≡ body = cc c.record.ensures in
    subst IsRecord same (c.read_record.ensures.no_memory out)
