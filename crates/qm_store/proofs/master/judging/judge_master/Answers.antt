use Rattle.std.proofs.Common.{◌≡◌, sym, subst, arith, ℕ, List, length, take, length-take-le}
use Rattle.qm_glog.specs.Log.{bodies_of}
use Rattle.qm_store.specs.MasterJudging.{IsMaster, IsFirstBad}
use Rattle.qm_store.specs.MasterRecords.{state_of}
use Rattle.qm_store.proofs.MasterBodies.{one_more, split_at}
use Rattle.qm_store.proofs.Masters.{says_lawful, master_begins, master_grows, first_is_bad, next_is_bad}
use Rattle.qm_store.proofs.master.judging.judge_master.Goals as goal

pub returns-in_default-clause-judged : goal.returns-in_default-clause-judged
returns-in_default-clause-judged c =
    let bodies = bodies_of c.args.log.now in
    subst (λ (l : List (List ℕ)). IsFirstBad l 0) (sym (split_at bodies 0 c.record.result.now c.record.ensures)) (first_is_bad c.record.result.now _ c.in_default.ensures)

pub loop-index-init : goal.loop-index-init
loop-index-init c =
    let bodies = bodies_of c.args.log.now in
    let says = c.in-Some.ensures in
    subst (λ (l : List (List ℕ)). IsMaster l (state_of c.in-Some.says)) (sym (one_more bodies 0 c.record.result.now c.record.ensures))
    (master_begins c.record.result.now says.0 (state_of c.in-Some.says) says.1 says.2 says.3)

pub returns-in-None-clause-judged : goal.returns-in-None-clause-judged
returns-in-None-clause-judged c =
    let bodies = bodies_of c.args.log.now in
    let i = c.loop-index.index in
    let body = c.record-in-loop-index.result.now in
    let within : length (take c.loop-index.index (bodies_of c.args.log.now)) ≡ c.loop-index.index = length-take-le i bodies (omega arith) in
    subst (λ (k : ℕ). IsFirstBad (bodies_of c.args.log.now) k) within
    (subst (λ (l : List (List ℕ)). IsFirstBad l (length (take c.loop-index.index (bodies_of c.args.log.now)))) (sym (split_at bodies i body c.record-in-loop-index.ensures))
    (next_is_bad (take i bodies) body _ (state_of c.loop-index.says) c.loop-index.invariant c.in-None.ensures))

pub loop-index-preserved : goal.loop-index-preserved
loop-index-preserved c =
    let bodies = bodies_of c.args.log.now in
    let i = c.loop-index.index in
    let body = c.record-in-loop-index.result.now in
    let says = c.in-Some-read_next.ensures in
    subst (λ (l : List (List ℕ)). IsMaster l (state_of c.in-Some-read_next.next)) (sym (one_more bodies i body c.record-in-loop-index.ensures))
    (master_grows (take i bodies) body (state_of c.loop-index.says) (state_of c.in-Some-read_next.next) says.0 c.loop-index.invariant says.1 says.2 says.3)

pub read_next-requires : goal.read_next-requires
read_next-requires c = (says_lawful (take c.loop-index.index (bodies_of c.args.log.now)) (state_of c.loop-index.says) c.loop-index.invariant).epoch

pub returns-clause-lawful : goal.returns-clause-lawful
returns-clause-lawful c = says_lawful (take c.loop-index.index (bodies_of c.args.log.now)) (state_of c.loop-index.says) c.loop-index.invariant
