use Rattle.std.proofs.Common.{◌≡◌, ◌∙◌, ℕ, Bool, Some, cond, get_or, sym, ap, arith}
use Rattle.std.proofs.lemmas.List.{get_or_default}
use Rattle.qm_model.specs.Common.{Queue, Start}
use Rattle.qm_model.specs.Settling.{start_of as model_start}
use Rattle.qm_sched.specs.Choosing.{takes_jobs}
use Rattle.qm_parts.specs.Tables.{with_tables}
use Rattle.qm_sched.proofs.Chosen.{nothing_fits, first_starts}
use Rattle.qm_sched.proofs.FirstReady.{takes_nothing, takes_with_place, no_job, job_is}
use Rattle.qm_sched.proofs.choosing.next_start.Goals as goal

pub returns-then-not-takes_jobs-clause-start : goal.returns-then-not-takes_jobs-clause-start
returns-then-not-takes_jobs-clause-start g c s q =
    let t = c.args.parts.now in
    let it : c.index-queues-place.result ≡ get_or t.queues c.args.place q = (rw c.queues.ensures.queues at c.index-queues-place.is) ∙ get_or_default t.queues c.args.place c.index-queues-place.result q c.requires in
    sym (takes_nothing (with_tables s t) (get_or t.queues c.args.place q) (ap (takes_jobs (with_tables s t)) (sym it) ∙ sym (c.takes_jobs.ensures s) ∙ c.if-not-takes_jobs.true))

pub returns-then-not-takes_jobs-clause-looks : goal.returns-then-not-takes_jobs-clause-looks
returns-then-not-takes_jobs-clause-looks g c s q =
    let t = c.args.parts.now in
    let it : c.index-queues-place.result ≡ get_or t.queues c.args.place q = (rw c.queues.ensures.queues at c.index-queues-place.is) ∙ get_or_default t.queues c.args.place c.index-queues-place.result q c.requires in
    omega (arith, ap {B = ℕ} (λ (b : Bool). cond b 1 0) (ap (takes_jobs (with_tables s t)) (sym it) ∙ sym (c.takes_jobs.ensures s) ∙ c.if-not-takes_jobs.true))

pub returns-in_default-clause-start : goal.returns-in_default-clause-start
returns-in_default-clause-start g c s q =
    let t = c.args.parts.now in
    let p = get_or t.queues c.args.place q in
    sym (nothing_fits (with_tables s t) p (no_job s t p c.row_at.result.now c.see_entries.ensures (c.row_at.ensures q) c.in_default.ensures.in_order (sym c.in_default.ensures.first)))

pub returns-in_default-clause-looks : goal.returns-in_default-clause-looks
returns-in_default-clause-looks g c s q =
    let t = c.args.parts.now in
    let it : c.index-queues-place.result ≡ get_or t.queues c.args.place q = (rw c.queues.ensures.queues at c.index-queues-place.is) ∙ get_or_default t.queues c.args.place c.index-queues-place.result q c.requires in
    omega (arith, c.in_default.ensures.looks, ap {B = ℕ} (λ (b : Bool). cond b 1 0) (ap (takes_jobs (with_tables s t)) (sym it) ∙ sym (c.takes_jobs.ensures s) ∙ c.if-not-takes_jobs.false))

pub returns-in-Some-entry-clause-start : goal.returns-in-Some-entry-clause-start
returns-in-Some-entry-clause-start g c s q =
    let t = c.args.parts.now in
    let p = get_or t.queues c.args.place q in
    let it : c.index-queues-place.result ≡ p = (rw c.queues.ensures.queues at c.index-queues-place.is) ∙ get_or_default t.queues c.args.place c.index-queues-place.result q c.requires in
    ap (λ (start : Start). Some start) (c.start_of.ensures s)
    ∙ ap (λ (x : Queue). Some (model_start (with_tables s t) (record { entry = c.in-Some-entry.entry.now; queue = x }))) it
    ∙ sym (first_starts (with_tables s t) p c.in-Some-entry.entry.now (takes_with_place (with_tables s t) p (ap (takes_jobs (with_tables s t)) (sym it) ∙ sym (c.takes_jobs.ensures s) ∙ c.if-not-takes_jobs.false))
    (job_is s t p c.row_at.result.now c.see_entries.ensures (c.row_at.ensures q) c.in-Some.ensures.in_order c.in-Some.number (Some c.in-Some-entry.entry.now) (sym c.in-Some.ensures.first) (sym c.in-Some-entry.ensures.found)))

pub returns-in-Some-entry-clause-looks : goal.returns-in-Some-entry-clause-looks
returns-in-Some-entry-clause-looks g c s q =
    let t = c.args.parts.now in
    let it : c.index-queues-place.result ≡ get_or t.queues c.args.place q = (rw c.queues.ensures.queues at c.index-queues-place.is) ∙ get_or_default t.queues c.args.place c.index-queues-place.result q c.requires in
    omega (arith, c.in-Some.ensures.looks, ap {B = ℕ} (λ (b : Bool). cond b 1 0) (ap (takes_jobs (with_tables s t)) (sym it) ∙ sym (c.takes_jobs.ensures s) ∙ c.if-not-takes_jobs.false))
