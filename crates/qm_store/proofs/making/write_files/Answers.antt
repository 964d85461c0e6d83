use Rattle.std.proofs.Common.{subst, ℕ, List, ◌∙◌, ◌∷◌, []}
use Rattle.qm_history.specs.Common.{Only, contents, IsLog, Found, master_text}
use Rattle.qm_store.proofs.Made.{is_written}
use Rattle.qm_store.proofs.making.write_files.Goals as goal

pub returns-clause-written : goal.returns-clause-written
returns-clause-written g c = λ told.
    let m = g.D.Disk.meaning in
    let queue = c.in_ok-create.ensures.left told in
    let queue_at = c.in_ok-create.ensures.place in
    let master = c.in_ok-create-2.ensures.left told in
    let master_at = c.in_ok-create-2.ensures.place in
    let mid = c.create.new.disk in
    let new = c.create-2.new.disk in
    is_written m c.args.cap (contents c.args.queue.now) mid new c.requires.cap
    (subst (λ (f : ℕ). IsLog (m.seen mid f) (contents c.args.queue.now)) queue_at.file_is (subst (λ (b : List (List ℕ)). IsLog (m.seen mid c.in_ok-create.field-0.file) b) c.in_ok-create.ensures.records queue.records))
    (subst (λ (f : ℕ). Only (m.seen mid f) (m.may_leave mid f)) queue_at.file_is queue.durable)
    c.create-2.ensures.changes.others
    (subst (λ (f : ℕ). IsLog (m.seen new f) (master_text (Found c.args.cap 1) ∷ [])) master_at.file_is (subst (λ (b : List (List ℕ)). IsLog (m.seen new c.in_ok-create-2.field-0.file) b) (c.in_ok-create-2.ensures.records ∙ c.requires.master) master.records))
    (subst (λ (f : ℕ). Only (m.seen new f) (m.may_leave new f)) master_at.file_is master.durable)
