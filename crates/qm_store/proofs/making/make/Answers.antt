use Rattle.std.proofs.Common.{◌≤◌, ◌∙◌, refl, ap, subst, arith, ℕ, List, OnOk, IsTrue}
use Rattle.qm_glog.specs.Bodies.{contents}
use Rattle.qm_store.specs.Making.{need_for, IsWritten}
use Rattle.qm_store.proofs.Made.{is_made, out_of_memory}
use Rattle.qm_store.proofs.making.make.Goals as goal

pub returns-in_err-queue-clause-made : goal.returns-in_err-queue-clause-made
returns-in_err-queue-clause-made g c =
    out_of_memory g.D.Disk.meaning c.args.cap c.args.rows.now c.args.disk.now c.args.disk.now c.from_residual.result c.from_residual.ensures.1

pub returns-then-need-cap-clause-made : goal.returns-then-need-cap-clause-made
returns-then-need-cap-clause-made g c =
    (c.if-need-cap.true, c.file_need-need.ensures ∙ ap need_for (ap contents c.as_slice-bodies.ensures.value ∙ c.in_ok-queue.ensures.bodies), refl, refl)

pub returns-in_err-master-clause-made : goal.returns-in_err-master-clause-made
returns-in_err-master-clause-made g c =
    out_of_memory g.D.Disk.meaning c.args.cap c.args.rows.now c.args.disk.now c.args.disk.now c.from_residual-in_err-master.result c.from_residual-in_err-master.ensures.1

pub write_files-requires-clause-room : goal.write_files-requires-clause-room
write_files-requires-clause-room g c = omega (arith, c.file_need-need.ensures, c.if-need-cap.false, c.requires.cap.greatest)

pub returns-clause-made : goal.returns-clause-made
returns-clause-made g c =
    let m = g.D.Disk.meaning in
    let same = ap contents c.as_slice-bodies.ensures.value ∙ c.in_ok-queue.ensures.bodies in
    let room : need_for (contents c.as_slice-bodies.result.now) ≤ c.args.cap = omega (arith, c.file_need-need.ensures, c.if-need-cap.false) in
    is_made m c.args.cap c.args.rows.now c.args.disk.now c.write_files.new.disk c.write_files.result (subst (λ (b : List (List ℕ)). need_for b ≤ c.args.cap) same room)
    (subst (λ (b : List (List ℕ)). OnOk c.write_files.result (IsTrue m.tells → IsWritten m c.args.cap b c.write_files.new.disk)) same c.write_files.ensures.written) c.write_files.ensures.not_full
