use Rattle.std.proofs.Common.{◌<◌, ◌≤◌, ℕ, List, [], length, get_or, arith}
use Rattle.std.proofs.lemmas.Option.{slice_get-get_or}
use Rattle.std.proofs.lemmas.Result.{err_from_is_err_and}
use Rattle.qm_image.specs.Image.{system_of}
use Rattle.qm_restore.proofs.Going.{next_stands, next_is_judged, all_stand}
use Rattle.qm_restore.proofs.restoring.restore_records.Goals as goal

pub returns-in_err-restore_record-clause-judged : goal.returns-in_err-restore_record-clause-judged
returns-in_err-restore_record-clause-judged g c =
    let inside : c.loop-index.index < length (g.B.Bodies.bodies c.args.log.now) = omega arith in
    let behind : 3 ≤ c.loop-index.index = omega arith in
    let body : List ℕ = get_or (g.B.Bodies.bodies c.args.log.now) c.loop-index.index [] in
    let there = slice_get-get_or (g.B.Bodies.bodies c.args.log.now) c.loop-index.index [] inside in
    let p = err_from_is_err_and c.from_residual.result c.from_residual.ensures.1 in
    rw (p.1, p.2) (next_is_judged (g.B.Bodies.bodies c.args.log.now) c.loop-index.index body (system_of c.loop-index.image) c.in_err-restore_record.field-0.0 there behind
    c.loop-index.invariant.stands (c.in_err-restore_record.ensures.refused body there))

pub loop-index-preserved : goal.loop-index-preserved
loop-index-preserved g c =
    let inside : c.loop-index.index < length (g.B.Bodies.bodies c.args.log.now) = omega arith in
    let body : List ℕ = get_or (g.B.Bodies.bodies c.args.log.now) c.loop-index.index [] in
    let there = slice_get-get_or (g.B.Bodies.bodies c.args.log.now) c.loop-index.index [] inside in
    let leaves = c.in_ok-restore_record.ensures.leaves body there in
    record {
      stands = next_stands (g.B.Bodies.bodies c.args.log.now) c.loop-index.index body (system_of c.loop-index.image) (system_of c.restore_record.new.image) there c.loop-index.invariant.stands leaves;
      sound = c.restore_record.ensures.sound;
    }

pub returns-clause-stands : goal.returns-clause-stands
returns-clause-stands g c =
    let past : length (g.B.Bodies.bodies c.args.log.now) ≤ c.loop-index.index = omega arith in
    all_stand (g.B.Bodies.bodies c.args.log.now) c.loop-index.index (system_of c.loop-index.image) past c.loop-index.invariant.stands
