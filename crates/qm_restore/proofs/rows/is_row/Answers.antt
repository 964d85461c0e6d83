use Rattle.std.proofs.Common.{◌≤◌, ◌∙◌, length, arith}
use Rattle.qm_record.specs.Spelling.{record_text}
use Rattle.qm_restore.proofs.Beginning.{no_body_there, body_is, not_below}
use Rattle.qm_restore.proofs.rows.is_row.Goals as goal
use Rattle.qm_restore.proofs.rows.is_row.Goals.{then-index-count, else-index-count}

pub returns : goal.returns
returns g c =
    elim c.if-index-count.branch [
      | then-index-count w ↦ body_is (g.B.Bodies.bodies c.args.log.now) c.args.index w.body.result.now w.as_slice.result.now (record_text c.args.row.now) c.if-index-count.result
          w.body.ensures (w.as_slice.ensures.value ∙ c.in_ok-text.ensures.is) (w.result-is ∙ w.eq.ensures)
      | else-index-count w ↦
          let past : length (g.B.Bodies.bodies c.args.log.now) ≤ c.args.index = omega (arith, w.if-index-count.false, c.count.ensures) in
          no_body_there (g.B.Bodies.bodies c.args.log.now) c.args.index (record_text c.args.row.now) c.if-index-count.result past (w.result-is ∙ not_below c.args.index c.count.result w.if-index-count.false)
    ]
