use Rattle.std.proofs.Common.{◌≡◌, ◌<◌, ◌∙◌, ap, length, map, arith}
use Rattle.std.proofs.lemmas.Option.{slice_get_within}
use Rattle.qm_record.specs.Spelling.{record_text}
use Rattle.qm_restore.specs.Site.{new_rows}
use Rattle.qm_restore.proofs.Beginning.{row_text_at, one_more_same, row_is_unlawful, row_within, rows_begin, rows_end, not_both}
use Rattle.qm_restore.proofs.rows.read_rows.Goals as goal

pub returns-then-not-branch-clause-judged : goal.returns-then-not-branch-clause-judged
returns-then-not-branch-clause-judged g c =
    let within : c.loop-index.index < length c.in_ok-rows.rows.items = omega arith in
    let rows : c.in_ok-rows.rows.items ≡ new_rows c.in_ok-nodes.nodes.items = c.in_ok-rows.ensures.rows ∙ ap new_rows c.deref.ensures.value in
    let row = row_text_at c.in_ok-rows.rows.items c.in_ok-nodes.nodes.items c.loop-index.index c.index.result.now rows within c.index.ensures in (
      row_is_unlawful (g.B.Bodies.bodies c.args.log.now) c.in_ok-nodes.nodes.items (record_text c.index.result.now) c.loop-index.index
          c.in_ok-nodes.ensures.nodes c.loop-index.invariant.within c.loop-index.invariant.same row
          (λ there. not_both c.in_ok-is_row.field-0 (c.in_ok-is_row.ensures.1 there) c.if-not-branch.true),
      row_within c.in_ok-nodes.nodes.items (record_text c.index.result.now) c.loop-index.index row,
    )

pub loop-index-preserved : goal.loop-index-preserved
loop-index-preserved g c =
    let within : c.loop-index.index < length c.in_ok-rows.rows.items = omega arith in
    let there = c.in_ok-is_row.ensures.0 c.if-not-branch.false in
    let rows : c.in_ok-rows.rows.items ≡ new_rows c.in_ok-nodes.nodes.items = c.in_ok-rows.ensures.rows ∙ ap new_rows c.deref.ensures.value in
    let row = row_text_at c.in_ok-rows.rows.items c.in_ok-nodes.nodes.items c.loop-index.index c.index.result.now rows within c.index.ensures in
    let inside = slice_get_within (g.B.Bodies.bodies c.args.log.now) c.loop-index.index (record_text c.index.result.now) there in
    record {
      within = omega (arith, inside);
      same = one_more_same (g.B.Bodies.bodies c.args.log.now) (map record_text (new_rows c.in_ok-nodes.nodes.items)) c.loop-index.index (record_text c.index.result.now) there row c.loop-index.invariant.same;
    }

pub returns-clause-rows : goal.returns-clause-rows
returns-clause-rows g c =
    let rows : length c.in_ok-rows.rows.items ≡ 3 = ap length (c.in_ok-rows.ensures.rows ∙ ap new_rows c.deref.ensures.value) in
    let three : c.loop-index.index ≡ 3 = omega arith in
    rows_begin (g.B.Bodies.bodies c.args.log.now) c.in_ok-nodes.nodes.items c.in_ok-nodes.ensures.nodes
    (rows_end (g.B.Bodies.bodies c.args.log.now) c.in_ok-nodes.nodes.items c.loop-index.index three c.loop-index.invariant.same)
