use Rattle.std.proofs.Common.{◌≡◌, inl, inr, ◌+◌, [], ◌∷◌, ◌++◌, true, false, refl, sym, ◌∙◌, ap, arith, is_err}
use Rattle.qm_kinds.specs.declared.work.Report.TheVariants.{Mark, Done}
use Rattle.qm_model.specs.Batch.{GoOn, Output, SaveMark, EndRun}
use Rattle.qm_model.specs.Reports.{course}
use Rattle.qm_symb.proofs.CourseLemmas.{steps_from, course_from, by_move, at_limit, nothing_passed, passed_same, passed_block, comes_to_report, fails_at_block, of_ok, of_err}
use Rattle.qm_symb.proofs.batch.step.batch_step.Goals as goal
use Rattle.qm_symb.proofs.batch.step.batch_step.Goals.{in-GoOn, in-Output+else-is_err}

pub loop-used-init : goal.loop-used-init
loop-used-init g c = record {
  same = refl;
  in_text = c.requires.place.in_text;
  room = omega (arith, c.in_ok-block.ensures.capacity, c.len.ensures);
  passed = nothing_passed g.P.Device.meaning c.args.work.now c.args.at (steps_from c.args.work.now c.args.at.used c.args.cursor.now.line) c.args.device.now
      (course_from c.args.work.now c.args.at c.args.cursor.now.line c.requires.kind c.requires.place.line);
}

pub loop-used-preserved : goal.loop-used-preserved
loop-used-preserved g c =
    let w = c.args.work.now in
    let used = c.loop-used.used in
    let left = steps_from w used c.loop-used.here.line in
    elim c.match-move_at.branch [
      | in-GoOn w1 ↦ rw (w1.here-is, w1.device-is, w1.block-is) (record {
        same = c.loop-used.invariant.same;
        in_text = w1.in-GoOn.ensures.within;
        room = c.loop-used.invariant.room;
        passed = passed_same g.P.Device.meaning w c.args.at c.args.device.now left (steps_from w (used + 1) w1.in-GoOn.next.line) c.loop-used.device c.loop-used.invariant.passed
            (by_move w used c.loop-used.here.line (GoOn w1.in-GoOn.next.line) c.loop-used-test.true w1.in-GoOn.ensures.meaning);
      })
      | in-Output+else-is_err w1 ↦
          let ok : is_err w1.hand.result ≡ false = sym w1.is_err.ensures.value ∙ w1.if-is_err.false in
          rw (w1.here-is, w1.device-is, w1.block-is) (record {
            same = c.loop-used.invariant.same;
            in_text = w1.in-Output.ensures.within.1;
            room = omega (arith, c.loop-used.invariant.room, w1.spell.ensures.capacity);
            passed = passed_block g.P.Device.meaning w c.args.at c.args.device.now left (steps_from w (used + 1) w1.in-Output.next.line) (w1.in-Output.text.now ++ 10 ∷ []) w1.deref.result.now
                c.loop-used.device w1.hand.new.self c.loop-used.invariant.passed
                (by_move w used c.loop-used.here.line (Output (w1.in-Output.text.now ++ 10 ∷ []) w1.in-Output.next.line) c.loop-used-test.true w1.in-Output.ensures.meaning)
                (w1.deref.ensures.value ∙ w1.spell.ensures.text) (of_ok w1.hand.result ok w1.hand.ensures.handed)
                (w1.hand.ensures.faults.quiet (λ failed. absurd (cc (ok, failed))));
          })
    ]

pub returns-then-is_err-clause-stepped : goal.returns-then-is_err-clause-stepped
returns-then-is_err-clause-stepped g c =
    let w = c.args.work.now in
    let used = c.loop-used.used in
    let failed : is_err c.hand.result ≡ true = sym c.is_err.ensures.value ∙ c.if-is_err.true in
    inr (fails_at_block g.P.Device.meaning w c.args.at c.args.device.now (steps_from w used c.loop-used.here.line) (steps_from w (used + 1) c.in-Output.next.line)
    (c.in-Output.text.now ++ 10 ∷ []) c.loop-used.device c.hand.new.self c.loop-used.invariant.passed
    (by_move w used c.loop-used.here.line (Output (c.in-Output.text.now ++ 10 ∷ []) c.in-Output.next.line) c.loop-used-test.true c.in-Output.ensures.meaning)
    (of_err c.hand.result failed c.hand.ensures.refused) (c.hand.ensures.faults.fault failed))

pub returns-in-SaveMark-clause-stepped : goal.returns-in-SaveMark-clause-stepped
returns-in-SaveMark-clause-stepped g c =
    let w = c.args.work.now in
    let used = c.loop-used.used in
    let next = c.in-SaveMark.next.line in
    inl (comes_to_report g.P.Device.meaning w c.args.at c.args.device.now (steps_from w used c.loop-used.here.line) (steps_from w (used + 1) next) c.mark_report.result
    (Mark c.in-SaveMark.mark.now (record { at = next + 1; used = used + 1 })) c.loop-used.device c.loop-used.invariant.passed
    (by_move w used c.loop-used.here.line (SaveMark c.in-SaveMark.mark.now next) c.loop-used-test.true c.in-SaveMark.ensures.meaning) c.mark_report.ensures)

pub returns-in-EndRun-clause-stepped : goal.returns-in-EndRun-clause-stepped
returns-in-EndRun-clause-stepped g c =
    let w = c.args.work.now in
    let used = c.loop-used.used in
    inl (comes_to_report g.P.Device.meaning w c.args.at c.args.device.now (steps_from w used c.loop-used.here.line) [] (Done c.in-EndRun.status) (Done c.in-EndRun.status)
    c.loop-used.device c.loop-used.invariant.passed (by_move w used c.loop-used.here.line (EndRun c.in-EndRun.status) c.loop-used-test.true c.in-EndRun.ensures.meaning) refl)

pub returns-clause-stepped : goal.returns-clause-stepped
returns-clause-stepped g c =
    let w = c.args.work.now in
    let used = c.loop-used.used in
    inl (comes_to_report g.P.Device.meaning w c.args.at c.args.device.now (steps_from w used c.loop-used.here.line) [] (Done c.status_at_limit.result) (Done _)
    c.loop-used.device c.loop-used.invariant.passed (at_limit w used c.loop-used.here.line c.loop-used-test.false) (ap Done c.status_at_limit.ensures))
