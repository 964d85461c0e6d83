use Rattle.std.proofs.Common.{◌≡◌, [], ◌∷◌, ◌++◌, drop, ◌+◌, ◌&&◌, nat_lt, length, sym, ◌∙◌, ap, subst}
use Rattle.qm_model.specs.Pages.{lines}
use Rattle.qm_model.specs.Batch as batch
use Rattle.qm_model.specs.Batch.{place_of_label}
use Rattle.qm_symb.proofs.MoveLemmas.{move_behind, move_of_line, goes_to_mark, goes_past}
use Rattle.qm_symb.proofs.batch.moves.move_at.Goals as goal
use Rattle.qm_symb.proofs.batch.moves.move_at.Goals.{After-read_line}

-- what is done at the line that was found, as it was read
followed : (c : After-read_line) (read : batch.BatchLine) → read ≡ batch.batch_line c.in-Some.found.line.now
    → batch.move_at (lines c.args.work.now.text) c.args.work.now.again c.args.work.now.mark c.args.here.line ≡ batch.move_of (lines c.args.work.now.text) c.args.work.now.again c.args.work.now.mark c.args.here.line read
followed c read is =
    move_of_line c.args.work.now.text c.as_slice-text.result.now c.args.work.now.again c.args.work.now.mark c.args.here c.in-Some.found.line.now c.in-Some.found.next read c.as_slice-text.ensures c.in-Some.ensures is

pub returns-in_default-clause-meaning : goal.returns-in_default-clause-meaning
returns-in_default-clause-meaning c =
    sym (move_behind (lines c.args.work.now.text) c.args.work.now.again c.args.work.now.mark c.args.here.line (subst (λ t. drop c.args.here.line (lines t) ≡ []) c.as_slice-text.ensures c.in_default.ensures))

pub returns-in-Nothing-clause-meaning : goal.returns-in-Nothing-clause-meaning
returns-in-Nothing-clause-meaning c =
    ap batch.GoOn c.in-Some.ensures.count ∙ sym (followed (goal.at.returns-in-Nothing-clause-meaning c).After-read_line batch.Nothing c.in-Nothing.ensures.meaning)

pub returns-in-Write-clause-meaning : goal.returns-in-Write-clause-meaning
returns-in-Write-clause-meaning c =
    ap (batch.Output (c.in-Write.block.now ++ 10 ∷ [])) c.in-Some.ensures.count
    ∙ sym (followed (goal.at.returns-in-Write-clause-meaning c).After-read_line (batch.Write c.in-Write.block.now) c.in-Write.ensures.meaning)

pub returns-in-SetRestart-clause-meaning : goal.returns-in-SetRestart-clause-meaning
returns-in-SetRestart-clause-meaning c =
    ap (batch.SaveMark c.in-SetRestart.mark.now) c.in-Some.ensures.count
    ∙ sym (followed (goal.at.returns-in-SetRestart-clause-meaning c).After-read_line (batch.SetRestart c.in-SetRestart.mark.now) c.in-SetRestart.ensures.meaning)

pub returns-in-GoTo-clause-meaning : goal.returns-in-GoTo-clause-meaning
returns-in-GoTo-clause-meaning c =
    c.move_to.ensures.meaning ∙ ap (λ t. batch.move_to (place_of_label c.in-GoTo.label.now (lines t))) c.as_slice-text.ensures
    ∙ sym (followed (goal.at.returns-in-GoTo-clause-meaning c).After-read_line (batch.GoTo c.in-GoTo.label.now) c.in-GoTo.ensures.meaning)

pub returns-in-Some-restart_label-clause-meaning : goal.returns-in-Some-restart_label-clause-meaning
returns-in-Some-restart_label-clause-meaning c =
    c.move_to-in-Some-restart_label.ensures.meaning ∙ ap (λ t. batch.move_to (place_of_label c.in-Some-restart_label.label.now (lines t))) c.as_slice-text.ensures
    ∙ sym (goes_to_mark (c.args.work.now.again && nat_lt 0 (length c.args.work.now.mark)) c.args.work.now.mark
    (λ label. batch.move_to (place_of_label label (lines c.args.work.now.text))) (batch.GoOn (c.args.here.line + 1)) c.in-Some-restart_label.label.now c.in-Some-restart_label.ensures)
    ∙ sym (followed (goal.at.returns-in-Some-restart_label-clause-meaning c).After-read_line batch.GoToRestart c.in-GoToRestart.ensures.meaning)

pub returns-in-None-clause-meaning : goal.returns-in-None-clause-meaning
returns-in-None-clause-meaning c =
    ap batch.GoOn c.in-Some.ensures.count
    ∙ sym (goes_past (c.args.work.now.again && nat_lt 0 (length c.args.work.now.mark)) c.args.work.now.mark
    (λ label. batch.move_to (place_of_label label (lines c.args.work.now.text))) (batch.GoOn (c.args.here.line + 1)) c.in-None.ensures)
    ∙ sym (followed (goal.at.returns-in-None-clause-meaning c).After-read_line batch.GoToRestart c.in-GoToRestart.ensures.meaning)

pub returns-in-Exit-clause-meaning : goal.returns-in-Exit-clause-meaning
returns-in-Exit-clause-meaning c = sym (followed (goal.at.returns-in-Exit-clause-meaning c).After-read_line (batch.Exit c.in-Exit.status) c.in-Exit.ensures.meaning)

pub returns-in-Bad-clause-meaning : goal.returns-in-Bad-clause-meaning
returns-in-Bad-clause-meaning c = sym (followed (goal.at.returns-in-Bad-clause-meaning c).After-read_line batch.Bad c.in-Bad.ensures.meaning)
