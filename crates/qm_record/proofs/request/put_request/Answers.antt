use Rattle.std.proofs.Common.{ap, ◌∙◌, ◌++◌}
use Rattle.qm_record.proofs.Loops.{before, parts_text}
use Rattle.qm_record.proofs.request.put_request.Goals as goal

pub returns-clause-ok : goal.returns-clause-ok
returns-clause-ok c =
    before c.args.out.now.items _ _ c.in_ok-put_front.ensures.ok c.in_ok-put_fields.ensures.ok
    ∙ ap (λ text. c.args.out.now.items ++ text) (parts_text c.args.moment c.args.node c.kind_of.result _ c.kind_of.ensures)
