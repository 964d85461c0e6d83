use Rattle.qm_record.proofs.Loops.{before, finish}
use Rattle.qm_record.proofs.queue_request.put_abort.Goals as goal

pub returns-clause-ok : goal.returns-clause-ok
returns-clause-ok c =
    (before c.args.out.now.items _ _ c.in_ok-put_name.ensures.ok
    (before c.put_name.new.out.items _ _ c.in_ok-put_optional.ensures.ok
    (finish c.put_optional.new.out.items _ c.in_ok-put_truth.ensures)))
