use Rattle.qm_record.proofs.Loops.{before, finish}
use Rattle.qm_record.proofs.queue_request.put_change.Goals as goal

pub returns-clause-ok : goal.returns-clause-ok
returns-clause-ok c =
    (before c.args.out.now.items _ _ c.in_ok-put_optional.ensures.ok
    (before c.put_optional.new.out.items _ _ c.in_ok-put_optional_list.ensures.ok
    (before c.put_optional_list.new.out.items _ _ c.in_ok-put_optional-2.ensures.ok
    (before c.put_optional-2.new.out.items _ _ c.in_ok-put_optional-3.ensures.ok
    (before c.put_optional-3.new.out.items _ _ c.in_ok-put_optional-4.ensures.ok
    (finish c.put_optional-4.new.out.items _ c.in_ok-put_optional-5.ensures.ok))))))
