use Rattle.qm_record.proofs.Loops.{before, finish}
use Rattle.qm_record.proofs.queue_request.put_new_queue.Goals as goal

pub returns-clause-ok : goal.returns-clause-ok
returns-clause-ok c =
    (before c.args.out.now.items _ _ c.in_ok-put_name.ensures.ok
    (before c.put_name.new.out.items _ _ (rw c.queue_kind_code.ensures at c.in_ok-put_byte.ensures)
    (before c.put_byte.new.out.items _ _ c.in_ok-put_optional_name.ensures.ok
    (before c.put_optional_name.new.out.items _ _ c.in_ok-put_optional_name-2.ensures.ok
    (before c.put_optional_name-2.new.out.items _ _ c.in_ok-put_list.ensures.ok
    (before c.put_list.new.out.items _ _ c.in_ok-put_change.ensures.ok
    (finish c.put_change.new.out.items _ c.in_ok-put_truth.ensures)))))))
