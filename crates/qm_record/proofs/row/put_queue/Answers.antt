use Rattle.qm_record.proofs.Loops.{before, finish}
use Rattle.qm_record.proofs.row.put_queue.Goals as goal

pub returns-clause-ok : goal.returns-clause-ok
returns-clause-ok c =
    (before c.args.out.now.items _ _ c.in_ok-put_name.ensures.ok
    (before c.put_name.new.out.items _ _ (rw c.queue_kind_code.ensures at c.in_ok-put_byte.ensures)
    (before c.put_byte.new.out.items _ _ (rw c.queue_state_code.ensures at c.in_ok-put_byte-2.ensures)
    (before c.put_byte-2.new.out.items _ _ c.in_ok-put_optional_name.ensures.ok
    (before c.put_optional_name.new.out.items _ _ c.in_ok-put_optional_name-2.ensures.ok
    (before c.put_optional_name-2.new.out.items _ _ c.in_ok-put_byte-3.ensures
    (before c.put_byte-3.new.out.items _ _ c.in_ok-put_set.ensures.ok
    (before c.put_set.new.out.items _ _ c.in_ok-put_optional_name-3.ensures.ok
    (before c.put_optional_name-3.new.out.items _ _ (rw c.from.ensures at c.in_ok-put_number.ensures.ok)
    (before c.put_number.new.out.items _ _ (rw c.from-2.ensures at c.in_ok-put_number-2.ensures.ok)
    (before c.put_number-2.new.out.items _ _ c.in_ok-put_truth.ensures
    (before c.put_truth.new.out.items _ _ (rw c.queue_retain_code.ensures at c.in_ok-put_byte-4.ensures)
    (finish c.put_byte-4.new.out.items _ c.in_ok-put_list.ensures.ok)))))))))))))
