use Rattle.qm_record.proofs.Loops.{before, finish}
use Rattle.qm_record.proofs.request.put_submit.Goals as goal

pub returns-clause-ok : goal.returns-clause-ok
returns-clause-ok c =
    (before c.args.out.now.items _ _ c.in_ok-put_name.ensures.ok
    (before c.put_name.new.out.items _ _ (rw c.job_kind_code.ensures at c.in_ok-put_byte.ensures)
    (before c.put_byte.new.out.items _ _ c.in_ok-put_name-2.ensures.ok
    (before c.put_name-2.new.out.items _ _ c.in_ok-put_file_name.ensures.ok
    (before c.put_file_name.new.out.items _ _ c.in_ok-put_name-3.ensures.ok
    (before c.put_name-3.new.out.items _ _ c.in_ok-put_byte-2.ensures
    (before c.put_byte-2.new.out.items _ _ c.in_ok-put_optional_moment.ensures.ok
    (before c.put_optional_moment.new.out.items _ _ c.in_ok-put_truth.ensures
    (before c.put_truth.new.out.items _ _ c.in_ok-put_job_retain.ensures.ok
    (before c.put_job_retain.new.out.items _ _ c.in_ok-put_truth-2.ensures
    (before c.put_truth-2.new.out.items _ _ c.in_ok-put_list.ensures.ok
    (before c.put_list.new.out.items _ _ c.in_ok-put_optional.ensures.ok
    (before c.put_optional.new.out.items _ _ c.in_ok-put_byte-3.ensures
    (finish c.put_byte-3.new.out.items _ c.in_ok-put_truth-3.ensures))))))))))))))
