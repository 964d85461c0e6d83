use Rattle.qm_record.proofs.Loops.{before, finish}
use Rattle.qm_record.proofs.entry_request.put_entry_change.Goals as goal

pub returns-clause-ok : goal.returns-clause-ok
returns-clause-ok c =
    (before c.args.out.now.items _ _ c.in_ok-put_truth.ensures
    (before c.put_truth.new.out.items _ _ c.in_ok-put_truth-2.ensures
    (before c.put_truth-2.new.out.items _ _ c.in_ok-put_optional.ensures.ok
    (before c.put_optional.new.out.items _ _ c.in_ok-put_optional-2.ensures.ok
    (before c.put_optional-2.new.out.items _ _ c.in_ok-put_optional-3.ensures.ok
    (before c.put_optional-3.new.out.items _ _ c.in_ok-put_optional_list.ensures.ok
    (before c.put_optional_list.new.out.items _ _ c.in_ok-put_optional-4.ensures.ok
    (before c.put_optional-4.new.out.items _ _ c.in_ok-put_optional-5.ensures.ok
    (before c.put_optional-5.new.out.items _ _ c.in_ok-put_optional-6.ensures.ok
    (finish c.put_optional-6.new.out.items _ c.in_ok-put_optional-7.ensures.ok))))))))))
