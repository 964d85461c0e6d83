use Rattle.qm_record.proofs.Loops.{before}
use Rattle.qm_record.proofs.writing.put_body.Goals as goal

pub returns-in_ok-put_head-in-Head-clause-ok : goal.returns-in_ok-put_head-in-Head-clause-ok
returns-in_ok-put_head-in-Head-clause-ok c =
    rw c.in-Head.is (before c.args.out.now.items _ _ c.in_ok-put_front-in-Head.ensures.ok c.in_ok-put_head-in-Head.ensures.ok)

pub returns-in_ok-put_form-in-Form-clause-ok : goal.returns-in_ok-put_form-in-Form-clause-ok
returns-in_ok-put_form-in-Form-clause-ok c =
    rw c.in-Form.is (before c.args.out.now.items _ _ c.in_ok-put_front-in-Form.ensures.ok c.in_ok-put_form-in-Form.ensures.ok)

pub returns-in_ok-put_queue-in-Queue-clause-ok : goal.returns-in_ok-put_queue-in-Queue-clause-ok
returns-in_ok-put_queue-in-Queue-clause-ok c =
    rw c.in-Queue.is (before c.args.out.now.items _ _ c.in_ok-put_front-in-Queue.ensures.ok c.in_ok-put_queue-in-Queue.ensures.ok)
