use Rattle.qm_record.proofs.Loops.{before, finish}
use Rattle.qm_record.proofs.node_request.put_took.Goals as goal

pub returns-clause-ok : goal.returns-clause-ok
returns-clause-ok c =
    (before c.args.out.now.items _ _ c.in_ok-put_number.ensures.ok
    (before c.put_number.new.out.items _ _ c.in_ok-put_list.ensures.ok
    (before c.put_list.new.out.items _ _ c.in_ok-put_list-2.ensures.ok
    (finish c.put_list-2.new.out.items _ c.in_ok-put_list-3.ensures.ok))))
