use Rattle.qm_record.proofs.Loops.{before, finish}
use Rattle.qm_record.proofs.file_request.put_append.Goals as goal

pub returns-clause-ok : goal.returns-clause-ok
returns-clause-ok c =
    (before c.args.out.now.items _ _ c.in_ok-put_file_name.ensures.ok
    (finish c.put_file_name.new.out.items _ c.in_ok-put_long_bytes.ensures.ok))
