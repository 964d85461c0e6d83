use Rattle.qm_store.specs.Database.{open_record}
use Rattle.qm_store.specs.Recorded.{with_body}
use Rattle.qm_store.proofs.Moving.{nothing_moves}
use Rattle.qm_store.proofs.Opening.{queue_left}
use Rattle.qm_store.proofs.opened.Open.append.Goals as goal

pub returns-then-epoch-current-clause-any_moment : goal.returns-then-epoch-current-clause-any_moment
returns-then-epoch-current-clause-any_moment g c = λ told.
    let old = c.args.self.now in
    nothing_moves g.D.Disk.meaning (open_record old) (with_body (open_record old) c.args.body.now) old.files.says.live old.disk (g.met.D.Disk.only_now old.disk) (c.requires.at_rest told)

pub append-requires-clause-left : goal.append-requires-clause-left
append-requires-clause-left g c = λ told. queue_left g.D.Disk.meaning c.args.self.now.files c.args.self.now.disk (c.requires.at_rest told)
