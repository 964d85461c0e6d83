use Rattle.std.proofs.Common.{◌≡◌, ◌∙◌, ℕ, List, sym, subst}
use Rattle.qm_image.specs.Image.{system_of}
use Rattle.qm_restore.specs.Restoring.{Leaves, IsRefused}
use Rattle.qm_restore.proofs.Beginning.{same_some}
use Rattle.qm_restore.proofs.Going.{on_ok, if_err, record_leaves, record_is_refused}
use Rattle.qm_restore.proofs.restoring.restore_record.Goals as goal

pub returns-clause-leaves : goal.returns-clause-leaves
returns-clause-leaves g c =
    on_ok c.replay_read-done.result
    (λ leaves body there.
    let same : c.body.result.now ≡ body = same_some c.body.result.now body (sym c.body.ensures ∙ there) in
    subst (λ (b : List ℕ). Leaves b (system_of c.args.image.now) (system_of c.replay_read-done.new.image)) same
    (record_leaves c.read_record-read.result c.body.result.now (system_of c.args.image.now) (system_of c.replay_read-done.new.image) c.read_record-read.ensures.found c.read_record-read.ensures.only leaves))
    c.replay_read-done.ensures.leaves

pub returns-clause-refused : goal.returns-clause-refused
returns-clause-refused g c =
    if_err c.replay_read-done.result
    (λ fault refused body there.
    let same : c.body.result.now ≡ body = same_some c.body.result.now body (sym c.body.ensures ∙ there) in
    subst (λ (b : List ℕ). IsRefused c.args.index b (system_of c.args.image.now) fault) same
    (record_is_refused c.args.index c.read_record-read.result c.body.result.now (system_of c.args.image.now) fault c.read_record-read.ensures.found c.read_record-read.ensures.only c.read_record-read.ensures.no_memory refused))
    c.replay_read-done.ensures.refused
