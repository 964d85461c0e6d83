use Rattle.std.proofs.Common.{◌≡◌, rules}
use Rattle.qm_restore.specs.Site.{new_rows}
use Rattle.qm_restore.proofs.FirstRows.{rows_lawful}
use Rattle.qm_restore.proofs.site.new_rows.Goals as goal

pub returns-clause-can_be_written : goal.returns-clause-can_be_written
returns-clause-can_be_written c =
    let rows : c.in_ok-vec.field-0.items ≡ new_rows c.args.nodes.now = search rules in
    rows_lawful c.in_ok-vec.field-0.items c.args.nodes.now c.requires.few rows
