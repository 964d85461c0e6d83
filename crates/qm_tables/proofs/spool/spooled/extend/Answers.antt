use Rattle.std.proofs.Common.{◌<◌, length, refl, arith}
use Rattle.qm_tables.specs.SpoolRows.{IsExtended}
use Rattle.qm_tables.proofs.Replacing.{replaced}
use Rattle.qm_tables.proofs.spool.spooled.extend.Goals as goal

pub returns-clause-extended : goal.returns-clause-extended
returns-clause-extended c =
    let within : c.args.place < length c.args.files.now.items = omega (arith, c.requires.within, c.args.files.now.ok) in
    replaced (IsExtended c.args.more.now) c.args.files.now.items c.args.place c.index_mut-file.result.now _ within c.index_mut-file.ensures.value
    (record { name = refl; bytes = c.in-Ok.ensures.items; named = refl })
