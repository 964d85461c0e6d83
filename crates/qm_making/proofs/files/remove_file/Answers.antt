use Rattle.qm_tables.proofs.SpoolCounting.{unnamed_at_0}
use Rattle.qm_making.proofs.files.remove_file.Goals as goal

pub remove-requires-clause-unnamed : goal.remove-requires-clause-unnamed
remove-requires-clause-unnamed c = unnamed_at_0 c.args.name.now c.args.image.now.spool.counts c.args.image.now.parts.entries c.args.image.now.counted c.requires.unnamed
