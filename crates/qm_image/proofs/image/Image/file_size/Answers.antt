use Rattle.std.proofs.Common.{◌∙◌, ap, sym, option_copied}
use Rattle.qm_image.proofs.Accepting.{bytes_fit}
use Rattle.qm_image.proofs.image.Image.file_size.Goals as goal

pub returns-in-Some-clause-small : goal.returns-in-Some-clause-small
returns-in-Some-clause-small c =
    bytes_fit c.args.name.now c.args.self.now.spool.files c.in-Some.bytes.now c.bytes.ensures.files (ap option_copied (sym c.in-Some.is) ∙ c.bytes.ensures.found)
