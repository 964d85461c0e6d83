use Rattle.std.proofs.Common.{◌∙◌, ap, sym, is_some, option_copied}
use Rattle.qm_model.specs.Find.{file_named}
use Rattle.qm_image.proofs.Accepting.{is_there}
use Rattle.qm_image.proofs.image.Image.has_file.Goals as goal

pub returns-in-None : goal.returns-in-None
returns-in-None c =
    ap is_some (ap option_copied (sym c.in-None.is) ∙ c.bytes.ensures.found) ∙ is_there (file_named c.args.name.now c.args.self.now.spool.files)

pub returns-in-Some : goal.returns-in-Some
returns-in-Some c =
    ap is_some (ap option_copied (sym c.in-Some.is) ∙ c.bytes.ensures.found) ∙ is_there (file_named c.args.name.now c.args.self.now.spool.files)
