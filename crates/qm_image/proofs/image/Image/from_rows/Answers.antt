use Rattle.std.proofs.Common.{◌∙◌}
use Rattle.qm_image.specs.Image.{system_of}
use Rattle.qm_image.proofs.image.Image.from_rows.Goals as goal

pub returns-in-Ok : goal.returns-in-Ok
unfolding system_of
returns-in-Ok c =
    let may = c.of-may.ensures ∙ c.in_ok-from_slice.ensures.items ∙ c.as_slice.ensures in
    let files = c.in-Ok.ensures.files ∙ c.in_ok-spool.ensures.files ∙ c.as_slice-2.ensures in
    rw (may, files, c.next_number.ensures) c.in-Ok.ensures.tables
