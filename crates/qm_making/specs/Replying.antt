-- What a change comes to that is made of an image.
use Rattle.std.specs.Prelude.{◌≡◌}
use Rattle.qm_model.specs.Common.{Act, Accepted, replied}
use Rattle.qm_image.specs.declared.image.Image.{Image}
use Rattle.qm_image.specs.Image.{system_of}

-- the image has the rows that are accepted, and this is replied, with no job started
abbrev pub IsMade : Accepted → Image → Act → Type 0
IsMade accepted image act = accepted ≡ replied (system_of image) act
