-- What an image says of a system.
use Rattle.qm_kinds.specs.declared.system.System.{System}
use Rattle.qm_image.specs.declared.image.Image.{Image}

-- the rows of the image
unfoldable pub system_of : Image → System
system_of image = record {
  nodes = image.parts.nodes;
  may = image.may;
  forms = image.parts.forms;
  characteristics = image.parts.characteristics;
  files = image.spool.files;
  queues = image.parts.queues;
  entries = image.parts.entries;
  next_entry = image.next_entry;
  next_run = image.parts.next_run;
  last = image.last;
}
