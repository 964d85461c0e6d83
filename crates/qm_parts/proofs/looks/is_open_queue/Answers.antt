use Rattle.std.proofs.Common.{◌∙◌, ap}
use Rattle.qm_model.specs.Fitting.{is_open}
use Rattle.qm_parts.specs.Tables.{Tables, with_tables}
use Rattle.qm_parts.proofs.looks.is_open_queue.Goals as goal

pub returns : goal.returns
returns c s = c.is_open.ensures s ∙ ap (λ (t : Tables). is_open (with_tables s t) c.args.queue.now) c.parts.view_is
