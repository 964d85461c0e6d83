use Rattle.std.proofs.Common.{◌∙◌}
use Rattle.qm_model.specs.Log.{request_record}
use Rattle.qm_world.proofs.copying.spell.Goals as goal

pub returns-in-Ok : goal.returns-in-Ok
returns-in-Ok c =
    let spelled = c.in_ok-text.ensures in
    (c.in-Ok.ensures.only (request_record c.args.moment c.args.node c.args.request.now) spelled.fits (c.deref.ensures.value ∙ spelled.is), spelled.fits)
