use Rattle.qm_model.proofs.FitLemmas.{fits_is}
use Rattle.qm_model.proofs.order.fits_without_a_reason.Goals as goal

pub returns : goal.returns
returns c = fits_is
