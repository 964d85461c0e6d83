use Rattle.std.proofs.Common.{◌∙◌, sym, subst}
use Rattle.qm_model.specs.Consistent.{IsConsistent}
use Rattle.qm_restore.proofs.Beginning.{if_ok}
use Rattle.qm_restore.proofs.restoring.new_image.Goals as goal

pub from_rows-requires : goal.from_rows-requires
from_rows-requires c = subst IsConsistent (sym c.in_ok-system.ensures) (c.new_sites_are_consistent.ensures.consistent c.args.nodes.now c.requires)

pub returns-clause-is : goal.returns-clause-is
returns-clause-is c = if_ok c.from_rows.result (λ image is. is ∙ c.in_ok-system.ensures) c.from_rows.ensures

pub returns-clause-sound : goal.returns-clause-sound
returns-clause-sound c =
    let consistent = c.new_sites_are_consistent.ensures.consistent c.args.nodes.now c.requires in
    if_ok c.from_rows.result (λ image is. subst IsConsistent (sym (is ∙ c.in_ok-system.ensures)) consistent) c.from_rows.ensures
