use Rattle.qm_commands.specs.Rules.{exclusions_of}
use Rattle.qm_names.specs.Conflicts.{first_conflict}
use Rattle.qm_names.proofs.ConflictPlaces.{with_pair, behind_all}
use Rattle.qm_names.proofs.conflict.first_of.Goals as goal

pub loop-rest-preserved : goal.loop-rest-preserved
loop-rest-preserved c =
    with_pair c.args.text.now c.args.verb c.args.row c.args.tokens.now c.loop-rest.rest.now _ c.loop-rest.place c.conflict_of.result c.earlier-place.result
    (first_conflict c.args.text.now c.args.verb c.args.row c.args.tokens.now (exclusions_of c.args.verb)) c.in-len1-up.len_at_least c.conflict_of.ensures c.earlier-place.ensures c.loop-rest.invariant

pub returns : goal.returns
returns c =
    behind_all c.args.text.now c.args.verb c.args.row c.args.tokens.now c.loop-rest.rest.now c.loop-rest.place (first_conflict c.args.text.now c.args.verb c.args.row c.args.tokens.now (exclusions_of c.args.verb))
    c.in_default.len_below c.loop-rest.invariant
