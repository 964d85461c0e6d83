use Rattle.std.proofs.Common.{◌∙◌, sym}
use Rattle.qm_history.specs.Takeover.{nodes_on}
use Rattle.qm_acting.specs.Standing.{restored_standing}
use Rattle.qm_chest.proofs.Lists.{named_read}
use Rattle.qm_chest.proofs.members.Members.take.Goals as goal

pub recorded-requires-clause-named : goal.recorded-requires-clause-named
recorded-requires-clause-named g c =
    sym (named_read (restored_standing c.args.restored).system c.nodes.result.now c.may.result.now (nodes_on c.args.input.now) c.args.node c.nodes.ensures c.may.ensures) ∙ sym c.is_named.ensures ∙ c.if-is_named.true

pub returns-else-is_named-clause-takes : goal.returns-else-is_named-clause-takes
returns-else-is_named-clause-takes g c =
    c.unnamed.ensures.serves c.args.now c.args.input.now c.requires.asks
    (sym (named_read (restored_standing c.args.restored).system c.nodes.result.now c.may.result.now (nodes_on c.args.input.now) c.args.node c.nodes.ensures c.may.ensures) ∙ sym c.is_named.ensures ∙ c.if-is_named.false)
