use Rattle.std.proofs.Common.{◌∙◌, ◌+◌, sym, subst}
use Rattle.qm_history.specs.Takeover.{nodes_on}
use Rattle.qm_acting.specs.Standing.{standing_of}
use Rattle.qm_chest.specs.Taking.{LeavesFrom}
use Rattle.qm_chest.proofs.Begun.{held_up, refused_up, taken_up_serves, taking_up, unnamed_leaves}
use Rattle.qm_chest.proofs.Lists.{named_read}
use Rattle.qm_chest.proofs.members.Members.taken_from.Goals as goal

pub taken_up-requires-clause-early : goal.taken_up-requires-clause-early
taken_up-requires-clause-early g c = λ tells. held_up g.D.Disk.meaning c.args.self.now c.args.manager c.args.at c.close.result c.close.ensures (c.requires.stands tells)

pub returns-then-is_named-clause-serves : goal.returns-then-is_named-clause-serves
returns-then-is_named-clause-serves g c = λ tells cap w asked state early asks.
    let named = sym (named_read (standing_of c.args.manager).system c.nodes.result.now c.may.result.now (nodes_on c.args.input) c.args.node c.nodes.ensures c.may.ensures) ∙ sym c.is_named.ensures ∙ c.if-is_named.true in
    taken_up_serves g.D.Disk.meaning cap w asked c.args.self.now c.args.manager c.args.at c.args.node c.args.now c.args.input c.close.result _ c.taken_up.result c.close.ensures state
    (taking_up c.site_files_are_accepted.ensures g.D.Disk.meaning g.met.D.Disk.only_now cap w asked c.args.self.now c.args.manager c.args.at c.args.node c.args.now c.args.input state early asks c.requires.there c.requires.can named)
    tells c.taken_up.ensures.serves

pub returns-clause-serves : goal.returns-clause-serves
returns-clause-serves g c = λ tells cap w asked state early asks.
    let named = sym (named_read (standing_of c.args.manager).system c.nodes.result.now c.may.result.now (nodes_on c.args.input) c.args.node c.nodes.ensures c.may.ensures) ∙ sym c.is_named.ensures ∙ c.if-is_named.false in
    refused_up c.site_files_are_accepted.ensures g.D.Disk.meaning g.met.D.Disk.only_now cap w asked c.args.self.now c.args.manager c.args.at c.args.node c.args.now c.args.input state early asks c.requires.there c.requires.can
    c.name.result c.name.ensures named

pub returns-then-is_named-clause-leaves : goal.returns-then-is_named-clause-leaves
returns-then-is_named-clause-leaves g c =
    subst (λ (d : _). LeavesFrom g.D.Disk.meaning c.args.self.now d (c.args.self.now.greatest + 1) c.taken_up.new.self c.taken_up.result) c.close.ensures c.taken_up.ensures.leaves

pub returns-clause-leaves : goal.returns-clause-leaves
returns-clause-leaves g c = unnamed_leaves g.D.Disk.meaning c.args.self.now c.args.manager c.args.at c.args.node c.name.result c.requires.work
