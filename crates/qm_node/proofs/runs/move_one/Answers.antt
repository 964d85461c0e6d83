use Rattle.std.specs.Prelude.{None, []}
use Rattle.std.proofs.lemmas.List.Elements.{All-push}
use Rattle.qm_node.specs.Rows.{IsSound}
use Rattle.qm_node.proofs.runs.move_one.Goals as goal

pub returns-in-Some-clause-moved : goal.returns-in-Some-clause-moved
returns-in-Some-clause-moved g c =
    rw c.push_reserved.ensures.items (All-push (IsSound g.Y.Symbiont.stands None []) c.args.rows.now.items c.in-Some.row c.requires.moved c.in-Some.ensures.sound)
