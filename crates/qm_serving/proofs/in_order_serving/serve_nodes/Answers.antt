use Rattle.qm_script.specs.ClusterLines.{user_lines_view}
use Rattle.qm_serving.proofs.Script.{none_serves}
use Rattle.qm_serving.proofs.in_order_serving.serve_nodes.Goals as goal

pub returns-in-Err-clause-serves : goal.returns-in-Err-clause-serves
returns-in-Err-clause-serves g c = λ disk opened.
    none_serves g.D.Disk.meaning g.Y.Symbiont.meaning c.calls_are_noted.ensures.stands c.calls_are_noted.ensures.serves disk c.args.manager.now opened
    (user_lines_view c.args.lines.now) _ _
