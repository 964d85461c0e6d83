use Rattle.qm_record.proofs.Loops.{written_none, written_more, written_all}
use Rattle.qm_record.proofs.element.put_each.Goals as goal

pub loop-item-init : goal.loop-item-init
loop-item-init g c =
    written_none g.T.Element.fits g.T.Element.spelling c.args.out.now.items c.args.items.now

pub loop-item-preserved : goal.loop-item-preserved
loop-item-preserved g c =
    written_more g.T.Element.fits g.T.Element.spelling c.args.out.now.items c.loop-item.out.items c.put.new.out.items
    c.args.items.now c.loop-item.item-index _ c.loop-item-test.true c.item-item.is
    c.loop-item.invariant c.in_ok-put.ensures.ok c.in_ok-put.ensures.lawful

pub returns-clause-ok : goal.returns-clause-ok
returns-clause-ok g c =
    (written_all g.T.Element.fits g.T.Element.spelling c.args.out.now.items c.loop-item.out.items c.args.items.now
    c.loop-item-test.false c.loop-item.invariant).text

pub returns-clause-lawful : goal.returns-clause-lawful
returns-clause-lawful g c =
    (written_all g.T.Element.fits g.T.Element.spelling c.args.out.now.items c.loop-item.out.items c.args.items.now
    c.loop-item-test.false c.loop-item.invariant).all
