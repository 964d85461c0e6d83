use Rattle.std.proofs.Common.{List, get_or, subst, sym}
use Rattle.qm_parts.specs.Ready.{IsRowOf, ready_key}
use Rattle.qm_ready.specs.Rows.{Row}
use Rattle.qm_parts.proofs.parts.Parts.row_at.Goals as goal

pub returns : goal.returns
returns c q =
    let t = c.self.inside.tables in
    let rows : List Row = c.self.inside.rows.items in
    rw (← c.self.view_is)
    (subst (IsRowOf (get_or t.queues c.args.place q) (ready_key t (get_or t.queues c.args.place q))) (sym c.index.ensures)
    (c.self.invariant.ready c.args.place q c.index.result.now (rw (← c.self.view_is) at c.requires)))
