use Rattle.std.proofs.Common.{sym, ◌∙◌}
use Rattle.qm_parts.proofs.ReadyRows.{idle_but}
use Rattle.qm_parts.proofs.rows.forget_pending.Goals as goal

pub returns-else-is_pending-clause-ready : goal.returns-else-is_pending-clause-ready
returns-else-is_pending-clause-ready c =
    idle_but c.args.tables.now c.args.rows.now.items c.args.entry.now.number c.args.entry.now c.requires.there (sym c.is_pending.ensures ∙ c.if-is_pending.false) c.requires.ready
