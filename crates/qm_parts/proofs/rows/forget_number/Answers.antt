use Rattle.std.proofs.Common.{ℕ, ap, sym, subst, ◌∙◌}
use Rattle.qm_model.specs.Find.{entry_numbered}
use Rattle.qm_parts.specs.Ready.{AreReadyBut}
use Rattle.qm_parts.proofs.ReadyKeys.{number_found}
use Rattle.qm_parts.proofs.ReadyRows.{absent_but}
use Rattle.qm_parts.proofs.rows.forget_number.Goals as goal

pub forget_pending-requires-clause-there : goal.forget_pending-requires-clause-there
forget_pending-requires-clause-there c =
    let found = sym c.in-Some.ensures.found in
    ap (λ (n : ℕ). entry_numbered n c.args.tables.now.entries) (number_found c.args.number c.in-Some.entry.now c.args.tables.now.entries found) ∙ found

pub returns-in-Some-clause-ready : goal.returns-in-Some-clause-ready
returns-in-Some-clause-ready c =
    let number = number_found c.args.number c.in-Some.entry.now c.args.tables.now.entries (sym c.in-Some.ensures.found) in
    subst (λ (n : ℕ). AreReadyBut n c.args.tables.now c.forget_pending.new.rows.items) number c.forget_pending.ensures.ready

pub returns-in_default-clause-ready : goal.returns-in_default-clause-ready
returns-in_default-clause-ready c = absent_but c.args.tables.now c.args.rows.now.items c.args.number (sym c.in_default.ensures.found) c.requires.ready
