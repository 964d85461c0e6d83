use Rattle.std.proofs.Common.{◌≡◌, ℕ, ap, sym, subst, ◌∙◌, IfSome}
use Rattle.qm_model.specs.Find.{entry_numbered}
use Rattle.qm_parts.specs.Ready.{AreStale}
use Rattle.qm_parts.proofs.ReadyKeys.{number_found}
use Rattle.qm_parts.proofs.Renewed.{none_stale}
use Rattle.qm_parts.proofs.renewing.renew_number.Goals as goal

pub renew-requires-clause-stale : goal.renew-requires-clause-stale
renew-requires-clause-stale c =
    let number = number_found c.args.number c.in-Some.entry.now c.args.tables.now.entries (sym c.in-Some.ensures.found) in
    subst (λ (n : ℕ). AreStale n c.args.old.now c.args.tables.now c.args.rows.now.items) (sym number) c.requires.stale

pub renew-requires-clause-number : goal.renew-requires-clause-number
renew-requires-clause-number c =
    let number = number_found c.args.number c.in-Some.entry.now c.args.tables.now.entries (sym c.in-Some.ensures.found) in
    subst (λ (n : ℕ). IfSome c.args.old.now (λ k. k.number ≡ n)) (sym number) c.requires.number

pub renew-requires-clause-there : goal.renew-requires-clause-there
renew-requires-clause-there c =
    let found = sym c.in-Some.ensures.found in
    ap (λ (n : ℕ). entry_numbered n c.args.tables.now.entries) (number_found c.args.number c.in-Some.entry.now c.args.tables.now.entries found) ∙ found

pub returns-in_default-clause-ready : goal.returns-in_default-clause-ready
returns-in_default-clause-ready c =
    let absent = sym c.in_default.ensures.found in
    none_stale c.args.tables.now c.args.rows.now.items c.args.number c.args.old.now (c.requires.none absent) absent c.requires.stale
