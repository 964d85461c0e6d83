use Rattle.std.proofs.Common.{◌∙◌, Option, Some, refl, sym, ap, subst, IsSome, option_map}
use Rattle.qm_model.specs.Common.{Entry, Row}
use Rattle.qm_kinds.specs.declared.query.Row.TheVariants as row
use Rattle.qm_scan.specs.Listed.{is_behind, is_entry_listed}
use Rattle.qm_scan.proofs.Found.{find_row}
use Rattle.qm_scan.proofs.Put.{anyway}
use Rattle.qm_scan.proofs.next.next_entry_row.Goals as goal

pub returns-in-None-clause-row : goal.returns-in-None-clause-row
returns-in-None-clause-row c = ap (option_map (λ (x : Entry). row.Entry x)) c.in-None.ensures ∙ sym (find_row (λ (x : Entry). row.Entry x) (is_behind c.args.query.now.after) (is_entry_listed c.args.query.now c.args.queue.now) c.args.parts.now.entries)

pub returns-in_ok-of-in-Some-clause-row : goal.returns-in_ok-of-in-Some-clause-row
returns-in_ok-of-in-Some-clause-row c =
    ap (λ (e : Entry). Some (row.Entry e)) c.in_ok-of-in-Some.ensures
    ∙ ap (option_map (λ (x : Entry). row.Entry x)) c.in-Some.ensures
    ∙ sym (find_row (λ (x : Entry). row.Entry x) (is_behind c.args.query.now.after) (is_entry_listed c.args.query.now c.args.queue.now) c.args.parts.now.entries)

pub returns-in_err-of-in-Some-clause-no_memory : goal.returns-in_err-of-in-Some-clause-no_memory
returns-in_err-of-in-Some-clause-no_memory c =
    anyway c.from_residual.result
    (subst (λ (one : Option Row). IsSome one)
    (ap (option_map (λ (x : Entry). row.Entry x)) c.in-Some.ensures
    ∙ sym (find_row (λ (x : Entry). row.Entry x) (is_behind c.args.query.now.after) (is_entry_listed c.args.query.now c.args.queue.now) c.args.parts.now.entries))
    refl)
