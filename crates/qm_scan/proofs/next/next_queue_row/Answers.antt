use Rattle.std.proofs.Common.{◌∙◌, Option, Some, refl, sym, ap, subst, IsSome, option_map}
use Rattle.qm_model.specs.Common.{Row, Queue}
use Rattle.qm_kinds.specs.declared.query.Row.TheVariants as row
use Rattle.qm_scan.specs.Listed.{is_behind, is_queue_listed}
use Rattle.qm_scan.proofs.Found.{find_row}
use Rattle.qm_scan.proofs.Put.{anyway}
use Rattle.qm_scan.proofs.next.next_queue_row.Goals as goal

pub returns-in-None-clause-row : goal.returns-in-None-clause-row
returns-in-None-clause-row c = ap (option_map (λ (x : Queue). row.Queue x)) c.in-None.ensures ∙ sym (find_row (λ (x : Queue). row.Queue x) (is_behind c.args.query.now.after) (is_queue_listed c.args.query.now) c.args.queues.now)

pub returns-in_ok-copy_of-in-Some-clause-row : goal.returns-in_ok-copy_of-in-Some-clause-row
returns-in_ok-copy_of-in-Some-clause-row c =
    ap (λ (q : Queue). Some (row.Queue q)) c.in_ok-copy_of-in-Some.ensures
    ∙ ap (option_map (λ (x : Queue). row.Queue x)) c.in-Some.ensures
    ∙ sym (find_row (λ (x : Queue). row.Queue x) (is_behind c.args.query.now.after) (is_queue_listed c.args.query.now) c.args.queues.now)

pub returns-in_err-copy_of-in-Some-clause-no_memory : goal.returns-in_err-copy_of-in-Some-clause-no_memory
returns-in_err-copy_of-in-Some-clause-no_memory c =
    anyway c.from_residual.result
    (subst (λ (one : Option Row). IsSome one)
    (ap (option_map (λ (x : Queue). row.Queue x)) c.in-Some.ensures
    ∙ sym (find_row (λ (x : Queue). row.Queue x) (is_behind c.args.query.now.after) (is_queue_listed c.args.query.now) c.args.queues.now))
    refl)
