use Rattle.std.proofs.Common.{◌≡◌, ◌∙◌, false, length, arith, sym, []}
use Rattle.std.proofs.lemmas.List.Elements.{at_read}
use Rattle.std.proofs.lemmas.List.Sums.{prefix_len_is}
use Rattle.qm_history.specs.Common.{Head, Record, row, is_row}
use Rattle.qm_world.proofs.beginning.count_rows.Goals as goal

abbrev any : Record
any = row (Head [] [] 0 0 0)

pub returns-then-not-is_row : goal.returns-then-not-is_row
returns-then-not-is_row c =
    sym
    (prefix_len_is (λ (r : Record). is_row r.body) c.args.log.now c.loop-place.place any (omega arith) (λ k below. c.loop-place.invariant k any below)
    (λ within. at_read c.args.log.now (λ (r : Record). is_row r.body ≡ false) c.loop-place.place c.index-log-place.result within c.index-log-place.is (sym (c.is_row.ensures) ∙ c.if-not-is_row.true) any))

pub returns : goal.returns
returns c =
    sym
    (prefix_len_is (λ (r : Record). is_row r.body) c.args.log.now (length c.args.log.now) any (omega arith) (λ k below. c.loop-place.invariant k any (omega (arith, below)))
    (λ within. absurd (omega (arith, within))))
