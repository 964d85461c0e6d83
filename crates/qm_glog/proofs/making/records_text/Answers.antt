use Rattle.std.proofs.Common.{sym, ◌∙◌, ap, ◌++◌, ◌∷◌, List, ℕ, length, arith}
use Rattle.qm_glog.specs.Records.{behind_gate}
use Rattle.qm_glog.proofs.Made.{row_within, text_more}
use Rattle.qm_glog.proofs.making.records_text.Goals as goal

pub add_record-requires : goal.add_record-requires
add_record-requires c =
    let within = row_within c.args.rows.now c.loop-row.row-index c.row-item.result (omega arith) (sym c.row-item.is) in
    omega (arith, within, ap (λ (l : List ℕ). length l) c.deref.ensures.value, c.requires)

pub loop-row-preserved : goal.loop-row-preserved
loop-row-preserved c =
    let so_far = c.loop-row.invariant in
    let same = c.deref.ensures.value in
    c.in_ok-add_record.ensures ∙ (λ k. so_far k ++ 1 ∷ behind_gate (same k))
    ∙ sym (text_more c.args.rows.now c.loop-row.row-index c.row-item.result (omega arith) (sym c.row-item.is))
