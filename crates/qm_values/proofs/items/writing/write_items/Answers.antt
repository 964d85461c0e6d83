use Rattle.std.proofs.Common.{sym, ◌∙◌, ◌++◌, arith}
use Rattle.qm_values.specs.ItemText.{item_text}
use Rattle.qm_values.proofs.ItemTexts.{text_more}
use Rattle.qm_values.proofs.items.writing.write_items.Goals as goal

pub loop-item-preserved : goal.loop-item-preserved
loop-item-preserved c =
    let so_far = c.loop-item.invariant in
    c.in_ok-put_item.ensures ∙ (λ k. so_far k ++ item_text c.item-item.result)
    ∙ sym (text_more c.args.items.now c.loop-item.item-index c.item-item.result (omega arith) (sym c.item-item.is))
