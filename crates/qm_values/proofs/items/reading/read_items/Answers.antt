use Rattle.std.proofs.Common.{◌+◌, drop, Ok, refl, sym, subst}
use Rattle.qm_values.specs.ItemFaults.{GoesOn}
use Rattle.qm_values.specs.ItemHeads.{HeadAt, IsHead}
use Rattle.qm_values.specs.declared.items.reading.Head.{Head}
use Rattle.qm_values.proofs.ItemWalk.{item_passed, stands_there, list_goes_on, end_there}
use Rattle.qm_values.proofs.items.reading.read_items.Goals as goal

pub items-preserved : goal.items-preserved
items-preserved c =
    let rest = drop c.items.place c.args.bytes.now in
    let head = subst (λ (h : Head). HeadAt (drop c.items.place c.args.bytes.now) c.items.place (Ok h)) c.in-Item.is c.in_ok-code.ensures in
    let counted = subst (IsHead (drop c.items.place c.args.bytes.now) c.in-Item.code) (sym c.from-count.ensures) head in
    item_passed c.args.bytes.now c.items.items.items c.push.new.self.items c.items.place (c.items.place + (4 + c.from-count.result)) c.in-Item.code c.from-count.result c.in_ok-item_at.field-0
    c.items.invariant counted c.in_ok-item_at.ensures.code c.in_ok-item_at.ensures.value c.in_ok-push.ensures.items refl

pub returns-then-end-bytes-clause-fault : goal.returns-then-end-bytes-clause-fault
returns-then-end-bytes-clause-fault c =
    let end = end_there (drop c.items.place c.args.bytes.now) c.items.place c.in_ok-code.field-0 c.in_ok-code.ensures c.in_default.not-Item in
    (c.items.place, refl, stands_there c.args.bytes.now c.items.items.items c.items.place GoesOn c.items.invariant (list_goes_on c.args.bytes.now c.items.place end.0 end.1 c.if-end-bytes.true))
