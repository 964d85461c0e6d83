-- The items of a list have fewer bytes than the list.
use Rattle.std.proofs.Common.{◌≡◌, ℕ, ◌+◌, ◌^◌, ◌<◌, List, ◌++◌, length, arith, ap, length-append}
use Rattle.qm_values.specs.declared.items.item.Item.{Item}
use Rattle.qm_values.specs.ItemText.{text, list_end, list_text}

pub items_are_short : (bytes : List ℕ) (items : List Item) → bytes ≡ list_text items → length bytes < 2 ^ 64 → length (text items) < 2 ^ 64
items_are_short bytes items is few = omega (arith, few, ap (λ (l : List ℕ). length l) is, length-append (text items) list_end)
