-- The bytes of a list of items.
-- OpenVMS System Services Reference Manual, $SNDJBC and $GETQUI, on item lists. This site's own: that an item has its value
-- behind it, in place of its address.
use Rattle.std.specs.Prelude.{◌≡◌, ◌≢◌, ℕ, ◌^◌, ◌<◌, List, [], ◌∷◌, ◌++◌, length}
use Rattle.std.specs.Int.{w16, to_le_bytes}
use Rattle.qm_values.specs.declared.items.item.Item.{Item}

-- an item: the length of its value and its code, of two bytes each, the lower one first, and the value
unfoldable pub item_text : Item → List ℕ
item_text item = to_le_bytes w16 (length item.value) ++ (to_le_bytes w16 item.code ++ item.value)

-- items one behind another
abbrev pub text : List Item → List ℕ
text [] = []
text (item ∷ items) = item_text item ++ text items

-- four bytes 0 end a list
abbrev pub list_end : List ℕ
list_end = 0 ∷ 0 ∷ 0 ∷ 0 ∷ []

-- a list: its items, and its end
abbrev pub list_text : List Item → List ℕ
list_text items = text items ++ list_end

-- An item can stand in a list: its length and its code have two bytes, and it isn't the end of a list, which is what an item
-- without a code and a value would be.
pub record CanStand (item : Item) : Type 0 where
  pub short : length item.value < 2 ^ 16
  pub code : item.code < 2 ^ 16
  pub no_end : length item.value ≡ 0 → item.code ≢ 0
