-- How a row is printed for a call that asks for rows one by one.
-- OpenVMS System Services Reference Manual, $GETQUI, on output items. This site's own: that they are printed in hexadecimal.
use Rattle.std.specs.Prelude.{ℕ, List}
use Rattle.hex.specs.Hex.{encode_lower}
use Rattle.qm_kinds.specs.declared.query.Row.{Row}
use Rattle.qm_values.specs.ItemText.{list_text}
use Rattle.qm_sjc.specs.Rows.{items_of}

-- the list of a row's items, two digits a byte, with small letters
abbrev pub items_line : Row → List ℕ
items_line r = encode_lower (list_text (items_of r))
