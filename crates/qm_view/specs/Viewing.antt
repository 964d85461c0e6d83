-- Rows that are asked for one by one.
use Rattle.std.specs.Prelude.{Option}
use Rattle.qm_model.specs.Common.{Query, Row, System}
use Rattle.qm_model.specs.Rows.{next_row, single_rows}

-- the row of the listing behind the last one, if there is one
abbrev pub row_asked : System → Query → Option Row
row_asked s query = next_row query.after (single_rows s query query.listing)
