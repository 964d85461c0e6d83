-- Where a run of either kind stands in its work.
use Rattle.std.specs.Prelude.{◌≡◌, drop}
use Rattle.qm_kinds.specs.declared.entry.JobKind.TheVariants.{Batch, Print}
use Rattle.qm_model.specs.Common.{Work, Place, page_blocks}
use Rattle.qm_symb.specs.PagePlaces.{blocks_from}
use Rattle.qm_symb.specs.declared.print.cursor.Cursor as pages
use Rattle.qm_symb.specs.BatchCursors.{Stands}
use Rattle.qm_symb.specs.declared.batch.cursor.Cursor.{Cursor}
use Rattle.qm_symb.specs.declared.standard.StandardCursor.{StandardCursor}
use Rattle.qm_symb.specs.declared.standard.StandardCursor.TheVariants.{Pages, Lines}

-- a print job stands in front of the blocks that are left behind a place
pub record IsAtBlock (w : Work) (p : Place) (cursor : pages.Cursor) : Type 0 where
  pub kind : w.kind ≡ Print
  pub blocks : blocks_from w cursor ≡ drop p.at (page_blocks w)

-- a batch job stands in front of a line
pub record IsAtLine (w : Work) (p : Place) (cursor : Cursor) : Type 0 where
  pub kind : w.kind ≡ Batch
  pub line : Stands w p cursor

-- the cursor stands at a place of a work
abbrev pub StandsAt : Work → Place → StandardCursor → Type 0
StandsAt w p (Pages cursor) = IsAtBlock w p cursor
StandsAt w p (Lines cursor) = IsAtLine w p cursor
